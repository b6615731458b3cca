-- Other crates may cite this: a device that has no own route decides among what came in from its
-- neighbours alone, or from those that sent something, by ranks that stand beside the choices.
use Rattle.std.proofs.Common.{◌≡◌, Bool, true, false, cond, List, [], ◌∷◌, Option, Some, None, option_map, refl, sym, ap, ◌∙◌}
use Rattle.std.specs.List.{filter, fold}
use Rattle.std.proofs.lemmas.List.Folds.{fold_stays}
use Rattle.cn_base.specs.Cidr.{Cidr}
use Rattle.cn_base.specs.declared.ids.DeviceId.{DeviceId}
use Rattle.cn_base.specs.declared.ids.Origin.{Origin}
use Rattle.cn_base.specs.declared.rank.Rank.{Rank}
use Rattle.cn_base.specs.declared.route.Choice.{Choice}
use Rattle.cn_base.specs.declared.route.Route.{Route}
use Rattle.cn_decide.specs.Decide.{better, outranks_by, with_rank}
use Rattle.cn_decide.specs.declared.Ranked.{Ranked}
use Rattle.cn_decide.proofs.Steps.{better_by_none, fold-with_rank}
use Rattle.cn_net.specs.Candidates.{best_of, better_of, choice_from, outranks, own_choice, rank_of, usable}
use Rattle.cn_net.specs.Exchange.{accept}
use Rattle.cn_net.specs.Network.{Network, device_ids, is_linked, own_origin, peers_of}

-- nothing can be used of nothing
pub usable-none : (net : Network) (d a : DeviceId) → usable net d a None ≡ None
unfolding usable
usable-none net d a = refl

-- what changes nothing may be left out
fold_filter : {A B : Type 0} (f : B → A → B) (t : A → Bool)
    → ((x : B) (a : A) → t a ≡ false → f x a ≡ x) → (x : B) (items : List A)
    → fold f x (filter t items) ≡ fold f x items
fold_filter f t skip x [] = refl
fold_filter f t skip x (a ∷ more) =
    elim (t a) as
    (λ b. t a ≡ b → fold f x (cond b (a ∷ filter t more) (filter t more)) ≡ fold f (f x a) more) [
      | true ↦ λ e. fold_filter f t skip (f x a) more
      | false ↦ λ e. fold_filter f t skip x more ∙ ap (λ z. fold f z more) (sym (skip x a e))
    ] refl

item-with_rank : {A : Type 0} (rank : A → Rank) (x : Option A)
    → option_map (λ (r : Ranked A). r.item) (option_map (with_rank rank) x) ≡ x
item-with_rank rank None = refl
item-with_rank rank (Some x) = refl

-- the device's own route with this ORIGIN
abbrev own_with : Origin → Choice
own_with o = record { from = None; path = []; origin = o }

own_first : (net : Network) (a : DeviceId) (r : Route) (o : Origin)
    → outranks net (choice_from a r) (own_with o) ≡ false
unfolding outranks_by
own_first net a r o = refl

own_stays : (net : Network) (d a : DeviceId) (came : Option Route) (o : Origin)
    → better_of net (Some (own_with o)) (usable net d a came) ≡ Some (own_with o)
unfolding usable
own_stays net d a None o = refl
own_stays net d a (Some r) o =
    let taken : Bool → Option Choice = λ b. cond b (Some (choice_from a r)) (Some (own_with o)) in
    elim (accept net d a r) as (λ b.
    better_of net (Some (own_with o)) (cond b (Some (choice_from a r)) None) ≡ Some (own_with o)) [
      | true ↦ ap taken (own_first net a r o)
      | false ↦ refl
    ]

own_choice_is : (net : Network) (d : DeviceId) (p : Cidr) (o : Option Origin)
    → own_origin net d p ≡ o → own_choice net d p ≡ option_map own_with o
unfolding own_choice
own_choice_is net d p o e = ap (option_map own_with) e

module _ (net : Network) (came : DeviceId → Option Route) (d : DeviceId) (p : Cidr) where
  step : Option Choice → DeviceId → Option Choice
  step best a = better_of net best (usable net d a (came a))

  -- an own route is the best
  pub own_decided : (o : Origin) → Some o ≡ own_origin net d p
      → Some (own_with o) ≡ best_of net came d p
  unfolding best_of step
  own_decided o e =
      sym (ap (λ z. fold step z (device_ids net)) (own_choice_is net d p (Some o) (sym e))
      ∙ fold_stays step (Some (own_with o)) (λ a. own_stays net d a (came a) o) (device_ids net))

  nothing_from : (t : DeviceId → Bool) → ((a : DeviceId) → t a ≡ false → came a ≡ None)
      → (x : Option Choice) (a : DeviceId) → t a ≡ false → step x a ≡ x
  unfolding step
  nothing_from t none x a l =
      ap (λ z. better_of net x (usable net d a z)) (none a l)
      ∙ ap (better_of net x) (usable-none net d a) ∙ better_by_none (rank_of net) x

  ranked_learnt : (t : DeviceId → Bool) → ((a : DeviceId) → t a ≡ false → came a ≡ None)
      → None ≡ own_origin net d p
      → fold (λ best a. better best
      (option_map (with_rank (rank_of net)) (usable net d a (came a))))
      None (filter t (device_ids net))
      ≡ option_map (with_rank (rank_of net)) (best_of net came d p)
  unfolding best_of step
  ranked_learnt t none e =
      fold-with_rank (rank_of net) (λ a. usable net d a (came a)) None (filter t (device_ids net))
      ∙ ap (option_map (with_rank (rank_of net)))
      (fold_filter step t (nothing_from t none) None (device_ids net)
      ∙ ap (λ z. fold step z (device_ids net)) (sym (own_choice_is net d p None (sym e))))

  -- without one it is the best of what came in from devices of which a test knows, and from the
  -- others nothing came; the best so far stands beside its rank
  pub learnt_among : (t : DeviceId → Bool) → ((a : DeviceId) → t a ≡ false → came a ≡ None)
      → None ≡ own_origin net d p → (best : Option (Ranked Choice))
      → best
      ≡ fold (λ x a. better x (option_map (with_rank (rank_of net)) (usable net d a (came a)))) None
      (filter t (device_ids net))
      → option_map (λ (r : Ranked Choice). r.item) best ≡ best_of net came d p
  learnt_among t none e best is =
      ap (option_map (λ (r : Ranked Choice). r.item)) (is ∙ ranked_learnt t none e)
      ∙ item-with_rank (rank_of net) (best_of net came d p)

  -- the same of its neighbours
  pub learnt_decided : ((a : DeviceId) → is_linked net d a ≡ false → came a ≡ None)
      → None ≡ own_origin net d p → (best : Option (Ranked Choice))
      → best
      ≡ fold (λ x a. better x (option_map (with_rank (rank_of net)) (usable net d a (came a)))) None
      (peers_of net d)
      → option_map (λ (r : Ranked Choice). r.item) best ≡ best_of net came d p
  unfolding peers_of
  learnt_decided none e best is = learnt_among (is_linked net d) none e best is
