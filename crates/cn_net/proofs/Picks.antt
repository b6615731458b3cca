-- The pick of a list of candidates is the best among them.
use Rattle.std.proofs.Common.{◌≡◌, ℕ, suc, zero, ◌<◌, Bool, true, false, List, [], ◌∷◌, length, map, get_or, Option, Some, None, MatchOption, is_some, option_map, unwrap_or, refl, sym, ap, subst, ◌∙◌, arith}
use Rattle.std.specs.List.{All, slice_get}
use Rattle.std.specs.Ordering.{bool_cmp, is_lt, nat_cmp, ordering_then}
use Rattle.std.specs.declared.cmp.Ordering.{Ordering}
use Rattle.std.specs.declared.cmp.Ordering.TheVariants.{Less, Equal, Greater}
use Rattle.std.proofs.lemmas.List.{get_or-map, length-map}
use Rattle.std.proofs.lemmas.List.Elements.{All-contains, Contains-get_or}
use Rattle.std.proofs.lemmas.Option.{get_or_from_slice_get, slice_get-get_or}
use Rattle.cn_base.specs.Rank.{origin_code, ranks_before}
use Rattle.cn_base.specs.declared.ids.DeviceId.{DeviceId}
use Rattle.cn_base.specs.declared.ids.RouterId.{RouterId}
use Rattle.cn_base.specs.declared.rank.Rank.{Rank}
use Rattle.cn_base.specs.declared.route.Choice.{Choice}
use Rattle.cn_decide.specs.Decide as decide
use Rattle.cn_decide.specs.Decide.{IsPick, outranks_by}
use Rattle.cn_decide.specs.declared.Candidate.{Candidate}
use Rattle.cn_net.specs.Candidates.{HasItsSender, IsBestAmong, IsListed, choice_of, listed_at, outranks, rank_of, sender_of}
use Rattle.cn_net.specs.Network.{Network, router_of}

-- ---- the ranks of candidates and of their choices

-- a later test that isn't passed, behind the same earlier one
not_passed : (o x y : Ordering) → (is_lt x ≡ false → is_lt y ≡ false)
    → is_lt (ordering_then o x) ≡ false → is_lt (ordering_then o y) ≡ false
not_passed Less x y f h = h
not_passed Equal x y f h = f h
not_passed Greater x y f h = refl

learnt_last : (b c : Bool) (o : Ordering) → b ≡ true → c ≡ false
    → is_lt (ordering_then (bool_cmp b c) o) ≡ false
learnt_last true false o e f = refl
learnt_last true true o e f = cc
learnt_last false c o e f = cc

own_first : (b c : Bool) (o : Ordering) → b ≡ false → c ≡ true
    → is_lt (ordering_then (bool_cmp b c) o) ≡ false → ⊥
own_first false true o e f h = cc
own_first false false o e f h = cc
own_first true c o e f h = cc

-- the BGP Identifier of a device, and 0 of none
abbrev router_or_none : Network → Option DeviceId → RouterId
router_or_none net o = unwrap_or (option_map (router_of net) o) (record { 0 = 0 })

-- the choice of a learnt candidate has its rank
rank-learnt : (net : Network) (x : Candidate) (a : DeviceId) → HasItsSender net x
    → x.from ≡ Some a → rank_of net (choice_of x) ≡ decide.rank_of x
rank-learnt net x a sent e =
    let sender : sender_of net (choice_of x) ≡ x.sender =
    ap (router_or_none net) e ∙ sym (sent a e) in
    λ i. record {
      learnt = is_some x.from;
      length = length x.route.path;
      origin = x.route.origin;
      sender = sender i;
    }

-- a candidate that another doesn't outrank, as a choice
not_outranked : (net : Network) (x y : Candidate) → HasItsSender net x → HasItsSender net y
    → decide.outranks x y ≡ false → outranks net (choice_of x) (choice_of y) ≡ false
unfolding outranks_by
not_outranked net x y p q h = go x.from y.from refl refl
  where
    go : (o u : Option DeviceId) → x.from ≡ o → y.from ≡ u
        → outranks net (choice_of x) (choice_of y) ≡ false
    go (Some a) (Some b) e f =
        ap (λ (r : Rank). ranks_before r (rank_of net (choice_of y))) (rank-learnt net x a p e)
        ∙ ap (ranks_before (decide.rank_of x)) (rank-learnt net y b q f) ∙ h
    go (Some a) None e f =
        learnt_last (is_some x.from) (is_some y.from) _ (ap is_some e) (ap is_some f)
    go None (Some b) e f =
        absurd (own_first (is_some x.from) (is_some y.from) _ (ap is_some e) (ap is_some f) h)
    go None None e f =
        let own : is_lt (nat_cmp (router_or_none net x.from).0 (router_or_none net y.from).0)
        ≡ false =
        λ i. is_lt (nat_cmp (router_or_none net (e i)).0 (router_or_none net (f i)).0) in
        not_passed (bool_cmp (is_some x.from) (is_some y.from)) _ _
        (not_passed (nat_cmp (length x.route.path) (length y.route.path)) _ _
        (not_passed (nat_cmp (origin_code x.route.origin) (origin_code y.route.origin)) _ _
        (λ t. own))) h

-- ---- places

-- x is the choice of the candidate at the place k
record IsChoiceAt (cs : List Candidate) (x : Choice) : Type 0 where
  place : ℕ
  candidate : Candidate
  within : place < length cs
  at : (d : Candidate) → get_or cs place d ≡ candidate
  choice : choice_of candidate ≡ x

choice_at : (cs : List Candidate) (x : Choice) → IsListed cs x → IsChoiceAt cs x
choice_at [] x (k, within, is) = absurd (omega arith)
choice_at (c ∷ more) x (zero, within, is) = record {
  place = 0;
  candidate = c;
  within = omega arith;
  at = λ d. refl;
  choice = is;
}
choice_at (c ∷ more) x (suc k, within, is) =
    let h : IsChoiceAt more x = choice_at more x (k, omega arith, is) in
    record {
      place = suc h.place;
      candidate = h.candidate;
      within = omega arith;
      at = h.at;
      choice = h.choice;
    }

-- ---- the pick

found_at : (cs : List Candidate) (i : ℕ) → i < length cs
    → (y : Candidate) × (slice_get cs i ≡ Some y)
found_at [] i lt = absurd (omega arith)
found_at (c ∷ more) i lt = (get_or (c ∷ more) i c, slice_get-get_or (c ∷ more) i c lt)

module _ (net : Network) (cs : List Candidate) (i : ℕ) (sent : All (HasItsSender net) cs)
    (p : IsPick cs i) where
  listed : (y : Candidate) → get_or cs i y ≡ y → IsListed cs (choice_of y)
  listed y at =
      subst (IsListed cs)
      (get_or-map choice_of cs i y (choice_of y) p.in_range ∙ ap choice_of at)
      (Contains-get_or (map choice_of cs) i (choice_of y)
      (rw length-map p.in_range))

  never_outranked : (y : Candidate) → get_or cs i y ≡ y → (x : Choice) → IsListed cs x
      → outranks net x (choice_of y) ≡ false
  never_outranked y at x l =
      let c = choice_at cs x l in
      let least : decide.outranks c.candidate y ≡ false =
      ap (λ z. decide.outranks z y) (sym (c.at y))
      ∙ ap (decide.outranks (get_or cs c.place y)) (sym at) ∙ p.least c.place y c.within in
      subst (λ (z : Choice). outranks net z (choice_of y) ≡ false) c.choice
      (not_outranked net c.candidate y
      (All-contains (HasItsSender net) cs c.candidate sent (c.place, c.within, c.at c.candidate))
      (All-contains (HasItsSender net) cs y sent (i, p.in_range, at)) least)

  pick_best : IsBestAmong net (IsListed cs) (listed_at cs (Some i))
  pick_best =
      let f = found_at cs i p.in_range in
      let at : get_or cs i f.0 ≡ f.0 = get_or_from_slice_get cs i f.0 f.0 f.1 in
      subst (λ (o : Option Candidate). IsBestAmong net (IsListed cs) (option_map choice_of o))
      (sym f.1) (listed f.0 at, never_outranked f.0 at)

-- the pick is the best, and there is none where there is no candidate
pub pick_is_best : (net : Network) (cs : List Candidate) (place : Option ℕ)
    → All (HasItsSender net) cs → MatchOption place (length cs ≡ 0) (IsPick cs)
    → IsBestAmong net (IsListed cs) (listed_at cs place)
pick_is_best net cs None sent h = λ x l. let c = choice_at cs x l in absurd (omega arith)
pick_is_best net cs (Some i) sent h = pick_best net cs i sent h
