-- The message that is put together from the two lists of what a session owes.
use Rattle.std.proofs.Common.{◌≡◌, ℕ, ◌-◌, ◌≤◌, Bool, true, false, cond, List, [], ◌∷◌, filter, length, Option, Some, None, refl, sym, ap, ◌∙◌, arith, true≢false}
use Rattle.std.specs.Prelude.{◌==◌, ◌||◌, is_some, nat_le, option_and_then, option_map}
use Rattle.std.specs.List.{list_any}
use Rattle.std.specs.FinMap as fin
use Rattle.std.proofs.lemmas.Bool.{and_from}
use Rattle.std.proofs.lemmas.Option.{none-some, same_Some}
use Rattle.cn_lists.proofs.Finding.{Some-from_is_some}
use Rattle.cn_base.specs.Cidr.{Cidr, same_prefix}
use Rattle.cn_base.specs.Table.{prefix_cmp}
use Rattle.cn_base.specs.declared.ids.Asn.{Asn}
use Rattle.cn_base.specs.declared.ids.DeviceId.{DeviceId}
use Rattle.cn_base.specs.declared.ids.Origin.{Origin}
use Rattle.cn_base.specs.declared.route.Attributes.{Attributes}
use Rattle.cn_rib.specs.PrefixSet as set
use Rattle.cn_rib.specs.Updates.{AdjRib}
use Rattle.cn_rib.proofs.Keyed.{contains-insert_all, insert_all-keys, least_of_empty, least_there, no_least}
use Rattle.cn_rib.proofs.Prefixes.{same_itself}
use Rattle.cn_wire.specs.Sizes.{longest_prefix_within, room_after}
use Rattle.cn_wire.specs.Writing.{fits, spelled_attrs, spelled_prefix, spelling}
use Rattle.cn_wire.specs.declared.update.Attrs.{Attrs}
use Rattle.cn_wire.proofs.Written.{fits_is}
use Rattle.cn_net.specs.Network.{Network}
use Rattle.cn_pack.specs.Packing.{announcing, is_same, nothing, packed, withdrawing}
use Rattle.cn_core.specs.declared.owed.Owed.{Owed}
use Rattle.cn_core.specs.Owed.{advertised, owed, pair_of, rows}
use Rattle.cn_core.specs.OwedLists.{IsListed, attrs_with, shares}
use Rattle.cn_core.specs.State.{LocRib}
use Rattle.cn_core.proofs.Listed.{listed-announced, listed-withdrawn}
use Rattle.cn_core.proofs.Messages.{is_announced_as, is_announced_value, packed-announced, packed-nothing, packed-withdrawn}
use Rattle.cn_core.proofs.Owes.{owed_some}

-- ---- a message of as many prefixes as the room holds fits

room_after-longest : (room : ℕ) (ps : List Cidr)
    → is_some (room_after room (longest_prefix_within room ps)) ≡ true
room_after-longest room [] = refl
room_after-longest room (p ∷ ps) =
    let size = length (spelled_prefix p) in
    elim (nat_le size room) as (λ t. nat_le size room ≡ t
    → is_some (room_after room (cond t (p ∷ longest_prefix_within (room - size) ps) [])) ≡ true) [
      | true ↦ λ t.
          ap (λ u. is_some (cond u
          (room_after (room - size) (longest_prefix_within (room - size) ps)) None)) t
          ∙ room_after-longest (room - size) ps
      | false ↦ λ t. refl
    ] refl

pub fits-announcing : (attrs : Attrs) (ps : List Cidr) → length (spelled_attrs (Some attrs)) ≤ 1037
    → fits (announcing attrs
    (longest_prefix_within (4073 - length (spelled_attrs (Some attrs))) ps)) ≡ true
fits-announcing attrs ps small =
    let size = length (spelled_attrs (Some attrs)) in
    let u = announcing attrs (longest_prefix_within (4073 - size) ps) in
    and_from (nat_le (length (spelling u)) 4096) true
    (sym (fits_is u 4073 size true refl refl (omega (arith, small))
    (sym (room_after-longest (4073 - size) ps))))
    refl

pub fits-withdrawing : (ps : List Cidr)
    → fits (withdrawing (longest_prefix_within 4073 ps)) ≡ true
fits-withdrawing ps =
    let u = withdrawing (longest_prefix_within 4073 ps) in
    let left =
    Some-from_is_some (room_after 4073 (longest_prefix_within 4073 ps))
    (room_after-longest 4073 ps) in
    and_from (nat_le (length (spelling u)) 4096) true
    (sym (fits_is u left.0 0 true left.1 refl (omega arith) refl)) refl

-- ---- tests that answer alike at the prefixes of a list

same_filter : (f g : Cidr → Bool) (ps : List Cidr)
    → ((p : Cidr) → list_any (same_prefix p) ps ≡ true → f p ≡ g p) → filter f ps ≡ filter g ps
same_filter f g [] same = refl
same_filter f g (p ∷ ps) same =
    let rest = same_filter f g ps
    (λ q there. same q
    (ap (λ t. same_prefix q p || t) there ∙ or_true (same_prefix q p))) in
    (λ i. cond
    (same p (ap (λ t. t || list_any (same_prefix p) ps) (same_itself p)) i)
    (p ∷ rest i) (rest i))
  where
    or_true : (t : Bool) → (t || true) ≡ true
    or_true true = refl
    or_true false = refl

-- ---- by the two lists

not_none : (s : set.PrefixSet) → (fin.len s == 0) ≡ false
    → (p : Cidr) × (set.least s ≡ Some p)
not_none s some = elim (set.least s) as (λ o. set.least s ≡ o
    → (p : Cidr) × (set.least s ≡ Some p)) [
      | None ↦ λ e.
          absurd (true≢false (sym (ap (λ n. n == 0)
          (ap fin.len (no_least s e) ∙ fin.len-empty prefix_cmp (Unit {0}))) ∙ some))
      | Some p ↦ λ e. (p, e)
    ] refl

-- a set contains its keys
key_there : (s : set.PrefixSet) (p : Cidr) → list_any (same_prefix p) (fin.keys s) ≡ true
    → set.contains s p ≡ true
key_there s p there =
    sym (ap (λ t. set.contains t p) (insert_all-keys s))
    ∙ contains-insert_all set.empty (fin.keys s) p
    ∙ ap (λ t. t || set.contains set.empty p) there

none_least : (s : set.PrefixSet) → fin.len s ≡ 0 → set.least s ≡ None
none_least s none = ap set.least (fin.empty_of_len s none) ∙ least_of_empty

module _ (net : Network) (a b : DeviceId) (sent : AdjRib) (best : LocRib) (x : Owed)
    (is : IsListed (owed net a b sent best) x) (next_hop : ℕ) where
  abbrev m : fin.FinMap prefix_cmp (Option Attributes)
  m = owed net a b sent best

  -- where a withdrawal is owed, the message withdraws as many as fit
  pub packed-withdrawing : (fin.len x.withdrawals == 0) ≡ false
      → withdrawing (longest_prefix_within 4073 (fin.keys x.withdrawals))
      ≡ packed (rows (owed net a b sent best)) next_hop
  packed-withdrawing some =
      let first = not_none x.withdrawals some in
      sym (packed-withdrawn m x.withdrawals x.announcements (listed-withdrawn m x is)
      (listed-announced m x is) first.0 next_hop first.1)

  -- what is to be announced is what is advertised
  announced_there : (p : Cidr) → set.contains x.announcements p ≡ true
      → (w : Attributes)
      × ((fin.get m p ≡ Some (Some w)) × (advertised net a b best p ≡ Some w))
  announced_there p there =
      held (fin.get m p) refl (sym (listed-announced m x is p) ∙ there)
    where
      held : (v : Option (Option Attributes)) → fin.get m p ≡ v → is_announced_value v ≡ true
          → (w : Attributes)
          × ((fin.get m p ≡ Some (Some w)) × (advertised net a b best p ≡ Some w))
      held None e t = absurd (true≢false (sym t))
      held (Some None) e t = absurd (true≢false (sym t))
      held (Some (Some w)) e t = (w, (e, ((owed_some net a b sent best p (Some w)).0 e).0))

  -- where none is and nothing is to be announced, there is no message
  pub packed-empty : fin.len x.withdrawals ≡ 0 → set.least x.announcements ≡ None
      → nothing ≡ packed (rows (owed net a b sent best)) next_hop
  packed-empty none lack =
      sym (packed-nothing m x.withdrawals x.announcements (listed-withdrawn m x is)
      (listed-announced m x is) next_hop (none_least x.withdrawals none) lack)

  same_shares : (path : List Asn) (origin : Origin)
      → filter (shares net a b best path origin) (fin.keys x.announcements)
      ≡ filter (is_announced_as m path origin) (fin.keys x.announcements)
  same_shares path origin =
      same_filter (shares net a b best path origin) (is_announced_as m path origin)
      (fin.keys x.announcements) (λ p there.
      let at = announced_there p (key_there x.announcements p there) in
      ap (λ o. is_same path origin (option_map pair_of o)) at.1.1
      ∙ sym (ap (λ o. is_same path origin (option_and_then (λ w. option_map pair_of w) o))
      at.1.0))

  -- and else it announces the least with those that share its path and its ORIGIN, as many as fit
  pub packed-announcing : (q : Cidr) (attrs : Attrs) → fin.len x.withdrawals ≡ 0
      → set.least x.announcements ≡ Some q
      → option_map (attrs_with next_hop) (advertised net a b best q) ≡ Some attrs
      → announcing attrs (longest_prefix_within (4073 - length (spelled_attrs (Some attrs)))
      (filter (shares net a b best attrs.path attrs.origin) (fin.keys x.announcements)))
      ≡ packed (rows (owed net a b sent best)) next_hop
  packed-announcing q attrs none first said =
      let at = announced_there q (least_there x.announcements q first) in
      let w = at.0 in
      let same : attrs_with next_hop w ≡ attrs =
      same_Some (attrs_with next_hop w) attrs
      (sym (ap (option_map (attrs_with next_hop)) at.1.1) ∙ said) in
      sym (ap (λ (z : Attrs). announcing z
      (longest_prefix_within (4073 - length (spelled_attrs (Some z)))
      (filter (shares net a b best z.path z.origin) (fin.keys x.announcements)))) same)
      ∙ ap (λ ps. announcing (attrs_with next_hop w)
      (longest_prefix_within (4073 - length (spelled_attrs (Some (attrs_with next_hop w)))) ps))
      (same_shares w.path w.origin)
      ∙ sym (packed-announced m x.withdrawals x.announcements (listed-withdrawn m x is)
      (listed-announced m x is) q w next_hop (none_least x.withdrawals none) first at.1.0)

  -- what is to be announced is offered
  pub announced-offered : (q : Cidr) → set.least x.announcements ≡ Some q
      → option_map (attrs_with next_hop) (advertised net a b best q) ≡ None → ⊥
  announced-offered q first e =
      let at = announced_there q (least_there x.announcements q first) in
      none-some (attrs_with next_hop at.0)
      (sym e ∙ ap (option_map (attrs_with next_hop)) at.1.1)
