-- The devices of one island among all members.
use Rattle.std.proofs.Common.{◌≡◌, ◌≤◌, Bool, true, false, List, [], ◌∷◌, get_or, Option, Some, sym, ap, subst, ◌∙◌, arith}
use Rattle.std.specs.Prelude.{All, Contains}
use Rattle.std.specs.List.{filter}
use Rattle.std.specs.List.Sorted.{IsNonDecreasingBy}
use Rattle.std.specs.Ordering.{is_lt}
use Rattle.std.proofs.lemmas.Bool.{leb-true}
use Rattle.std.proofs.lemmas.Bool.Decides.{nat_tests}
use Rattle.std.proofs.lemmas.List.Elements.{All-filter, filter_passes}
use Rattle.std.proofs.lemmas.List.Kept.{IsSortedBy-filter}
use Rattle.std.proofs.lemmas.List.Sorted.{ranks_by, sorted_far}
use Rattle.cn_base.specs.declared.ids.DeviceId.{DeviceId}
use Rattle.cn_net.specs.Network.{Network, IsDevice}
use Rattle.cn_lists.proofs.Finding.{Contains-filter, not_Contains-nil}
use Rattle.cn_net.proofs.Members.{same_number}
use Rattle.cn_record.specs.Steps.{is_behind}
use Rattle.cn_record.specs.Grouped.{AreMembers, AreOfIsland, IsByIsland, is_member, member_cmp}
use Rattle.cn_record.specs.declared.islands.Member.{Member}
use Rattle.cn_record.specs.declared.soundness.Difference.{Difference}
use Rattle.cn_record.proofs.Parts.{member_cmp_total}

-- ---- the devices of one island

member_itself : (i d : DeviceId) → is_member i (record { island = i; device = d }) ≡ true
member_itself i d = grind (arith, nat_tests)

device_rises : (x y : Member) → is_lt (member_cmp y x) ≡ false → x.island.0 ≡ y.island.0
    → x.device.0 ≤ y.device.0
device_rises x y low same = grind (arith, nat_tests)

-- the members that have the label i
module _ (net : Network) (label : DeviceId → Option DeviceId) (i : DeviceId)
    (members part : List Member) (are : AreMembers net label members)
    (cut : part ≡ filter (is_member i) members) where
  all_in : All (λ m. is_member i m ≡ true) part
  all_in = subst (All (λ m. is_member i m ≡ true)) (sym cut) (filter_passes (is_member i) members)

  part_each : All (λ m. IsDevice net m.device × (label m.device ≡ Some i)) part
  part_each k e lt =
      let m = get_or part k e in
      let h = subst (All (λ m. IsDevice net m.device × (label m.device ≡ Some m.island))) (sym cut)
      (All-filter (is_member i)
      (λ m. IsDevice net m.device
      × (label m.device ≡ Some m.island)) members are.each) k e lt in
      (h.0, h.1 ∙ ap Some (same_number m.island i (all_in k e lt)))

  part_has : (d : DeviceId) → IsDevice net d → label d ≡ Some i
      → Contains part (record { island = i; device = d })
  part_has d is l = subst (λ ms. Contains ms (record { island = i; device = d })) (sym cut)
      (Contains-filter (is_member i) members (record { island = i; device = d }) (are.all d i is l)
      (member_itself i d))

  part_rises : IsByIsland members → IsNonDecreasingBy (λ m. m.device.0) part
  part_rises ordered j k e le lt =
      let lt_of : Member → Member → Bool = λ x y. is_lt (member_cmp x y) in
      let up =
      subst IsByIsland (sym cut)
      (IsSortedBy-filter lt_of (ranks_by member_cmp_total (λ (m : Member). m))
      (is_member i) members ordered) in
      let x = get_or part j e in
      let y = get_or part k e in
      let same : x.island ≡ y.island = same_number x.island i (all_in j e (omega arith))
      ∙ sym (same_number y.island i (all_in k e lt)) in
      device_rises x y
      (sorted_far lt_of (ranks_by member_cmp_total (λ (m : Member). m)) part up j k e le lt)
      (ap (λ (d : DeviceId). d.0) same)

  pub part_of_island : IsByIsland members → AreOfIsland net label i part
  part_of_island ordered = record { each = part_each; all = part_has; rises = part_rises ordered }

module _ (net : Network) (label : DeviceId → Option DeviceId) (i : DeviceId) (part : List Member)
    (are : AreOfIsland net label i part) where
  -- something differs already at a device that isn't above this one
  pub is_behind_all : (y : Difference) → is_behind (Some y) part ≡ true → (d : DeviceId)
      → IsDevice net d → label d ≡ Some i → y.device.0 ≤ d.0
  is_behind_all y t d is l = go part are.rises t (are.all d is l)
    where
      go : (ms : List Member) → IsNonDecreasingBy (λ m. m.device.0) ms
          → is_behind (Some y) ms ≡ true → Contains ms (record { island = i; device = d })
          → y.device.0 ≤ d.0
      go [] up b h = absurd (not_Contains-nil _ h)
      go (m ∷ ms) up b h =
          let low = leb-true y.device.0 m.device.0 b in
          let e : Member = record { island = i; device = d } in
          let more = up 0 h.0 e (omega arith) h.1 in
          let here : (get_or (m ∷ ms) h.0 e).device.0 ≡ d.0 = ap (λ (z : Member). z.device.0) h.2 in
          omega arith
