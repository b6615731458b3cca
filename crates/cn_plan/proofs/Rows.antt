-- What is said of a boundary by rows is said by the same rows in another order.
use Rattle.std.proofs.Common.{◌≡◌, Bool, List, Option, None, if◌then◌else◌, sym, subst, ◌∙◌}
use Rattle.cn_base.specs.Cidr.{Cidr}
use Rattle.cn_base.specs.declared.ids.DeviceId.{DeviceId}
use Rattle.cn_base.specs.declared.route.Choice.{Choice}
use Rattle.cn_net.specs.Islands.{label_of, outside_of}
use Rattle.cn_net.specs.Network.{Network}
use Rattle.cn_net.specs.Opening.{Opening}
use Rattle.cn_net.specs.Records.{AreSound}
use Rattle.cn_record.specs.Rows.{row_for}
use Rattle.cn_record.specs.Said.{island_originates, said}
use Rattle.cn_record.specs.Unsound.{IsFirstUnsound, IsUnsound}
use Rattle.cn_record.specs.declared.saved.Row.{Row}
use Rattle.cn_plan.specs.Boundary.{BoundaryFault, IsFirstFault, IsSafeOpening, of_certificate, of_record}

module _ (net : Network) (outside : DeviceId → Bool) (xs ys : List Row)
    (same : row_for xs ≡ row_for ys) where
  pub said_alike : (label : DeviceId → Option DeviceId) → said net label xs ≡ said net label ys
  unfolding said
  said_alike label i d p = if island_originates net label d p then same i d p else None

  pub first_alike : (o : Opening) (d : DeviceId) (p : Cidr) (held wanted : Option Choice)
      → ((label : DeviceId → Option DeviceId) → said o.net label xs ≡ said o.net label ys)
      → IsFirstUnsound o xs d p held wanted → IsFirstUnsound o ys d p held wanted
  first_alike o d p held wanted alike h =
      let says = alike (label_of o.labels) in
      let moved : (x : DeviceId) (q : Cidr) → IsUnsound o xs x q → IsUnsound o ys x q =
      λ x q u. record {
        is_device = u.is_device;
        island = u.island;
        in_island = u.in_island;
        of_island = u.of_island;
        differs = λ state stable e. u.differs state stable ((λ i. says i x q) ∙ e);
      } in
      let back : (x : DeviceId) (q : Cidr) → IsUnsound o ys x q → IsUnsound o xs x q =
      λ x q u. record {
        is_device = u.is_device;
        island = u.island;
        in_island = u.in_island;
        of_island = u.of_island;
        differs = λ state stable e. u.differs state stable (sym (λ i. says i x q) ∙ e);
      } in
      record {
        unsound = moved d p h.unsound;
        first = λ x q u. h.first x q (back x q u);
        held_is = h.held_is ∙ (λ i. same i d p);
        wanted_is = h.wanted_is;
      }

-- a safe opening, with the rows in another order
pub safe_alike : (net : Network) (outside : DeviceId → Bool) (xs ys : List Row) (o : Opening)
    → row_for xs ≡ row_for ys → IsSafeOpening net outside xs o → IsSafeOpening net outside ys o
safe_alike net outside xs ys o same safe =
    record {
      certified = safe.certified;
      sound =
          subst (λ said. AreSound o.net (outside_of o.emulated) (label_of o.labels) said)
          (said_alike o.net outside xs ys same (label_of o.labels)) safe.sound;
    }

-- the first fault of a boundary, with the rows in another order
pub fault_alike : (net : Network) (outside : DeviceId → Bool) (xs ys : List Row)
    (fault : BoundaryFault)
    → row_for xs ≡ row_for ys → IsFirstFault net outside xs fault
    → IsFirstFault net outside ys fault
fault_alike net outside xs ys (of_certificate refusal) same by = by
fault_alike net outside xs ys (of_record d p held wanted) same (o, opened, first) = (
  o,
  opened,
  first_alike o.net outside xs ys same o d p held wanted (said_alike o.net outside xs ys same)
      first,
)
