use Rattle.std.proofs.Common.{◌≡◌, ◌∙◌, ap, subst, sym}
use Rattle.cn_net.specs.Kept.{IsKept, names_of}
use Rattle.cn_net.specs.Network.{Network}
use Rattle.cn_net.proofs.net.Net.copy.Goals as goal

pub invariant_of-result : goal.invariant_of-result
invariant_of-result c =
    let self = c.self.inside in
    let kept = c.self.invariant in
    let keys = c.in_ok-copied_names.field-0.keys in
    let net : Network = record { devices = self.devices; links = self.links } in
    let devices : c.make.result ≡ self.devices =
    c.make.ensures ∙ c.in_ok-devices.ensures ∙ c.items.ensures in
    let links : c.make-2.result ≡ self.links =
    c.make-2.ensures ∙ c.in_ok-from_slice.ensures.items ∙ c.items-2.ensures in
    let neighbours : c.in_ok-from_slice-2.field-0.items ≡ self.neighbours.items =
    c.in_ok-from_slice-2.ensures.items ∙ c.deref.ensures.value in
    let starts : c.in_ok-from_slice-3.field-0.items ≡ self.starts.items =
    c.in_ok-from_slice-3.ensures.items ∙ c.deref-2.ensures.value in
    let own : c.in_ok-copied_lists.field-0.items ≡ self.own.items =
    c.in_ok-copied_lists.ensures ∙ c.deref-3.ensures.value in
    let same : IsKept net keys self.neighbours.items self.starts.items self.own.items =
    record {
      valid = kept.valid;
      named = c.in_ok-copied_names.ensures ∙ ap names_of c.items-3.ensures;
      joined = kept.joined;
      begun = kept.begun;
      originated = kept.originated;
    } in
    let is : record { devices = c.make.result; links = c.make-2.result } ≡ net =
    λ j. record { devices = devices j; links = links j } in
    subst (λ n. IsKept n keys c.in_ok-from_slice-2.field-0.items c.in_ok-from_slice-3.field-0.items
    c.in_ok-copied_lists.field-0.items) (sym is)
    (subst (λ ns. IsKept net keys ns c.in_ok-from_slice-3.field-0.items
    c.in_ok-copied_lists.field-0.items) (sym neighbours)
    (subst (λ xs. IsKept net keys self.neighbours.items xs
    c.in_ok-copied_lists.field-0.items) (sym starts)
    (subst (IsKept net keys self.neighbours.items self.starts.items) (sym own) same)))
