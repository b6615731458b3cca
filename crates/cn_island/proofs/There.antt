-- The labels of the islands always are there, in the sense of classical logic. Other crates may
-- cite this module.
use Rattle.std.proofs.Common.{◌≡◌, ◌∙◌, ◌≤◌, Bool, true, false, List, length, Option, Some, None, unwrap_or, refl, sym, ap, subst, inl, inr}
use Rattle.std.proofs.lemmas.Bool.{cases_Bool, false≢true}
use Rattle.cn_lists.specs.Classical.{Classically}
use Rattle.cn_lists.proofs.Classical.{given, least_by, list_below, with_found}
use Rattle.cn_base.specs.declared.ids.DeviceId.{DeviceId}
use Rattle.cn_net.specs.Islands.{IsIslands, IsJoined, label_of}
use Rattle.cn_net.specs.Islands.IsJoined.{itself}
use Rattle.cn_net.specs.Network.{Network, IsDevice}

module _ (net : Network) (outside : DeviceId → Bool) where
  -- what the label of a device has to be: none of an emulated device, and of another one the least
  -- device that a chain joins to it
  abbrev IsLabel : DeviceId → Option DeviceId → Type 0
  IsLabel d None = outside d ≡ false
  IsLabel d (Some i) =
      (outside d ≡ true) × IsJoined net outside d i
      × ((x : DeviceId) → IsJoined net outside d x → i.0 ≤ x.0)

  label_there : (d : DeviceId) → Classically ((label : Option DeviceId) × IsLabel d label)
  label_there d = elim (cases_Bool (outside d)) [
    | inl out ↦ with_found (least_by (IsJoined net outside d) (λ x. x.0) d itself)
        (λ least. (Some least.0, (out, least.1, least.2)))
    | inr kept ↦ given (None, kept)
  ]

  module _ (label : DeviceId → Option DeviceId)
      (each : (d : DeviceId) → IsDevice net d → IsLabel d (label d)) where
    some_label : (d i : DeviceId) → IsDevice net d → label d ≡ Some i → IsLabel d (Some i)
    some_label d i is e = subst (IsLabel d) e (each d is)

    no_label : (d : DeviceId) (l : Option DeviceId) → IsLabel d l → outside d ≡ false → l ≡ None
    no_label d None h kept = refl
    no_label d (Some i) h kept = absurd (false≢true (sym kept ∙ h.0))

    a_label : (d : DeviceId) (l : Option DeviceId) → IsLabel d l → outside d ≡ true
        → (i : DeviceId) × (l ≡ Some i)
    a_label d None h out = absurd (false≢true (sym h ∙ out))
    a_label d (Some i) h out = (i, refl)

    islands_labelled : IsIslands net outside label
    islands_labelled = record {
      emulated = λ d is kept. no_label d (label d) (each d is) kept;
      labelled = λ d is out. a_label d (label d) (each d is) out;
      joined = λ d i is e. let h = some_label d i is e in h.1;
      least = λ d i x is e chain. let h = some_label d i is e in h.2 x chain;
    }

  -- labels of the islands can't be missing: a list with an entry for each device
  pub islands_there : Classically ((labels : List (Option DeviceId))
      × (length labels ≡ length net.devices) × IsIslands net outside (label_of labels))
  islands_there =
      with_found
      (list_below (λ k. IsLabel (record { 0 = k })) (length net.devices)
      (λ k lt. label_there (record { 0 = k })))
      (λ found. (
        found.0,
        found.1,
        islands_labelled (label_of found.0) (λ d is.
            let at = found.2 d.0 is in
            subst (IsLabel d) (sym (ap (λ o. unwrap_or o None) at.1)) at.2),
      ))
