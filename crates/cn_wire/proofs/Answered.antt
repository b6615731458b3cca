-- The answers of the reader, from what is read and what is spelled.
use Rattle.std.proofs.Common.{◌≡◌, ℕ, List, Some, Result, Ok, Err, refl, sym, ap, subst, ◌∙◌}
use Rattle.std.specs.Prelude.{IfOk, IsNone, ◌↔◌}
use Rattle.cn_wire.specs.declared.fault.WireFault.{WireFault}
use Rattle.cn_wire.specs.declared.fault.WireAnswer.{WireAnswer}
use Rattle.cn_wire.specs.declared.fault.WireAnswer.TheVariants as answers
use Rattle.cn_wire.specs.declared.update.Update.{Update}
use Rattle.cn_wire.specs.Numbers.{IsOctets}
use Rattle.cn_wire.specs.Spelling.{Spells}
use Rattle.cn_wire.specs.Reading.{Gives, update_of, fault_in, fault_of}
use Rattle.cn_wire.proofs.MessagesFound.{update_found}
use Rattle.cn_wire.proofs.Again.{update_again}

-- what is read is spelled by the octets
pub found_of : (octets : List ℕ) (r : Result Update WireAnswer) → IsOctets octets
    → Gives (λ x. x) r (update_of octets) → IfOk r (λ u. Spells octets u)
found_of octets (Ok u) fits e = update_found octets u fits e
found_of octets (Err e) fits h = tt

abbrev failed : WireAnswer → Result Update WireAnswer
failed e = Err e

same_answer : (e d : WireAnswer) → failed e ≡ failed d → e ≡ d
same_answer e d h = cc

fault_of_answer : (octets : List ℕ) (f g : WireFault) → answers.Fault g ≡ answers.Fault f
    → update_of octets ≡ Err g → fault_of octets ≡ Some f
fault_of_answer octets f g h e = ap fault_in e ∙ ap (λ (x : WireFault). Some x)
    (same_fault f g h) where
      same_fault : (f g : WireFault) → answers.Fault g ≡ answers.Fault f → g ≡ f
      same_fault f g h = cc

-- a fault that is told is the first fault of the octets
pub fault_is : (octets : List ℕ) (r : Result Update WireAnswer) (f : WireFault)
    → r ≡ Err (answers.Fault f) → Gives (λ x. x) r (update_of octets) → fault_of octets ≡ Some f
fault_is octets (Ok u) f e h = absurd cc
fault_is octets (Err answers.Memory) f e h = absurd cc
fault_is octets (Err (answers.Fault g)) f e h =
    fault_of_answer octets f g (same_answer (answers.Fault g) (answers.Fault f) e) h

read_of : (r : Result Update WireFault) → IsNone (fault_in r) → (u : Update) × (r ≡ Ok u)
read_of (Ok u) none = (u, refl)
read_of (Err f) none = absurd cc

abbrev read_ok : Update → Result Update WireFault
read_ok u = Ok u

-- octets without a fault are those that spell an update
pub no_fault : (octets : List ℕ) → IsOctets octets
    → IsNone (fault_of octets) ↔ ((u : Update) × Spells octets u)
no_fault octets fits = (
  λ none. let x = read_of (update_of octets) none in (x.0, update_found octets x.0 fits x.1),
  λ (u, s). subst (λ (r : Result Update WireFault). IsNone (fault_in r))
      (sym (update_again octets u s)) refl,
)
