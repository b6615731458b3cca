-- What a receive takes out of a mailbox.
use Rattle.std.proofs.Common.{◌≡◌, ℕ, ◌<◌, ◌↔◌, List, [], ◌∷◌, ◌++◌, length, Option, Some, None, sym, ap, ◌∙◌, arith, true≢false}
use Rattle.std.specs.Prelude.{IsSome, Ok, option_to_list, slice_get}
use Rattle.std.proofs.lemmas.Option.{none-some}
use Rattle.cn_wire.specs.Reading.{update_of}
use Rattle.cn_wire.specs.declared.update.Update.{Update}
use Rattle.cn_core.specs.Machine.{taken_in}
use Rattle.cn_core.specs.Parts.{received, received_as, received_of}
use Rattle.cn_core.specs.State.{SessionState}

-- the first message, which was read, and those that are left
pub received_is : (x : SessionState) (mail left : List (List ℕ)) (popped : Option (List ℕ))
    (octets : List ℕ) (u : Update) → x.mail ≡ mail → Some octets ≡ slice_get mail 0
    → mail ≡ option_to_list popped ++ left → IsSome popped ↔ (0 < length mail)
    → Ok u ≡ update_of octets → taken_in u left x ≡ received x
received_is x [] left popped octets u is first out some read =
    absurd (none-some octets (sym first))
received_is x (o ∷ rest) left popped octets u is first out some read =
    by_pop popped out some
  where
    by_pop : (p : Option (List ℕ)) → o ∷ rest ≡ option_to_list p ++ left
        → IsSome p ↔ (0 < length (o ∷ rest)) → taken_in u left x ≡ received x
    by_pop None e s = absurd (true≢false (sym (s.1 (omega arith))))
    by_pop (Some q) e s =
        let others : left ≡ rest = cc in
        let same : octets ≡ o = cc in
        ap (λ ms. taken_in u ms x) others
        ∙ ap (λ r. received_as r rest x) (read ∙ ap update_of same)
        ∙ ap (λ ms. received_of ms x) (sym is)
