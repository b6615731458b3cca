-- The further numbers of a path, one after the other.
use Rattle.std.proofs.Common.{◌≡◌, ℕ, Bool, zero, suc, ◌+◌, ◌-◌, ◌<◌, true, false, List, [], ◌∷◌, ◌++◌, length, take, drop, Result, Ok, Err, refl, sym, ap, subst, ◌∙◌, arith, length-append}
use Rattle.std.specs.Result.{IsErr, IsErrAnd}
use Rattle.std.proofs.lemmas.List.{append-nil, length-drop, take_all}
use Rattle.cn_lists.specs.Steps.{◌>>=◌}
use Rattle.cn_lists.proofs.Loops.{before_with, in_front-before_with, with_front, with_front-done, with_front-failed, with_front-more}
use Rattle.cn_base.specs.declared.ids.Asn.{Asn}
use Rattle.cn_text.specs.Number.{number_at}
use Rattle.cn_text.specs.Atoms.{is_further, further_at, numbers_at, PathFails, PathReads}
use Rattle.cn_text.specs.declared.number.Bad.{Bad}
use Rattle.cn_text.specs.declared.path.PathAnswer.{PathAnswer}
use Rattle.cn_text.specs.declared.path.PathAnswer.TheVariants.{Bad as BadPath}

-- the AS number of this value
abbrev pub asn_of : ℕ → Asn
asn_of n = record { 0 = n }

-- a number in front of those behind it
abbrev pub joined : ℕ → List Asn × ℕ → Result (List Asn × ℕ) Bad
joined n ns = Ok (before_with (asn_of n) ns)

-- where a further number stands, it and those behind it are read
pub further_more : (bytes : List ℕ) (room at : ℕ) → is_further (drop at bytes) ≡ true
    → further_at bytes (suc room) at
    ≡ (number_at bytes (at + 1) 4294967295 >>= λ n. further_at bytes room n.1 >>= joined n.0)
unfolding further_at
further_more bytes room at h = rw h refl

-- where there is no room for a further number, it is refused at its first octet
pub further_full : (bytes : List ℕ) (at : ℕ) → is_further (drop at bytes) ≡ true
    → further_at bytes zero at ≡ Err (record { at = at + 1 })
unfolding further_at
further_full bytes at h = rw h refl

-- where no further number stands, nothing more is read
pub further_done : (bytes : List ℕ) (room at : ℕ) → is_further (drop at bytes) ≡ false
    → further_at bytes room at ≡ Ok ([], at)
unfolding further_at
further_done bytes zero at h = rw h refl
further_done bytes (suc room) at h = rw h refl

-- behind the first number its further numbers are read
pub starts : (bytes : List ℕ) (at : ℕ) (x : ℕ × ℕ) → number_at bytes at 4294967295 ≡ Ok x
    → with_front before_with (asn_of x.0 ∷ []) (further_at bytes 254 x.1) ≡ numbers_at bytes at
unfolding numbers_at
starts bytes at x read = rw read refl

-- where the first number is refused, all are
pub no_start : (bytes : List ℕ) (at : ℕ) (bad : Bad) → number_at bytes at 4294967295 ≡ Err bad
    → numbers_at bytes at ≡ Err bad
unfolding numbers_at
no_start bytes at bad read = rw read refl

module _ (bytes : List ℕ) (front : List Asn) (end : ℕ) (total : Result (List Asn × ℕ) Bad)
    (so_far : with_front before_with front (further_at bytes (255 - length front) end)
    ≡ total) where
  at_room : (room : ℕ) → 255 - length front ≡ room
      → with_front before_with front (further_at bytes room end) ≡ total
  at_room room e =
      ap (λ (r : ℕ). with_front before_with front (further_at bytes r end)) (sym e) ∙ so_far

  -- one more number was read
  pub goes_on : (x : ℕ × ℕ) → length front < 255 → is_further (drop end bytes) ≡ true
      → number_at bytes (end + 1) 4294967295 ≡ Ok x
      → with_front before_with (front ++ asn_of x.0 ∷ [])
      (further_at bytes (255 - length (front ++ asn_of x.0 ∷ [])) x.1)
      ≡ total
  goes_on x less h read =
      let room = 254 - length front in
      let here = further_at bytes (suc room) end in
      let later = further_at bytes room x.1 in
      let left : 255 - length (front ++ asn_of x.0 ∷ []) ≡ room =
      omega (arith, length-append front (asn_of x.0 ∷ [])) in
      let one : here ≡ (later >>= joined x.0) = further_more bytes room end h ∙ rw read refl in
      ap (λ (r : ℕ). with_front before_with (front ++ asn_of x.0 ∷ []) (further_at bytes r x.1))
      left
      ∙ with_front-more before_with front here total (at_room (suc room) (omega (arith, less)))
      (asn_of x.0) later one

  -- a further number that is refused is the answer
  pub refused : (bad : Bad) → length front < 255 → is_further (drop end bytes) ≡ true
      → number_at bytes (end + 1) 4294967295 ≡ Err bad → total ≡ Err bad
  refused bad less h read =
      let room = 254 - length front in
      let here = further_at bytes (suc room) end in
      let one : here ≡ Err bad = further_more bytes room end h ∙ rw read refl in
      with_front-failed before_with front here total (at_room (suc room) (omega (arith, less))) bad
      one

  -- the 256th number is refused at its first octet
  pub too_many : length front ≡ 255 → is_further (drop end bytes) ≡ true
      → total ≡ Err (record { at = end + 1 })
  too_many full h =
      with_front-failed before_with front (further_at bytes zero end) total
      (at_room zero (omega (arith, full))) (record { at = end + 1 }) (further_full bytes end h)

  -- where no further number stands, the numbers that were read are the answer
  pub is_done : is_further (drop end bytes) ≡ false → total ≡ Ok (front, end)
  is_done h =
      let room = 255 - length front in
      with_front-done before_with front (further_at bytes room end) total so_far ([], end)
      (further_done bytes room end h)
      ∙ ap (λ (xs : List Asn × ℕ). Ok xs) (in_front-before_with front [] end)
      ∙ ap (λ (xs : List Asn). Ok (xs, end)) (append-nil front)

-- a number's refusal, handed on
pub refuses : (r : Result (List Asn × ℕ) PathAnswer) (bad : Bad) (read : Result (List Asn × ℕ) Bad)
    → IsErr r → IsErrAnd r (λ e. e ≡ BadPath bad.at) → read ≡ Err bad → PathReads r read
refuses (Ok x) bad read h k e = absurd (cc h)
refuses (Err a) bad read h k e =
    let P : PathAnswer → Type 0 = λ z. PathFails z read in subst P (sym k) e

-- what the test of the rest says
pub rest_is : (bytes : List ℕ) (end : ℕ) (b : Bool)
    → is_further (take (length bytes - end) (drop end bytes)) ≡ b → is_further (drop end bytes) ≡ b
rest_is bytes end b h =
    let whole : take (length bytes - end) (drop end bytes) ≡ drop end bytes =
    take_all (length bytes - end) (drop end bytes) (omega (arith, length-drop end bytes)) in
    ap is_further (sym whole) ∙ h
