-- When each status comes, from the kind of the ending.
use Rattle.std.proofs.Common.{◌≡◌, inl, inr, ℕ, sym, ap, subst, ◌∙◌, arith}
use Rattle.cn_outside.specs.Scene.{Scene}
use Rattle.cn_top.specs.Form.{Form, read_at, reads_of, usage_form}
use Rattle.cn_top.specs.Meaning.{IsRight, IsValidInput, IsWrong, TellsAll}
use Rattle.cn_top.specs.Outcome.{HasUnread, IsCalm, IsDone, IsMisused, IsRefusal, IsRefused, IsStarved, IsUnlessMemory, IsWriteFault, IsUnread, put_failed, write_failed}
use Rattle.cn_top.specs.Wrong.{status_of}
use Rattle.cn_top.specs.declared.status.Status.{Status}
use Rattle.cn_top.specs.declared.status.Status.TheVariants as status
use Rattle.cn_top.specs.declared.wrong.Wrong.{Wrong}
use Rattle.cn_top.proofs.EndingKinds.{Kind, is_done, is_misused, is_refused, is_starved, is_unput, is_unread, refusal}
use Rattle.cn_top.proofs.OneMeaning.{one_meaning_of}
use Rattle.cn_top.proofs.Readings.{among_get}

not_refusal : (w : Wrong) (s : Status) → (IsRefusal s → ⊥) → s ≡ status_of w → ⊥
not_refusal w s out e = out (subst IsRefusal (sym e) (refusal w))

module _ (form : Form) (before after : Scene) (result : Status)
    (kind : Kind form before after result) where
  -- ---- which kind a status is of

  pub done_where : result ≡ status.Ok → IsDone form before after
  done_where e = elim kind [
    | is_done deed r read is w ↦ record { deed = deed; right = r; reads = read; whole = w }
    | is_refused v r read is w ↦ absurd (not_refusal v status.Ok (λ x. x) (sym e ∙ is))
    | is_misused r read is w ↦ absurd cc
    | is_unread k has is w ↦ absurd cc
    | is_unput is r ↦ absurd cc
    | is_starved is r ↦ absurd cc
  ]

  pub refused_where : IsRefusal result → IsRefused form before after result
  refused_where e = elim kind [
    | is_done deed r read is w ↦ absurd (subst IsRefusal is e)
    | is_refused v r read is w ↦
        record { why = v; wrong = r; status = is; reads = read; whole = w }
    | is_misused r read is w ↦ absurd (subst IsRefusal is e)
    | is_unread k has is w ↦ absurd (subst IsRefusal is e)
    | is_unput is r ↦ absurd (subst IsRefusal is e)
    | is_starved is r ↦ absurd (subst IsRefusal is e)
  ]

  pub usage_where : result ≡ status.Usage → IsMisused form before after
  usage_where e = elim kind [
    | is_done deed r read is w ↦ absurd cc
    | is_refused v r read is w ↦ absurd (not_refusal v status.Usage (λ x. x) (sym e ∙ is))
    | is_misused r read is w ↦ record { words = r; reads = read; whole = w }
    | is_unread k has is w ↦ absurd cc
    | is_unput is r ↦ absurd cc
    | is_starved is r ↦ absurd cc
  ]

  pub unread_where : result ≡ status.ReadFault → IsUnread form before after
  unread_where e = elim kind [
    | is_done deed r read is w ↦ absurd cc
    | is_refused v r read is w ↦ absurd (not_refusal v status.ReadFault (λ x. x) (sym e ∙ is))
    | is_misused r read is w ↦ absurd cc
    | is_unread k has is w ↦ record { place = k; unread = has; whole = w }
    | is_unput is r ↦ absurd cc
    | is_starved is r ↦ absurd cc
  ]

  pub unput_where : result ≡ status.WriteFault → IsWriteFault form before after
  unput_where e = elim kind [
    | is_done deed r read is w ↦ absurd cc
    | is_refused v r read is w ↦ absurd (not_refusal v status.WriteFault (λ x. x) (sym e ∙ is))
    | is_misused r read is w ↦ absurd cc
    | is_unread k has is w ↦ absurd cc
    | is_unput is r ↦ r
    | is_starved is r ↦ absurd cc
  ]

  pub starved_where : result ≡ status.NoMemory → IsStarved form before after
  starved_where e = elim kind [
    | is_done deed r read is w ↦ absurd cc
    | is_refused v r read is w ↦ absurd (not_refusal v status.NoMemory (λ x. x) (sym e ∙ is))
    | is_misused r read is w ↦ absurd cc
    | is_unread k has is w ↦ absurd cc
    | is_unput is r ↦ absurd cc
    | is_starved is r ↦ r
  ]

  -- ---- what comes where nothing fails

  module _ (calm : IsCalm form before after) where
    pub calm_unread : (k : ℕ) → HasUnread form k before.files after.files → ⊥
    calm_unread k has =
        let same = calm.reads (read_at form k) (among_get k (reads_of form) has.place) in
        let rises = has.failed.rises in
        omega (arith, rises, same)

    pub calm_unput : IsWriteFault form before after → ⊥
    calm_unput (put_failed deed k i lt w p) = omega (arith, p.faults, calm.puts)
    calm_unput (write_failed name among w quiet) =
        omega (arith, w.faults.rises, calm.writes name among)

    module _ (tells : TellsAll (reads_of form) before.files.held) where
      pub valid_only : IsValidInput form before.files.held → IsUnlessMemory result status.Ok
      valid_only valid = elim kind [
        | is_done d r read is w ↦ inl is
        | is_refused v r read is w ↦
            absurd ((one_meaning_of before.files.held form tells).valid_not_wrong v valid r)
        | is_misused r read is w ↦
            absurd (subst (λ (f : Form). IsValidInput f before.files.held) r valid)
        | is_unread k has is w ↦ absurd (calm_unread k has)
        | is_unput is r ↦ absurd (calm_unput r)
        | is_starved is r ↦ inr is
      ]

      pub wrong_only : (v : Wrong) → IsWrong form before.files.held v
          → IsUnlessMemory result (status_of v)
      wrong_only v wr = elim kind [
        | is_done d r read is w ↦
            absurd ((one_meaning_of before.files.held form tells).not_both d v r wr)
        | is_refused u r read is w ↦
            inl (is ∙ ap status_of
            ((one_meaning_of before.files.held form tells).wrong_once u v r wr))
        | is_misused r read is w ↦
            absurd (subst (λ (f : Form). IsWrong f before.files.held v) r wr)
        | is_unread k has is w ↦ absurd (calm_unread k has)
        | is_unput is r ↦ absurd (calm_unput r)
        | is_starved is r ↦ inr is
      ]

    pub usage_only : form ≡ usage_form → IsUnlessMemory result status.Usage
    usage_only e = elim kind [
      | is_done d r read is w ↦
          absurd (subst (λ (f : Form). IsRight f before.files.held d) e r)
      | is_refused u r read is w ↦
          absurd (subst (λ (f : Form). IsWrong f before.files.held u) e r)
      | is_misused r read is w ↦ inl is
      | is_unread k has is w ↦ absurd (calm_unread k has)
      | is_unput is r ↦ absurd (calm_unput r)
      | is_starved is r ↦ inr is
    ]
