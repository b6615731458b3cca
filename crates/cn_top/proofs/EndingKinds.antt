-- The kinds of ending: one for each status that stands for itself, and one for all refusals.
use Rattle.std.proofs.Common.{◌≡◌, inl, ℕ, List, [], ◌∷◌, Option, Some, None, take, refl, sym, ap, subst, ◌∙◌}
use Rattle.cn_open.specs.declared.fault.OpenFault.TheVariants.{NoPlan, Net, Refused, Unsound}
use Rattle.cn_outside.specs.Shelf.{Held}
use Rattle.cn_outside.specs.Scene.{Scene}
use Rattle.cn_top.specs.Deed.{Deed}
use Rattle.cn_top.specs.Ending.{IsWhole, IsUnwritten, whole, unwritten, unput, unbegun, starved}
use Rattle.cn_top.specs.Form.{Among, Form, plan_form, serial_form, later_form, usage_form, read_at, reads_of, writes_of}
use Rattle.cn_top.specs.Meaning.{IsRight, IsWrong}
use Rattle.cn_top.specs.Outcome.{HasUnread, Intends, IsRefusal, IsStarved, IsWriteFault, Outcome, carried, forgot, misused, nothing_done, put_failed, right, some_put, unread, write_failed, wrong}
use Rattle.cn_top.specs.Reading.{HasRead}
use Rattle.cn_top.specs.Wrong.{line_of, reads_until, status_of, unread_deed, usage_deed}
use Rattle.cn_top.specs.declared.status.Status.{Status}
use Rattle.cn_top.specs.declared.status.Status.TheVariants as status
use Rattle.cn_top.specs.declared.wrong.Wrong.{Wrong}
use Rattle.cn_top.specs.declared.wrong.Wrong.TheVariants as wrongs

-- ---- an arm for each command

pub right_status : (form : Form) (held : List ℕ → Held) (deed : Deed) → IsRight form held deed
    → deed.status ≡ status.Ok
right_status (plan_form file) held deed r = ap (λ (d : Deed). d.status) r.does
right_status (serial_form file script trace) held deed r = ap (λ (d : Deed). d.status) r.does
right_status (later_form later) held deed r = absurd r
right_status usage_form held deed r = absurd r

-- the name that is written is one of these
abbrev pub WritesAmong : List (List ℕ) → Option (List ℕ × List ℕ) → Type 0
WritesAmong names None = Unit {0}
WritesAmong names (Some write) = Among names write.0

right_writes : (form : Form) (held : List ℕ → Held) (deed : Deed) → IsRight form held deed
    → WritesAmong (writes_of form) deed.write
right_writes (plan_form file) held deed r =
    subst (λ (d : Deed). WritesAmong [] d.write) (sym r.does) tt
right_writes (serial_form file script trace) held deed r =
    subst (λ (d : Deed). WritesAmong (trace ∷ []) d.write) (sym r.does) (inl refl)
right_writes (later_form later) held deed r = absurd r
right_writes usage_form held deed r = absurd r

-- the status of a refusal is one of 1, 6, 7, 8 and 9
pub refusal : (w : Wrong) → IsRefusal (status_of w)
refusal (wrongs.Later later) = tt
refusal (wrongs.Plan (NoPlan why)) = tt
refusal (wrongs.Plan (Net draft fault)) = tt
refusal (wrongs.Plan (Refused net why)) = tt
refusal (wrongs.Plan (Unsound net d p held wanted)) = tt
refusal wrongs.NoScript = tt

-- ---- the same for all commands

module _ (form : Form) (before after : Scene) (result : Status) where
  pub data Kind : Type 0 where
    is_done : (deed : Deed) → IsRight form before.files.held deed
        → HasRead (reads_of form) before.files after.files → result ≡ status.Ok
        → IsWhole before after deed → Kind
    is_refused : (w : Wrong) → IsWrong form before.files.held w
        → HasRead (take (reads_until w) (reads_of form)) before.files after.files
        → result ≡ status_of w → IsWhole before after (line_of form w) → Kind
    is_misused : form ≡ usage_form → HasRead [] before.files after.files
        → result ≡ status.Usage → IsWhole before after usage_deed → Kind
    is_unread : (k : ℕ) → HasUnread form k before.files after.files
        → result ≡ status.ReadFault → IsWhole before after (unread_deed (read_at form k)) → Kind
    is_unput : result ≡ status.WriteFault → IsWriteFault form before after → Kind
    is_starved : result ≡ status.NoMemory → IsStarved form before after → Kind

  kind_whole : (deed : Deed) → Intends form before.files after.files deed → result ≡ deed.status
      → IsWhole before after deed → Kind
  kind_whole deed (right r read) is w =
      is_done deed r read (is ∙ right_status form before.files.held deed r) w
  kind_whole deed (wrong v r e read) is w =
      is_refused v r read (is ∙ ap (λ (d : Deed). d.status) e)
      (subst (λ (d : Deed). IsWhole before after d) e w)
  kind_whole deed (misused r e read) is w =
      is_misused r read (is ∙ ap (λ (d : Deed). d.status) e)
      (subst (λ (d : Deed). IsWhole before after d) e w)
  kind_whole deed (unread k has e) is w =
      is_unread k has (is ∙ ap (λ (d : Deed). d.status) e)
      (subst (λ (d : Deed). IsWhole before after d) e w)

  -- what is meant writes no name but those of the form
  pub intends_writes : (deed : Deed) → Intends form before.files after.files deed
      → WritesAmong (writes_of form) deed.write
  intends_writes deed (right r read) = right_writes form before.files.held deed r
  intends_writes deed (wrong v r e read) =
      subst (λ (d : Deed). WritesAmong (writes_of form) d.write) (sym e) tt
  intends_writes deed (misused r e read) =
      subst (λ (d : Deed). WritesAmong (writes_of form) d.write) (sym e) tt
  intends_writes deed (unread k has e) =
      subst (λ (d : Deed). WritesAmong (writes_of form) d.write) (sym e) tt

  unput_write : (write : Option (List ℕ × List ℕ)) → WritesAmong (writes_of form) write
      → IsUnwritten write before.files after.files → after.printed ≡ before.printed
      → IsWriteFault form before after
  unput_write None among w quiet = absurd w
  unput_write (Some (name, bytes)) among w quiet = write_failed name among w quiet

  pub kind_of : Outcome form before after result → Kind
  kind_of (carried deed i (whole is w)) = kind_whole deed i is w
  kind_of (carried deed i (unwritten is w quiet)) =
      is_unput is (unput_write deed.write (intends_writes deed i) w quiet)
  kind_of (carried deed i (unput k lt is w p)) = is_unput is (put_failed deed k i lt w p)
  kind_of (carried deed i (unbegun is k quiet)) = is_starved is (nothing_done k quiet)
  kind_of (carried deed i (starved k lt is w p)) = is_starved is (some_put deed k i lt w p)
  kind_of (forgot is r k quiet) = is_starved is (nothing_done k quiet)
