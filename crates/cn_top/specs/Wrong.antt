-- What can be wrong, and the line that is put for it.
use Rattle.std.specs.Prelude.{ℕ, ◌-◌, codes, List, [], ◌∷◌, None}
use Rattle.cn_open.specs.declared.fault.OpenFault.{OpenFault}
use Rattle.cn_open.specs.declared.fault.OpenFault.TheVariants.{NoPlan, Net, Refused, Unsound}
use Rattle.cn_plan.specs.Boundary.{of_certificate, of_record}
use Rattle.cn_top.specs.Deed.{Deed}
use Rattle.cn_top.specs.FaultTexts.{bad_net_line}
use Rattle.cn_top.specs.Form.{Form, later_word, read_at}
use Rattle.cn_top.specs.TextFaults.{bad_text_line}
use Rattle.cn_top.specs.Texts.{refused_line, unbuilt_line, unread_line, usage_line}
use Rattle.cn_top.specs.declared.status.Status.{Status}
use Rattle.cn_top.specs.declared.status.Status.TheVariants as status
use Rattle.cn_top.specs.declared.wrong.Wrong.{Wrong}
use Rattle.cn_top.specs.declared.wrong.Wrong.TheVariants as wrongs

-- one line
abbrev pub line : Status → List ℕ → Deed
line status text = record { status = status; write = None; puts = text ∷ [] }

abbrev pub usage_deed : Deed
usage_deed = line status.Usage usage_line

abbrev pub unread_deed : List ℕ → Deed
unread_deed name = line status.ReadFault (unread_line name)

-- ---- refusals

abbrev pub opening_status : OpenFault → Status
opening_status (NoPlan why) = status.BadText
opening_status (Net draft fault) = status.BadNet
opening_status (Refused net refusal) = status.Refused
opening_status (Unsound net d p held wanted) = status.Refused

-- that of a plan in the file of this name
abbrev pub opening_text : List ℕ → OpenFault → List ℕ
opening_text file (NoPlan why) = bad_text_line file why
opening_text file (Net draft fault) = bad_net_line draft fault
opening_text file (Refused net refusal) = refused_line net (of_certificate refusal)
opening_text file (Unsound net d p held wanted) = refused_line net (of_record d p held wanted)

abbrev pub status_of : Wrong → Status
status_of (wrongs.Later later) = status.Unbuilt
status_of (wrongs.Plan fault) = opening_status fault
status_of wrongs.NoScript = status.Unbuilt

abbrev pub text_of : List ℕ → Wrong → List ℕ
text_of file (wrongs.Later later) = unbuilt_line (later_word later)
text_of file (wrongs.Plan fault) = opening_text file fault
text_of file wrongs.NoScript = unbuilt_line (codes "script text")

-- what is put for what is wrong with the file of this name
abbrev pub refusal_of : List ℕ → Wrong → Deed
refusal_of file w = line (status_of w) (text_of file w)

-- how many files are read until it is known
abbrev pub reads_until : Wrong → ℕ
reads_until (wrongs.Later later) = 0
reads_until (wrongs.Plan fault) = 1
reads_until wrongs.NoScript = 2

-- what is put for it: the file that is wrong is the one that is read last
abbrev pub line_of : Form → Wrong → Deed
line_of form w = refusal_of (read_at form (reads_until w - 1)) w
