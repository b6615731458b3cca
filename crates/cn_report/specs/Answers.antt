-- What commands are answered with. Every line ends with one line feed.
use Rattle.std.specs.Prelude.{ℕ, codes, List, ◌++◌, flat_map}
use Rattle.std.specs.Fmt.{decimal}
use Rattle.cn_base.specs.declared.table.TableRow.{TableRow}
use Rattle.cn_core.specs.declared.answer.Answer.{Answer}
use Rattle.cn_core.specs.declared.answer.Answer.TheVariants.{Done, Pulled}
use Rattle.cn_core.specs.declared.pull.DeviceTable.{DeviceTable}
use Rattle.cn_core.specs.declared.pull.Pull.{Pull}
use Rattle.cn_core.specs.declared.pull.Pull.TheVariants.{Quiet, Again}
use Rattle.cn_net.specs.Network.{Network, name_of}
use Rattle.cn_change.specs.declared.command.Command.{Command}
use Rattle.cn_change.specs.declared.command.Command.TheVariants as command
use Rattle.cn_report.specs.Choice.{choice_text}
use Rattle.cn_report.specs.Standing.{pending_text}
use Rattle.cn_text.specs.Printed.{newline, prefix_text}

-- command k, whose kind is this word, is done
abbrev pub done_text : ℕ → List ℕ → List ℕ
done_text k word = decimal k ++ codes " " ++ word ++ codes " done" ++ newline

-- ---- pulls

-- the line of a row
abbrev pub row_line : Network → TableRow → List ℕ
row_line net row = prefix_text row.prefix ++ codes " " ++ choice_text net row.choice ++ newline

-- the line of a device, and the lines of its rows
abbrev pub table_text : Network → DeviceTable → List ℕ
table_text net held =
    codes "table " ++ name_of net held.device ++ newline ++ flat_map (row_line net) held.table

-- what a pull shows: every table, or what is pending first
abbrev pub shown_text : Network → Pull → List ℕ
shown_text net (Quiet tables) = codes "quiet" ++ newline ++ flat_map (table_text net) tables
shown_text net (Again standing) = codes "again" ++ pending_text net standing ++ newline

-- the answer to command k, a pull
abbrev pub pull_text : Network → ℕ → Pull → List ℕ
pull_text net k pull = decimal k ++ codes " pull " ++ shown_text net pull

-- ---- answers

-- the kind of a command
abbrev pub kind_word : Command → List ℕ
kind_word command.Pull = codes "pull"
kind_word (command.Work n) = codes "work"

-- the answer to command k
abbrev pub answer_text : Network → ℕ → Command → Answer → List ℕ
answer_text net k c Done = done_text k (kind_word c)
answer_text net k c (Pulled pull) = pull_text net k pull
