-- The commands that make a script.
use Rattle.std.specs.Prelude.{◌≤◌, List, length, All}
use Rattle.cn_change.specs.declared.command.Command.{Command}
use Rattle.cn_change.specs.declared.command.Command.TheVariants.{Pull, Work}

-- a count of work is from 1 to 1000000
abbrev pub CountFits : Command → Type 0
CountFits Pull = Unit {0}
CountFits (Work count) = (1 ≤ count) × (count ≤ 1000000)

-- at most 10000 commands, whose counts fit
pub record IsScript (commands : List Command) : Type 0 where
  pub few : length commands ≤ 10000
  pub counts : All CountFits commands
