-- What a pull answers, by the state.
use Rattle.std.specs.Prelude.{◌≡◌, List}
use Rattle.cn_net.specs.OneState.{HasOneStableState}
use Rattle.cn_core.specs.Log.{Log, now}
use Rattle.cn_core.specs.Order.{IsQuiet, standing}
use Rattle.cn_core.specs.Tables.{AreTables}
use Rattle.cn_core.specs.declared.pull.DeviceTable.{DeviceTable}
use Rattle.cn_core.specs.declared.pull.Pull.{Pull}
use Rattle.cn_core.specs.declared.pull.Pull.TheVariants as answer

-- The state is quiet, and the tables are those of the emulated devices in the one stable state of
-- the whole network, in which the devices that aren't emulated decide too, and there is no speaker,
-- no record and no message.
pub record IsQuietAnswer (l : Log) (tables : List DeviceTable) : Type 0 where
  pub quiet : IsQuiet (now l)
  pub whole : HasOneStableState l.recorded.opening.net
  pub shown : AreTables l.recorded.opening.emulated whole.state tables

-- Tables come exactly where the state is quiet; where it isn't, the first thing that is pending
-- comes.
abbrev pub IsPulled : Log → Pull → Type 0
IsPulled l (answer.Quiet tables) = IsQuietAnswer l tables
IsPulled l (answer.Again pending) = (IsQuiet (now l) → ⊥) × (pending ≡ standing (now l))
