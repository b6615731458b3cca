use Rattle.cn_serial.proofs.Rounds.{rounds_hold}
use Rattle.cn_serial.proofs.laws.rounds.Goals as goal

pub returns : goal.returns
returns c = rounds_hold
