use Rattle.cn_serial.proofs.SerialPlay.{serial_holds}
use Rattle.cn_serial.proofs.laws.serial_play.Goals as goal

pub returns : goal.returns
returns c = serial_holds
