use Rattle.cn_readscript.proofs.Commands.{makes_script}
use Rattle.cn_readscript.proofs.read.script_in.Goals as goal

pub make-requires : goal.make-requires
make-requires c = rw c.into_vec.ensures (makes_script _ _ c.in_ok-commands.ensures)
