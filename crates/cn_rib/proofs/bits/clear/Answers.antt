use Rattle.cn_rib.proofs.Levels.{clear_here, clear_there}
use Rattle.cn_rib.proofs.bits.clear.Goals as goal

pub returns-clause-there : goal.returns-clause-there
returns-clause-there c = clear_here c.args.words.now c.args.place c.requires

pub returns-clause-others : goal.returns-clause-others
returns-clause-others c = clear_there c.args.words.now c.args.place c.requires
