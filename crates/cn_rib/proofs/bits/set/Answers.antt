use Rattle.cn_rib.proofs.Levels.{set_here, set_there}
use Rattle.cn_rib.proofs.bits.set.Goals as goal

pub returns-clause-there : goal.returns-clause-there
returns-clause-there c = set_here c.args.words.now c.args.place c.requires

pub returns-clause-others : goal.returns-clause-others
returns-clause-others c = set_there c.args.words.now c.args.place c.requires
