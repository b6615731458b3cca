use Rattle.cn_net.specs.Islands.{label_of}
use Rattle.cn_record.proofs.Saying.{says_none, says_own}
use Rattle.cn_record.proofs.laws.says_its_own.Goals as goal

pub returns-clause-own : goal.returns-clause-own
returns-clause-own c = λ o rows. says_own o.net (label_of o.labels) rows

pub returns-clause-emulated : goal.returns-clause-emulated
returns-clause-emulated c = λ o rows d p e. says_none o.net (label_of o.labels) d p rows e
