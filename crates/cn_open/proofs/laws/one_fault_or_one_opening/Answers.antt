use Rattle.cn_open.proofs.OneOpening.{fault_once, opening_faultless, opening_once}
use Rattle.cn_open.proofs.There.{named_there, opening_there}
use Rattle.cn_open.proofs.laws.one_fault_or_one_opening.Goals as goal

pub returns-clause-opening : goal.returns-clause-opening
returns-clause-opening c = λ bytes r s h k. opening_once bytes r s h k

pub returns-clause-fault : goal.returns-clause-fault
returns-clause-fault c = λ depth bytes f g h k. fault_once depth bytes f g h k

pub returns-clause-either : goal.returns-clause-either
returns-clause-either c = λ bytes r f h k. opening_faultless bytes r f h k

pub returns-clause-there : goal.returns-clause-there
returns-clause-there c = λ bytes. opening_there bytes

pub returns-clause-named : goal.returns-clause-named
returns-clause-named c = λ bytes. named_there bytes
