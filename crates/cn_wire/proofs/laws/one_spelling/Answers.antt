use Rattle.cn_wire.proofs.Again.{one_update, no_prefix_spells, update_again}
use Rattle.cn_wire.proofs.MessagesFound.{update_found}
use Rattle.cn_wire.proofs.Written.{spelling_spells}
use Rattle.cn_wire.proofs.Answered.{no_fault}
use Rattle.cn_wire.proofs.laws.one_spelling.Goals as goal

pub returns-clause-one : goal.returns-clause-one
returns-clause-one c = one_update

pub returns-clause-no_prefix : goal.returns-clause-no_prefix
returns-clause-no_prefix c = no_prefix_spells

pub returns-clause-fault : goal.returns-clause-fault
returns-clause-fault c = no_fault

pub returns-clause-read : goal.returns-clause-read
returns-clause-read c = λ octets u fits. (update_found octets u fits, update_again octets u)

pub returns-clause-written : goal.returns-clause-written
returns-clause-written c = spelling_spells
