use Rattle.cn_core.proofs.AnswersThere.{answers_there}
use Rattle.cn_core.proofs.OneAnswer.{answers_once}
use Rattle.cn_core.proofs.plays.one_answer.Goals as goal

pub returns-clause-there : goal.returns-clause-there
returns-clause-there c = answers_there

pub returns-clause-once : goal.returns-clause-once
returns-clause-once c = answers_once
