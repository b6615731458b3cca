use Rattle.cn_plan.proofs.Steps.{answers_records}
use Rattle.cn_plan.proofs.planning.recorded.Goals as goal

pub returns-in-Err-clause-answer : goal.returns-in-Err-clause-answer
returns-in-Err-clause-answer c =
    answers_records c.args.certified c.args.saved c.in-Err.refused.certified c.in-Err.refused.why
    c.unrecorded.result c.in-Err.ensures.err c.in-Err.ensures.unsound c.unrecorded.ensures
