use Rattle.std.proofs.Common.{inl, inr}
use Rattle.cn_lists.proofs.Classical.{with_found}
use Rattle.cn_plan.proofs.Exclusive.{plan_not_answer}
use Rattle.cn_plan.proofs.PlanThere.{plan_there}
use Rattle.cn_plan.proofs.laws.plan_or_answer.Goals as goal

pub returns-clause-one : goal.returns-clause-one
returns-clause-one c = λ net selection rows r answer plan answers.
    plan_not_answer net selection rows r plan answer answers

pub returns-clause-there : goal.returns-clause-there
returns-clause-there c = λ net selection rows valid all up rise.
    with_found (plan_there net selection rows valid all up rise) (λ found. elim found [
      | inl (r, plan, recorded) ↦ inl (r, plan)
      | inr answered ↦ inr answered
    ])
