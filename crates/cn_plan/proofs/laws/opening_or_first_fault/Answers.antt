use Rattle.std.proofs.Common.{inl, inr}
use Rattle.cn_lists.proofs.Classical.{with_found}
use Rattle.cn_plan.proofs.There.{boundary_there}
use Rattle.cn_plan.proofs.laws.opening_or_first_fault.Goals as goal

pub returns : goal.returns
returns c = λ net set rows valid within ascending.
    with_found (boundary_there net set rows valid within ascending) (λ found. elim found [
      | inl opened ↦ inl (opened.0, opened.1)
      | inr fault ↦ inr fault
    ])
