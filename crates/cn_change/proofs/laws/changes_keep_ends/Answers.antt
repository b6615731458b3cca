use Rattle.cn_change.specs.Journal.{changed}
use Rattle.cn_change.proofs.Accepted.{change_keeps_ends}
use Rattle.cn_net.proofs.SameEnds.{sessions_same}
use Rattle.cn_change.proofs.laws.changes_keep_ends.Goals as goal

pub returns-clause-ends : goal.returns-clause-ends
returns-clause-ends c = change_keeps_ends

pub returns-clause-sessions : goal.returns-clause-sessions
returns-clause-sessions c =
    λ net emulated change. sessions_same net (changed net change) emulated
    (change_keeps_ends net change)
