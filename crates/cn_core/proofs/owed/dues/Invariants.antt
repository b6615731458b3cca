use Rattle.std.proofs.Common.{map}
use Rattle.std.specs.Prelude.{option_copied, option_map}
use Rattle.cn_core.specs.Stored.{choice_under, session_under}
use Rattle.cn_core.proofs.Lists.{AreDuesSoFar}
use Rattle.cn_core.proofs.owed.dues.Given as goal

abbrev pub invariant-loop-at : goal.invariant-loop-at
invariant-loop-at l =
    AreDuesSoFar l.net (option_map (choice_under l.pool) (option_copied l.held)) l.prefix
    (map (session_under l.pool) l.sessions) l.start l.at l.dues.items
