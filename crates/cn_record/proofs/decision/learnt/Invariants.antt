use Rattle.std.proofs.Common.{◌≡◌, None, drop, map}
use Rattle.std.specs.List.{fold}
use Rattle.cn_decide.specs.Decide.{better}
use Rattle.cn_record.specs.Tables.{ranked_candidate}
use Rattle.cn_record.proofs.decision.learnt.Given as goal

abbrev pub invariant-loop-neighbour : goal.invariant-loop-neighbour
invariant-loop-neighbour l =
    fold (λ best a. better best (ranked_candidate l.net l.prefix l.table l.device a)) l.best
    (map (λ n. n.device) (drop l.neighbour-index l.neighbour-items))
    ≡ fold (λ best a. better best (ranked_candidate l.net l.prefix l.table l.device a)) None
    (map (λ n. n.device) l.neighbour-items)
