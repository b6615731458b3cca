use Rattle.std.proofs.Common.{◌≡◌, ◌++◌, take, map}
use Rattle.cn_cert.specs.Steps.{member}
use Rattle.cn_cert.proofs.origins.add_own.Given as goal

abbrev pub invariant-loop-one : goal.invariant-loop-one
invariant-loop-one l =
    l.members.items
    ≡ l.initial.members.items ++ map (λ o. member o.prefix l.device) (take l.one-index l.own)
