use Rattle.std.proofs.Common.{ap, ◌<◌, arith, length}
use Rattle.std.proofs.lemmas.Bool.Decides.{nat_tests}
use Rattle.cn_wire.proofs.Written.{path_size_short, path_size_long}
use Rattle.cn_wire.proofs.size.path_size.Goals as goal

pub returns-then-numbers-lt64-clause-size : goal.returns-then-numbers-lt64-clause-size
returns-then-numbers-lt64-clause-size c =
    let some : 0 < length c.items-numbers.result.now = grind (arith, nat_tests) in
    let e = ap length c.items-numbers.ensures.same in
    rw c.items-numbers.ensures.same (path_size_short c.args.path.now (omega arith) (omega arith))

pub returns-clause-size : goal.returns-clause-size
returns-clause-size c =
    let e = ap length c.items-numbers.ensures.same in
    rw c.items-numbers.ensures.same (path_size_long c.args.path.now (omega arith))
