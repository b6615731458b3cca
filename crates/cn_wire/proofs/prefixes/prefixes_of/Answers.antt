use Rattle.std.proofs.Common.{arith, sym, ◌<◌, length}
use Rattle.std.proofs.lemmas.Bool.{eqb-true}
use Rattle.std.proofs.lemmas.Bool.Decides.{nat_tests}
use Rattle.cn_wire.specs.Reading.{prefixes_at}
use Rattle.cn_wire.proofs.Loops.{goes_on, ends, is_done}
use Rattle.cn_wire.proofs.prefixes.prefixes_of.Goals as goal

pub loop-rest-preserved : goal.loop-rest-preserved
loop-rest-preserved c =
    rw c.in_ok-push-in-Ok.ensures.items
    (goes_on c.args.end c.loop-rest.prefixes.items c.loop-rest.rest.now c.in-Ok.read.0
    c.in-Ok.read.1.now (prefixes_at (length c.args.bytes.now) c.args.end c.args.bytes.now)
    c.in-Ok.ensures.shorter c.in-Ok.ensures.gives c.loop-rest.invariant)

pub returns-in-Err : goal.returns-in-Err
returns-in-Err c =
    let lt : 0 < length c.loop-rest.rest.now = grind (arith, nat_tests) in
    ends c.in-Err.e c.args.end c.loop-rest.prefixes.items c.loop-rest.rest.now
    (prefixes_at (length c.args.bytes.now) c.args.end c.args.bytes.now) lt c.in-Err.ensures.gives
    c.loop-rest.invariant

pub returns : goal.returns
returns c =
    rw c.make.ensures
    (is_done c.args.end c.loop-rest.prefixes.items c.loop-rest.rest.now
    (prefixes_at (length c.args.bytes.now) c.args.end c.args.bytes.now)
    (eqb-true _ _ (sym c.loop-rest-test.ensures)) c.loop-rest.invariant)
