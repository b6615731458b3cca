use Rattle.std.proofs.Common.{arith, sym, ◌<◌, length}
use Rattle.std.proofs.lemmas.Bool.{eqb-true}
use Rattle.std.proofs.lemmas.Bool.Decides.{nat_tests}
use Rattle.cn_wire.specs.Reading.{attributes_at, nothing}
use Rattle.cn_wire.proofs.Loops.{goes_on_with, ends_with, is_done_with}
use Rattle.cn_wire.proofs.attributes.attributes_of.Goals as goal

pub loop-rest-preserved : goal.loop-rest-preserved
loop-rest-preserved c =
    goes_on_with c.args.end c.loop-rest.found c.loop-rest.rest.now c.in-Ok.more c.in-Ok.after.now
    (attributes_at (length c.args.bytes.now) c.args.end nothing c.args.bytes.now)
    c.in-Ok.ensures.shorter c.in-Ok.ensures.gives c.loop-rest.invariant

pub returns-in-Err : goal.returns-in-Err
returns-in-Err c =
    let lt : 0 < length c.loop-rest.rest.now = grind (arith, nat_tests) in
    ends_with c.in-Err.e c.args.end c.loop-rest.found c.loop-rest.rest.now
    (attributes_at (length c.args.bytes.now) c.args.end nothing c.args.bytes.now) lt
    c.in-Err.ensures.gives c.loop-rest.invariant

pub returns : goal.returns
returns c =
    is_done_with c.args.end c.loop-rest.found c.loop-rest.rest.now
    (attributes_at (length c.args.bytes.now) c.args.end nothing c.args.bytes.now)
    (eqb-true _ _ (sym c.loop-rest-test.ensures)) c.loop-rest.invariant
