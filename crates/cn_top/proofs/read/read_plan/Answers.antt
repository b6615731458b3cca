use Rattle.std.proofs.Common.{refl, rules}
use Rattle.cn_open.specs.Emulation.{plan_limit}
use Rattle.cn_open.specs.declared.fault.OpenFault.TheVariants.{NoPlan}
use Rattle.cn_open.specs.declared.fault.TextFault.TheVariants.{TooLong}
use Rattle.cn_top.proofs.Readings.{longer_read, read_once}
use Rattle.cn_top.proofs.read.read_plan.Goals as goal

-- a text that is too long is no plan
pub returns-in-Err-TooLong-clause-read : goal.returns-in-Err-TooLong-clause-read
returns-in-Err-TooLong-clause-read g c =
    let held = (g.S.Shelf.files c.args.shelf.now).held c.args.file.now in
    let long =
    longer_read held 16777216 c.in-Err-TooLong.field-0-0 c.in-Err-TooLong.field-0
    c.in-Err-TooLong.field-0-is c.in-Err-TooLong.ensures.content in
    let before = g.S.Shelf.files c.args.shelf.now in
    let after = g.S.Shelf.files c.read.new.self in
    let once =
    read_once c.args.file.now before after (search rules) (search rules) in (
      (long.0, long.1, (NoPlan (TooLong plan_limit), (refl, long.2), c.too_long.ensures)),
      once,
    )
