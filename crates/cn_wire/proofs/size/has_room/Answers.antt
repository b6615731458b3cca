use Rattle.std.proofs.Common.{ap, sym, ◌∙◌, ◌<◌, ◌≤◌, ◌≡◌, arith, length, ◌-◌, rules}
use Rattle.std.specs.Prelude.{is_some}
use Rattle.cn_wire.specs.Writing.{spelled_attrs}
use Rattle.cn_wire.specs.Sizes.{room_after}
use Rattle.cn_wire.proofs.Written.{fits_is, too_long, too_long_at_once}
use Rattle.cn_wire.proofs.size.has_room.Goals as goal

pub returns-in-None : goal.returns-in-None
returns-in-None c =
    too_long_at_once c.args.update.now
    (ap (room_after 4073) (sym c.items.ensures) ∙ sym c.room_after.ensures ∙ c.in-None.is)

pub returns-then-left-size : goal.returns-then-left-size
returns-then-left-size c =
    let lt : c.in-Some.left < length (spelled_attrs c.args.update.now.attrs) = omega arith in
    too_long c.args.update.now c.in-Some.left
    (ap (room_after 4073) (sym c.items.ensures) ∙ sym c.room_after.ensures ∙ c.in-Some.is) lt

pub returns-else-left-size : goal.returns-else-left-size
returns-else-left-size c =
    let le : c.size_of-size.result ≤ c.in-Some.left = omega arith in
    let b : c.is_some.result
    ≡ is_some (room_after (c.in-Some.left - c.size_of-size.result) c.args.update.now.announced) =
    search rules in
    fits_is c.args.update.now c.in-Some.left c.size_of-size.result c.is_some.result
    (ap (room_after 4073) (sym c.items.ensures) ∙ sym c.room_after.ensures ∙ c.in-Some.is)
    (sym c.size_of-size.ensures) le b
