use Rattle.std.proofs.Common.{map, refl}
use Rattle.std.specs.Prelude.{string_bytes}
use Rattle.cn_outside.specs.Scene.{scene}
use Rattle.cn_top.specs.Deed.{deed_view}
use Rattle.cn_top.specs.Form.{asked}
use Rattle.cn_top.specs.FormView.{form_view}
use Rattle.cn_top.proofs.Intents.{carried_on}
use Rattle.cn_top.proofs.top.run.Goals as goal

pub returns-in-Ok : goal.returns-in-Ok
returns-in-Ok g c =
    let printed = g.O.Out.printed c.args.out.now in
    carried_on (scene (g.S.Shelf.files c.args.shelf.now) printed)
    (scene (g.S.Shelf.files c.means.new.shelf) printed)
    (scene (g.S.Shelf.files c.carry_out.new.shelf) (g.O.Out.printed c.carry_out.new.out))
    (deed_view c.in-Ok.deed) c.carry_out.result c.means.ensures.keeps refl
    (asked (map string_bytes c.args.words.now)) (form_view c.form_of.result) c.form_of.ensures
    c.carry_out.ensures.reads c.in-Ok.ensures.intends c.carry_out.ensures.ends
