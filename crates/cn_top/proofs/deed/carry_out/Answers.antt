use Rattle.cn_outside.specs.Scene.{scene}
use Rattle.cn_top.specs.Deed.{deed_view}
use Rattle.cn_top.proofs.Endings.{ends_failed, ends_hungry}
use Rattle.cn_top.proofs.deed.carry_out.Goals as goal

pub returns-in-Err-Failed-put_all-clause-ends : goal.returns-in-Err-Failed-put_all-clause-ends
returns-in-Err-Failed-put_all-clause-ends g c =
    ends_failed (scene (g.S.Shelf.files c.args.shelf.now) (g.O.Out.printed c.args.out.now))
    (scene (g.S.Shelf.files c.write_one.new.shelf) (g.O.Out.printed c.put_all.new.out))
    (deed_view c.args.deed.now) c.in-Ok.ensures.write c.items.result.now
    c.in-Err-Failed-put_all.field-0 c.items.ensures c.in-Err-Failed-put_all.field-0-is
    c.in-Err-Failed-put_all.ensures

pub returns-in-Err-Memory-put_all-clause-ends : goal.returns-in-Err-Memory-put_all-clause-ends
returns-in-Err-Memory-put_all-clause-ends g c =
    ends_hungry (scene (g.S.Shelf.files c.args.shelf.now) (g.O.Out.printed c.args.out.now))
    (scene (g.S.Shelf.files c.write_one.new.shelf) (g.O.Out.printed c.put_all.new.out))
    (deed_view c.args.deed.now) c.in-Ok.ensures.write c.items.result.now
    c.in-Err-Memory-put_all.field-0 c.items.ensures c.in-Err-Memory-put_all.field-0-is
    c.in-Err-Memory-put_all.ensures
