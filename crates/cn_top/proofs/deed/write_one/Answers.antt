use Rattle.std.proofs.Common.{rules}
use Rattle.cn_top.proofs.Endings.{held_hungry, same_at_all}
use Rattle.cn_top.proofs.deed.write_one.Goals as goal

pub returns-in-Err-Memory-clause-write : goal.returns-in-Err-Memory-clause-write
returns-in-Err-Memory-clause-write g c =
    let before = g.S.Shelf.files c.args.shelf.now in
    let after = g.S.Shelf.files c.write.new.self in
    let name = c.in-Some.written.name.now in
    let e = c.in-Err-Memory.ensures in
    record {
      held = same_at_all name before.held after.held e.others
          (held_hungry c.items.result.now (before.held name) (after.held name)
          c.in-Err-Memory.field-0 c.in-Err-Memory.field-0-is e.content);
      writes = search rules;
      faults = search rules;
    }
