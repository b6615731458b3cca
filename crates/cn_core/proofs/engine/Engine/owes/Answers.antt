use Rattle.std.proofs.Common.{ap, ◌<◌, sym, subst}
use Rattle.std.proofs.lemmas.List.{length-map}
use Rattle.cn_core.specs.Stored.{session_under, stands_for}
use Rattle.cn_core.proofs.Counted.{laid_of}
use Rattle.cn_core.proofs.ListsKept.{owes-listed}
use Rattle.cn_core.proofs.engine.Engine.owes.Goals as goal

pub returns : goal.returns
returns c x =
    let n = c.args.self.now in
    let e = c.self.inside in
    let was =
    stands_for (record {
      now = e.certified;
      pool = e.pool;
      sessions = e.sessions.items;
      ribs = e.ribs.items;
    }) in
    owes-listed was.now was.sessions was.ribs e.index e.owed.items
    (laid_of was e.index e.owed.items e.in_mail e.in_lists e.in_ribs c.self.invariant.right)
    (stands_for n) (ap stands_for c.self.view_is)
    c.args.place c.index.result.now c.is_empty.result
    (subst (λ l. c.args.place < l) (sym (length-map n.sessions (session_under n.pool))) c.requires)
    c.index.ensures c.is_empty.ensures x
