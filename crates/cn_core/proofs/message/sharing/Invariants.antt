use Rattle.std.proofs.Common.{◌≡◌, ◌++◌, drop, filter, map}
use Rattle.cn_wire.specs.Sizes.{longest_prefix_within}
use Rattle.cn_core.specs.OwedLists.{shares}
use Rattle.cn_core.specs.Stored.{held_under}
use Rattle.cn_core.proofs.message.sharing.Given as goal

abbrev pub invariant-loop-row : goal.invariant-loop-row
invariant-loop-row l =
    l.prefixes.items ++ longest_prefix_within l.left
    (filter
    (shares l.net l.session.from l.session.to (held_under l.pool l.best) l.attrs.path
    l.attrs.origin)
    (map (λ r. r.prefix) (drop l.row-index l.rows)))
    ≡ longest_prefix_within l.room
    (filter
    (shares l.net l.session.from l.session.to (held_under l.pool l.best) l.attrs.path
    l.attrs.origin)
    (map (λ r. r.prefix) l.rows))
