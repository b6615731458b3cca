use Rattle.std.proofs.Common.{◌≡◌, map}
use Rattle.toml.specs.View.{members_view}
use Rattle.cn_table.specs.Tables.{unlisted}
use Rattle.cn_table.proofs.keys.only.Given as goal

abbrev pub invariant-loop-key : goal.invariant-loop-key
invariant-loop-key l =
    unlisted (map (λ k. k.now) l.listed) (members_view l.key-iterator)
    ≡ unlisted (map (λ k. k.now) l.listed) (members_view l.table.entries)
