use Rattle.std.proofs.Common.{rules, ◌∙◌}
use Rattle.std.proofs.lemmas.Result.{IfOk-weaker}
use Rattle.std.specs.BTreeSet.{IsFromIterResult}
use Rattle.cn_cert.proofs.Splits.{split_where}
use Rattle.cn_cert.proofs.members.split.Goals as goal

pub returns : goal.returns
returns g c =
    IfOk-weaker c.collect.result (IsFromIterResult g.K.Ord.cmp c.deref.result.now) _
    (λ split made. split_where g.met.K.Ord.total c.requires c.args.pairs.now c.in_ok-numbers.numbers
    c.in_ok-numbers.ensures c.deref.result.now split (c.deref.ensures.value ∙ c.in_ok-apart.ensures)
    made)
    (search rules)
