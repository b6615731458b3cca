use Rattle.std.proofs.Common.{◌∙◌, ap}
use Rattle.std.specs.FinMap as fin
use Rattle.cn_rib.proofs.Keyed.{keys_of_rows}
use Rattle.cn_rib.proofs.prefix_set.PrefixSet.rows.Goals as goal

pub returns : goal.returns
returns c =
    keys_of_rows (λ r. r.prefix) (λ r. r.value) c.rows.result.now c.self.inside.map c.rows.ensures
    ∙ ap fin.keys c.self.view_is
