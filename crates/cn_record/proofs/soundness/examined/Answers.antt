use Rattle.std.proofs.lemmas.Result.{IfOk-weaker}
use Rattle.cn_record.proofs.Finding.{all_found}
use Rattle.cn_record.proofs.soundness.examined.Goals as goal

pub returns : goal.returns
returns c = IfOk-weaker c.first_unsound.result _ _
    (all_found c.args.certified.now c.valid.ensures c.args.saved.now c.args.prefixes.now c.requires)
    c.first_unsound.ensures
