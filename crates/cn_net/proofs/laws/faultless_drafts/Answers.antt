use Rattle.cn_net.proofs.Making.{faultless_where, stands_for}
use Rattle.cn_net.proofs.laws.faultless_drafts.Goals as goal

pub returns : goal.returns
returns c = λ draft. (stands_for draft, faultless_where draft)
