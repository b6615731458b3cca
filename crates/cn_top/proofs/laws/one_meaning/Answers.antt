use Rattle.cn_top.proofs.OneMeaning.{one_meaning_of}
use Rattle.cn_top.proofs.laws.one_meaning.Goals as goal

pub returns : goal.returns
returns c = λ form held. one_meaning_of held form
