use Rattle.cn_top.proofs.OneMeaning.{right_valid}
use Rattle.cn_top.proofs.laws.right_is_valid.Goals as goal

pub returns : goal.returns
returns c = λ form held deed. right_valid held form deed
