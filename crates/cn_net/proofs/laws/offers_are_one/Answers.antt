use Rattle.std.proofs.Common.{sym, ◌∙◌}
use Rattle.std.proofs.lemmas.Option.{same_Some}
use Rattle.cn_net.proofs.laws.offers_are_one.Goals as goal

pub returns : goal.returns
returns c = λ net a b r x y e f. same_Some x y (sym e ∙ f)
