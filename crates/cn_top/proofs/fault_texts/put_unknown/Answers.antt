use Rattle.std.proofs.Common.{List, ℕ, ◌++◌, ap, ◌∙◌, append_assoc}
use Rattle.std.specs.Prelude.{codes}
use Rattle.std.proofs.lemmas.Result.{on_ok_weaker}
use Rattle.cn_top.proofs.fault_texts.put_unknown.Goals as goal

pub returns : goal.returns
returns c =
    on_ok_weaker c.put_text.result
    (λ e. e ∙ ap (λ (xs : List ℕ). xs ++ c.args.name.now) c.in_ok-extend_from_slice.ensures.items
    ∙ append_assoc c.args.text.now.items (codes "unknown name ") c.args.name.now)
    c.put_text.ensures
