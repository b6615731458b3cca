use Rattle.cn_top.specs.Ending.{PutsFirst}
use Rattle.cn_top.proofs.deed.put_all.Given as goal

-- the texts before this one are put
abbrev pub invariant-loop-text : goal.invariant-loop-text
invariant-loop-text g l =
    PutsFirst l.text-index l.texts (g.O.Out.printed l.fn.out) (g.O.Out.printed l.out)
