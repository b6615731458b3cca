use Rattle.std.proofs.Common.{◌≡◌, ◌++◌, ◌∷◌, [], ℕ, List, Vec, Global, map, replicate, ap, ◌∙◌, arith}
use Rattle.std.proofs.lemmas.List.{map_push, replicate_more}
use Rattle.cn_net.proofs.sessions.empty_lists.Goals as goal

pub loop-init : goal.loop-init
loop-init c = ap (map (λ (v : Vec ℕ Global). v.items)) c.in_ok-lists.ensures.items

pub loop-preserved : goal.loop-preserved
loop-preserved c =
    let items = λ (v : Vec ℕ Global). v.items in
    let none : List ℕ = [] in
    ap (map items) c.in_ok-push.ensures.items
    ∙ map_push items c.loop.lists.items c.new.result
    ∙ (λ j. c.loop.invariant j ++ c.new.ensures.items j ∷ [])
    ∙ replicate_more c.loop.counter none

pub returns : goal.returns
returns c =
    let none : List ℕ = [] in
    let all : c.loop.counter ≡ c.args.count = omega arith in
    c.loop.invariant ∙ ap (λ n. replicate n none) all
