use Rattle.std.proofs.Common.{◌≡◌, ℕ, ◌+◌, ◌-◌, List, ◌++◌, Option, length, take, drop, rules, sym, ap, subst, ◌∙◌}
use Rattle.std.proofs.Math.Seq.{take-add}
use Rattle.std.proofs.lemmas.List.{places, take_rest}
use Rattle.std.specs.Io.KnownBytes.{Appends}
use Rattle.std.proofs.KnownBytes.{Appends-trans}
use Rattle.cn_outside.proofs.loops.write_all_of.Goals as goal

-- some more of what is left was taken
took_more : (a b c : Option (List ℕ)) (bytes : List ℕ) (done n : ℕ) → Appends a b (take done bytes)
    → Appends b c (take n (take (length bytes - done) (drop done bytes)))
    → Appends a c (take (done + n) bytes)
took_more a b c bytes done n first second =
    let rest : List ℕ = take n (take (length bytes - done) (drop done bytes)) in
    let joined : take done bytes ++ rest ≡ take (done + n) bytes =
    ap (λ (left : List ℕ). take done bytes ++ take n left) (take_rest bytes done)
    ∙ sym (take-add done n bytes) in
    subst (Appends a c) joined (Appends-trans a b c (take done bytes) rest first second)

pub loop-done-preserved : goal.loop-done-preserved
loop-done-preserved g c = record {
  within = search (rules, places);
  taken = took_more (g.W.Write.contents c.args.to.now) (g.W.Write.contents c.loop-done.to)
      (g.W.Write.contents c.write_once.new.to) c.args.bytes.now c.loop-done.done c.in-Ok.count
      c.loop-done.invariant.taken c.in-Ok.ensures.bytes;
}
