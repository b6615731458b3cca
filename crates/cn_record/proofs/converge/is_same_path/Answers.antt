use Rattle.std.proofs.Common.{◌≡◌, ◌∙◌, ◌==◌, ap, eq-eqb}
use Rattle.std.specs.Bool.{Decides}
use Rattle.std.specs.Cmp.Lexicographic.{pointwise}
use Rattle.std.proofs.lemmas.Bool.{eqb-true}
use Rattle.std.proofs.lemmas.Slice.Eq.{slice_eq-Decides}
use Rattle.cn_base.specs.declared.ids.Asn.{Asn}
use Rattle.cn_record.proofs.converge.is_same_path.Goals as goal

same_asn : (x y : Asn) → Decides (x.0 == y.0) (x ≡ y)
same_asn x y = (
  (λ t. let e = eqb-true x.0 y.0 t in λ i. record { 0 = e i }),
  (λ e. eq-eqb x.0 y.0 (ap (λ (z : Asn). z.0) e)),
)

pub returns : goal.returns
returns c =
    let x = c.items.ensures.same in
    let y = c.items-2.ensures.same in
    slice_eq-Decides same_asn c.args.x.now c.args.y.now c.eq.result
    (c.eq.ensures ∙ (λ i. pointwise (λ (a b : Asn). a.0 == b.0) (x i) (y i)))
