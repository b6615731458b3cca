use Rattle.std.proofs.Common.{map, sym, ap, subst, ◌∙◌}
use Rattle.std.specs.Prelude.{◌↔◌, IsTrue, find}
use Rattle.std.specs.BTreeSet.{contains}
use Rattle.cn_net.specs.Islands.{label_of, outside_of}
use Rattle.cn_net.specs.Network.{asn_of}
use Rattle.cn_cert.specs.Refusal.{side_place}
use Rattle.cn_cert.specs.Steps.{IsFirstOfKind, IsSplit, id_cmp, is_of_another, with_system}
use Rattle.cn_cert.specs.declared.refusal.Refusal.TheVariants.{Facing}
use Rattle.cn_cert.proofs.Systems.{clean_side, has_other, refused_side}
use Rattle.cn_cert.proofs.sides.side_refusal.Goals as goal

pub returns-in-None : goal.returns-in-None
returns-in-None c =
    let net = c.args.net.now in
    let split = c.in_ok-islands.islands in
    let pairs =
    c.deref-2.ensures.value ∙ c.in_ok-with_systems.ensures
    ∙ ap (map (with_system net)) c.deref.ensures.value in
    clean_side net (outside_of c.args.emulated.now) (label_of c.args.names.now) c.args.side
    c.in_ok-facing.facing.items c.in_ok-facing.ensures split
    (λ i.
    subst (λ ps. IsTrue (contains id_cmp split i) ↔ IsSplit ps i) pairs (c.in_ok-islands.ensures i))
    (ap (find (λ m. contains id_cmp split m.key)) (sym c.deref-3.ensures.value)
    ∙ sym c.first_among.ensures ∙ c.in-None.is)

pub returns-in-Some-first_of_another : goal.returns-in-Some-first_of_another
returns-in-Some-first_of_another c =
    let net = c.args.net.now in
    let outside = outside_of c.args.emulated.now in
    let name = label_of c.args.names.now in
    let split = c.in_ok-islands.islands in
    let a = c.in-Some.a in
    let b = c.in-Some-first_of_another.b in
    let pairs =
    c.deref-2.ensures.value ∙ c.in_ok-with_systems.ensures
    ∙ ap (map (with_system net)) c.deref.ensures.value in
    let first = refused_side net outside name c.args.side
    c.in_ok-facing.facing.items c.in_ok-facing.ensures split
    (λ i. subst (λ ps. IsTrue (contains id_cmp split i) ↔ IsSplit ps i) pairs
    (c.in_ok-islands.ensures i))
    a
    (ap (find (λ m. contains id_cmp split m.key)) (sym c.deref-3.ensures.value)
    ∙ sym c.first_among.ensures ∙ c.in-Some.is)
    b
    (ap (find (is_of_another net a)) (sym c.deref-4.ensures.value)
    ∙ sym c.first_of_another.ensures ∙ c.in-Some-first_of_another.is) in
    subst (λ x. IsFirstOfKind net outside name (side_place c.args.side)
    (Facing c.args.side a.key a.device x b.device c.asn-in-Some-first_of_another.result))
    (sym c.asn.ensures)
    (subst (λ y. IsFirstOfKind net outside name (side_place c.args.side)
    (Facing c.args.side a.key a.device (asn_of net a.device) b.device y))
    (sym c.asn-in-Some-first_of_another.ensures) first)

pub returns : goal.returns
returns c =
    let net = c.args.net.now in
    let split = c.in_ok-islands.islands in
    let a = c.in-Some.a in
    let pairs =
    c.deref-2.ensures.value ∙ c.in_ok-with_systems.ensures
    ∙ ap (map (with_system net)) c.deref.ensures.value in
    absurd (has_other net (outside_of c.args.emulated.now) (label_of c.args.names.now) c.args.side
    c.in_ok-facing.facing.items c.in_ok-facing.ensures split
    (λ i.
    subst (λ ps. IsTrue (contains id_cmp split i) ↔ IsSplit ps i) pairs (c.in_ok-islands.ensures i))
    a
    (ap (find (λ m. contains id_cmp split m.key)) (sym c.deref-3.ensures.value)
    ∙ sym c.first_among.ensures ∙ c.in-Some.is)
    (ap (find (is_of_another net a)) (sym c.deref-4.ensures.value)
    ∙ sym c.first_of_another.ensures ∙ c.in-None-first_of_another.is))
