use Rattle.std.proofs.Common.{◌∙◌, ap, flat_map}
use Rattle.std.proofs.lemmas.List.{take_all}
use Rattle.cn_net.specs.Islands.{label_of, outside_of}
use Rattle.cn_cert.specs.Refusal.{Faces}
use Rattle.cn_cert.specs.Steps.{faced_by, id_cmp}
use Rattle.cn_cert.proofs.Facings.{faces_are}
use Rattle.cn_cert.proofs.Finding.{sorted_members}
use Rattle.cn_cert.proofs.sides.facing.Goals as goal

pub returns : goal.returns
returns c =
    let net = c.args.net.now in
    let outside = outside_of c.args.emulated.now in
    let name = label_of c.args.names.now in
    let found = c.loop-link.facing.items in
    let all = take_all c.loop-link.link-index c.links-link-items.result.now c.loop-link-test.false
    ∙ c.links-link-items.ensures in
    sorted_members {R = id_cmp} (Faces net outside name c.args.side) found
    c.sort_unstable.new.self.items
    (faces_are net outside name c.args.side found c.valid.ensures.ends
    (c.loop-link.invariant ∙ ap (flat_map (faced_by outside name c.args.side)) all))
    c.sort_unstable.ensures.permutation c.sort_unstable.ensures.sorted
