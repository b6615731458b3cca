use Rattle.std.proofs.Common.{◌≡◌, ◌∙◌, List, ap, arith, get_or, length, map, set, sym}
use Rattle.std.proofs.lemmas.List.{get_or_default}
use Rattle.cn_base.specs.declared.ids.DeviceId.{DeviceId}
use Rattle.cn_net.specs.Alike.{ends_of}
use Rattle.cn_net.specs.Changed.{with_state}
use Rattle.cn_net.specs.declared.device.Link.{Link}
use Rattle.cn_net.proofs.Turned.{AreNeighbours-ends, IsValid-ends, ends-set}
use Rattle.cn_net.proofs.net.Net.with_state.Goals as goal
use Rattle.cn_net.proofs.net.Net.with_state.Goals.{After-make}

written : (c : After-make) (l : Link)
    → c.make.result
    ≡ set c.self.inside.links c.args.place
    (with_state c.args.up (get_or c.self.inside.links c.args.place l))
written c l =
    let links : List Link = c.self.inside.links in
    let place = c.args.place in
    let n : Link = c.index_mut.result.now in
    let vec : c.into_vec-links.result.items ≡ links = c.into_vec-links.ensures in
    let many = ap (λ x. length x.links) c.self.view_is in
    let here : n ≡ get_or links place l =
    c.index_mut.ensures.value ∙ ap (λ ls. get_or ls place n) vec
    ∙ get_or_default links place n l (omega (arith, many, c.requires)) in
    c.make.ensures ∙ (λ j. set (vec j) place (with_state c.args.up (here j)))

pub invariant_of-result : goal.invariant_of-result
invariant_of-result c =
    let links : List Link = c.self.inside.links in
    let kept = c.self.invariant in
    let none : DeviceId = record { 0 = 0 } in
    let d : Link = record { a = none; b = none; up = c.args.up } in
    let same : map ends_of links ≡ map ends_of c.make.result =
    sym (ap (map ends_of) (written c d) ∙ ends-set links c.args.place c.args.up d) in
    record {
      valid =
          IsValid-ends (record { devices = c.self.inside.devices; links = links }) c.make.result
          same kept.valid;
      named = kept.named;
      joined =
          AreNeighbours-ends links c.make.result same c.self.inside.neighbours.items kept.joined;
      begun = kept.begun;
      originated = kept.originated;
    }

pub returns : goal.returns
returns c =
    let links = ap (λ x. x.links) c.self.view_is in
    record {
      devices = ap (λ x. x.devices) c.self.view_is;
      links = λ l.
          written c l
          ∙ (λ j. set (links j) c.args.place
          (with_state c.args.up (get_or (links j) c.args.place l)));
    }
