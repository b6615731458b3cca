use Rattle.std.proofs.Common.{◌≡◌, ◌∙◌, Some, ap, false, get_or, option_map, sym}
use Rattle.cn_lists.proofs.Finding.{find-no_position, find-position}
use Rattle.cn_base.specs.declared.ids.DeviceId.{DeviceId}
use Rattle.cn_net.specs.Network.{joins}
use Rattle.cn_net.specs.declared.device.Link.{Link}
use Rattle.cn_net.proofs.net.Net.link.Goals as goal

pub returns-in-Some : goal.returns-in-Some
returns-in-Some c =
    let net = c.args.self.now in
    let place = c.in-Some.place in
    let none : DeviceId = record { 0 = 0 } in
    let d : Link = record { a = none; b = none; up = false } in
    let links : c.items.result.now ≡ net.links =
    c.items.ensures ∙ ap (λ x. x.links) c.self.view_is in
    (λ j. Some (get_or (links j) place d).up)
    ∙ ap (option_map (λ (l : Link). l.up))
    (sym (find-position (joins c.args.a c.args.b) net.links place d
    (sym c.in-Some.ensures.place)))

pub returns-in-None : goal.returns-in-None
returns-in-None c =
    ap (option_map (λ (l : Link). l.up))
    (sym (find-no_position (joins c.args.a c.args.b) c.args.self.now.links
    (sym c.in-None.ensures.place)))
