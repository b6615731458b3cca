use Rattle.std.proofs.Common.{◌∙◌, ap, is_some, option_map, sym, true≢false}
use Rattle.std.proofs.lemmas.List.Quantifiers.{position-Some}
use Rattle.cn_base.specs.declared.ids.DeviceId.{DeviceId}
use Rattle.cn_lists.proofs.Finding.{find-no_position}
use Rattle.cn_net.specs.Network.{joins}
use Rattle.cn_net.specs.declared.device.Link.{Link}
use Rattle.cn_net.proofs.Turned.{set-turned}
use Rattle.cn_net.proofs.net.Net.with_link.Goals as goal

pub returns-in-Some : goal.returns-in-Some
returns-in-Some c =
    let net = c.args.self in
    let none : DeviceId = record { 0 = 0 } in
    let d : Link = record { a = none; b = none; up = c.args.up } in
    let at = position-Some (joins c.args.a c.args.b) net.links c.in-Some.place d
    (sym c.in-Some.ensures.place) in
    let turned =
    c.with_state.ensures.links d
    ∙ set-turned c.args.a c.args.b c.args.up net.links c.in-Some.place d c.valid.ensures.one_link
    at.0 at.1 in
    λ j. record { devices = c.with_state.ensures.devices j; links = turned j }

pub returns-in-None : goal.returns-in-None
returns-in-None c =
    absurd (true≢false (sym c.requires.linked
    ∙ ap (λ o. is_some (option_map (λ (l : Link). l.up) o))
    (find-no_position (joins c.args.a c.args.b) c.args.self.links (sym c.in-None.ensures.place))))
