use Rattle.std.proofs.Common.{◌≡◌, ◌++◌, ◌∙◌, List, ap, map}
use Rattle.std.proofs.lemmas.Result.{on_ok_weaker}
use Rattle.cn_net.specs.declared.device.Own.{Own}
use Rattle.cn_cert.specs.Steps.{member}
use Rattle.cn_cert.proofs.Prefixes.{device_added}
use Rattle.cn_cert.proofs.origins.add_device.Goals as goal

pub returns-in-Some : goal.returns-in-Some
returns-in-Some c =
    let before = c.args.members.now.items in
    let after = c.add_own.new.members.items in
    let added =
    λ (own : List Own). before ++ map (λ (o : Own). member o.prefix c.args.device) own in
    on_ok_weaker c.add_own.result
    (λ (e : after ≡ added c.items.result.now).
    device_added c.args.net.now c.args.device c.in-Some.found.now before after c.in-Some.ensures
    (e ∙ ap added c.items.ensures))
    c.add_own.ensures
