use Rattle.std.proofs.Common.{◌≡◌, ◌++◌, ◌∙◌, ap, map}
use Rattle.std.proofs.lemmas.Result.{on_ok_weaker}
use Rattle.cn_net.specs.declared.device.Own.{Own}
use Rattle.cn_record.specs.Places.{at_device}
use Rattle.cn_record.proofs.Originating.{own_places}
use Rattle.cn_record.proofs.places.add_device.Goals as goal

pub returns-in-Some : goal.returns-in-Some
returns-in-Some c =
    let d = c.args.device in
    let old = c.args.places.now.items in
    let new = c.add_own.new.places.items in
    on_ok_weaker c.add_own.result
    (λ (e : new ≡ old ++ map (λ (o : Own). at_device d o.prefix) c.items.result.now).
    own_places c.args.net.now d c.in-Some.found.now old new c.in-Some.ensures
    (e ∙ ap (λ z. old ++ map (λ (o : Own). at_device d o.prefix) z) c.items.ensures))
    c.add_own.ensures
