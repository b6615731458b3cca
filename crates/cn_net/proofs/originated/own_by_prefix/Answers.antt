use Rattle.std.proofs.Common.{◌≡◌, ◌+◌, ◌<◌, ◌∷◌, ◌++◌, [], ◌∙◌, List, ap, arith, length, subst, sym, take}
use Rattle.std.proofs.lemmas.List.{take_more}
use Rattle.cn_net.specs.Kept.{AreOwn, IsByPrefix}
use Rattle.cn_net.specs.declared.device.Device.{Device}
use Rattle.cn_net.specs.declared.device.Own.{Own}
use Rattle.cn_net.proofs.ByPrefix.{AllZip-push}
use Rattle.cn_net.proofs.originated.own_by_prefix.Goals as goal

pub loop-device-preserved : goal.loop-device-preserved
loop-device-preserved c =
    let devices = c.args.devices.now in
    let lists = c.loop-device.lists.items in
    let i = c.loop-device.device-index in
    let x : Device = c.device-item.result in
    let list : List Own = c.in_ok-by_prefix.field-0 in
    let one : IsByPrefix x.body.own list =
    subst (λ own. IsByPrefix own list) c.items.ensures c.in_ok-by_prefix.ensures in
    let more : AreOwn (take i devices ++ x ∷ []) (lists ++ list ∷ []) =
    AllZip-push (λ (d : Device) (l : List Own). IsByPrefix d.body.own l) (take i devices) lists x
    list c.loop-device.invariant one in
    let within : i < length devices = omega arith in
    let grown : take i devices ++ x ∷ [] ≡ take (i + 1) devices =
    ap (λ y. take i devices ++ y ∷ []) c.device-item.is ∙ sym (take_more devices i x within) in
    subst (λ ds. AreOwn ds c.push.new.self.items) grown
    (subst (AreOwn (take i devices ++ x ∷ [])) (sym c.in_ok-push.ensures.items) more)
