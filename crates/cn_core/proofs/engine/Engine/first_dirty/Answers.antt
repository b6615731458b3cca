use Rattle.std.proofs.Common.{◌∙◌, subst, sym}
use Rattle.cn_net.specs.Network.{device_ids}
use Rattle.cn_core.specs.OwedLists.{IsRight}
use Rattle.cn_core.specs.Stored.{Stored, stands_for}
use Rattle.cn_core.proofs.Firsts.{dirt_found, dirt_of, dirts, slot_none}
use Rattle.cn_core.proofs.engine.Engine.first_dirty.Goals as goal

pub returns-in_err-device : goal.returns-in_err-device
returns-in_err-device c =
    let e = c.self.inside in
    let s = stands_for c.args.self.now in
    let right =
    subst (λ (t : Stored).
    IsRight (stands_for t) e.index e.owed.items e.in_mail e.in_lists e.in_ribs)
    c.self.view_is c.self.invariant.right in
    c.from_residual.ensures
    ∙ sym (slot_none (dirt_of s) (device_ids s.now.net) e.in_ribs
    (dirts s e.index e.owed.items e.in_mail e.in_lists e.in_ribs right)
    (sym c.in_err-device.ensures))

pub returns : goal.returns
returns c =
    let e = c.self.inside in
    let s = stands_for c.args.self.now in
    let right =
    subst (λ (t : Stored).
    IsRight (stands_for t) e.index e.owed.items e.in_mail e.in_lists e.in_ribs)
    c.self.view_is c.self.invariant.right in
    dirt_found s e.index e.owed.items e.in_mail e.in_lists e.in_ribs right
    c.in_ok-device.device (sym c.in_ok-device.ensures)
