use Rattle.std.proofs.Common.{◌≡◌, ◌∙◌, arith, get_or, length, ap, subst, refl}
use Rattle.std.proofs.lemmas.List.{length-map}
use Rattle.cn_core.specs.Stored.{Stored, rib_under, stands_for}
use Rattle.cn_core.specs.Whole.{IsWhole}
use Rattle.cn_core.proofs.Changed.{device_within, read_rib}
use Rattle.cn_core.proofs.StoredReads.{rib_read}
use Rattle.cn_core.proofs.engine.Engine.rib.Goals as goal

pub index-requires : goal.index-requires
index-requires c =
    let n = c.args.self.now in
    let within =
    device_within (stands_for n) c.args.device
    (subst (λ (t : Stored). IsWhole (stands_for t)) c.self.view_is c.self.invariant.right.whole)
    c.requires in
    let many = length-map n.ribs (rib_under n.pool) in
    let same = ap (λ (t : Stored). length t.ribs) c.self.view_is in
    omega (arith, within, many, same)

pub returns : goal.returns
returns c =
    let n = c.args.self.now in
    let s = stands_for n in
    let y = c.index.result.now in
    let within =
    device_within s c.args.device
    (subst (λ (t : Stored). IsWhole (stands_for t)) c.self.view_is c.self.invariant.right.whole)
    c.requires in
    let read : y ≡ get_or n.ribs c.args.device.0 y =
    c.index.ensures
    ∙ ap (λ (t : Stored). get_or t.ribs c.args.device.0 y) c.self.view_is in
    read_rib s.now s.sessions s.ribs s refl c.args.device (rib_under n.pool y) within
    (rib_read n c.args.device.0 y within read)
