use Rattle.std.proofs.Common.{◌≡◌, ◌≤◌, ◌<◌, get_or, length, refl, sym, ap, ◌∙◌, subst, arith}
use Rattle.std.proofs.lemmas.Bool.Decides.{nat_tests}
use Rattle.std.proofs.lemmas.List.{length-map}
use Rattle.cn_rib.specs.PrefixSet as prefixes
use Rattle.cn_rib.proofs.Keyed.{contains-empty}
use Rattle.cn_core.specs.State.{RibState}
use Rattle.cn_core.specs.Stored.{Stored, rib_under, stands_for}
use Rattle.cn_core.proofs.Access.{rib_past}
use Rattle.cn_core.proofs.Changed.{read_rib}
use Rattle.cn_core.proofs.StoredReads.{rib_read}
use Rattle.cn_core.proofs.engine.Engine.is_dirty.Goals as goal

pub returns-in-Some : goal.returns-in-Some
returns-in-Some c =
    let n = c.args.self.now in
    let s = stands_for n in
    let d = c.args.device in
    let y = c.in-Some.rib.now in
    let here : c.deref.result.now ≡ n.ribs =
    c.deref.ensures.value ∙ ap (λ (t : Stored). t.ribs) c.self.view_is in
    let there : d.0 < length c.deref.result.now =
    grind (arith, nat_tests, c.in-Some.ensures.lookup.0) in
    let within : d.0 < length s.ribs =
    omega (arith, there, ap length here, length-map n.ribs (rib_under n.pool)) in
    let read : y ≡ get_or n.ribs d.0 y =
    c.in-Some.ensures.lookup.1 ∙ ap (λ ys. get_or ys d.0 y) here in
    c.contains.ensures
    ∙ ap (λ (x : RibState). prefixes.contains x.dirty c.args.prefix.now)
    (read_rib s.now s.sessions s.ribs s refl d (rib_under n.pool y) within
    (rib_read n d.0 y within read))

pub returns-in-None : goal.returns-in-None
returns-in-None c =
    let n = c.args.self.now in
    let past : length n.ribs ≤ c.args.device.0 =
    subst (λ (t : Stored). length t.ribs ≤ c.args.device.0) c.self.view_is
    (subst (λ l. length l ≤ c.args.device.0) c.deref.ensures.value c.in-None.ensures.lookup.3) in
    let out : length (stands_for n).ribs ≤ c.args.device.0 =
    omega (arith, past, length-map n.ribs (rib_under n.pool)) in
    sym (ap (λ (x : RibState). prefixes.contains x.dirty c.args.prefix.now)
    (rib_past (stands_for n) c.args.device out)
    ∙ contains-empty c.args.prefix.now)
