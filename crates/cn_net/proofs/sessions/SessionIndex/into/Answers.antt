use Rattle.std.proofs.Common.{◌≡◌, ◌≤◌, ◌∙◌, [], ℕ, Vec, Global, length, map, ap, sym, subst, arith}
use Rattle.std.proofs.lemmas.Bool.{ltb-false}
use Rattle.std.proofs.lemmas.List.{length-map}
use Rattle.cn_net.specs.Sessions.{places_into}
use Rattle.cn_net.proofs.Lookups.{no_places}
use Rattle.cn_net.proofs.sessions.SessionIndex.into.Goals as goal

pub returns-in-None : goal.returns-in-None
returns-in-None c =
    let d = c.args.device in
    let items = λ (v : Vec ℕ Global). v.items in
    let lists = c.self.inside.into.items in
    let past : length c.deref.result.now ≤ d.0 =
    ltb-false d.0 (length c.deref.result.now) (sym c.in-None.ensures.lookup.0) in
    let many : length c.deref.result.now ≡ length (map items lists) =
    ap length c.deref.ensures.value ∙ sym (length-map lists items) in
    subst (λ es. [] ≡ places_into es d) c.self.view_is
    (no_places c.self.inside.ends.items (length (map items lists)) d c.self.invariant.receivers
    (omega arith))
