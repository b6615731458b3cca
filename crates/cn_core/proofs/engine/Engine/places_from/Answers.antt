use Rattle.std.proofs.Common.{◌≡◌, ◌∙◌, ◌<◌, ◌≤◌, ◌↔◌, ℕ, length, true, ap, subst}
use Rattle.cn_net.specs.Sessions.{comes_from}
use Rattle.cn_core.specs.Start.{ends_of}
use Rattle.cn_core.specs.Stored.{Stored, stands_for}
use Rattle.cn_core.proofs.Places.{places_found}
use Rattle.cn_core.proofs.engine.Engine.places_from.Goals as goal

pub returns : goal.returns
returns c =
    let s = stands_for c.args.self.now in
    let start = c.from-start.result.start in
    let end = c.from-start.result.end in
    let here =
    c.self.invariant.right.indexed
    ∙ ap (λ (t : Stored). ends_of (stands_for t).sessions) c.self.view_is in
    places_found c.args.device s.sessions start end
    (subst (λ es. end ≤ length es) here c.from-start.ensures.within)
    (subst (λ es. (k : ℕ) → ((start ≤ k) × (k < end)) ↔ (comes_from es c.args.device k ≡ true))
    here c.from-start.ensures.these)
