use Rattle.std.proofs.Common.{◌≡◌, ◌∙◌, ℕ, ap, subst}
use Rattle.std.specs.Prelude.{◌≢◌, MatchOption, Some, slice_get}
use Rattle.cn_net.specs.Sessions.{Ascend}
use Rattle.cn_core.specs.Start.{ends_of}
use Rattle.cn_core.specs.Stored.{Stored, stands_for}
use Rattle.cn_core.proofs.Places.{place_found}
use Rattle.cn_core.proofs.engine.Engine.place.Goals as goal

pub returns : goal.returns
returns c =
    let s = stands_for c.args.self.now in
    let here =
    c.self.invariant.right.indexed
    ∙ ap (λ (t : Stored). ends_of (stands_for t).sessions) c.self.view_is in
    place_found c.args.from c.args.to s.sessions c.place.result
    (subst Ascend here c.valid.ensures)
    (subst (λ es. MatchOption c.place.result
    ((i : ℕ) → slice_get es i ≢ Some (record { from = c.args.from; to = c.args.to }))
    (λ i. slice_get es i ≡ Some (record { from = c.args.from; to = c.args.to })))
    here c.place.ensures)
