use Rattle.std.proofs.Common.{◌≡◌, true, cond, ap, ◌∙◌}
use Rattle.std.proofs.lemmas.Result.{IfOk-weaker}
use Rattle.cn_net.specs.Islands.{holds_device}
use Rattle.cn_net.specs.Opening.{Opening}
use Rattle.cn_core.specs.Start.{emulated_rib, speaker_rib}
use Rattle.cn_core.proofs.FirstHeld.{none_held}
use Rattle.cn_core.proofs.start.rib.Goals as goal

pub returns-then-holds-clause-rib : goal.returns-then-holds-clause-rib
returns-then-holds-clause-rib c =
    let r = c.args.recorded.now in
    let d = c.args.device in
    let now = c.certified-certified.ensures in
    let holds : true ≡ holds_device r.opening.emulated d =
    c.if-holds.ensures
    ∙ ap (λ set. holds_device set d)
    (c.emulated.ensures ∙ ap (λ (o : Opening). o.emulated) now) in
    IfOk-weaker c.emulated_rib.result _ _
    (λ y is.
    (none_held c.args.pool.now y (emulated_rib r.opening d).dirty is.0
    (is.1 ∙ ap (λ o. (emulated_rib o d).dirty) now)).0
    ∙ ap (λ b. cond b (emulated_rib r.opening d) (speaker_rib r d)) holds)
    c.emulated_rib.ensures

pub returns-then-holds-clause-under : goal.returns-then-holds-clause-under
returns-then-holds-clause-under c =
    IfOk-weaker c.emulated_rib.result _ _
    (λ y is. (none_held c.args.pool.now y y.dirty is.0 (λ _. y.dirty)).1) c.emulated_rib.ensures
