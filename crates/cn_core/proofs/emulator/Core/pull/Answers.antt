use Rattle.std.proofs.Common.{List, sym, ap, ◌∙◌, subst}
use Rattle.std.specs.Prelude.{All}
use Rattle.cn_base.specs.declared.ids.DeviceId.{DeviceId}
use Rattle.cn_net.specs.Network.{Network, IsDevice}
use Rattle.cn_net.specs.Opening.{Opening}
use Rattle.cn_core.specs.Stored.{stands_for}
use Rattle.cn_core.proofs.Logged.{kept_of}
use Rattle.cn_core.proofs.Pulls.{pulled_again, pulled_quiet}
use Rattle.cn_core.proofs.emulator.Core.pull.Goals as goal

pub tables-requires : goal.tables-requires
tables-requires c =
    let k =
    kept_of c.self.inside.recorded.value c.self.inside.history.items
    (stands_for c.self.inside.engine) c.self.invariant.0 in
    subst (λ (n : Network). All (IsDevice n) c.self.inside.emulated) (sym (ap (λ
    (o : Opening). o.net) k.now))
    (subst (λ (e : List DeviceId). All (IsDevice c.self.inside.recorded.value.opening.net) e)
    (sym c.self.invariant.1) c.self.invariant.0.recorded.opening.devices)

pub returns-in_ok-tables-in-Quiet : goal.returns-in_ok-tables-in-Quiet
returns-in_ok-tables-in-Quiet c =
    pulled_quiet c.self.inside.recorded.value c.self.inside.history.items
    (stands_for c.self.inside.engine) c.args.self.now c.self.invariant.0 c.self.view_is
    c.self.inside.emulated
    c.in_ok-tables-in-Quiet.field-0 c.self.invariant.1 (sym c.in-Quiet.is ∙ c.standing.ensures)
    c.in_ok-tables-in-Quiet.ensures

pub returns-in_default : goal.returns-in_default
returns-in_default c =
    pulled_again c.self.inside.recorded.value c.self.inside.history.items
    (stands_for c.self.inside.engine) c.args.self.now c.self.invariant.0 c.self.view_is
    c.standing.result c.standing.ensures
    c.in_default.not-Quiet
