use Rattle.std.proofs.Common.{◌≡◌, ◌∙◌, ap, subst, sym}
use Rattle.cn_net.specs.Islands.{IsAscending, holds_device}
use Rattle.cn_net.proofs.Members.{searched}
use Rattle.cn_net.proofs.sets.DeviceSet.holds.Goals as goal

pub returns : goal.returns
returns c =
    let here : c.deref.result.now ≡ c.args.self.now = c.deref.ensures.value ∙ c.self.view_is in
    let up = subst IsAscending (sym here) (subst IsAscending c.self.view_is c.self.invariant) in
    c.is_ok.ensures.value ∙ searched c.deref.result.now c.args.d c.binary_search.result up
    c.binary_search.ensures.bound c.binary_search.ensures.position
    ∙ ap (λ z. holds_device z c.args.d) here
