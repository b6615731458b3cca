use Rattle.std.proofs.Common.{◌<◌, List, None, Some, length, sym, ap, ◌∙◌, subst}
use Rattle.std.specs.Prelude.{IfSome, Option, option_map}
use Rattle.cn_base.specs.declared.ids.Asn.{Asn}
use Rattle.cn_base.specs.declared.route.Choice.{Choice}
use Rattle.cn_net.specs.Network.{own_origin}
use Rattle.cn_core.specs.Learnt.{learnt_choice}
use Rattle.cn_core.specs.Stored.{AreUnder, Stored, choice_under, stands_for}
use Rattle.cn_core.proofs.Decided.{learnt_decided, own_decided}
use Rattle.cn_core.proofs.StoredReads.{first_within, path_of_first}
use Rattle.cn_core.proofs.engine.Engine.decided.Goals as goal

pub returns-in-Some-clause-best : goal.returns-in-Some-clause-best
returns-in-Some-clause-best c =
    let n = c.args.self.now in
    let d = c.args.device in
    let p = c.args.prefix.now in
    let net =
    ap (λ m. own_origin m d p) (c.net.ensures ∙ ap (λ (t : Stored). t.now.net) c.self.view_is) in
    let choice : List Asn → Option Choice =
    λ q. Some (record { from = None; path = q; origin = c.in-Some.origin }) in
    ap choice (path_of_first n (subst AreUnder c.self.view_is c.self.invariant.under))
    ∙ own_decided (stands_for n) d p c.in-Some.origin
    (sym c.in-Some.is ∙ c.own_origin.ensures ∙ net)

pub returns-in-Some-clause-under : goal.returns-in-Some-clause-under
returns-in-Some-clause-under c =
    first_within c.args.self.now (subst AreUnder c.self.view_is c.self.invariant.under)

pub returns-in_err-best-clause-best : goal.returns-in_err-best-clause-best
returns-in_err-best-clause-best c =
    let n = c.args.self.now in
    let d = c.args.device in
    let p = c.args.prefix.now in
    let net =
    ap (λ m. own_origin m d p) (c.net.ensures ∙ ap (λ (t : Stored). t.now.net) c.self.view_is) in
    ap (option_map (choice_under n.pool)) c.from_residual.ensures
    ∙ learnt_decided (stands_for n) d p (sym c.in_default.is ∙ c.own_origin.ensures ∙ net)
    n.pool None (ap (learnt_choice n.pool) (sym c.in_err-best.was) ∙ c.learnt.ensures.best)

pub returns-in_err-best-clause-under : goal.returns-in_err-best-clause-under
returns-in_err-best-clause-under c =
    subst (λ o. IfSome o (λ b. b.path.0 < length c.args.self.now.pool))
    (sym c.from_residual.ensures) tt

pub returns-clause-best : goal.returns-clause-best
returns-clause-best c =
    let n = c.args.self.now in
    let d = c.args.device in
    let p = c.args.prefix.now in
    let net =
    ap (λ m. own_origin m d p) (c.net.ensures ∙ ap (λ (t : Stored). t.now.net) c.self.view_is) in
    learnt_decided (stands_for n) d p (sym c.in_default.is ∙ c.own_origin.ensures ∙ net)
    n.pool (Some c.in_ok-best.best)
    (ap (learnt_choice n.pool) (sym c.in_ok-best.was) ∙ c.learnt.ensures.best)

pub returns-clause-under : goal.returns-clause-under
returns-clause-under c =
    subst (λ o. IfSome o (λ r. r.item.path.0 < length c.args.self.now.pool)) c.in_ok-best.was
    c.learnt.ensures.under
