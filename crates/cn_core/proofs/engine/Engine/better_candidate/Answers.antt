use Rattle.std.proofs.Common.{◌<◌, length, sym, ap, ◌∙◌, subst}
use Rattle.std.specs.Prelude.{IfSome, option_map}
use Rattle.std.specs.FinMap as fin
use Rattle.cn_net.specs.Candidates.{rank_of}
use Rattle.cn_net.specs.Exchange.{accept}
use Rattle.cn_pool.specs.Pool.{path_under}
use Rattle.cn_rib.specs.Interned.{attributes_under}
use Rattle.cn_core.specs.Learnt.{choice_with, learnt_choice}
use Rattle.cn_core.specs.State.{SessionState}
use Rattle.cn_core.specs.Stored.{Stored, session_under, stands_for}
use Rattle.cn_core.proofs.Changed.{found_session}
use Rattle.cn_core.proofs.Decided.{best_from, better-accepted, better-came_none, better-refused}
use Rattle.cn_core.proofs.StoredReads.{better-both}
use Rattle.cn_core.proofs.Under.{get-came}
use Rattle.cn_core.proofs.engine.Engine.better_candidate.Goals as goal

pub returns-in_default-clause-better : goal.returns-in_default-clause-better
returns-in_default-clause-better c =
    let n = c.args.self.now in
    let s = stands_for n in
    let d = c.args.device in
    let p = c.args.prefix.now in
    let here = c.args.session.now in
    let at = found_session s here.from d (session_under n.pool here) c.requires.there in
    better-came_none s d p here.from (learnt_choice n.pool c.args.best)
    (ap (option_map (attributes_under n.pool)) (sym c.in_default.is ∙ c.at.ensures)
    ∙ sym (get-came n.pool here p)
    ∙ ap (λ (x : SessionState). fin.get x.adj_rib_in p) (sym at))

pub returns-in_default-clause-under : goal.returns-in_default-clause-under
returns-in_default-clause-under c = c.requires.best

pub returns-then-not-accepts_path-clause-better : goal.returns-then-not-accepts_path-clause-better
returns-then-not-accepts_path-clause-better c =
    let n = c.args.self.now in
    let s = stands_for n in
    let d = c.args.device in
    let p = c.args.prefix.now in
    let here = c.args.session.now in
    let route = c.in-Some.route in
    let at = found_session s here.from d (session_under n.pool here) c.requires.there in
    let path = c.path.ensures ∙ ap (λ (t : Stored). path_under t.pool route.path) c.self.view_is in
    let net = c.net-net.ensures ∙ ap (λ (t : Stored). t.now.net) c.self.view_is in
    better-refused s d p here.from (learnt_choice n.pool c.args.best)
    (attributes_under n.pool route)
    (ap (option_map (attributes_under n.pool)) (sym c.in-Some.is ∙ c.at.ensures)
    ∙ sym (get-came n.pool here p)
    ∙ ap (λ (x : SessionState). fin.get x.adj_rib_in p) (sym at))
    ((λ i. accept (sym net i) d here.from
    (record { prefix = p; path = sym path i; origin = route.origin }))
    ∙ sym (c.accepts_path.ensures route.origin) ∙ c.if-not-accepts_path.true)

pub returns-then-not-accepts_path-clause-under : goal.returns-then-not-accepts_path-clause-under
returns-then-not-accepts_path-clause-under c = c.requires.best

pub returns-clause-better : goal.returns-clause-better
returns-clause-better c =
    let n = c.args.self.now in
    let s = stands_for n in
    let d = c.args.device in
    let p = c.args.prefix.now in
    let here = c.args.session.now in
    let route = c.in-Some.route in
    let at = found_session s here.from d (session_under n.pool here) c.requires.there in
    let path = c.path.ensures ∙ ap (λ (t : Stored). path_under t.pool route.path) c.self.view_is in
    let net = c.net-net.ensures ∙ ap (λ (t : Stored). t.now.net) c.self.view_is in
    let pool = ap (λ (t : Stored). t.pool) c.self.view_is in
    better-accepted s d p here.from n.pool c.args.best c.better.result route c.rank-rank.result
    (ap (option_map (attributes_under n.pool)) (sym c.in-Some.is ∙ c.at.ensures)
    ∙ sym (get-came n.pool here p)
    ∙ ap (λ (x : SessionState). fin.get x.adj_rib_in p) (sym at))
    ((λ i. accept (sym net i) d here.from
    (record { prefix = p; path = sym path i; origin = route.origin }))
    ∙ sym (c.accepts_path.ensures route.origin) ∙ c.if-not-accepts_path.false)
    (c.rank-rank.ensures
    ∙ (λ i. rank_of (net i) (choice_with here.from (attributes_under (pool i) route))))
    c.better.ensures

pub returns-clause-under : goal.returns-clause-under
returns-clause-under c =
    let n = c.args.self.now in
    let route = c.in-Some.route in
    subst (λ o. IfSome o (λ r. r.item.path.0 < length n.pool)) (sym c.better.ensures)
    (better-both (λ r. r.item.path.0 < length n.pool) c.args.best
    (record { rank = c.rank-rank.result; item = best_from c.args.session.now.from route })
    c.requires.best
    (c.requires.under.came.each c.args.prefix.now route (sym c.at.ensures ∙ c.in-Some.is)))
