use Rattle.std.proofs.Common.{◌<◌, List, ap, arith, get_or, length, map, set, subst, sym, ◌∙◌}
use Rattle.std.specs.Prelude.{IfSome, option_map}
use Rattle.std.proofs.lemmas.List.{length-map}
use Rattle.std.proofs.lemmas.Result.{on_ok_weaker}
use Rattle.cn_net.specs.Network.{Network}
use Rattle.cn_pool.proofs.Pools.{extends_itself}
use Rattle.cn_core.specs.declared.owed.Owed.{Owed}
use Rattle.cn_core.specs.declared.session.Session.{Session}
use Rattle.cn_core.specs.Machine.{decided, with_rib}
use Rattle.cn_core.specs.OwedLists.{AreListedFrom, count_of}
use Rattle.cn_core.specs.State.{CoreState, rib}
use Rattle.cn_core.specs.Stored.{Stored, choice_under, held_under, rib_under, session_under, stands_for}
use Rattle.cn_core.specs.Whole.{ArePlacesOf}
use Rattle.cn_core.proofs.Counted.{laid_of, recounted}
use Rattle.cn_core.proofs.ListsKept.{listed_from, state_of}
use Rattle.cn_core.proofs.StoredKept.{inside_ribs, kept-decided, read-held, read-under, stands-decided}
use Rattle.cn_core.proofs.Under.{held_after}
use Rattle.cn_core.proofs.engine.Engine.decide.Goals as goal

pub decide-done-requires-clause-listed : goal.decide-done-requires-clause-listed
decide-done-requires-clause-listed c =
    let s = stands_for c.args.self.now in
    let in' = c.self.inside in
    let d = c.args.device in
    let v = ap stands_for c.self.view_is in
    let ss = map (session_under in'.pool) in'.sessions.items in
    let rs = map (rib_under in'.pool) in'.ribs.items in
    let start = c.places_from-start.result.0 in
    let end = c.places_from-start.result.1 in
    let places =
    subst (λ (t : CoreState). ArePlacesOf d t.sessions start end) (sym v)
    c.places_from-start.ensures in
    let range : d.0 < length s.ribs =
    omega (arith, c.requires, length-map c.args.self.now.ribs (rib_under c.args.self.now.pool)) in
    let within =
    inside_ribs in'.certified in'.pool in'.pool in'.sessions.items in'.ribs.items
    (extends_itself in'.pool) c.self.invariant.under s v d.0 range in
    let y = c.index_mut-rib.result.now in
    let read_rib =
    read-under (rib_under in'.pool) in'.ribs.items d.0 y within c.index_mut-rib.ensures.value in
    subst (λ (t : Network × List Session). AreListedFrom t.0 (held_under in'.pool y.loc_rib)
    (map (session_under in'.pool) t.1) start end in'.owed.items)
    (λ j. (sym c.net-net.ensures j, sym c.deref.ensures.value j))
    (listed_from in'.certified ss rs in'.index in'.owed.items
    (laid_of (state_of in'.certified ss rs) in'.index in'.owed.items in'.in_mail in'.in_lists
    in'.in_ribs c.self.invariant.right)
    d start end places (rib_under in'.pool y)
    (subst (λ n. d.0 < n) (sym (length-map in'.ribs.items (rib_under in'.pool))) within)
    read_rib)

pub invariant_of-self : goal.invariant_of-self
invariant_of-self c =
    let s = stands_for c.args.self.now in
    let in' = c.self.inside in
    let d = c.args.device in
    let v = ap stands_for c.self.view_is in
    let ss = map (session_under in'.pool) in'.sessions.items in
    let rs = map (rib_under in'.pool) in'.ribs.items in
    let start = c.places_from-start.result.0 in
    let end = c.places_from-start.result.1 in
    let places =
    subst (λ (t : CoreState). ArePlacesOf d t.sessions start end) (sym v)
    c.places_from-start.ensures in
    let range : d.0 < length s.ribs =
    omega (arith, c.requires, length-map c.args.self.now.ribs (rib_under c.args.self.now.pool)) in
    let within =
    inside_ribs in'.certified in'.pool in'.pool in'.sessions.items in'.ribs.items
    (extends_itself in'.pool) c.self.invariant.under s v d.0 range in
    let y = c.index_mut-rib.result.now in
    let read_rib =
    read-under (rib_under in'.pool) in'.ribs.items d.0 y within c.index_mut-rib.ensures.value in
    let ny = c.decide-done.new.rib in
    let lists = c.decide-done.new.lists.items in
    kept-decided in'.certified in'.pool in'.sessions.items in'.ribs.items in'.index in'.owed.items
    in'.in_mail in'.in_lists in'.in_ribs c.self.invariant d start end places ny lists
    c.count.new.tally c.set.new.self within
    (subst (λ (t : Network × List Session). AreListedFrom t.0 (held_under in'.pool ny.loc_rib)
    (map (session_under in'.pool) t.1) start end lists)
    (λ j. (c.net-net.ensures j, c.deref.ensures.value j)) c.decide-done.ensures.listed)
    c.decide-done.ensures.elsewhere
    (recounted start end in'.owed.items lists in'.in_lists c.count.new.tally
    c.self.invariant.right.counted.owed c.decide-done.ensures.elsewhere c.count.ensures.many
    (λ k o ge lt. c.count.ensures.these k o ge lt
    ∙ ap (λ (ls : List Owed). count_of (get_or ls k o)) c.deref-2.ensures.value)
    c.count.ensures.elsewhere)
    (c.set.ensures ∙ ap (set in'.in_ribs d.0) c.len.ensures)
    (held_after in'.pool c.decide-done.result y ny c.args.prefix.now c.decided-choice.result
    (read-held in'.certified in'.pool in'.pool in'.sessions.items in'.ribs.items
    (extends_itself in'.pool) c.self.invariant.under d.0 y within c.index_mut-rib.ensures.value)
    (subst (λ (t : Stored). IfSome c.decided-choice.result (λ b. b.path.0 < length t.pool))
    (sym c.self.view_is) c.decided-choice.ensures.under)
    c.decide-done.ensures.ok c.decide-done.ensures.err)

pub returns-clause-ok : goal.returns-clause-ok
returns-clause-ok c =
    let s = stands_for c.args.self.now in
    let in' = c.self.inside in
    let d = c.args.device in
    let v = ap stands_for c.self.view_is in
    let ss = map (session_under in'.pool) in'.sessions.items in
    let rs = map (rib_under in'.pool) in'.ribs.items in
    let start = c.places_from-start.result.0 in
    let end = c.places_from-start.result.1 in
    let places =
    subst (λ (t : CoreState). ArePlacesOf d t.sessions start end) (sym v)
    c.places_from-start.ensures in
    let range : d.0 < length s.ribs =
    omega (arith, c.requires, length-map c.args.self.now.ribs (rib_under c.args.self.now.pool)) in
    let within =
    inside_ribs in'.certified in'.pool in'.pool in'.sessions.items in'.ribs.items
    (extends_itself in'.pool) c.self.invariant.under s v d.0 range in
    let y = c.index_mut-rib.result.now in
    let read_rib =
    read-under (rib_under in'.pool) in'.ribs.items d.0 y within c.index_mut-rib.ensures.value in
    on_ok_weaker c.decide-done.result
    (λ e. stands-decided in'.certified in'.pool in'.sessions.items in'.ribs.items s v d
    c.args.prefix.now y c.decide-done.new.rib c.decided-choice.result range within
    c.index_mut-rib.ensures.value e
    ∙ ap (λ o. with_rib s d (decided (rib s d) c.args.prefix.now o))
    (ap (λ (t : Stored). option_map (choice_under t.pool) c.decided-choice.result) c.self.view_is
    ∙ c.decided-choice.ensures.best))
    c.decide-done.ensures.ok
