use Rattle.std.proofs.Common.{◌≡◌, ◌∙◌, None, get_or, length, map, ap, subst, arith}
use Rattle.std.specs.List.{Contains, fold}
use Rattle.std.specs.Vec.{vec_len}
use Rattle.std.proofs.lemmas.List.{length-map}
use Rattle.std.proofs.lemmas.List.Elements.{Contains-get_or}
use Rattle.cn_net.specs.Sessions.{places_into}
use Rattle.cn_net.proofs.Senders.{sender_at}
use Rattle.cn_core.specs.Learnt.{learnt_choice}
use Rattle.cn_core.specs.Start.{ends_of}
use Rattle.cn_core.specs.Stored.{AreUnder, Stored, session_under, stands_for}
use Rattle.cn_core.specs.Whole.{IsWhole}
use Rattle.cn_core.proofs.Decided.{learnt_more, senders_are, with_came}
use Rattle.cn_core.proofs.Places.{into_found, into_within}
use Rattle.cn_core.proofs.StoredReads.{read_under, session_read}
use Rattle.cn_core.proofs.engine.Engine.learnt.Goals as goal

pub loop-place-init : goal.loop-place-init
loop-place-init c =
    let s = stands_for c.args.self.now in
    let d = c.args.device in
    let here =
    c.self.invariant.right.indexed
    ∙ ap (λ (t : Stored). ends_of (stands_for t).sessions) c.self.view_is in (
      ap (fold (λ best a. with_came s d c.args.prefix.now a best) None)
          (ap (map (sender_at c.self.inside.index)) c.into-place-items.ensures
          ∙ (λ i. map (sender_at (here i)) (places_into (here i) d))
          ∙ senders_are s
          (subst (λ (t : Stored). IsWhole (stands_for t)) c.self.view_is
          c.self.invariant.right.whole) d),
      tt,
    )

pub index-session-requires : goal.index-session-requires
index-session-requires c =
    let n = c.args.self.now in
    let s = stands_for n in
    let d = c.args.device in
    let here =
    c.self.invariant.right.indexed
    ∙ ap (λ (t : Stored). ends_of (stands_for t).sessions) c.self.view_is in
    let items = c.into-place-items.result.now in
    let k = get_or items c.loop-place.place-index 0 in
    let listed : Contains (places_into (ends_of s.sessions) d) k =
    subst (λ ps. Contains ps k)
    (c.into-place-items.ensures ∙ ap (λ es. places_into es d) here)
    (Contains-get_or items c.loop-place.place-index 0 c.loop-place-test.true) in
    let many = ap (λ (t : Stored). length t.sessions) c.self.view_is in
    let same = length-map n.sessions (session_under n.pool) in
    let counted : vec_len c.self.inside.sessions ≡ length c.self.inside.sessions.items =
    omega arith in
    omega (arith, into_within d s.sessions k listed, many, same, counted)

pub better_candidate-best-requires : goal.better_candidate-best-requires
better_candidate-best-requires c =
    let n = c.args.self.now in
    let s = stands_for n in
    let d = c.args.device in
    let here =
    c.self.invariant.right.indexed
    ∙ ap (λ (t : Stored). ends_of (stands_for t).sessions) c.self.view_is in
    let items = c.into-place-items.result.now in
    let k = get_or items c.loop-place.place-index 0 in
    let listed : Contains (places_into (ends_of s.sessions) d) k =
    subst (λ ps. Contains ps k)
    (c.into-place-items.ensures ∙ ap (λ es. places_into es d) here)
    (Contains-get_or items c.loop-place.place-index 0 c.loop-place-test.true) in
    let whole =
    subst (λ (t : Stored). IsWhole (stands_for t)) c.self.view_is c.self.invariant.right.whole in
    let x = c.index-session.result.now in
    let read : x ≡ get_or n.sessions k x =
    c.index-session.ensures ∙ ap (λ (t : Stored). get_or t.sessions k x) c.self.view_is in
    let within = into_within d s.sessions k listed in
    let found =
    into_found d s.sessions k (session_under n.pool x) whole.ascending listed
    (session_read n k x within read) in
    record {
      there = found.1;
      under = read_under n (subst AreUnder c.self.view_is c.self.invariant.under) k x within read;
      best = c.loop-place.invariant.1;
    }

pub loop-place-preserved : goal.loop-place-preserved
loop-place-preserved c =
    let n = c.args.self.now in
    let s = stands_for n in
    let d = c.args.device in
    let here =
    c.self.invariant.right.indexed
    ∙ ap (λ (t : Stored). ends_of (stands_for t).sessions) c.self.view_is in
    let items = c.into-place-items.result.now in
    let k = get_or items c.loop-place.place-index 0 in
    let listed : Contains (places_into (ends_of s.sessions) d) k =
    subst (λ ps. Contains ps k)
    (c.into-place-items.ensures ∙ ap (λ es. places_into es d) here)
    (Contains-get_or items c.loop-place.place-index 0 c.loop-place-test.true) in
    let whole =
    subst (λ (t : Stored). IsWhole (stands_for t)) c.self.view_is c.self.invariant.right.whole in
    let x = c.index-session.result.now in
    let read : x ≡ get_or n.sessions k x =
    c.index-session.ensures ∙ ap (λ (t : Stored). get_or t.sessions k x) c.self.view_is in
    let found =
    into_found d s.sessions k (session_under n.pool x) whole.ascending listed
    (session_read n k x (into_within d s.sessions k listed) read) in (
      learnt_more s d c.args.prefix.now c.self.inside.index items c.loop-place.place-index
          (learnt_choice n.pool c.loop-place.best)
          (learnt_choice n.pool c.better_candidate-best.result) x.from
          c.loop-place-test.true (ap (λ es. sender_at es k) here ∙ found.2)
          c.better_candidate-best.ensures.better
          ∙ c.loop-place.invariant.0,
      c.better_candidate-best.ensures.under,
    )

pub returns-clause-under : goal.returns-clause-under
returns-clause-under c = c.loop-place.invariant.1
