use Rattle.std.proofs.Common.{length, map, ap, ◌∙◌, subst, arith}
use Rattle.std.proofs.lemmas.List.{length-map}
use Rattle.cn_net.specs.Limits.{session_count}
use Rattle.cn_net.specs.Opening.{Opening}
use Rattle.cn_net.specs.Sessions.{session_ends}
use Rattle.cn_core.specs.OwedLists.{AreListed, count_of}
use Rattle.cn_core.specs.Start.{start}
use Rattle.cn_core.specs.Stored.{Stored, rib_under, session_under, stands_for}
use Rattle.cn_core.proofs.Counted.{dirty_of}
use Rattle.cn_core.proofs.FirstHeld.{dirty-under, empty_first, senders-under, sessions-made, sessions-under}
use Rattle.cn_core.proofs.Logged.{start_senders, start_whole}
use Rattle.cn_core.proofs.Starting.{many_sessions, started}
use Rattle.cn_core.proofs.start.made.Goals as goal

pub returns-clause-start : goal.returns-clause-start
unfolding start
returns-clause-start c =
    let r = c.args.recorded.now in
    let pool = c.ribs.new.pool in
    let now = c.net-net.ensures ∙ ap (λ (z : Opening). z.net) c.certified-certified.ensures in
    let set =
    c.emulated-emulated.ensures ∙ ap (λ (z : Opening). z.emulated) c.certified-certified.ensures in
    let sessions =
    sessions-made pool c.in_ok-index.index c.in_ok-sessions.sessions.items c.in_ok-sessions.ensures
    r.opening (c.in_ok-index.ensures ∙ (λ i. session_ends (now i) (set i))) in
    λ i. record { now = r.opening; sessions = sessions i; ribs = c.in_ok-ribs.ensures.ribs i }

pub lists-requires : goal.lists-requires
lists-requires c =
    let r = c.args.recorded.now in
    let pool = c.ribs.new.pool in
    let now = c.net-net.ensures ∙ ap (λ (z : Opening). z.net) c.certified-certified.ensures in
    let set =
    c.emulated-emulated.ensures ∙ ap (λ (z : Opening). z.emulated) c.certified-certified.ensures in
    let sessions =
    sessions-made pool c.in_ok-index.index c.in_ok-sessions.sessions.items c.in_ok-sessions.ensures
    r.opening (c.in_ok-index.ensures ∙ (λ i. session_ends (now i) (set i))) in
    senders-under pool c.deref.result.now c.deref-2.result.now
    (start_senders r c.valid.ensures (map (session_under pool) c.deref.result.now)
    (map (rib_under pool) c.deref-2.result.now)
    (ap (map (session_under pool)) c.deref.ensures.value ∙ sessions)
    (ap (map (rib_under pool)) c.deref-2.ensures.value ∙ c.in_ok-ribs.ensures.ribs))

pub counted_lists-requires : goal.counted_lists-requires
counted_lists-requires c =
    let r = c.args.recorded.now in
    let pool = c.ribs.new.pool in
    let now = c.net-net.ensures ∙ ap (λ (z : Opening). z.net) c.certified-certified.ensures in
    let set =
    c.emulated-emulated.ensures ∙ ap (λ (z : Opening). z.emulated) c.certified-certified.ensures in
    let sessions =
    sessions-made pool c.in_ok-index.index c.in_ok-sessions.sessions.items c.in_ok-sessions.ensures
    r.opening (c.in_ok-index.ensures ∙ (λ i. session_ends (now i) (set i))) in
    omega (
      arith,
      ap length c.deref-3.ensures.value,
      c.in_ok-owed.ensures.many,
      ap length (ap (map (session_under pool)) c.deref.ensures.value ∙ sessions),
      many_sessions r c.valid.ensures,
      c.session_count-slots.ensures.count ∙ (λ i. session_count (now i) (set i)),
      c.session_count-slots.ensures.few,
    )

pub counted_ribs-requires : goal.counted_ribs-requires
counted_ribs-requires c =
    let r = c.args.recorded.now in
    let pool = c.ribs.new.pool in
    let ribs = c.in_ok-ribs.ribs.items in
    let now = c.net-net.ensures ∙ ap (λ (z : Opening). z.net) c.certified-certified.ensures in
    let set =
    c.emulated-emulated.ensures ∙ ap (λ (z : Opening). z.emulated) c.certified-certified.ensures in
    let sessions =
    sessions-made pool c.in_ok-index.index c.in_ok-sessions.sessions.items c.in_ok-sessions.ensures
    r.opening (c.in_ok-index.ensures ∙ (λ i. session_ends (now i) (set i))) in
    let whole =
    start_whole r c.valid.ensures r.opening
    (map (session_under pool) c.in_ok-sessions.sessions.items) (map (rib_under pool) ribs)
    (λ _. r.opening) sessions c.in_ok-ribs.ensures.ribs in
    omega (
      arith,
      ap length c.deref-4.ensures.value,
      length-map ribs (rib_under pool),
      whole.ribs,
      whole.few,
    )

pub returns-clause-right : goal.returns-clause-right
returns-clause-right c =
    let r = c.args.recorded.now in
    let pool = c.ribs.new.pool in
    let sessions = c.in_ok-sessions.sessions.items in
    let ribs = c.in_ok-ribs.ribs.items in
    let now = c.net-net.ensures ∙ ap (λ (z : Opening). z.net) c.certified-certified.ensures in
    let set =
    c.emulated-emulated.ensures ∙ ap (λ (z : Opening). z.emulated) c.certified-certified.ensures in
    let ends = c.in_ok-index.ensures ∙ (λ i. session_ends (now i) (set i)) in record {
      right =
          started r c.valid.ensures c.in_ok-index.index (map (session_under pool) sessions)
          (map (rib_under pool) ribs) c.in_ok-owed.owed.items c.in_ok-in_mail.in_mail
          c.in_ok-in_lists.in_lists c.in_ok-in_ribs.in_ribs c.session_count-slots.result ends
          (sessions-made pool c.in_ok-index.index sessions c.in_ok-sessions.ensures r.opening ends)
          c.in_ok-ribs.ensures.ribs
          (subst (λ (s : Stored). AreListed (stands_for s) c.in_ok-owed.owed.items)
          (λ i. record {
            now = c.certified-certified.ensures i;
            pool = pool;
            sessions = c.deref.ensures.value i;
            ribs = c.deref-2.ensures.value i;
          })
          c.in_ok-owed.ensures)
          c.in_ok-in_mail.ensures
          (c.session_count-slots.ensures.count ∙ (λ i. session_count (now i) (set i)))
          c.session_count-slots.ensures.few
          (c.in_ok-in_lists.ensures ∙ ap (map count_of) c.deref-3.ensures.value)
          (c.in_ok-in_ribs.ensures ∙ dirty-under pool c.deref-4.result.now
          ∙ ap (λ ys. map dirty_of (map (rib_under pool) ys)) c.deref-4.ensures.value);
      under = record {
        empty =
            empty_first c.in_ok-pool.pool pool c.in_ok-pool.ensures c.in_ok-ribs.ensures.kept;
        sessions = sessions-under pool c.in_ok-index.index sessions c.in_ok-sessions.ensures;
        ribs = c.in_ok-ribs.ensures.under;
      };
    }
