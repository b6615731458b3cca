-- What the engine keeps is right at the start.
use Rattle.std.proofs.Common.{◌≡◌, ℕ, ◌≤◌, List, [], ◌∷◌, length, map, replicate, refl, sym, ap, ◌∙◌, arith}
use Rattle.std.proofs.lemmas.List.{length-map}
use Rattle.cn_net.specs.Limits.{session_count}
use Rattle.cn_net.specs.Sessions.{session_ends}
use Rattle.cn_net.specs.declared.sessions.SessionEnds.{SessionEnds}
use Rattle.cn_net.proofs.SessionCount.{as_many_sessions}
use Rattle.cn_record.specs.Recorded.{IsRecorded, RecordedOpening}
use Rattle.cn_core.specs.declared.owed.Owed.{Owed}
use Rattle.cn_core.specs.OwedLists.{AreListed, IsRight, count_of}
use Rattle.cn_core.specs.Start.{ends_of, first_ribs, first_sessions}
use Rattle.cn_core.specs.State.{RibState, SessionState, empty_session}
use Rattle.cn_core.proofs.Access.{ends_of-empty}
use Rattle.cn_core.proofs.Counted.{dirty_of, mail_of, right_of}
use Rattle.cn_core.proofs.ListsKept.{state_of}
use Rattle.cn_core.proofs.Logged.{start_whole}

-- no session has mail
no_mail : (es : List SessionEnds)
    → replicate (length es) 0 ≡ map mail_of (map (λ e. empty_session e.from e.to) es)
no_mail [] = refl
no_mail (e ∷ es) = ap (λ ns. 0 ∷ ns) (no_mail es)

-- there are as many sessions as are counted
pub many_sessions : (r : RecordedOpening) → IsRecorded r
    → length (first_sessions r.opening) ≡ session_count r.opening.net r.opening.emulated
unfolding first_sessions
many_sessions r recorded =
    length-map (session_ends r.opening.net r.opening.emulated) (λ e. empty_session e.from e.to)
    ∙ as_many_sessions r.opening.net r.opening.emulated recorded.opening.valid

pub started : (r : RecordedOpening) → IsRecorded r → (index : List SessionEnds)
    (ss : List SessionState) (rs : List RibState) (os : List Owed) (mail owed dirty : List ℕ)
    (slots : ℕ)
    → index ≡ session_ends r.opening.net r.opening.emulated → ss ≡ first_sessions r.opening
    → rs ≡ first_ribs r → AreListed (state_of r.opening ss rs) os → mail ≡ replicate slots 0
    → slots ≡ session_count r.opening.net r.opening.emulated → slots ≤ 32768
    → owed ≡ map count_of os → dirty ≡ map dirty_of rs
    → IsRight (state_of r.opening ss rs) index os mail owed dirty
unfolding first_sessions
started r recorded index ss rs os mail owed dirty slots ends sessions ribs listed mails count few
    owes dirties =
    let o = r.opening in
    let es = session_ends o.net o.emulated in
    let many = as_many_sessions o.net o.emulated recorded.opening.valid in
    right_of (state_of o ss rs) index os mail owed dirty
    (record {
      whole = start_whole r recorded o ss rs refl sessions ribs;
      indexed = ends ∙ sym (ap ends_of sessions ∙ ends_of-empty es);
      listed = listed;
    })
    (record {
      mail =
          mails ∙ ap (λ n. replicate n 0) (count ∙ sym many) ∙ no_mail es
          ∙ sym (ap (map mail_of) sessions);
      owed = owes;
      dirty = dirties;
      few = omega (arith, ap length sessions, many_sessions r recorded, count, few);
    })
