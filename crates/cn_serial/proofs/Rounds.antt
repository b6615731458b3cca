-- Rounds: what comes next in one, that there is one list of them, and that they are a run.
use Rattle.std.proofs.Common.{◌≡◌, ◌+◌, ◌<◌, ℕ, Bool, true, false, List, [], ◌∷◌, ◌++◌, length, Option, Some, None, refl, sym, ap, ◌∙◌, subst, inr, arith, true≢false}
use Rattle.std.specs.Prelude.{◌&&◌, ◌||◌, All, IsTrue, is_some, nat_lt, option_map}
use Rattle.std.specs.FinMap as fin
use Rattle.std.specs.List.{find}
use Rattle.std.proofs.lemmas.Bool.Decides.{nat_tests}
use Rattle.std.proofs.lemmas.List.Elements.{All-weaker}
use Rattle.cn_base.specs.declared.ids.DeviceId.{DeviceId}
use Rattle.cn_rib.specs.PrefixSet as prefixes
use Rattle.cn_rib.proofs.Keyed.{least_of_empty, least_there}
use Rattle.cn_net.specs.Network.{device_ids, same_device}
use Rattle.cn_net.specs.Sessions.{Ascend}
use Rattle.cn_record.specs.Recorded.{RecordedOpening}
use Rattle.cn_core.specs.declared.event.Event.{Event}
use Rattle.cn_core.specs.declared.event.Event.TheVariants.{Decide}
use Rattle.cn_core.specs.declared.event.Step.{Step}
use Rattle.cn_core.specs.declared.event.Step.TheVariants.{Work, Mark}
use Rattle.cn_core.specs.Laws.{IsKept}
use Rattle.cn_core.specs.Machine.{IsRunFrom, can, state}
use Rattle.cn_core.specs.Order.{IsQuiet, first_pending, has_mail, is_pending, owes_from, receive_over, send_over}
use Rattle.cn_core.specs.Play.{AreWork, after}
use Rattle.cn_core.specs.Owed.{owed_by, owes}
use Rattle.cn_core.specs.Start.{ends_of}
use Rattle.cn_core.specs.State.{CoreState, SessionState, rib, session}
use Rattle.cn_core.proofs.Kept.{kept_run, run_holds}
use Rattle.cn_core.proofs.Owes.{owes-empty}
use Rattle.cn_core.proofs.Play.{after_append, run_append}
use Rattle.cn_core.proofs.Searches.{apart, found_apart, found_one, found_passes, none_passes, nothing_found, session_found}
use Rattle.cn_core.proofs.Stands.{quiet_stands, stands_quiet}
use Rattle.cn_serial.specs.Rounds.{AreRounds, FollowsOut, IsQuietWork, IsRound, Round, RoundLaw, decision_of, exchange_of, has_dirty, next_decision, next_exchange, steps_of, steps_of_all}
use Rattle.cn_serial.proofs.SerialPlay.{follows_run, follows_work, one_of}

-- ---- what comes next is enabled

receive_enabled : (s : CoreState) (x : SessionState) → Ascend (ends_of s.sessions)
    → find has_mail s.sessions ≡ Some x → IsTrue (can s (receive_over x))
receive_enabled s x apart f =
    ap (λ (y : SessionState). nat_lt 0 (length y.mail)) (session_found has_mail s x apart f)
    ∙ found_passes has_mail s.sessions x f

room_without_mail : (l : ℕ) → nat_lt 0 l ≡ false → nat_lt l 64 ≡ true
room_without_mail l e = grind (arith, nat_tests)

send_enabled : (s : CoreState) (x : SessionState) → Ascend (ends_of s.sessions)
    → find has_mail s.sessions ≡ None → find (owes s) s.sessions ≡ Some x
    → IsTrue (can s (send_over x))
send_enabled s x apart none e =
    let at = session_found (owes s) s x apart e in
    let empty =
    found_one (λ y. has_mail y ≡ false) (owes s) s.sessions x
    (none_passes has_mail s.sessions none) e in
    ap (λ o. is_some o && (owes s (session s x.from x.to)
    && nat_lt (length (session s x.from x.to).mail) 64)) (found_apart (owes s) s.sessions x apart e)
    ∙ ap (λ (y : SessionState). owes s y && nat_lt (length y.mail) 64) at
    ∙ ap (λ b. b && nat_lt (length x.mail) 64) (found_passes (owes s) s.sessions x e)
    ∙ room_without_mail (length x.mail) empty

exchange_enabled : (s : CoreState) (e : Event) → Ascend (ends_of s.sessions)
    → (o p : Option SessionState) → find has_mail s.sessions ≡ o → find (owes s) s.sessions ≡ p
    → exchange_of o p ≡ Some e
    → IsTrue (can s e)
exchange_enabled s e apart (Some x) p f g is =
    let same : receive_over x ≡ e = cc in
    subst (λ d. IsTrue (can s d)) same (receive_enabled s x apart f)
exchange_enabled s e apart None (Some y) f g is =
    let same : send_over y ≡ e = cc in
    subst (λ d. IsTrue (can s d)) same (send_enabled s y apart f g)
exchange_enabled s e apart None None f g is = cc

next_exchange_enabled : (r : RecordedOpening) (s : CoreState) (e : Event) → IsKept r s
    → next_exchange s ≡ Some e → IsTrue (can s e)
next_exchange_enabled r s e kept is =
    exchange_enabled s e (apart r.opening s kept.ends) (find has_mail s.sessions)
    (find (owes s) s.sessions) refl refl is

decision_enabled : (s : CoreState) (e : Event) (o : Option DeviceId) → decision_of s o ≡ Some e
    → IsTrue (can s e)
decision_enabled s e None is = cc
decision_enabled s e (Some d) is =
    elim (prefixes.least (rib s d).dirty) as
    (λ o. prefixes.least (rib s d).dirty ≡ o → option_map (Decide d) o ≡ Some e
    → IsTrue (can s e)) [
      | None ↦ λ l is. cc
      | Some p ↦ λ l is.
          let same : Decide d p ≡ e = cc in
          subst (λ x. IsTrue (can s x)) same (least_there (rib s d).dirty p l)
    ] refl is

next_decision_enabled : (r : RecordedOpening) (s : CoreState) (e : Event) → IsKept r s
    → next_decision s ≡ Some e → IsTrue (can s e)
next_decision_enabled r s e kept is =
    decision_enabled s e (find (has_dirty s) (device_ids s.now.net)) is

-- ---- nothing comes next exactly in a quiet state

no_exchange : (o p : Option SessionState) → exchange_of o p ≡ None → (o ≡ None) × (p ≡ None)
no_exchange (Some x) p e = cc
no_exchange None (Some y) e = cc
no_exchange None None e = (refl, refl)

no_decision : (s : CoreState) (o : Option DeviceId) → find (has_dirty s) (device_ids s.now.net) ≡ o
    → decision_of s o ≡ None → o ≡ None
no_decision s None f e = refl
no_decision s (Some d) f e =
    elim (prefixes.least (rib s d).dirty) as
    (λ o. is_some o ≡ true → option_map (Decide d) o ≡ None → Some d ≡ None) [
      | None ↦ λ t e. absurd (true≢false (sym t))
      | Some p ↦ λ t e. cc
    ] (found_passes (has_dirty s) (device_ids s.now.net) d f) e

and_false : (b c : Bool) → c ≡ false → (b && c) ≡ false
and_false true c e = e
and_false false c e = refl

not_pending : (s : CoreState) (d : DeviceId) → All (λ x. owes s x ≡ false) s.sessions
    → has_dirty s d ≡ false → is_pending s d ≡ false
not_pending s d paid e =
    ap (λ b. b || is_some (find (owes_from s d) s.sessions)) e
    ∙ ap is_some (nothing_found (owes_from s d) s.sessions
    (All-weaker (λ x. owes s x ≡ false) (λ x. owes_from s d x ≡ false)
    (λ x h. and_false (same_device x.from d) (owes s x) h) s.sessions paid))

none_pending : (s : CoreState) → find (owes s) s.sessions ≡ None
    → find (has_dirty s) (device_ids s.now.net) ≡ None → first_pending s ≡ None
none_pending s n m =
    nothing_found (is_pending s) (device_ids s.now.net)
    (All-weaker (λ d. has_dirty s d ≡ false) (λ d. is_pending s d ≡ false)
    (λ d h. not_pending s d (none_passes (owes s) s.sessions n) h) (device_ids s.now.net)
    (none_passes (has_dirty s) (device_ids s.now.net) m))

quiet_where : (r : RecordedOpening) (s : CoreState) → IsKept r s → next_exchange s ≡ None
    → next_decision s ≡ None → IsQuiet s
quiet_where r s k e d =
    let parts = no_exchange (find has_mail s.sessions) (find (owes s) s.sessions) e in
    stands_quiet r s k parts.0
    (none_pending s parts.1 (no_decision s (find (has_dirty s) (device_ids s.now.net)) refl d))

none_next : (s : CoreState) → IsQuiet s → (next_exchange s ≡ None) × (next_decision s ≡ None)
none_next s q =
    let mail = (quiet_stands s q).0 in
    let paid =
    nothing_found (owes s) s.sessions
    (All-weaker (λ x. owed_by s x ≡ fin.empty) (λ x. owes s x ≡ false) (owes-empty s) s.sessions
    q.owed) in
    let clean = nothing_found (has_dirty s) (device_ids s.now.net) (λ i x lt. clean_at _) in
    ((λ i. exchange_of (mail i) (paid i)), ap (decision_of s) clean)
  where
    clean_at : (d : DeviceId) → has_dirty s d ≡ false
    clean_at d = ap (λ x. is_some (prefixes.least x)) (q.clean d) ∙ ap is_some least_of_empty

-- a round of a state that isn't quiet has a step
some_step : (r : RecordedOpening) (s : CoreState) (x : Round) → IsKept r s → (IsQuiet s → ⊥)
    → IsRound s x → 0 < length (steps_of x)
some_step r s x k busy is = by_steps x.exchanges x.decisions refl refl
  where
    by_steps : (es ds : List Step) → x.exchanges ≡ es → x.decisions ≡ ds
        → 0 < length (steps_of x)
    by_steps (e ∷ es) ds is_es is_ds =
        subst (λ xs. 0 < length (xs ++ x.decisions)) (sym is_es) (omega arith)
    by_steps [] (d ∷ ds) is_es is_ds =
        subst (λ xs. 0 < length (xs ++ x.decisions)) (sym is_es)
        (subst (λ xs. 0 < length xs) (sym is_ds) (omega arith))
    by_steps [] [] is_es is_ds =
        let first : next_exchange s ≡ None =
        subst (λ xs. next_exchange (after s xs) ≡ None) is_es is.exchanged.out in
        let second : next_decision s ≡ None =
        subst (λ ys. next_decision (after s ys) ≡ None) is_ds
        (subst (λ xs. next_decision (after (after s xs) x.decisions) ≡ None) is_es
        is.decided.out) in
        absurd (busy (quiet_where r s k first second))

-- ---- there is at most one list of rounds

module _ (next : CoreState → Option Event) where
  -- steps that follow to the end are one
  one_out : (s : CoreState) (p q : List Step) → FollowsOut next s p → FollowsOut next s q → p ≡ q
  one_out s p q a b =
      one_of next (length p + length q) s p q a.each (omega arith) (inr a.out) b.each (omega arith)
      (inr b.out)

one_round : (s : CoreState) (x y : Round) → IsRound s x → IsRound s y → x ≡ y
one_round s x y a b =
    let first = one_out next_exchange s y.exchanges x.exchanges b.exchanged a.exchanged in
    let second =
    one_out next_decision (after s x.exchanges) x.decisions y.decisions a.decided
    (subst (λ xs. FollowsOut next_decision (after s xs) y.decisions) first b.decided) in
    λ i. record { exchanges = sym first i; decisions = second i }

one_rounds : (s : CoreState) (xs ys : List Round) → AreRounds s xs → AreRounds s ys → xs ≡ ys
one_rounds s [] [] a b = refl
one_rounds s [] (y ∷ ys) a b = absurd (b.0 a)
one_rounds s (x ∷ xs) [] a b = absurd (a.0 b)
one_rounds s (x ∷ xs) (y ∷ ys) a b =
    let same : y ≡ x = one_round s y x b.1 a.1 in
    let others = subst (λ z. AreRounds (after s (steps_of z)) xs) (sym same) a.2 in
    ap (λ z. z ∷ xs) (sym same)
    ∙ ap (λ zs. y ∷ zs) (one_rounds (after s (steps_of y)) xs ys others b.2)

-- ---- rounds are a run of work

work_append : (xs ys : List Step) → AreWork xs → AreWork ys → AreWork (xs ++ ys)
work_append [] ys a b = b
work_append (Work e ∷ xs) ys a b = work_append xs ys a b
work_append (Mark k ∷ xs) ys a b = absurd a

round_work : (s : CoreState) (x : Round) → IsRound s x → AreWork (steps_of x)
round_work s x is =
    work_append x.exchanges x.decisions
    (follows_work next_exchange s x.exchanges is.exchanged.each)
    (follows_work next_decision (after s x.exchanges) x.decisions is.decided.each)

round_run : (r : RecordedOpening) (s : CoreState) (x : Round) → IsKept r s → IsRound s x
    → IsRunFrom s (steps_of x)
round_run r s x kept is =
    let first =
    follows_run next_exchange r (next_exchange_enabled r) s x.exchanges kept is.exchanged.each in
    run_append s x.exchanges x.decisions first
    (follows_run next_decision r (next_decision_enabled r) (after s x.exchanges) x.decisions
    (kept_run r s kept x.exchanges first) is.decided.each)

rounds_work : (r : RecordedOpening) (s : CoreState) (xs : List Round) → IsKept r s → AreRounds s xs
    → IsQuietWork s (steps_of_all xs)
rounds_work r s [] kept are = record { work = tt; run = tt; quiet = are }
rounds_work r s (x ∷ xs) kept are =
    let run = round_run r s x kept are.1 in
    let others =
    rounds_work r (after s (steps_of x)) xs (kept_run r s kept (steps_of x) run) are.2 in
    record {
      work = work_append (steps_of x) (steps_of_all xs) (round_work s x are.1) others.work;
      run = run_append s (steps_of x) (steps_of_all xs) run others.run;
      quiet =
          subst IsQuiet (sym (after_append s (steps_of x) (steps_of_all xs))) others.quiet;
    }

pub rounds_hold : RoundLaw
rounds_hold = record {
  none = λ r h run. (
    λ e. quiet_where r (state r h) (run_holds.kept r h run) e.0 e.1,
    λ q. none_next (state r h) q,
  );
  some = λ r h x run busy is. some_step r (state r h) x (run_holds.kept r h run) busy is;
  one = one_rounds;
  work = λ r h xs run are. rounds_work r (state r h) xs (run_holds.kept r h run) are;
}
