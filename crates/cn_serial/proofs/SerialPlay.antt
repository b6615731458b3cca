-- The serial play: there is exactly one, and it is a play.
use Rattle.std.proofs.Common.{◌≡◌, ℕ, zero, suc, ◌+◌, ◌≤◌, List, [], ◌∷◌, ◌++◌, length, Option, Some, None, refl, sym, ap, ◌∙◌, subst, inl, inr, arith}
use Rattle.std.specs.Prelude.{◌⊎◌, IsTrue}
use Rattle.cn_change.specs.declared.command.Command.{Command}
use Rattle.cn_change.specs.declared.command.Command.TheVariants as command
use Rattle.cn_record.specs.Recorded.{RecordedOpening}
use Rattle.cn_core.specs.declared.event.Event.{Event}
use Rattle.cn_core.specs.declared.event.Step.{Step}
use Rattle.cn_core.specs.declared.event.Step.TheVariants.{Work, Mark}
use Rattle.cn_core.specs.Laws.{IsKept}
use Rattle.cn_core.specs.Machine.{IsRun, IsRunFrom, after_event, can, state}
use Rattle.cn_core.specs.Order.{first_event}
use Rattle.cn_core.specs.Play.{AreParts, AreWork, IsPart, IsPlay, IsPlayFrom, after, before_mark, behind_mark}
use Rattle.cn_core.specs.Start.{start}
use Rattle.cn_core.specs.State.{CoreState}
use Rattle.cn_core.proofs.First.{first_enabled, first_none}
use Rattle.cn_core.proofs.Kept.{kept_run, kept_step, run_holds}
use Rattle.cn_core.proofs.Play.{parts_in_front, run_append, split_whole}
use Rattle.cn_serial.specs.Serial.{Follows, IsFirstWork, IsSerial, IsSerialPart, SerialLaw}

-- ---- steps that follow what comes next

module _ (next : CoreState → Option Event) where
  -- steps that follow are work alone
  pub follows_work : (s : CoreState) (steps : List Step) → Follows next s steps → AreWork steps
  follows_work s [] f = tt
  follows_work s (Work e ∷ steps) f = follows_work (after_event s e) steps f.1
  follows_work s (Mark k ∷ steps) f = absurd f

  -- one step more, where it comes next behind the others
  pub follows_push : (s : CoreState) (steps : List Step) (e : Event) → Follows next s steps
      → next (after s steps) ≡ Some e → Follows next s (steps ++ Work e ∷ [])
  follows_push s [] e f is = (is, tt)
  follows_push s (Work x ∷ steps) e f is =
      (f.0, follows_push (after_event s x) steps e f.1 is)
  follows_push s (Mark k ∷ steps) e f is = absurd f

  same_next : (s : CoreState) (e d : Event) → next s ≡ Some e → next s ≡ Some d → e ≡ d
  same_next s e d is at = cc

  none_next : (s : CoreState) (e : Event) → next s ≡ None → next s ≡ Some e → ⊥
  none_next s e is at = cc

  -- steps end, at n of them or where nothing comes next
  abbrev Ends : ℕ → CoreState → List Step → Type 0
  Ends n s steps = (length steps ≡ n) ⊎ (next (after s steps) ≡ None)

  -- what follows to n or to the end is one
  pub one_of : (n : ℕ) (s : CoreState) (p q : List Step) → Follows next s p → length p ≤ n
      → Ends n s p → Follows next s q → length q ≤ n → Ends n s q → p ≡ q
  one_of n s [] [] fp lp ep fq lq eq = refl
  one_of n s [] (Work d ∷ q) fp lp (inl full) fq lq eq = absurd (omega (arith, full, lq))
  one_of n s [] (Work d ∷ q) fp lp (inr none) fq lq eq = absurd (none_next s d none fq.0)
  one_of n s [] (Mark k ∷ q) fp lp ep fq lq eq = absurd fq
  one_of n s (Work e ∷ p) [] fp lp ep fq lq (inl full) = absurd (omega (arith, full, lp))
  one_of n s (Work e ∷ p) [] fp lp ep fq lq (inr none) = absurd (none_next s e none fp.0)
  one_of zero s (Work e ∷ p) (Work d ∷ q) fp lp ep fq lq eq = absurd (omega (arith, lp))
  one_of (suc n) s (Work e ∷ p) (Work d ∷ q) fp lp ep fq lq eq =
      let same : d ≡ e = same_next s d e fq.0 fp.0 in
      let f = subst (λ x. Follows next (after_event s x) p) (sym same) fp.1 in
      let ends : Ends (suc n) s (Work d ∷ p) =
      subst (λ x. Ends (suc n) s (Work x ∷ p)) (sym same) ep in
      ap (λ x. Work x ∷ p) (sym same)
      ∙ ap (λ xs. Work d ∷ xs)
      (one_of n (after_event s d) p q f (omega (arith, lp)) (one_fewer n s d p ends) fq.1
      (omega (arith, lq)) (one_fewer n s d q eq))
    where
      one_fewer : (n : ℕ) (s : CoreState) (x : Event) (xs : List Step)
          → Ends (suc n) s (Work x ∷ xs) → Ends n (after_event s x) xs
      one_fewer n s x xs (inl full) = inl (omega (arith, full))
      one_fewer n s x xs (inr none) = inr none
  one_of n s (Work e ∷ p) (Mark k ∷ q) fp lp ep fq lq eq = absurd fq
  one_of n s (Mark k ∷ p) q fp lp ep fq lq eq = absurd fp

  -- where what comes next is enabled, steps that follow are a run
  pub follows_run : (r : RecordedOpening)
      → ((s : CoreState) (e : Event) → IsKept r s → next s ≡ Some e → IsTrue (can s e))
      → (s : CoreState) (steps : List Step) → IsKept r s → Follows next s steps
      → IsRunFrom s steps
  follows_run r enabled s [] kept f = tt
  follows_run r enabled s (Work e ∷ steps) kept f =
      let may = enabled s e kept f.0 in
      (may, follows_run r enabled (after_event s e) steps (kept_step r s kept (Work e) may) f.1)
  follows_run r enabled s (Mark k ∷ steps) kept f = absurd f

-- ---- the part of a command

-- the part of a command is work alone
pub part_work : (s : CoreState) (c : Command) (part : List Step) → IsSerialPart s c part
    → AreWork part
part_work s command.Pull part is = subst AreWork (sym is) tt
part_work s (command.Work n) part is = follows_work first_event s part is.each

one_part : (s : CoreState) (c : Command) (p q : List Step) → IsSerialPart s c p
    → IsSerialPart s c q → p ≡ q
one_part s command.Pull p q a b = a ∙ sym b
one_part s (command.Work n) p q a b =
    one_of first_event n s p q a.each a.few a.end b.each b.few b.end

part_run : (r : RecordedOpening) (s : CoreState) (c : Command) (part : List Step) → IsKept r s
    → IsSerialPart s c part → IsRunFrom s part
part_run r s command.Pull part kept is = subst (IsRunFrom s) (sym is) tt
part_run r s (command.Work n) part kept is =
    follows_run first_event r (first_enabled r) s part kept is.each

part_is : (r : RecordedOpening) (s : CoreState) (c : Command) (part : List Step) → IsKept r s
    → IsSerialPart s c part → IsPart s c part
part_is r s command.Pull part kept is = is
part_is r s (command.Work n) part kept is = (
  follows_work first_event s part is.each,
  elim is.end [
    | inl full ↦ inl (omega (arith, full))
    | inr none ↦
        let later = kept_run r s kept part (part_run r s (command.Work n) part kept is) in
        inr ((first_none r (after s part) later).0 none)
  ],
)

-- ---- the play

one_from : (s : CoreState) (k : ℕ) (cs : List Command) (h i : List Step)
    → AreParts IsSerialPart s k cs h → AreParts IsSerialPart s k cs i → h ≡ i
one_from s k [] h i a b = a ∙ sym b
one_from s k (c ∷ cs) h i a b =
    let t = after s (before_mark h) in
    let part = one_part s c (before_mark i) (before_mark h) b.1 a.1 in
    let others =
    one_from t (k + 1) cs (behind_mark h) (behind_mark i) a.2
    (subst (λ xs. AreParts IsSerialPart (after s xs) (k + 1) cs (behind_mark i)) part b.2) in
    split_whole h k a.0 ∙ (λ j. sym part j ++ Mark k ∷ others j) ∙ sym (split_whole i k b.0)

-- a script has at most one serial play
pub one_serial : (r : RecordedOpening) (script : List Command) (h i : List Step)
    → IsSerial r script h → IsSerial r script i → h ≡ i
one_serial r script h i a b = one_from (start r) 1 script h i a b

module _ (r : RecordedOpening) where
  run_from : (s : CoreState) (k : ℕ) (cs : List Command) (h : List Step) → IsKept r s
      → AreParts IsSerialPart s k cs h → IsRunFrom s h
  run_from s k [] h kept is = subst (IsRunFrom s) (sym is) tt
  run_from s k (c ∷ cs) h kept is =
      let t = after s (before_mark h) in
      let run = part_run r s c (before_mark h) kept is.1 in
      let others =
      run_from t (k + 1) cs (behind_mark h) (kept_run r s kept (before_mark h) run) is.2 in
      subst (IsRunFrom s) (sym (split_whole h k is.0))
      (run_append s (before_mark h) (Mark k ∷ behind_mark h) run (tt, others))

  play_from : (s : CoreState) (k : ℕ) (cs : List Command) (h : List Step) → IsKept r s
      → AreParts IsSerialPart s k cs h → IsPlayFrom s k cs h
  play_from s k [] h kept is = is
  play_from s k (c ∷ cs) h kept is =
      let t = after s (before_mark h) in
      let run = part_run r s c (before_mark h) kept is.1 in (
        is.0,
        part_is r s c (before_mark h) kept is.1,
        play_from t (k + 1) cs (behind_mark h) (kept_run r s kept (before_mark h) run) is.2,
      )

  kept_start : IsKept r (start r)
  unfolding IsRun state
  kept_start = run_holds.kept r [] tt

  -- a serial play is a play
  pub serial_play : (script : List Command) (h : List Step) → IsSerial r script h
      → IsPlay r script h
  unfolding IsRun
  serial_play script h is = record {
    run = run_from (start r) 1 script h kept_start is;
    parts = play_from (start r) 1 script h kept_start is;
  }

-- ---- there is one

first_work_there : (s : CoreState) (n : ℕ) → (part : List Step) × IsFirstWork s n part
first_work_there s zero = ([], record { each = tt; few = omega arith; end = inl refl })
first_work_there s (suc n) =
    elim (first_event s) as
    (λ o. first_event s ≡ o → (part : List Step) × IsFirstWork s (suc n) part) [
      | None ↦ λ e. ([], record { each = tt; few = omega arith; end = inr e })
      | Some x ↦ λ e.
          let more = first_work_there (after_event s x) n in
          let few = more.1.few in (
            Work x ∷ more.0,
            record {
              each = (e, more.1.each);
              few = omega (arith, few);
              end = elim more.1.end [
                | inl full ↦ inl (omega (arith, full))
                | inr none ↦ inr none
              ];
            },
          )
    ] refl

part_there : (s : CoreState) (c : Command) → (part : List Step) × IsSerialPart s c part
part_there s command.Pull = ([], refl)
part_there s (command.Work n) = first_work_there s n

there_from : (s : CoreState) (k : ℕ) (cs : List Command)
    → (h : List Step) × AreParts IsSerialPart s k cs h
there_from s k [] = ([], refl)
there_from s k (c ∷ cs) =
    let first = part_there s c in
    let part = first.0 in
    let others = there_from (after s part) (k + 1) cs in (
      part ++ Mark k ∷ others.0,
      parts_in_front IsSerialPart s k c cs part others.0 (part_work s c part first.1) first.1
          others.1,
    )

-- a script has a serial play
pub serial_there : (r : RecordedOpening) (script : List Command)
    → (h : List Step) × IsSerial r script h
serial_there r script = there_from (start r) 1 script

pub serial_holds : SerialLaw
serial_holds = record { there = serial_there; one = one_serial; play = serial_play }
