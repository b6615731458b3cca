-- Histories, split at their marks and put together of parts.
use Rattle.std.proofs.Common.{◌≡◌, ℕ, ◌+◌, List, [], ◌∷◌, ◌++◌, length, Some, refl, sym, ap, ◌∙◌, subst, arith, append_assoc}
use Rattle.cn_change.specs.declared.command.Command.{Command}
use Rattle.cn_change.specs.declared.command.Command.TheVariants as command
use Rattle.cn_record.specs.Recorded.{RecordedOpening}
use Rattle.cn_core.specs.declared.answer.Answer.{Answer}
use Rattle.cn_core.specs.declared.event.Step.{Step}
use Rattle.cn_core.specs.declared.event.Step.TheVariants.{Work, Mark}
use Rattle.cn_core.specs.Log.{Log}
use Rattle.cn_core.specs.Machine.{IsRunFrom, state, step}
use Rattle.cn_core.specs.Play.{AreAnswersFrom, AreParts, AreWork, IsAnswer, IsPart, after, before_mark, behind_mark, first_mark, through_mark, with_steps}
use Rattle.cn_core.specs.PlayLaws.{SplitLaw, marks_of, numbers_from}
use Rattle.cn_core.specs.Start.{start}
use Rattle.cn_core.specs.State.{CoreState}

-- ---- a history is its split

-- a history with a mark is what stands before it, the mark, and what stands behind it
pub split_whole : (h : List Step) (k : ℕ) → first_mark h ≡ Some k
    → h ≡ before_mark h ++ Mark k ∷ behind_mark h
split_whole [] k e = cc
split_whole (Work x ∷ h) k e = ap (λ xs. Work x ∷ xs) (split_whole h k e)
split_whole (Mark j ∷ h) k e = let same : j ≡ k = cc in ap (λ i. Mark i ∷ h) same

-- a history with a mark is what stands through the mark and what stands behind it
pub through_whole : (h : List Step) (k : ℕ) → first_mark h ≡ Some k
    → through_mark h ++ behind_mark h ≡ h
through_whole [] k e = cc
through_whole (Work x ∷ h) k e = ap (λ xs. Work x ∷ xs) (through_whole h k e)
through_whole (Mark j ∷ h) k e = refl

before_work : (h : List Step) → AreWork (before_mark h)
before_work [] = tt
before_work (Work x ∷ h) = before_work h
before_work (Mark j ∷ h) = tt

-- ---- the split of a part, its mark and what stands behind

module _ (k : ℕ) (h : List Step) where
  first_joined : (part : List Step) → AreWork part → first_mark (part ++ Mark k ∷ h) ≡ Some k
  first_joined [] w = refl
  first_joined (Work x ∷ part) w = first_joined part w
  first_joined (Mark j ∷ part) w = absurd w

  before_joined : (part : List Step) → AreWork part → before_mark (part ++ Mark k ∷ h) ≡ part
  before_joined [] w = refl
  before_joined (Work x ∷ part) w = ap (λ xs. Work x ∷ xs) (before_joined part w)
  before_joined (Mark j ∷ part) w = absurd w

  behind_joined : (part : List Step) → AreWork part → behind_mark (part ++ Mark k ∷ h) ≡ h
  behind_joined [] w = refl
  behind_joined (Work x ∷ part) w = behind_joined part w
  behind_joined (Mark j ∷ part) w = absurd w

  through_joined : (part : List Step) → AreWork part
      → through_mark (part ++ Mark k ∷ h) ≡ part ++ Mark k ∷ []
  through_joined [] w = refl
  through_joined (Work x ∷ part) w = ap (λ xs. Work x ∷ xs) (through_joined part w)
  through_joined (Mark j ∷ part) w = absurd w

  marks_joined : (part : List Step) → AreWork part → marks_of (part ++ Mark k ∷ h) ≡ k ∷ marks_of h
  marks_joined [] w = refl
  marks_joined (Work x ∷ part) w = marks_joined part w
  marks_joined (Mark j ∷ part) w = absurd w

-- ---- the split of a history that has grown

module _ (k : ℕ) (more : List Step) where
  first_grown : (h : List Step) → first_mark h ≡ Some k → first_mark (h ++ more) ≡ Some k
  first_grown [] e = cc
  first_grown (Work x ∷ h) e = first_grown h e
  first_grown (Mark j ∷ h) e = e

  before_grown : (h : List Step) → first_mark h ≡ Some k → before_mark (h ++ more) ≡ before_mark h
  before_grown [] e = cc
  before_grown (Work x ∷ h) e = ap (λ xs. Work x ∷ xs) (before_grown h e)
  before_grown (Mark j ∷ h) e = refl

  behind_grown : (h : List Step) → first_mark h ≡ Some k
      → behind_mark (h ++ more) ≡ behind_mark h ++ more
  behind_grown [] e = cc
  behind_grown (Work x ∷ h) e = behind_grown h e
  behind_grown (Mark j ∷ h) e = refl

  through_grown : (h : List Step) → first_mark h ≡ Some k
      → through_mark (h ++ more) ≡ through_mark h
  through_grown [] e = cc
  through_grown (Work x ∷ h) e = ap (λ xs. Work x ∷ xs) (through_grown h e)
  through_grown (Mark j ∷ h) e = refl

-- ---- states and runs

-- the state after some steps and then more
pub after_append : (s : CoreState) (xs ys : List Step) → after s (xs ++ ys) ≡ after (after s xs) ys
after_append s [] ys = refl
after_append s (x ∷ xs) ys = after_append (step s x) xs ys

-- a run and then a run is a run
pub run_append : (s : CoreState) (xs ys : List Step) → IsRunFrom s xs → IsRunFrom (after s xs) ys
    → IsRunFrom s (xs ++ ys)
run_append s [] ys run more = more
run_append s (x ∷ xs) ys run more = (run.0, run_append (step s x) xs ys run.1 more)

-- the state of a history is that after its steps from the start
pub state_after : (r : RecordedOpening) (h : List Step) → state r h ≡ after (start r) h
unfolding state
state_after r h = refl

-- the state of a history that has grown by some steps is that after them
pub state_append : (r : RecordedOpening) (h xs : List Step)
    → state r (h ++ xs) ≡ after (state r h) xs
unfolding state
state_append r h xs = after_append (start r) h xs

-- ---- parts, of whatever kind

module _ (P : CoreState → Command → List Step → Type 0) where
  -- a part and its mark, in front of the parts behind
  pub parts_in_front : (s : CoreState) (k : ℕ) (c : Command) (cs : List Command)
      (part h : List Step) → AreWork part → P s c part → AreParts P (after s part) (k + 1) cs h
      → AreParts P s k (c ∷ cs) (part ++ Mark k ∷ h)
  parts_in_front s k c cs part h w is more = (
    first_joined k h part w,
    subst (P s c) (sym (before_joined k h part w)) is,
    subst (λ xs. AreParts P (after s xs) (k + 1) cs (behind_mark (part ++ Mark k ∷ h)))
        (sym (before_joined k h part w))
        (subst (AreParts P (after s part) (k + 1) cs) (sym (behind_joined k h part w)) more),
  )

  -- a part and its mark, behind the parts before
  pub parts_behind : (s : CoreState) (k : ℕ) (cs : List Command) (c : Command)
      (h part : List Step) → AreParts P s k cs h → AreWork part → P (after s h) c part
      → AreParts P s k (cs ++ c ∷ []) (h ++ (part ++ Mark (k + length cs) ∷ []))
  parts_behind s k [] c h part are w is =
      let number : k ≡ k + length {A = Command} [] = omega arith in
      subst (λ g. AreParts P s k (c ∷ []) (g ++ (part ++ Mark (k + length {A = Command} []) ∷ [])))
      (sym are)
      (subst (λ j. AreParts P s k (c ∷ []) (part ++ Mark j ∷ [])) number
      (parts_in_front s k c [] part [] w (subst (λ g. P (after s g) c part) are is) refl))
  parts_behind s k (d ∷ cs) c h part are w is =
      let t = after s (before_mark h) in
      let more = part ++ Mark (k + length (d ∷ cs)) ∷ [] in
      let number : (k + 1) + length cs ≡ k + length (d ∷ cs) = omega arith in
      let same : after s h ≡ after t (behind_mark h) =
      ap (after s) (split_whole h k are.0)
      ∙ after_append s (before_mark h) (Mark k ∷ behind_mark h) in
      let rest =
      parts_behind t (k + 1) cs c (behind_mark h) part are.2 w
      (subst (λ u. P u c part) same is) in
      let numbered : AreParts P t (k + 1) (cs ++ c ∷ []) (behind_mark h ++ more) =
      subst (λ j. AreParts P t (k + 1) (cs ++ c ∷ []) (behind_mark h ++ (part ++ Mark j ∷ [])))
      number rest in (
        first_grown k more h are.0,
        subst (P s d) (sym (before_grown k more h are.0)) are.1,
        subst (λ xs. AreParts P (after s xs) (k + 1) (cs ++ c ∷ []) (behind_mark (h ++ more)))
            (sym (before_grown k more h are.0))
            (subst (AreParts P t (k + 1) (cs ++ c ∷ [])) (sym (behind_grown k more h are.0))
            numbered),
      )

  -- the answer at the mark of one part more
  pub answers_behind : (s : CoreState) (k : ℕ) (cs : List Command) (h : List Step) (l : Log)
      (answers : List Answer) (c : Command) (a : Answer) (part : List Step) (j : ℕ)
      → AreParts P s k cs h → AreAnswersFrom l cs h answers → AreWork part
      → IsAnswer (with_steps l (h ++ (part ++ Mark j ∷ []))) c a
      → AreAnswersFrom l (cs ++ c ∷ []) (h ++ (part ++ Mark j ∷ [])) (answers ++ a ∷ [])
  answers_behind s k [] h l [] c a part j are so w is =
      subst (λ g. AreAnswersFrom l (c ∷ []) (g ++ (part ++ Mark j ∷ [])) (a ∷ [])) (sym are) (
        subst (λ xs. IsAnswer (with_steps l xs) c a) (sym (through_joined j [] part w))
            (subst (λ g. IsAnswer (with_steps l (g ++ (part ++ Mark j ∷ []))) c a) are is),
        tt,
      )
  answers_behind s k [] h l (x ∷ answers) c a part j are so w is = absurd so
  answers_behind s k (d ∷ cs) h l [] c a part j are so w is = absurd so
  answers_behind s k (d ∷ cs) h l (x ∷ answers) c a part j are so w is =
      let more = part ++ Mark j ∷ [] in
      let m = with_steps l (through_mark h) in
      let whole : l.history ++ (h ++ more) ≡ m.history ++ (behind_mark h ++ more) =
      ap (λ xs. l.history ++ (xs ++ more)) (sym (through_whole h k are.0))
      ∙ ap (λ xs. l.history ++ xs) (append_assoc (through_mark h) (behind_mark h) more)
      ∙ sym (append_assoc l.history (through_mark h) (behind_mark h ++ more)) in
      let same : with_steps l (h ++ more) ≡ with_steps m (behind_mark h ++ more) =
      λ i. record { recorded = l.recorded; history = whole i } in
      let rest =
      answers_behind (after s (before_mark h)) (k + 1) cs (behind_mark h) m answers c a part j
      are.2 so.1 w (subst (λ n. IsAnswer n c a) same is) in
      let through = sym (through_grown k more h are.0) in (
        subst (λ xs. IsAnswer (with_steps l xs) d x) through so.0,
        subst (λ xs. AreAnswersFrom (with_steps l xs) (cs ++ c ∷ []) (behind_mark (h ++ more))
            (answers ++ a ∷ [])) through
            (subst (λ xs. AreAnswersFrom m (cs ++ c ∷ []) xs (answers ++ a ∷ []))
            (sym (behind_grown k more h are.0)) rest),
      )

  -- marks are numbered in order
  marks_are : (s : CoreState) (k : ℕ) (cs : List Command) (h : List Step) → AreParts P s k cs h
      → marks_of h ≡ numbers_from k cs
  marks_are s k [] h e = ap marks_of e
  marks_are s k (c ∷ cs) h is =
      ap marks_of (split_whole h k is.0)
      ∙ marks_joined k (behind_mark h) (before_mark h) (before_work h)
      ∙ ap (λ ks. k ∷ ks) (marks_are (after s (before_mark h)) (k + 1) cs (behind_mark h) is.2)

-- ---- plays

part_work : (s : CoreState) (c : Command) (part : List Step) → IsPart s c part → AreWork part
part_work s command.Pull part is = subst AreWork (sym is) tt
part_work s (command.Work n) part is = is.0

pub split_holds : SplitLaw
split_holds = record {
  whole = split_whole;
  in_front = λ s k c cs part h is. parts_in_front IsPart s k c cs part h (part_work s c part is) is;
  behind = λ s k cs c h part are is.
      parts_behind IsPart s k cs c h part are (part_work (after s h) c part is) is;
  marks = marks_are IsPart;
}
