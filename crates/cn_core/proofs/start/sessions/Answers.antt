use Rattle.std.proofs.Common.{◌≡◌, ◌∙◌, ◌++◌, ◌+◌, ◌∷◌, ◌<◌, [], ℕ, Global, List, None, Vec, inl, inr, length, map, take, ap, sym, arith}
use Rattle.std.specs.Prelude.{Some, slice_get}
use Rattle.std.proofs.lemmas.List.{map-append, take_more}
use Rattle.std.proofs.lemmas.Option.{get_or_from_slice_get, none-some, slice_get_cases}
use Rattle.cn_net.specs.declared.sessions.SessionEnds.{SessionEnds}
use Rattle.cn_core.specs.declared.session.Session.{Session}
use Rattle.cn_core.specs.Stored.{unsent}
use Rattle.cn_core.proofs.start.sessions.Goals as goal
use Rattle.cn_core.proofs.start.sessions.Goals.{in-Some+in_ok-session+in_ok-push, in_default}

empty : SessionEnds → Session
empty e = unsent e.from e.to

-- the session of one more place
more : (es : List SessionEnds) (i : ℕ) (e : SessionEnds) (old new : List Session)
    (x : Session)
    → i < length es → slice_get es i ≡ Some e → old ≡ map empty (take i es) → x ≡ empty e
    → new ≡ old ++ x ∷ [] → new ≡ map empty (take (i + 1) es)
more es i e old new x within at so is pushed =
    pushed
    ∙ (λ j. so j ++ is j ∷ [])
    ∙ sym (map-append empty (take i es) (e ∷ []))
    ∙ ap (λ z. map empty (take i es ++ z ∷ [])) (sym (get_or_from_slice_get es i e e at))
    ∙ sym (ap (map empty) (take_more es i e within))

-- a place that is one has a session
always : (es : List SessionEnds) (i : ℕ) → i < length es → None ≡ slice_get es i → ⊥
always es i within none = elim (slice_get_cases es i).1 [
  | inl (e, lt, is, at) ↦ none-some e (none ∙ is)
  | inr (le, is) ↦ omega arith
]

pub loop-place-preserved : goal.loop-place-preserved
unfolding empty
loop-place-preserved c =
    elim c.match-ends.branch [
      | in-Some+in_ok-session+in_ok-push w ↦
          ap (λ (v : Vec Session Global). v.items) w.sessions-is
          ∙ more c.args.index.now c.loop-place.place w.in-Some.ends c.loop-place.sessions.items
          w.push.new.self.items w.in_ok-session.field-0
          (omega (arith, c.loop-place-test.true, c.len-place-end.ensures)) (sym w.in-Some.ensures)
          c.loop-place.invariant w.in_ok-session.ensures w.in_ok-push.ensures.items
      | in_default w ↦
          absurd (always c.args.index.now c.loop-place.place
          (omega (arith, c.loop-place-test.true, c.len-place-end.ensures)) w.in_default.ensures)
    ]
