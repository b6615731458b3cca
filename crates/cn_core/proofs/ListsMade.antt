-- How the lists of what each session owes at the start are made.
use Rattle.std.proofs.Common.{◌≡◌, ℕ, ◌+◌, ◌<◌, List, [], ◌∷◌, ◌++◌, length, get_or, sym, ap, ◌∙◌, subst, inl, inr, arith}
use Rattle.std.proofs.Math.Seq.{get_or-append_seam}
use Rattle.std.proofs.lemmas.Bool.{cases_lt}
use Rattle.std.proofs.lemmas.List.{get_or_append_left, get_or_default, length-append}
use Rattle.cn_net.specs.Opening.{Opening}
use Rattle.cn_core.specs.declared.owed.Owed.{Owed}
use Rattle.cn_core.specs.State.{RibState, SessionState, empty_rib, rib}
use Rattle.cn_core.specs.Owed.{owed, owed_by}
use Rattle.cn_core.specs.OwedLists.{IsListed}

-- these sessions, up to a place, have the lists of what they owe
pub record AreListedSoFar (now : Opening) (xs : List SessionState) (rs : List RibState) (i : ℕ)
    (lists : List Owed) : Type 0 where
  pub many : length lists ≡ i
  pub each : (k : ℕ) (x : SessionState) (y : Owed) → k < i
      → IsListed (owed_by (record { now = now; sessions = xs; ribs = rs }) (get_or xs k x))
      (get_or lists k y)

-- at first none
pub listed-none : (now : Opening) (xs : List SessionState) (rs : List RibState) (lists : List Owed)
    → lists ≡ [] → AreListedSoFar now xs rs 0 lists
listed-none now xs rs lists none =
    record { many = ap length none; each = λ k x y lt. absurd (omega (arith, lt)) }

-- then one more
pub listed-next : (now : Opening) (xs : List SessionState) (rs : List RibState) (i : ℕ)
    (lists new : List Owed) (x : SessionState) (y : RibState) (o : Owed)
    → AreListedSoFar now xs rs i lists → i < length xs → x ≡ get_or xs i x
    → x.from.0 < length rs → y ≡ get_or rs x.from.0 y
    → IsListed (owed now.net x.from x.to x.adj_rib_out y.loc_rib) o → new ≡ lists ++ o ∷ []
    → AreListedSoFar now xs rs (i + 1) new
unfolding rib
listed-next now xs rs i lists new x y o was inside read within read_rib is is_new =
    subst (AreListedSoFar now xs rs (i + 1)) (sym is_new) (record {
      many = simp length-append (omega (arith, was.many));
      each = λ k z w lt.
          let many = was.many in
          elim (cases_lt k i) [
            | inl before ↦
                subst (IsListed (owed_by (record { now = now; sessions = xs; ribs = rs })
                (get_or xs k z)))
                (sym (get_or_append_left lists (o ∷ []) w k (omega (arith, before, many))))
                (was.each k z w before)
            | inr past ↦
                let here : k ≡ length lists = omega (arith, past, lt, many) in
                let at : k ≡ i = omega (arith, past, lt) in
                let session : x ≡ get_or xs k z =
                read ∙ get_or_default xs i x z inside ∙ ap (λ j. get_or xs j z) (sym at) in
                let best : y.loc_rib ≡ (get_or rs x.from.0 empty_rib).loc_rib =
                ap (λ (v : RibState). v.loc_rib)
                (read_rib ∙ get_or_default rs x.from.0 y empty_rib within) in
                subst (IsListed (owed_by (record { now = now; sessions = xs; ribs = rs })
                (get_or xs k z)))
                (sym (ap (λ j. get_or (lists ++ o ∷ []) j w) here
                ∙ get_or-append_seam lists o [] w))
                (subst (λ (u : SessionState). IsListed
                (owed_by (record { now = now; sessions = xs; ribs = rs }) u) o) session
                (subst (λ b. IsListed (owed now.net x.from x.to x.adj_rib_out b) o) best is))
          ];
    })
