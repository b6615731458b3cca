-- What is read from the stored lists, as the state has it.
use Rattle.std.proofs.Common.{◌≡◌, ℕ, ◌<◌, List, [], Option, Some, None, Bool, true, false, cond, get_or, length, sym, ap, ◌∙◌, subst, arith}
use Rattle.std.specs.Prelude.{IfSome, unwrap_or}
use Rattle.std.proofs.lemmas.List.{get_or-map, length-map}
use Rattle.std.proofs.lemmas.Option.{slice_get_within}
use Rattle.cn_base.specs.declared.ids.Asn.{Asn}
use Rattle.cn_decide.specs.Decide.{better, outranks_by}
use Rattle.cn_decide.specs.declared.Ranked.{Ranked}
use Rattle.cn_pool.specs.Pool.{path_under}
use Rattle.cn_core.specs.declared.session.Rib.{Rib}
use Rattle.cn_core.specs.declared.session.Session.{Session}
use Rattle.cn_core.specs.Stored.{AreUnder, IsSessionUnder, Stored, rib_under, session_under, stands_for}

module _ (n : Stored) where
  -- a session that was read is that of the state
  pub session_read : (k : ℕ) (x : Session) → k < length (stands_for n).sessions
      → x ≡ get_or n.sessions k x
      → session_under n.pool x ≡ get_or (stands_for n).sessions k (session_under n.pool x)
  session_read k x within read =
      let many = length-map n.sessions (session_under n.pool) in
      ap (session_under n.pool) read
      ∙ sym (get_or-map (session_under n.pool) n.sessions k x (session_under n.pool x)
      (omega (arith, within, many)))

  -- and so is what a device holds
  pub rib_read : (k : ℕ) (y : Rib) → k < length (stands_for n).ribs → y ≡ get_or n.ribs k y
      → rib_under n.pool y ≡ get_or (stands_for n).ribs k (rib_under n.pool y)
  rib_read k y within read =
      let many = length-map n.ribs (rib_under n.pool) in
      ap (rib_under n.pool) read
      ∙ sym (get_or-map (rib_under n.pool) n.ribs k y (rib_under n.pool y)
      (omega (arith, within, many)))

  -- the ids of a session that was read are those of the pool
  pub read_under : AreUnder n → (k : ℕ) (x : Session) → k < length (stands_for n).sessions
      → x ≡ get_or n.sessions k x → IsSessionUnder n.pool x
  read_under are k x within read =
      let many = length-map n.sessions (session_under n.pool) in
      subst (IsSessionUnder n.pool) (sym read)
      (are.sessions k x (omega (arith, within, many)))

  -- the first id is that of the empty path
  pub path_of_first : AreUnder n → path_under n.pool (record { 0 = 0 }) ≡ []
  path_of_first are = ap (λ (o : Option (List Asn)). unwrap_or o []) are.empty

  pub first_within : AreUnder n → 0 < length n.pool
  first_within are = slice_get_within n.pool 0 [] are.empty

-- what both of two have, the better has
pub better-both : {A : Type 0} (P : Ranked A → Type 0) (best : Option (Ranked A)) (r : Ranked A)
    → IfSome best P → P r → IfSome (better best (Some r)) P
better-both P None r of_best of_next = of_next
better-both {A = A} P (Some b) r of_best of_next = either (outranks_by (λ z. z.rank) r b)
  where
    either : (t : Bool) → IfSome (cond t (Some r) (Some b)) P
    either true = of_next
    either false = of_best
