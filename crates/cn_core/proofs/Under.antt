-- What ids stand for under a pool, and under a longer one.
use Rattle.std.proofs.Common.{◌≡◌, ◌<◌, Bool, true, false, cond, List, [], ◌∷◌, length, get_or, map, Option, Some, None, refl, sym, ap, ◌∙◌, subst, arith}
use Rattle.std.specs.Prelude.{All, Err, IfSome, Ok, OnErr, OnOk, Result, option_map}
use Rattle.std.specs.FinMap as fin
use Rattle.std.proofs.lemmas.List.Elements.{All-head, All-tail}
use Rattle.std.proofs.lemmas.Option.{none-some}
use Rattle.cn_base.specs.Cidr.{Cidr, same_prefix}
use Rattle.cn_base.specs.declared.ids.Asn.{Asn}
use Rattle.cn_pool.specs.Pool.{Extends}
use Rattle.cn_pool.proofs.Pools.{path_kept}
use Rattle.cn_rib.specs.Interned.{attributes_under}
use Rattle.cn_rib.proofs.IdRoutes.{same_routes, under_longer}
use Rattle.cn_rib.proofs.Keyed.{get_empty}
use Rattle.cn_rib.proofs.Mapped.{get-mapped, put_at-mapped, same-mapped}
use Rattle.cn_rib.proofs.PrefixMaps.{get-put_at}
use Rattle.cn_core.specs.declared.best.Best.{Best}
use Rattle.cn_core.specs.declared.session.Rib.{Rib}
use Rattle.cn_core.specs.declared.session.Session.{Session}
use Rattle.cn_core.specs.Machine.{decided}
use Rattle.cn_core.specs.Stored.{BestRoutes, IsHeldUnder, IsSessionUnder, best_decided, choice_under, held_under, rib_under, session_under}

-- ---- what is there for a prefix

pub get-routes : (pool : List (List Asn)) (x : Session) (p : Cidr)
    → fin.get (session_under pool x).adj_rib_out p
    ≡ option_map (attributes_under pool) (fin.get x.adj_rib_out p)
get-routes pool x p = get-mapped (attributes_under pool) x.adj_rib_out p

pub get-came : (pool : List (List Asn)) (x : Session) (p : Cidr)
    → fin.get (session_under pool x).adj_rib_in p
    ≡ option_map (attributes_under pool) (fin.get x.adj_rib_in p)
get-came pool x p = get-mapped (attributes_under pool) x.adj_rib_in p

pub get-held : (pool : List (List Asn)) (m : BestRoutes) (p : Cidr)
    → fin.get (held_under pool m) p ≡ option_map (choice_under pool) (fin.get m p)
get-held pool m p = get-mapped (choice_under pool) m p

-- ---- a decision

pub decided_under : (pool : List (List Asn)) (y : Rib) (p : Cidr) (b : Option Best)
    → rib_under pool (best_decided y p b)
    ≡ decided (rib_under pool y) p (option_map (choice_under pool) b)
decided_under pool y p b =
    ap (λ m. record { loc_rib = m; dirty = (best_decided y p b).dirty })
    (put_at-mapped (choice_under pool) y.loc_rib p b)

-- ---- a longer pool

module _ (old new : List (List Asn)) (more : Extends old new) where
  pub held_longer : (m : BestRoutes) → IsHeldUnder old m → held_under new m ≡ held_under old m
  held_longer m is =
      same-mapped (choice_under new) (choice_under old) m (λ q b e i. record {
        from = b.from;
        path = path_kept old new b.path more (is.each q b e) i;
        origin = b.origin;
      })

  pub is_held_longer : (m : BestRoutes) → IsHeldUnder old m → IsHeldUnder new m
  is_held_longer m is =
      record { each = λ p b e. let within = is.each p b e in omega (arith, within, more.longer) }

  pub session_longer : (x : Session) → IsSessionUnder old x
      → session_under new x ≡ session_under old x
  session_longer x is = λ i. record {
    from = x.from;
    to = x.to;
    adj_rib_out = (same_routes old new x.adj_rib_out is.sent more).1 i;
    mail = x.mail;
    adj_rib_in = (same_routes old new x.adj_rib_in is.came more).1 i;
  }

  pub is_session_longer : (x : Session) → IsSessionUnder old x → IsSessionUnder new x
  is_session_longer x is = record {
    sent = under_longer old new x.adj_rib_out is.sent more;
    came = under_longer old new x.adj_rib_in is.came more;
  }

  pub rib_longer : (y : Rib) → IsHeldUnder old y.loc_rib → rib_under new y ≡ rib_under old y
  rib_longer y is = λ i. record { loc_rib = held_longer y.loc_rib is i; dirty = y.dirty }

  pub sessions_longer : (xs : List Session) → All (IsSessionUnder old) xs
      → map (session_under new) xs ≡ map (session_under old) xs
  sessions_longer [] all = refl
  sessions_longer (x ∷ xs) all =
      let first = session_longer x (All-head (IsSessionUnder old) x xs all) in
      let others = sessions_longer xs (All-tail (IsSessionUnder old) x xs all) in
      (λ i. first i ∷ others i)

  pub are_sessions_longer : (xs : List Session) → All (IsSessionUnder old) xs
      → All (IsSessionUnder new) xs
  are_sessions_longer xs all = λ i d lt. is_session_longer (get_or xs i d) (all i d lt)

  pub ribs_longer : (ys : List Rib) → All (λ y. IsHeldUnder old y.loc_rib) ys
      → map (rib_under new) ys ≡ map (rib_under old) ys
  ribs_longer [] all = refl
  ribs_longer (y ∷ ys) all =
      let first = rib_longer y (All-head (λ z. IsHeldUnder old z.loc_rib) y ys all) in
      let others = ribs_longer ys (All-tail (λ z. IsHeldUnder old z.loc_rib) y ys all) in
      (λ i. first i ∷ others i)

  pub are_ribs_longer : (ys : List Rib) → All (λ y. IsHeldUnder old y.loc_rib) ys
      → All (λ y. IsHeldUnder new y.loc_rib) ys
  are_ribs_longer ys all = λ i d lt. is_held_longer (get_or ys i d).loc_rib (all i d lt)

-- ---- what is held is under the pool

pub no_best_under : (pool : List (List Asn)) → IsHeldUnder pool fin.empty
no_best_under pool = record { each = λ p b e. absurd (none-some b (sym (get_empty p) ∙ e)) }

-- after a decision for a route under the pool, or none, what is held is under it
pub held_decided : (pool : List (List Asn)) (y : Rib) (p : Cidr) (o : Option Best)
    → IsHeldUnder pool y.loc_rib → IfSome o (λ b. b.path.0 < length pool)
    → IsHeldUnder pool (best_decided y p o).loc_rib
held_decided pool y p o is within = record {
  each = λ q b e.
      either (same_prefix q p) o (fin.get y.loc_rib q) b within (is.each q)
      (sym (get-put_at y.loc_rib p o q) ∙ e);
}
  where
    some_is : (x b : Best) → Some x ≡ Some b → x.path.0 < length pool → b.path.0 < length pool
    some_is x b e lt =
        subst (λ (z : Option Best). IfSome z (λ c. c.path.0 < length pool)) e lt

    either : (t : Bool) (x z : Option Best) (b : Best) → IfSome x (λ c. c.path.0 < length pool)
        → ((c : Best) → z ≡ Some c → c.path.0 < length pool) → cond t x z ≡ Some b
        → b.path.0 < length pool
    either true None z b lt rest e = absurd (none-some b e)
    either true (Some x) z b lt rest e = some_is x b e lt
    either false x z b lt rest e = rest b e

pub held_after : {T E : Type 0} (pool : List (List Asn)) (r : Result T E) (y ny : Rib) (p : Cidr)
    (o : Option Best)
    → IsHeldUnder pool y.loc_rib → IfSome o (λ b. b.path.0 < length pool)
    → OnOk r (ny ≡ best_decided y p o) → OnErr r (ny ≡ y) → IsHeldUnder pool ny.loc_rib
held_after pool (Ok x) y ny p o is within made kept =
    subst (λ (z : Rib). IsHeldUnder pool z.loc_rib) (sym made) (held_decided pool y p o is within)
held_after pool (Err x) y ny p o is within made kept =
    subst (λ (z : Rib). IsHeldUnder pool z.loc_rib) (sym kept) is
