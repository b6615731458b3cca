-- What is held at the start, made one route after another while the pool grows.
use Rattle.std.proofs.Common.{◌≡◌, ℕ, ◌+◌, ◌<◌, ◌≤◌, Bool, true, false, cond, List, [], ◌∷◌, ◌++◌, ◌-◌, length, get_or, map, drop, Option, Some, refl, sym, ap, ◌∙◌, subst, arith}
use Rattle.std.specs.Prelude.{All, IfSome, slice_get}
use Rattle.std.specs.List.{fold}
use Rattle.std.specs.FinMap as fin
use Rattle.std.proofs.lemmas.List.{drop_all, drop_more, get_or-map, length-map, map-append}
use Rattle.std.proofs.lemmas.List.Elements.{All-map, All-push}
use Rattle.cn_base.specs.Cidr.{Cidr, same_prefix}
use Rattle.cn_base.specs.declared.ids.Asn.{Asn}
use Rattle.cn_base.specs.declared.ids.DeviceId.{DeviceId}
use Rattle.cn_base.specs.declared.route.Choice.{Choice}
use Rattle.cn_rib.specs.PrefixSet as set
use Rattle.cn_pool.specs.Pool.{Extends, Joins}
use Rattle.cn_pool.specs.declared.pool.PathId.{PathId}
use Rattle.cn_pool.proofs.Pools.{extends_itself, extends_joined, extends_on, joined_path, joined_within}
use Rattle.cn_rib.specs.Interned.{attributes_under}
use Rattle.cn_rib.proofs.IdRoutes.{empty_under}
use Rattle.cn_rib.proofs.Keyed.{get_inserted}
use Rattle.cn_rib.proofs.Mapped.{empty-mapped, insert-mapped}
use Rattle.cn_net.specs.Opening.{Opening}
use Rattle.cn_net.specs.Sessions.{session_ends}
use Rattle.cn_net.specs.declared.sessions.SessionEnds.{SessionEnds}
use Rattle.cn_record.specs.Recorded.{RecordedOpening}
use Rattle.cn_record.specs.Said.{said_by}
use Rattle.cn_record.specs.declared.saved.Row.{Row}
use Rattle.cn_core.specs.declared.best.Best.{Best}
use Rattle.cn_core.specs.declared.session.Rib.{Rib}
use Rattle.cn_core.specs.declared.session.Session.{Session}
use Rattle.cn_core.specs.Start.{first_rib, first_ribs, first_sessions, rows_of, said_routes, with_choice}
use Rattle.cn_core.specs.State.{LocRib, SessionState, empty_session}
use Rattle.cn_core.specs.Stored.{BestRoutes, IsHeldUnder, IsSessionUnder, choice_under, held_under, rib_under, session_under, unsent}
use Rattle.cn_core.proofs.Counted.{dirty_of}
use Rattle.cn_core.proofs.Numbers.{ids, mapped_next}
use Rattle.cn_core.proofs.Under.{are_ribs_longer, held_longer, is_held_longer, no_best_under, ribs_longer}

-- ---- a choice whose path joined the pool is held

module _ (old new : List (List Asn)) (m : BestRoutes) (p : Cidr) (c : Choice) (id : PathId)
    (joins : Joins old new c.path id) (was : IsHeldUnder old m) where
  abbrev best : Best
  best = record { from = c.from; path = id; origin = c.origin }

  more : Extends old new
  more = extends_joined old new c.path id joins

  -- it stands for the choice
  pub held-joined : held_under new (fin.insert m p best) ≡ fin.insert (held_under old m) p c
  held-joined =
      insert-mapped (choice_under new) m p best
      ∙ (λ i. fin.insert (held_longer old new more m was i) p (record {
        from = c.from;
        path = joined_path old new c.path id joins i;
        origin = c.origin;
      }))

  -- and its id is one of the pool
  pub is_held-joined : IsHeldUnder new (fin.insert m p best)
  is_held-joined = record {
    each = λ q b e.
        either (same_prefix q p) (fin.get m q) b ((is_held_longer old new more m was).each q)
        (sym (get_inserted m p best q) ∙ e);
  }
    where
      either : (t : Bool) (o : Option Best) (b : Best)
          → ((z : Best) → o ≡ Some z → z.path.0 < length new)
          → cond t (Some best) o ≡ Some b → b.path.0 < length new
      either true o b rest e =
          subst (λ x. IfSome x (λ (z : Best). z.path.0 < length new)) e
          (joined_within old new c.path id joins)
      either false o b rest e = rest b e

-- ---- what a speaker says

-- what d says of the prefix of a row is held too
abbrev pub with_row : RecordedOpening → DeviceId → LocRib → Row → LocRib
with_row r d best x = with_choice best x.prefix (said_by r.opening r.rows d x.prefix)

-- with the rows that are left this stands for what d says
pub record IsSaidSoFar (r : RecordedOpening) (d : DeviceId) (old new : List (List Asn))
    (m : BestRoutes) (left : List Row) : Type 0 where
  pub said : fold (with_row r d) (held_under new m) left ≡ said_routes r d
  pub under : IsHeldUnder new m
  pub kept : Extends old new

pub said-none : (r : RecordedOpening) (d : DeviceId) (pool : List (List Asn)) (m : BestRoutes)
    (rows : List Row)
    → m ≡ fin.empty → rows ≡ rows_of r.rows d → IsSaidSoFar r d pool pool m (drop 0 rows)
said-none r d pool m rows none these = record {
  said =
      (λ i. fold (with_row r d) (held_under pool (none i)) (these i))
      ∙ ap (λ best. fold (with_row r d) best (rows_of r.rows d))
      (empty-mapped (choice_under pool));
  under = subst (IsHeldUnder pool) (sym none) (no_best_under pool);
  kept = extends_itself pool;
}

pub said-next : (r : RecordedOpening) (d : DeviceId) (old now new : List (List Asn))
    (m n : BestRoutes) (rows : List Row) (i : ℕ) (x : Row) (says : Option Choice)
    → IsSaidSoFar r d old now m (drop i rows) → i < length rows → x ≡ get_or rows i x
    → says ≡ said_by r.opening r.rows d x.prefix
    → held_under new n ≡ with_choice (held_under now m) x.prefix says → IsHeldUnder new n
    → Extends now new → IsSaidSoFar r d old new n (drop (i + 1) rows)
said-next r d old now new m n rows i x says was inside read said_is made under more = record {
  said =
      ap (λ best. fold (with_row r d) best (drop (i + 1) rows))
      (made ∙ ap (with_choice (held_under now m) x.prefix) said_is)
      ∙ ap (λ y. fold (with_row r d) (with_row r d (held_under now m) y) (drop (i + 1) rows)) read
      ∙ sym (ap (fold (with_row r d) (held_under now m)) (drop_more rows i x inside))
      ∙ was.said;
  under = under;
  kept = extends_on old now new was.kept more;
}

pub said-all : (r : RecordedOpening) (d : DeviceId) (old new : List (List Asn)) (m : BestRoutes)
    (rows : List Row) (i : ℕ)
    → IsSaidSoFar r d old new m (drop i rows) → length rows ≤ i
    → held_under new m ≡ said_routes r d
said-all r d old new m rows i is past =
    sym (ap (fold (with_row r d) (held_under new m)) (drop_all i rows past)) ∙ is.said

-- ---- what each device holds

-- nothing held, these prefixes dirty
pub none_held : (pool : List (List Asn)) (y : Rib) (s : set.PrefixSet)
    → y.loc_rib ≡ fin.empty → y.dirty ≡ s
    → (rib_under pool y ≡ record { loc_rib = fin.empty; dirty = s }) × IsHeldUnder pool y.loc_rib
none_held pool y s none dirty = (
  (λ i. record {
    loc_rib = (ap (held_under pool) none ∙ empty-mapped (choice_under pool)) i;
    dirty = dirty i;
  }),
  subst (IsHeldUnder pool) (sym none) (no_best_under pool),
)

-- the ribs of the devices up to one, and those that are left, are the first
pub record AreRibsSoFar (r : RecordedOpening) (old new : List (List Asn)) (ys : List Rib)
    (left : List DeviceId) : Type 0 where
  pub made : map (rib_under new) ys ++ map (first_rib r) left ≡ first_ribs r
  pub under : All (λ y. IsHeldUnder new y.loc_rib) ys
  pub kept : Extends old new

pub ribs-next : (r : RecordedOpening) (old now new : List (List Asn)) (ys zs : List Rib) (y : Rib)
    (k n : ℕ)
    → AreRibsSoFar r old now ys (ids k (n - k)) → k < n → zs ≡ ys ++ y ∷ []
    → rib_under new y ≡ first_rib r (record { 0 = k }) → IsHeldUnder new y.loc_rib
    → Extends now new → AreRibsSoFar r old new zs (ids (k + 1) (n - (k + 1)))
ribs-next r old now new ys zs y k n was inside grown is under more = record {
  made =
      mapped_next (first_rib r) (map (rib_under now) ys) (map (rib_under new) zs) k n inside
      (ap (map (rib_under new)) grown ∙ map-append (rib_under new) ys (y ∷ [])
      ∙ (λ i. ribs_longer now new more ys was.under i ++ is i ∷ []))
      ∙ was.made;
  under =
      subst (All (λ z. IsHeldUnder new z.loc_rib)) (sym grown)
      (All-push (λ z. IsHeldUnder new z.loc_rib) ys y (are_ribs_longer now new more ys was.under)
      under);
  kept = extends_on old now new was.kept more;
}

-- ---- the sessions

unsent-under : (pool : List (List Asn)) (a b : DeviceId)
    → session_under pool (unsent a b) ≡ empty_session a b
unsent-under pool a b = λ i. record {
  from = a;
  to = b;
  adj_rib_out = empty-mapped (attributes_under pool) i;
  mail = [];
  adj_rib_in = empty-mapped (attributes_under pool) i;
}

all_unsent-under : (pool : List (List Asn)) (es : List SessionEnds)
    → map (session_under pool) (map (λ e. unsent e.from e.to) es)
    ≡ map (λ e. empty_session e.from e.to) es
all_unsent-under pool [] = refl
all_unsent-under pool (e ∷ es) =
    λ i. unsent-under pool e.from e.to i ∷ all_unsent-under pool es i

module _ (pool : List (List Asn)) (index : List SessionEnds) (xs : List Session)
    (made : xs ≡ map (λ e. unsent e.from e.to) index) where
  -- the sessions that are made by an index stand for the first, under any pool
  pub sessions-made : (o : Opening) → index ≡ session_ends o.net o.emulated
      → map (session_under pool) xs ≡ first_sessions o
  unfolding first_sessions
  sessions-made o is =
      ap (map (session_under pool)) made
      ∙ all_unsent-under pool index ∙ ap (map (λ e. empty_session e.from e.to)) is

  pub sessions-under : All (IsSessionUnder pool) xs
  sessions-under =
      subst (All (IsSessionUnder pool)) (sym made)
      (All-map (IsSessionUnder pool) (λ (e : SessionEnds). unsent e.from e.to) index
      (λ k d lt. record { sent = empty_under pool; came = empty_under pool }))

-- ---- the state

-- a pool that grew from the empty path has it first
pub empty_first : (old new : List (List Asn)) → old ≡ [] ∷ [] → Extends old new
    → slice_get new 0 ≡ Some []
empty_first old new only more =
    let some : 0 < length old = omega (arith, ap length only) in
    more.kept 0 some ∙ ap (λ ps. slice_get ps 0) only

-- as many dirty prefixes stand in what is held as in what it stands for
pub dirty-under : (pool : List (List Asn)) (ys : List Rib)
    → map (λ y. fin.len y.dirty) ys ≡ map dirty_of (map (rib_under pool) ys)
dirty-under pool [] = refl
dirty-under pool (y ∷ ys) = ap (λ ns. fin.len y.dirty ∷ ns) (dirty-under pool ys)

-- each sender has a rib, where each has one in what they stand for
pub senders-under : (pool : List (List Asn)) (xs : List Session) (ys : List Rib)
    → All (λ (x : SessionState). x.from.0 < length (map (rib_under pool) ys))
    (map (session_under pool) xs)
    → All (λ (x : Session). x.from.0 < length ys) xs
senders-under pool xs ys all k d lt =
    let inside : k < length (map (session_under pool) xs) =
    omega (arith, lt, length-map xs (session_under pool)) in
    let same = get_or-map (session_under pool) xs k d (session_under pool d) lt in
    let from : (get_or (map (session_under pool) xs) k (session_under pool d)).from.0
    ≡ (get_or xs k d).from.0 =
    ap (λ (x : SessionState). x.from.0) same in
    omega (arith, all k (session_under pool d) inside, from, length-map ys (rib_under pool))
