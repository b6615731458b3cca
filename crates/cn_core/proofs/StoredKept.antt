-- What the engine keeps is right after each event, of the state as it lies in memory.
use Rattle.std.proofs.Common.{◌≡◌, ℕ, ◌<◌, List, [], length, get_or, map, set, sym, ap, ◌∙◌, subst, arith}
use Rattle.std.specs.Prelude.{Err, Ok, OnErr, Option, Result, option_map}
use Rattle.std.specs.FinMap as fin
use Rattle.std.proofs.lemmas.List.{get_or-map, length-map, map-set, set-get_or}
use Rattle.std.proofs.lemmas.List.Elements.{All-set}
use Rattle.std.proofs.lemmas.Option.{slice_get_within}
use Rattle.cn_base.specs.Cidr.{Cidr}
use Rattle.cn_base.specs.declared.ids.Asn.{Asn}
use Rattle.cn_base.specs.declared.ids.DeviceId.{DeviceId}
use Rattle.cn_pool.specs.Pool.{Extends}
use Rattle.cn_pool.proofs.Pools.{extends_itself}
use Rattle.cn_rib.specs.Updates.{prefixes_of}
use Rattle.cn_wire.specs.declared.update.Update.{Update}
use Rattle.cn_net.specs.Opening.{Opening}
use Rattle.cn_net.specs.declared.sessions.SessionEnds.{SessionEnds}
use Rattle.cn_core.specs.declared.best.Best.{Best}
use Rattle.cn_core.specs.declared.owed.Owed.{Owed}
use Rattle.cn_core.specs.declared.session.Rib.{Rib}
use Rattle.cn_core.specs.declared.session.Session.{Session}
use Rattle.cn_core.specs.Machine.{decided, put_out, receive, send, with_rib}
use Rattle.cn_core.specs.Owed.{message_by}
use Rattle.cn_core.specs.OwedLists.{AreCounted, AreElsewhere, AreListedFrom, IsRight, count_of, without_all}
use Rattle.cn_core.specs.Parts.{received, with_all_dirty}
use Rattle.cn_core.specs.State.{CoreState, RibState, SessionState, rib, session}
use Rattle.cn_core.specs.Stored.{AreUnder, IsHeldUnder, IsKeptRight, IsSessionUnder, Stored, best_decided, choice_under, held_under, rib_under, session_under, stands_for}
use Rattle.cn_core.specs.Whole.{ArePlacesOf, IsPlaceOf}
use Rattle.cn_core.proofs.Changed.{decide_whole, receive_whole, send_whole}
use Rattle.cn_core.proofs.Counted.{counted-decide, counted-receive, counted-send, dirty_of, laid_of, mail_of, right_of}
use Rattle.cn_core.proofs.ListsKept.{right-decide, right_received, right_sent, state_of}
use Rattle.cn_core.proofs.Under.{are_ribs_longer, are_sessions_longer, decided_under, rib_longer, ribs_longer, sessions_longer}

abbrev pub stored : Opening → List (List Asn) → List Session → List Rib → Stored
stored nn pool xs ys = record { now = nn; pool = pool; sessions = xs; ribs = ys }

-- an item that was read, as what it stands for
pub read-under : {A B : Type 0} (f : A → B) (xs : List A) (i : ℕ) (x : A) → i < length xs
    → x ≡ get_or xs i x → f x ≡ get_or (map f xs) i (f x)
read-under f xs i x within read = ap f read ∙ sym (get_or-map f xs i x (f x) within)

-- an item that was read and written back
pub set_same : {A : Type 0} (xs : List A) (i : ℕ) (x nx : A) → nx ≡ x → x ≡ get_or xs i x
    → set xs i nx ≡ xs
set_same xs i x nx same read = ap (set xs i) (same ∙ read) ∙ set-get_or xs i x

module _ (nn : Opening) (p0 p1 : List (List Asn)) (xs : List Session) (ys : List Rib)
    (more : Extends p0 p1) (under : AreUnder (stored nn p0 xs ys)) where
  abbrev ss : List SessionState
  ss = map (session_under p0) xs

  abbrev rs : List RibState
  rs = map (rib_under p0) ys

  -- ---- what it stands for

  pub stands-more : stands_for (stored nn p1 xs ys) ≡ stands_for (stored nn p0 xs ys)
  stands-more = λ j. record {
    now = nn;
    sessions = sessions_longer p0 p1 more xs under.sessions j;
    ribs = ribs_longer p0 p1 more ys under.ribs j;
  }

  pub stands-session : (i : ℕ) (x : Session)
      → stands_for (stored nn p1 (set xs i x) ys)
      ≡ state_of nn (set ss i (session_under p1 x)) rs
  stands-session i x = λ j. record {
    now = nn;
    sessions =
        (map-set (session_under p1) xs i x
        ∙ ap (λ zs. set zs i (session_under p1 x))
        (sessions_longer p0 p1 more xs under.sessions)) j;
    ribs = ribs_longer p0 p1 more ys under.ribs j;
  }

  pub stands-both : (i b : ℕ) (x : Session) (y : Rib)
      → stands_for (stored nn p1 (set xs i x) (set ys b y))
      ≡ state_of nn (set ss i (session_under p1 x)) (set rs b (rib_under p1 y))
  stands-both i b x y = λ j. record {
    now = nn;
    sessions =
        (map-set (session_under p1) xs i x
        ∙ ap (λ zs. set zs i (session_under p1 x))
        (sessions_longer p0 p1 more xs under.sessions)) j;
    ribs =
        (map-set (rib_under p1) ys b y
        ∙ ap (λ zs. set zs b (rib_under p1 y)) (ribs_longer p0 p1 more ys under.ribs)) j;
  }

  -- ---- its ids

  pub under-more : AreUnder (stored nn p1 xs ys)
  under-more = record {
    empty = more.kept 0 (slice_get_within p0 0 [] under.empty) ∙ under.empty;
    sessions = are_sessions_longer p0 p1 more xs under.sessions;
    ribs = are_ribs_longer p0 p1 more ys under.ribs;
  }

  pub under-session : (i : ℕ) (x : Session) → IsSessionUnder p1 x
      → AreUnder (stored nn p1 (set xs i x) ys)
  under-session i x is = record {
    empty = under-more.empty;
    sessions = All-set (IsSessionUnder p1) xs i x is under-more.sessions;
    ribs = under-more.ribs;
  }

  pub under-both : (i b : ℕ) (x : Session) (y : Rib) → IsSessionUnder p1 x
      → IsHeldUnder p1 y.loc_rib → AreUnder (stored nn p1 (set xs i x) (set ys b y))
  under-both i b x y is held = record {
    empty = under-more.empty;
    sessions = All-set (IsSessionUnder p1) xs i x is under-more.sessions;
    ribs = All-set (λ z. IsHeldUnder p1 z.loc_rib) ys b y held under-more.ribs;
  }

  -- what a device holds that was read is under the pool
  pub read-held : (b : ℕ) (y : Rib) → b < length ys → y ≡ get_or ys b y
      → IsHeldUnder p0 y.loc_rib
  read-held b y within read =
      subst (λ (z : Rib). IsHeldUnder p0 z.loc_rib) (sym read) (under.ribs b y within)

  pub read-session : (i : ℕ) (x : Session) → i < length xs → x ≡ get_or xs i x
      → IsSessionUnder p0 x
  read-session i x within read =
      subst (IsSessionUnder p0) (sym read) (under.sessions i x within)

  -- a device that holds what it held stands for the same under the longer pool
  pub rib_kept : (b : ℕ) (y ny : Rib) → b < length ys → y ≡ get_or ys b y
      → ny.loc_rib ≡ y.loc_rib → rib_under p1 ny ≡ rib_under p0 ny
  rib_kept b y ny within read same =
      rib_longer p0 p1 more ny
      (subst (IsHeldUnder p0) (sym same) (read-held b y within read))

-- ---- what is kept beside it

module _ (nn : Opening) (p0 p1 : List (List Asn)) (xs : List Session) (ys : List Rib)
    (more : Extends p0 p1) (index : List SessionEnds) (os : List Owed)
    (mail owed dirty : List ℕ)
    (kept : IsKeptRight (stored nn p0 xs ys) index os mail owed dirty) where
  abbrev ss' : List SessionState
  ss' = map (session_under p0) xs

  abbrev rs' : List RibState
  rs' = map (rib_under p0) ys

  -- nothing but the pool has changed
  pub kept-more : IsKeptRight (stored nn p1 xs ys) index os mail owed dirty
  kept-more = record {
    right =
        subst (λ s. IsRight s index os mail owed dirty)
        (sym (stands-more nn p0 p1 xs ys more kept.under)) kept.right;
    under = under-more nn p0 p1 xs ys more kept.under;
  }

  pub kept-received : (i b : ℕ) (x nx : Session) (y ny : Rib) (mail' dirty' : List ℕ)
      → i < length xs → x ≡ get_or xs i x → b < length ys → y ≡ get_or ys b y
      → session_under p1 nx ≡ received (session_under p0 x)
      → rib_under p0 ny ≡ with_all_dirty x.mail (rib_under p0 y) → ny.loc_rib ≡ y.loc_rib
      → IsSessionUnder p1 nx → mail' ≡ set mail i (length nx.mail)
      → dirty' ≡ set dirty b (fin.len ny.dirty)
      → IsKeptRight (stored nn p1 (set xs i nx) (set ys b ny)) index os mail' owed dirty'
  kept-received i b x nx y ny mail' dirty' inside read within read_rib new_x new_y same is mails
      dirties =
      let here = rib_kept nn p0 p1 xs ys more kept.under b y ny within read_rib same in
      let inside' : i < length ss' = subst (λ n. i < n) (sym (length-map xs (session_under p0)))
      inside in
      let within' : b < length rs' = subst (λ n. b < n) (sym (length-map ys (rib_under p0)))
      within in
      let now = state_of nn ss' rs' in
      let new = state_of nn (set ss' i (session_under p1 nx)) (set rs' b (rib_under p1 ny)) in
      record {
        right =
            subst (λ s. IsRight s index os mail' owed dirty')
            (sym (stands-both nn p0 p1 xs ys more kept.under i b nx ny))
            (right_of new index os mail' owed dirty'
            (right_received nn ss' rs' index os
            (laid_of now index os mail owed dirty kept.right) i b (session_under p0 x)
            (session_under p1 nx) (rib_under p0 y) (rib_under p1 ny) inside'
            (read-under (session_under p0) xs i x inside read) within'
            (read-under (rib_under p0) ys b y within read_rib) new_x (here ∙ new_y))
            (subst (λ (ns : List ℕ × List ℕ). AreCounted new os ns.0 owed ns.1)
            (λ j. (sym mails j, sym dirties j))
            (counted-receive nn ss' rs' os mail owed dirty kept.right.counted i b
            (session_under p1 nx) (rib_under p1 ny))));
        under =
            under-both nn p0 p1 xs ys more kept.under i b nx ny is
            (subst (IsHeldUnder p1) (sym same)
            (read-held nn p1 p1 xs ys (extends_itself p1)
            (under-more nn p0 p1 xs ys more kept.under) b y within read_rib));
      }

  pub kept-sent : (i : ℕ) (x nx : Session) (o left : Owed) (u : Update) (mail' owed' : List ℕ)
      → i < length xs → x ≡ get_or xs i x → o ≡ get_or os i o
      → u ≡ message_by (stands_for (stored nn p0 xs ys)) (session_under p0 x)
      → session_under p1 nx ≡ put_out u (session_under p0 x)
      → left ≡ without_all o (prefixes_of u) → IsSessionUnder p1 nx
      → mail' ≡ set mail i (length nx.mail) → owed' ≡ set owed i (count_of left)
      → IsKeptRight (stored nn p1 (set xs i nx) ys) index (set os i left) mail' owed' dirty
  kept-sent i x nx o left u mail' owed' inside read read_list first new_x new_o is mails owes =
      let inside' : i < length ss' = subst (λ n. i < n) (sym (length-map xs (session_under p0)))
      inside in
      let now = state_of nn ss' rs' in
      let new = state_of nn (set ss' i (session_under p1 nx)) rs' in record {
        right =
            subst (λ s. IsRight s index (set os i left) mail' owed' dirty)
            (sym (stands-session nn p0 p1 xs ys more kept.under i nx))
            (right_of new index (set os i left) mail' owed' dirty
            (right_sent nn ss' rs' index os (laid_of now index os mail owed dirty kept.right) i
            (session_under p0 x) (session_under p1 nx) o left u inside'
            (read-under (session_under p0) xs i x inside read) read_list first new_x new_o)
            (subst (λ (ns : List ℕ × List ℕ). AreCounted new (set os i left) ns.0 ns.1 dirty)
            (λ j. (sym mails j, sym owes j))
            (counted-send nn ss' rs' os mail owed dirty kept.right.counted i
            (session_under p1 nx) left)));
        under = under-session nn p0 p1 xs ys more kept.under i nx is;
      }

-- ---- the state after an event

module _ (nn : Opening) (p0 p1 : List (List Asn)) (xs : List Session) (ys : List Rib)
    (more : Extends p0 p1) (under : AreUnder (stored nn p0 xs ys)) (s : CoreState)
    (v : stands_for (stored nn p0 xs ys) ≡ s) where
  pub stands-received : (a b : DeviceId) (i : ℕ) (x nx : Session) (y ny : Rib)
      → IsPlaceOf a b s.sessions i → i < length xs → x ≡ get_or xs i x
      → b.0 < length s.ribs → b.0 < length ys → y ≡ get_or ys b.0 y
      → session_under p1 nx ≡ received (session_under p0 x)
      → rib_under p0 ny ≡ with_all_dirty x.mail (rib_under p0 y) → ny.loc_rib ≡ y.loc_rib
      → stands_for (stored nn p1 (set xs i nx) (set ys b.0 ny))
      ≡ receive s a b (session s a b).mail
  stands-received a b i x nx y ny place inside read range within read_rib new_x new_y same =
      stands-both nn p0 p1 xs ys more under i b.0 nx ny
      ∙ receive_whole nn (map (session_under p0) xs) (map (rib_under p0) ys) s v a b i
      (session_under p0 x) (session_under p1 nx) (rib_under p0 y) (rib_under p1 ny) place
      (read-under (session_under p0) xs i x inside read) range
      (read-under (rib_under p0) ys b.0 y within read_rib) new_x
      (rib_kept nn p0 p1 xs ys more under b.0 y ny within read_rib same ∙ new_y)

  pub stands-sent : (a b : DeviceId) (i : ℕ) (x nx : Session) (u : Update)
      → IsPlaceOf a b s.sessions i → i < length xs → x ≡ get_or xs i x
      → session_under p1 nx ≡ put_out u (session_under p0 x)
      → u ≡ message_by s (session s a b)
      → stands_for (stored nn p1 (set xs i nx) ys) ≡ send s a b
  stands-sent a b i x nx u place inside read new_x message =
      stands-session nn p0 p1 xs ys more under i nx
      ∙ send_whole nn (map (session_under p0) xs) (map (rib_under p0) ys) s v a b i
      (session_under p0 x) (session_under p1 nx) u place
      (read-under (session_under p0) xs i x inside read) new_x message

  -- a place in what it stands for is one in it
  pub inside_sessions : (i : ℕ) → i < length s.sessions → i < length xs
  inside_sessions i lt =
      subst (λ n. i < n)
      (sym (ap (λ (t : CoreState). length t.sessions) v) ∙ length-map xs (session_under p0)) lt

  pub inside_ribs : (b : ℕ) → b < length s.ribs → b < length ys
  inside_ribs b lt =
      subst (λ n. b < n)
      (sym (ap (λ (t : CoreState). length t.ribs) v) ∙ length-map ys (rib_under p0)) lt

-- ---- a decision

module _ (nn : Opening) (pool : List (List Asn)) (xs : List Session) (ys : List Rib) where
  pub stands-rib : (b : ℕ) (y : Rib)
      → stands_for (stored nn pool xs (set ys b y))
      ≡ state_of nn (map (session_under pool) xs)
      (set (map (rib_under pool) ys) b (rib_under pool y))
  stands-rib b y = λ j. record {
    now = nn;
    sessions = map (session_under pool) xs;
    ribs = map-set (rib_under pool) ys b y j;
  }

  pub stands-decided : (s : CoreState) (v : stands_for (stored nn pool xs ys) ≡ s) (d : DeviceId)
      (p : Cidr) (y ny : Rib) (o : Option Best) → d.0 < length s.ribs → d.0 < length ys
      → y ≡ get_or ys d.0 y → ny ≡ best_decided y p o
      → stands_for (stored nn pool xs (set ys d.0 ny))
      ≡ with_rib s d (decided (rib s d) p (option_map (choice_under pool) o))
  stands-decided s v d p y ny o range within read made =
      stands-rib d.0 ny
      ∙ decide_whole nn (map (session_under pool) xs) (map (rib_under pool) ys) s v d p
      (rib_under pool y) (rib_under pool ny) (option_map (choice_under pool) o) range
      (read-under (rib_under pool) ys d.0 y within read)
      (ap (rib_under pool) made ∙ decided_under pool y p o)

  pub kept-decided : (index : List SessionEnds) (os : List Owed) (mail owed dirty : List ℕ)
      → IsKeptRight (stored nn pool xs ys) index os mail owed dirty
      → (d : DeviceId) (start end : ℕ) → ArePlacesOf d (map (session_under pool) xs) start end
      → (ny : Rib) (new : List Owed) (owed' dirty' : List ℕ) → d.0 < length ys
      → AreListedFrom nn.net (held_under pool ny.loc_rib) (map (session_under pool) xs) start end
      new
      → AreElsewhere start end os new → owed' ≡ map count_of new
      → dirty' ≡ set dirty d.0 (fin.len ny.dirty) → IsHeldUnder pool ny.loc_rib
      → IsKeptRight (stored nn pool xs (set ys d.0 ny)) index new mail owed' dirty'
  kept-decided index os mail owed dirty kept d start end places ny new owed' dirty' within from
      elsewhere owes dirties held =
      let ss = map (session_under pool) xs in
      let rs = map (rib_under pool) ys in
      let within' : d.0 < length rs =
      subst (λ n. d.0 < n) (sym (length-map ys (rib_under pool))) within in
      let made = state_of nn ss (set rs d.0 (rib_under pool ny)) in record {
        right =
            subst (λ s. IsRight s index new mail owed' dirty') (sym (stands-rib d.0 ny))
            (right_of made index new mail owed' dirty'
            (right-decide nn ss rs index os
            (laid_of (state_of nn ss rs) index os mail owed dirty kept.right) d start end places
            (rib_under pool ny) new within' from elsewhere)
            (subst (λ ns. AreCounted made new mail owed' ns) (sym dirties)
            (counted-decide nn ss rs os mail owed dirty kept.right.counted d.0 (rib_under pool ny)
            new owed' owes)));
        under = record {
          empty = kept.under.empty;
          sessions = kept.under.sessions;
          ribs = All-set (λ z. IsHeldUnder pool z.loc_rib) ys d.0 ny held kept.under.ribs;
        };
      }

-- ---- the places of the counts

module _ (nn : Opening) (pool : List (List Asn)) (xs : List Session) (ys : List Rib)
    (index : List SessionEnds) (os : List Owed) (mail owed dirty : List ℕ)
    (kept : IsKeptRight (stored nn pool xs ys) index os mail owed dirty) where
  pub within_mail : (i : ℕ) → i < length xs → i < length mail
  within_mail i lt = omega (
    arith,
    lt,
    ap length kept.right.counted.mail,
    length-map (map (session_under pool) xs) mail_of,
    length-map xs (session_under pool),
  )

  pub within_lists : (i : ℕ) → i < length xs → i < length os
  within_lists i lt = omega (arith, lt, kept.right.listed.many, length-map xs (session_under pool))

  pub within_owed : (i : ℕ) → i < length xs → i < length owed
  within_owed i lt = omega (
    arith,
    within_lists i lt,
    ap length kept.right.counted.owed,
    length-map os count_of,
  )

  pub within_dirty : (b : ℕ) → b < length ys → b < length dirty
  within_dirty b lt = omega (
    arith,
    lt,
    ap length kept.right.counted.dirty,
    length-map (map (rib_under pool) ys) dirty_of,
    length-map ys (rib_under pool),
  )

-- what holds whatever a call answers
pub on_err : {T E P : Type 0} (r : Result T E) → P → OnErr r P
on_err (Ok x) p = tt
on_err (Err e) p = p
