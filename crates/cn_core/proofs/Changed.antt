-- The state after its parts have changed.
use Rattle.std.proofs.Common.{◌≡◌, ℕ, ◌<◌, Bool, true, false, List, [], ◌∷◌, length, get_or, set, Option, Some, refl, sym, ap, ◌∙◌, subst, true≢false}
use Rattle.std.specs.Prelude.{◌&&◌, Err, IsTrue, Ok, OnOk, Result, is_some, nat_lt, unwrap_or}
use Rattle.std.specs.List.{find}
use Rattle.std.proofs.lemmas.List.{get_or_default, set-get_or}
use Rattle.cn_base.specs.Cidr.{Cidr}
use Rattle.cn_base.specs.declared.ids.DeviceId.{DeviceId}
use Rattle.cn_base.specs.declared.route.Choice.{Choice}
use Rattle.cn_rib.specs.Updates.{prefixes_of}
use Rattle.cn_pack.specs.Packing.{packed}
use Rattle.cn_wire.specs.Reading.{update_of}
use Rattle.cn_wire.specs.declared.fault.WireFault.{WireFault}
use Rattle.cn_wire.specs.declared.update.Update.{Update}
use Rattle.cn_net.specs.Network.{IsDevice, router_of}
use Rattle.cn_net.specs.Opening.{Opening}
use Rattle.cn_core.specs.declared.event.Event.TheVariants.{Send}
use Rattle.cn_core.specs.declared.owed.Owed.{Owed}
use Rattle.cn_core.specs.State.{CoreState, RibState, SessionState, empty_rib, empty_session, is_session, rib, session}
use Rattle.cn_core.specs.Machine.{can, decided, put_out, receive, send, take_in, taken_in, with_dirty, with_rib, with_session}
use Rattle.cn_core.specs.Owed.{message_by, owed, owed_by, owes, rows}
use Rattle.cn_core.specs.OwedLists.{AreListed, IsListed}
use Rattle.cn_core.specs.Parts.{dirty_as, received, received_as, received_of, with_all_dirty}
use Rattle.cn_core.specs.Whole.{IsNowhere, IsPlaceOf, IsWhole}
use Rattle.cn_core.proofs.Access.{ends_are}
use Rattle.cn_core.proofs.Places.{changed_at, not_found, session_at}

-- the rib that was read is that of the state
rib_read : (s : CoreState) (d : DeviceId) (y : RibState) → d.0 < length s.ribs
    → y ≡ get_or s.ribs d.0 y
    → y ≡ rib s d
unfolding rib
rib_read s d y h e = e ∙ get_or_default s.ribs d.0 y empty_rib h

session_read : (s : CoreState) (a b : DeviceId) (i : ℕ) (x : SessionState)
    → IsPlaceOf a b s.sessions i
    → x ≡ get_or s.sessions i x → session s a b ≡ x
session_read s a b i x p is = session_at s a b i x p ∙ sym is

receive_both : (s : CoreState) (a b : DeviceId) (i : ℕ) (x : SessionState) (y : RibState)
    → IsPlaceOf a b s.sessions i → x ≡ get_or s.sessions i x → b.0 < length s.ribs
    → y ≡ get_or s.ribs b.0 y → (u : Update) (rest : List (List ℕ))
    → ◌≡◌ {A = CoreState} (record {
      now = s.now;
      sessions = set s.sessions i (taken_in u rest x);
      ribs = set s.ribs b.0 (with_dirty y (prefixes_of u));
    }) (with_rib (with_session s a b (taken_in u rest)) b (with_dirty (rib s b) (prefixes_of u)))
unfolding with_session with_rib
receive_both s a b i x y p is range read u rest = λ j. record {
  now = s.now;
  sessions =
      (ap (λ z. set s.sessions i (taken_in u rest z)) is
      ∙ sym (changed_at a b s.sessions i x (taken_in u rest) p)) j;
  ribs = set s.ribs b.0 (with_dirty (rib_read s b y range read j) (prefixes_of u));
}

-- what was read is written back
still : (s : CoreState) (i k : ℕ) (x : SessionState) (y : RibState) → x ≡ get_or s.sessions i x
    → y ≡ get_or s.ribs k y
    → ◌≡◌ {A = CoreState}
    (record { now = s.now; sessions = set s.sessions i x; ribs = set s.ribs k y }) s
still s i k x y is read = λ j. record {
  now = s.now;
  sessions = (ap (set s.sessions i) is ∙ set-get_or s.sessions i x) j;
  ribs = (ap (set s.ribs k) read ∙ set-get_or s.ribs k y) j;
}

receive_is : (s : CoreState) (a b : DeviceId) (i : ℕ) (x : SessionState) (y : RibState)
    → IsPlaceOf a b s.sessions i → x ≡ get_or s.sessions i x → b.0 < length s.ribs
    → y ≡ get_or s.ribs b.0 y → (mail : List (List ℕ))
    → ◌≡◌ {A = CoreState} (record {
      now = s.now;
      sessions = set s.sessions i (received_of mail x);
      ribs = set s.ribs b.0 (with_all_dirty mail y);
    }) (receive s a b mail)
receive_is s a b i x y p is range read [] = still s i b.0 x y is read
receive_is s a b i x y p is range read (octets ∷ rest) = by_reading (update_of octets)
  where
    by_reading : (r : Result Update WireFault)
        → ◌≡◌ {A = CoreState} (record {
          now = s.now;
          sessions = set s.sessions i (received_as r rest x);
          ribs = set s.ribs b.0 (dirty_as r y);
        }) (take_in s a b rest r)
    by_reading (Ok u) = receive_both s a b i x y p is range read u rest
    by_reading (Err fault) = still s i b.0 x y is read

send_is : (s : CoreState) (a b : DeviceId) (i : ℕ) (x : SessionState) (u : Update)
    → IsPlaceOf a b s.sessions i → x ≡ get_or s.sessions i x
    → ◌≡◌ {A = CoreState}
    (record { now = s.now; sessions = set s.sessions i (put_out u x); ribs = s.ribs })
    (with_session s a b (put_out u))
unfolding with_session
send_is s a b i x u p is =
    λ j. record {
      now = s.now;
      sessions =
          (ap (λ z. set s.sessions i (put_out u z)) is
          ∙ sym (changed_at a b s.sessions i x (put_out u) p)) j;
      ribs = s.ribs;
    }

decide_is : (s : CoreState) (d : DeviceId) (p : Cidr) (y : RibState) (o : Option Choice)
    → d.0 < length s.ribs → y ≡ get_or s.ribs d.0 y
    → ◌≡◌ {A = CoreState}
    (record { now = s.now; sessions = s.sessions; ribs = set s.ribs d.0 (decided y p o) })
    (with_rib s d (decided (rib s d) p o))
unfolding with_rib
decide_is s d p y o range read =
    λ j. record {
      now = s.now;
      sessions = s.sessions;
      ribs = set s.ribs d.0 (decided (rib_read s d y range read j) p o);
    }

-- ---- the same, where the lists are those of a state

module _ (nn : Opening) (ss : List SessionState) (rs : List RibState) (s : CoreState)
    (v : ◌≡◌ {A = CoreState} (record { now = nn; sessions = ss; ribs = rs }) s) where
  pub receive_whole : (a b : DeviceId) (i : ℕ) (x nx : SessionState) (y ny : RibState)
      → IsPlaceOf a b s.sessions i → x ≡ get_or ss i x → b.0 < length s.ribs → y ≡ get_or rs b.0 y
      → nx ≡ received x → ny ≡ with_all_dirty x.mail y
      → ◌≡◌ {A = CoreState} (record { now = nn; sessions = set ss i nx; ribs = set rs b.0 ny })
      (receive s a b (session s a b).mail)
  receive_whole a b i x nx y ny p is range read new_x new_y =
      let is' = is ∙ ap (λ (t : CoreState). get_or t.sessions i x) v in
      (λ j. record {
        now = (v j).now;
        sessions = set (v j).sessions i (new_x j);
        ribs = set (v j).ribs b.0 (new_y j);
      })
      ∙ receive_is s a b i x y p is' range
      (read ∙ ap (λ (t : CoreState). get_or t.ribs b.0 y) v) x.mail
      ∙ ap (λ (z : SessionState). receive s a b z.mail) (sym (session_read s a b i x p is'))

  pub send_whole : (a b : DeviceId) (i : ℕ) (x nx : SessionState) (u : Update)
      → IsPlaceOf a b s.sessions i → x ≡ get_or ss i x → nx ≡ put_out u x
      → u ≡ message_by s (session s a b)
      → ◌≡◌ {A = CoreState} (record { now = nn; sessions = set ss i nx; ribs = rs }) (send s a b)
  send_whole a b i x nx u p is new_x message =
      (λ j.
      record { now = (v j).now; sessions = set (v j).sessions i (new_x j); ribs = (v j).ribs })
      ∙ send_is s a b i x u p (is ∙ ap (λ (t : CoreState). get_or t.sessions i x) v)
      ∙ ap (λ w. with_session s a b (put_out w)) message

  pub decide_whole : (d : DeviceId) (p : Cidr) (y ny : RibState) (o : Option Choice)
      → d.0 < length s.ribs → y ≡ get_or rs d.0 y → ny ≡ decided y p o
      → ◌≡◌ {A = CoreState} (record { now = nn; sessions = ss; ribs = set rs d.0 ny })
      (with_rib s d (decided (rib s d) p o))
  decide_whole d p y ny o range read new_y =
      (λ j.
      record { now = (v j).now; sessions = (v j).sessions; ribs = set (v j).ribs d.0 (new_y j) })
      ∙ decide_is s d p y o range (read ∙ ap (λ (t : CoreState). get_or t.ribs d.0 y) v)

  pub read_session : (a b : DeviceId) (i : ℕ) (x : SessionState) → IsPlaceOf a b s.sessions i
      → x ≡ get_or ss i x → session s a b ≡ x
  read_session a b i x p is =
      session_read s a b i x p (is ∙ ap (λ (t : CoreState). get_or t.sessions i x) v)

  pub read_rib : (d : DeviceId) (y : RibState) → d.0 < length s.ribs → y ≡ get_or rs d.0 y
      → y ≡ rib s d
  read_rib d y range read =
      rib_read s d y range (read ∙ ap (λ (t : CoreState). get_or t.ribs d.0 y) v)

  ends_read : (a b : DeviceId) (i : ℕ) (x : SessionState) → IsPlaceOf a b s.sessions i
      → x ≡ get_or ss i x → (x.from ≡ a) × (x.to ≡ b)
  ends_read a b i x p is =
      ends_are a b x
      (ap (is_session a b) (is ∙ ap (λ (t : CoreState). get_or t.sessions i x) v) ∙ p.here x)

  pub owed_read : (a b : DeviceId) (i : ℕ) (x : SessionState) (y : RibState)
      → IsPlaceOf a b s.sessions i
      → x ≡ get_or ss i x → a.0 < length s.ribs → y ≡ get_or rs a.0 y
      → owed nn.net x.from x.to x.adj_rib_out y.loc_rib ≡ owed_by s (session s a b)
  owed_read a b i x y p is range read =
      let from = (ends_read a b i x p is).0 in
      ap (λ (t : CoreState). owed t.now.net x.from x.to x.adj_rib_out y.loc_rib) v
      ∙ ap (λ (z : RibState). owed s.now.net x.from x.to x.adj_rib_out z.loc_rib)
      (read_rib a y range read ∙ ap (rib s) (sym from))
      ∙ ap (owed_by s) (sym (read_session a b i x p is))

  -- the message that was made is that of the session
  pub message_read : (a b : DeviceId) (i : ℕ) (x : SessionState) (y : RibState) (u : Update)
      → IsPlaceOf a b s.sessions i → x ≡ get_or ss i x → a.0 < length s.ribs → y ≡ get_or rs a.0 y
      → u ≡ packed (rows (owed nn.net x.from x.to x.adj_rib_out y.loc_rib))
      (router_of nn.net x.from).0 → u ≡ message_by s (session s a b)
  unfolding message_by
  message_read a b i x y u p is range read made =
      let at = read_session a b i x p is in
      made
      ∙ (λ j. packed (rows (owed_read a b i x y p is range read j))
      (router_of (v j).now.net (sym at j).from).0)

  -- and of the session as it lies in the lists
  pub message_laid : (a b : DeviceId) (i : ℕ) (x : SessionState) (y : RibState) (u : Update)
      → IsPlaceOf a b s.sessions i → x ≡ get_or ss i x → a.0 < length s.ribs → y ≡ get_or rs a.0 y
      → u ≡ packed (rows (owed nn.net x.from x.to x.adj_rib_out y.loc_rib))
      (router_of nn.net x.from).0
      → u ≡ message_by (record { now = nn; sessions = ss; ribs = rs }) x
  unfolding message_by
  message_laid a b i x y u p is range read made =
      let at = read_session a b i x p is in
      message_read a b i x y u p is range read made
      ∙ ap (message_by s) at ∙ ap (λ (t : CoreState). message_by t x) (sym v)

  -- the lists that were read are those of the session
  pub listed_read : (os : List Owed) → AreListed (record { now = nn; sessions = ss; ribs = rs }) os
      → (a b : DeviceId) (i : ℕ) (x : SessionState) (y : RibState) (o : Owed)
      → IsPlaceOf a b s.sessions i
      → x ≡ get_or ss i x → a.0 < length s.ribs → y ≡ get_or rs a.0 y → o ≡ get_or os i o
      → IsListed (owed nn.net x.from x.to x.adj_rib_out y.loc_rib) o
  listed_read os is a b i x y o p read range read_rib read_list =
      let listed : AreListed s os = subst (λ (t : CoreState). AreListed t os) v is in
      subst (λ m. IsListed m o) (sym (owed_read a b i x y p read range read_rib))
      (subst (λ u. IsListed (owed_by s u) o) (sym (session_at s a b i x p))
      (subst (IsListed (owed_by s (get_or s.sessions i x))) (sym read_list)
      (listed.each i x o p.inside)))

  -- what is owed over a session that was read
  pub owed_by-read : (a b : DeviceId) (i : ℕ) (x z : SessionState) (y : RibState)
      → IsPlaceOf a b s.sessions i
      → x ≡ get_or ss i x → z ≡ get_or ss i z → a.0 < length s.ribs → y ≡ get_or rs a.0 y
      → owed nn.net x.from x.to x.adj_rib_out y.loc_rib
      ≡ owed_by (record { now = nn; sessions = ss; ribs = rs }) z
  owed_by-read a b i x z y p read_x read_z range read_rib =
      owed_read a b i x y p read_x range read_rib
      ∙ ap (owed_by s) (read_session a b i z p read_z)
      ∙ sym (ap (λ (t : CoreState). owed_by t z) v)

-- ---- where an event may happen

pub found_session : (s : CoreState) (a b : DeviceId) (x : SessionState)
    → find (is_session a b) s.sessions ≡ Some x → session s a b ≡ x
unfolding session
found_session s a b x e = ap (λ o. unwrap_or o (empty_session a b)) e

pub can_send_found : (s : CoreState) (a b : DeviceId) (x : SessionState)
    → find (is_session a b) s.sessions ≡ Some x
    → (owes s x && nat_lt (length x.mail) 64) ≡ can s (Send a b)
can_send_found s a b x e =
    (λ i. is_some (sym e i) &&
    (owes s (sym (found_session s a b x e) i) && nat_lt
    (length (sym (found_session s a b x e) i).mail) 64))

pub found_to_send : (s : CoreState) (a b : DeviceId) → IsTrue (can s (Send a b))
    → IsNowhere a b s.sessions → ⊥
found_to_send s a b h n =
    true≢false (sym
    (first_true (is_some (find (is_session a b) s.sessions))
    (owes s (session s a b) && nat_lt (length (session s a b).mail) 64) h)
    ∙ ap is_some (not_found a b s.sessions n))
  where
    first_true : (p q : Bool) → (p && q) ≡ true → p ≡ true
    first_true true q h = refl
    first_true false q h = h

-- a session that stands at a place is one of devices, each of which has what it holds
pub place_within : (s : CoreState) (a b : DeviceId) (i : ℕ) → IsWhole s → IsPlaceOf a b s.sessions i
    → (a.0 < length s.ribs) × (b.0 < length s.ribs)
place_within s a b i w p =
    let x = get_or s.sessions i (empty_session a b) in
    let ends = ends_are a b x (p.here (empty_session a b)) in
    let in' = w.within i (empty_session a b) p.inside in (
      subst (λ l. a.0 < l) (sym w.ribs) (subst (IsDevice s.now.net) ends.0 in'.0),
      subst (λ l. b.0 < l) (sym w.ribs) (subst (IsDevice s.now.net) ends.1 in'.1),
    )

-- a device has what it holds
pub device_within : (s : CoreState) (d : DeviceId) → IsWhole s → IsDevice s.now.net d
    → d.0 < length s.ribs
device_within s d w is = subst (λ l. d.0 < l) (sym w.ribs) is

pub both_ok : {T E P Q R : Type 0} (r : Result T E) → (P → Q → R) → OnOk r P → OnOk r Q → OnOk r R
both_ok (Ok x) f p q = f p q
both_ok (Err e) f p q = tt
