-- How what a session owes is kept: the prefixes that it is to withdraw and those that it is to
-- announce. No public contract speaks of it.
use Rattle.std.specs.Prelude.{◌≡◌, ◌⊎◌, ℕ, ◌+◌, ◌-◌, ◌<◌, ◌≤◌, ◌^◌, Bool, true, false, List, length, map, nat_lt, option_map, Option, Some, None, slice_index_or}
use Rattle.std.specs.List.{fold}
use Rattle.std.specs.FinMap as fin
use Rattle.cn_base.specs.Cidr.{Cidr, same_prefix}
use Rattle.cn_base.specs.declared.ids.Asn.{Asn}
use Rattle.cn_base.specs.declared.ids.DeviceId.{DeviceId}
use Rattle.cn_base.specs.declared.ids.Origin.{Origin}
use Rattle.cn_base.specs.declared.route.Attributes.{Attributes}
use Rattle.cn_base.specs.declared.route.Choice.{Choice}
use Rattle.cn_rib.specs.PrefixSet as set
use Rattle.cn_wire.specs.declared.update.Attrs.{Attrs}
use Rattle.cn_pack.specs.Packing.{is_same}
use Rattle.cn_net.specs.Network.{Network}
use Rattle.cn_net.specs.declared.sessions.SessionEnds.{SessionEnds}
use Rattle.cn_core.specs.declared.owed.Due.{Due}
use Rattle.cn_core.specs.declared.owed.Due.TheVariants.{Nothing, Withdrawal, Announcement}
use Rattle.cn_core.specs.declared.owed.Owed.{Owed}
use Rattle.cn_core.specs.Owed.{OwedMap, advertised, offered_attributes, owed, owed_by, pair_of, unless_sent}
use Rattle.cn_core.specs.Start.{ends_of}
use Rattle.cn_core.specs.State.{CoreState, LocRib, SessionState, rib}
use Rattle.cn_core.specs.Whole.{IsWhole}

-- what is owed for a prefix, without the route
abbrev pub due_of : Option (Option Attributes) → Due
due_of None = Nothing
due_of (Some None) = Withdrawal
due_of (Some (Some offer)) = Announcement

abbrev pub is_withdrawal : Due → Bool
is_withdrawal Nothing = false
is_withdrawal Withdrawal = true
is_withdrawal Announcement = false

abbrev pub is_announcement : Due → Bool
is_announcement Nothing = false
is_announcement Withdrawal = false
is_announcement Announcement = true

-- each prefix of m stands in the list that it belongs to, and no other prefix does
pub record IsListed (m : OwedMap) (x : Owed) : Type 0 where
  pub withdrawals : (q : Cidr)
      → set.contains x.withdrawals q ≡ is_withdrawal (due_of (fin.get m q))
  pub announcements : (q : Cidr)
      → set.contains x.announcements q ≡ is_announcement (due_of (fin.get m q))

abbrev pub empty_lists : Owed
empty_lists = record { withdrawals = set.empty; announcements = set.empty }

-- p stands in the list that it belongs to, and perhaps still in the other
abbrev pub with_due : Owed → Cidr → Due → Owed
with_due x p Nothing = x
with_due x p Withdrawal =
    record { withdrawals = set.insert x.withdrawals p; announcements = x.announcements }
with_due x p Announcement =
    record { withdrawals = x.withdrawals; announcements = set.insert x.announcements p }

-- each of these stands in the list that it belongs to
unfoldable pub with_all_due : OwedMap → Owed → List Cidr → Owed
with_all_due m x ps = fold (λ y p. with_due y p (due_of (fin.get m p))) x ps

-- p is taken out of the list that it doesn't belong to
abbrev pub only_due : Owed → Cidr → Due → Owed
only_due x p Nothing = record {
  withdrawals = set.remove x.withdrawals p;
  announcements = set.remove x.announcements p;
}
only_due x p Withdrawal =
    record { withdrawals = x.withdrawals; announcements = set.remove x.announcements p }
only_due x p Announcement =
    record { withdrawals = set.remove x.withdrawals p; announcements = x.announcements }

-- all other prefixes stand where they belong, and p stands there too, but perhaps also elsewhere
pub record IsListedBut (m : OwedMap) (p : Cidr) (x : Owed) : Type 0 where
  pub withdrawals : (q : Cidr) → same_prefix q p ≡ false
      → set.contains x.withdrawals q ≡ is_withdrawal (due_of (fin.get m q))
  pub announcements : (q : Cidr) → same_prefix q p ≡ false
      → set.contains x.announcements q ≡ is_announcement (due_of (fin.get m q))
  pub withdrawn : is_withdrawal (due_of (fin.get m p)) ≡ true
      → set.contains x.withdrawals p ≡ true
  pub announced : is_announcement (due_of (fin.get m p)) ≡ true
      → set.contains x.announcements p ≡ true

-- ---- the lists of many sessions, by their places

-- each session of the state has the lists of what it owes
pub record AreListed (s : CoreState) (lists : List Owed) : Type 0 where
  pub many : length lists ≡ length s.sessions
  pub each : (k : ℕ) (x : SessionState) (y : Owed) → k < length s.sessions
      → IsListed (owed_by s (slice_index_or s.sessions k x)) (slice_index_or lists k y)

-- what a session owes, where its sender holds `best`
abbrev pub owed_over : Network → LocRib → SessionState → OwedMap
owed_over net best x = owed net x.from x.to x.adj_rib_out best

-- what it owes for p, where its sender holds this for it
abbrev pub due_over : Network → Option Choice → Cidr → SessionState → Due
due_over net held p x =
    due_of (unless_sent (fin.get x.adj_rib_out p) (offered_attributes net x.from x.to p held))

-- those at the places from `start` up to `end` have them, where their sender holds `best`
pub record AreListedFrom (net : Network) (best : LocRib) (xs : List SessionState) (start end : ℕ)
    (lists : List Owed) : Type 0 where
  pub each : (k : ℕ) (x : SessionState) (y : Owed) → start ≤ k → k < end
      → IsListed (owed_over net best (slice_index_or xs k x)) (slice_index_or lists k y)

-- they have them, but p perhaps in a list too many
pub record AreListedBut (net : Network) (best : LocRib) (p : Cidr) (xs : List SessionState)
    (start end : ℕ) (lists : List Owed) : Type 0 where
  pub each : (k : ℕ) (x : SessionState) (y : Owed) → start ≤ k → k < end
      → IsListedBut (owed_over net best (slice_index_or xs k x)) p (slice_index_or lists k y)

-- elsewhere the lists are as they were
pub record AreElsewhere (start end : ℕ) (old new : List Owed) : Type 0 where
  pub many : length new ≡ length old
  pub same : (k : ℕ) (y : Owed) → (k < start) ⊎ (end ≤ k)
      → slice_index_or new k y ≡ slice_index_or old k y

-- what is owed at a place, where these dues are those of the places from `start` on
abbrev pub due_at : List Due → ℕ → ℕ → Due
due_at dues start k = slice_index_or dues (k - start) Nothing

-- these are what the sessions at the places from `start` up to `end` owe for p, where this is held
pub record AreDues (net : Network) (held : Option Choice) (p : Cidr) (xs : List SessionState)
    (start end : ℕ) (dues : List Due) : Type 0 where
  pub many : end - start ≤ length dues
  pub each : (k : ℕ) (x : SessionState) → start ≤ k → k < end
      → due_at dues start k ≡ due_over net held p (slice_index_or xs k x)

-- at these places the new lists are made by f of the old ones and of what is owed
pub record AreMade (f : Owed → Due → Owed) (dues : List Due) (start end : ℕ)
    (old new : List Owed) : Type 0 where
  pub each : (k : ℕ) (y : Owed) → start ≤ k → k < end
      → slice_index_or new k y ≡ f (slice_index_or old k y) (due_at dues start k)

-- p was put in at these places where it is owed
abbrev pub AreAdded : List Due → Cidr → ℕ → ℕ → List Owed → List Owed → Type 0
AreAdded dues p start end old new = AreMade (λ y d. with_due y p d) dues start end old new

-- p was taken out at these places where it doesn't belong
abbrev pub AreKept : List Due → Cidr → ℕ → ℕ → List Owed → List Owed → Type 0
AreKept dues p start end old new = AreMade (λ y d. only_due y p d) dues start end old new

-- p was put in at some of these places where it is owed
pub record AreSomeAdded (dues : List Due) (p : Cidr) (start end : ℕ) (old new : List Owed) :
    Type 0 where
  pub each : (k : ℕ) (y : Owed) → start ≤ k → k < end
      → (slice_index_or new k y ≡ slice_index_or old k y)
      ⊎ (slice_index_or new k y ≡ with_due (slice_index_or old k y) p (due_at dues start k))

-- the prefixes of a message are in no list
abbrev pub without_all : Owed → List Cidr → Owed
without_all x ps = record {
  withdrawals = fold set.remove x.withdrawals ps;
  announcements = fold set.remove x.announcements ps;
}

-- ---- the message

-- what is offered for a prefix has this path and this ORIGIN
abbrev pub shares : Network → DeviceId → DeviceId → LocRib → List Asn → Origin → Cidr → Bool
shares net a b best path origin p =
    is_same path origin (option_map pair_of (advertised net a b best p))

-- attributes with this NEXT_HOP
abbrev pub attrs_with : ℕ → Attributes → Attrs
attrs_with next_hop x = record { origin = x.origin; path = x.path; next_hop = next_hop }

-- ---- the counts: how many messages, prefixes that are owed, and dirty prefixes there are

-- how many prefixes stand in the lists of a session
abbrev pub count_of : Owed → ℕ
count_of x = fin.len x.withdrawals + fin.len x.announcements

-- each session's count of messages and of what it owes, and each device's of dirty prefixes
pub record AreCounted (s : CoreState) (lists : List Owed) (in_mail in_lists in_ribs : List ℕ) :
    Type 0 where
  pub mail : in_mail ≡ map (λ x. length x.mail) s.sessions
  pub owed : in_lists ≡ map count_of lists
  pub dirty : in_ribs ≡ map (λ x. fin.len x.dirty) s.ribs
  pub few : length s.sessions < 2 ^ 32

-- d has a dirty prefix
abbrev pub has_dirty : CoreState → DeviceId → Bool
has_dirty s d = nat_lt 0 (fin.len (rib s d).dirty)

-- what the engine keeps: the order of the sessions, the index of them, the lists of what each owes,
-- and the counts
pub record IsRight (s : CoreState) (index : List SessionEnds) (lists : List Owed)
    (in_mail in_lists in_ribs : List ℕ) : Type 0 where
  pub whole : IsWhole s
  pub indexed : index ≡ ends_of s.sessions
  pub listed : AreListed s lists
  pub counted : AreCounted s lists in_mail in_lists in_ribs
