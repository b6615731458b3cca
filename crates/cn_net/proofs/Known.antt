-- The peers of drafts: where no fault is found, each is a device and stands once in its list; and
-- where that holds, no fault is found.
use Rattle.std.proofs.Common.{◌≡◌, ℕ, ◌<◌, List, [], ◌∷◌, ◌++◌, length, map, ◌∙◌, None}
use Rattle.std.specs.List.{All, IsDistinct, list_any}
use Rattle.std.proofs.lemmas.List.Elements.{All-nil, All-push}
use Rattle.cn_base.specs.declared.ids.DeviceId.{DeviceId}
use Rattle.cn_net.specs.Faults.{fault_if, first_in, peer_fault, peers_fault, unknown_fault}
use Rattle.cn_net.specs.Network.{same_device}
use Rattle.cn_net.specs.Numbered.{number_in, place_of}
use Rattle.cn_net.specs.declared.draft.DeviceDraft.{DeviceDraft}
use Rattle.cn_net.specs.declared.draft.PeerDraft.{PeerDraft}
use Rattle.cn_net.specs.declared.fault.NetFault.TheVariants.{DuplicatePeer}
use Rattle.cn_net.proofs.Faultless.{borne, fresh_key, known, middle, pushed_key}
use Rattle.cn_net.proofs.First.{built, faultless, found_none, is_second, neither, not_found}
use Rattle.cn_net.proofs.Keys.{equivalence, same_device-Decides}

-- ---- the peers of one device

-- the name of a peer is one of the names
abbrev pub IsKnown : List (List ℕ) → PeerDraft → Type 0
IsKnown names p = place_of names p.name < length names

-- the number of a peer
abbrev pub peer_number : List (List ℕ) → PeerDraft → DeviceId
peer_number names p = number_in names p.name

-- each peer is known, and none stands twice
pub record AreKnown (names : List (List ℕ)) (peers : List PeerDraft) : Type 0 where
  pub devices : All (IsKnown names) peers
  pub once : IsDistinct same_device (map (peer_number names) peers)

module _ (names : List (List ℕ)) (device : DeviceId) where
  peer_known : (before : List PeerDraft) (p : PeerDraft) → AreKnown names before
      → peer_fault names device before p ≡ None → AreKnown names (before ++ p ∷ [])
  peer_known before p so e =
      let peer = peer_number names p in
      let stands = list_any (same_device peer) (map (peer_number names) before) in
      let repeat = fault_if stands (DuplicatePeer device peer) in
      let both = neither (unknown_fault names p.name) repeat e in
      let new = not_found stands (DuplicatePeer device peer) both.1 in
      let laws = equivalence same_device same_device-Decides in
      record {
        devices = All-push (IsKnown names) before p so.devices (borne names p.name both.0);
        once = pushed_key laws (peer_number names) before p so.once new;
      }

  none_known : AreKnown names []
  unfolding IsDistinct
  none_known = record { devices = All-nil (IsKnown names); once = tt }

  pub peers_known : (peers : List PeerDraft) → first_in (peer_fault names device) peers ≡ None
      → AreKnown names peers
  peers_known peers e =
      built (peer_fault names device) (AreKnown names) peer_known [] peers none_known e

  peer_faultless : (before : List PeerDraft) (p : PeerDraft) (after : List PeerDraft)
      → AreKnown names (before ++ p ∷ after) → peer_fault names device before p ≡ None
  peer_faultless before p after so =
      let peer = peer_number names p in
      let stands = list_any (same_device peer) (map (peer_number names) before) in
      let laws = equivalence same_device same_device-Decides in
      let fresh = fresh_key laws (peer_number names) before p after so.once in
      is_second (unknown_fault names p.name) (fault_if stands (DuplicatePeer device peer))
      (known names p.name (middle (IsKnown names) before p after so.devices))
      ∙ found_none stands (DuplicatePeer device peer) fresh

  pub peers_faultless : (peers : List PeerDraft) → AreKnown names peers
      → first_in (peer_fault names device) peers ≡ None
  peers_faultless peers so =
      faultless (peer_fault names device) (AreKnown names) peer_faultless [] peers so

-- ---- the peers of all devices

-- each of a device's peers is known, and none stands twice
abbrev pub HasKnown : List (List ℕ) → DeviceDraft → Type 0
HasKnown names d = AreKnown names d.body.peers

pub all_known : (names : List (List ℕ)) (ds : List DeviceDraft)
    → first_in (peers_fault names) ds ≡ None → All (HasKnown names) ds
all_known names ds e =
    built (peers_fault names) (All (HasKnown names))
    (λ before d so none.
    All-push (HasKnown names) before d so
    (peers_known names (record { 0 = length before }) d.body.peers none))
    [] ds (All-nil (HasKnown names)) e

pub all_faultless : (names : List (List ℕ)) (ds : List DeviceDraft) → All (HasKnown names) ds
    → first_in (peers_fault names) ds ≡ None
all_faultless names ds so =
    faultless (peers_fault names) (All (HasKnown names))
    (λ before d after all.
    peers_faultless names (record { 0 = length before }) d.body.peers
    (middle (HasKnown names) before d after all))
    [] ds so
