-- The directed sessions that an emulation keeps: one for each direction of a link, up or down,
-- whose receiver is emulated (RFC 4271, 3; a session here is one direction).
use Rattle.std.specs.Prelude.{◌≡◌, ℕ, ◌+◌, ◌<◌, ◌≤◌, Bool, false, List, [], length, option_map, slice_get, slice_index_or, unwrap_or, map}
use Rattle.std.specs.List.{All, AllPairs, filter, flat_map, range_with_len}
use Rattle.std.specs.Ordering.{nat_cmp, on, then_cmp}
use Rattle.std.specs.declared.cmp.Ordering.{Ordering}
use Rattle.std.specs.declared.cmp.Ordering.TheVariants.{Less}
use Rattle.cn_base.specs.declared.ids.DeviceId.{DeviceId}
use Rattle.cn_net.specs.Islands.{holds_device}
use Rattle.cn_net.specs.Network.{Network, device_ids, peers_of, same_device}
use Rattle.cn_net.specs.declared.sessions.SessionEnds.{SessionEnds}

-- ---- which there are

-- the emulated devices to which a device is linked, in ascending order
abbrev pub receivers_of : Network → List DeviceId → DeviceId → List DeviceId
receivers_of net emulated from = filter (holds_device emulated) (peers_of net from)

-- the sessions from a device, ascending by receiver
abbrev pub sessions_from : Network → List DeviceId → DeviceId → List SessionEnds
sessions_from net emulated from =
    map (λ to. record { from = from; to = to }) (receivers_of net emulated from)

-- the sessions, one device's after another's: ascending by (from, to)
unfoldable pub session_ends : Network → List DeviceId → List SessionEnds
session_ends net emulated = flat_map (sessions_from net emulated) (device_ids net)

-- ---- where they stand

-- the session at the place leads to the device
abbrev pub leads_to : List SessionEnds → DeviceId → ℕ → Bool
leads_to ends to place =
    unwrap_or (option_map (λ e. same_device e.to to) (slice_get ends place)) false

-- the session at the place comes from the device
abbrev pub comes_from : List SessionEnds → DeviceId → ℕ → Bool
comes_from ends from place =
    unwrap_or (option_map (λ e. same_device e.from from) (slice_get ends place)) false

-- the places of the sessions into a device, ascending, and so by sender
abbrev pub places_into : List SessionEnds → DeviceId → List ℕ
places_into ends to = filter (leads_to ends to) (range_with_len 0 (length ends))

-- ---- what an index keeps beside the list
-- This is the private representation; contracts say of it that the sessions ascend.

-- first by the sender, then by the receiver
abbrev pub by_sender : SessionEnds → SessionEnds → Ordering
by_sender = then_cmp (on (λ e. e.from.0) nat_cmp) (on (λ e. e.to.0) nat_cmp)

-- each session stands once, and behind those that are less
abbrev pub Ascend : List SessionEnds → Type 0
Ascend ends = AllPairs (λ x y. by_sender x y ≡ Less) ends

-- the place at which the sessions from each device begin: before it stand exactly those of devices
-- with lesser numbers
pub record SessionsBegin (ends : List SessionEnds) (starts : List ℕ) : Type 0 where
  pub within : All (λ s. s ≤ length ends) starts
  pub before : (d k s : ℕ) (e : SessionEnds) → d < length starts → k < slice_index_or starts d s
      → (slice_index_or ends k e).from.0 < d
  pub behind : (d k s : ℕ) (e : SessionEnds) → d < length starts → slice_index_or starts d s ≤ k
      → k < length ends → d ≤ (slice_index_or ends k e).from.0

-- the list of each device has the places of the sessions into it
abbrev pub ArePlaces : List SessionEnds → List (List ℕ) → Type 0
ArePlaces ends into =
    (d : DeviceId) → d.0 < length into → slice_index_or into d.0 [] ≡ places_into ends d

pub record IsIndexed (ends : List SessionEnds) (starts : List ℕ)
    (into : List (List ℕ)) : Type 0 where
  pub ascending : Ascend ends
  pub senders : All (λ e. e.from.0 + 1 < length starts) ends
  pub begin : SessionsBegin ends starts
  pub receivers : All (λ e. e.to.0 < length into) ends
  pub places : ArePlaces ends into
