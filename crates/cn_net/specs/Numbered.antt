-- The one network that a draft can stand for: its devices and links with numbers in place of names.
-- A name that no device bears has the number of devices in place of a number.
use Rattle.std.specs.Prelude.{ℕ, List, String, map}
use Rattle.std.specs.List.{position_or_len}
use Rattle.std.specs.Str.{bytes_eq}
use Rattle.std.specs.String.{string_bytes}
use Rattle.cn_base.specs.declared.ids.DeviceId.{DeviceId}
use Rattle.cn_net.specs.declared.device.Body.{Body}
use Rattle.cn_net.specs.declared.device.Device.{Device}
use Rattle.cn_net.specs.declared.device.Link.{Link}
use Rattle.cn_net.specs.declared.device.Peer.{Peer}
use Rattle.cn_net.specs.declared.draft.BodyDraft.{BodyDraft}
use Rattle.cn_net.specs.declared.draft.DeviceDraft.{DeviceDraft}
use Rattle.cn_net.specs.declared.draft.LinkDraft.{LinkDraft}
use Rattle.cn_net.specs.declared.draft.PeerDraft.{PeerDraft}

-- the place of a name among the names, and their number where it isn't among them
abbrev pub place_of : List (List ℕ) → List ℕ → ℕ
place_of names name = position_or_len (bytes_eq name) names

-- the number of the device that bears a name
abbrev pub number_in : List (List ℕ) → List ℕ → DeviceId
number_in names name = record { 0 = place_of names name }

abbrev pub peer_made : List (List ℕ) → PeerDraft → Peer
peer_made names p = record { device = number_in names p.name; policy = p.policy }

abbrev pub body_made : List (List ℕ) → BodyDraft → Body
body_made names body = record {
  asn = body.asn;
  own = body.own;
  peers = map (peer_made names) body.peers;
}

abbrev pub device_made : List (List ℕ) → DeviceDraft → Device
device_made names d = record {
  name = d.name;
  layer = d.layer;
  id = d.id;
  body = body_made names d.body;
}

abbrev pub link_made : List (List ℕ) → LinkDraft → Link
link_made names l = record { a = number_in names l.a; b = number_in names l.b; up = l.up }

-- the names of the devices, as they are written
abbrev pub written_names : List DeviceDraft → List (List ℕ)
written_names devices = map (λ d. d.name) devices

-- the bytes of the keys of an index
abbrev pub texts : {A : Type 0} → List (String A) → List (List ℕ)
texts keys = map string_bytes keys
