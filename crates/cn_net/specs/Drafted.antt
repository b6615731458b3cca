-- The network that a draft stands for: the one that, with names in place of numbers, reads as the
-- draft.
use Rattle.std.specs.Prelude.{◌≡◌, map}
use Rattle.cn_net.specs.Network.{Network, name_of}
use Rattle.cn_net.specs.Valid.{IsValid}
use Rattle.cn_net.specs.declared.device.Body.{Body}
use Rattle.cn_net.specs.declared.device.Device.{Device}
use Rattle.cn_net.specs.declared.device.Link.{Link}
use Rattle.cn_net.specs.declared.device.Peer.{Peer}
use Rattle.cn_net.specs.declared.draft.BodyDraft.{BodyDraft}
use Rattle.cn_net.specs.declared.draft.DeviceDraft.{DeviceDraft}
use Rattle.cn_net.specs.declared.draft.Draft.{Draft}
use Rattle.cn_net.specs.declared.draft.LinkDraft.{LinkDraft}
use Rattle.cn_net.specs.declared.draft.PeerDraft.{PeerDraft}
use Rattle.cn_net.specs.declared.fault.NetAnswer.{NetAnswer}
use Rattle.cn_net.specs.declared.fault.NetAnswer.TheVariants.{Fault, Memory}

abbrev pub peer_draft : Network → Peer → PeerDraft
peer_draft net p = record { name = name_of net p.device; policy = p.policy }

abbrev pub body_draft : Network → Body → BodyDraft
body_draft net body = record {
  asn = body.asn;
  own = body.own;
  peers = map (peer_draft net) body.peers;
}

abbrev pub device_draft : Network → Device → DeviceDraft
device_draft net d = record {
  name = d.name;
  layer = d.layer;
  id = d.id;
  body = body_draft net d.body;
}

abbrev pub link_draft : Network → Link → LinkDraft
link_draft net l = record { a = name_of net l.a; b = name_of net l.b; up = l.up }

-- the network as a plan writes it
abbrev pub draft_of : Network → Draft
draft_of net = record {
  devices = map (device_draft net) net.devices;
  links = map (link_draft net) net.links;
}

-- no valid network reads as the draft
abbrev pub StandsForNone : Draft → Type 0
StandsForNone draft = (net : Network) → IsValid net → draft_of net ≡ draft → ⊥

-- a valid network reads as the draft
abbrev pub StandsForOne : Draft → Type 0
StandsForOne draft = (net : Network) × IsValid net × (draft_of net ≡ draft)

-- a fact that a fault in the answer tells of; want of memory tells of none
abbrev pub IfFault : Type 0 → NetAnswer → Type 0
IfFault P (Fault f) = P
IfFault P Memory = Unit {0}
