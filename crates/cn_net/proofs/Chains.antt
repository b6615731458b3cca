-- Chains of links between outside devices.
use Rattle.std.proofs.Common.{◌≡◌, ◌||◌, ◌&&◌, Bool, true, false, Option, Some, find, is_some, option_map, refl, sym, ap, ◌∙◌, arith}
use Rattle.cn_base.specs.declared.ids.DeviceId.{DeviceId}
use Rattle.cn_net.specs.declared.device.Link.{Link}
use Rattle.cn_net.specs.Network.{Network, IsLinked, link_between, same_device}
use Rattle.cn_net.specs.Islands.{IsIslandLabelling, IsIslands, IsJoined}
use Rattle.cn_net.specs.Islands.IsJoined.{itself, link}

or_swap : (x y : Bool) → (x || y) ≡ (y || x)
or_swap true true = refl
or_swap true false = refl
or_swap false true = refl
or_swap false false = refl

link_back : (net : Network) (a b : DeviceId) → link_between net a b ≡ link_between net b a
link_back net a b =
    ap (λ (t : Link → Bool). option_map (λ (l : Link). l.up) (find t net.links))
    (λ i l.
    or_swap (same_device l.a a && same_device l.b b) (same_device l.a b && same_device l.b a) i)

pub linked_back : (net : Network) (a b : DeviceId) → IsLinked net a b → IsLinked net b a
linked_back net a b h = sym (ap is_some (link_back net a b)) ∙ h

pub joined_on : (net : Network) (outside : DeviceId → Bool) (a b c : DeviceId)
    → IsJoined net outside a b → IsJoined net outside b c → IsJoined net outside a c
joined_on net outside a b c r itself = r
joined_on net outside a b c r (link {b = d} s od oc l) =
    link (joined_on net outside a b d r s) od oc l

pub joined_back : (net : Network) (outside : DeviceId → Bool) (a b : DeviceId)
    → IsJoined net outside a b → IsJoined net outside b a
joined_back net outside a b itself = itself
joined_back net outside a b (link {b = d} s od ob l) =
    joined_on net outside b d a (link itself ob od (linked_back net d b l))
    (joined_back net outside a d s)

-- the labels of the islands fit
pub islands_labelling : (net : Network) (outside : DeviceId → Bool)
    (label : DeviceId → Option DeviceId)
    → IsIslands net outside label → IsIslandLabelling net outside label
islands_labelling net outside label h = record {
  emulated = h.emulated;
  labelled = h.labelled;
  linked = λ a b is_a is_b oa ob l.
      let x = h.labelled a is_a oa in
      let y = h.labelled b is_b ob in
      let over = link (itself {d = a}) oa ob l in
      let back = link (itself {d = b}) ob oa (linked_back net a b l) in
      let xy =
      h.least a x.0 y.0 is_a x.1 (joined_on net outside a b y.0 over (h.joined b y.0 is_b y.1)) in
      let yx =
      h.least b y.0 x.0 is_b y.1 (joined_on net outside b a x.0 back (h.joined a x.0 is_a x.1)) in
      let e : x.0.0 ≡ y.0.0 = omega (arith, xy, yx) in
      x.1 ∙ ap Some (λ i. record { 0 = e i }) ∙ sym y.1;
}
