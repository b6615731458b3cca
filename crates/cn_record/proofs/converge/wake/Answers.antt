use Rattle.std.proofs.Common.{◌≡◌, ℕ, ◌↔◌, ◌+◌, ◌++◌, ◌<◌, ◌∷◌, ◌∙◌, [], true, List, Vec, Global, ap, arith, get_or, length, map, not, ◌&&◌, refl, subst, sym, take}
use Rattle.std.specs.Prelude.{Contains}
use Rattle.std.specs.List.{Any}
use Rattle.std.proofs.lemmas.Bool.{and_parts, false≢true}
use Rattle.std.proofs.lemmas.List.{get_or_default, map_more, take_all}
use Rattle.cn_base.specs.declared.ids.DeviceId.{DeviceId}
use Rattle.cn_net.specs.Islands.{label_of}
use Rattle.cn_net.specs.Network.{Network, IsDevice, IsLinked, peers_of}
use Rattle.cn_net.specs.Valid.{IsValid}
use Rattle.cn_net.specs.declared.neighbours.Neighbour.{Neighbour}
use Rattle.cn_net.proofs.Peers.{linked_devices, linked_peer}
use Rattle.cn_record.specs.Places.{AddsDevices, IsInside, is_inside}
use Rattle.cn_record.specs.Rounds.{AreMarked, is_deaf, is_woken}
use Rattle.cn_record.proofs.Inside.{adds_more, adds_passed, inside_label}
use Rattle.cn_record.proofs.converge.wake.Goals as goal
use Rattle.cn_record.proofs.converge.wake.Goals.{else-is_woken, then-is_woken+in_ok-add_marked}

abbrev nobody : Neighbour
nobody = record { of = record { 0 = 0 }; device = record { 0 = 0 }; link = 0 }

-- a neighbour is a device
is_device : (net : Network) (d : DeviceId) (items : List Neighbour) (k : ℕ) → IsValid net
    → ((b : DeviceId) → (Any (λ n. n.device ≡ b) items ↔ IsLinked net d b)) → k < length items
    → IsDevice net (get_or items k nobody).device
is_device net d items k valid linked within =
    let n = get_or items k nobody in
    (linked_devices net d n.device valid
    ((linked n.device).0 (k, n, within, get_or_default items k n nobody within, refl))).1

pub add_marked-requires-clause-within : goal.add_marked-requires-clause-within
add_marked-requires-clause-within c =
    let is =
    is_device c.args.net.now c.args.device c.neighbours-neighbour-items.result.now
    c.loop-neighbour.neighbour-index c.valid.ensures c.neighbours-neighbour-items.ensures.linked
    c.loop-neighbour-test.true in
    omega (arith, is, c.requires.size, c.loop-neighbour.auto.marks)

pub loop-neighbour-preserved : goal.loop-neighbour-preserved
loop-neighbour-preserved c =
    let net = c.args.net.now in
    let label = label_of c.args.labels.now in
    let i = c.args.island in
    let before = c.args.before.now in
    let after = c.args.after.now in
    let inside = IsInside net label i in
    let woken = λ (b : DeviceId). is_woken net label i before after b ≡ true in
    let device = λ (n : Neighbour). n.device in
    let items = c.neighbours-neighbour-items.result.now in
    let k = c.loop-neighbour.neighbour-index in
    let y = (get_or items k nobody).device in
    let ds = map device (take k items) in
    let all = map device (take (k + 1) items) in
    let more : all ≡ ds ++ y ∷ [] = map_more device items k nobody c.loop-neighbour-test.true in
    let old = c.args.waiting.now.items in
    let new = c.loop-neighbour.waiting.items in
    let so = c.loop-neighbour.invariant.wakes in
    elim c.if-is_woken.branch [
      | then-is_woken+in_ok-add_marked w ↦
          let newer = w.add_marked.new.devices.items in
          let items-are = ap (λ (v : Vec DeviceId Global). v.items) (sym w.waiting-is) in
          let is =
          is_device c.args.net.now c.args.device c.neighbours-neighbour-items.result.now
          c.loop-neighbour.neighbour-index c.valid.ensures
          c.neighbours-neighbour-items.ensures.linked
          c.loop-neighbour-test.true in
          let tests =
          and_parts (not (is_deaf net y before && is_deaf net y after)) (is_inside label i y)
          (sym c.is_woken.ensures ∙ w.if-is_woken.true) in
          let adds =
          adds_more woken inside ds all y old new newer more so (is, inside_label label i y tests.1)
          w.in_ok-add_marked.ensures.added in
          record {
            wakes = subst (AddsDevices (λ b. Contains all b × woken b) inside old) items-are adds;
            marked = subst (AreMarked c.if-is_woken.marks) items-are
                (subst (λ ms. AreMarked ms newer)
                (sym w.marks-is) w.in_ok-add_marked.ensures.marked);
          }
      | else-is_woken w ↦
          let items-are = ap (λ (v : Vec DeviceId Global). v.items) (sym w.waiting-is) in
          record {
            wakes = subst (AddsDevices (λ b. Contains all b × woken b) inside old) items-are
                (adds_passed woken inside ds all y old new more so
                (λ t. false≢true (sym w.if-is_woken.false ∙ c.is_woken.ensures ∙ t)));
            marked = subst (AreMarked c.if-is_woken.marks) items-are
                (subst (λ ms. AreMarked ms new) (sym w.marks-is) c.loop-neighbour.invariant.marked);
          }
    ]

pub returns-clause-woken : goal.returns-clause-woken
returns-clause-woken c =
    let net = c.args.net.now in
    let items = c.neighbours-neighbour-items.result.now in
    let k = c.loop-neighbour.neighbour-index in
    let so = c.loop-neighbour.invariant.wakes in
    let all : map (λ (n : Neighbour). n.device) (take k items) ≡ peers_of net c.args.device =
    ap (map (λ (n : Neighbour). n.device)) (take_all k items (omega arith))
    ∙ c.neighbours-neighbour-items.ensures.peers in
    record {
      kept = so.kept;
      added = λ b h.
          so.added b (
            subst (λ (ds : List DeviceId). Contains ds b) (sym all)
                (linked_peer net c.args.device b c.valid.ensures h.0),
            h.1,
          );
      only = so.only;
    }
