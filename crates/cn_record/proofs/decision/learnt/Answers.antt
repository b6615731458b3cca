use Rattle.std.proofs.Common.{◌≡◌, ◌∙◌, ◌<◌, ◌+◌, ◌↔◌, ℕ, List, Option, Any, arith, ap, drop, get_or, length, map, refl, sym}
use Rattle.std.specs.List.{fold}
use Rattle.std.proofs.lemmas.List.{at_drop_more, get_or_default}
use Rattle.cn_base.specs.Cidr.{Cidr}
use Rattle.cn_base.specs.declared.ids.DeviceId.{DeviceId}
use Rattle.cn_base.specs.declared.route.Choice.{Choice}
use Rattle.cn_decide.specs.Decide.{better}
use Rattle.cn_decide.specs.declared.Ranked.{Ranked}
use Rattle.cn_lists.proofs.Finding.{None-from_is_some}
use Rattle.cn_net.specs.Network.{IsDevice, IsLinked, Network}
use Rattle.cn_net.specs.Valid.{IsValid}
use Rattle.cn_net.specs.declared.neighbours.Neighbour.{Neighbour}
use Rattle.cn_net.proofs.Peers.{linked_devices}
use Rattle.cn_record.specs.Tables.{ranked_candidate}
use Rattle.cn_record.proofs.Deciding.{better-held_none}
use Rattle.cn_record.proofs.decision.learnt.Goals as goal
use Rattle.cn_record.proofs.decision.learnt.Goals.{else-is_some, then-is_some+in_ok-best}

abbrev none : Neighbour
none = record { of = record { 0 = 0 }; device = record { 0 = 0 }; link = 0 }

-- a neighbour is a device
is_device : (net : Network) (d : DeviceId) (items : List Neighbour) (k : ℕ) → IsValid net
    → ((b : DeviceId) → (Any (λ n. n.device ≡ b) items ↔ IsLinked net d b)) → k < length items
    → IsDevice net (get_or items k none).device
is_device net d items k valid linked within =
    let n = get_or items k none in
    (linked_devices net d n.device valid
    ((linked n.device).0 (k, n, within, get_or_default items k n none within, refl))).1

-- one more neighbour
one_more : (net : Network) (p : Cidr) (table : List (Option Choice)) (d : DeviceId)
    (items : List Neighbour) (k : ℕ) (best next : Option (Ranked Choice)) → k < length items
    → next ≡ better best (ranked_candidate net p table d (get_or items k none).device)
    → fold (λ x a. better x (ranked_candidate net p table d a)) next
    (map (λ n. n.device) (drop (k + 1) items))
    ≡ fold (λ x a. better x (ranked_candidate net p table d a)) best
    (map (λ n. n.device) (drop k items))
one_more net p table d items k best next within is =
    let f : Option (Ranked Choice) → DeviceId → Option (Ranked Choice) =
    λ x a. better x (ranked_candidate net p table d a) in
    ap (λ z. fold f z (map (λ n. n.device) (drop (k + 1) items))) is
    ∙ sym (at_drop_more (λ ns. fold f best (map (λ n. n.device) ns)) items k none within)

pub bounds-table-neighbour : goal.bounds-table-neighbour
bounds-table-neighbour c =
    omega (
      arith,
      c.requires.size,
      is_device c.args.net.now c.args.device
          c.neighbours-neighbour-items.result.now c.loop-neighbour.neighbour-index c.valid.ensures
          c.neighbours-neighbour-items.ensures.linked c.loop-neighbour-test.true,
    )

pub better_candidate-requires-clause-from : goal.better_candidate-requires-clause-from
better_candidate-requires-clause-from c =
    is_device c.args.net.now c.args.device c.neighbours-neighbour-items.result.now
    c.loop-neighbour.neighbour-index c.valid.ensures c.neighbours-neighbour-items.ensures.linked
    c.loop-neighbour-test.true

pub loop-neighbour-preserved : goal.loop-neighbour-preserved
loop-neighbour-preserved c =
    let net = c.args.net.now in
    let p = c.args.prefix.now in
    let table = c.args.table.now in
    let d = c.args.device in
    let items = c.neighbours-neighbour-items.result.now in
    let k = c.loop-neighbour.neighbour-index in
    let best = c.loop-neighbour.best in
    let lt = c.loop-neighbour-test.true in
    let n = get_or items k none in
    let within : n.device.0 < length table =
    omega (
      arith,
      c.requires.size,
      is_device net d items k c.valid.ensures
          c.neighbours-neighbour-items.ensures.linked lt,
    ) in
    elim c.if-is_some.branch [
      | then-is_some+in_ok-best w ↦
          one_more net p table d items k best c.if-is_some.best lt
          (w.best-is ∙ w.in_ok-best.ensures)
          ∙ c.loop-neighbour.invariant
      | else-is_some w ↦
          let nothing = None-from_is_some c.index-table-neighbour.result
          (sym c.is_some.ensures ∙ w.if-is_some.false) in
          let same = better-held_none net p table d n.device best c.index-table-neighbour.result
          within c.index-table-neighbour.is nothing in
          one_more net p table d items k best c.if-is_some.best lt (w.best-is ∙ same)
          ∙ c.loop-neighbour.invariant
    ]
