use Rattle.std.proofs.Common.{◌≡◌, ◌+◌, ◌<◌, length, ◌∙◌, subst, arith}
use Rattle.cn_net.specs.Islands.{outside_of}
use Rattle.cn_base.specs.declared.ids.DeviceId.{DeviceId}
use Rattle.cn_net.specs.Network.{IsDevice, IsLinked}
use Rattle.cn_net.proofs.Peers.{linked_devices}
use Rattle.cn_island.specs.Found.{IsSearched}
use Rattle.cn_island.proofs.Search.{IsPending, first_pending, first_searched, next_pending, next_searched}
use Rattle.cn_island.proofs.labelling.label_island.Goals as goal

pub loop-next-init : goal.loop-next-init
loop-next-init c =
    let net = c.args.net.now in
    let o = outside_of c.args.emulated.now in
    let s = c.requires.searched in
    let h = c.in_ok-label.ensures.spread in
    let size : length c.label.new.labels ≡ length net.devices = c.label.auto.labels ∙ s.size in
    let start : length c.args.found.now.items ≡ c.len-next.result = omega arith in (
      subst (λ k. IsSearched net o c.label.new.labels c.label.new.found.items k (c.args.root.0 + 1))
          start (first_searched net o c.args.root c.args.labels.now c.label.new.labels
          c.args.found.now.items c.label.new.found.items s h c.requires.outside size
          c.in_ok-label.ensures.found),
      subst (λ k. IsPending c.label.new.labels c.label.new.found.items k c.args.root) start
          (first_pending net o c.args.root c.args.labels.now c.label.new.labels
          c.args.found.now.items c.label.new.found.items s h c.requires.outside size
          c.in_ok-label.ensures.found),
    )

pub loop-next-preserved : goal.loop-next-preserved
loop-next-preserved c =
    let net = c.args.net.now in
    let o = outside_of c.args.emulated.now in
    let s = c.loop-next.invariant.0 in
    let w = c.loop-next.invariant.1 in
    let h = c.in_ok-label_neighbours.ensures.spread in
    let size : length c.label_neighbours.new.labels ≡ length net.devices =
    c.label_neighbours.auto.labels ∙ s.size in
    let lt : c.loop-next.next < length c.loop-next.found.items = omega arith in
    let below : c.args.root.0 < c.args.root.0 + 1 = omega arith in
    let devices : (b : DeviceId) → IsLinked net c.index-d.result.now b → IsDevice net b =
    λ b l. (linked_devices net c.index-d.result.now b c.valid.ensures l).1 in (
      next_searched net o c.args.root c.loop-next.labels c.label_neighbours.new.labels
          c.loop-next.found.items c.label_neighbours.new.found.items c.loop-next.next
          (c.args.root.0 + 1) c.index-d.result.now s w h lt c.index-d.ensures below size
          c.in_ok-label_neighbours.ensures.found devices,
      next_pending net o c.args.root c.loop-next.labels c.label_neighbours.new.labels
          c.loop-next.found.items c.label_neighbours.new.found.items c.loop-next.next
          (c.args.root.0 + 1) c.index-d.result.now s w h lt c.index-d.ensures below size
          c.in_ok-label_neighbours.ensures.found devices,
    )
