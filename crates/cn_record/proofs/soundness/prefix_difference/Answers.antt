use Rattle.std.proofs.Common.{◌≡◌, ◌<◌, ◌∙◌, List, None, ap, length, map, subst, sym}
use Rattle.std.specs.Prelude.{All, Contains, MatchOption}
use Rattle.std.specs.List.{filter}
use Rattle.cn_base.specs.declared.ids.DeviceId.{DeviceId}
use Rattle.cn_net.specs.Islands.{label_of}
use Rattle.cn_record.specs.Places.{AddsDevices, IsInside, is_at}
use Rattle.cn_record.specs.Rounds.{AreAll, IsConverged, reset}
use Rattle.cn_record.specs.Steps.{AgreesAt, CoversApart, TellsLeast}
use Rattle.cn_record.proofs.Covering.{all_within, cleared_empty, covers_apart}
use Rattle.cn_record.proofs.Finding.{found_apart}
use Rattle.cn_record.proofs.Originating.{Contains-part}
use Rattle.cn_record.proofs.soundness.prefix_difference.Goals as goal
use Rattle.cn_record.proofs.soundness.prefix_difference.Goals.{In_ok-add_inside}

pub converge-requires-clause-originators : goal.converge-requires-clause-originators
converge-requires-clause-originators c =
    rw (c.net-net.ensures, c.labels-labels.ensures) (λ d is t.
    let p = c.args.item.now.prefix in
    Contains-part c.args.places.now.originators.items c.of_prefix-originators.result.now d p
    (c.of_prefix-originators.ensures ∙ ap (filter (is_at p)) c.deref.ensures.value)
    (c.requires.places.has_originators d p is.0 t))

module _ (c : In_ok-add_inside) where
  converged : IsConverged c.args.certified.now.net (label_of c.args.certified.now.labels)
      c.args.item.now.island c.args.item.now.prefix c.converge.new.table
      c.in_ok-devices.devices.items
  converged = rw (c.net-net.ensures, c.labels-labels.ensures) at c.in_ok-devices.ensures.converged

  adds : AddsDevices
      (λ d. Contains (map (λ x. x.device) c.of_prefix-recorded.result.now) d
      × IsInside c.args.certified.now.net (label_of c.args.certified.now.labels)
      c.args.item.now.island d)
      (IsInside c.args.certified.now.net (label_of c.args.certified.now.labels)
      c.args.item.now.island)
      c.in_ok-devices.devices.items c.add_inside.new.devices.items
  adds = rw (c.net-net.ensures, c.labels-labels.ensures) at c.in_ok-add_inside.ensures

  cut : c.of_prefix-recorded.result.now
      ≡ filter (is_at c.args.item.now.prefix) c.args.places.now.recorded.items
  cut =
      c.of_prefix-recorded.ensures
      ∙ ap (filter (is_at c.args.item.now.prefix)) c.deref-2.ensures.value

  covers : CoversApart c.args.certified.now.net (label_of c.args.certified.now.labels)
      c.args.item.now.island c.args.saved.now c.args.item.now.prefix c.converge.new.table
      c.add_inside.new.devices.items
  covers =
      covers_apart c.args.certified.now.net (label_of c.args.certified.now.labels)
      c.args.item.now.island c.args.saved.now c.args.item.now.prefix c.converge.new.table
      c.args.places.now.recorded.items c.of_prefix-recorded.result.now
      c.in_ok-devices.devices.items c.add_inside.new.devices.items cut
      c.requires.places.has_rows converged adds

  within : All (λ d. d.0 < length c.converge.new.table) c.add_inside.new.devices.items
  within =
      all_within c.args.certified.now.net (label_of c.args.certified.now.labels)
      c.args.item.now.island c.args.saved.now c.args.item.now.prefix c.converge.new.table
      c.args.places.now.recorded.items c.of_prefix-recorded.result.now
      c.in_ok-devices.devices.items c.add_inside.new.devices.items cut
      c.requires.places.has_rows converged adds

pub first_difference-requires : goal.first_difference-requires
first_difference-requires c =
    rw c.deref-3.ensures.value (within (goal.at.first_difference-requires c).In_ok-add_inside)

pub clear-requires : goal.clear-requires
clear-requires c =
    rw c.deref-4.ensures.value (within (goal.at.clear-requires c).In_ok-add_inside)

pub returns-clause-empty : goal.returns-clause-empty
returns-clause-empty c =
    let at = (goal.at.returns-clause-empty c).In_ok-add_inside in
    let devices = c.add_inside.new.devices.items in
    let empty =
    cleared_empty c.args.certified.now.net (label_of c.args.certified.now.labels)
    c.args.item.now.island c.args.saved.now c.args.item.now.prefix c.converge.new.table
    c.args.places.now.recorded.items c.of_prefix-recorded.result.now
    c.in_ok-devices.devices.items devices (cut at) c.requires.places.has_rows (converged at)
    (adds at) in
    subst (AreAll None) (sym c.clear.ensures)
    (subst (λ (ds : List DeviceId). AreAll None (reset None ds c.converge.new.table))
    (sym c.deref-4.ensures.value) empty)

pub returns-clause-found : goal.returns-clause-found
returns-clause-found c =
    let at = (goal.at.returns-clause-found c).In_ok-add_inside in
    let item = c.args.item.now in
    let table = c.converge.new.table in
    let rows = c.args.saved.now in
    found_apart c.args.certified.now c.valid.ensures rows item c.requires.own table
    (converged at).fixpoint c.add_inside.new.devices.items (covers at) c.in_ok-found.found
    (subst (λ (ds : List DeviceId). MatchOption c.in_ok-found.found
    (All (AgreesAt rows item.prefix table) ds) (TellsLeast rows item.prefix table ds))
    c.deref-3.ensures.value c.in_ok-found.ensures)
