use Rattle.std.proofs.Common.{◌≤◌, ◌∙◌, arith, ap, length}
use Rattle.cn_net.specs.Islands.{label_of}
use Rattle.cn_net.specs.Network.{IsDevice}
use Rattle.cn_record.specs.Recorded.{RecordedOpening}
use Rattle.cn_record.specs.Said.{island_originates}
use Rattle.cn_record.proofs.Saying.{not_device, not_labelled, originated_by}
use Rattle.cn_record.proofs.recorded.Recorded.is_of_island.Goals as goal

pub returns-then-device-count : goal.returns-then-device-count
returns-then-device-count c =
    let o = c.self.inside.certified in
    let few : length o.net.devices ≤ c.args.device.0 =
    omega (
      arith,
      c.if-device-count.true,
      c.count.ensures,
      ap (λ n. length n.devices) c.net.ensures,
    ) in
    not_device o.net (label_of o.labels) c.args.device c.args.prefix.now few
    ∙ ap (λ (r : RecordedOpening). island_originates r.opening.net (label_of r.opening.labels)
    c.args.device c.args.prefix.now) c.self.view_is

pub returns-in-Some : goal.returns-in-Some
returns-in-Some c =
    let o = c.self.inside.certified in
    let label = label_of o.labels in
    let is : IsDevice o.net c.args.device =
    omega (
      arith,
      c.if-device-count.false,
      c.count.ensures,
      ap (λ n. length n.devices) c.net.ensures,
    ) in
    let labelled = c.in-Some.ensures ∙ ap (λ l. label_of l c.args.device) c.labels.ensures in
    let found = rw c.deref.ensures.value at c.island_of.ensures in
    originated_by o.net label c.args.device c.args.prefix.now c.self.inside.prefixes.items
    c.in-Some.island c.island_of.result c.eq.result
    (λ i. (c.self.invariant.recorded.opening.certified.island i).origins)
    c.self.invariant.prefixes is labelled found c.eq.ensures
    ∙ ap (λ (r : RecordedOpening). island_originates r.opening.net (label_of r.opening.labels)
    c.args.device c.args.prefix.now) c.self.view_is

pub returns-in-None : goal.returns-in-None
returns-in-None c =
    let o = c.self.inside.certified in
    not_labelled o.net (label_of o.labels) c.args.device c.args.prefix.now (c.in-None.ensures
    ∙ ap (λ l. label_of l c.args.device) c.labels.ensures)
    ∙ ap (λ (r : RecordedOpening). island_originates r.opening.net (label_of r.opening.labels)
    c.args.device c.args.prefix.now) c.self.view_is
