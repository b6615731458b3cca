use Rattle.std.proofs.Common.{◌≡◌, ◌++◌, ◌∙◌, ap, map}
use Rattle.std.proofs.lemmas.Result.{on_ok_weaker}
use Rattle.cn_net.specs.Islands.{label_of}
use Rattle.cn_net.specs.declared.device.Own.{Own}
use Rattle.cn_record.specs.Grouped.{of_island}
use Rattle.cn_record.proofs.Gathering.{own_added}
use Rattle.cn_record.proofs.islands.add_device.Goals as goal

pub returns-in-Some-Some : goal.returns-in-Some-Some
returns-in-Some-Some c =
    let old = c.args.prefixes.now.items in
    let new = c.add_own.new.prefixes.items in
    let i = c.in-Some-Some.island in
    on_ok_weaker c.add_own.result
    (λ (e : new ≡ old ++ map (λ (o : Own). of_island i o.prefix) c.items.result.now).
    own_added c.args.net.now
    (label_of c.args.labels.now) c.args.device i c.in-Some-Some.found.now old new
    c.in-Some-Some.ensures c.in-Some-Some.ensures'
    (e ∙ ap
    (λ z. old ++ map (λ (o : Own). of_island i o.prefix) z) c.items.ensures))
    c.add_own.ensures
