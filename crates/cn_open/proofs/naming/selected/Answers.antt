use Rattle.std.proofs.Common.{subst}
use Rattle.cn_net.specs.Drafted.{draft_of}
use Rattle.cn_open.specs.Faults.{first_unknown, selection_names}
use Rattle.cn_open.specs.Steps.{IsFirstUnknown}
use Rattle.cn_open.proofs.Readings.{unknown_chosen}
use Rattle.cn_open.proofs.naming.selected.Goals as goal

pub returns-in-Err-Unknown-clause-fault : goal.returns-in-Err-Unknown-clause-fault
returns-in-Err-Unknown-clause-fault c =
    let text = c.args.text.now in
    let net = c.args.net.now in
    unknown_chosen text net c.requires c.valid.ensures c.in-Err-Unknown.name
    (subst (IsFirstUnknown (first_unknown (draft_of net) (selection_names text.selection)))
    c.in-Err-Unknown.field-0-is c.in-Err-Unknown.ensures.unknown)
