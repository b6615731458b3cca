use Rattle.std.proofs.Common.{◌≡◌, List, None, Some, subst}
use Rattle.std.specs.List.{flat_map}
use Rattle.cn_net.specs.Drafted.{draft_of}
use Rattle.cn_readnet.specs.declared.record.RowDraft.{RowDraft}
use Rattle.cn_open.specs.Faults.{first_unknown, row_names}
use Rattle.cn_open.specs.Steps.{IsFirstUnknown}
use Rattle.cn_open.proofs.Readings.{all_known, unknown_recorded}
use Rattle.cn_open.proofs.naming.rows_named.Goals as goal

pub returns-in-Ok-clause-known : goal.returns-in-Ok-clause-known
returns-in-Ok-clause-known c =
    let text = c.args.text.now in
    let net = c.args.net.now in
    let known =
    subst (λ (ds : List RowDraft). first_unknown (draft_of net) (flat_map row_names ds) ≡ None)
    c.items.ensures c.in-Ok.ensures.unknown in
    all_known text net c.requires.drafted c.valid.ensures c.requires.known known

pub returns-in-Err-Unknown-clause-fault : goal.returns-in-Err-Unknown-clause-fault
returns-in-Err-Unknown-clause-fault c =
    let text = c.args.text.now in
    let net = c.args.net.now in
    let name = c.in-Err-Unknown.name in
    let told =
    subst (IsFirstUnknown (first_unknown (draft_of net) (flat_map row_names c.items.result.now)))
    c.in-Err-Unknown.field-0-is c.in-Err-Unknown.ensures.unknown in
    let first =
    subst (λ (ds : List RowDraft). first_unknown (draft_of net) (flat_map row_names ds) ≡ Some name)
    c.items.ensures told in
    unknown_recorded text net c.requires.drafted c.valid.ensures c.requires.known name first
