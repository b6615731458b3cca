use Rattle.std.proofs.Common.{not}
use Rattle.std.specs.List.{flat_map}
use Rattle.cn_net.specs.Drafted.{draft_of}
use Rattle.cn_open.specs.Faults.{first_unknown, is_written, row_names}
use Rattle.cn_open.proofs.Names.{first_here, handed_on, none_more}
use Rattle.cn_open.proofs.Selections.{read_more}
use Rattle.cn_open.proofs.rows.rows_of.Goals as goal

pub returns-in_err-row-clause-unknown : goal.returns-in_err-row-clause-unknown
returns-in_err-row-clause-unknown c =
    let draft = draft_of c.args.net.now in
    let drafts = c.args.drafts.now in
    handed_on c.from_residual-in_err-row.result c.in_err-row.field-0.0
    (first_unknown draft (row_names c.draft-item.result))
    (first_unknown draft (flat_map row_names drafts))
    c.from_residual-in_err-row.ensures.0 c.from_residual-in_err-row.ensures.1
    (first_here (λ n. not (is_written draft n)) row_names drafts c.loop-draft.draft-index
    c.draft-item.result c.loop-draft-test.true c.draft-item.is c.loop-draft.invariant.1)
    c.in_err-row.ensures.unknown

pub loop-draft-preserved : goal.loop-draft-preserved
loop-draft-preserved c =
    let draft = draft_of c.args.net.now in
    let drafts = c.args.drafts.now in (
      read_more c.args.net.now drafts c.loop-draft.draft-index c.draft-item.result
          c.loop-draft-test.true c.draft-item.is c.loop-draft.rows.items c.push.new.self.items
          c.in_ok-row.row c.loop-draft.invariant.0 c.in_ok-row.ensures.row
          c.in_ok-push.ensures.items,
      none_more (λ n. not (is_written draft n)) row_names drafts c.loop-draft.draft-index
          c.draft-item.result c.loop-draft-test.true c.draft-item.is c.loop-draft.invariant.1
          c.in_ok-row.ensures.unknown,
    )
