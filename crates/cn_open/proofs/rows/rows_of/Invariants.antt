use Rattle.std.proofs.Common.{◌≡◌, None, take}
use Rattle.std.specs.List.{flat_map}
use Rattle.cn_net.specs.Drafted.{draft_of}
use Rattle.cn_open.specs.Emulation.{ReadAs}
use Rattle.cn_open.specs.Faults.{first_unknown, row_names}
use Rattle.cn_open.proofs.rows.rows_of.Given as goal

abbrev pub invariant-loop-draft : goal.invariant-loop-draft
invariant-loop-draft l =
    ReadAs l.net (take l.draft-index l.drafts) l.rows.items
    × (first_unknown (draft_of l.net) (flat_map row_names (take l.draft-index l.drafts)) ≡ None)
