use Rattle.std.proofs.Common.{◌∙◌, rules}
use Rattle.std.specs.Ordering.{is_eq, nat_cmp}
use Rattle.std.proofs.lemmas.List.Elements.{filter_agree}
use Rattle.cn_record.specs.Grouped.{is_member}
use Rattle.cn_record.proofs.Parts.{is_member-ties, islands_ascend}
use Rattle.cn_record.proofs.islands.of_island.Goals as goal

pub returns : goal.returns
returns c =
    let members = c.args.members.now in
    let i = c.args.island in
    c.part_at.ensures (λ m. m.island) (λ x k called. search rules)
    (islands_ascend members c.requires)
    ∙ filter_agree (λ m. is_eq (nat_cmp m.island.0 i.0)) (is_member i) (is_member-ties i) members
