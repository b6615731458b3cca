use Rattle.cn_wire.proofs.Parts.{is_there, masked_is_cidr_by, shifted}
use Rattle.cn_wire.proofs.prefixes.masked.Goals as goal

pub unwrap-requires : goal.unwrap-requires
unwrap-requires c =
    is_there c.new.result _ c.new.ensures
    (masked_is_cidr_by _ c.from.result c.args.len c.requires (shifted c.args.len c.requires))
