-- Paths of AS numbers (RFC 4271, 5.1.2).
use Rattle.std.specs.Prelude.{◌==◌, Bool, List}
use Rattle.std.specs.List.{list_any}
use Rattle.cn_base.specs.declared.ids.Asn.{Asn}

-- n stands in the path
abbrev pub holds_asn : List Asn → Asn → Bool
holds_asn path n = list_any (λ x. x.0 == n.0) path
