-- What a prefix list permits.
use Rattle.std.specs.Prelude.{Bool, true, false, List, Option, None, Some, find, option_map, unwrap_or}
use Rattle.cn_base.specs.Cidr.{Cidr}
use Rattle.cn_base.specs.Entry.{EntryValue, matches}

-- the first entry that matches decides, and no match denies
abbrev pub permits : List EntryValue → Cidr → Bool
permits entries p = unwrap_or (option_map (λ e. e.permit) (find (λ e. matches e p) entries)) false

-- an absent list permits everything
abbrev pub permits_if_any : Option (List EntryValue) → Cidr → Bool
permits_if_any None p = true
permits_if_any (Some entries) p = permits entries p
