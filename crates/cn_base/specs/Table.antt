-- Tables of what is held for prefixes.
use Rattle.std.specs.Prelude.{List, Option}
use Rattle.std.specs.List.{find}
use Rattle.std.specs.List.Sorted.{IsStrictlySortedBy}
use Rattle.std.specs.Option.{option_map}
use Rattle.std.specs.Ordering.{nat_cmp, on, then_cmp}
use Rattle.std.specs.declared.cmp.Ordering.{Ordering}
use Rattle.cn_base.specs.Cidr.{Cidr, same_prefix}
use Rattle.cn_base.specs.declared.route.Choice.{Choice}
use Rattle.cn_base.specs.declared.table.TableRow.{TableRow}

-- by the bits, then the shorter first
abbrev pub prefix_cmp : Cidr → Cidr → Ordering
prefix_cmp = then_cmp (on (λ p. p.bits) nat_cmp) (on (λ p. p.len) nat_cmp)

-- each prefix is above those before it
abbrev pub AscendsByPrefix : List TableRow → Type 0
AscendsByPrefix rows = IsStrictlySortedBy (on (λ r. r.prefix) prefix_cmp) rows

-- what the rows have for a prefix
abbrev pub choice_for : List TableRow → Cidr → Option Choice
choice_for rows p = option_map (λ r. r.choice) (find (λ r. same_prefix r.prefix p) rows)
