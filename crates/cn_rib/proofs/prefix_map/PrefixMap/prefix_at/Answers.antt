use Rattle.std.proofs.Common.{◌∙◌, ap, length, refl, slice_get, sym}
use Rattle.std.specs.Prelude.{option_map}
use Rattle.std.proofs.lemmas.Option.{slice_get-map, slice_get_past, slice_get_read}
use Rattle.cn_rib.proofs.Keyed.{keys_of_rows}
use Rattle.cn_rib.proofs.Prefixes.{prefix_cmp_total, prefix_cmp-IsAntisymmetric}
use Rattle.cn_rib.proofs.Rows.{rows_entries}
use Rattle.cn_rib.proofs.prefix_map.PrefixMap.prefix_at.Goals as goal

pub returns-in_err-get : goal.returns-in_err-get
returns-in_err-get g c =
    let rows = c.self.inside.rows.items in
    let place = c.args.place in
    let keys =
    keys_of_rows (λ r. r.prefix) (λ r. r.value) rows c.args.self.now
    (rows_entries prefix_cmp_total prefix_cmp-IsAntisymmetric (λ r. r.prefix) (λ r. r.value)
    rows _ c.self.invariant c.self.view_is) in
    let past = rw c.deref.ensures.value at c.in_err-get.ensures.lookup in
    c.from_residual.ensures
    ∙ sym (ap (λ ks. slice_get ks place) (sym keys)
    ∙ slice_get-map (λ r. r.prefix) rows place
    ∙ ap (option_map (λ r. r.prefix)) (slice_get_past rows place past.3))

pub returns : goal.returns
returns g c =
    let rows = c.self.inside.rows.items in
    let place = c.args.place in
    let row = c.in_ok-get.field-0.now in
    let keys =
    keys_of_rows (λ r. r.prefix) (λ r. r.value) rows c.args.self.now
    (rows_entries prefix_cmp_total prefix_cmp-IsAntisymmetric (λ r. r.prefix) (λ r. r.value)
    rows _ c.self.invariant c.self.view_is) in
    let at = rw c.deref.ensures.value at c.in_ok-get.ensures.lookup in
    sym (ap (λ ks. slice_get ks place) (sym keys)
    ∙ slice_get-map (λ r. r.prefix) rows place
    ∙ ap (option_map (λ r. r.prefix))
    (slice_get_read rows (length rows) place row refl at.3.0 at.1))
