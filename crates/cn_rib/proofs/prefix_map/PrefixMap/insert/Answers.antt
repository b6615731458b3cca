use Rattle.std.proofs.Common.{◌≡◌, T, map, Ok, Err, OnOk, OnErr, sym, subst}
use Rattle.std.specs.FinMap.{is_sorted}
use Rattle.std.specs.FinMap.Entries.{put}
use Rattle.std.proofs.lemmas.Result.{on_ok_weaker}
use Rattle.cn_base.specs.Table.{prefix_cmp}
use Rattle.cn_rib.proofs.Prefixes.{prefix_cmp_total, prefix_cmp-IsAntisymmetric}
use Rattle.cn_rib.proofs.Rows.{insert_is, sorted_insert}
use Rattle.cn_rib.proofs.prefix_map.PrefixMap.insert.Goals as goal

pub invariant_of-self : goal.invariant_of-self
invariant_of-self g c =
    elim c.put.result as (λ r. OnOk r
    (map (λ r. (r.prefix, r.value)) c.put.new.rows.items
    ≡ put prefix_cmp c.args.prefix c.args.value
    (map (λ r. (r.prefix, r.value)) c.self.inside.rows.items))
    → OnErr r (c.put.new.rows.items ≡ c.self.inside.rows.items)
    → T (is_sorted prefix_cmp (map (λ r. (r.prefix, r.value)) c.put.new.rows.items))) [
      | Ok x ↦
          λ is _. sorted_insert prefix_cmp_total prefix_cmp-IsAntisymmetric (λ r. r.prefix)
          (λ r. r.value) c.self.inside.rows.items _ c.self.invariant c.self.view_is _ c.args.prefix
          c.args.value is
      | Err e ↦
          λ _ same. subst (λ rows. T (is_sorted prefix_cmp (map (λ r. (r.prefix, r.value)) rows)))
          (sym same) c.self.invariant
    ] c.put.ensures.ok c.put.ensures.err

pub returns-clause-ok : goal.returns-clause-ok
returns-clause-ok g c =
    on_ok_weaker c.put.result
    (insert_is prefix_cmp_total prefix_cmp-IsAntisymmetric (λ r. r.prefix) (λ r. r.value)
    c.self.inside.rows.items _ c.self.invariant c.self.view_is _ c.args.prefix c.args.value)
    c.put.ensures.ok
