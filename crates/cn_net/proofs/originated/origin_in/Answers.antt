use Rattle.std.proofs.Common.{◌∙◌, ap, option_map, rules}
use Rattle.std.specs.Ordering.{is_eq}
use Rattle.cn_lists.proofs.Finding.{find-agree}
use Rattle.cn_base.specs.Cidr.{Cidr, same_prefix}
use Rattle.cn_base.specs.Table.{prefix_cmp}
use Rattle.cn_net.specs.declared.device.Own.{Own}
use Rattle.cn_net.proofs.ByPrefix.{is_eq-prefix_cmp}
use Rattle.cn_net.proofs.originated.origin_in.Goals as goal

pub returns-in-Some : goal.returns-in-Some
returns-in-Some c =
    let list = c.args.list.now in
    let p : Cidr = c.args.prefix.now in
    ap (option_map (λ (o : Own). o.origin))
    (c.in-Some.ensures (λ o. o.prefix) (λ x k h. search rules) c.requires.ascending
    ∙ find-agree (λ (o : Own). is_eq (prefix_cmp o.prefix p)) (λ o. same_prefix o.prefix p)
    (λ o. is_eq-prefix_cmp o.prefix p) list)

pub returns-in-None : goal.returns-in-None
returns-in-None c =
    let list = c.args.list.now in
    let p : Cidr = c.args.prefix.now in
    ap (option_map (λ (o : Own). o.origin))
    (c.in-None.ensures (λ o. o.prefix) (λ x k h. search rules) c.requires.ascending
    ∙ find-agree (λ (o : Own). is_eq (prefix_cmp o.prefix p)) (λ o. same_prefix o.prefix p)
    (λ o. is_eq-prefix_cmp o.prefix p) list)
