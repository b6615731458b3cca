use Rattle.std.proofs.Common.{◌∙◌, None, Some, ap, sym}
use Rattle.std.specs.Prelude.{List, option_map}
use Rattle.cn_base.specs.declared.ids.Asn.{Asn}
use Rattle.cn_base.specs.declared.route.Choice.{Choice}
use Rattle.cn_decide.specs.declared.Ranked.{Ranked}
use Rattle.cn_record.proofs.Deciding.{learnt_decided, own_decided}
use Rattle.cn_record.proofs.decision.decided.Goals as goal

pub returns-in-Some : goal.returns-in-Some
returns-in-Some c =
    ap (λ (q : List Asn). Some (record { from = None; path = q; origin = c.in-Some.origin }))
    c.empty.ensures
    ∙ own_decided c.args.net.now c.args.prefix.now c.args.table.now c.args.device c.in-Some.origin
    c.in-Some.ensures

pub returns-in-Some-2 : goal.returns-in-Some-2
returns-in-Some-2 c =
    ap (option_map (λ (r : Ranked Choice). r.item)) (sym c.in-Some-2.is)
    ∙ learnt_decided c.args.net.now c.args.prefix.now c.args.table.now c.args.device
    c.in_default.ensures c.in_ok-best.field-0 c.in_ok-best.ensures

pub returns-in-None : goal.returns-in-None
returns-in-None c =
    ap (option_map (λ (r : Ranked Choice). r.item)) (sym c.in-None.is)
    ∙ learnt_decided c.args.net.now c.args.prefix.now c.args.table.now c.args.device
    c.in_default.ensures c.in_ok-best.field-0 c.in_ok-best.ensures
