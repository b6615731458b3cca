use Rattle.std.proofs.Common.{◌≡◌, false, arith, ap, option_map}
use Rattle.std.specs.List.{list_any}
use Rattle.std.proofs.lemmas.Grind.{common_steps}
use Rattle.cn_net.specs.Valid.{same_router}
use Rattle.cn_net.specs.declared.fault.NetFault.TheVariants.{DuplicateId}
use Rattle.cn_net.proofs.Places.{no_place}
use Rattle.cn_net.proofs.repeat.add_id.Goals as goal

pub returns-clause-first : goal.returns-clause-first
returns-clause-first c =
    let fresh : list_any (same_router c.args.id) c.args.ids.now.keys ≡ false =
    grind (arith, common_steps, c.in_ok-earlier.ensures.added) in
    ap (option_map (λ a. DuplicateId (record { 0 = a }) c.args.device))
    (no_place (same_router c.args.id) c.args.ids.now.keys fresh)
