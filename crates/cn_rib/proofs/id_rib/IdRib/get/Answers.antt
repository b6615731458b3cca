use Rattle.std.proofs.Common.{Some, ap, sym, ◌∙◌}
use Rattle.std.specs.Prelude.{option_map}
use Rattle.cn_rib.specs.Interned.{attributes_under}
use Rattle.cn_rib.proofs.Mapped.{get-mapped}
use Rattle.cn_rib.proofs.id_rib.IdRib.get.Goals as goal

pub returns-in_err-route : goal.returns-in_err-route
returns-in_err-route c =
    rw c.from_residual.ensures
    (ap (option_map (attributes_under c.args.pool.now)) c.in_err-route.ensures
    ∙ sym (get-mapped (attributes_under c.args.pool.now) c.args.self.now c.args.prefix.now))

pub returns : goal.returns
returns c =
    (λ i. Some (record { path = c.path.ensures i; origin = c.in_ok-route.route.origin }))
    ∙ ap (option_map (attributes_under c.args.pool.now)) c.in_ok-route.ensures
    ∙ sym (get-mapped (attributes_under c.args.pool.now) c.args.self.now c.args.prefix.now)
