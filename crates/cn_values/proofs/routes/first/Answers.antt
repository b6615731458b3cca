use Rattle.std.proofs.Common.{subst, sym}
use Rattle.cn_rib.specs.Interned.{IsUnder}
use Rattle.cn_rib.proofs.IdRoutes.{empty_under}
use Rattle.cn_values.proofs.routes.first.Goals as goal

pub apply-requires : goal.apply-requires
apply-requires c = record {
  under =
      subst (IsUnder c.args.pool.now) (sym c.new-routes.ensures) (empty_under c.args.pool.now);
}
