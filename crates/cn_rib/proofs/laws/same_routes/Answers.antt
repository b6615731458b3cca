use Rattle.cn_rib.proofs.IdRoutes.{same_routes}
use Rattle.cn_rib.proofs.laws.same_routes.Goals as goal

pub returns : goal.returns
returns c = same_routes
