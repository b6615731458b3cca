use Rattle.std.proofs.Common.{Some, ap, sym, ◌∙◌}
use Rattle.std.specs.Prelude.{slice_get}
use Rattle.cn_pool.proofs.Pools.{found_is}
use Rattle.cn_pool.proofs.pool.Pool.id_of.Goals as goal

pub returns : goal.returns
returns c =
    sym (ap (λ ps. slice_get ps c.in_ok-place.place) c.self.view_is)
    ∙ c.in_ok-place.ensures.stored
    ∙ ap Some (found_is c.self.inside.paths.keys c.args.path.now c.in_ok-place.field-0-1.now
    c.in_ok-place.ensures.key)
