use Rattle.std.proofs.Common.{ap, ◌∙◌}
use Rattle.std.specs.FinMap as fin
use Rattle.cn_rib.specs.PrefixSet as set
use Rattle.cn_rib.proofs.Keyed.{insert_all-keys}
use Rattle.cn_rib.proofs.prefix_set.PrefixSet.copy.Goals as goal

pub returns : goal.returns
returns c =
    c.in_ok-insert_all.ensures.ok
    ∙ ap (λ s. set.insert_all s (fin.keys c.self.inside.map)) c.new-copy.ensures
    ∙ ap (λ s. set.insert_all set.empty (fin.keys s)) c.self.view_is
    ∙ insert_all-keys c.args.self.now
