use Rattle.std.proofs.Common.{refl, sym}
use Rattle.cn_net.proofs.Turned.{ends_of-with_link, link_between-with_link, link_between-with_link_other}
use Rattle.cn_net.proofs.changed.with_link_changes_one_link.Goals as goal

pub returns-clause-changed : goal.returns-clause-changed
returns-clause-changed c = λ net a b up linked. link_between-with_link a b up net linked

pub returns-clause-others : goal.returns-clause-others
returns-clause-others c =
    λ net a b up x y apart. link_between-with_link_other a b up net x y apart

pub returns-clause-all_else : goal.returns-clause-all_else
returns-clause-all_else c =
    λ net a b up. record { devices = refl; links = sym (ends_of-with_link a b up net) }
