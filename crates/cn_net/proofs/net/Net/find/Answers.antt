use Rattle.std.proofs.Common.{subst}
use Rattle.cn_net.specs.Kept.{AreNamesOf}
use Rattle.cn_net.specs.Valid.{IsValid}
use Rattle.cn_net.proofs.Places.{found, missing}
use Rattle.cn_net.proofs.net.Net.find.Goals as goal

pub returns-in-Some : goal.returns-in-Some
returns-in-Some c =
    let keys = c.self.inside.names.keys in
    found c.args.self.now keys
    (subst (λ n. AreNamesOf n.devices keys) c.self.view_is c.self.invariant.named) c.args.name.now
    c.in-Some.place c.in-Some.ensures.index

pub returns-in-None : goal.returns-in-None
returns-in-None c =
    let keys = c.self.inside.names.keys in
    missing c.args.self.now keys
    (subst (λ n. AreNamesOf n.devices keys) c.self.view_is c.self.invariant.named)
    (subst IsValid c.self.view_is c.self.invariant.valid).names c.args.name.now
    c.in-None.ensures.index
