use Rattle.std.proofs.Common.{List, rules, sym}
use Rattle.cn_net.specs.declared.neighbours.Neighbour.{Neighbour}
use Rattle.cn_net.proofs.Linked.{nat_below, position-found, position-not_found}
use Rattle.cn_net.proofs.net.Net.place_between.Goals as goal

pub returns-in-Some : goal.returns-in-Some
returns-in-Some c =
    let net = c.args.self.now in
    let list : List Neighbour = c.neighbours.result.now in
    let found =
    position-found net.links c.args.a c.args.b c.valid.ensures.one_link list c.in-Some.seen.now
    c.neighbours.ensures.of c.neighbours.ensures.links
    (c.in-Some.ensures (λ n. n.device) (λ x k h. search rules)
    (λ i j d lt within. nat_below _ _ (c.neighbours.ensures.ascending i j d lt within))) in
    record { place = sym found.1; within = found.0.within }

pub returns-in-None : goal.returns-in-None
returns-in-None c =
    let net = c.args.self.now in
    let list : List Neighbour = c.neighbours.result.now in
    let none =
    position-not_found net.links c.args.a c.args.b c.valid.ensures.one_link list
    (c.in-None.ensures (λ n. n.device) (λ x k h. search rules)
    (λ i j d lt within. nat_below _ _ (c.neighbours.ensures.ascending i j d lt within)))
    (c.neighbours.ensures.linked c.args.b).1 in
    record { place = sym none; within = tt }
