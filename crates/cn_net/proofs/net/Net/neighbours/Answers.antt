use Rattle.std.proofs.Common.{◌≡◌, ◌≤◌, [], arith, ap, length, rules, slice_range, subst, sym}
use Rattle.cn_net.specs.Neighbours.{AreNeighbours, AreStarts}
use Rattle.cn_net.specs.Valid.{IsValid}
use Rattle.cn_net.proofs.Parts.{IsPart, IsPart-kept, all_of, part_ascends, part_linked}
use Rattle.cn_net.proofs.Peers.{linked_devices, peers_seen}
use Rattle.cn_net.proofs.net.Net.neighbours.Goals as goal
use Rattle.cn_net.proofs.net.Net.neighbours.Goals.{After-deref}

pub returns-then-place-len-clause-linked : goal.returns-then-place-len-clause-linked
returns-then-place-len-clause-linked c =
    let net = c.args.self.now in
    let valid : IsValid net = subst IsValid c.self.view_is c.self.invariant.valid in
    let many : length c.self.inside.devices ≡ length net.devices =
    ap (λ n. length n.devices) c.self.view_is in
    λ b. (
      λ (k, x, lt, is, to). absurd (omega arith),
      λ linked.
          let within = (linked_devices net c.args.d b valid linked).0 in
          absurd (omega arith),
    )

pub returns-then-place-len-clause-peers : goal.returns-then-place-len-clause-peers
returns-then-place-len-clause-peers c =
    let net = c.args.self.now in
    let valid : IsValid net = subst IsValid c.self.view_is c.self.invariant.valid in
    peers_seen net c.args.d [] valid (λ i j x lt within. absurd (omega arith))
    (returns-then-place-len-clause-linked c)

cut : (c : After-deref) → IsPart c.args.d c.deref.result.now
    (slice_range c.deref.result.now c.index-start.result.now c.index-end.result.now)
    c.index-start.result.now c.index-end.result.now
cut c =
    let net = c.args.self.now in
    let starts = c.self.inside.starts.items in
    let begun : AreStarts (length net.devices) c.self.inside.neighbours.items starts =
    subst (λ n. AreStarts (length n.devices) c.self.inside.neighbours.items starts) c.self.view_is
    c.self.invariant.begun in
    let many : length c.self.inside.devices ≡ length net.devices =
    ap (λ n. length n.devices) c.self.view_is in
    IsPart-kept (length net.devices) c.args.d c.deref.result.now starts c.index-start.result.now
    c.index-end.result.now
    (subst (λ list. AreStarts (length net.devices) list starts) (sym c.deref.ensures.value) begun)
    (omega arith) c.index-start.ensures c.index-end.ensures

joined : (c : After-deref) → AreNeighbours c.args.self.now.links c.deref.result.now
joined c =
    subst (AreNeighbours c.args.self.now.links) (sym c.deref.ensures.value)
    (subst (λ n. AreNeighbours n.links c.self.inside.neighbours.items) c.self.view_is
    c.self.invariant.joined)

valid : (c : After-deref) → IsValid c.args.self.now
valid c = subst IsValid c.self.view_is c.self.invariant.valid

pub offset_bounds-deref-start : goal.offset_bounds-deref-start
offset_bounds-deref-start c =
    let part = cut c in
    let many = part.many in
    let end : c.index-end.result.now ≤ length c.deref.result.now = part.end in
    let start : c.index-start.result.now ≤ c.index-end.result.now = omega arith in
    search rules

pub slice_bounds-result-count : goal.slice_bounds-result-count
slice_bounds-result-count c = let part = cut c in let many = part.many in omega arith

pub slice_bounds-result-start : goal.slice_bounds-result-start
slice_bounds-result-start c =
    let part = cut c in
    let many = part.many in
    let end : c.index-end.result.now ≤ length c.deref.result.now = part.end in
    let start : c.index-start.result.now ≤ c.index-end.result.now = omega arith in
    search rules

pub returns-clause-of : goal.returns-clause-of
returns-clause-of c =
    let at = (goal.at.returns-clause-of c).After-deref in
    all_of c.args.d c.deref.result.now _ c.index-start.result.now c.index-end.result.now (cut at)

pub returns-clause-linked : goal.returns-clause-linked
returns-clause-linked c =
    let at = (goal.at.returns-clause-linked c).After-deref in λ b.
    part_linked c.args.self.now.links c.args.d b c.deref.result.now _ c.index-start.result.now
    c.index-end.result.now (valid at).one_link (joined at) (cut at)

pub returns-clause-ascending : goal.returns-clause-ascending
returns-clause-ascending c =
    let at = (goal.at.returns-clause-ascending c).After-deref in
    part_ascends c.args.d c.deref.result.now _ c.index-start.result.now c.index-end.result.now
    (joined at).ascending (cut at)

pub returns-clause-peers : goal.returns-clause-peers
returns-clause-peers c =
    let at = (goal.at.returns-clause-peers c).After-deref in
    peers_seen c.args.self.now c.args.d _ (valid at) (returns-clause-ascending c)
    (returns-clause-linked c)
