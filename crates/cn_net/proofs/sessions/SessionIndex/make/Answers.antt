use Rattle.std.proofs.Common.{ℕ, ◌<◌, ◌^◌, Vec, Global, length, map, sym, subst, ◌∙◌, arith}
use Rattle.std.specs.List.{All}
use Rattle.std.proofs.lemmas.List.{length-map}
use Rattle.cn_net.specs.Sessions.{ArePlaces, SessionsBegin, Ascend}
use Rattle.cn_net.specs.declared.sessions.SessionEnds.{SessionEnds}
use Rattle.cn_net.proofs.SessionOrder.{ends_ascend, few_sessions, index_made, receivers_within}
use Rattle.cn_net.proofs.sessions.SessionIndex.make.Goals as goal

pub starts_of-requires-clause-few : goal.starts_of-requires-clause-few
starts_of-requires-clause-few c =
    subst (λ es. length es < 2 ^ 32) (sym (c.as_slice.ensures.value ∙ c.in_ok-ends.ensures))
    (few_sessions c.args.net.now c.args.emulated.now c.valid.ensures.few_devices)

pub starts_of-requires-clause-ascending : goal.starts_of-requires-clause-ascending
starts_of-requires-clause-ascending c =
    subst Ascend (sym (c.as_slice.ensures.value ∙ c.in_ok-ends.ensures))
    (ends_ascend c.args.net.now c.args.emulated.now)

pub into_of-requires-clause-few : goal.into_of-requires-clause-few
into_of-requires-clause-few c =
    subst (λ es. length es < 2 ^ 32) (sym (c.as_slice-2.ensures.value ∙ c.in_ok-ends.ensures))
    (few_sessions c.args.net.now c.args.emulated.now c.valid.ensures.few_devices)

pub into_of-requires-clause-receivers : goal.into_of-requires-clause-receivers
into_of-requires-clause-receivers c =
    subst (λ n. All (λ (e : SessionEnds). e.to.0 < n) c.as_slice-2.result.now)
    (sym c.count-2.ensures)
    (subst (All (λ (e : SessionEnds). e.to.0 < length c.args.net.now.devices))
    (sym (c.as_slice-2.ensures.value ∙ c.in_ok-ends.ensures))
    (receivers_within c.args.net.now c.args.emulated.now))

pub invariant_of-result : goal.invariant_of-result
invariant_of-result c =
    let net = c.args.net.now in
    let count = c.count-2.result in
    let many = c.count-2.ensures in
    let first = c.count.ensures in
    let items = λ (v : Vec ℕ Global). v.items in
    index_made net c.args.emulated.now c.in_ok-ends.ends.items c.in_ok-starts.starts.items
    (map items c.in_ok-into.into.items) count c.in_ok-ends.ensures many
    (omega (arith, c.in_ok-starts.ensures.count))
    (subst (λ es. SessionsBegin es c.in_ok-starts.starts.items) c.as_slice.ensures.value
    c.in_ok-starts.ensures.starts)
    (length-map c.in_ok-into.into.items items ∙ c.in_ok-into.ensures.count)
    (subst (λ es. ArePlaces es (map items c.in_ok-into.into.items)) c.as_slice-2.ensures.value
    c.in_ok-into.ensures.places)
