use Rattle.std.proofs.Common.{◌≡◌, ◌<◌, length, get_or, map, sym, ap, subst, ◌∙◌, arith}
use Rattle.std.specs.Prelude.{◌↔◌, IsTrue, find}
use Rattle.std.specs.BTreeSet.{contains}
use Rattle.std.specs.List.{filter_map}
use Rattle.std.specs.List.Sorted.{IsPermutation}
use Rattle.cn_base.specs.Table.{prefix_cmp}
use Rattle.cn_net.specs.Islands.{label_of}
use Rattle.cn_cert.specs.Steps.{IsSplit, is_elsewhere, shared, with_island}
use Rattle.cn_cert.proofs.Shares.{has_elsewhere, own_prefixes, refused_origins}
use Rattle.cn_cert.proofs.origins.origins_refusal.Goals as goal

pub returns-in-None : goal.returns-in-None
returns-in-None c =
    let name = label_of c.args.names.now in
    let split = c.in_ok-prefixes.prefixes in
    let list = c.in_ok-members.members.items in
    let placed = c.sort_unstable.new.self.items in
    let pairs =
    c.deref-2.ensures.value ∙ c.in_ok-with_islands.ensures
    ∙ ap (map (with_island name)) c.deref.ensures.value in
    let found =
    c.in_ok-shared.ensures
    ∙ ap (filter_map (λ m. shared name (contains prefix_cmp split m.key) m)) c.deref-3.ensures.value
    in
    let none : length placed ≡ 0 =
    omega (arith, c.in-None.ensures.item.3, ap length c.deref-4.ensures.value) in
    λ outside.
    own_prefixes c.args.net.now name list c.in_ok-members.ensures split
    (λ p. subst (λ ps. IsTrue (contains prefix_cmp split p) ↔ IsSplit ps p) pairs
    (c.in_ok-prefixes.ensures p))
    placed c.sort_unstable.ensures.sorted
    (subst (λ xs. IsPermutation xs placed) found c.sort_unstable.ensures.permutation)
    none

pub returns-in-Some-first_elsewhere : goal.returns-in-Some-first_elsewhere
returns-in-Some-first_elsewhere c =
    let name = label_of c.args.names.now in
    let split = c.in_ok-prefixes.prefixes in
    let list = c.in_ok-members.members.items in
    let placed = c.sort_unstable.new.self.items in
    let first = c.in-Some.inside.now in
    let pairs =
    c.deref-2.ensures.value ∙ c.in_ok-with_islands.ensures
    ∙ ap (map (with_island name)) c.deref.ensures.value in
    let found =
    c.in_ok-shared.ensures
    ∙ ap (filter_map (λ m. shared name (contains prefix_cmp split m.key) m)) c.deref-3.ensures.value
    in
    let some : 0 < length placed =
    omega (arith, c.in-Some.ensures.item.3.0, ap length c.deref-4.ensures.value) in
    λ outside.
    refused_origins c.args.net.now name list c.in_ok-members.ensures split
    (λ p. subst (λ ps. IsTrue (contains prefix_cmp split p) ↔ IsSplit ps p) pairs
    (c.in_ok-prefixes.ensures p))
    placed c.sort_unstable.ensures.sorted
    (subst (λ xs. IsPermutation xs placed) found c.sort_unstable.ensures.permutation)
    first some
    (ap (λ xs. get_or xs 0 first) (sym c.deref-4.ensures.value) ∙ sym c.in-Some.ensures.item.1)
    outside c.in-Some-first_elsewhere.elsewhere
    (ap (find (is_elsewhere name first.key.0 first.key.1)) (sym c.deref-5.ensures.value)
    ∙ sym c.first_elsewhere.ensures ∙ c.in-Some-first_elsewhere.is)

pub returns : goal.returns
returns c =
    let name = label_of c.args.names.now in
    let split = c.in_ok-prefixes.prefixes in
    let list = c.in_ok-members.members.items in
    let placed = c.sort_unstable.new.self.items in
    let first = c.in-Some.inside.now in
    let pairs =
    c.deref-2.ensures.value ∙ c.in_ok-with_islands.ensures
    ∙ ap (map (with_island name)) c.deref.ensures.value in
    let found =
    c.in_ok-shared.ensures
    ∙ ap (filter_map (λ m. shared name (contains prefix_cmp split m.key) m)) c.deref-3.ensures.value
    in
    let some : 0 < length placed =
    omega (arith, c.in-Some.ensures.item.3.0, ap length c.deref-4.ensures.value) in
    absurd (
    has_elsewhere c.args.net.now name list c.in_ok-members.ensures split
    (λ p. subst (λ ps. IsTrue (contains prefix_cmp split p) ↔ IsSplit ps p) pairs
    (c.in_ok-prefixes.ensures p))
    placed c.sort_unstable.ensures.sorted
    (subst (λ xs. IsPermutation xs placed) found c.sort_unstable.ensures.permutation)
    first some
    (ap (λ xs. get_or xs 0 first) (sym c.deref-4.ensures.value) ∙ sym c.in-Some.ensures.item.1)
    (ap (find (is_elsewhere name first.key.0 first.key.1)) (sym c.deref-5.ensures.value)
    ∙ sym c.first_elsewhere.ensures ∙ c.in-None-first_elsewhere.is)
    )
