use Rattle.std.proofs.Common.{◌≡◌, ◌+◌, ◌++◌, None, not, length, take, drop, ap, ◌∙◌, subst, sym, arith, rules}
use Rattle.std.proofs.lemmas.Bool.{false≢true}
use Rattle.std.proofs.lemmas.Grind.{common_steps}
use Rattle.std.proofs.lemmas.List.{take_at}
use Rattle.cn_base.specs.declared.ids.DeviceId.{DeviceId}
use Rattle.std.proofs.Math.ListN.{replicate}
use Rattle.cn_net.specs.Islands.{IsIslands, label_of, outside_of}
use Rattle.cn_island.specs.Found.{IsSearched}
use Rattle.cn_island.proofs.Spreading.{labelled_there}
use Rattle.cn_island.proofs.Search.{all_islands, passed_searched, start_searched}
use Rattle.cn_island.proofs.labelling.islands.Goals as goal
use Rattle.cn_island.proofs.labelling.islands.Goals.{then-not-holds+then-is_none+in_ok-label_island, else-not-holds, else-not-holds-via-then-not-holds+else-is_none, else-not-holds-via-else-not-holds}

pub loop-i-init : goal.loop-i-init
loop-i-init c =
    let net = c.args.net.now in
    let o = outside_of c.args.emulated.now in
    let none : c.in_ok-labels.labels.items ≡ replicate (length net.devices) None =
    c.in_ok-labels.ensures.items_if_clones_equal
    (λ y h. first_of (search rules, cc, grind (arith, common_steps)))
    ∙ ap (λ n. replicate n None) c.count-count.ensures in
    subst (λ z. IsSearched net o z c.new-found.result.items (length c.new-found.result.items) 0)
    (sym none)
    (subst (λ z. IsSearched net o (replicate (length net.devices) None) z (length z) 0)
    (sym c.new-found.ensures.items) (start_searched net o))

pub loop-i-preserved : goal.loop-i-preserved
loop-i-preserved c =
    let net = c.args.net.now in
    let o = outside_of c.args.emulated.now in
    let labels = c.loop-i.labels.items in
    let found = c.loop-i.found.items in
    let root : DeviceId = record { 0 = c.loop-i.i } in
    elim c.if-not-holds.branch [
      | then-not-holds+then-is_none+in_ok-label_island w ↦
          let new = w.label_island.new.labels in
          let kept : length new ≡ c.loop-i.labels.len = w.label_island.auto.labels
          ∙ w.deref_mut.ensures.len in
          subst (λ z. IsSearched net o z.items c.if-not-holds.found.items
          (length c.if-not-holds.found.items) (c.loop-i.i + 1)) (sym w.labels-is)
          (subst (λ z. IsSearched net o (take c.loop-i.labels.len (new ++ drop (length new) labels))
          z.items (length z.items) (c.loop-i.i + 1)) (sym w.found-is)
          (subst (λ z. IsSearched net o z w.label_island.new.found.items
          (length w.label_island.new.found.items) (c.loop-i.i + 1))
          (sym (take_at new (drop (length new) labels) c.loop-i.labels.len kept))
          w.in_ok-label_island.ensures))
      | else-not-holds w ↦
          subst (λ z. IsSearched net o z.items c.if-not-holds.found.items
          (length c.if-not-holds.found.items) (c.loop-i.i + 1)) (sym w.labels-is)
          (subst (λ z. IsSearched net o labels z.items (length z.items) (c.loop-i.i + 1))
          (sym w.found-is)
          (passed_searched net o labels found (length found) root c.loop-i.invariant
          (λ is. elim w.else-not-holds.branch [
            | else-not-holds-via-then-not-holds+else-is_none v ↦
                labelled_there labels root v.index.result.now v.is_none.result (omega arith)
                v.index.ensures v.is_none.ensures v.if-is_none.false
            | else-not-holds-via-else-not-holds v ↦
                absurd (false≢true (ap not (sym v.if-not-holds.false ∙ c.holds.ensures) ∙ is))
          ])))
    ]

pub returns-clause-islands : goal.returns-clause-islands
returns-clause-islands c =
    subst (λ z. IsIslands c.args.net.now (outside_of c.args.emulated.now) (label_of z))
    (sym c.make.ensures)
    (all_islands c.args.net.now (outside_of c.args.emulated.now) c.loop-i.labels.items
    c.loop-i.found.items c.loop-i.i c.loop-i.invariant (omega (arith, c.count-count.ensures)))

pub returns-clause-size : goal.returns-clause-size
returns-clause-size c = ap length c.make.ensures ∙ c.loop-i.invariant.size
