use Rattle.std.proofs.Common.{◌+◌, ◌∙◌, None, arith, false, subst, sym, take}
use Rattle.std.specs.Prelude.{All, MatchOption}
use Rattle.std.proofs.lemmas.List.{take_all}
use Rattle.cn_net.specs.Islands.{label_of}
use Rattle.cn_record.specs.Grouped.{AreOfIsland}
use Rattle.cn_record.specs.Rounds.{AreAll}
use Rattle.cn_record.specs.Steps.{AgreesFor, IsFirstAmong, IsFirstFor}
use Rattle.cn_record.proofs.Finding.{first_more, first_passed}
use Rattle.cn_record.proofs.Members.{part_of_island}
use Rattle.cn_record.proofs.soundness.first_unsound.Goals as goal
use Rattle.cn_record.proofs.soundness.first_unsound.Goals.{After-of_island-devices, else-not-is_behind, then-not-is_behind+in_ok-next}

devices : (c : After-of_island-devices)
    → AreOfIsland c.args.certified.now.net
    (label_of c.args.certified.now.labels) c.item-item.result.island
    c.of_island-devices.result.now
devices c = part_of_island c.args.certified.now.net
    (label_of c.args.certified.now.labels) c.item-item.result.island c.args.members.now
    c.of_island-devices.result.now c.requires.members c.of_island-devices.ensures
    c.requires.ordered

pub loop-item-preserved : goal.loop-item-preserved
loop-item-preserved c =
    let o = c.args.certified.now in
    let rows = c.args.saved.now in
    let prefixes = c.args.prefixes.now in
    let k = c.loop-item.item-index in
    let x = c.item-item.result in
    let of =
    subst
    (λ z.
    AreOfIsland o.net
    (label_of o.labels) z.island c.of_island-devices.result.now) c.item-item.is
    (devices (goal.at.loop-item-preserved c).After-of_island-devices) in
    elim c.if-not-is_behind.branch [
      | then-not-is_behind+in_ok-next w ↦
          let next =
          subst
          (λ z. MatchOption w.in_ok-next.next (AgreesFor o rows z)
          (IsFirstFor o rows z)) c.item-item.is w.in_ok-next.ensures.found in
          record {
            empty = subst (AreAll None) (sym w.table-is) w.in_ok-next.ensures.empty;
            unmarked = subst (AreAll false) (sym w.marks-is) w.in_ok-next.ensures.unmarked;
            found =
                subst
                (λ r. MatchOption r (All (AgreesFor o rows) (take (k + 1) prefixes))
                (IsFirstAmong o rows (take (k + 1) prefixes)))
                (sym (w.first-is ∙ w.earlier_of-first.ensures))
                (first_more o c.valid.ensures rows prefixes k x c.requires.prefixes
                c.loop-item-test.true c.loop-item.first w.in_ok-next.next
                c.loop-item.invariant.found next);
          }
      | else-not-is_behind w ↦
          record {
            empty = subst (AreAll None) (sym w.table-is) c.loop-item.invariant.empty;
            unmarked = subst (AreAll false) (sym w.marks-is) c.loop-item.invariant.unmarked;
            found =
                subst
                (λ r. MatchOption r (All (AgreesFor o rows) (take (k + 1) prefixes))
                (IsFirstAmong o rows (take (k + 1) prefixes))) (sym w.first-is)
                (first_passed o c.valid.ensures rows prefixes k x c.requires.prefixes
                c.loop-item-test.true c.loop-item.first c.of_island-devices.result.now of
                (sym c.is_behind.ensures
                ∙ w.if-not-is_behind.false) c.loop-item.invariant.found);
          }
    ]

pub returns : goal.returns
returns c =
    rw (take_all c.loop-item.item-index c.args.prefixes.now
    (omega arith)) at c.loop-item.invariant.found
