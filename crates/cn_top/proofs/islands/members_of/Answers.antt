use Rattle.std.proofs.Common.{◌≡◌, length, Bool, Some, arith, refl, sym, ap, ◌∙◌}
use Rattle.std.specs.List.{filter}
use Rattle.std.specs.Option.{option_eq}
use Rattle.cn_base.specs.declared.ids.DeviceId.{DeviceId}
use Rattle.cn_net.specs.Islands.{label_of}
use Rattle.cn_net.specs.Network.{Network, same_device}
use Rattle.cn_top.specs.Texts.{is_of, members_of}
use Rattle.cn_top.proofs.KeptDevices.{all_ids, kept_more, kept_same}
use Rattle.cn_top.proofs.islands.members_of.Goals.{then-eq+in_ok-push, else-eq}
use Rattle.cn_top.proofs.islands.members_of.Goals as goal

pub loop-number-preserved : goal.loop-number-preserved
loop-number-preserved c =
    let p : DeviceId → Bool = is_of c.args.certified.now c.args.island in
    let d : DeviceId = record { 0 = c.loop-number.number } in
    let label : c.of.result ≡ label_of c.args.certified.now.labels d =
    c.of.ensures ∙ (λ j. label_of (c.labels.ensures j) d) in
    let test : p d ≡ option_eq same_device c.of.result (Some c.args.island) =
    λ j. option_eq same_device (sym label j) (Some c.args.island) in
    elim c.if-eq.branch [
      | then-eq+in_ok-push w ↦
          kept_more p c.loop-number.number c.loop-number.found.items c.if-eq.found.items d refl
          c.loop-number.invariant (test ∙ sym w.if-eq.ensures)
          ((λ j. (w.found-is j).items) ∙ w.in_ok-push.ensures.items)
      | else-eq w ↦
          (λ j. (w.found-is j).items)
          ∙ kept_same p c.loop-number.number c.loop-number.found.items c.if-eq.found.items d refl
          c.loop-number.invariant (test ∙ sym w.if-eq.ensures)
    ]

pub returns : goal.returns
unfolding members_of
returns c =
    let net = c.args.certified.now.net in
    let size : c.count-number-end.result ≡ length net.devices =
    c.count-number-end.ensures ∙ ap (λ (n : Network). length n.devices) c.net.ensures in
    let all : c.loop-number.number ≡ length net.devices = omega (arith, size) in
    c.loop-number.invariant
    ∙ ap (filter (is_of c.args.certified.now c.args.island)) (all_ids net c.loop-number.number all)
