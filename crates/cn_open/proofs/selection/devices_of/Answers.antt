use Rattle.std.proofs.Common.{◌≡◌, ℕ, length, not, refl, subst, arith}
use Rattle.cn_net.specs.Drafted.{draft_of}
use Rattle.cn_open.specs.Faults.{first_unknown, is_written}
use Rattle.cn_open.proofs.Names.{first_next, handed_on, none_next}
use Rattle.cn_open.proofs.Selections.{Found, found_none, found_more, selects}
use Rattle.cn_open.proofs.selection.devices_of.Goals as goal

pub loop-name-init : goal.loop-name-init
loop-name-init c = (
  found_none c.args.net.now c.args.names.now c.new-devices.result.items c.new-devices.ensures.items,
  refl,
)

pub returns-in_err-device-clause-unknown : goal.returns-in_err-device-clause-unknown
returns-in_err-device-clause-unknown c =
    let draft = draft_of c.args.net.now in
    handed_on c.from_residual.result c.in_err-device.field-0.0 _
    (first_unknown draft c.args.names.now) c.from_residual.ensures.0 c.from_residual.ensures.1
    (first_next (λ n. not (is_written draft n)) c.args.names.now c.loop-name.name-index
    c.name-item.result c.loop-name-test.true c.name-item.is c.loop-name.invariant.1)
    c.in_err-device.ensures.unknown

pub loop-name-preserved : goal.loop-name-preserved
loop-name-preserved c =
    let draft = draft_of c.args.net.now in (
      found_more c.args.net.now c.args.names.now c.loop-name.devices.items c.push.new.self.items
          c.loop-name.name-index c.in_ok-device.device c.name-item.result
          c.loop-name.invariant.0 c.in_ok-push.ensures.items c.loop-name-test.true c.name-item.is
          c.in_ok-device.ensures.device,
      none_next (λ n. not (is_written draft n)) c.args.names.now c.loop-name.name-index
          c.name-item.result c.loop-name-test.true c.name-item.is c.loop-name.invariant.1
          c.in_ok-device.ensures.unknown,
    )

pub make-set-requires : goal.make-set-requires
make-set-requires c =
    λ k d lt. (c.loop-name.invariant.0.each k d (omega (arith, c.loop-name.invariant.0.size))).0

pub returns-clause-devices : goal.returns-clause-devices
returns-clause-devices c =
    let all : c.loop-name.name-index ≡ length c.args.names.now = omega arith in
    let found =
    subst (λ (n : ℕ). Found c.args.net.now c.args.names.now c.loop-name.devices.items n) all
    c.loop-name.invariant.0 in (
      selects c.args.net.now c.valid.ensures c.args.names.now c.loop-name.devices.items found
          c.make-set.result c.make-set.ensures.holds,
      c.make-set.ensures.within,
      c.items.ensures.ascending,
    )
