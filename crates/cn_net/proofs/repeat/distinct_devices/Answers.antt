use Rattle.std.proofs.Common.{◌<◌, length, take, refl, arith, ap, sym}
use Rattle.std.proofs.lemmas.List.{length-take-le}
use Rattle.std.proofs.lemmas.Result.{err_from_is_err_and}
use Rattle.cn_base.specs.declared.ids.DeviceId.{DeviceId}
use Rattle.cn_net.specs.Faults.{device_fault, first_in, id_fault}
use Rattle.cn_net.specs.Numbered.{texts}
use Rattle.cn_net.proofs.Finding.{device_numbered}
use Rattle.cn_net.proofs.First.{first_here, told}
use Rattle.cn_net.proofs.repeat.distinct_devices.Goals as goal

pub loop-i-init : goal.loop-i-init
loop-i-init c = record {
  names = ap texts c.new-names.ensures.empty;
  ids = c.new-ids.ensures.empty;
  first = refl;
}

pub returns-in_err-add_id-clause-first : goal.returns-in_err-add_id-clause-first
returns-in_err-add_id-clause-first c =
    let ds = c.args.devices.now in
    let x = c.index-devices-i.result in
    let i = c.loop-i.i in
    let within : i < length ds = omega arith in
    let number : DeviceId = record { 0 = i } in
    let so = c.loop-i.invariant in
    let ids = c.loop-i.ids.keys in
    let place = sym (length-take-le i ds (omega arith)) in
    let numbered = device_numbered (take i ds) x (texts c.loop-i.names.keys) so.names ids number
    c.in_ok-add_name.ensures.first so.ids place in
    let result = c.from_residual-in_err-add_id.result in
    let p = err_from_is_err_and result c.from_residual-in_err-add_id.ensures.1 in
    rw (p.1, p.2)
    (told (id_fault ids number x.id) (first_in device_fault ds) c.in_err-add_id.field-0.0
    (λ f e. first_here device_fault ds i x f within c.index-devices-i.is so.first (numbered f e))
    c.in_err-add_id.ensures.first)
