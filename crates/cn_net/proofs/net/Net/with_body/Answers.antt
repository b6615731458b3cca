use Rattle.std.proofs.Common.{◌≡◌, ◌∙◌, List, ap, arith, get_or, length, map, refl, set, subst, sym}
use Rattle.std.specs.List.{IsDistinct}
use Rattle.std.proofs.Math.Seq.{map-set_same}
use Rattle.std.proofs.lemmas.List.{length-set}
use Rattle.std.proofs.lemmas.Slice.Zip.{AllZip-long}
use Rattle.cn_base.specs.Cidr.{same_prefix}
use Rattle.cn_net.specs.Changed.{reloaded, with_body}
use Rattle.cn_net.specs.Kept.{AreOwn, IsByPrefix, names_of}
use Rattle.cn_net.specs.Neighbours.{AreStarts}
use Rattle.cn_net.specs.Valid.{IsValid}
use Rattle.cn_net.specs.declared.device.Device.{Device}
use Rattle.cn_net.specs.declared.device.Own.{Own}
use Rattle.cn_net.proofs.ByPrefix.{AllZip-set}
use Rattle.cn_net.proofs.Reloaded.{OriginatesOnce-with_body, devices-with_body}
use Rattle.cn_net.proofs.net.Net.with_body.Goals as goal
use Rattle.cn_net.proofs.net.Net.with_body.Goals.{After-make}

pub by_prefix-requires : goal.by_prefix-requires
by_prefix-requires c = record {
  once =
      subst (λ (own : List Own). IsDistinct same_prefix (map (λ o. o.prefix) own))
      (sym c.items.ensures)
      (OriginatesOnce-with_body c.args.self c.args.d c.args.body c.requires.device
      c.requires.valid);
}

pub index_mut-requires-2 : goal.index_mut-requires-2
index_mut-requires-2 c =
    let many : length c.self.inside.own.items ≡ length c.self.inside.devices =
    AllZip-long (λ (d : Device) (list : List Own). IsByPrefix d.body.own list)
    c.self.inside.devices c.self.inside.own.items c.self.invariant.originated in
    let same = ap (λ n. length n.devices) c.self.view_is in
    omega (arith, many, same, c.requires.device, c.self.inside.own.ok)

written : (c : After-make)
    → c.make.result
    ≡ set c.self.inside.devices c.args.d.0
    (reloaded c.args.body (get_or c.self.inside.devices c.args.d.0 c.index_mut.result.now))
written c =
    let n : Device = c.index_mut.result.now in
    let vec : c.into_vec-devices.result.items ≡ c.self.inside.devices =
    c.into_vec-devices.ensures in
    let here : n ≡ get_or c.self.inside.devices c.args.d.0 n =
    c.index_mut.ensures.value ∙ ap (λ ds. get_or ds c.args.d.0 n) vec in
    c.make.ensures ∙ (λ j. set (vec j) c.args.d.0 (reloaded c.args.body (here j)))

net_is : (c : After-make)
    → record { devices = c.make.result; links = c.self.inside.links }
    ≡ with_body c.args.self c.args.d c.args.body
net_is c =
    let n : Device = c.index_mut.result.now in
    let inside = ap (λ x. x.devices) c.self.view_is in
    let links = ap (λ x. x.links) c.self.view_is in
    let devices =
    written c
    ∙ (λ j. set (inside j) c.args.d.0 (reloaded c.args.body (get_or (inside j) c.args.d.0 n)))
    ∙ sym (devices-with_body c.args.self c.args.d c.args.body n c.requires.device) in
    λ j. record { devices = devices j; links = links j }

pub invariant_of-result : goal.invariant_of-result
invariant_of-result c =
    let kept = c.self.invariant in
    let n : Device = c.index_mut.result.now in
    let devices : List Device = c.self.inside.devices in
    let d = c.args.d.0 in
    let x = reloaded c.args.body (get_or devices d n) in
    let list : List Own = c.in_ok-originated.originated in
    let lists : List (List Own) = c.self.inside.own.items in
    let one : IsByPrefix c.args.body.own list =
    subst (λ own. IsByPrefix own list) c.items.ensures c.in_ok-originated.ensures in
    record {
      valid = subst IsValid (sym (net_is c)) c.requires.valid;
      named =
          kept.named
          ∙ sym (ap names_of (written c)
          ∙ map-set_same (λ (y : Device). y.name) devices d x n refl);
      joined = kept.joined;
      begun =
          subst (λ k. AreStarts k c.self.inside.neighbours.items c.self.inside.starts.items)
          (sym (ap length (written c) ∙ length-set devices d x)) kept.begun;
      originated =
          subst (λ ds. AreOwn ds (set lists d list)) (sym (written c))
          (AllZip-set (λ (y : Device) (l : List Own). IsByPrefix y.body.own l) devices lists d x
          list kept.originated one);
    }

pub returns : goal.returns
returns c = net_is c
