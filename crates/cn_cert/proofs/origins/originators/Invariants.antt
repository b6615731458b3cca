use Rattle.std.proofs.Common.{◌<◌}
use Rattle.std.specs.Prelude.{◌↔◌, IsSome}
use Rattle.cn_base.specs.Cidr.{Cidr}
use Rattle.cn_base.specs.declared.ids.DeviceId.{DeviceId}
use Rattle.cn_net.specs.Network.{own_origin}
use Rattle.cn_cert.specs.Steps.{HasMember}
use Rattle.cn_cert.proofs.origins.originators.Given as goal

abbrev pub invariant-loop-number : goal.invariant-loop-number
invariant-loop-number l =
    (p : Cidr) (d : DeviceId)
    → HasMember l.members.items p d ↔ ((d.0 < l.number) × IsSome (own_origin l.net d p))
