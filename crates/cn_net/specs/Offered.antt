-- What an offer has of the route that is offered.
use Rattle.std.specs.Prelude.{◌≡◌, ◌≤◌, ◌++◌, ◌∷◌, true, List, length}
use Rattle.cn_base.specs.declared.ids.Asn.{Asn}
use Rattle.cn_base.specs.declared.ids.DeviceId.{DeviceId}
use Rattle.cn_base.specs.declared.route.Route.{Route}
use Rattle.cn_net.specs.Exchange.{is_up}
use Rattle.cn_net.specs.Network.{Network, asn_of}

-- x, which a offers to b of r, is r behind a's AS number, and perhaps more numbers
pub record IsOffered (net : Network) (a b : DeviceId) (r x : Route) : Type 0 where
  pub up : is_up net a b ≡ true
  pub prefix : x.prefix ≡ r.prefix
  pub origin : x.origin ≡ r.origin
  pub more : List Asn
  pub path : x.path ≡ asn_of net a ∷ (more ++ r.path)
  pub short : length x.path ≤ 255
