-- A draft stands for at most one valid network.
use Rattle.std.proofs.Common.{◌≡◌, ap, map, sym, ◌∙◌}
use Rattle.std.specs.List.{IsDistinct}
use Rattle.std.specs.Str.{bytes_eq}
use Rattle.cn_base.specs.declared.ids.DeviceId.{DeviceId}
use Rattle.cn_net.specs.Drafted.{draft_of}
use Rattle.cn_net.specs.Kept.{names_of}
use Rattle.cn_net.specs.Network.{Network, IsDevice, name_of}
use Rattle.cn_net.specs.Numbered.{number_in}
use Rattle.cn_net.specs.Valid.{IsValid}
use Rattle.cn_net.proofs.Making.{remade}
use Rattle.cn_net.proofs.Places.{number_back}
use Rattle.cn_net.proofs.Remade.{network_made}

-- two devices that bear one name are one device
pub same_name : (net : Network) (a b : DeviceId)
    → IsDistinct bytes_eq (map (λ d. d.name) net.devices)
    → IsDevice net a → IsDevice net b → name_of net a ≡ name_of net b → a ≡ b
same_name net a b distinct is_a is_b same =
    sym (number_back net distinct a is_a)
    ∙ ap (number_in (names_of net.devices)) same
    ∙ number_back net distinct b is_b

-- each is the network that is made of what it reads as
pub same_network : (x y : Network) → IsValid x → IsValid y → draft_of x ≡ draft_of y → x ≡ y
same_network x y v w e = sym (remade x v) ∙ ap network_made e ∙ remade y w
