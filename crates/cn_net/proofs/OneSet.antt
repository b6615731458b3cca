-- Sets of devices as ascending lists: one set has one list.
use Rattle.std.proofs.Common.{◌≡◌, ◌∙◌, ◌<◌, true, Bool, false, List, get_or, Less, refl, sym, arith}
use Rattle.std.specs.List.{AllPairs}
use Rattle.std.specs.Ordering.{nat_cmp, on}
use Rattle.std.proofs.lemmas.Bool.Decides.{nat_tests}
use Rattle.std.proofs.lemmas.Map.Keys.{Less-from_sorted}
use Rattle.cn_base.specs.declared.ids.DeviceId.{DeviceId}
use Rattle.cn_net.specs.Islands.{IsAscending, holds_device}
use Rattle.cn_net.proofs.Members.{contained, held}
use Rattle.cn_net.proofs.Peers.{same_elements}

below : (x y : DeviceId) → on (λ (d : DeviceId). d.0) nat_cmp x y ≡ Less → x.0 < y.0
below x y h = grind (arith, nat_tests)

-- the numbers of a set ascend, one after another
pub set_ascends : (set : List DeviceId) → IsAscending set → AllPairs (λ a b. a.0 < b.0) set
set_ascends set up i j d lt within =
    below (get_or set i d) (get_or set j d)
    (Less-from_sorted (on (λ (x : DeviceId). x.0) nat_cmp) set i j d up lt within)

-- sets of which each holds what the other holds are one list
pub same_sets : (xs ys : List DeviceId) → IsAscending xs → IsAscending ys
    → ((d : DeviceId) → holds_device xs d ≡ true → holds_device ys d ≡ true)
    → ((d : DeviceId) → holds_device ys d ≡ true → holds_device xs d ≡ true) → xs ≡ ys
same_sets xs ys up up' f g =
    same_elements xs ys (set_ascends xs up) (set_ascends ys up')
    (λ d h. contained ys d (f d (held xs d h))) (λ d h. contained xs d (g d (held ys d h)))
