-- A change of a link or of a device's body leaves the ends of all links as they are, and where it
-- is inside, all that is outside.
use Rattle.std.proofs.Common.{◌≡◌, ℕ, zero, suc, ◌&&◌, Bool, true, false, cond, List, [], ◌∷◌, length, set, map, filter, Option, Some, None, inl, inr, refl, sym, ap, ◌∙◌, slice_get, option_map, unwrap_or}
use Rattle.std.proofs.lemmas.Bool.{and_parts, false_from_ne_true, true≢false}
use Rattle.std.proofs.lemmas.List.{length-set}
use Rattle.cn_base.specs.declared.ids.DeviceId.{DeviceId}
use Rattle.cn_net.specs.Alike.{DifferInside, HaveSameEnds, IsLinkInside, ends_of}
use Rattle.cn_net.specs.Changed.{reloaded, with_body, with_link, with_state}
use Rattle.cn_net.specs.Network.{Network, device_of, joins}
use Rattle.cn_net.specs.declared.device.Body.{Body}
use Rattle.cn_net.specs.declared.device.Device.{Device}
use Rattle.cn_net.specs.declared.device.Link.{Link}
use Rattle.cn_net.proofs.Restricted.{joined_ends}

-- ---- a link goes down or comes up

module _ (a b : DeviceId) (up : Bool) where
  -- a link as it is after the change
  abbrev after_change : Link → Link
  after_change l = cond (joins a b l) (with_state up l) l

  ends_stay : (l : Link) (t : Bool) → ends_of l ≡ ends_of (cond t (with_state up l) l)
  ends_stay l true = refl
  ends_stay l false = refl

  all_ends_stay : (links : List Link) → map ends_of links ≡ map ends_of (map after_change links)
  all_ends_stay [] = refl
  all_ends_stay (l ∷ ls) = λ i. ends_stay l (joins a b l) i ∷ all_ends_stay ls i

  module _ (outside : DeviceId → Bool) (inside : IsLinkInside outside a b) where
    abbrev is_outside : Link → Bool
    is_outside l = outside l.a && outside l.b

    -- the link that changes isn't between two outside devices
    not_outside : (l : Link) → joins a b l ≡ true → is_outside l ≡ false
    not_outside l joined = false_from_ne_true (is_outside l) (λ t.
        let both = and_parts (outside l.a) (outside l.b) t in
        let ends = (joined_ends (λ d. outside d ≡ true) a b l joined).1 both.0 both.1 in
        elim inside [
          | inl f ↦ true≢false (sym ends.0 ∙ f)
          | inr f ↦ true≢false (sym ends.1 ∙ f)
        ])

    one_stays : (l : Link) (ls ms : List Link) (t : Bool) → (t ≡ true → is_outside l ≡ false)
        → ls ≡ ms
        → cond (is_outside l) (l ∷ ls) ls
        ≡ cond (is_outside (cond t (with_state up l) l)) (cond t (with_state up l) l ∷ ms) ms
    one_stays l ls ms false never same = ap (λ xs. cond (is_outside l) (l ∷ xs) xs) same
    one_stays l ls ms true never same =
        ap (λ k. cond k (l ∷ ls) ls) (never refl)
        ∙ same
        ∙ sym (ap (λ k. cond k (with_state up l ∷ ms) ms) (never refl))

    outside_stay : (links : List Link)
        → filter is_outside links ≡ filter is_outside (map after_change links)
    outside_stay [] = refl
    outside_stay (l ∷ ls) =
        one_stays l (filter is_outside ls) (filter is_outside (map after_change ls)) (joins a b l)
        (not_outside l) (outside_stay ls)

pub link_keeps_ends : (net : Network) (a b : DeviceId) (up : Bool)
    → HaveSameEnds net (with_link net a b up)
link_keeps_ends net a b up = record { devices = refl; links = all_ends_stay a b up net.links }

pub link_inside : (net : Network) (outside : DeviceId → Bool) (a b : DeviceId) (up : Bool)
    → IsLinkInside outside a b → DifferInside net (with_link net a b up) outside
link_inside net outside a b up inside = record {
  ends = link_keeps_ends net a b up;
  devices = λ d t. refl;
  links = outside_stay a b up outside inside net.links;
}

-- ---- a device has another body

set_elsewhere : {X : Type 0} (xs : List X) (i j : ℕ) (x : X) → (j ≡ i → ⊥)
    → slice_get xs j ≡ slice_get (set xs i x) j
set_elsewhere [] i j x other = refl
set_elsewhere (y ∷ ys) zero zero x other = absurd (other refl)
set_elsewhere (y ∷ ys) zero (suc j) x other = refl
set_elsewhere (y ∷ ys) (suc i) zero x other = refl
set_elsewhere (y ∷ ys) (suc i) (suc j) x other =
    set_elsewhere ys i j x (λ e. other (ap suc e))

-- the devices, of which the one with number k is another, if it is there
abbrev devices_with : List Device → ℕ → Body → Option Device → List Device
devices_with ds k body o = unwrap_or (option_map (λ x. set ds k (reloaded body x)) o) ds

as_many : (ds : List Device) (k : ℕ) (body : Body) (o : Option Device)
    → length ds ≡ length (devices_with ds k body o)
as_many ds k body None = refl
as_many ds k body (Some x) = sym (length-set ds k (reloaded body x))

others_stay : (ds : List Device) (k j : ℕ) (body : Body) (o : Option Device) → (j ≡ k → ⊥)
    → slice_get ds j ≡ slice_get (devices_with ds k body o) j
others_stay ds k j body None other = refl
others_stay ds k j body (Some x) other = set_elsewhere ds k j (reloaded body x) other

pub body_keeps_ends : (net : Network) (d : DeviceId) (body : Body)
    → HaveSameEnds net (with_body net d body)
body_keeps_ends net d body = record {
  devices = as_many net.devices d.0 body (device_of net d);
  links = refl;
}

pub body_inside : (net : Network) (outside : DeviceId → Bool) (d : DeviceId) (body : Body)
    → outside d ≡ false → DifferInside net (with_body net d body) outside
body_inside net outside d body inside = record {
  ends = body_keeps_ends net d body;
  devices = λ x t. others_stay net.devices d.0 x.0 body (device_of net d) (λ e.
      let is : x ≡ d = λ i. record { 0 = e i } in
      true≢false (sym t ∙ ap outside is ∙ inside));
  links = refl;
}
