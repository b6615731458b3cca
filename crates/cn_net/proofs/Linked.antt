-- Which link joins two devices, and where it stands.
use Rattle.std.proofs.Common.{◌≡◌, ℕ, ◌<◌, true, false, List, length, get_or, Some, None, Less, is_some, IsSome, option_map, find, position, sym, ◌∙◌, ap, subst, true≢false, arith}
use Rattle.std.specs.List.{All, Any, IsDistinct}
use Rattle.std.specs.Ordering.{is_eq, nat_cmp}
use Rattle.std.proofs.lemmas.Bool.{false_from_ne_true}
use Rattle.std.proofs.lemmas.Bool.Decides.{nat_tests}
use Rattle.cn_lists.proofs.Finding.{All-from_find_none, Contains-from_find, find-first, position-first, position-none}
use Rattle.cn_base.specs.declared.ids.DeviceId.{DeviceId}
use Rattle.cn_net.specs.Neighbours.{TellsOfLink}
use Rattle.cn_net.specs.Network.{joins, same_device}
use Rattle.cn_net.specs.Valid.{same_ends}
use Rattle.cn_net.specs.declared.device.Link.{Link}
use Rattle.cn_net.specs.declared.neighbours.Neighbour.{Neighbour}
use Rattle.cn_net.proofs.Keys.{same_device-Decides}
use Rattle.cn_net.proofs.Seen.{one_place}

module _ (links : List Link) (a b : DeviceId) (distinct : IsDistinct same_ends links) where
  -- no other link joins the two
  pub joins-elsewhere : (i k : ℕ) (d : Link) → i < length links → k < length links → (i ≡ k → ⊥)
      → joins a b (get_or links i d) ≡ true → joins a b (get_or links k d) ≡ false
  joins-elsewhere i k d within within' apart t =
      false_from_ne_true (joins a b (get_or links k d)) (λ s.
      apart (one_place links a b i k d distinct within within' t s))

  -- the link that joins the two is the one that is found
  pub found_link : (i : ℕ) (d : Link) → i < length links → joins a b (get_or links i d) ≡ true
      → find (joins a b) links ≡ Some (get_or links i d)
  found_link i d within t =
      find-first (joins a b) links i d within
      (λ k lt. joins-elsewhere i k d within (omega arith) (λ e. omega arith) t) t

  -- the place of the link that a neighbour tells of
  pub position-told : (n : Neighbour) → TellsOfLink links n → n.of ≡ a → n.device ≡ b
      → position (joins a b) links ≡ Some n.link
  position-told n tells of to =
      let here : (d : Link) → joins a b (get_or links n.link d) ≡ true =
      λ d. (λ j. joins (sym of j) (sym to j) (get_or links n.link d)) ∙ tells.joined d in
      let within = tells.within in
      position-first (joins a b) links n.link within
      (λ d k lt. joins-elsewhere n.link k d within (omega arith) (λ e. omega arith) (here d)) here

  -- two devices that aren't linked have no place
  pub position-unlinked : (IsSome (option_map (λ l. l.up) (find (joins a b) links)) → ⊥)
      → position (joins a b) links ≡ None
  position-unlinked none =
      position-none (joins a b) links (λ k l lt.
      false_from_ne_true (joins a b (get_or links k l)) (λ t.
      none (ap (λ o. is_some (option_map (λ (x : Link). x.up) o)) (found_link k l lt t))))

-- ---- the neighbour that is found

is_eq-same : (x y : DeviceId) → is_eq (nat_cmp x.0 y.0) ≡ same_device x y
is_eq-same x y = grind (arith, nat_tests)

-- the number of a device ties with itself
is_eq-itself : (x y : DeviceId) → x ≡ y → is_eq (nat_cmp x.0 y.0) ≡ true
is_eq-itself x y e = is_eq-same x y ∙ (same_device-Decides x y).1 e

module _ (links : List Link) (a b : DeviceId) (distinct : IsDistinct same_ends links)
    (list : List Neighbour) where
  -- what tells of the link to a device has its place
  pub position-found : (n : Neighbour) → All (λ m. m.of ≡ a) list → All (TellsOfLink links) list
      → Some n ≡ find (λ m. is_eq (nat_cmp m.device.0 b.0)) list
      → TellsOfLink links n × (position (joins a b) links ≡ Some n.link)
  position-found n of tells is =
      let h = Contains-from_find (λ (m : Neighbour). is_eq (nat_cmp m.device.0 b.0)) list n
      (sym is) in
      let k : ℕ = h.0.0 in
      let within : k < length list = h.0.1 in
      let here : get_or list k n ≡ n = h.0.2 in
      let told : TellsOfLink links n = subst (TellsOfLink links) here (tells k n within) in (
        told,
        position-told links a b distinct n told
            (ap (λ m. m.of) (sym here) ∙ of k n within)
            ((same_device-Decides n.device b).0 (sym (is_eq-same n.device b) ∙ h.1)),
      )

  -- a device to which none tells of a link isn't linked
  pub position-not_found : None ≡ find (λ m. is_eq (nat_cmp m.device.0 b.0)) list
      → (IsSome (option_map (λ l. l.up) (find (joins a b) links)) → Any (λ m. m.device ≡ b) list)
      → position (joins a b) links ≡ None
  position-not_found none told =
      position-unlinked links a b distinct (λ some.
      let h = told some in
      let n : Neighbour = h.1 in
      let fails = All-from_find_none (λ (m : Neighbour). is_eq (nat_cmp m.device.0 b.0)) list
      (sym none) h.0 n h.2 in
      true≢false (sym (is_eq-itself n.device b h.4)
      ∙ ap (λ (m : Neighbour). is_eq (nat_cmp m.device.0 b.0)) (sym h.3) ∙ fails))

-- a lesser number comes first
pub nat_below : (m n : ℕ) → m < n → nat_cmp m n ≡ Less
nat_below m n lt = grind (arith, nat_tests)
