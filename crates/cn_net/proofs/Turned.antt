-- A network in which another link is up or down: the ends of links stay, and so does all that
-- depends on these alone.
use Rattle.std.proofs.Common.{◌≡◌, ℕ, ◌<◌, ◌&&◌, ◌||◌, Bool, true, false, if◌then◌else◌, List, length, get_or, set, map, [], ◌∷◌, Option, Some, None, option_map, find, refl, sym, ◌∙◌, ap, subst, inl, inr, arith}
use Rattle.std.specs.List.{Contains, IsDistinct}
use Rattle.std.proofs.Math.Seq.{map-set_same}
use Rattle.std.proofs.lemmas.Bool.{cases_Bool, cases_eq, cond-false, cond-true}
use Rattle.std.proofs.lemmas.Bool.Decides.{nat_tests}
use Rattle.std.proofs.lemmas.List.{ext_get_or, get_or-map, get_or-set_other, get_or-set_same, length-map, length-set}
use Rattle.std.proofs.lemmas.Map.Keys.{apart_from_distinct, IsDistinct-from_apart}
use Rattle.cn_lists.proofs.Finding.{Contains-from_find, Some-from_is_some, find-agree, find-map, is_some-option_map}
use Rattle.cn_base.specs.declared.ids.DeviceId.{DeviceId}
use Rattle.cn_net.specs.Alike.{ends_of}
use Rattle.cn_net.specs.Changed.{same_two, with_link, with_state}
use Rattle.cn_net.specs.Neighbours.{AreNeighbours, TellsOfLink, seen_from_a, seen_from_b}
use Rattle.cn_net.specs.Network.{Network, IsLinked, joins, link_between, same_device}
use Rattle.cn_net.specs.Valid.{IsValid, JoinsDevices, same_ends}
use Rattle.cn_net.specs.declared.device.Link.{Link}
use Rattle.cn_net.specs.declared.neighbours.Neighbour.{Neighbour}
use Rattle.cn_net.proofs.Linked.{joins-elsewhere}

-- ---- links with the same ends

-- whether a link joins two devices is a matter of its ends
pub joins-ends : (a b : DeviceId) (k l : Link) → ends_of k ≡ ends_of l → joins a b k ≡ joins a b l
joins-ends a b k l same =
    ap (λ (e : DeviceId × DeviceId).
    (same_device e.0 a && same_device e.1 b) || (same_device e.0 b && same_device e.1 a)) same

same_ends-ends : (k l m n : Link) → ends_of k ≡ ends_of m → ends_of l ≡ ends_of n
    → same_ends k l ≡ same_ends m n
same_ends-ends k l m n km ln =
    joins-ends l.a l.b k m km ∙ (λ j. joins (ln j).0 (ln j).1 m)

module _ (ls ms : List Link) (same : map ends_of ls ≡ map ends_of ms) where
  length_too : length ls ≡ length ms
  length_too = sym (length-map ls ends_of) ∙ ap length same ∙ length-map ms ends_of

  ends_at : (k : ℕ) (d : Link) → k < length ls → ends_of (get_or ls k d) ≡ ends_of (get_or ms k d)
  ends_at k d lt =
      let many = length_too in
      sym (get_or-map ends_of ls k d (ends_of d) lt)
      ∙ ap (λ es. get_or es k (ends_of d)) same
      ∙ get_or-map ends_of ms k d (ends_of d) (omega arith)

  distinct_too : IsDistinct same_ends ls → IsDistinct same_ends ms
  distinct_too distinct =
      let many = length_too in
      IsDistinct-from_apart same_ends ms (λ i j d lt within.
      same_ends-ends (get_or ms i d) (get_or ms j d) (get_or ls i d) (get_or ls j d)
      (sym (ends_at i d (omega arith))) (sym (ends_at j d (omega arith)))
      ∙ apart_from_distinct same_ends ls i j d distinct lt (omega arith))

  tells_too : (n : Neighbour) → TellsOfLink ls n → TellsOfLink ms n
  tells_too n tells =
      let many = length_too in
      let within = tells.within in
      record {
        within = omega arith;
        joined = λ d.
            joins-ends n.of n.device (get_or ms n.link d) (get_or ls n.link d)
            (sym (ends_at n.link d within))
            ∙ tells.joined d;
      }

  -- the neighbours of links are those of links with the same ends
  pub AreNeighbours-ends : (list : List Neighbour) → AreNeighbours ls list → AreNeighbours ms list
  AreNeighbours-ends list so =
      let many = length_too in
      record {
        each = λ k n lt. tells_too (get_or list k n) (so.each k n lt);
        first = λ k d lt.
            let within : k < length ls = omega arith in
            let e = ends_at k d within in
            let seen : seen_from_a k (get_or ls k d) ≡ seen_from_a k (get_or ms k d) =
            λ j. record { of = (e j).0; device = (e j).1; link = k } in
            subst (Contains list) seen (so.first k d within);
        second = λ k d lt.
            let within : k < length ls = omega arith in
            let e = ends_at k d within in
            let seen : seen_from_b k (get_or ls k d) ≡ seen_from_b k (get_or ms k d) =
            λ j. record { of = (e j).1; device = (e j).0; link = k } in
            subst (Contains list) seen (so.second k d within);
        ascending = so.ascending;
      }

-- a valid network stays one where its links have the same ends
pub IsValid-ends : (net : Network) (ms : List Link) → map ends_of net.links ≡ map ends_of ms
    → IsValid net → IsValid (record { devices = net.devices; links = ms })
IsValid-ends net ms same valid =
    let many = length_too net.links ms same in
    let few = valid.few_links in
    record {
      few_devices = valid.few_devices;
      few_links = omega arith;
      few_prefixes = valid.few_prefixes;
      names = valid.names;
      ids = valid.ids;
      own = valid.own;
      peers = valid.peers;
      one_policy = valid.one_policy;
      ends = λ k d lt.
          let within : k < length net.links = omega arith in
          let e = ends_at net.links ms same k d within in
          let h = valid.ends k d within in
          let turned : JoinsDevices net (get_or ms k d) =
          joins_too net (get_or net.links k d) (get_or ms k d) e h in
          record { a = turned.a; b = turned.b; apart = turned.apart; systems = turned.systems };
      one_link = distinct_too net.links ms same valid.one_link;
    }
  where
    joins_too : (n : Network) (k l : Link) → ends_of k ≡ ends_of l → JoinsDevices n k
        → JoinsDevices n l
    joins_too n k l e h =
        let x : Link = record { a = l.a; b = l.b; up = k.up } in
        let is : k ≡ x = λ j. record { a = (e j).0; b = (e j).1; up = k.up } in
        let at : JoinsDevices n x = subst (JoinsDevices n) is h in
        record { a = at.a; b = at.b; apart = at.apart; systems = at.systems }

-- ---- one link turned

module _ (links : List Link) (place : ℕ) (up : Bool) (d : Link) where
  -- a write of a link's state leaves the ends
  pub ends-set : map ends_of (set links place (with_state up (get_or links place d)))
      ≡ map ends_of links
  ends-set = map-set_same ends_of links place (with_state up (get_or links place d)) d refl

module _ (a b : DeviceId) (up : Bool) where
  turn : Link → Link
  turn l = if joins a b l then with_state up l else l

  -- a write at the place of the link that joins two devices is a write at each that joins them
  pub set-turned : (links : List Link) (place : ℕ) (d : Link) → IsDistinct same_ends links
      → place < length links → joins a b (get_or links place d) ≡ true
      → set links place (with_state up (get_or links place d))
      ≡ map (λ l. if joins a b l then with_state up l else l) links
  unfolding turn
  set-turned links place d distinct within t =
      let x = with_state up (get_or links place d) in
      let many : length (set links place x) ≡ length links = length-set links place x in
      ext_get_or d (set links place x) (map turn links)
      (many ∙ sym (length-map links turn))
      (λ i lt.
      let lt' : i < length links = omega arith in
      let image : get_or (map turn links) i d ≡ turn (get_or links i d) =
      get_or-map turn links i d d lt' in
      elim (cases_eq i place) [
        | inl e ↦
            let here : joins a b (get_or links i d) ≡ true =
            ap (λ k. joins a b (get_or links k d)) e ∙ t in
            ap (λ k. get_or (set links place x) k d) e
            ∙ get_or-set_same links place x d within
            ∙ ap (λ k. with_state up (get_or links k d)) (sym e)
            ∙ sym (cond-true (joins a b (get_or links i d)) (with_state up (get_or links i d))
            (get_or links i d) here)
            ∙ sym image
        | inr ne ↦
            let other : joins a b (get_or links i d) ≡ false =
            joins-elsewhere links a b distinct place i d within lt' (λ e. ne (sym e)) t in
            get_or-set_other links place i x d ne
            ∙ sym (cond-false (joins a b (get_or links i d)) (with_state up (get_or links i d))
            (get_or links i d) other)
            ∙ sym image
      ])

  turn-at : (t : Bool) (l : Link) → joins a b l ≡ t
      → turn l ≡ (if t then with_state up l else l)
  unfolding turn
  turn-at t l e = ap (λ s. if s then with_state up l else l) e

  ends_of-turn : (l : Link) → ends_of (turn l) ≡ ends_of l
  ends_of-turn l =
      elim (cases_Bool (joins a b l)) [
        | inl t ↦ ap ends_of (turn-at true l t)
        | inr f ↦ ap ends_of (turn-at false l f)
      ]

  turned_ends : (ls : List Link) → map ends_of (map turn ls) ≡ map ends_of ls
  turned_ends [] = refl
  turned_ends (l ∷ ls) = λ j. ends_of-turn l j ∷ turned_ends ls j

  -- each link keeps its ends
  pub ends_of-with_link : (net : Network)
      → map ends_of (with_link net a b up).links ≡ map ends_of net.links
  unfolding turn
  ends_of-with_link net = turned_ends net.links

  found_turned : (x y : DeviceId) (ls : List Link)
      → find (joins x y) (map turn ls) ≡ option_map turn (find (joins x y) ls)
  found_turned x y ls =
      find-map (joins x y) turn ls
      ∙ ap (option_map turn)
      (find-agree (λ l. joins x y (turn l)) (joins x y)
      (λ l. joins-ends x y (turn l) l (ends_of-turn l)) ls)

  -- the link between the two has the state that was asked for
  pub link_between-with_link : (net : Network) → IsLinked net a b
      → link_between (with_link net a b up) a b ≡ Some up
  unfolding turn
  link_between-with_link net linked =
      let found = find (joins a b) net.links in
      let some = Some-from_is_some found
      (sym (is_some-option_map (λ (l : Link). l.up) found) ∙ linked) in
      let l : Link = some.0 in
      let t = (Contains-from_find (joins a b) net.links l some.1).1 in
      ap (option_map (λ (k : Link). k.up)) (found_turned a b net.links)
      ∙ ap (λ o. option_map (λ (k : Link). k.up) (option_map turn o)) some.1
      ∙ ap (λ (k : Link). Some k.up) (turn-at true l t)

  other_link : (x y : DeviceId) (l : Link) → same_two a b x y ≡ false → joins x y l ≡ true
      → joins a b l ≡ false
  other_link x y l apart t = grind (arith, nat_tests)

  kept_up : (x y : DeviceId) (ls : List Link) (o : Option Link) → same_two a b x y ≡ false
      → find (joins x y) ls ≡ o
      → option_map (λ l. l.up) (option_map turn o) ≡ option_map (λ l. l.up) o
  kept_up x y ls None apart is = refl
  kept_up x y ls (Some l) apart is =
      let t = (Contains-from_find (joins x y) ls l is).1 in
      ap (λ (k : Link). Some k.up) (turn-at false l (other_link x y l apart t))

  -- and each link between others has the one that it had
  pub link_between-with_link_other : (net : Network) (x y : DeviceId) → same_two a b x y ≡ false
      → link_between (with_link net a b up) x y ≡ link_between net x y
  unfolding turn
  link_between-with_link_other net x y apart =
      ap (option_map (λ (k : Link). k.up)) (found_turned x y net.links)
      ∙ kept_up x y net.links (find (joins x y) net.links) apart refl
