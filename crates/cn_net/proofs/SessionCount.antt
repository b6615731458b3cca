-- There are as many sessions as links have emulated ends.
use Rattle.std.proofs.Common.{◌≡◌, ◌≢◌, ℕ, zero, suc, ◌+◌, ◌<◌, ◌≤◌, ◌==◌, ◌&&◌, ◌||◌, Bool, true, false, cond, is_some, List, [], ◌∷◌, length, map, filter, find, option_map, Some, inl, inr, refl, sym, ap, ◌∙◌, arith, true≢false}
use Rattle.std.specs.List.{All, IsDistinct, position_or_len, range_with_len, sum_by}
use Rattle.std.proofs.lemmas.Bool.{and_from, and_parts, cases_Bool, false_from_ne_true}
use Rattle.std.proofs.lemmas.Bool.Decides.{nat_tests}
use Rattle.std.proofs.lemmas.List.{length-map}
use Rattle.std.proofs.lemmas.List.Concat.{length-flat_map}
use Rattle.std.proofs.lemmas.List.Elements.{All-head, All-tail}
use Rattle.std.proofs.lemmas.List.Folds.{find_at}
use Rattle.std.proofs.lemmas.List.Sums.{passes_at_first, sum_by-cons}
use Rattle.std.proofs.lemmas.Map.Keys.{IsDistinct-tail}
use Rattle.std.proofs.lemmas.Option.{slice_get_cases}
use Rattle.cn_base.specs.declared.ids.DeviceId.{DeviceId}
use Rattle.cn_net.specs.Islands.{holds_device}
use Rattle.cn_net.specs.Limits.{session_count}
use Rattle.cn_net.specs.Network.{Network, device_ids, is_linked, joins, peers_of, same_device}
use Rattle.cn_net.specs.Sessions.{receivers_of, session_ends, sessions_from}
use Rattle.cn_net.specs.Valid.{IsValid, same_ends}
use Rattle.cn_net.specs.declared.device.Link.{Link}
use Rattle.cn_net.proofs.Indexing.{all_ids, ids}
use Rattle.cn_net.proofs.Keys.{same_device-Decides}
use Rattle.cn_net.proofs.Seen.{one_place}

-- ---- sums

sum_of_both : {X : Type 0} (f g : X → ℕ) (xs : List X)
    → sum_by (λ x. f x + g x) xs ≡ sum_by f xs + sum_by g xs
sum_of_both f g [] = refl
sum_of_both f g (x ∷ xs) =
    let rest = sum_of_both f g xs in
    omega (arith, sum_by-cons f x xs, sum_by-cons g x xs, sum_by-cons (λ y. f y + g y) x xs)

sum_of_none : {X : Type 0} (xs : List X) → sum_by (λ (x : X). 0) xs ≡ 0
sum_of_none [] = refl
sum_of_none {X} (x ∷ xs) =
    let rest = sum_of_none xs in
    let f : X → ℕ = λ y. 0 in
    omega (arith, sum_by-cons f x xs)

same_sum : {X : Type 0} (f g : X → ℕ) → ((x : X) → f x ≡ g x) → (xs : List X)
    → sum_by f xs ≡ sum_by g xs
same_sum f g same xs = λ i. sum_by (λ x. same x i) xs

sum_of_map : {X Y : Type 0} (f : X → Y) (g : Y → ℕ) (xs : List X)
    → sum_by g (map f xs) ≡ sum_by (λ x. g (f x)) xs
sum_of_map f g [] = refl
sum_of_map f g (x ∷ xs) =
    let rest = sum_of_map f g xs in
    omega (arith, sum_by-cons g (f x) (map f xs), sum_by-cons (λ y. g (f y)) x xs)

kept_one : {X : Type 0} (q : X → Bool) (x : X) (ys : List X) (n : ℕ) (a b : Bool) → q x ≡ b
    → length (filter q ys) ≡ n
    → length (filter q (cond a (x ∷ ys) ys)) ≡ cond (a && b) 1 0 + n
kept_one q x ys n false b e rest = omega arith
kept_one q x ys n true true e rest =
    ap (λ t. length (cond t (x ∷ filter q ys) (filter q ys))) e ∙ omega arith
kept_one q x ys n true false e rest =
    ap (λ t. length (cond t (x ∷ filter q ys) (filter q ys))) e ∙ omega arith

kept_twice : {X : Type 0} (p q : X → Bool) (xs : List X)
    → length (filter q (filter p xs)) ≡ sum_by (λ x. cond (p x && q x) 1 0) xs
kept_twice p q [] = refl
kept_twice p q (x ∷ xs) =
    kept_one q x (filter p xs) (sum_by (λ y. cond (p y && q y) 1 0) xs) (p x) (q x) refl
    (kept_twice p q xs)
    ∙ sym (sum_by-cons (λ y. cond (p y && q y) 1 0) x xs)

-- ---- a device stands once among all devices

below_none : (c x k n : ℕ) → x < k → sum_by (λ j. cond (x == j) c 0) (range_with_len k n) ≡ 0
below_none c x k zero lt = refl
below_none c x k (suc n) lt =
    let rest = below_none c x (k + 1) n (omega arith) in
    let no : (x == k) ≡ false = grind (arith, nat_tests) in
    let first : cond (x == k) c 0 ≡ 0 = ap (λ t. cond t c 0) no in
    omega (arith, sum_by-cons (λ j. cond (x == j) c 0) k (range_with_len (k + 1) n))

stands_once : (c x k n : ℕ) → k ≤ x → x < k + n
    → sum_by (λ j. cond (x == j) c 0) (range_with_len k n) ≡ c
stands_once c x k zero le lt = absurd (omega arith)
stands_once c x k (suc n) le lt = elim (cases_Bool (x == k)) [
  | inl t ↦
      let first : cond (x == k) c 0 ≡ c = ap (λ b. cond b c 0) t in
      let low : x < k + 1 = grind (arith, nat_tests) in
      let rest = below_none c x (k + 1) n low in
      omega (arith, sum_by-cons (λ j. cond (x == j) c 0) k (range_with_len (k + 1) n))
  | inr f ↦
      let first : cond (x == k) c 0 ≡ 0 = ap (λ b. cond b c 0) f in
      let above : k + 1 ≤ x = grind (arith, nat_tests) in
      let rest = stands_once c x (k + 1) n above (omega arith) in
      omega (arith, sum_by-cons (λ j. cond (x == j) c 0) k (range_with_len (k + 1) n))
]

module _ (n : ℕ) where
  one_device : (c : ℕ) (d : DeviceId) → d.0 < n
      → sum_by (λ (x : DeviceId). cond (same_device d x) c 0) (ids n) ≡ c
  unfolding ids
  one_device c d lt =
      sum_of_map (λ k. record { 0 = k }) (λ (x : DeviceId). cond (same_device d x) c 0)
      (range_with_len 0 n)
      ∙ stands_once c d.0 0 n (omega arith) (omega arith)

  -- one device and one of another list
  one_row : (c : ℕ) (v : DeviceId) (t : Bool) → v.0 < n
      → sum_by (λ (b : DeviceId). cond (t && same_device v b) c 0) (ids n) ≡ cond t c 0
  one_row c v true lt = one_device c v lt
  one_row c v false lt = sum_of_none (ids n)

  one_pair : (c : ℕ) (u v : DeviceId) → u.0 < n → v.0 < n
      → sum_by (λ (a : DeviceId). sum_by (λ (b : DeviceId).
      cond (same_device u a && same_device v b) c 0) (ids n)) (ids n)
      ≡ c
  one_pair c u v lu lv =
      same_sum _ (λ a. cond (same_device u a) c 0)
      (λ a. one_row c v (same_device u a) lv) (ids n)
      ∙ one_device c u lu

-- ---- one more link

both : (x y a b : DeviceId) → (same_device x a && same_device y b) ≡ true → (x ≡ a) × (y ≡ b)
both x y a b t =
    let parts = and_parts (same_device x a) (same_device y b) t in
    ((same_device-Decides x a).0 parts.0, (same_device-Decides y b).0 parts.1)

-- two devices are joined by one of the links
abbrev linked : List Link → DeviceId → DeviceId → Bool
linked ls a b = is_some (option_map (λ (l : Link). l.up) (find (joins a b) ls))

-- two devices that a link joins are joined by no other
joined_once : (l : Link) (ls : List Link) (a b : DeviceId) → IsDistinct same_ends (l ∷ ls)
    → joins a b l ≡ true → linked ls a b ≡ false
joined_once l ls a b distinct joined = false_from_ne_true (linked ls a b) (λ s.
    let at = position_or_len (joins a b) ls in
    elim (slice_get_cases ls at).1 [
      | inl (m, lt, is, here) ↦
          let same : 0 ≡ suc at =
          one_place (l ∷ ls) a b 0 (suc at) m distinct (omega arith) (omega arith) joined
          (passes_at_first (joins a b) ls m lt) in
          absurd (omega arith)
      | inr (le, is) ↦
          true≢false (sym s
          ∙ ap (λ o. is_some (option_map (λ (k : Link). k.up) o)) (find_at (joins a b) ls ∙ is))
    ])

module _ (em : DeviceId → Bool) where
  -- one for an end that is emulated
  abbrev one_if : DeviceId → ℕ
  one_if d = cond (em d) 1 0

  abbrev along : Link → DeviceId → DeviceId → ℕ
  along l a b = cond (same_device l.a a && same_device l.b b) (one_if l.b) 0

  abbrev against : Link → DeviceId → DeviceId → ℕ
  against l a b = cond (same_device l.b a && same_device l.a b) (one_if l.a) 0

  abbrev all_along : List Link → DeviceId → DeviceId → ℕ
  all_along ls a b = cond (linked ls a b && em b) 1 0

  link_added : (l : Link) (ls : List Link) (a b : DeviceId) (t : Bool) → joins a b l ≡ t
      → linked (l ∷ ls) a b ≡ (t || linked ls a b)
  link_added l ls a b true e =
      ap (λ t. is_some (option_map (λ (k : Link). k.up) (cond t (Some l) (find (joins a b) ls)))) e
  link_added l ls a b false e =
      ap (λ t. is_some (option_map (λ (k : Link). k.up) (cond t (Some l) (find (joins a b) ls)))) e

  one_more : (l : Link) (ls : List Link) (a b : DeviceId) → l.a ≢ l.b
      → IsDistinct same_ends (l ∷ ls)
      → all_along (l ∷ ls) a b ≡ (along l a b + against l a b) + all_along ls a b
  one_more l ls a b apart distinct =
      elim (cases_Bool (same_device l.a a && same_device l.b b)) [
        | inl t ↦
            let is = both l.a l.b a b t in
            let joined : joins a b l ≡ true =
            ap (λ z. z || (same_device l.a b && same_device l.b a)) t in
            let none = joined_once l ls a b distinct joined in
            let other : (same_device l.b a && same_device l.a b) ≡ false =
            false_from_ne_true (same_device l.b a && same_device l.a b)
            (λ s. apart (is.0 ∙ sym (both l.b l.a a b s).0)) in
            let whole : all_along (l ∷ ls) a b ≡ one_if l.b =
            ap (λ z. cond (z && em b) 1 0) (link_added l ls a b true joined)
            ∙ ap one_if (sym is.1) in
            let first : along l a b ≡ one_if l.b = ap (λ z. cond z (one_if l.b) 0) t in
            let second : against l a b ≡ 0 = ap (λ z. cond z (one_if l.a) 0) other in
            let rest : all_along ls a b ≡ 0 = ap (λ z. cond (z && em b) 1 0) none in
            omega arith
        | inr f ↦ elim (cases_Bool (same_device l.b a && same_device l.a b)) [
          | inl t ↦
              let is = both l.b l.a a b t in
              let turn = and_parts (same_device l.b a) (same_device l.a b) t in
              let joined : joins a b l ≡ true =
              λ i. f i || and_from (same_device l.a b) (same_device l.b a) turn.1 turn.0 i in
              let none = joined_once l ls a b distinct joined in
              let whole : all_along (l ∷ ls) a b ≡ one_if l.a =
              ap (λ z. cond (z && em b) 1 0) (link_added l ls a b true joined)
              ∙ ap one_if (sym is.1) in
              let first : along l a b ≡ 0 = ap (λ z. cond z (one_if l.b) 0) f in
              let second : against l a b ≡ one_if l.a = ap (λ z. cond z (one_if l.a) 0) t in
              let rest : all_along ls a b ≡ 0 = ap (λ z. cond (z && em b) 1 0) none in
              omega arith
          | inr g ↦
              let other : (same_device l.a b && same_device l.b a) ≡ false =
              false_from_ne_true (same_device l.a b && same_device l.b a) (λ s.
              let turn = and_parts (same_device l.a b) (same_device l.b a) s in
              true≢false (sym (and_from (same_device l.b a) (same_device l.a b) turn.1 turn.0)
              ∙ g)) in
              let whole : all_along (l ∷ ls) a b ≡ all_along ls a b =
              ap (λ z. cond (z && em b) 1 0)
              (link_added l ls a b false (λ i. f i || other i)) in
              let first : along l a b ≡ 0 = ap (λ z. cond z (one_if l.b) 0) f in
              let second : against l a b ≡ 0 = ap (λ z. cond z (one_if l.a) 0) g in
              omega arith
        ]
      ]

  -- ---- all links

  module _ (n : ℕ) where
    abbrev over_all : (DeviceId → DeviceId → ℕ) → ℕ
    over_all f = sum_by (λ a. sum_by (λ b. f a b) (ids n)) (ids n)

    both_over_all : (f g : DeviceId → DeviceId → ℕ)
        → over_all (λ a b. f a b + g a b) ≡ over_all f + over_all g
    both_over_all f g =
        same_sum (λ a. sum_by (λ b. f a b + g a b) (ids n))
        (λ a. sum_by (f a) (ids n) + sum_by (g a) (ids n))
        (λ a. sum_of_both (f a) (g a) (ids n)) (ids n)
        ∙ sum_of_both (λ a. sum_by (f a) (ids n)) (λ a. sum_by (g a) (ids n)) (ids n)

    pub links_count : (ls : List Link)
        → All (λ l. (l.a.0 < n) × (l.b.0 < n) × (l.a ≢ l.b)) ls → IsDistinct same_ends ls
        → over_all (all_along ls) ≡ sum_by (λ l. one_if l.a + one_if l.b) ls
    links_count [] fits distinct =
        same_sum (λ (a : DeviceId). sum_by (λ (b : DeviceId). 0) (ids n)) (λ a. 0)
        (λ a. sum_of_none (ids n)) (ids n)
        ∙ sum_of_none (ids n)
    links_count (l ∷ ls) fits distinct =
        let here = All-head (λ (k : Link). (k.a.0 < n) × (k.b.0 < n) × (k.a ≢ k.b)) l ls fits in
        let others = All-tail (λ (k : Link). (k.a.0 < n) × (k.b.0 < n) × (k.a ≢ k.b)) l ls fits in
        let rest = links_count ls others (IsDistinct-tail same_ends l ls distinct) in
        let parts : over_all (all_along (l ∷ ls))
        ≡ over_all (λ a b. (along l a b + against l a b) + all_along ls a b) =
        λ i. over_all (λ a b. one_more l ls a b here.2 distinct i) in
        let split = both_over_all (λ a b. along l a b + against l a b) (all_along ls) in
        let split' = both_over_all (along l) (against l) in
        let first : over_all (along l) ≡ one_if l.b =
        one_pair n (one_if l.b) l.a l.b here.0 here.1 in
        let second : over_all (against l) ≡ one_if l.a =
        one_pair n (one_if l.a) l.b l.a here.1 here.0 in
        let sum = sum_by-cons (λ (k : Link). one_if k.a + one_if k.b) l ls in
        omega arith

-- ---- the sessions

sessions_of_rows : (net : Network) (emulated : List DeviceId) (ds : List DeviceId)
    → sum_by (λ a. length (sessions_from net emulated a)) ds
    ≡ sum_by (λ a. sum_by (λ b. cond (is_linked net a b && holds_device emulated b) 1 0)
    (device_ids net)) ds
unfolding peers_of
sessions_of_rows net emulated ds =
    same_sum _ _ (λ a.
    length-map {A = DeviceId} (receivers_of net emulated a)
    (λ (b : DeviceId). record { from = a; to = b })
    ∙ kept_twice (is_linked net a) (holds_device emulated) (device_ids net)) ds

-- as many sessions as links have emulated ends
pub as_many_sessions : (net : Network) (emulated : List DeviceId) → IsValid net
    → length (session_ends net emulated) ≡ session_count net emulated
unfolding session_ends
as_many_sessions net emulated valid =
    let n = length net.devices in
    let em = holds_device emulated in
    length-flat_map (sessions_from net emulated) (device_ids net)
    ∙ sessions_of_rows net emulated (device_ids net)
    ∙ ap (λ ds. sum_by (λ a. sum_by (λ b. cond (is_linked net a b && em b) 1 0) ds) ds)
    (sym (all_ids net))
    ∙ links_count em n net.links
    (λ k l lt. let j = valid.ends k l lt in (j.a, j.b, j.apart)) valid.one_link
