-- A network with some of its devices alone is valid.
use Rattle.std.proofs.Common.{◌≡◌, ℕ, ◌+◌, ◌<◌, ◌≤◌, ◌||◌, ◌&&◌, Bool, true, false, cond, List, [], ◌∷◌, length, map, filter, refl, sym, ap, subst, ◌∙◌, inl, inr, arith}
use Rattle.std.specs.Cmp.{IsEquivalence}
use Rattle.std.specs.List.{All, IsDistinct, flat_map, list_any}
use Rattle.std.specs.Set.{distinct_count, is_member, unique_keys}
use Rattle.std.proofs.lemmas.Bool.{false≢true, or_cases, or_left, or_parts, or_right}
use Rattle.std.proofs.lemmas.List.Elements.{All-cons, All-filter, All-head, All-nil, All-tail, All-weaker, recursion_from_All}
use Rattle.std.proofs.lemmas.List.Folds.{list_any-append}
use Rattle.std.proofs.lemmas.List.Sums.{count_by-le-length, length-filter}
use Rattle.std.specs.Str.{bytes_eq}
use Rattle.std.proofs.lemmas.List.Kept.{AllPairs-filter}
use Rattle.std.proofs.lemmas.Map.Keys.{IsDistinct-cons, IsDistinct-from_apart, apart_from_distinct}
use Rattle.std.proofs.lemmas.Map.Made.{length-le_from_is_member}
use Rattle.cn_base.specs.Cidr.{Cidr, same_prefix}
use Rattle.cn_base.specs.declared.ids.DeviceId.{DeviceId}
use Rattle.cn_net.specs.Network.{Network, originated, same_device}
use Rattle.cn_net.specs.Restriction.{restricted, without_origins, without_origins_from}
use Rattle.cn_net.specs.Valid.{IsValid, JoinsDevices, OriginatesOnce, same_ends, same_router}
use Rattle.cn_net.specs.declared.device.Device.{Device}
use Rattle.cn_net.specs.declared.device.Link.{Link}
use Rattle.cn_net.specs.declared.device.Peer.{Peer}
use Rattle.cn_net.proofs.Keys.{equivalence, same_prefix-Decides}
use Rattle.cn_net.proofs.Restricted.{asn_of_restricted, length_restricted}

-- ---- keys that are counted once

any_agree : {K : Type 0} (p q : K → Bool) → ((z : K) → p z ≡ q z) → (xs : List K)
    → list_any p xs ≡ list_any q xs
any_agree p q same [] = refl
any_agree p q same (x ∷ xs) = λ i. same x i || any_agree p q same xs i

none_passes : {K : Type 0} (p : K → Bool) (xs : List K) → list_any p xs ≡ false
    → All (λ y. p y ≡ false) xs
none_passes p [] h = All-nil (λ y. p y ≡ false)
none_passes p (x ∷ xs) h =
    let both = or_parts (p x) (list_any p xs) h in
    All-cons (λ y. p y ≡ false) x xs both.0 (none_passes p xs both.1)

module _ {K : Type 0} {eq : K → K → Bool} (laws : IsEquivalence eq) where
  members_step : (m t : Bool) (u xs : List K) (x q : K) → is_member eq xs x ≡ m → eq q x ≡ t
      → is_member eq u q ≡ is_member eq xs q
      → is_member eq (cond m u (x ∷ u)) q ≡ (eq q x || is_member eq xs q)
  members_step false t u xs x q em et ih = ap (λ b. eq q x || b) ih
  members_step true false u xs x q em et ih = ih ∙ ap (λ b. b || is_member eq xs q) (sym et)
  members_step true true u xs x q em et ih =
      ih ∙ any_agree (eq q) (eq x) (λ z. laws.congr q x z et) xs ∙ em
      ∙ sym (or_left (eq q x) (is_member eq xs q) et)

  unique_members : (xs : List K) (q : K) → is_member eq (unique_keys eq xs) q ≡ is_member eq xs q
  unique_members [] q = refl
  unique_members (x ∷ xs) q =
      members_step (is_member eq xs x) (eq q x) (unique_keys eq xs) xs x q refl refl
      (unique_members xs q)

  distinct_step : (m : Bool) (u : List K) (x : K) → is_member eq u x ≡ m → IsDistinct eq u
      → IsDistinct eq (cond m u (x ∷ u))
  distinct_step true u x e ih = ih
  distinct_step false u x e ih =
      IsDistinct-cons eq x u (recursion_from_All (λ y. eq x y ≡ false) u (none_passes (eq x) u e))
      ih

  unique_distinct : (xs : List K) → IsDistinct eq (unique_keys eq xs)
  unfolding IsDistinct
  unique_distinct [] = tt
  unique_distinct (x ∷ xs) =
      distinct_step (is_member eq xs x) (unique_keys eq xs) x (unique_members xs x)
      (unique_distinct xs)

  -- fewer keys, fewer of them counted once
  fewer_keys : (xs ys : List K) → ((q : K) → is_member eq xs q ≡ true → is_member eq ys q ≡ true)
      → distinct_count eq xs ≤ distinct_count eq ys
  fewer_keys xs ys part =
      length-le_from_is_member laws (unique_keys eq xs) (unique_keys eq ys) (unique_distinct xs)
      (λ q t. unique_members ys q ∙ part q (sym (unique_members xs q) ∙ t))

-- ---- devices

owned_part : (test : Cidr → Bool) (k : Bool) (d : Device)
    → list_any test (map (λ o. o.prefix) (without_origins k d).body.own) ≡ true
    → list_any test (map (λ o. o.prefix) d.body.own) ≡ true
owned_part test true d t = t
owned_part test false d t = absurd (false≢true t)

originated_part : (test : Cidr → Bool) (s : DeviceId → Bool) (n : ℕ) (ds : List Device)
    → list_any test (flat_map (λ d. map (λ o. o.prefix) d.body.own) (without_origins_from s n ds))
    ≡ true
    → list_any test (flat_map (λ d. map (λ o. o.prefix) d.body.own) ds) ≡ true
originated_part test s n [] t = t
originated_part test s n (d ∷ ds) t =
    let k = s (record { 0 = n }) in
    let own : Device → List Cidr = λ x. map (λ o. o.prefix) x.body.own in
    let parts =
    sym (list_any-append test (own (without_origins k d))
    (flat_map own (without_origins_from s (n + 1) ds)))
    ∙ t in
    list_any-append test (own d) (flat_map own ds)
    ∙ elim (or_cases (list_any test (own (without_origins k d)))
    (list_any test (flat_map own (without_origins_from s (n + 1) ds))) parts) [
      | inl h ↦
          or_left (list_any test (own d)) (list_any test (flat_map own ds)) (owned_part test k d h)
      | inr h ↦
          or_right (list_any test (own d)) (list_any test (flat_map own ds))
          (originated_part test s (n + 1) ds h)
    ]

kept_by_all : {X : Type 0} (f : Device → X)
    → ((k : Bool) (d : Device) → f (without_origins k d) ≡ f d)
    → (s : DeviceId → Bool) (n : ℕ) (ds : List Device)
    → map f (without_origins_from s n ds) ≡ map f ds
kept_by_all f same s n [] = refl
kept_by_all f same s n (d ∷ ds) =
    λ i. same (s (record { 0 = n })) d i ∷ kept_by_all f same s (n + 1) ds i

without_origins_name : (k : Bool) (d : Device) → (without_origins k d).name ≡ d.name
without_origins_name true d = refl
without_origins_name false d = refl

without_origins_id : (k : Bool) (d : Device) → (without_origins k d).id ≡ d.id
without_origins_id true d = refl
without_origins_id false d = refl

without_origins_once : (k : Bool) (d : Device) → OriginatesOnce d.body
    → OriginatesOnce (without_origins k d).body
unfolding IsDistinct
without_origins_once true d h = h
without_origins_once false d h = tt

without_origins_peers : (k : Bool) (d : Device) → (without_origins k d).body.peers ≡ d.body.peers
without_origins_peers true d = refl
without_origins_peers false d = refl

-- what a device keeps without its origins, all devices keep
kept_of_all : (P : Device → Type 0) → ((k : Bool) (d : Device) → P d → P (without_origins k d))
    → (s : DeviceId → Bool) (n : ℕ) (ds : List Device) → All P ds
    → All P (without_origins_from s n ds)
kept_of_all P keeps s n [] h = h
kept_of_all P keeps s n (d ∷ ds) h =
    All-cons P _ _ (keeps (s (record { 0 = n })) d (All-head P d ds h))
    (kept_of_all P keeps s (n + 1) ds (All-tail P d ds h))

-- the numbers of the peers are below n
abbrev AreBelow : ℕ → List Peer → Type 0
AreBelow n peers = All (λ p. p.device.0 < n) peers

-- and what is said of its peers alone it keeps
peers_kept : (P : List Peer → Type 0) (s : DeviceId → Bool) (ds : List Device)
    → All (λ d. P d.body.peers) ds → All (λ d. P d.body.peers) (without_origins_from s 0 ds)
peers_kept P s ds h =
    kept_of_all (λ d. P d.body.peers) (λ k d so. subst P (sym (without_origins_peers k d)) so) s 0
    ds h

-- ---- links

distinct_kept : {K : Type 0} (eq : K → K → Bool) (keep : K → Bool) (xs : List K) → IsDistinct eq xs
    → IsDistinct eq (filter keep xs)
distinct_kept eq keep xs h =
    IsDistinct-from_apart eq (filter keep xs)
    (AllPairs-filter (λ x y. eq x y ≡ false) keep xs
    (λ i j d lt within. apart_from_distinct eq xs i j d h lt within))

joins_kept : (net : Network) (s : DeviceId → Bool) (l : Link) → JoinsDevices net l
    → JoinsDevices (restricted net s) l
joins_kept net s l h =
    let n = length_restricted net s in
    record {
      a = omega (arith, h.a);
      b = omega (arith, h.b);
      apart = h.apart;
      systems =
          λ e. h.systems (sym (asn_of_restricted net s l.a) ∙ e ∙ asn_of_restricted net s l.b);
    }

-- ---- the whole

few_left : (links : List Link) (keep : Link → Bool) → length (filter keep links) ≤ length links
few_left links keep = omega (arith, length-filter keep links, count_by-le-length keep links)

pub restricted_valid : (net : Network) (s : DeviceId → Bool) → IsValid net
    → IsValid (restricted net s)
unfolding restricted
restricted_valid net s valid =
    let n = length_restricted net s in
    let keep : Link → Bool = λ l. s l.a && s l.b in
    let few = few_left net.links keep in
    let most = valid.few_links in
    let many = valid.few_devices in
    let prefixes = valid.few_prefixes in
    let fewer =
    fewer_keys (equivalence same_prefix same_prefix-Decides) (originated (restricted net s))
    (originated net) (λ q t. originated_part (same_prefix q) s 0 net.devices t) in
    record {
      few_devices = omega arith;
      few_links = omega arith;
      few_prefixes = omega arith;
      names =
          subst (IsDistinct bytes_eq)
          (sym (kept_by_all (λ (d : Device). d.name) without_origins_name s 0 net.devices))
          valid.names;
      ids =
          subst (IsDistinct same_router)
          (sym (kept_by_all (λ (d : Device). d.id) without_origins_id s 0 net.devices)) valid.ids;
      own = kept_of_all (λ d. OriginatesOnce d.body) without_origins_once s 0 net.devices valid.own;
      peers =
          peers_kept (AreBelow (length (restricted net s).devices)) s net.devices
          (subst (λ m. All (λ d. AreBelow m d.body.peers) net.devices) (sym n) valid.peers);
      one_policy =
          peers_kept (λ ps. IsDistinct same_device (map (λ p. p.device) ps)) s net.devices
          valid.one_policy;
      ends =
          All-weaker (JoinsDevices net) (JoinsDevices (restricted net s)) (joins_kept net s)
          (filter keep net.links) (All-filter keep (JoinsDevices net) net.links valid.ends);
      one_link = distinct_kept same_ends keep net.links valid.one_link;
    }
