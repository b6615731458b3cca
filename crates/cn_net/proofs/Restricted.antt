-- What a network and its restriction have in common.
use Rattle.std.proofs.Common.{◌≡◌, ℕ, suc, zero, ◌+◌, Bool, true, false, cond, is_some, ◌&&◌, List, ◌∷◌, [], length, Option, Some, None, inl, inr, refl, sym, ap, subst, ◌∙◌, arith, slice_get, option_map, option_and_then, unwrap_or, find, filter}
use Rattle.std.proofs.Math.Nat.{add-zero}
use Rattle.std.proofs.lemmas.Option.{none-some, same_Some}
use Rattle.std.proofs.lemmas.Bool.{cases_Bool, and_parts, and_from, or_cases, cond-true, cond-false, false_from_ne_true, false≢true}
use Rattle.cn_base.specs.Cidr.{Cidr, same_prefix}
use Rattle.cn_base.specs.Rank.{ranks_before}
use Rattle.cn_base.specs.declared.ids.DeviceId.{DeviceId}
use Rattle.cn_base.specs.declared.route.Choice.{Choice}
use Rattle.cn_base.specs.declared.route.Route.{Route}
use Rattle.cn_net.specs.declared.device.Device.{Device}
use Rattle.cn_net.specs.declared.device.Own.{Own}
use Rattle.cn_net.specs.declared.device.Link.{Link}
use Rattle.cn_decide.specs.Decide.{outranks_by}
use Rattle.cn_net.specs.Candidates.{outranks, rank_of}
use Rattle.cn_net.specs.Exchange.{offer, accept, offered, accepts, is_up, offered_path, copies, export_permits, import_permits}
use Rattle.cn_net.specs.Network.{Network, HasDistinctIds, device_of, asn_of, router_of, own_of, own_origin, joins, link_between, same_device}
use Rattle.cn_net.specs.Restriction.{restricted, without_origins, without_origins_from}
use Rattle.cn_net.proofs.Members.{same_number}

-- ---- the first that passes, of a list and of a part of it

find_step : {X : Type 0} (test : X → Bool) (k : Bool) (x : X) (ys : List X) (r : Option X)
    → (test x ≡ true → k ≡ true) → find test ys ≡ r
    → find test (cond k (x ∷ ys) ys) ≡ cond (test x) (Some x) r
find_step test true x ys r h e = ap (λ z. cond (test x) (Some x) z) e
find_step test false x ys r h e =
    e ∙ sym (cond-false (test x) (Some x) r (false_from_ne_true (test x) (λ t. false≢true (h t))))

find_kept : {X : Type 0} (test keep : X → Bool) → ((x : X) → test x ≡ true → keep x ≡ true)
    → (xs : List X) → find test (filter keep xs) ≡ find test xs
find_kept test keep all [] = refl
find_kept test keep all (x ∷ xs) =
    find_step test (keep x) x (filter keep xs) _ (all x) (find_kept test keep all xs)

find_filtered_step : {X : Type 0} (test keep : X → Bool) (k : Bool) (x y : X) (ys : List X)
    → keep x ≡ k → (find test ys ≡ Some y → (test y ≡ true) × (keep y ≡ true))
    → find test (cond k (x ∷ ys) ys) ≡ Some y → (test y ≡ true) × (keep y ≡ true)
find_filtered_step test keep false x y ys ek ih e = ih e
find_filtered_step test keep true x y ys ek ih e =
    elim (cases_Bool (test x)) [
      | inl t ↦
          let xy : x ≡ y = same_Some x y (sym (cond-true (test x) (Some x) (find test ys) t) ∙ e) in
          subst (λ z. (test z ≡ true) × (keep z ≡ true)) xy (t, ek)
      | inr f ↦ ih (sym (cond-false (test x) (Some x) (find test ys) f) ∙ e)
    ]

find_filtered : {X : Type 0} (test keep : X → Bool) (y : X) (xs : List X)
    → find test (filter keep xs) ≡ Some y → (test y ≡ true) × (keep y ≡ true)
find_filtered test keep y [] e = absurd (none-some y e)
find_filtered test keep y (x ∷ xs) e =
    find_filtered_step test keep (keep x) x y (filter keep xs) refl (find_filtered test keep y xs) e

-- ---- devices

without_origins_at : (s : DeviceId → Bool) (ds : List Device) (n k : ℕ)
    → slice_get (without_origins_from s n ds) k
    ≡ option_map (without_origins (s (record { 0 = n + k }))) (slice_get ds k)
without_origins_at s [] n k = refl
without_origins_at s (d ∷ ds) n zero = rw add-zero refl
without_origins_at s (d ∷ ds) n (suc k) =
    let e : (n + 1) + k ≡ n + suc k = omega arith in
    without_origins_at s ds (n + 1) k
    ∙ ap (λ z. option_map (without_origins (s (record { 0 = z }))) (slice_get ds k)) e

pub device_of_restricted : (net : Network) (s : DeviceId → Bool) (d : DeviceId)
    → device_of (restricted net s) d ≡ option_map (without_origins (s d)) (device_of net d)
unfolding restricted
device_of_restricted net s d =
    let e : 0 + d.0 ≡ d.0 = omega arith in
    without_origins_at s net.devices 0 d.0
    ∙ ap (λ z. option_map (without_origins (s (record { 0 = z }))) (slice_get net.devices d.0)) e

length_without_origins : (s : DeviceId → Bool) (n : ℕ) (ds : List Device)
    → length (without_origins_from s n ds) ≡ length ds
length_without_origins s n [] = refl
length_without_origins s n (d ∷ ds) = ap suc (length_without_origins s (n + 1) ds)

pub length_restricted : (net : Network) (s : DeviceId → Bool)
    → length (restricted net s).devices ≡ length net.devices
unfolding restricted
length_restricted net s = length_without_origins s 0 net.devices

-- what a without_origins device keeps
kept_without_origins : {X : Type 0} (f : Device → X)
    → ((k : Bool) (d : Device) → f (without_origins k d) ≡ f d)
    → (k : Bool) (o : Option Device)
    → option_map f (option_map (without_origins k) o) ≡ option_map f o
kept_without_origins f same k None = refl
kept_without_origins f same k (Some d) = ap Some (same k d)

kept_of : {X : Type 0} (f : Device → X) → ((k : Bool) (d : Device) → f (without_origins k d) ≡ f d)
    → (net : Network) (s : DeviceId → Bool) (d : DeviceId)
    → option_map f (device_of (restricted net s) d) ≡ option_map f (device_of net d)
kept_of f same net s d =
    ap (option_map f) (device_of_restricted net s d)
    ∙ kept_without_origins f same (s d) (device_of net d)

without_origins_asn : (k : Bool) (d : Device) → (without_origins k d).body.asn ≡ d.body.asn
without_origins_asn true d = refl
without_origins_asn false d = refl

without_origins_id : (k : Bool) (d : Device) → (without_origins k d).id ≡ d.id
without_origins_id true d = refl
without_origins_id false d = refl

pub asn_of_restricted : (net : Network) (s : DeviceId → Bool) (d : DeviceId)
    → asn_of (restricted net s) d ≡ asn_of net d
asn_of_restricted net s d =
    ap (λ o. unwrap_or o (record { 0 = 0 })) (kept_of (λ x. x.body.asn) without_origins_asn net s d)

pub router_of_restricted : (net : Network) (s : DeviceId → Bool) (d : DeviceId)
    → router_of (restricted net s) d ≡ router_of net d
router_of_restricted net s d =
    ap (λ o. unwrap_or o (record { 0 = 0 })) (kept_of (λ x. x.id) without_origins_id net s d)

pub own_origin_restricted : (net : Network) (s : DeviceId → Bool) (d : DeviceId) (p : Cidr)
    → s d ≡ true → own_origin (restricted net s) d p ≡ own_origin net d p
own_origin_restricted net s d p t =
    ap (λ o. option_and_then (λ (x : Device).
    option_map (λ (o : Own). o.origin) (find (λ (o : Own). same_prefix o.prefix p) x.body.own)) o)
    (device_of_restricted net s d ∙ ap (λ k. option_map (without_origins k) (device_of net d)) t
    ∙ map_kept (device_of net d))
  where
    map_kept : (o : Option Device) → option_map (without_origins true) o ≡ o
    map_kept None = refl
    map_kept (Some x) = refl

pub own_origin_without_origins : (net : Network) (s : DeviceId → Bool) (d : DeviceId) (p : Cidr)
    → s d ≡ false → own_origin (restricted net s) d p ≡ None
own_origin_without_origins net s d p f =
    ap (λ o. option_and_then (λ (x : Device). own_of x.body p) o)
    (device_of_restricted net s d ∙ ap (λ k. option_map (without_origins k) (device_of net d)) f)
    ∙ go (device_of net d)
  where
    go : (o : Option Device)
        → option_and_then (λ (x : Device). own_of x.body p) (option_map (without_origins false) o)
        ≡ None
    go None = refl
    go (Some x) = refl

pub distinct_restricted : (net : Network) (s : DeviceId → Bool) → HasDistinctIds net
    → HasDistinctIds (restricted net s)
distinct_restricted net s ids a b da db e =
    let n = length_restricted net s in
    ids a b (omega arith) (omega arith)
    (sym (router_of_restricted net s a) ∙ e ∙ router_of_restricted net s b)

-- ---- links

kept_link : (s : DeviceId → Bool) → Link → Bool
kept_link s l = s l.a && s l.b

-- the ends of a link that joins two devices
pub joined_ends : (P : DeviceId → Type 0) (a b : DeviceId) (l : Link) → joins a b l ≡ true
    → (P a → P b → P l.a × P l.b) × (P l.a → P l.b → P a × P b)
joined_ends P a b l e =
    elim
    (or_cases (same_device l.a a && same_device l.b b) (same_device l.a b && same_device l.b a) e) [
      | inl h ↦
          let q = and_parts _ _ h in
          let ea = same_number l.a a q.0 in
          let eb = same_number l.b b q.1 in (
            λ pa pb. (subst P (sym ea) pa, subst P (sym eb) pb),
            λ pa pb. (subst P ea pa, subst P eb pb),
          )
      | inr h ↦
          let q = and_parts _ _ h in
          let ea = same_number l.a b q.0 in
          let eb = same_number l.b a q.1 in (
            λ pa pb. (subst P (sym ea) pb, subst P (sym eb) pa),
            λ pa pb. (subst P eb pb, subst P ea pa),
          )
    ]

pub link_between_kept : (net : Network) (s : DeviceId → Bool) (a b : DeviceId) → s a ≡ true
    → s b ≡ true → link_between (restricted net s) a b ≡ link_between net a b
unfolding restricted kept_link
link_between_kept net s a b ta tb =
    ap (option_map (λ (l : Link). l.up))
    (find_kept (joins a b) (kept_link s)
    (λ l e. let q = (joined_ends (λ d. s d ≡ true) a b l e).0 ta tb in and_from _ _ q.0 q.1)
    net.links)

-- a link of the restriction has both ends in s
pub link_between_restricted : (net : Network) (s : DeviceId → Bool) (a b : DeviceId) (up : Bool)
    → link_between (restricted net s) a b ≡ Some up → (s a ≡ true) × (s b ≡ true)
unfolding restricted kept_link
link_between_restricted net s a b up e =
    go (find (joins a b) (filter (kept_link s) net.links)) refl e
  where
    go : (o : Option Link) → find (joins a b) (filter (kept_link s) net.links) ≡ o
        → option_map (λ (l : Link). l.up) o ≡ Some up → (s a ≡ true) × (s b ≡ true)
    go None h e = absurd (none-some up e)
    go (Some l) h e =
        let f = find_filtered (joins a b) (kept_link s) l net.links h in
        let q = and_parts (s l.a) (s l.b) f.1 in
        (joined_ends (λ d. s d ≡ true) a b l f.0).1 q.0 q.1

-- ---- offers

-- what a device offers and accepts doesn't depend on what it originates
without_origins_offers : (b : DeviceId) (r : Route) (k : Bool) (d : Device)
    → offered (without_origins k d).body b r ≡ offered d.body b r
unfolding offered offered_path export_permits copies
without_origins_offers b r true d = refl
without_origins_offers b r false d = refl

without_origins_accepts : (a : DeviceId) (r : Route) (k : Bool) (d : Device)
    → accepts (without_origins k d).body a r ≡ accepts d.body a r
unfolding accepts import_permits
without_origins_accepts a r true d = refl
without_origins_accepts a r false d = refl

by_map : (f : Device → Option Route) (o : Option Device)
    → option_and_then f o ≡ unwrap_or (option_map f o) None
by_map f None = refl
by_map f (Some d) = refl

pub offer_kept : (net : Network) (s : DeviceId → Bool) (a b : DeviceId) (r : Route) → s a ≡ true
    → s b ≡ true → offer (restricted net s) a b r ≡ offer net a b r
unfolding offer
offer_kept net s a b r ta tb =
    ap (λ up. cond up
    (option_and_then (λ (d : Device). offered d.body b r) (device_of (restricted net s) a)) None)
    (ap (λ o. unwrap_or o false) (link_between_kept net s a b ta tb))
    ∙ ap (λ z. cond (is_up net a b) z None)
    (by_map _ (device_of (restricted net s) a)
    ∙ ap (λ o. unwrap_or o None)
    (kept_of (λ d. offered d.body b r) (without_origins_offers b r) net s a)
    ∙ sym (by_map _ (device_of net a)))

pub accept_restricted : (net : Network) (s : DeviceId → Bool) (b a : DeviceId) (r : Route)
    → accept (restricted net s) b a r ≡ accept net b a r
unfolding accept
accept_restricted net s b a r =
    ap (λ o. unwrap_or o false)
    (kept_of (λ d. accepts d.body a r) (without_origins_accepts a r) net s b)

pub up_linked : (net : Network) (a b : DeviceId) → is_up net a b ≡ true
    → (up : Bool) × (link_between net a b ≡ Some up)
up_linked net a b e = go (link_between net a b) refl e
  where
    go : (o : Option Bool) → link_between net a b ≡ o → unwrap_or o false ≡ true
        → (up : Bool) × (link_between net a b ≡ Some up)
    go None h e = absurd (false≢true e)
    go (Some u) h e = (u, h)

rank_of_restricted : (net : Network) (s : DeviceId → Bool) (c : Choice)
    → rank_of (restricted net s) c ≡ rank_of net c
rank_of_restricted net s c =
    λ i. record {
      learnt = is_some c.from;
      length = length c.path;
      origin = c.origin;
      sender =
          unwrap_or (option_map (λ d. router_of_restricted net s d i) c.from) (record { 0 = 0 });
    }

pub outranks_restricted : (net : Network) (s : DeviceId → Bool) (x y : Choice)
    → outranks (restricted net s) x y ≡ outranks net x y
unfolding outranks_by
outranks_restricted net s x y =
    ap (λ r. ranks_before r (rank_of (restricted net s) y)) (rank_of_restricted net s x)
    ∙ ap (λ r. ranks_before (rank_of net x) r) (rank_of_restricted net s y)
