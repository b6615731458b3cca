-- Two candidates of one device that don't outrank each other are one.
use Rattle.std.proofs.Common.{◌≡◌, ℕ, ◌≤◌, Bool, true, false, length, Option, Some, None, is_some, unwrap_or, option_map, inl, inr, refl, sym, ap, ◌∙◌, arith}
use Rattle.std.proofs.lemmas.Bool.{false≢true}
use Rattle.std.proofs.lemmas.Bool.Decides.{nat_tests}
use Rattle.std.specs.declared.cmp.Ordering.{Ordering}
use Rattle.std.specs.Ordering.{nat_cmp, bool_cmp, is_lt, ordering_then}
use Rattle.cn_base.specs.Cidr.{Cidr}
use Rattle.cn_base.specs.Rank.{rank_cmp, origin_code}
use Rattle.cn_base.specs.declared.ids.DeviceId.{DeviceId}
use Rattle.cn_base.specs.declared.ids.Origin.{Origin}
use Rattle.cn_base.specs.declared.ids.Origin.TheVariants.{Igp, Egp, Incomplete}
use Rattle.cn_base.specs.declared.ids.RouterId.{RouterId}
use Rattle.cn_base.specs.declared.rank.Rank.{Rank}
use Rattle.cn_base.specs.declared.route.Choice.{Choice}
use Rattle.cn_base.specs.declared.route.Route.{Route}
use Rattle.cn_decide.specs.Decide.{outranks_by}
use Rattle.cn_net.specs.Candidates.{IsLearnt, IsCandidate, IsBest, best_of, outranks, rank_of}
use Rattle.cn_net.specs.Network.{Network, HasDistinctIds, router_of}
use Rattle.cn_net.proofs.Candidates.{best_of_is_best}

-- ---- ranks that don't stand before each other

record IsTie (x y : Rank) : Type 0 where
  learnt : x.learnt ≡ y.learnt
  length : x.length ≡ y.length
  origin : x.origin ≡ y.origin
  sender : x.sender.0 ≡ y.sender.0

three_ties : (l m p q s t : ℕ)
    → is_lt (ordering_then (nat_cmp l m) (ordering_then (nat_cmp p q) (nat_cmp s t))) ≡ false
    → is_lt (ordering_then (nat_cmp m l) (ordering_then (nat_cmp q p) (nat_cmp t s))) ≡ false
    → (l ≡ m) × (p ≡ q) × (s ≡ t)
three_ties l m p q s t h k = grind (arith, nat_tests)

same_origin : (o q : Origin) → origin_code o ≡ origin_code q → o ≡ q
same_origin Igp Igp e = refl
same_origin Igp Egp e = cc
same_origin Igp Incomplete e = cc
same_origin Egp Igp e = cc
same_origin Egp Egp e = refl
same_origin Egp Incomplete e = cc
same_origin Incomplete Igp e = cc
same_origin Incomplete Egp e = cc
same_origin Incomplete Incomplete e = refl

learnt_ties : (a b : Bool) (x y : Ordering) → is_lt (ordering_then (bool_cmp a b) x) ≡ false
    → is_lt (ordering_then (bool_cmp b a) y) ≡ false
    → (a ≡ b) × (is_lt x ≡ false) × (is_lt y ≡ false)
learnt_ties false false x y h k = (refl, h, k)
learnt_ties false true x y h k = cc
learnt_ties true false x y h k = cc
learnt_ties true true x y h k = (refl, h, k)

rank_ties : (x y : Rank) → is_lt (rank_cmp x y) ≡ false → is_lt (rank_cmp y x) ≡ false → IsTie x y
rank_ties x y h k =
    let l = learnt_ties x.learnt y.learnt _ _ h k in
    let r = three_ties x.length y.length (origin_code x.origin)
    (origin_code y.origin) x.sender.0 y.sender.0 l.1 l.2 in
    record {
      learnt = l.0;
      length = r.0;
      origin = same_origin _ _ r.1;
      sender = r.2;
    }

-- ---- lengths

shorter_first : (l m : ℕ) (o : Ordering) → is_lt (ordering_then (nat_cmp l m) o) ≡ false → m ≤ l
shorter_first l m o h = grind (arith, nat_tests)

no_longer_than_learnt : (a b : Bool) (l m : ℕ) (o : Ordering) → b ≡ true
    → is_lt (ordering_then (bool_cmp a b) (ordering_then (nat_cmp l m) o)) ≡ false → m ≤ l
no_longer_than_learnt a false l m o e h = cc
no_longer_than_learnt false true l m o e h = cc
no_longer_than_learnt true true l m o e h = shorter_first l m o h

-- a candidate that another doesn't outrank is no longer than that one
pub no_longer : (net : Network) (came : DeviceId → Option Route) (b : DeviceId) (p : Cidr)
    (c d : Choice) → IsCandidate net came b p d → outranks net c d ≡ false
    → length d.path ≤ length c.path
unfolding outranks_by
no_longer net came b p c d (inl u) h = rw u.empty (omega arith)
no_longer net came b p c d (inr u) h =
    no_longer_than_learnt (is_some c.from) (is_some d.from) (length c.path) (length d.path) _
    (ap (λ (x : Choice). is_some x.from) u.is) h

-- ---- candidates that don't outrank each other

same_choice : (c d : Choice) → c.from ≡ d.from → c.path ≡ d.path → c.origin ≡ d.origin → c ≡ d
same_choice c d e f g = λ i. record { from = e i; path = f i; origin = g i }

sender_is : (net : Network) (o : Option DeviceId) (d : DeviceId) → o ≡ Some d
    → unwrap_or (option_map (router_of net) o) (record { 0 = 0 }) ≡ router_of net d
sender_is net o d e =
    ap (λ (x : Option DeviceId). unwrap_or (option_map (router_of net) x) (record { 0 = 0 })) e

same_router : (x y : RouterId) → x.0 ≡ y.0 → x ≡ y
same_router x y e = λ i. record { 0 = e i }

same_sender : (net : Network) (came : DeviceId → Option Route) (b : DeviceId) (c d : Choice)
    (u : IsLearnt net came b c) (v : IsLearnt net came b d) → u.sender ≡ v.sender → c ≡ d
same_sender net came b c d u v e = cc

pub one_candidate : (net : Network) (came : DeviceId → Option Route) (b : DeviceId) (p : Cidr)
    (c d : Choice) → HasDistinctIds net → IsCandidate net came b p c → IsCandidate net came b p d
    → outranks net c d ≡ false → outranks net d c ≡ false → c ≡ d
unfolding outranks_by
one_candidate net came b p c d ids (inl u) (inl v) h k =
    same_choice c d (u.none ∙ sym v.none) (u.empty ∙ sym v.empty)
    (rank_ties (rank_of net c) (rank_of net d) h k).origin
one_candidate net came b p c d ids (inl u) (inr v) h k =
    absurd (false≢true
    (sym (ap is_some u.none) ∙ (rank_ties (rank_of net c) (rank_of net d) h k).learnt
    ∙ ap (λ (x : Choice). is_some x.from) v.is))
one_candidate net came b p c d ids (inr u) (inl v) h k =
    absurd (false≢true
    (sym (ap is_some v.none) ∙ sym (rank_ties (rank_of net c) (rank_of net d) h k).learnt
    ∙ ap (λ (x : Choice). is_some x.from) u.is))
one_candidate net came b p c d ids (inr u) (inr v) h k =
    let t = (rank_ties (rank_of net c) (rank_of net d) h k).sender in
    let r = same_router _ _ t in
    let e = sym (sender_is net c.from u.sender (ap (λ (x : Choice). x.from) u.is)) ∙ r
    ∙ sender_is net d.from v.sender (ap (λ (x : Choice). x.from) v.is) in
    same_sender net came b c d u v (ids u.sender v.sender u.is_device v.is_device e)

-- ---- one best

one_best : (net : Network) (came : DeviceId → Option Route) (b : DeviceId) (p : Cidr)
    → HasDistinctIds net → (o q : Option Choice) → IsBest net came b p o → IsBest net came b p q
    → o ≡ q
one_best net came b p ids None None h k = refl
one_best net came b p ids None (Some d) h k = absurd (h d k.0)
one_best net came b p ids (Some c) None h k = absurd (k c h.0)
one_best net came b p ids (Some c) (Some d) h k =
    ap Some (one_candidate net came b p c d ids h.0 k.0 (k.1 c h.0) (h.1 d k.0))

pub best_is_best_of : (net : Network) (came : DeviceId → Option Route) (b : DeviceId) (p : Cidr)
    (o : Option Choice) → HasDistinctIds net → IsBest net came b p o → o ≡ best_of net came b p
best_is_best_of net came b p o ids h =
    one_best net came b p ids o (best_of net came b p) h (best_of_is_best net came b p)
