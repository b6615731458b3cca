-- What is owed, at each prefix.
use Rattle.std.proofs.Common.{◌≡◌, ◌≢◌, ℕ, ◌<◌, Bool, true, false, cond, not, List, [], ◌∷◌, ◌++◌, length, Option, Some, None, refl, sym, ap, ◌∙◌, subst, inl, inr, eq-eqb, arith, true≢false}
use Rattle.std.specs.Prelude.{◌↔◌, ◌==◌, ◌&&◌, ◌||◌, is_some, nat_lt}
use Rattle.std.specs.List.{list_any}
use Rattle.std.specs.FinMap as fin
use Rattle.std.proofs.lemmas.Bool.{and_parts, eqb-true}
use Rattle.std.proofs.lemmas.Bool.Decides.{nat_tests}
use Rattle.std.proofs.lemmas.List.Folds.{list_any-append}
use Rattle.cn_base.specs.Cidr.{Cidr, same_prefix}
use Rattle.cn_base.specs.Rank.{origin_code}
use Rattle.cn_base.specs.Table.{prefix_cmp}
use Rattle.cn_base.specs.declared.ids.Asn.{Asn}
use Rattle.cn_base.specs.declared.ids.DeviceId.{DeviceId}
use Rattle.cn_base.specs.declared.ids.Origin.{Origin}
use Rattle.cn_base.specs.declared.ids.Origin.TheVariants.{Igp, Egp, Incomplete}
use Rattle.cn_base.specs.declared.route.Attributes.{Attributes}
use Rattle.cn_rib.specs.PrefixMaps.{put_at}
use Rattle.cn_rib.specs.Updates.{AdjRib}
use Rattle.cn_rib.proofs.Keyed.{found_first, get_empty, get_outside_keys, get_removed_all, held_has_len, same_rows}
use Rattle.cn_rib.proofs.PrefixMaps.{get-put_all, get-put_at-elsewhere, get-put_at-there}
use Rattle.cn_rib.proofs.Prefixes.{same_tells}
use Rattle.cn_net.specs.Network.{Network}
use Rattle.cn_net.specs.Stable.{offer_of}
use Rattle.cn_core.specs.Owed.{CoveredOwedLaw, DecidedOwedLaw, EmptyOwedLaw, GetOwedLaw, advertised, differs_from_sent, offered_attributes, owed, owed_by, owed_for, owes, same_attributes, same_numbers, unless_sent, without}
use Rattle.cn_core.specs.State.{CoreState, LocRib, SessionState}

-- ---- attributes that are the same

same_asn : (x y : Asn) → (x.0 == y.0) ≡ true → x ≡ y
same_asn x y t = let e = eqb-true x.0 y.0 t in λ i. record { 0 = e i }

same_path : (xs ys : List Asn) → same_numbers xs ys ≡ true → xs ≡ ys
same_path [] [] t = refl
same_path [] (y ∷ ys) t = absurd (true≢false (sym t))
same_path (x ∷ xs) [] t = absurd (true≢false (sym t))
same_path (x ∷ xs) (y ∷ ys) t =
    let both = and_parts (x.0 == y.0) (same_numbers xs ys) t in
    λ i. same_asn x y both.0 i ∷ same_path xs ys both.1 i

same_origin : (x y : Origin) → (origin_code x == origin_code y) ≡ true → x ≡ y
same_origin Igp Igp t = refl
same_origin Igp Egp t = cc
same_origin Igp Incomplete t = cc
same_origin Egp Igp t = cc
same_origin Egp Egp t = refl
same_origin Egp Incomplete t = cc
same_origin Incomplete Igp t = cc
same_origin Incomplete Egp t = cc
same_origin Incomplete Incomplete t = refl

-- attributes that the test calls the same are equal
pub same_attributes_are : (x y : Attributes) → same_attributes x y ≡ true → x ≡ y
same_attributes_are x y t =
    let both =
    and_parts (same_numbers x.path y.path) (origin_code x.origin == origin_code y.origin) t in
    let path = same_path x.path y.path both.0 in
    let origin = same_origin x.origin y.origin both.1 in
    λ i. record { path = path i; origin = origin i }

numbers_themselves : (xs : List Asn) → same_numbers xs xs ≡ true
numbers_themselves [] = refl
numbers_themselves (x ∷ xs) =
    ap (λ b. b && same_numbers xs xs) (eq-eqb x.0 x.0 refl) ∙ numbers_themselves xs

-- attributes are the same as themselves
pub attributes_themselves : (x : Attributes) → same_attributes x x ≡ true
attributes_themselves x =
    ap (λ b. b && (origin_code x.origin == origin_code x.origin)) (numbers_themselves x.path)
    ∙ eq-eqb (origin_code x.origin) (origin_code x.origin) refl

-- ---- what was sent, against an offer

same_where_not : (b : Bool) (x y : Attributes) → same_attributes x y ≡ b → not b ≡ false → x ≡ y
same_where_not true x y is e = same_attributes_are x y is
same_where_not false x y is e = absurd (true≢false e)

-- an offer that doesn't differ is what was sent
pub differs_from_sent-false : (s w : Option Attributes) → differs_from_sent s w ≡ false → s ≡ w
differs_from_sent-false None None e = refl
differs_from_sent-false None (Some w) e = absurd (true≢false e)
differs_from_sent-false (Some s) None e = absurd (true≢false e)
differs_from_sent-false (Some s) (Some w) e =
    ap Some (same_where_not (same_attributes s w) s w refl e)

-- what was sent doesn't differ
pub differs_from_sent-itself : (w : Option Attributes) → differs_from_sent w w ≡ false
differs_from_sent-itself None = refl
differs_from_sent-itself (Some w) = ap not (attributes_themselves w)

-- an offer that is what was sent isn't owed
pub unless_sent-same : (s w : Option Attributes) → s ≡ w → unless_sent s w ≡ None
unless_sent-same s w e =
    ap (λ b. cond b (Some w) None)
    (ap (λ z. differs_from_sent z w) e ∙ differs_from_sent-itself w)

-- another offer is owed
pub unless_sent-other : (s w : Option Attributes) → s ≢ w → unless_sent s w ≡ Some w
unless_sent-other s w other =
    elim (differs_from_sent s w) as
    (λ b. differs_from_sent s w ≡ b → cond b (Some w) None ≡ Some w) [
      | true ↦ λ b. refl
      | false ↦ λ b. absurd (other (differs_from_sent-false s w b))
    ] refl

unless_sent-none : (s w : Option Attributes) → unless_sent s w ≡ None → s ≡ w
unless_sent-none s w e =
    elim (differs_from_sent s w) as
    (λ b. differs_from_sent s w ≡ b → cond b (Some w) None ≡ None → s ≡ w) [
      | true ↦ λ b e. cc
      | false ↦ λ b e. differs_from_sent-false s w b
    ] refl e

unless_sent-some : (s w v : Option Attributes) → unless_sent s w ≡ Some v → (w ≡ v) × (s ≢ v)
unless_sent-some s w v e =
    elim (differs_from_sent s w) as
    (λ b. differs_from_sent s w ≡ b → cond b (Some w) None ≡ Some v → (w ≡ v) × (s ≢ v)) [
      | false ↦ λ b e. cc
      | true ↦ λ b e.
          let same : w ≡ v = cc in (
            same,
            λ is. true≢false (sym b
                ∙ ap (λ z. differs_from_sent z w) (is ∙ sym same) ∙ differs_from_sent-itself w),
          )
    ] refl e

-- ---- prefixes of one list or of another

neither : (x y : Bool) → (x || y) ≡ false → (x ≡ false) × (y ≡ false)
neither true y e = absurd (true≢false e)
neither false y e = (refl, e)

-- ---- what is owed at a prefix

-- nothing is offered of no choice
pub nothing_offered : (net : Network) (a b : DeviceId) (p : Cidr)
    → offered_attributes net a b p None ≡ None
unfolding offered_attributes offer_of
nothing_offered net a b p = refl

module _ (net : Network) (a b : DeviceId) (sent : AdjRib) (best : LocRib) where
  nothing_at : (q : Cidr)
      → list_any (same_prefix q) (fin.keys sent ++ fin.keys best) ≡ false
      → owed_for net a b sent best q ≡ None
  unfolding owed_for
  nothing_at q e =
      let both =
      neither (list_any (same_prefix q) (fin.keys sent)) (list_any (same_prefix q) (fin.keys best))
      (sym (list_any-append (same_prefix q) (fin.keys sent) (fin.keys best)) ∙ e) in
      unless_sent-same (fin.get sent q) (advertised net a b best q)
      (get_outside_keys sent q both.0
      ∙ sym (ap (offered_attributes net a b q) (get_outside_keys best q both.1)
      ∙ nothing_offered net a b q))

  get-owed_for : (q : Cidr)
      → fin.get (owed net a b sent best) q ≡ owed_for net a b sent best q
  unfolding owed
  get-owed_for q =
      get-put_all (owed_for net a b sent best) fin.empty (fin.keys sent ++ fin.keys best) q
      ∙ elim (list_any (same_prefix q) (fin.keys sent ++ fin.keys best)) as
      (λ t. list_any (same_prefix q) (fin.keys sent ++ fin.keys best) ≡ t
      → cond t (owed_for net a b sent best q)
      (fin.get (fin.empty {X = Option Attributes} {R = prefix_cmp}) q)
      ≡ owed_for net a b sent best q) [
        | true ↦ λ t. refl
        | false ↦ λ t. get_empty q ∙ sym (nothing_at q t)
      ] refl

  -- nothing is owed for a prefix that was neither sent nor is held
  pub get-owed-outside : (q : Cidr)
      → (list_any (same_prefix q) (fin.keys sent) || list_any (same_prefix q) (fin.keys best))
      ≡ false
      → fin.get (owed net a b sent best) q ≡ None
  get-owed-outside q e =
      get-owed_for q
      ∙ nothing_at q (list_any-append (same_prefix q) (fin.keys sent) (fin.keys best) ∙ e)

  -- at each prefix what is advertised is owed, unless it was sent
  pub get-owed : (q : Cidr)
      → fin.get (owed net a b sent best) q
      ≡ unless_sent (fin.get sent q) (advertised net a b best q)
  unfolding owed_for
  get-owed q = get-owed_for q

  pub owed_some : (q : Cidr) (w : Option Attributes)
      → (fin.get (owed net a b sent best) q ≡ Some w) ↔
      ((advertised net a b best q ≡ w) × (fin.get sent q ≢ w))
  owed_some q w = (
    λ e. unless_sent-some (fin.get sent q) (advertised net a b best q) w (sym (get-owed q) ∙ e),
    λ h. get-owed q
        ∙ unless_sent-other (fin.get sent q) (advertised net a b best q) (λ is. h.1 (is ∙ h.0))
        ∙ ap Some h.0,
  )

  pub owed_none : (q : Cidr)
      → (fin.get (owed net a b sent best) q ≡ None) ↔
      (fin.get sent q ≡ advertised net a b best q)
  owed_none q = (
    λ e. unless_sent-none (fin.get sent q) (advertised net a b best q) (sym (get-owed q) ∙ e),
    λ h. get-owed q ∙ unless_sent-same (fin.get sent q) (advertised net a b best q) h,
  )

  -- ---- where nothing is owed

  -- nothing is owed exactly where each prefix was sent as it is advertised
  pub owed_empty : (owed net a b sent best ≡ fin.empty) ↔
      ((p : Cidr) → fin.get sent p ≡ advertised net a b best p)
  owed_empty = (
    λ e p. (owed_none p).0 (ap (λ m. fin.get m p) e ∙ get_empty p),
    λ h. same_rows (owed net a b sent best) fin.empty
        (λ q. (owed_none q).1 (h q) ∙ sym (get_empty q)),
  )

  first_owed : (es : List (Cidr × Option Attributes))
      → fin.entries (owed net a b sent best) ≡ es → 0 < length es
      → (p : Cidr) × (fin.get sent p ≢ advertised net a b best p)
  first_owed [] e lt = absurd (omega (arith, lt))
  first_owed (x ∷ es) e lt =
      let there =
      fin.get-entries (owed net a b sent best) x.0 ∙ ap (fin.find prefix_cmp x.0) e
      ∙ found_first x es in
      let parts = (owed_some x.0 x.1).0 there in
      (x.0, λ is. parts.1 (is ∙ parts.0))

  -- something is owed exactly where some prefix wasn't sent as it is advertised
  pub owed_somewhere : (0 < fin.len (owed net a b sent best)) ↔
      ((p : Cidr) × (fin.get sent p ≢ advertised net a b best p))
  owed_somewhere = (
    λ lt. first_owed (fin.entries (owed net a b sent best)) refl
        (subst (λ n. 0 < n) (fin.len-entries (owed net a b sent best)) lt),
    λ h. held_has_len (owed net a b sent best) h.0
        (ap is_some ((owed_some h.0 (advertised net a b best h.0)).1 (refl, h.1))),
  )

pub get_owed_holds : GetOwedLaw
get_owed_holds = record { some = owed_some; none = owed_none }

pub empty_owed_holds : EmptyOwedLaw
empty_owed_holds = record { empty = owed_empty; some = owed_somewhere }

-- ---- after a change

pub decided_owed_holds : DecidedOwedLaw
decided_owed_holds net a b sent best p o =
    same_rows _ _ (λ q. get-owed net a b sent (put_at best p o) q ∙ elim (same_tells q p) [
      | inl same ↦
          subst (λ (z : Cidr). unless_sent (fin.get sent z) (advertised net a b (put_at best p o) z)
          ≡ fin.get (put_at (owed net a b sent best) p
          (unless_sent (fin.get sent p) (offered_attributes net a b p o))) z) (sym same.1)
          (ap (λ c. unless_sent (fin.get sent p) (offered_attributes net a b p c))
          (get-put_at-there best p o)
          ∙ sym (get-put_at-there (owed net a b sent best) p
          (unless_sent (fin.get sent p) (offered_attributes net a b p o))))
      | inr other ↦
          ap (λ c. unless_sent (fin.get sent q) (offered_attributes net a b q c))
          (get-put_at-elsewhere best p o q other.0)
          ∙ sym (get-put_at-elsewhere (owed net a b sent best) p
          (unless_sent (fin.get sent p) (offered_attributes net a b p o)) q other.0
          ∙ get-owed net a b sent best q)
    ])

pub covered_owed_holds : CoveredOwedLaw
covered_owed_holds net a b sent new best ps inside outside =
    same_rows _ _ (λ q. get-owed net a b new best q ∙ elim (list_any (same_prefix q) ps) as
    (λ t. list_any (same_prefix q) ps ≡ t
    → unless_sent (fin.get new q) (advertised net a b best q)
    ≡ fin.get (without (owed net a b sent best) ps) q) [
      | true ↦
          λ t. unless_sent-same (fin.get new q) (advertised net a b best q) (inside q t)
          ∙ sym (get_removed_all (owed net a b sent best) ps q
          ∙ ap (λ u. cond u None (fin.get (owed net a b sent best) q)) t)
      | false ↦
          λ t. ap (λ o. unless_sent o (advertised net a b best q)) (outside q t)
          ∙ sym (get_removed_all (owed net a b sent best) ps q
          ∙ ap (λ u. cond u None (fin.get (owed net a b sent best) q)) t
          ∙ get-owed net a b sent best q)
    ] refl)

-- ---- of a session of the state

-- a session that owes nothing has sent what is advertised, and one that has owes nothing
pub owes-none : (s : CoreState) (x : SessionState) → owes s x ≡ false → owed_by s x ≡ fin.empty
owes-none s x e = fin.empty_of_len (owed_by s x) (none (fin.len (owed_by s x)) e)
  where
    none : (n : ℕ) → nat_lt 0 n ≡ false → n ≡ 0
    none n e = grind (arith, nat_tests)

-- where nothing is owed, no session owes
pub owes-empty : (s : CoreState) (x : SessionState) → owed_by s x ≡ fin.empty → owes s x ≡ false
owes-empty s x e = ap (nat_lt 0) (ap fin.len e ∙ fin.len-empty prefix_cmp (Option Attributes))
