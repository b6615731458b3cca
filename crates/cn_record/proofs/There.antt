-- Rows that aren't sound differ in a first place, in the sense of classical logic. Other crates may
-- cite this module.
use Rattle.std.proofs.Common.{◌≡◌, ◌∙◌, ◌<◌, ◌⊎◌, ◌==◌, ℕ, zero, suc, List, Option, refl, sym, ap, subst, eq-eqb, inl, inr, arith}
use Rattle.std.specs.Bool.{Decides}
use Rattle.std.specs.Cmp.Lexicographic.{pointwise}
use Rattle.std.proofs.lemmas.Bool.{eqb-true}
use Rattle.std.proofs.lemmas.Bool.Decides.{Decides-eqb, nat_tests}
use Rattle.std.proofs.lemmas.Slice.Eq.{slice_eq-Decides}
use Rattle.cn_lists.specs.Classical.{Classically}
use Rattle.cn_lists.proofs.Classical.{and_then, given_by_test, least_by, least_by_two, same_option, with_found}
use Rattle.cn_base.specs.Cidr.{Cidr}
use Rattle.cn_base.specs.Rank.{origin_code}
use Rattle.cn_base.specs.declared.ids.Asn.{Asn}
use Rattle.cn_base.specs.declared.ids.DeviceId.{DeviceId}
use Rattle.cn_base.specs.declared.ids.Origin.{Origin}
use Rattle.cn_base.specs.declared.ids.Origin.TheVariants.{Igp, Egp, Incomplete}
use Rattle.cn_base.specs.declared.route.Choice.{Choice}
use Rattle.cn_net.specs.Islands.{outside_of}
use Rattle.cn_net.specs.Network.{IsDevice, same_device}
use Rattle.cn_net.specs.OneState.{HasOneStableState}
use Rattle.cn_net.specs.Opening.{Opening}
use Rattle.cn_net.specs.Restriction.{restricted}
use Rattle.cn_net.specs.Stable.{Assignment}
use Rattle.cn_net.specs.Valid.{IsValid}
use Rattle.cn_net.proofs.Apart.{distinct_ids}
use Rattle.cn_net.proofs.Keys.{same_device-Decides}
use Rattle.cn_net.proofs.Restricted.{distinct_restricted, length_restricted}
use Rattle.cn_net.proofs.States.{has_one_state}
use Rattle.cn_record.specs.Recorded.{SaysSound}
use Rattle.cn_record.specs.Rows.{StandsBefore, row_for}
use Rattle.cn_record.specs.Said.{said_by}
use Rattle.cn_record.specs.Unsound.{IsFirstUnsound, IsOutsideState, IsUnsound}
use Rattle.cn_record.specs.declared.saved.Row.{Row}

-- ---- choices that can't be apart are one

same_asn : (x y : Asn) → Decides (x.0 == y.0) (x ≡ y)
same_asn x y = (
  (λ t. let e = eqb-true x.0 y.0 t in λ i. record { 0 = e i }),
  (λ e. eq-eqb x.0 y.0 (ap (λ (z : Asn). z.0) e)),
)

same_path : (xs ys : List Asn) → Classically (xs ≡ ys) → xs ≡ ys
same_path xs ys h =
    let test = pointwise (λ (x y : Asn). x.0 == y.0) xs ys in
    given_by_test test (slice_eq-Decides same_asn xs ys test refl) h

same_sender : (o q : Option DeviceId) → Classically (o ≡ q) → o ≡ q
same_sender =
    same_option (λ x y h. given_by_test (same_device x y) (same_device-Decides x y) h)

origin_at : ℕ → Origin
origin_at zero = Igp
origin_at (suc zero) = Egp
origin_at (suc (suc n)) = Incomplete

at_its_code : (o : Origin) → origin_at (origin_code o) ≡ o
unfolding origin_at
at_its_code Igp = refl
at_its_code Egp = refl
at_its_code Incomplete = refl

same_origin : (o q : Origin) → Classically (o ≡ q) → o ≡ q
same_origin o q h =
    let codes = origin_code o == origin_code q in
    let e = given_by_test codes (Decides-eqb (origin_code o) (origin_code q))
    (with_found h (ap origin_code)) in
    sym (at_its_code o) ∙ ap origin_at e ∙ at_its_code q

same_choice : (x y : Choice) → Classically (x ≡ y) → x ≡ y
same_choice x y h =
    let sender = same_sender x.from y.from (with_found h (ap (λ c. c.from))) in
    let path = same_path x.path y.path (with_found h (ap (λ c. c.path))) in
    let origin = same_origin x.origin y.origin (with_found h (ap (λ c. c.origin))) in
    λ i. record { from = sender i; path = path i; origin = origin i }

-- ---- the first device and prefix

-- what stands before a device and a prefix has a lower device, or the same and a lower prefix
before_parts : (d x : DeviceId) (p q : Cidr) → StandsBefore d p x q
    → (d.0 < x.0)
    ⊎ ((d.0 ≡ x.0) × ((p.bits < q.bits) ⊎ ((p.bits ≡ q.bits) × (p.len < q.len))))
before_parts d x p q h = grind (arith, nat_tests)

-- of devices and prefixes with a property, where some are given, some stand first
least_pair : (P : DeviceId → Cidr → Type 0) (d : DeviceId) (p : Cidr) → P d p
    → Classically ((e : DeviceId) × (q : Cidr) × P e q
    × ((x : DeviceId) (r : Cidr) → P x r → StandsBefore x r e q → ⊥))
least_pair P d p h =
    and_then (least_by Held (λ x. x.0) d (p, h)) (λ low.
    let m = low.0 in
    with_found
    (least_by_two (P m) (λ q. q.bits) (λ q. q.len) low.1.0 low.1.1) (λ least. (
      m,
      least.0,
      least.1,
      λ x r here before. elim (before_parts x m r least.0 before) [
        | inl under ↦ omega (arith, low.2 x (r, here))
        | inr tied ↦
            let same : x ≡ m = λ i. record { 0 = tied.0 i } in
            least.2 r (subst (λ z. P z r) same here) tied.1
      ],
    )))
  where
    Held : DeviceId → Type 0
    Held x = (q : Cidr) × P x q

-- ---- the first that isn't sound

module _ (o : Opening) (rows : List Row) (valid : IsValid o.net) where
  alone : HasOneStableState (restricted o.net (outside_of o.emulated))
  alone =
      has_one_state (restricted o.net (outside_of o.emulated))
      (distinct_restricted o.net (outside_of o.emulated) (distinct_ids o.net valid))

  -- in each stable state of the outside a device holds the same
  holds_the_same : (state : Assignment) (d : DeviceId) (p : Cidr) → IsOutsideState o state
      → IsDevice o.net d → alone.state d p ≡ state d p
  holds_the_same state d p stable is =
      let size = length_restricted o.net (outside_of o.emulated) in
      alone.one state stable d p (rw size is)

  some_unsound : (SaysSound o rows → ⊥)
      → Classically ((d : DeviceId) × (p : Cidr) × IsUnsound o rows d p)
  some_unsound unsound missing = unsound (λ state stable d i p is label of_island.
      same_option same_choice (said_by o rows d p) (state d p) (λ apart. missing (
        d,
        p,
        record {
          is_device = is;
          island = i;
          in_island = label;
          of_island = of_island;
          differs = λ other stable' e. apart (e
              ∙ sym (holds_the_same other d p stable' is) ∙ holds_the_same state d p stable is);
        },
      )))

  -- rows of a valid network that aren't sound have a first place where they aren't
  pub unsound_there : (SaysSound o rows → ⊥)
      → Classically ((d : DeviceId) × (p : Cidr) × (held : Option Choice)
      × (wanted : Option Choice) × IsFirstUnsound o rows d p held wanted)
  unsound_there unsound =
      and_then (some_unsound unsound) (λ some.
      with_found (least_pair (IsUnsound o rows) some.0 some.1 some.2) (λ first.
      let d = first.0 in
      let p = first.1 in (
        d,
        p,
        row_for rows d p,
        alone.state d p,
        record {
          unsound = first.2;
          first = first.3;
          held_is = refl;
          wanted_is = λ state stable. holds_the_same state d p stable first.2.is_device;
        },
      )))
