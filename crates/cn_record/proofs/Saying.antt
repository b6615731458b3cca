-- What an outside device says is its rows for the prefixes of its island.
use Rattle.std.proofs.Common.{◌≡◌, ◌≤◌, ◌&&◌, Bool, true, false, List, length, is_some, Option, Some, None, nat_lt, refl, sym, ap, subst, ◌∙◌, inl, inr}
use Rattle.std.specs.Prelude.{Contains, MatchOption}
use Rattle.std.specs.List.{list_any}
use Rattle.std.specs.Option.{option_eq}
use Rattle.std.proofs.lemmas.Bool.{and_from, and_left, and_parts, cases_Bool, cond-false, cond-true, false_from_ne_true, le-ltb, lt-ltb, ltb-true, eq-eqb}
use Rattle.std.proofs.lemmas.Bool.Decides.{same_from_decides}
use Rattle.std.proofs.lemmas.List.Elements.{All-contains}
use Rattle.std.proofs.lemmas.List.Folds.{Any-from_list_any, list_any-from_Any}
use Rattle.std.proofs.lemmas.Option.{none-some, same_Some}
use Rattle.cn_base.specs.Cidr.{Cidr}
use Rattle.cn_base.specs.declared.ids.DeviceId.{DeviceId}
use Rattle.cn_base.specs.declared.route.Choice.{Choice}
use Rattle.cn_net.specs.Network.{Network, IsDevice, device_ids, own_origin, same_device}
use Rattle.cn_net.specs.Records.{IsOfIsland, SaysItsOwn}
use Rattle.cn_net.proofs.Members.{same_number}
use Rattle.cn_net.proofs.Peers.{all_devices, only_devices}
use Rattle.cn_record.specs.Grouped.{AreIslandPrefixes, HasOwnPrefixes, of_island}
use Rattle.cn_record.specs.Rows.{row_for}
use Rattle.cn_record.specs.Said.{island_originates, is_one_island, said}
use Rattle.cn_record.specs.declared.islands.IslandPrefix.{IslandPrefix}
use Rattle.cn_record.specs.declared.saved.Row.{Row}

-- ---- one island

itself : (i : DeviceId) → same_device i i ≡ true
itself i = eq-eqb i.0 i.0 refl

both_of : (o q : Option DeviceId) → (is_some o && option_eq same_device o q) ≡ true → (i : DeviceId)
    × (o ≡ Some i) × (q ≡ Some i)
both_of None q t = absurd (let never : false ≡ true = t in cc)
both_of (Some i) None t = absurd (let never : false ≡ true = t in cc)
both_of (Some i) (Some j) t = (i, refl, ap Some (sym (same_number i j t)))

pub of_one_island : (label : DeviceId → Option DeviceId) (d x i : DeviceId) → label d ≡ Some i
    → label x ≡ Some i → is_one_island label d x ≡ true
of_one_island label d x i e f = (λ k. is_some (e k) && option_eq same_device (e k) (f k)) ∙ itself i

-- ---- a device of the island originates the prefix

-- the island of d, which originates p
pub record IsOwned (net : Network) (label : DeviceId → Option DeviceId) (d : DeviceId)
    (p : Cidr) : Type 0 where
  pub is_device : IsDevice net d
  pub island : DeviceId
  pub in_island : label d ≡ Some island
  pub of_island : IsOfIsland net label island p

module _ (net : Network) (label : DeviceId → Option DeviceId) (d : DeviceId) (p : Cidr) where
  pub originated_from : island_originates net label d p ≡ true → IsOwned net label d p
  unfolding island_originates
  originated_from t =
      let test : DeviceId → Bool = λ x. is_one_island label d x && is_some (own_origin net x p) in
      let parts = and_parts (nat_lt d.0 (length net.devices)) (list_any test (device_ids net)) t in
      let any = Any-from_list_any test (device_ids net) parts.1 in
      let x = any.1 in
      let both = and_parts (is_one_island label d x) (is_some (own_origin net x p)) any.4 in
      let one = both_of (label d) (label x) both.0 in
      record {
        is_device = ltb-true d.0 (length net.devices) parts.0;
        island = one.0;
        in_island = one.1;
        of_island = record {
          device = x;
          in_island = one.2;
          originates =
              (subst (IsDevice net) any.3 (only_devices net any.0 x any.2), both.1);
        };
      }

  pub originated_back : (i : DeviceId) → IsDevice net d → label d ≡ Some i
      → IsOfIsland net label i p → island_originates net label d p ≡ true
  unfolding island_originates
  originated_back i is e o =
      let test : DeviceId → Bool = λ x. is_one_island label d x && is_some (own_origin net x p) in
      let x = o.device in
      let at = all_devices net x o.originates.0 in
      and_from (nat_lt d.0 (length net.devices)) (list_any test (device_ids net))
      (lt-ltb d.0 (length net.devices) is)
      (list_any-from_Any test (device_ids net) (
        at.0,
        x,
        at.1,
        at.2,
        and_from (is_one_island label d x) (is_some (own_origin net x p))
            (of_one_island label d x i e o.in_island) o.originates.1,
      ))

  pub not_device : length net.devices ≤ d.0 → false ≡ island_originates net label d p
  unfolding island_originates
  not_device le = sym (and_left (nat_lt d.0 (length net.devices)) _
      (le-ltb d.0 (length net.devices) le))

  pub not_labelled : None ≡ label d → false ≡ island_originates net label d p
  not_labelled e = sym (false_from_ne_true (island_originates net label d p)
      (λ t. let o = originated_from t in none-some o.island (e ∙ o.in_island)))

  -- the island that is found for the prefix is the device's own
  pub originated_by : (list : List IslandPrefix) (i : DeviceId) (found : Option DeviceId) (b : Bool)
      → HasOwnPrefixes net label → AreIslandPrefixes net label list → IsDevice net d
      → Some i ≡ label d → MatchOption found ((j : DeviceId) → Contains list (of_island j p) → ⊥)
      (λ j. Contains list (of_island j p)) → b ≡ option_eq same_device found (Some i)
      → b ≡ island_originates net label d p
  originated_by list i None b own are is e none tests =
      tests ∙ sym (false_from_ne_true (island_originates net label d p)
      (λ t. let o = originated_from t in none o.island (are.all o.island p o.of_island)))
  originated_by list i (Some j) b own are is e there tests =
      let of_j : IsOfIsland net label j p =
      All-contains (λ x. IsOfIsland net label x.island x.prefix) list (of_island j p)
      are.each there in
      tests
      ∙ same_from_decides {P = j ≡ i} (same_device j i) (island_originates net label d p)
      (same_number j i, λ q. ap (same_device j) (sym q) ∙ itself j) (
        λ t.
            let o = originated_from t in
            let at_i : o.island ≡ i = same_Some o.island i (sym o.in_island ∙ sym e) in
            let there : label o.of_island.device ≡ Some j =
            own j of_j.device o.of_island.device p of_j.in_island of_j.originates
            o.of_island.originates in
            same_Some j i (sym there ∙ o.of_island.in_island ∙ ap Some at_i),
        λ q. originated_back i is (sym e) (subst (λ z. IsOfIsland net label z p) q of_j),
      )

  -- ---- what d says of p

  pub says_row : (rows : List Row) (i : DeviceId) → IsDevice net d → label d ≡ Some i
      → IsOfIsland net label i p → said net label rows d p ≡ row_for rows d p
  unfolding said
  says_row rows i is e o = cond-true (island_originates net label d p)
      (row_for rows d p) None (originated_back i is e o)

  says_owned : (rows : List Row) (c : Choice) → said net label rows d p ≡ Some c
      → IsOwned net label d p
  unfolding said
  says_owned rows c e = elim (cases_Bool (island_originates net label d p)) [
    | inl t ↦ originated_from t
    | inr f ↦ absurd (none-some c
        (sym (cond-false (island_originates net label d p) (row_for rows d p) None f) ∙ e))
  ]

-- a device without an island says nothing
pub says_none : (net : Network) (label : DeviceId → Option DeviceId) (d : DeviceId) (p : Cidr)
    (rows : List Row) → label d ≡ None → said net label rows d p ≡ None
unfolding said
says_none net label d p rows e = cond-false (island_originates net label d p)
    (row_for rows d p) None (sym (not_labelled net label d p (sym e)))

pub says_own : (net : Network) (label : DeviceId → Option DeviceId) (rows : List Row)
    → SaysItsOwn net label (said net label rows)
says_own net label rows d i p c is l e =
    let o = says_owned net label d p rows c e in
    subst (λ z. IsOfIsland net label z p) (same_Some o.island i (sym o.in_island ∙ l)) o.of_island
