-- The places of names, in the index and among the devices.
use Rattle.std.proofs.Common.{◌≡◌, ◌≢◌, ℕ, ◌+◌, ◌<◌, Bool, true, false, cond, List, String, [], ◌∷◌, ◌++◌, length, get_or, map, take, refl, sym, ◌∙◌, ap, arith, Some, None, nat_lt, not, if◌then◌else◌, position, unwrap_or}
use Rattle.std.specs.List.{IsDistinct, list_any, position_or_len}
use Rattle.std.specs.Str.{bytes_eq}
use Rattle.std.specs.String.{string_bytes, string_eq}
use Rattle.indexmap.specs.IndexSet.{insert_key}
use Rattle.std.proofs.lemmas.Bool.{false_from_ne_true, ltb-false, ltb-true}
use Rattle.std.proofs.lemmas.Cmp.{nat_list_eq_equiv}
use Rattle.std.proofs.lemmas.List.{get_or-map, length-map, map-append, take-map, take_more}
use Rattle.std.proofs.lemmas.List.Sums.{prefix_len-le-length, position_or_len_is, passes_at_first}
use Rattle.std.proofs.lemmas.Map.Keys.{apart_from_distinct}
use Rattle.std.proofs.lemmas.Option.{slice_get-map, unwrap_or-slice_get}
use Rattle.std.proofs.lemmas.Slice.Eq.{bytes_eq-Decides}
use Rattle.cn_base.specs.declared.ids.DeviceId.{DeviceId}
use Rattle.cn_net.specs.Kept.{AreNamesOf, names_of}
use Rattle.cn_net.specs.Network.{Network, IsDevice, name_of}
use Rattle.cn_net.specs.Numbered.{number_in, place_of, texts}
use Rattle.cn_net.specs.declared.device.Device.{Device}
use Rattle.cn_net.proofs.Keys.{list_any-map, not_distinct, position_or_len-map}

-- ---- what `position` says

some_cases : (b : Bool) (n i : ℕ) → Some i ≡ cond b (Some n) None → (b ≡ true) × (i ≡ n)
some_cases true n i e = (refl, cc)
some_cases false n i e = cc

none_cases : (b : Bool) (n : ℕ) → None ≡ cond b (Some n) None → b ≡ false
none_cases true n e = cc
none_cases false n e = refl

-- the place that the index gives a name
pub place_some : {A : Type 0} (keys : List (String A)) (name : List ℕ) (i : ℕ)
    → Some i ≡ position (λ k. bytes_eq name (string_bytes k)) keys
    → (i ≡ place_of (texts keys) name) × (i < length keys)
place_some keys name i e =
    let n = position_or_len (λ k. bytes_eq name (string_bytes k)) keys in
    let both = some_cases (nat_lt n (length keys)) n i e in
    let below = ltb-true n (length keys) both.0 in (
      both.1 ∙ sym (position_or_len-map (bytes_eq name) string_bytes keys),
      omega (arith, below, both.1),
    )

pub place_none : {A : Type 0} (keys : List (String A)) (name : List ℕ)
    → None ≡ position (λ k. bytes_eq name (string_bytes k)) keys
    → place_of (texts keys) name ≡ length keys
place_none keys name e =
    let n = position_or_len (λ k. bytes_eq name (string_bytes k)) keys in
    let above = ltb-false n (length keys) (none_cases (nat_lt n (length keys)) n e) in
    let most = prefix_len-le-length (λ k. not (bytes_eq name (string_bytes k))) keys in
    position_or_len-map (bytes_eq name) string_bytes keys ∙ omega (arith, above, most)

-- whether a device bears a name
pub is_borne : {A : Type 0} (keys : List (String A)) (name : List ℕ) (b : Bool)
    → b ≡ list_any (λ k. bytes_eq name (string_bytes k)) keys
    → list_any (bytes_eq name) (texts keys) ≡ b
is_borne keys name b e = list_any-map (bytes_eq name) string_bytes keys ∙ sym e

-- where no key passes a test, it has no place
pub unplaced : {K : Type 0} (p : K → Bool) (keys : List K) → list_any p keys ≡ false
    → position_or_len p keys ≡ length keys
unplaced p [] none = refl
unplaced p (k ∷ keys) none =
    let here : p k ≡ false = grind arith in
    let later : list_any p keys ≡ false = grind arith in
    ap (λ t. cond (not t) (1 + position_or_len p keys) 0) here
    ∙ omega (arith, unplaced p keys later)

pub no_place : {K : Type 0} (p : K → Bool) (keys : List K) → list_any p keys ≡ false
    → position p keys ≡ None
no_place p keys none =
    let n = position_or_len p keys in
    let above : nat_lt n (length keys) ≡ false = grind (arith, unplaced p keys none) in
    ap (λ t. cond t (Some n) None) above

-- ---- names by their places

-- the name at the place of a name is that name
pub name_at : (names : List (List ℕ)) (name : List ℕ) → place_of names name < length names
    → get_or names (place_of names name) [] ≡ name
name_at names name below =
    sym ((bytes_eq-Decides name (get_or names (place_of names name) [])).0
    (passes_at_first (bytes_eq name) names [] below))

-- and where names are distinct, the place of the name at i is i
pub place_at : (names : List (List ℕ)) (i : ℕ) → IsDistinct bytes_eq names → i < length names
    → place_of names (get_or names i []) ≡ i
place_at names i distinct within =
    let name = get_or names i [] in
    position_or_len_is (bytes_eq name) names i [] (omega arith)
    (λ k below. nat_list_eq_equiv.symm name (get_or names k [])
    ∙ apart_from_distinct bytes_eq names k i [] distinct below within)
    (λ _. nat_list_eq_equiv.refl name)

pub name_of-get_or : (net : Network) (d : DeviceId)
    → name_of net d ≡ get_or (names_of net.devices) d.0 []
name_of-get_or net d =
    ap (λ o. unwrap_or o []) (sym (slice_get-map (λ x. x.name) net.devices d.0))
    ∙ unwrap_or-slice_get (names_of net.devices) d.0 []

pub length-names : (net : Network) → length (names_of net.devices) ≡ length net.devices
length-names net = length-map net.devices (λ d. d.name)

-- the number of a device's name is the device
pub number_back : (net : Network) → IsDistinct bytes_eq (names_of net.devices) → (d : DeviceId)
    → IsDevice net d → number_in (names_of net.devices) (name_of net d) ≡ d
number_back net distinct d is =
    let names = names_of net.devices in
    let within : d.0 < length names = omega (arith, length-names net, is) in
    let at : place_of names (name_of net d) ≡ d.0 =
    ap (place_of names) (name_of-get_or net d) ∙ place_at names d.0 distinct within in
    λ j. record { 0 = at j }

-- and the name of the device that bears a name is the name
pub name_back : (net : Network) (name : List ℕ)
    → place_of (names_of net.devices) name < length net.devices
    → name_of net (number_in (names_of net.devices) name) ≡ name
name_back net name below =
    let names = names_of net.devices in
    name_of-get_or net (number_in names name)
    ∙ name_at names name (omega (arith, length-names net, below))

-- ---- what `find` owes

pub found : {A : Type 0} (net : Network) (keys : List (String A)) → AreNamesOf net.devices keys
    → (name : List ℕ) (i : ℕ) → Some i ≡ position (λ k. bytes_eq name (string_bytes k)) keys
    → (i < length net.devices) × (name_of net (record { 0 = i }) ≡ name)
found net keys named name i e =
    let at = place_some keys name i e in
    let names = names_of net.devices in
    let same : i ≡ place_of names name = at.0 ∙ ap (λ ns. place_of ns name) named in
    let many : length keys ≡ length names = sym (length-map keys string_bytes) ∙ ap length named in
    let total : length names ≡ length net.devices = length-map net.devices (λ d. d.name) in
    let within : place_of names name < length names = omega (arith, at.1) in (
      omega (arith, at.1),
      name_of-get_or net (record { 0 = i }) ∙ ap (λ n. get_or names n []) same
          ∙ name_at names name within,
    )

pub missing : {A : Type 0} (net : Network) (keys : List (String A)) → AreNamesOf net.devices keys
    → IsDistinct bytes_eq (names_of net.devices) → (name : List ℕ)
    → None ≡ position (λ k. bytes_eq name (string_bytes k)) keys → (d : DeviceId)
    → d.0 < length net.devices → name_of net d ≢ name
missing net keys named distinct name e d within same =
    let names = names_of net.devices in
    let none : place_of names name ≡ length keys =
    ap (λ ns. place_of ns name) (sym named) ∙ place_none keys name e in
    let many : length keys ≡ length names = sym (length-map keys string_bytes) ∙ ap length named in
    let total : length names ≡ length net.devices = length-map net.devices (λ d. d.name) in
    let within' : d.0 < length names = omega arith in
    let at : place_of names name ≡ d.0 =
    ap (place_of names) (sym same ∙ name_of-get_or net d) ∙ place_at names d.0 distinct within' in
    omega arith

-- ---- what `insert` says of the index, by the bytes of its keys

text_stands : {A : Type 0} (keys : List (String A)) (k : String A) (name : List ℕ)
    → string_bytes k ≡ name → list_any (bytes_eq name) (texts keys) ≡ list_any (string_eq k) keys
text_stands keys k name same =
    ap (λ n. list_any (bytes_eq n) (texts keys)) (sym same)
    ∙ list_any-map (bytes_eq (string_bytes k)) string_bytes keys

pub name_stood : {A : Type 0} (keys : List (String A)) (k : String A) (name : List ℕ) (b : Bool)
    → string_bytes k ≡ name → b ≡ not (list_any (string_eq k) keys) → b ≡ false
    → list_any (bytes_eq name) (texts keys) ≡ true
name_stood keys k name b same added old =
    let stands : list_any (string_eq k) keys ≡ true = grind arith in
    text_stands keys k name same ∙ stands

pub name_fresh : {A : Type 0} (keys : List (String A)) (k : String A) (name : List ℕ) (b : Bool)
    → string_bytes k ≡ name → b ≡ not (list_any (string_eq k) keys) → b ≡ true
    → list_any (bytes_eq name) (texts keys) ≡ false
name_fresh keys k name b same added fresh =
    let none : list_any (string_eq k) keys ≡ false = grind arith in
    text_stands keys k name same ∙ none

pub name_pushed : {A : Type 0} (keys new : List (String A)) (k : String A) (name : List ℕ)
    (b : Bool)
    → string_bytes k ≡ name → b ≡ not (list_any (string_eq k) keys)
    → new ≡ insert_key string_eq keys k → b ≡ true → texts new ≡ texts keys ++ name ∷ []
name_pushed keys new k name b same added put fresh =
    let none : list_any (string_eq k) keys ≡ false = grind arith in
    let last : new ≡ keys ++ k ∷ [] = put ∙ ap (λ t. if t then keys else (keys ++ k ∷ [])) none in
    ap (map string_bytes) last ∙ map-append string_bytes keys (k ∷ [])
    ∙ ap (λ n. texts keys ++ n ∷ []) same

-- ---- the index of distinct names, made again

module _ (devices : List Device) (distinct : IsDistinct bytes_eq (names_of devices)) where
  earlier_names : (i : ℕ) → names_of (take i devices) ≡ take i (names_of devices)
  earlier_names i = sym (take-map (λ (d : Device). d.name) i devices)

  unborne : (i : ℕ) (x : Device) → i < length devices
      → list_any (bytes_eq (get_or devices i x).name) (names_of (take i devices)) ≡ false
  unborne i x within =
      let name : Device → List ℕ = λ d. d.name in
      let names = names_of devices in
      let many : length names ≡ length devices = length-map devices name in
      let at : get_or names i [] ≡ (get_or devices i x).name =
      get_or-map name devices i x [] within in
      false_from_ne_true _ (λ t.
      not_distinct nat_list_eq_equiv names i [] (omega arith)
      ((λ j. list_any (bytes_eq (at j)) (sym (earlier_names i) j)) ∙ t) distinct)

  -- the name of one more device
  pub AreNamesOf-insert : {A : Type 0} (i : ℕ) (x : Device) (keys new : List (String A))
      (k : String A)
      → i < length devices → x ≡ get_or devices i x → string_bytes k ≡ x.name
      → new ≡ insert_key string_eq keys k → AreNamesOf (take i devices) keys
      → AreNamesOf (take (i + 1) devices) new
  AreNamesOf-insert i x keys new k within is same put named =
      let name : Device → List ℕ = λ d. d.name in
      let none : list_any (string_eq k) keys ≡ false =
      sym (text_stands keys k x.name same)
      ∙ (λ j. list_any (bytes_eq (name (is j))) (named j))
      ∙ unborne i x within in
      name_pushed keys new k x.name true same (sym (ap not none)) put refl
      ∙ (λ j. named j ++ name (is j) ∷ [])
      ∙ sym (map-append name (take i devices) (get_or devices i x ∷ []))
      ∙ ap (map name) (sym (take_more devices i x within))
