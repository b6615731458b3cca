-- What is owed fits, and so does the message that says it, so it is read back.
use Rattle.std.proofs.Common.{◌≡◌, ◌≢◌, ℕ, zero, suc, ◌<◌, Bool, true, false, cond, List, [], ◌∷◌, ◌++◌, length, replicate, Option, Some, None, refl, sym, ap, ◌∙◌, subst, inl, inr, arith, true≢false, unwrap_or, option_map}
use Rattle.std.specs.Prelude.{◌||◌, ◌^◌, All, IfSome, option_and_then, slice_get}
use Rattle.std.specs.List.{AllByRecursion, find, list_any}
use Rattle.std.specs.FinMap as fin
use Rattle.std.proofs.lemmas.Bool.{leb-true}
use Rattle.std.proofs.lemmas.List.{length-map}
use Rattle.std.proofs.lemmas.List.Elements.{All-head, All-tail}
use Rattle.std.proofs.lemmas.Option.{cond_some}
use Rattle.cn_base.specs.Cidr.{Cidr, same_prefix}
use Rattle.cn_base.specs.declared.ids.Asn.{Asn}
use Rattle.cn_base.specs.declared.ids.DeviceId.{DeviceId}
use Rattle.cn_base.specs.declared.ids.Origin.{Origin}
use Rattle.cn_base.specs.declared.route.Attributes.{Attributes}
use Rattle.cn_base.specs.declared.route.Choice.{Choice}
use Rattle.cn_base.specs.declared.route.Route.{Route}
use Rattle.cn_rib.specs.Updates.{AdjRib, said_of}
use Rattle.cn_rib.proofs.Prefixes.{same_is, same_itself}
use Rattle.cn_net.specs.Exchange.{copies, is_up, offer, offered, offered_path}
use Rattle.cn_net.specs.Network.{Network, device_of, own_of, own_origin, router_of}
use Rattle.cn_net.specs.Stable.{offer_of, route_of}
use Rattle.cn_net.specs.declared.device.Body.{Body}
use Rattle.cn_net.specs.declared.device.Device.{Device}
use Rattle.cn_net.specs.declared.device.Own.{Own}
use Rattle.cn_wire.specs.Spelling.{FitFourOctets}
use Rattle.cn_wire.specs.Writing.{IsPrefix, IsUpdate, fits, spelling}
use Rattle.cn_wire.specs.declared.update.Update.{Update}
use Rattle.cn_wire.proofs.Again.{update_again}
use Rattle.cn_wire.proofs.Written.{spelling_spells}
use Rattle.cn_pack.specs.Packing.{packed}
use Rattle.cn_pack.proofs.Fullest.{computed, packed_fits}
use Rattle.cn_core.specs.Fits.{FitsChoices, FitsDevice, FitsNet, FitsPath, FitsRoutes}
use Rattle.cn_core.specs.Laws.{IsReadBack}
use Rattle.cn_core.specs.Owed.{OwedMap, advertised, attributes_of, offered_attributes, owed, row_of, rows}
use Rattle.cn_core.specs.State.{LocRib}
use Rattle.cn_core.proofs.Access.{and_parts}
use Rattle.cn_core.proofs.OwedRows.{owed_short}
use Rattle.cn_core.proofs.Owes.{nothing_offered, owed_some}
use Rattle.cn_core.proofs.Said.{Saying, packed_said}
use Rattle.cn_core.proofs.Searches.{found_one, found_passes}

-- ---- lists of prefixes

-- what holds of each of the list holds of a prefix that is among them
pub any_is : (P : Cidr → Type 0) (ps : List Cidr) (q : Cidr) → AllByRecursion P ps
    → list_any (same_prefix q) ps ≡ true → P q
any_is P [] q all e = absurd (true≢false (sym e))
any_is P (p ∷ ps) q all e =
    elim (same_prefix q p) as (λ b. same_prefix q p ≡ b → (b || list_any (same_prefix q) ps) ≡ true
    → P q) [
      | true ↦ λ b e. subst P (sym (same_is q p b)) all.0
      | false ↦ λ b e. any_is P ps q all.1 e
    ] refl e

or_true : (b : Bool) → (b || true) ≡ true
or_true true = refl
or_true false = refl

-- and the other way
pub all_of_any : (P : Cidr → Type 0) (ps : List Cidr)
    → ((p : Cidr) → list_any (same_prefix p) ps ≡ true → P p) → AllByRecursion P ps
all_of_any P [] each = tt
all_of_any P (p ∷ ps) each = (
  each p (ap (λ b. b || list_any (same_prefix p) ps) (same_itself p)),
  all_of_any P ps (λ q t. each q (ap (λ b. same_prefix q p || b) t ∙ or_true (same_prefix q p))),
)

-- ---- devices

-- what holds of each holds of the one at a place
pub of_slice : {A : Type 0} (P : A → Type 0) (xs : List A) (k : ℕ) (x : A) → All P xs
    → slice_get xs k ≡ Some x → P x
of_slice P [] k x all e = cc
of_slice P (y ∷ ys) zero x all e = let same : y ≡ x = cc in subst P same (All-head P y ys all)
of_slice P (y ∷ ys) (suc k) x all e = of_slice P ys k x (All-tail P y ys all) e

-- an Own that is found, by its prefix
own_fits_in : (own : List Own) (p : Cidr) (o : Origin) → All (λ x. IsPrefix x.prefix) own
    → option_map (λ (x : Own). x.origin) (find (λ (x : Own). same_prefix x.prefix p) own) ≡ Some o
    → IsPrefix p
own_fits_in own p o all e =
    elim (find (λ (x : Own). same_prefix x.prefix p) own) as
    (λ f. find (λ (x : Own). same_prefix x.prefix p) own ≡ f
    → option_map (λ (x : Own). x.origin) f ≡ Some o → IsPrefix p) [
      | None ↦ λ f e. cc
      | Some x ↦ λ f e. subst IsPrefix (same_is x.prefix p
          (found_passes (λ (x : Own). same_prefix x.prefix p) own x f))
          (found_one (λ (x : Own). IsPrefix x.prefix) (λ (x : Own). same_prefix x.prefix p) own x
          all f)
    ] refl e

-- what a device originates is a prefix
pub own_fits : (net : Network) (d : DeviceId) (p : Cidr) (o : Origin) → FitsNet net
    → own_origin net d p ≡ Some o → IsPrefix p
own_fits net d p o fit e =
    elim (device_of net d) as (λ x. device_of net d ≡ x
    → option_and_then (λ (y : Device). own_of y.body p) x ≡ Some o → IsPrefix p) [
      | None ↦ λ x e. cc
      | Some y ↦
          λ x e. own_fits_in y.body.own p o (of_slice FitsDevice net.devices d.0 y fit x).own e
    ] refl e

-- a BGP Identifier has four octets
pub router_fits : (net : Network) (d : DeviceId) → FitsNet net → (router_of net d).0 < 2 ^ 32
router_fits net d fit =
    elim (device_of net d) as (λ x. device_of net d ≡ x
    → (unwrap_or (option_map (λ (y : Device). y.id) x) (record { 0 = 0 })).0 < 2 ^ 32) [
      | None ↦ λ x. omega arith
      | Some y ↦ λ x. (of_slice FitsDevice net.devices d.0 y fit x).id
    ] refl

-- ---- offers

numbers_replicated : (n : ℕ) (a : Asn) (path : List Asn) → a.0 < 2 ^ 32 → FitFourOctets path
    → FitFourOctets (replicate n a ++ path)
numbers_replicated zero a path lt all = all
numbers_replicated (suc n) a path lt all = (lt, numbers_replicated n a path lt all)

body_offers : (body : Body) (b : DeviceId) (r x : Route) → body.asn.0 < 2 ^ 32
    → FitFourOctets r.path → offered body b r ≡ Some x → FitsPath x.path
unfolding offered offered_path
body_offers body b r x lt all e =
    let parts = cond_some _ _ x e in
    subst (λ (y : Route). FitsPath y.path) parts.1
    (record {
      numbers = numbers_replicated (copies body b r) body.asn r.path lt all;
      short = leb-true _ _ (and_parts _ _ parts.0).1;
    })

offer_fits : (net : Network) (a b : DeviceId) (r x : Route) → FitsNet net → FitFourOctets r.path
    → offer net a b r ≡ Some x → FitsPath x.path
unfolding offer
offer_fits net a b r x fit all e =
    elim (is_up net a b) as (λ u. cond u
    (option_and_then (λ (d : Device). offered d.body b r) (device_of net a)) None ≡ Some x
    → FitsPath x.path) [
      | false ↦ λ e. cc
      | true ↦ λ e. elim (device_of net a) as (λ o. device_of net a ≡ o
          → option_and_then (λ (d : Device). offered d.body b r) o ≡ Some x → FitsPath x.path) [
            | None ↦ λ o e. cc
            | Some d ↦
                λ o e. body_offers d.body b r x (of_slice FitsDevice net.devices a.0 d fit o).asn
                all e
          ] refl e
    ] e

mapped : (o : Option Route) (w : Attributes) → option_map attributes_of o ≡ Some w
    → (r : Route) × (o ≡ Some r) × (r.path ≡ w.path)
mapped None w e = cc
mapped (Some r) w e =
    let same : attributes_of r ≡ w = cc in
    (r, refl, ap (λ (x : Attributes). x.path) same)

held_offers : (net : Network) (a b : DeviceId) (p : Cidr) (c : Choice) (w : Attributes)
    → FitsNet net → FitFourOctets c.path → offered_attributes net a b p (Some c) ≡ Some w
    → FitsPath w.path
unfolding offered_attributes offer_of
held_offers net a b p c w fit all e =
    let o = mapped (offer net a b (route_of p c)) w e in
    subst FitsPath o.2 (offer_fits net a b (route_of p c) o.0 fit all o.1)

-- ---- what is owed

-- a prefix with, where it isn't a withdrawal, what is announced of it
abbrev pub FitsOwed : Cidr → Option Attributes → Type 0
FitsOwed p v = IsPrefix p × IfSome v (λ w. FitsPath w.path)

module _ (net : Network) (a b : DeviceId) (sent : AdjRib) (best : LocRib)
    (fit : FitsNet net) (was : FitsRoutes sent) (held : FitsChoices best) where
  offered_fits : (p : Cidr) (w : Attributes) → advertised net a b best p ≡ Some w
      → IsPrefix p × FitsPath w.path
  offered_fits p w e = elim (fin.get best p) as (λ o. fin.get best p ≡ o
      → offered_attributes net a b p o ≡ Some w → IsPrefix p × FitsPath w.path) [
        | None ↦ λ o e. let none = nothing_offered net a b p in cc
        | Some c ↦ λ o e. let h = held p c o in (h.0, held_offers net a b p c w fit h.1.numbers e)
      ] refl e

  sent_before : (p : Cidr) → fin.get sent p ≢ None → IsPrefix p
  sent_before p some = elim (fin.get sent p) as (λ o. fin.get sent p ≡ o → IsPrefix p) [
    | None ↦ λ o. absurd (some o)
    | Some w ↦ λ o. (was p w o).0
  ] refl

  -- what is owed fits: what is announced of a prefix is offered, and what is withdrawn was sent
  pub owed_fits : (p : Cidr) (v : Option Attributes) → fin.get (owed net a b sent best) p ≡ Some v
      → FitsOwed p v
  owed_fits p None e = (sent_before p ((owed_some net a b sent best p None).0 e).1, tt)
  owed_fits p (Some w) e = offered_fits p w ((owed_some net a b sent best p (Some w)).0 e).0

-- ---- the packed message

some_rows : (m : OwedMap) → 0 < fin.len m → 0 < length (rows m)
unfolding rows
some_rows m lt =
    let many = length-map (fin.entries m) row_of in
    let same = fin.len-entries m in
    omega (arith, lt, many, same)

-- the message of what a owes b, where that is something, fits into a message
pub message_fits : (net : Network) (a b : DeviceId) (sent : AdjRib) (best : LocRib) (next_hop : ℕ)
    → 0 < fin.len (owed net a b sent best)
    → fits (packed (rows (owed net a b sent best)) next_hop) ≡ true
message_fits net a b sent best next_hop lt =
    let m = owed net a b sent best in
    packed_fits (rows m) next_hop (packed (rows m) next_hop)
    (computed (rows m) next_hop (some_rows m lt) (owed_short net a b sent best))

module _ (m : OwedMap) (next_hop : ℕ) (small : next_hop < 2 ^ 32)
    (each : (p : Cidr) (v : Option Attributes) → fin.get m p ≡ Some v → FitsOwed p v) where
  saying_whole : (u : Update) → Saying m next_hop u → IsUpdate u
  saying_whole u (inl w) = subst IsUpdate (sym w.is) (record {
    withdrawn = all_of_any IsPrefix w.prefixes (λ p t. (each p None (w.tells p t)).0);
    attrs = tt;
    announced = tt;
  })
  saying_whole u (inr w) =
      let path = (each w.source (Some (said_of w.attrs)) w.wanted).1 in
      subst IsUpdate (sym w.is) (record {
        withdrawn = tt;
        attrs = (path.numbers, path.short, subst (λ n. n < 2 ^ 32) (sym w.hop) small);
        announced =
            all_of_any IsPrefix w.prefixes
            (λ p t. (each p (Some (said_of w.attrs)) (w.tells p t)).0);
      })

  -- the message says what is an update
  pub message_whole : IsUpdate (packed (rows m) next_hop)
  message_whole = saying_whole (packed (rows m) next_hop) (packed_said m next_hop)

-- ---- octets that are read back

-- an update that fits is read back from its spelling
pub read_back : (u : Update) → IsUpdate u → fits u ≡ true → IsReadBack u
read_back u whole held = update_again (spelling u) u (spelling_spells u whole held)
