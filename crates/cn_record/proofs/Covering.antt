-- The devices at which rows and table are compared are all at which they may differ, and the least
-- of them is found one after another.
use Rattle.std.proofs.Common.{◌≡◌, ◌<◌, ◌++◌, true, false, List, [], ◌∷◌, length, map, is_some, Option, Some, None, sym, ◌∙◌, inl, inr, arith}
use Rattle.std.specs.Prelude.{All, Contains}
use Rattle.std.specs.List.{filter}
use Rattle.std.proofs.lemmas.Bool.{cases_Bool, false≢true, ltb-false, ltb-true}
use Rattle.std.proofs.lemmas.List.Elements.{All-push, All-weaker, Contains-append_left, Contains-push}
use Rattle.cn_base.specs.Cidr.{Cidr}
use Rattle.cn_base.specs.declared.ids.DeviceId.{DeviceId}
use Rattle.cn_base.specs.declared.route.Choice.{Choice}
use Rattle.cn_lists.proofs.Finding.{None-from_is_some}
use Rattle.cn_net.specs.Network.{Network, IsDevice}
use Rattle.cn_record.specs.Places.{AddsDevices, HasRowDevices, IsInside, is_at}
use Rattle.cn_record.specs.Rounds.{AreAll, IsConverged, reset}
use Rattle.cn_record.specs.Rows.{row_for}
use Rattle.cn_record.specs.Steps.{AgreesAt, CoversApart, IsLeastApart, TellsApart, is_below}
use Rattle.cn_record.specs.declared.places.PrefixDevice.{PrefixDevice}
use Rattle.cn_record.specs.declared.saved.Row.{Row}
use Rattle.cn_record.proofs.Inside.{All-reset}
use Rattle.cn_record.proofs.Originating.{Contains-of_prefix}
use Rattle.cn_record.proofs.Turns.{inside_more}

-- ---- all that may differ

-- those that hold something and those that have a row: the others have and hold nothing
module _ (net : Network) (label : DeviceId → Option DeviceId) (i : DeviceId) (rows : List Row)
    (p : Cidr) (table : List (Option Choice)) (list part : List PrefixDevice)
    (old new : List DeviceId) (cut : part ≡ filter (is_at p) list) (has : HasRowDevices rows list)
    (converged : IsConverged net label i p table old)
    (adds : AddsDevices (λ d. Contains (map (λ x. x.device) part) d × IsInside net label i d)
    (IsInside net label i) old new) where
  pub covers_apart : CoversApart net label i rows p table new
  covers_apart = record {
    inside = inside_more net label i _ old new adds converged.inside;
    others = λ d is. elim (converged.holders d is.0) [
      | inl none ↦ elim (cases_Bool (is_some (row_for rows d p))) [
        | inl t ↦ inl (adds.added d (Contains-of_prefix list part d p cut (has d p t), is))
        | inr f ↦ inr (None-from_is_some (row_for rows d p) f ∙ sym none)
      ]
      | inr c ↦ inl (adds.kept d c)
    ];
  }

  -- all of them have an entry
  pub all_within : All (λ d. d.0 < length table) new
  all_within k e lt =
      let is = (covers_apart.inside k e lt).0 in
      omega (arith, is, converged.fixpoint.size)

  -- when their entries are cleared the table is empty
  pub cleared_empty : AreAll None (reset None new table)
  cleared_empty =
      All-reset None new table (λ d lt.
      let is : IsDevice net d = omega (arith, converged.fixpoint.size) in
      elim (converged.holders d is) [
        | inl none ↦ inl none
        | inr c ↦ inr (adds.kept d c)
      ])

-- ---- one more device is compared

module _ (rows : List Row) (p : Cidr) (table : List (Option Choice)) (ds : List DeviceId)
    (y : DeviceId) where
  below_agree : (least : Option DeviceId) → TellsApart rows p table ds least
      → is_below y least ≡ true → All (λ x. x.0 < y.0 → AgreesAt rows p table x) ds
  below_agree None all below =
      All-weaker (AgreesAt rows p table) (λ x. x.0 < y.0 → AgreesAt rows p table x) (λ x h lt. h) ds
      all
  below_agree (Some z) first below =
      let low = ltb-true y.0 z.0 below in
      All-weaker (λ x. x.0 < z.0 → AgreesAt rows p table x)
      (λ x. x.0 < y.0 → AgreesAt rows p table x) (λ x h lt. h (omega arith)) ds first.before

  -- it stands below the least so far and doesn't agree
  pub least_now : (least : Option DeviceId) → TellsApart rows p table ds least
      → is_below y least ≡ true → (AgreesAt rows p table y → ⊥)
      → TellsApart rows p table (ds ++ y ∷ []) (Some y)
  least_now least so below apart = record {
    contained = Contains-push ds y;
    apart = apart;
    before =
        All-push (λ x. x.0 < y.0 → AgreesAt rows p table x) ds y (below_agree least so below)
        (λ lt. absurd (omega arith));
  }

  kept : (z : DeviceId) → IsLeastApart rows p table ds z
      → (y.0 < z.0 → AgreesAt rows p table y) → IsLeastApart rows p table (ds ++ y ∷ []) z
  kept z first agrees = record {
    contained = Contains-append_left ds (y ∷ []) z first.contained;
    apart = first.apart;
    before = All-push (λ x. x.0 < z.0 → AgreesAt rows p table x) ds y first.before agrees;
  }

  -- it agrees
  pub least_agrees : (least : Option DeviceId) → TellsApart rows p table ds least
      → AgreesAt rows p table y → TellsApart rows p table (ds ++ y ∷ []) least
  least_agrees None all agrees = All-push (AgreesAt rows p table) ds y all agrees
  least_agrees (Some z) first agrees = kept z first (λ lt. agrees)

  -- it doesn't stand below the least so far
  pub least_stays : (least : Option DeviceId) → TellsApart rows p table ds least
      → is_below y least ≡ false → TellsApart rows p table (ds ++ y ∷ []) least
  least_stays None all above = absurd (false≢true (sym above))
  least_stays (Some z) first above =
      let high = ltb-false y.0 z.0 above in
      kept z first (λ lt. absurd (omega arith))
