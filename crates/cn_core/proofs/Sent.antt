-- What is owed after the message is sent.
use Rattle.std.proofs.Common.{◌≡◌, ℕ, true, cond, List, Some, None, sym, ap, ◌∙◌, inl, inr, append-nil}
use Rattle.std.specs.Prelude.{is_some}
use Rattle.std.specs.List.{list_any}
use Rattle.std.specs.FinMap as fin
use Rattle.cn_base.specs.Cidr.{Cidr, same_prefix}
use Rattle.cn_base.specs.declared.ids.DeviceId.{DeviceId}
use Rattle.cn_rib.specs.Updates.{AdjRib, apply_update, prefixes_of, said_of}
use Rattle.cn_rib.proofs.Keyed.{get_inserted_all, get_removed_all}
use Rattle.cn_wire.specs.declared.update.Attrs.{Attrs}
use Rattle.cn_wire.specs.declared.update.Update.{Update}
use Rattle.cn_pack.specs.Packing.{announcing, packed, withdrawing}
use Rattle.cn_net.specs.Network.{Network}
use Rattle.cn_core.specs.Owed.{OwedMap, SentOwedLaw, owed, rows, without}
use Rattle.cn_core.specs.State.{LocRib}
use Rattle.cn_core.proofs.Owes.{covered_owed_holds, owed_some}
use Rattle.cn_core.proofs.Said.{Saying, packed_said}

-- ---- the prefixes of an update

among_withdrawn : (u : Update) (ps : List Cidr) (p : Cidr) → u ≡ withdrawing ps
    → list_any (same_prefix p) ps ≡ list_any (same_prefix p) (prefixes_of u)
among_withdrawn u ps p is =
    sym (ap (list_any (same_prefix p)) (ap prefixes_of is ∙ append-nil ps))

among_announced : (u : Update) (a : Attrs) (ps : List Cidr) (p : Cidr) → u ≡ announcing a ps
    → list_any (same_prefix p) ps ≡ list_any (same_prefix p) (prefixes_of u)
among_announced u a ps p is =
    sym (ap (λ (x : Update). list_any (same_prefix p) (prefixes_of x)) is)

-- ---- each was owed

was_owed : (m : OwedMap) (next_hop : ℕ) (u : Update) → Saying m next_hop u → (p : Cidr)
    → list_any (same_prefix p) (prefixes_of u) ≡ true → fin.contains_key m p ≡ true
was_owed m next_hop u (inl w) p e =
    ap is_some (w.tells p (among_withdrawn u w.prefixes p w.is ∙ e))
was_owed m next_hop u (inr w) p e =
    ap is_some (w.tells p (among_announced u w.attrs w.prefixes p w.is ∙ e))

-- each prefix of the message was owed
pub owed_before : (m : OwedMap) (next_hop : ℕ) (p : Cidr)
    → list_any (same_prefix p) (prefixes_of (packed (rows m) next_hop)) ≡ true
    → fin.contains_key m p ≡ true
owed_before m next_hop p e =
    was_owed m next_hop (packed (rows m) next_hop) (packed_said m next_hop) p e

-- ---- the routes after an update

get_withdrawn : (routes : AdjRib) (u : Update) (ps : List Cidr) (p : Cidr) → u ≡ withdrawing ps
    → fin.get (apply_update routes u) p
    ≡ cond (list_any (same_prefix p) ps) None (fin.get routes p)
unfolding apply_update
get_withdrawn routes u ps p is =
    ap (λ (x : Update). fin.get (apply_update routes x) p) is ∙ get_removed_all routes ps p

get_announced : (routes : AdjRib) (u : Update) (a : Attrs) (ps : List Cidr) (p : Cidr)
    → u ≡ announcing a ps
    → fin.get (apply_update routes u) p
    ≡ cond (list_any (same_prefix p) ps) (Some (said_of a)) (fin.get routes p)
unfolding apply_update
get_announced routes u a ps p is =
    ap (λ (x : Update). fin.get (apply_update routes x) p) is
    ∙ get_inserted_all routes ps (said_of a) p

-- ---- what is left

module _ (net : Network) (a b : DeviceId) (sent : AdjRib) (best : LocRib) (next_hop : ℕ)
    (u : Update) where
  owed_left : Saying (owed net a b sent best) next_hop u
      → owed net a b (apply_update sent u) best
      ≡ without (owed net a b sent best) (prefixes_of u)
  owed_left (inl w) =
      covered_owed_holds net a b sent (apply_update sent u) best (prefixes_of u)
      (λ p t.
      let among = among_withdrawn u w.prefixes p w.is ∙ t in
      get_withdrawn sent u w.prefixes p w.is
      ∙ ap (λ c. cond c None (fin.get sent p)) among
      ∙ sym ((owed_some net a b sent best p None).0 (w.tells p among)).0)
      (λ p t. get_withdrawn sent u w.prefixes p w.is
      ∙ ap (λ c. cond c None (fin.get sent p)) (among_withdrawn u w.prefixes p w.is ∙ t))
  owed_left (inr w) =
      covered_owed_holds net a b sent (apply_update sent u) best (prefixes_of u)
      (λ p t.
      let among = among_announced u w.attrs w.prefixes p w.is ∙ t in
      get_announced sent u w.attrs w.prefixes p w.is
      ∙ ap (λ c. cond c (Some (said_of w.attrs)) (fin.get sent p)) among
      ∙ sym ((owed_some net a b sent best p (Some (said_of w.attrs))).0 (w.tells p among)).0)
      (λ p t. get_announced sent u w.attrs w.prefixes p w.is
      ∙ ap (λ c. cond c (Some (said_of w.attrs)) (fin.get sent p))
      (among_announced u w.attrs w.prefixes p w.is ∙ t))

-- after a send the prefixes of the message are owed no more, and of the others is owed what was
pub owed_after : (net : Network) (a b : DeviceId) (sent : AdjRib) (best : LocRib) (next_hop : ℕ)
    → owed net a b (apply_update sent (packed (rows (owed net a b sent best)) next_hop)) best
    ≡ without (owed net a b sent best)
    (prefixes_of (packed (rows (owed net a b sent best)) next_hop))
owed_after net a b sent best next_hop =
    owed_left net a b sent best next_hop (packed (rows (owed net a b sent best)) next_hop)
    (packed_said (owed net a b sent best) next_hop)

pub sent_owed_holds : SentOwedLaw
sent_owed_holds = record { before = owed_before; after = owed_after }
