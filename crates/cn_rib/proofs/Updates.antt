-- What a session's routes are after an update, at each prefix. Other crates may cite these.
use Rattle.std.proofs.Common.{◌≡◌, Bool, true, false, cond, List, Option, Some, None, refl, sym, ap, ◌∙◌}
use Rattle.std.specs.Prelude.{◌||◌}
use Rattle.std.specs.List.{list_any}
use Rattle.std.specs.FinMap as fin
use Rattle.std.proofs.lemmas.List.Folds.{list_any-append}
use Rattle.cn_base.specs.Cidr.{Cidr, same_prefix}
use Rattle.cn_wire.specs.declared.update.Attrs.{Attrs}
use Rattle.cn_wire.specs.declared.update.Update.{Update}
use Rattle.cn_rib.specs.Updates.{AdjRib, AppliedLaw, announce_all, apply_update, prefixes_of, said_of, withdraw_all}
use Rattle.cn_rib.proofs.Keyed.{get_inserted_all, get_removed_all}

-- ---- the prefixes of an update

neither : (a b : Bool) → (a || b) ≡ false → (a ≡ false) × (b ≡ false)
neither true b e = cc
neither false b e = (refl, e)

-- a prefix of an update is withdrawn or announced
pub among_prefixes : (u : Update) (p : Cidr) → list_any (same_prefix p) (prefixes_of u)
    ≡ (list_any (same_prefix p) u.withdrawn || list_any (same_prefix p) u.announced)
among_prefixes u p = list_any-append (same_prefix p) u.withdrawn u.announced

-- a prefix that an update doesn't name is neither withdrawn nor announced
pub outside_prefixes : (u : Update) (p : Cidr) → list_any (same_prefix p) (prefixes_of u) ≡ false
    → (list_any (same_prefix p) u.withdrawn ≡ false)
    × (list_any (same_prefix p) u.announced ≡ false)
outside_prefixes u p e =
    neither (list_any (same_prefix p) u.withdrawn) (list_any (same_prefix p) u.announced)
    (sym (among_prefixes u p) ∙ e)

-- ---- what is withdrawn and announced

-- what the routes have after withdrawals
pub get_withdrawn : (routes : AdjRib) (ps : List Cidr) (p : Cidr)
    → fin.get (withdraw_all routes ps) p
    ≡ cond (list_any (same_prefix p) ps) None (fin.get routes p)
get_withdrawn routes ps p = get_removed_all routes ps p

-- what the routes have after announcements
pub get_announced : (routes : AdjRib) (a : Attrs) (ps : List Cidr) (p : Cidr)
    → fin.get (announce_all routes (Some a) ps) p
    ≡ cond (list_any (same_prefix p) ps) (Some (said_of a)) (fin.get routes p)
get_announced routes a ps p = get_inserted_all routes ps (said_of a) p

-- elsewhere announcements change nothing
pub announced_elsewhere : (routes : AdjRib) (o : Option Attrs) (ps : List Cidr) (p : Cidr)
    → list_any (same_prefix p) ps ≡ false
    → fin.get (announce_all routes o ps) p ≡ fin.get routes p
announced_elsewhere routes None ps p e = refl
announced_elsewhere routes (Some a) ps p e =
    get_announced routes a ps p ∙ ap (λ b. cond b (Some (said_of a)) (fin.get routes p)) e

-- ---- an update

-- an update without attributes withdraws alone
pub applied_withdrawal : (routes : AdjRib) (u : Update) → u.attrs ≡ None
    → apply_update routes u ≡ withdraw_all routes u.withdrawn
unfolding apply_update
applied_withdrawal routes u e =
    ap (λ o. announce_all (withdraw_all routes u.withdrawn) o u.announced) e

-- what the routes have after an update with attributes: what is announced stands before what is
-- withdrawn
pub get_applied : (routes : AdjRib) (u : Update) (a : Attrs) (p : Cidr) → u.attrs ≡ Some a
    → fin.get (apply_update routes u) p
    ≡ cond (list_any (same_prefix p) u.announced) (Some (said_of a))
    (cond (list_any (same_prefix p) u.withdrawn) None (fin.get routes p))
unfolding apply_update
get_applied routes u a p e =
    ap (λ o. fin.get (announce_all (withdraw_all routes u.withdrawn) o u.announced) p) e
    ∙ get_announced (withdraw_all routes u.withdrawn) a u.announced p
    ∙ ap (cond (list_any (same_prefix p) u.announced) (Some (said_of a)))
    (get_withdrawn routes u.withdrawn p)

-- an update changes the routes of its own prefixes alone
pub applied_elsewhere : AppliedLaw
unfolding apply_update
applied_elsewhere routes u p e =
    let outside = outside_prefixes u p e in
    announced_elsewhere (withdraw_all routes u.withdrawn) u.attrs u.announced p outside.1
    ∙ get_withdrawn routes u.withdrawn p
    ∙ ap (λ b. cond b None (fin.get routes p)) outside.0
