-- The two lists of what a session owes.
use Rattle.std.proofs.Common.{◌≡◌, ℕ, ◌+◌, ◌<◌, ◌≤◌, Bool, true, false, List, [], ◌∷◌, drop, get_or, length, map, Option, Some, None, refl, sym, ap, ◌∙◌, inl, inr, arith}
use Rattle.std.specs.Prelude.{◌==◌, ◌&&◌, ◌||◌, not, nat_lt}
use Rattle.std.specs.List.{list_any}
use Rattle.std.specs.FinMap as fin
use Rattle.std.proofs.lemmas.Bool.Decides.{nat_tests}
use Rattle.std.proofs.lemmas.List.{drop_all, drop_more}
use Rattle.cn_base.specs.Cidr.{Cidr, same_prefix}
use Rattle.cn_base.specs.Table.{prefix_cmp}
use Rattle.cn_base.specs.declared.ids.DeviceId.{DeviceId}
use Rattle.cn_base.specs.declared.route.Attributes.{Attributes}
use Rattle.cn_rib.specs.PrefixSet.{PrefixSet}
use Rattle.cn_rib.specs.PrefixSet as set
use Rattle.cn_rib.specs.Updates.{AdjRib}
use Rattle.cn_rib.proofs.Keyed.{contains-empty, contains-insert, found_first, get_empty, held_has_len, same_set}
use Rattle.cn_rib.proofs.Prefixes.{same_tells}
use Rattle.cn_net.specs.Network.{Network}
use Rattle.cn_core.specs.declared.owed.Due.{Due}
use Rattle.cn_core.specs.declared.owed.Due.TheVariants.{Nothing, Withdrawal, Announcement}
use Rattle.cn_core.specs.declared.owed.Owed.{Owed}
use Rattle.cn_core.specs.Owed.{OwedMap, owed}
use Rattle.cn_core.specs.OwedLists.{IsListed, due_of, empty_lists, is_announcement, is_withdrawal, with_all_due, with_due}
use Rattle.cn_core.specs.State.{LocRib}
use Rattle.cn_core.proofs.Owes.{get-owed-outside}

-- ---- both lists as one

-- the withdrawals where b is true, and else the announcements
abbrev pub list_of : Bool → Owed → PrefixSet
list_of true x = x.withdrawals
list_of false x = x.announcements

abbrev pub belongs : Bool → Due → Bool
belongs true d = is_withdrawal d
belongs false d = is_announcement d

-- what the record of the lists says of each
pub list_of-listed : (m : OwedMap) (x : Owed) → IsListed m x → (b : Bool) (q : Cidr)
    → set.contains (list_of b x) q ≡ belongs b (due_of (fin.get m q))
list_of-listed m x is true q = is.withdrawals q
list_of-listed m x is false q = is.announcements q

-- and the other way
pub listed_where : (m : OwedMap) (x : Owed)
    → ((b : Bool) (q : Cidr)
    → set.contains (list_of b x) q ≡ belongs b (due_of (fin.get m q)))
    → IsListed m x
listed_where m x each = record { withdrawals = each true; announcements = each false }

-- ---- a prefix is put in

and_true : (a : Bool) → (a && true) ≡ a
and_true true = refl
and_true false = refl

and_false : (a c : Bool) → ((a && false) || c) ≡ c
and_false true c = refl
and_false false c = refl

-- after a prefix is put in
pub contains-with_due : (b : Bool) (x : Owed) (p : Cidr) (d : Due) (q : Cidr)
    → set.contains (list_of b (with_due x p d)) q
    ≡ ((same_prefix q p && belongs b d) || set.contains (list_of b x) q)
contains-with_due true x p Nothing q =
    sym (and_false (same_prefix q p) (set.contains x.withdrawals q))
contains-with_due true x p Withdrawal q =
    contains-insert x.withdrawals p q
    ∙ ap (λ t. t || set.contains x.withdrawals q) (sym (and_true (same_prefix q p)))
contains-with_due true x p Announcement q =
    sym (and_false (same_prefix q p) (set.contains x.withdrawals q))
contains-with_due false x p Nothing q =
    sym (and_false (same_prefix q p) (set.contains x.announcements q))
contains-with_due false x p Withdrawal q =
    sym (and_false (same_prefix q p) (set.contains x.announcements q))
contains-with_due false x p Announcement q =
    contains-insert x.announcements p q
    ∙ ap (λ t. t || set.contains x.announcements q) (sym (and_true (same_prefix q p)))

either_way : (a v c : Bool) → ((a && v) || (v || c)) ≡ (v || c)
either_way true true c = refl
either_way true false c = refl
either_way false v c = refl

contains-with_all_due : (b : Bool) (m : OwedMap) (x : Owed) (ps : List Cidr) (q : Cidr)
    → set.contains (list_of b (with_all_due m x ps)) q
    ≡ ((list_any (same_prefix q) ps && belongs b (due_of (fin.get m q)))
    || set.contains (list_of b x) q)
unfolding with_all_due
contains-with_all_due b m x [] q = refl
contains-with_all_due b m x (p ∷ ps) q =
    contains-with_all_due b m (with_due x p (due_of (fin.get m p))) ps q
    ∙ ap (λ c. (list_any (same_prefix q) ps && belongs b (due_of (fin.get m q))) || c)
    (contains-with_due b x p (due_of (fin.get m p)) q)
    ∙ elim (same_tells q p) [
      | inl same ↦
          (λ i. (list_any (same_prefix q) ps && belongs b (due_of (fin.get m q)))
          || ((same.0 i && belongs b (due_of (fin.get m (sym same.1 i))))
          || set.contains (list_of b x) q))
          ∙ either_way (list_any (same_prefix q) ps) (belongs b (due_of (fin.get m q)))
          (set.contains (list_of b x) q)
          ∙ sym (ap (λ t. ((t || list_any (same_prefix q) ps)
          && belongs b (due_of (fin.get m q))) || set.contains (list_of b x) q) same.0)
      | inr other ↦
          ap (λ t. (list_any (same_prefix q) ps && belongs b (due_of (fin.get m q)))
          || ((t && belongs b (due_of (fin.get m p))) || set.contains (list_of b x) q)) other.0
          ∙ sym (ap (λ t. ((t || list_any (same_prefix q) ps)
          && belongs b (due_of (fin.get m q))) || set.contains (list_of b x) q) other.0)
    ]

-- one more of the prefixes that a loop puts in
pub with_all_due-next : {A : Type 0} (prefix : A → Cidr) (m : OwedMap) (x new : Owed)
    (rows : List A) (i : ℕ) (r : A) (d : Due)
    → i < length rows → r ≡ get_or rows i r → d ≡ due_of (fin.get m (prefix r))
    → new ≡ with_due x (prefix r) d
    → with_all_due m new (map prefix (drop (i + 1) rows))
    ≡ with_all_due m x (map prefix (drop i rows))
unfolding with_all_due
with_all_due-next prefix m x new rows i r d inside read due put =
    ap (λ y. with_all_due m y (map prefix (drop (i + 1) rows)))
    (put ∙ ap (with_due x (prefix r)) due)
    ∙ ap (λ z. with_all_due m x (map prefix (z ∷ drop (i + 1) rows))) read
    ∙ sym (ap (λ ys. with_all_due m x (map prefix ys)) (drop_more rows i r inside))

-- and none more
pub with_all_due-done : {A : Type 0} (prefix : A → Cidr) (m : OwedMap) (x : Owed)
    (rows : List A) (i : ℕ) → length rows ≤ i → x ≡ with_all_due m x (map prefix (drop i rows))
unfolding with_all_due
with_all_due-done prefix m x rows i past =
    sym (ap (λ ys. with_all_due m x (map prefix ys)) (drop_all i rows past))

-- ---- the lists of all that was sent or is held

covered : (s t v : Bool) → ((s || t) ≡ false → v ≡ false)
    → ((t && v) || ((s && v) || false)) ≡ v
covered true true true h = refl
covered true true false h = refl
covered true false true h = refl
covered true false false h = refl
covered false true true h = refl
covered false true false h = refl
covered false false v h = sym (h refl)

contains-empty_lists : (b : Bool) (q : Cidr) → set.contains (list_of b empty_lists) q ≡ false
contains-empty_lists true q = contains-empty q
contains-empty_lists false q = contains-empty q

-- lists into which each prefix that was sent or is held was put are those of what is owed
pub listed_all : (net : Network) (a b : DeviceId) (sent : AdjRib) (best : LocRib)
    → IsListed (owed net a b sent best)
    (with_all_due (owed net a b sent best)
    (with_all_due (owed net a b sent best) empty_lists (fin.keys sent)) (fin.keys best))
listed_all net a b sent best =
    let m = owed net a b sent best in
    listed_where m (with_all_due m (with_all_due m empty_lists (fin.keys sent)) (fin.keys best))
    (λ k q.
    let v = belongs k (due_of (fin.get m q)) in
    contains-with_all_due k m (with_all_due m empty_lists (fin.keys sent)) (fin.keys best) q
    ∙ ap (λ c. (list_any (same_prefix q) (fin.keys best) && v) || c)
    (contains-with_all_due k m empty_lists (fin.keys sent) q
    ∙ ap (λ c. (list_any (same_prefix q) (fin.keys sent) && v) || c) (contains-empty_lists k q))
    ∙ covered (list_any (same_prefix q) (fin.keys sent)) (list_any (same_prefix q) (fin.keys best))
    v
    (λ e. ap (λ o. belongs k (due_of o)) (get-owed-outside net a b sent best q e)
    ∙ belongs_nothing k))
  where
    belongs_nothing : (k : Bool) → belongs k Nothing ≡ false
    belongs_nothing true = refl
    belongs_nothing false = refl

-- ---- whether something is owed

-- the lists are empty exactly where nothing is owed
pub is_empty-listed : (m : OwedMap) (x : Owed) → IsListed m x
    → ((fin.len x.withdrawals == 0) && (fin.len x.announcements == 0))
    ≡ not (nat_lt 0 (fin.len m))
is_empty-listed m x is =
    elim (nat_lt 0 (fin.len m)) as (λ t. nat_lt 0 (fin.len m) ≡ t
    → ((fin.len x.withdrawals == 0) && (fin.len x.announcements == 0)) ≡ not t) [
      | true ↦ λ t. held (fin.entries m) refl (some (fin.len m) t)
      | false ↦ λ t.
          let none : m ≡ fin.empty = fin.empty_of_len m (zero_of (fin.len m) t) in
          let empty : (b : Bool) → list_of b x ≡ set.empty =
          λ b. same_set (list_of b x) set.empty (λ q. list_of-listed m x is b q
          ∙ ap (λ n. belongs b (due_of (fin.get n q))) none
          ∙ ap (λ o. belongs b (due_of o)) (get_empty q) ∙ nothing b
          ∙ sym (contains-empty q)) in
          (λ i. (fin.len (empty true i) == 0) && (fin.len (empty false i) == 0))
          ∙ ap (λ n. (n == 0) && (n == 0)) (fin.len-empty prefix_cmp (Unit {0}))
    ] refl
  where
    some : (n : ℕ) → nat_lt 0 n ≡ true → 0 < n
    some n h = grind (arith, nat_tests)

    zero_of : (n : ℕ) → nat_lt 0 n ≡ false → n ≡ 0
    zero_of n h = grind (arith, nat_tests)

    not_zero : (n : ℕ) → 0 < n → (n == 0) ≡ false
    not_zero n h = grind (arith, nat_tests)

    nothing : (b : Bool) → belongs b Nothing ≡ false
    nothing true = refl
    nothing false = refl

    and_false' : (a : Bool) → (a && false) ≡ false
    and_false' true = refl
    and_false' false = refl

    owed_there : (p : Cidr) (o : Option Attributes) → fin.get m p ≡ Some o
        → ((fin.len x.withdrawals == 0) && (fin.len x.announcements == 0)) ≡ false
    owed_there p None at =
        ap (λ b. b && (fin.len x.announcements == 0))
        (not_zero (fin.len x.withdrawals) (held_has_len x.withdrawals p
        (is.withdrawals p ∙ ap (λ v. is_withdrawal (due_of v)) at)))
    owed_there p (Some w) at =
        ap (λ b. (fin.len x.withdrawals == 0) && b)
        (not_zero (fin.len x.announcements) (held_has_len x.announcements p
        (is.announcements p ∙ ap (λ v. is_announcement (due_of v)) at)))
        ∙ and_false' (fin.len x.withdrawals == 0)

    held : (es : List (Cidr × Option Attributes)) → fin.entries m ≡ es → 0 < fin.len m
        → ((fin.len x.withdrawals == 0) && (fin.len x.announcements == 0)) ≡ false
    held [] e lt =
        let none : fin.len m ≡ 0 = fin.len-entries m ∙ ap length e in
        absurd (omega (arith, lt, none))
    held (y ∷ es) e lt =
        owed_there y.0 y.1
        (fin.get-entries m y.0 ∙ ap (fin.find prefix_cmp y.0) e ∙ found_first y es)
