-- How the counts of what there is to do follow an event.
use Rattle.std.proofs.Common.{◌≡◌, ℕ, ◌<◌, ◌≤◌, ◌^◌, List, get_or, length, map, set, sym, ap, ◌∙◌, subst, inl, inr, arith}
use Rattle.std.specs.Prelude.{◌⊎◌}
use Rattle.std.specs.FinMap as fin
use Rattle.std.proofs.lemmas.Bool.{cases_lt}
use Rattle.std.proofs.lemmas.List.{ext_get_or, get_or-map, length-map, length-set, map-set}
use Rattle.cn_net.specs.Opening.{Opening}
use Rattle.cn_net.specs.declared.sessions.SessionEnds.{SessionEnds}
use Rattle.cn_rib.specs.PrefixSet as set
use Rattle.cn_core.specs.declared.owed.Owed.{Owed}
use Rattle.cn_core.specs.declared.session.Rib.{Rib}
use Rattle.cn_core.specs.OwedLists.{AreCounted, AreElsewhere, IsRight, count_of, empty_lists}
use Rattle.cn_core.specs.State.{CoreState, RibState, SessionState}
use Rattle.cn_core.proofs.ListsKept.{IsLaid, state_of}

abbrev pub mail_of : SessionState → ℕ
mail_of x = length x.mail

abbrev pub dirty_of : RibState → ℕ
dirty_of y = fin.len y.dirty

module _ (now : Opening) (ss : List SessionState) (rs : List RibState) (os : List Owed)
    (mail owed dirty : List ℕ) (is : AreCounted (state_of now ss rs) os mail owed dirty) where
  few_set : (i : ℕ) (x : SessionState) → length (set ss i x) < 2 ^ 32
  few_set i x = subst (λ n. n < 2 ^ 32) (sym (length-set ss i x)) is.few

  pub counted-receive : (i b : ℕ) (x : SessionState) (y : RibState)
      → AreCounted (state_of now (set ss i x) (set rs b y)) os (set mail i (mail_of x)) owed
      (set dirty b (dirty_of y))
  counted-receive i b x y = record {
    mail = ap (λ ns. set ns i (mail_of x)) is.mail ∙ sym (map-set mail_of ss i x);
    owed = is.owed;
    dirty = ap (λ ns. set ns b (dirty_of y)) is.dirty ∙ sym (map-set dirty_of rs b y);
    few = few_set i x;
  }

  pub counted-send : (i : ℕ) (x : SessionState) (o : Owed)
      → AreCounted (state_of now (set ss i x) rs) (set os i o) (set mail i (mail_of x))
      (set owed i (count_of o)) dirty
  counted-send i x o = record {
    mail = ap (λ ns. set ns i (mail_of x)) is.mail ∙ sym (map-set mail_of ss i x);
    owed = ap (λ ns. set ns i (count_of o)) is.owed ∙ sym (map-set count_of os i o);
    dirty = is.dirty;
    few = few_set i x;
  }

  pub counted-decide : (b : ℕ) (y : RibState) (new : List Owed) (counts : List ℕ)
      → counts ≡ map count_of new
      → AreCounted (state_of now ss (set rs b y)) new mail counts (set dirty b (dirty_of y))
  counted-decide b y new counts made = record {
    mail = is.mail;
    owed = made;
    dirty = ap (λ ns. set ns b (dirty_of y)) is.dirty ∙ sym (map-set dirty_of rs b y);
    few = is.few;
  }

-- the counts are those of the lists, where they were made anew at some places and elsewhere the
-- lists are as they were
pub recounted : (start end : ℕ) (os new : List Owed) (old counts : List ℕ) → old ≡ map count_of os
    → AreElsewhere start end os new → length counts ≡ length old
    → ((k : ℕ) (y : Owed) → start ≤ k → k < end → get_or counts k 0 ≡ count_of (get_or new k y))
    → ((k : ℕ) → (k < start) ⊎ (end ≤ k) → get_or counts k 0 ≡ get_or old k 0)
    → counts ≡ map count_of new
recounted start end os new old counts was elsewhere many these others =
    ext_get_or 0 counts (map count_of new)
    (many ∙ ap length was ∙ length-map os count_of ∙ sym elsewhere.many
    ∙ sym (length-map new count_of))
    (λ k lt.
    let inside : k < length new =
    omega (arith, lt, many, ap length was, length-map os count_of, elsewhere.many) in
    let inside' : k < length os = omega (arith, inside, elsewhere.many) in
    let other : (k < start) ⊎ (end ≤ k) → get_or counts k 0 ≡ count_of (get_or new k empty_lists) =
    λ out.
    others k out ∙ ap (λ ns. get_or ns k 0) was
    ∙ get_or-map count_of os k empty_lists 0 inside'
    ∙ ap count_of (sym (elsewhere.same k empty_lists out)) in
    elim (cases_lt k start) [
      | inl before ↦ other (inl before)
      | inr from ↦ elim (cases_lt k end) [
        | inl below ↦ these k empty_lists from below
        | inr behind ↦ other (inr behind)
      ]
    ]
    ∙ sym (get_or-map count_of new k empty_lists 0 inside))

-- they are those of the lists, where each was made
pub counted_all : (lists : List Owed) (counts : List ℕ) → length counts ≡ length lists
    → ((k : ℕ) (y : Owed) → k < length lists → get_or counts k 0 ≡ count_of (get_or lists k y))
    → counts ≡ map count_of lists
counted_all lists counts many each =
    ext_get_or 0 counts (map count_of lists) (many ∙ sym (length-map lists count_of))
    (λ k lt.
    let inside : k < length lists = omega (arith, lt, many) in
    each k empty_lists inside ∙ sym (get_or-map count_of lists k empty_lists 0 inside))

-- the dirty prefixes of the devices up to one are counted
pub record AreDirtyCounted (ribs : List Rib) (at : ℕ) (counts : List ℕ) : Type 0 where
  pub many : length counts ≡ length ribs
  pub these : (k : ℕ) (y : Rib) → k < at → get_or counts k 0 ≡ fin.len (get_or ribs k y).dirty

pub dirty_counted : (ribs : List Rib) (at : ℕ) (counts : List ℕ)
    → AreDirtyCounted ribs at counts → length ribs ≤ at
    → counts ≡ map (λ y. fin.len y.dirty) ribs
dirty_counted ribs at counts is all =
    ext_get_or 0 counts (map count ribs) (is.many ∙ sym (length-map ribs count))
    (λ k lt.
    let inside : k < length ribs = omega (arith, lt, is.many) in
    is.these k none (omega (arith, inside, all)) ∙ sym (get_or-map count ribs k none 0 inside))
  where
    count : Rib → ℕ
    count y = fin.len y.dirty

    none : Rib
    none = record { loc_rib = fin.empty; dirty = set.empty }

-- what is laid in order and counted is right
pub right_of : (s : CoreState) (index : List SessionEnds) (os : List Owed)
    (mail owed dirty : List ℕ)
    → IsLaid s index os → AreCounted s os mail owed dirty → IsRight s index os mail owed dirty
right_of s index os mail owed dirty laid counted = record {
  whole = laid.whole;
  indexed = laid.indexed;
  listed = laid.listed;
  counted = counted;
}

pub laid_of : (s : CoreState) (index : List SessionEnds) (os : List Owed) (mail owed dirty : List ℕ)
    → IsRight s index os mail owed dirty → IsLaid s index os
laid_of s index os mail owed dirty is =
    record { whole = is.whole; indexed = is.indexed; listed = is.listed }
