-- The lists of what sessions owe, after an event.
use Rattle.std.proofs.Common.{◌≡◌, ℕ, ◌+◌, ◌-◌, ◌<◌, ◌≤◌, Bool, true, false, not, List, [], ◌∷◌, ◌++◌, length, get_or, set, Option, refl, sym, ap, ◌∙◌, subst, inl, inr, arith}
use Rattle.std.specs.Prelude.{◌&&◌, ◌||◌}
use Rattle.std.specs.FinMap as fin
use Rattle.std.proofs.Math.Seq.{get_or-append_seam}
use Rattle.std.proofs.lemmas.Bool.{cases_lt}
use Rattle.std.proofs.lemmas.List.{get_or-set_other, get_or-set_same, get_or_append_left, get_or_default, length-append, length-set, set-get_or}
use Rattle.cn_base.specs.Cidr.{Cidr, same_prefix}
use Rattle.cn_base.specs.declared.route.Attributes.{Attributes}
use Rattle.cn_base.specs.declared.route.Choice.{Choice}
use Rattle.cn_rib.specs.PrefixMaps.{put_at}
use Rattle.cn_rib.specs.PrefixSet as prefixes
use Rattle.cn_rib.proofs.Keyed.{contains-remove}
use Rattle.cn_rib.proofs.PrefixMaps.{get-put_at-elsewhere, get-put_at-there}
use Rattle.cn_rib.proofs.Prefixes.{same_itself, same_tells}
use Rattle.cn_net.specs.Network.{Network}
use Rattle.cn_core.specs.declared.owed.Due.{Due}
use Rattle.cn_core.specs.declared.owed.Due.TheVariants.{Nothing, Withdrawal, Announcement}
use Rattle.cn_core.specs.declared.owed.Owed.{Owed}
use Rattle.cn_core.specs.Owed.{OwedMap, offered_attributes, unless_sent}
use Rattle.cn_core.specs.OwedLists.{AreAdded, AreDues, AreElsewhere, AreKept, AreListedBut, AreListedFrom, AreMade, AreSomeAdded, IsListed, IsListedBut, due_at, due_of, due_over, only_due, owed_over, with_due}
use Rattle.cn_core.proofs.OwedLists.{belongs, contains-with_due, list_of, list_of-listed, listed_where}
use Rattle.cn_core.proofs.Owes.{decided_owed_holds}
use Rattle.cn_core.specs.State.{LocRib, SessionState}

-- ---- one session

module _ (m : OwedMap) (p : Cidr) (x : Owed) where
  but-elsewhere : IsListedBut m p x → (b : Bool) (q : Cidr) → same_prefix q p ≡ false
      → prefixes.contains (list_of b x) q ≡ belongs b (due_of (fin.get m q))
  but-elsewhere is true q = is.withdrawals q
  but-elsewhere is false q = is.announcements q

  but-there : IsListedBut m p x → (b : Bool) → belongs b (due_of (fin.get m p)) ≡ true
      → prefixes.contains (list_of b x) p ≡ true
  but-there is true = is.withdrawn
  but-there is false = is.announced

  but_where : ((b : Bool) (q : Cidr) → same_prefix q p ≡ false
      → prefixes.contains (list_of b x) q ≡ belongs b (due_of (fin.get m q)))
      → ((b : Bool) → belongs b (due_of (fin.get m p)) ≡ true
      → prefixes.contains (list_of b x) p ≡ true)
      → IsListedBut m p x
  but_where elsewhere there = record {
    withdrawals = elsewhere true;
    announcements = elsewhere false;
    withdrawn = there true;
    announced = there false;
  }

  -- lists that are right are right but for p
  pub but-listed : IsListed m x → IsListedBut m p x
  but-listed is = but_where (λ b q other. list_of-listed m x is b q)
      (λ b e. list_of-listed m x is b p ∙ e)

-- after p was put in, the lists are right but for p, of what was owed and of what is
module _ (m : OwedMap) (p : Cidr) (x : Owed) (is : IsListed m x)
    (v : Option (Option Attributes)) where
  with_due-elsewhere : (b : Bool) (q : Cidr) → same_prefix q p ≡ false
      → prefixes.contains (list_of b (with_due x p (due_of v))) q
      ≡ belongs b (due_of (fin.get m q))
  with_due-elsewhere b q other =
      contains-with_due b x p (due_of v) q
      ∙ ap (λ t. (t && belongs b (due_of v)) || prefixes.contains (list_of b x) q) other
      ∙ list_of-listed m x is b q

  with_due-there : (b : Bool)
      → (belongs b (due_of v) || belongs b (due_of (fin.get m p))) ≡ true
      → prefixes.contains (list_of b (with_due x p (due_of v))) p ≡ true
  with_due-there b e =
      contains-with_due b x p (due_of v) p
      ∙ ap (λ t. (t && belongs b (due_of v)) || prefixes.contains (list_of b x) p) (same_itself p)
      ∙ ap (λ c. belongs b (due_of v) || c) (list_of-listed m x is b p) ∙ e

  pub but-before : IsListedBut m p (with_due x p (due_of v))
  but-before = but_where m p (with_due x p (due_of v)) with_due-elsewhere
      (λ b e. with_due-there b
      (ap (λ t. belongs b (due_of v) || t) e ∙ or_true (belongs b (due_of v))))
    where
      or_true : (a : Bool) → (a || true) ≡ true
      or_true true = refl
      or_true false = refl

  pub but-after : IsListedBut (put_at m p v) p (with_due x p (due_of v))
  but-after =
      but_where (put_at m p v) p (with_due x p (due_of v))
      (λ b q other. with_due-elsewhere b q other
      ∙ ap (λ o. belongs b (due_of o)) (sym (get-put_at-elsewhere m p v q other)))
      (λ b e. with_due-there b (ap (λ t. t || belongs b (due_of (fin.get m p)))
      (ap (λ o. belongs b (due_of o)) (sym (get-put_at-there m p v)) ∙ e)))

-- ---- p is taken out

or_false : (a : Bool) → (a || false) ≡ a
or_false true = refl
or_false false = refl

or_true-and : (a c : Bool) → ((a || true) && c) ≡ c
or_true-and true c = refl
or_true-and false c = refl

contains-removed : (s : prefixes.PrefixSet) (p q : Cidr)
    → prefixes.contains (prefixes.remove s p) q
    ≡ ((not (same_prefix q p) || false) && prefixes.contains s q)
contains-removed s p q =
    contains-remove s p q
    ∙ ap (λ t. t && prefixes.contains s q) (sym (or_false (not (same_prefix q p))))

-- after p was taken out of where it doesn't belong
contains-only_due : (b : Bool) (x : Owed) (p : Cidr) (d : Due) (q : Cidr)
    → prefixes.contains (list_of b (only_due x p d)) q
    ≡ ((not (same_prefix q p) || belongs b d) && prefixes.contains (list_of b x) q)
contains-only_due true x p Nothing q = contains-removed x.withdrawals p q
contains-only_due true x p Withdrawal q =
    sym (or_true-and (not (same_prefix q p)) (prefixes.contains x.withdrawals q))
contains-only_due true x p Announcement q = contains-removed x.withdrawals p q
contains-only_due false x p Nothing q = contains-removed x.announcements p q
contains-only_due false x p Withdrawal q = contains-removed x.announcements p q
contains-only_due false x p Announcement q =
    sym (or_true-and (not (same_prefix q p)) (prefixes.contains x.announcements q))

-- lists that are right but for p are right when p is taken out of where it doesn't belong
pub listed-only_due : (m : OwedMap) (p : Cidr) (x : Owed) → IsListedBut m p x
    → IsListed m (only_due x p (due_of (fin.get m p)))
listed-only_due m p x is =
    let d = due_of (fin.get m p) in
    listed_where m (only_due x p d) (λ b q. contains-only_due b x p d q
    ∙ elim (same_tells q p) [
      | inl same ↦
          subst (λ (z : Cidr). ((not (same_prefix z p) || belongs b d)
          && prefixes.contains (list_of b x) z) ≡ belongs b (due_of (fin.get m z))) (sym same.1)
          (ap (λ t. (not t || belongs b d) && prefixes.contains (list_of b x) p) (same_itself p)
          ∙ there (belongs b d) (prefixes.contains (list_of b x) p) (but-there m p x is b))
      | inr other ↦
          ap (λ t. (not t || belongs b d) && prefixes.contains (list_of b x) q) other.0
          ∙ but-elsewhere m p x is b q other.0
    ])
  where
    there : (v c : Bool) → (v ≡ true → c ≡ true) → (v && c) ≡ v
    there true c h = h refl
    there false c h = refl

-- ---- the sessions of one sender

module _ (net : Network) (best : LocRib) (held : Option Choice) (p : Cidr) (xs : List SessionState)
    (start end : ℕ) (dues : List Due) (owe : AreDues net held p xs start end dues)
    (old new : List Owed) where
  owed_over-put : (x : SessionState)
      → owed_over net (put_at best p held) x
      ≡ put_at (owed_over net best x) p
      (unless_sent (fin.get x.adj_rib_out p) (offered_attributes net x.from x.to p held))
  owed_over-put x = decided_owed_holds net x.from x.to x.adj_rib_out best p held

  -- what is owed for p when the choice is held
  due_over-put : (x : SessionState)
      → due_over net held p x ≡ due_of (fin.get (owed_over net (put_at best p held) x) p)
  due_over-put x =
      ap due_of (sym (ap (λ m. fin.get m p) (owed_over-put x)
      ∙ get-put_at-there (owed_over net best x) p
      (unless_sent (fin.get x.adj_rib_out p) (offered_attributes net x.from x.to p held))))

  -- after p was put in at each place, the lists are right but for p when the choice is held
  pub but-added : AreListedFrom net best xs start end old → AreAdded dues p start end old new
      → AreListedBut net (put_at best p held) p xs start end new
  but-added was added = record {
    each = λ k x y ge lt.
        let u : SessionState = get_or xs k x in
        subst (IsListedBut (owed_over net (put_at best p held) u) p)
        (sym (added.each k y ge lt ∙ ap (with_due (get_or old k y) p) (owe.each k x ge lt)))
        (subst (λ m. IsListedBut m p (with_due (get_or old k y) p (due_over net held p u)))
        (sym (owed_over-put u))
        (but-after (owed_over net best u) p (get_or old k y) (was.each k x y ge lt)
        (unless_sent (fin.get u.adj_rib_out p) (offered_attributes net u.from u.to p held))));
  }

  -- and after it was put in at some, while it isn't held
  pub but-some_added : AreListedFrom net best xs start end old
      → AreSomeAdded dues p start end old new
      → AreListedBut net best p xs start end new
  but-some_added was added = record {
    each = λ k x y ge lt.
        let u : SessionState = get_or xs k x in
        elim (added.each k y ge lt) [
          | inl same ↦
              subst (IsListedBut (owed_over net best u) p) (sym same)
              (but-listed (owed_over net best u) p (get_or old k y) (was.each k x y ge lt))
          | inr put ↦
              subst (IsListedBut (owed_over net best u) p)
              (sym (put ∙ ap (with_due (get_or old k y) p) (owe.each k x ge lt)))
              (but-before (owed_over net best u) p (get_or old k y) (was.each k x y ge lt)
              (unless_sent (fin.get u.adj_rib_out p) (offered_attributes net u.from u.to p held)))
        ];
  }

  -- lists that are right but for p when the choice is held are right when p is taken out of where
  -- it doesn't belong
  pub listed-kept : AreListedBut net (put_at best p held) p xs start end old
      → AreKept dues p start end old new
      → AreListedFrom net (put_at best p held) xs start end new
  listed-kept was kept = record {
    each = λ k x y ge lt.
        let u : SessionState = get_or xs k x in
        let m = owed_over net (put_at best p held) u in
        subst (IsListed m)
        (sym (kept.each k y ge lt
        ∙ ap (only_due (get_or old k y) p) (owe.each k x ge lt ∙ due_over-put u)))
        (listed-only_due m p (get_or old k y) (was.each k x y ge lt));
  }

-- ---- one place after another

set_there : (xs : List Owed) (i k : ℕ) (v y : Owed) → k ≡ i → i < length xs
    → get_or (set xs i v) k y ≡ v
set_there xs i k v y at lt =
    ap (λ j. get_or (set xs i v) j y) at ∙ get_or-set_same xs i v y lt

-- a change at a place between these changes nothing elsewhere
pub elsewhere_set : (start end at : ℕ) (old lists new : List Owed) (v : Owed) → start ≤ at
    → at < end → new ≡ set lists at v → AreElsewhere start end old lists
    → AreElsewhere start end old new
elsewhere_set start end at old lists new v ge lt is was =
    subst (AreElsewhere start end old) (sym is) (record {
      many = length-set lists at v ∙ was.many;
      same = λ k y out.
          get_or-set_other lists at k v y (λ h. elim out [
            | inl before ↦ omega (arith, before, ge, h)
            | inr past ↦ omega (arith, past, lt, h)
          ])
          ∙ was.same k y out;
    })

-- what is owed at the places before `at`
pub record AreDuesSoFar (net : Network) (held : Option Choice) (p : Cidr) (xs : List SessionState)
    (start at : ℕ) (dues : List Due) : Type 0 where
  pub many : length dues ≡ at - start
  pub each : (k : ℕ) (x : SessionState) → start ≤ k → k < at
      → due_at dues start k ≡ due_over net held p (get_or xs k x)

module _ (net : Network) (held : Option Choice) (p : Cidr) (xs : List SessionState)
    (start at : ℕ) (dues : List Due) where
  -- at no place yet
  pub dues_none : dues ≡ [] → at ≡ start → AreDuesSoFar net held p xs start at dues
  dues_none none first = record {
    many = ap length none ∙ omega (arith, first);
    each = λ k x ge lt. absurd (omega (arith, ge, lt, first));
  }

  -- at one place more
  pub dues_next : (new : List Due) (x : SessionState) (d : Due)
      → AreDuesSoFar net held p xs start at dues → start ≤ at → at < length xs
      → x ≡ get_or xs at x → d ≡ due_over net held p x → new ≡ dues ++ d ∷ []
      → AreDuesSoFar net held p xs start (at + 1) new
  dues_next new x d is ge within read due is_new =
      subst (AreDuesSoFar net held p xs start (at + 1)) (sym is_new) (record {
        many = simp length-append (omega (arith, is.many, ge));
        each = λ k z from below.
            let many = is.many in
            elim (cases_lt k at) [
              | inl before ↦
                  let inside : k - start < length dues = omega (arith, before, many, from) in
                  get_or_append_left dues (d ∷ []) Nothing (k - start) inside
                  ∙ is.each k z from before
              | inr past ↦
                  let here : k ≡ at = omega (arith, past, below) in
                  let last : k - start ≡ length dues = omega (arith, here, many) in
                  ap (λ j. get_or (dues ++ d ∷ []) j Nothing) last
                  ∙ get_or-append_seam dues d [] Nothing
                  ∙ due
                  ∙ ap (due_over net held p)
                  (read ∙ get_or_default xs at x z within ∙ ap (λ j. get_or xs j z) (sym here))
            ];
      })

  -- at all places
  pub dues_all : (end : ℕ) → AreDuesSoFar net held p xs start at dues → end ≤ at
      → AreDues net held p xs start end dues
  dues_all end is past =
      let many = is.many in
      record {
        many = omega (arith, many, past);
        each = λ k x ge lt. is.each k x ge (omega (arith, past, lt));
      }

-- what has been done at the places before `at`, and not yet from there on
pub record IsMadeSoFar (f : Owed → Due → Owed) (dues : List Due) (start at end : ℕ)
    (old lists : List Owed) : Type 0 where
  pub made : AreMade f dues start at old lists
  pub rest : (k : ℕ) (y : Owed) → at ≤ k → get_or lists k y ≡ get_or old k y
  pub elsewhere : AreElsewhere start end old lists

-- at no place yet
pub made_none : (f : Owed → Due → Owed) (dues : List Due) (start end : ℕ) (old : List Owed)
    → IsMadeSoFar f dues start start end old old
made_none f dues start end old = record {
  made = record { each = λ k y ge lt. absurd (omega (arith, ge, lt)) };
  rest = λ k y ge. refl;
  elsewhere = record { many = refl; same = λ k y out. refl };
}

module _ (f : Owed → Due → Owed) (dues : List Due) (start at end : ℕ) (old lists : List Owed)
    (is : IsMadeSoFar f dues start at end old lists) where
  -- at one place more
  pub made_next : (new : List Owed) (y v : Owed) (d : Due)
      → start ≤ at → at < end → at < length lists → at - start < length dues
      → y ≡ get_or lists at y → d ≡ get_or dues (at - start) d
      → v ≡ f y d → new ≡ set lists at v
      → IsMadeSoFar f dues start (at + 1) end old new
  made_next new y v d ge lt inside within read_y read_d put is_new = record {
    made = record {
      each = λ k w from below. elim (cases_lt k at) [
        | inl before ↦
            ap (λ l. get_or l k w) is_new
            ∙ get_or-set_other lists at k v w (λ h. omega (arith, before, h))
            ∙ is.made.each k w from before
        | inr past ↦
            let here : k ≡ at = omega (arith, past, below) in
            ap (λ l. get_or l k w) is_new ∙ set_there lists at k v w here inside
            ∙ put
            ∙ ap (λ o. f o d)
            (read_y ∙ get_or_default lists at y w inside ∙ is.rest at w (omega arith)
            ∙ ap (λ j. get_or old j w) (sym here))
            ∙ ap (f (get_or old k w))
            (read_d ∙ get_or_default dues (at - start) d Nothing within
            ∙ ap (due_at dues start) (sym here))
      ];
    };
    rest = λ k w from.
        ap (λ l. get_or l k w) is_new
        ∙ get_or-set_other lists at k v w (λ h. omega (arith, from, h))
        ∙ is.rest k w (omega (arith, from));
    elsewhere = elsewhere_set start end at old lists new v ge lt is_new is.elsewhere;
  }

  -- at all places
  pub made_all : end ≤ at → AreMade f dues start end old lists
  made_all past = record { each = λ k y ge lt. is.made.each k y ge (omega (arith, past, lt)) }

module _ (p : Cidr) (dues : List Due) (start at end : ℕ) (old lists : List Owed)
    (is : IsMadeSoFar (λ y d. with_due y p d) dues start at end old lists) where
  some_added : AreSomeAdded dues p start end old lists
  some_added = record {
    each = λ k y ge lt. elim (cases_lt k at) [
      | inl before ↦ inr (is.made.each k y ge before)
      | inr past ↦ inl (is.rest k y past)
    ];
  }

  -- when there was no memory at one place
  pub some_added_unset : (new : List Owed) (y v : Owed) → y ≡ get_or lists at y → v ≡ y
      → new ≡ set lists at v
      → AreSomeAdded dues p start end old new × AreElsewhere start end old new
  some_added_unset new y v read kept is_new =
      let same : new ≡ lists =
      is_new ∙ ap (set lists at) (kept ∙ read) ∙ set-get_or lists at y in (
        subst (AreSomeAdded dues p start end old) (sym same) some_added,
        subst (AreElsewhere start end old) (sym same) is.elsewhere,
      )

-- what was put in at each place was put in at some
pub some_added_all : (p : Cidr) (dues : List Due) (start end : ℕ) (old new : List Owed)
    → AreAdded dues p start end old new → AreSomeAdded dues p start end old new
some_added_all p dues start end old new is =
    record { each = λ k y ge lt. inr (is.each k y ge lt) }

-- what has been taken out at the places before `at`, and not yet from there on
pub record IsRightSoFar (net : Network) (best : LocRib) (p : Cidr) (xs : List SessionState)
    (start at end : ℕ) (old lists : List Owed) : Type 0 where
  pub listed : AreListedFrom net best xs start at lists
  pub rest : AreListedBut net best p xs at end lists
  pub elsewhere : AreElsewhere start end old lists

pub right_none : (net : Network) (best : LocRib) (p : Cidr) (xs : List SessionState) (start end : ℕ)
    (old : List Owed) → AreListedBut net best p xs start end old
    → IsRightSoFar net best p xs start start end old old
right_none net best p xs start end old is = record {
  listed = record { each = λ k x y ge lt. absurd (omega (arith, ge, lt)) };
  rest = is;
  elsewhere = record { many = refl; same = λ k y out. refl };
}

module _ (net : Network) (best : LocRib) (p : Cidr) (xs : List SessionState)
    (start at end : ℕ) (old lists : List Owed)
    (is : IsRightSoFar net best p xs start at end old lists) where
  pub right_next : (new : List Owed) (x : SessionState) (y v : Owed) (d : Due)
      → start ≤ at → at < end → at < length lists → at < length xs
      → x ≡ get_or xs at x → y ≡ get_or lists at y
      → d ≡ due_of (fin.get (owed_over net best x) p) → v ≡ only_due y p d
      → new ≡ set lists at v
      → IsRightSoFar net best p xs start (at + 1) end old new
  right_next new x y v d ge lt inside within read_x read_y due out is_new = record {
    listed = record {
      each = λ k z w from below. elim (cases_lt k at) [
        | inl before ↦
            subst (IsListed (owed_over net best (get_or xs k z)))
            (sym (ap (λ l. get_or l k w) is_new
            ∙ get_or-set_other lists at k v w (λ h. omega (arith, before, h))))
            (is.listed.each k z w from before)
        | inr past ↦
            let here : k ≡ at = omega (arith, past, below) in
            let session : x ≡ get_or xs k z =
            read_x ∙ get_or_default xs at x z within ∙ ap (λ j. get_or xs j z) (sym here) in
            subst (IsListed (owed_over net best (get_or xs k z)))
            (sym (ap (λ l. get_or l k w) is_new ∙ set_there lists at k v w here inside
            ∙ out ∙ ap (only_due y p) due))
            (subst (λ u. IsListed (owed_over net best u)
            (only_due y p (due_of (fin.get (owed_over net best x) p)))) session
            (listed-only_due (owed_over net best x) p y
            (subst (λ u. IsListedBut (owed_over net best u) p y) (sym read_x)
            (subst (IsListedBut (owed_over net best (get_or xs at x)) p) (sym read_y)
            (is.rest.each at x y (omega arith) lt)))))
      ];
    };
    rest = record {
      each = λ k z w from below.
          subst (IsListedBut (owed_over net best (get_or xs k z)) p)
          (sym (ap (λ l. get_or l k w) is_new
          ∙ get_or-set_other lists at k v w (λ h. omega (arith, from, h))))
          (is.rest.each k z w (omega (arith, from)) below);
    };
    elsewhere = elsewhere_set start end at old lists new v ge lt is_new is.elsewhere;
  }

  pub right_all : end ≤ at → AreListedFrom net best xs start end lists
  right_all past =
      record { each = λ k x y ge lt. is.listed.each k x y ge (omega (arith, past, lt)) }
