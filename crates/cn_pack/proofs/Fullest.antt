-- What is packed is the message of the rule.
use Rattle.std.proofs.Common.{◌≡◌, ℕ, take, ◌+◌, ◌-◌, ◌<◌, ◌≤◌, Bool, true, false, cond, leb, List, [], ◌∷◌, length, map, filter, Option, Some, None, Result, Ok, Err, get_or, refl, sym, ap, subst, ◌∙◌, inl, inr, arith, length-append}
use Rattle.std.specs.Prelude.{nat_le, ◌&&◌, ◌||◌, is_none, IfSome, IfOk}
use Rattle.std.specs.List.{list_any}
use Rattle.std.proofs.lemmas.Bool.{le-leb, lt-leb, cases_lt}
use Rattle.std.specs.declared.alloc.AllocError.{AllocError}
use Rattle.cn_base.specs.Cidr.{Cidr}
use Rattle.cn_base.specs.declared.ids.Asn.{Asn}
use Rattle.cn_base.specs.declared.ids.Origin.{Origin}
use Rattle.cn_wire.specs.declared.update.Attrs.{Attrs}
use Rattle.cn_wire.specs.declared.update.Update.{Update}
use Rattle.cn_wire.specs.Sizes.{longest_prefix_within}
use Rattle.cn_wire.specs.Spelling.{attribute_of_path}
use Rattle.cn_wire.specs.Writing.{spelled_prefixes, spelled_attribute, spelled_attrs, spelling, fits}
use Rattle.cn_wire.proofs.Again.{message_size}
use Rattle.cn_wire.proofs.Written.{path_size_none, path_size_short, path_size_long}
use Rattle.cn_pack.specs.declared.owed.Owed.{Owed}
use Rattle.cn_pack.specs.Packing.{withdrawals, wants, likewise, withdrawing, announcing, IsFullest, IsAnnounced, IsPackedBy, IsPacked, AreShort, announced_by, packed_by, packed}
use Rattle.cn_pack.proofs.Same.{wants_is_equal}
use Rattle.cn_pack.proofs.Room.{longest_prefix_within-IsLongest, first_fits}

same_leb : (a b c d : ℕ) → (a ≤ b → c ≤ d) → (b < a → d < c) → leb a b ≡ leb c d
same_leb a b c d f g =
    elim (cases_lt b a) [
      | inl h ↦ lt-leb a b h ∙ sym (lt-leb c d (g h))
      | inr h ↦ le-leb a b h ∙ sym (le-leb c d (f h))
    ]

and_true : (b : Bool) → (b && true) ≡ b
and_true true = refl
and_true false = refl

-- ---- when an update fits

withdrawing_fits : (ps : List Cidr)
    → fits (withdrawing ps) ≡ leb (length (spelled_prefixes ps)) 4073
withdrawing_fits ps =
    let m = message_size (spelled_prefixes ps) [] [] in
    and_true (nat_le (length (spelling (withdrawing ps))) 4096)
    ∙ same_leb (length (spelling (withdrawing ps))) 4096 (length (spelled_prefixes ps)) 4073
    (λ h. omega arith) (λ h. omega arith)

announcing_fits : (a : Attrs) (ps : List Cidr) → length (spelled_attrs (Some a)) ≤ 1037
    → fits (announcing a ps)
    ≡ leb (length (spelled_prefixes ps)) (4073 - length (spelled_attrs (Some a)))
announcing_fits a ps small =
    let m = message_size [] (spelled_attrs (Some a)) (spelled_prefixes ps) in
    and_true (nat_le (length (spelling (announcing a ps))) 4096)
    ∙ same_leb (length (spelling (announcing a ps))) 4096 (length (spelled_prefixes ps))
    (4073 - length (spelled_attrs (Some a))) (λ h. omega arith) (λ h. omega arith)

fullest_from : (saying : List Cidr → Update) (room : ℕ) (ps : List Cidr)
    → ((qs : List Cidr) → fits (saying qs) ≡ leb (length (spelled_prefixes qs)) room)
    → IsFullest saying ps (saying (longest_prefix_within room ps))
fullest_from saying room ps tests =
    let h = longest_prefix_within-IsLongest room ps in
    record {
      count = h.count;
      within = h.within;
      says = ap saying h.front;
      held =
          ap (λ (qs : List Cidr). fits (saying qs)) h.front ∙ tests (take h.count ps)
          ∙ le-leb (length (spelled_prefixes (take h.count ps))) room h.held;
      more =
          λ j lt few.
          tests (take j ps) ∙ lt-leb (length (spelled_prefixes (take j ps))) room (h.more j lt few);
    }

fullest_fits : (saying : List Cidr → Update) (ps : List Cidr) (u : Update)
    → IsFullest saying ps u → fits u ≡ true
fullest_fits saying ps u h = h.held

-- ---- where nothing is to be withdrawn, the first is to be announced

not_kept : (b : Bool) (o : Owed) (os : List Owed)
    → map (λ (x : Owed). x.prefix) (cond b (o ∷ os) os) ≡ [] → b ≡ false
not_kept true o os e = absurd cc
not_kept false o os e = refl

is_there : (w : Option (List Asn × Origin)) → is_none w ≡ false
    → (x : List Asn × Origin) × (w ≡ Some x)
is_there None e = absurd cc
is_there (Some x) e = (x, refl)

first_wanted : (o : Owed) (os : List Owed) → withdrawals (o ∷ os) ≡ []
    → (x : List Asn × Origin) × (o.wanted ≡ Some x)
first_wanted o os e =
    is_there o.wanted (not_kept (is_none o.wanted) o (filter (λ (x : Owed). is_none x.wanted) os) e)

-- the attributes of the first take few octets
abbrev pub IsSmall : Option (List Asn × Origin) → ℕ → Type 0
IsSmall wanted next_hop =
    IfSome wanted (λ w.
    length (spelled_attrs (Some (record { origin = w.1; path = w.0; next_hop = next_hop }))) ≤ 1037)

-- the attributes of the first of those owed take few octets
abbrev pub FirstIsSmall : List Owed → ℕ → Type 0
FirstIsSmall [] next_hop = Unit {0}
FirstIsSmall (o ∷ os) next_hop = IsSmall o.wanted next_hop

abbrev attrs_for : List Asn × Origin → ℕ → Attrs
attrs_for w next_hop = record { origin = w.1; path = w.0; next_hop = next_hop }

announced_is : (wanted : Option (List Asn × Origin)) (x : List Asn × Origin) (owed : List Owed)
    (next_hop : ℕ)
    → wanted ≡ Some x → IsSmall wanted next_hop
    → IsAnnounced wanted owed next_hop (announced_by wanted owed next_hop)
announced_is None x owed next_hop e small = absurd cc
announced_is (Some w) x owed next_hop e small =
    fullest_from (announcing (attrs_for w next_hop))
    (4073 - length (spelled_attrs (Some (attrs_for w next_hop)))) (likewise w.0 w.1 owed)
    (λ qs. announcing_fits (attrs_for w next_hop) qs small)

packed_by_is : (ps : List Cidr) (owed : List Owed) (next_hop : ℕ) → withdrawals owed ≡ ps
    → 0 < length owed → FirstIsSmall owed next_hop
    → IsPackedBy ps owed next_hop (packed_by ps owed next_hop)
packed_by_is (p ∷ ps) owed next_hop e lt small =
    fullest_from withdrawing 4073 (p ∷ ps) withdrawing_fits
packed_by_is [] [] next_hop e lt small = absurd (omega arith)
packed_by_is [] (o ∷ os) next_hop e lt small =
    let x = first_wanted o os e in announced_is o.wanted x.0 (o ∷ os) next_hop x.1 small

packed_is : (owed : List Owed) (next_hop : ℕ) → 0 < length owed → FirstIsSmall owed next_hop
    → IsPacked owed next_hop (packed owed next_hop)
packed_is owed next_hop lt small = packed_by_is (withdrawals owed) owed next_hop refl lt small

-- ---- what is packed fits

announced_fits : (wanted : Option (List Asn × Origin)) (owed : List Owed) (next_hop : ℕ)
    (u : Update)
    → IsAnnounced wanted owed next_hop u → fits u ≡ true
announced_fits None owed next_hop u h = absurd h
announced_fits (Some w) owed next_hop u h = h.held

packed_by_fits : (ps : List Cidr) (owed : List Owed) (next_hop : ℕ) (u : Update)
    → IsPackedBy ps owed next_hop u → fits u ≡ true
packed_by_fits (p ∷ ps) owed next_hop u h = h.held
packed_by_fits [] [] next_hop u h = absurd h
packed_by_fits [] (o ∷ os) next_hop u h = announced_fits o.wanted (o ∷ os) next_hop u h

-- what is packed fits into a message
pub packed_fits : (owed : List Owed) (next_hop : ℕ) (u : Update) → IsPacked owed next_hop u
    → fits u ≡ true
packed_fits owed next_hop u h = packed_by_fits (withdrawals owed) owed next_hop u h

-- ---- what is packed is never empty

first_likewise_by : (path : List Asn) (origin : Origin) (o : Owed) (os : List Owed) (b : Bool)
    → b ≡ true → 0 < length (map (λ (x : Owed). x.prefix) (cond b (o ∷ os) os))
first_likewise_by path origin o os true e = omega arith
first_likewise_by path origin o os false e = absurd cc

first_likewise : (w : List Asn × Origin) (o : Owed) (os : List Owed) → o.wanted ≡ Some w
    → 0 < length (likewise w.0 w.1 (o ∷ os))
first_likewise w o os e =
    first_likewise_by w.0 w.1 o (filter (wants w.0 w.1) os) (wants w.0 w.1 o)
    ((wants_is_equal w.0 w.1 o).1 e)

-- how many prefixes an update names
abbrev pub said : Update → ℕ
said u = length u.withdrawn + length u.announced

add_none : (n : ℕ) → 0 < n → 0 < 0 + n
add_none n lt = omega arith

announced_says : (wanted : Option (List Asn × Origin)) (x : List Asn × Origin) (o : Owed)
    (os : List Owed) (next_hop : ℕ)
    → o.wanted ≡ wanted → wanted ≡ Some x → IsSmall wanted next_hop
    → 0 < said (announced_by wanted (o ∷ os) next_hop)
announced_says None x o os next_hop is e small = absurd cc
announced_says (Some w) x o os next_hop is e small =
    let some = first_likewise w o os is in
    let f : 0
    < length (longest_prefix_within (4073 - length (spelled_attrs (Some (attrs_for w next_hop))))
    (likewise w.0 w.1 (o ∷ os))) =
    first_fits (4073 - length (spelled_attrs (Some (attrs_for w next_hop))))
    (likewise w.0 w.1 (o ∷ os)) (omega arith) some in
    add_none (length
    (longest_prefix_within (4073 - length (spelled_attrs (Some (attrs_for w next_hop))))
    (likewise w.0 w.1 (o ∷ os)))) f

packed_by_says : (ps : List Cidr) (owed : List Owed) (next_hop : ℕ) → withdrawals owed ≡ ps
    → 0 < length owed → FirstIsSmall owed next_hop → 0 < said (packed_by ps owed next_hop)
packed_by_says (p ∷ ps) owed next_hop e lt small =
    let f = first_fits 4073 (p ∷ ps) (omega arith) (omega arith) in omega arith
packed_by_says [] [] next_hop e lt small = absurd (omega arith)
packed_by_says [] (o ∷ os) next_hop e lt small =
    let x = first_wanted o os e in announced_says o.wanted x.0 o os next_hop refl x.1 small

packed_says : (owed : List Owed) (next_hop : ℕ) → 0 < length owed → FirstIsSmall owed next_hop
    → 0 < said (packed owed next_hop)
packed_says owed next_hop lt small = packed_by_says (withdrawals owed) owed next_hop refl lt small

-- ---- there is one message of the rule

one_fullest : (saying : List Cidr → Update) (ps : List Cidr) (u v : Update) → IsFullest saying ps u
    → IsFullest saying ps v → u ≡ v
one_fullest saying ps u v a b =
    let fu : fits (saying (take a.count ps)) ≡ true = ap fits (sym a.says) ∙ a.held in
    let fv : fits (saying (take b.count ps)) ≡ true = ap fits (sym b.says) ∙ b.held in
    elim (cases_lt a.count b.count) [
      | inl lt ↦ absurd (let no' : false ≡ true = sym (a.more b.count lt b.within) ∙ fv in cc)
      | inr le ↦ elim (cases_lt b.count a.count) [
        | inl lt ↦ absurd (let no' : false ≡ true = sym (b.more a.count lt a.within) ∙ fu in cc)
        | inr ge ↦ a.says ∙ ap (λ (n : ℕ). saying (take n ps)) (omega arith) ∙ sym b.says
      ]
    ]

one_announced : (wanted : Option (List Asn × Origin)) (owed : List Owed) (next_hop : ℕ)
    (u v : Update)
    → IsAnnounced wanted owed next_hop u → IsAnnounced wanted owed next_hop v → u ≡ v
one_announced None owed next_hop u v a b = absurd a
one_announced (Some w) owed next_hop u v a b =
    one_fullest (announcing (attrs_for w next_hop)) (likewise w.0 w.1 owed) u v a b

one_packed_by : (ps : List Cidr) (owed : List Owed) (next_hop : ℕ) (u v : Update)
    → IsPackedBy ps owed next_hop u → IsPackedBy ps owed next_hop v → u ≡ v
one_packed_by (p ∷ ps) owed next_hop u v a b = one_fullest withdrawing (p ∷ ps) u v a b
one_packed_by [] [] next_hop u v a b = absurd a
one_packed_by [] (o ∷ os) next_hop u v a b = one_announced o.wanted (o ∷ os) next_hop u v a b

-- there is one message of the rule
pub one_packed : (owed : List Owed) (next_hop : ℕ) (u v : Update) → IsPacked owed next_hop u
    → IsPacked owed next_hop v → u ≡ v
one_packed owed next_hop u v a b = one_packed_by (withdrawals owed) owed next_hop u v a b

-- ---- paths of at most 255 numbers

attrs_few : (w : List Asn × Origin) (next_hop : ℕ)
    → length (spelled_attribute (attribute_of_path w.0)) ≤ 1026
    → length (spelled_attrs (Some (attrs_for w next_hop))) ≤ 1037
attrs_few w next_hop few =
    let l : length (spelled_attrs (Some (attrs_for w next_hop)))
    ≡ 4 + (length (spelled_attribute (attribute_of_path w.0)) + 7) =
    simp length-append (omega arith) in
    omega arith

path_few : (p : List Asn) → length p ≤ 255 → length (spelled_attribute (attribute_of_path p)) ≤ 1026
path_few p le =
    elim (cases_lt 0 (length p)) [
      | inl some ↦ elim (cases_lt (length p) 64) [
        | inl lt ↦ let e = path_size_short p some lt in omega arith
        | inr many ↦ let e = path_size_long p many in omega arith
      ]
      | inr none ↦ let e = path_size_none p (omega arith) in omega arith
    ]

small_from : (wanted : Option (List Asn × Origin)) (next_hop : ℕ)
    → IfSome wanted (λ w. length w.0 ≤ 255) → IsSmall wanted next_hop
small_from None next_hop short = tt
small_from (Some w) next_hop short = attrs_few w next_hop (path_few w.0 short)

first_small : (owed : List Owed) (next_hop : ℕ) → AreShort owed → FirstIsSmall owed next_hop
first_small [] next_hop short = tt
first_small (o ∷ os) next_hop short = small_from o.wanted next_hop short.0

-- the message that is computed is that of the rule
pub computed : (owed : List Owed) (next_hop : ℕ) → 0 < length owed → AreShort owed
    → IsPacked owed next_hop (packed owed next_hop)
computed owed next_hop lt short = packed_is owed next_hop lt (first_small owed next_hop short)

-- ---- what the code tests

-- the clauses of next_message
pub record IsMessage (owed : List Owed) (next_hop : ℕ) (u : Update) : Type 0 where
  pub rule : IsPacked owed next_hop u
  pub exact : u ≡ packed owed next_hop
  pub held : fits u ≡ true
  pub says : 0 < said u

withdrawn_by : (ps : List Cidr) (owed : List Owed) (next_hop : ℕ) → 0 < length ps
    → IsPackedBy ps owed next_hop (withdrawing (longest_prefix_within 4073 ps))
    × (withdrawing (longest_prefix_within 4073 ps) ≡ packed_by ps owed next_hop)
withdrawn_by [] owed next_hop lt = absurd (omega arith)
withdrawn_by (p ∷ ps) owed next_hop lt =
    (fullest_from withdrawing 4073 (p ∷ ps) withdrawing_fits, refl)

some_withdrawal_by : (b : Bool) (o : Owed) (os : List Owed)
    → (b || list_any (λ (x : Owed). is_none x.wanted) os) ≡ true
    → (list_any (λ (x : Owed). is_none x.wanted) os ≡ true → 0 < length (withdrawals os))
    → 0
    < length (map (λ (x : Owed). x.prefix)
    (cond b (o ∷ filter (λ (x : Owed). is_none x.wanted) os)
    (filter (λ (x : Owed). is_none x.wanted) os)))
some_withdrawal_by true o os e later = omega arith
some_withdrawal_by false o os e later = later e

some_withdrawal : (owed : List Owed) → list_any (λ (x : Owed). is_none x.wanted) owed ≡ true
    → 0 < length (withdrawals owed)
some_withdrawal [] e = absurd cc
some_withdrawal (o ∷ os) e = some_withdrawal_by (is_none o.wanted) o os e (some_withdrawal os)

no_withdrawal_by : (b : Bool) (o : Owed) (os : List Owed)
    → (b || list_any (λ (x : Owed). is_none x.wanted) os) ≡ false
    → (list_any (λ (x : Owed). is_none x.wanted) os ≡ false → withdrawals os ≡ [])
    → map (λ (x : Owed). x.prefix)
    (cond b (o ∷ filter (λ (x : Owed). is_none x.wanted) os)
    (filter (λ (x : Owed). is_none x.wanted) os))
    ≡ []
no_withdrawal_by true o os e later = absurd cc
no_withdrawal_by false o os e later = later e

no_withdrawal : (owed : List Owed) → list_any (λ (x : Owed). is_none x.wanted) owed ≡ false
    → withdrawals owed ≡ []
no_withdrawal [] e = refl
no_withdrawal (o ∷ os) e = no_withdrawal_by (is_none o.wanted) o os e (no_withdrawal os)

-- where a withdrawal is owed
pub withdrawn_is : (owed : List Owed) (next_hop : ℕ)
    → list_any (λ (x : Owed). is_none x.wanted) owed ≡ true
    → IsMessage owed next_hop (withdrawing (longest_prefix_within 4073 (withdrawals owed)))
withdrawn_is owed next_hop some =
    let lt = some_withdrawal owed some in
    let h = withdrawn_by (withdrawals owed) owed next_hop lt in
    let f = first_fits 4073 (withdrawals owed) (omega arith) lt in
    record {
      rule = h.0;
      exact = h.1;
      held = packed_fits owed next_hop (withdrawing (longest_prefix_within 4073 (withdrawals owed)))
          h.0;
      says = omega arith;
    }

-- where all are to be announced
announced_is_message : (o : Owed) (os : List Owed) (next_hop : ℕ)
    → list_any (λ (x : Owed). is_none x.wanted) (o ∷ os) ≡ false → IsSmall o.wanted next_hop
    → IsMessage (o ∷ os) next_hop (announced_by o.wanted (o ∷ os) next_hop)
announced_is_message o os next_hop e small =
    let none = no_withdrawal (o ∷ os) e in
    let exact : announced_by o.wanted (o ∷ os) next_hop ≡ packed (o ∷ os) next_hop =
    ap (λ (ps : List Cidr). packed_by ps (o ∷ os) next_hop) (sym none) in
    let rule = packed_is (o ∷ os) next_hop (omega arith) small in
    let says = packed_says (o ∷ os) next_hop (omega arith) small in
    record {
      rule = subst (λ (u : Update). IsPacked (o ∷ os) next_hop u) (sym exact) rule;
      exact = exact;
      held = ap fits exact ∙ packed_fits (o ∷ os) next_hop (packed (o ∷ os) next_hop) rule;
      says = subst (λ (u : Update). 0 < said u) (sym exact) says;
    }

message_of : (o : Owed) (os : List Owed) (next_hop : ℕ) (r : Result Update AllocError)
    → list_any (λ (x : Owed). is_none x.wanted) (o ∷ os) ≡ false
    → IfOk r (λ u. u ≡ announced_by o.wanted (o ∷ os) next_hop)
    → IfOk r (λ _. IsSmall o.wanted next_hop) → IfOk r (λ u. IsMessage (o ∷ os) next_hop u)
message_of o os next_hop (Ok u) e gives small =
    subst (λ (x : Update). IsMessage (o ∷ os) next_hop x) (sym gives)
    (announced_is_message o os next_hop e small)
message_of o os next_hop (Err d) e gives small = tt

-- any stands where the list has none
pub message_for : (owed : List Owed) (any : Owed) (next_hop : ℕ) (r : Result Update AllocError)
    → 0 < length owed → list_any (λ (x : Owed). is_none x.wanted) owed ≡ false
    → IfOk r (λ u. u ≡ announced_by (get_or owed 0 any).wanted owed next_hop)
    → IfOk r (λ _. IsSmall (get_or owed 0 any).wanted next_hop)
    → IfOk r (λ u. IsMessage owed next_hop u)
message_for [] any next_hop r lt e gives small = absurd (omega arith)
message_for (o ∷ os) any next_hop r lt e gives small = message_of o os next_hop r e gives small

-- a message of the rule, where memory did not run out
pub rule_of : (owed : List Owed) (next_hop : ℕ) (r : Result Update AllocError)
    → IfOk r (λ u. IsMessage owed next_hop u) → IfOk r (λ u. IsPacked owed next_hop u)
rule_of owed next_hop (Ok u) h = h.rule
rule_of owed next_hop (Err d) h = tt

-- it fits, where memory did not run out
pub held_of : (owed : List Owed) (next_hop : ℕ) (r : Result Update AllocError)
    → IfOk r (λ u. IsMessage owed next_hop u) → IfOk r (λ u. fits u ≡ true)
held_of owed next_hop (Ok u) h = h.held
held_of owed next_hop (Err d) h = tt

-- it names a prefix, where memory did not run out
pub says_of : (owed : List Owed) (next_hop : ℕ) (r : Result Update AllocError)
    → IfOk r (λ u. IsMessage owed next_hop u)
    → IfOk r (λ u. 0 < length u.withdrawn + length u.announced)
says_of owed next_hop (Ok u) h = h.says
says_of owed next_hop (Err d) h = tt

-- it is the message that is computed, where memory did not run out
pub exact_of : (owed : List Owed) (next_hop : ℕ) (r : Result Update AllocError)
    → IfOk r (λ u. IsMessage owed next_hop u) → IfOk r (λ u. u ≡ packed owed next_hop)
exact_of owed next_hop (Ok u) h = h.exact
exact_of owed next_hop (Err d) h = tt
