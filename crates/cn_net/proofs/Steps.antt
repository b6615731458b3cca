-- One more device, and one more link: what the loops of `make.rt` and `repeat.rt` keep.
use Rattle.std.proofs.Common.{◌≡◌, ℕ, ◌+◌, ◌<◌, ◌==◌, ◌&&◌, ◌||◌, Bool, true, false, cond, List, [], ◌∷◌, ◌++◌, length, get_or, map, take, refl, sym, ◌∙◌, ap, arith, nat_lt, if◌then◌else◌}
use Rattle.std.specs.Cmp.{IsEquivalence}
use Rattle.std.specs.Bool.{Decides}
use Rattle.std.specs.List.{list_any}
use Rattle.std.proofs.lemmas.Bool.Decides.{nat_tests, Decides-and}
use Rattle.std.proofs.lemmas.List.{map_more, take_more}
use Rattle.cn_base.specs.declared.ids.DeviceId.{DeviceId}
use Rattle.cn_net.specs.Ends.{ends_between, same_pair}
use Rattle.cn_net.specs.Network.{same_device}
use Rattle.cn_net.specs.Numbered.{link_made, number_in}
use Rattle.cn_net.specs.Valid.{same_ends}
use Rattle.cn_net.specs.declared.device.Link.{Link}
use Rattle.cn_net.specs.declared.draft.LinkDraft.{LinkDraft}
use Rattle.cn_net.specs.declared.make.Ends.{Ends}
use Rattle.cn_net.proofs.Keys.{equivalence, list_any-map, same_device-Decides}

-- what is read from the first elements, after a push
pub pushed_more : {X K : Type 0} (f : X → K) (xs : List X) (i : ℕ) (x : X) → i < length xs
    → x ≡ get_or xs i x → (old new : List K) → old ≡ map f (take i xs) → new ≡ old ++ f x ∷ []
    → new ≡ map f (take (i + 1) xs)
pushed_more f xs i x within is old new so put =
    put ∙ (λ j. so j ++ f (is j) ∷ []) ∙ sym (map_more f xs i x within)

-- and the elements themselves
pub put_more : {X : Type 0} (xs : List X) (i : ℕ) (x : X) → i < length xs → x ≡ get_or xs i x
    → (old new : List X) → old ≡ take i xs → new ≡ old ++ x ∷ [] → new ≡ take (i + 1) xs
put_more xs i x within is old new so put =
    put ∙ (λ j. so j ++ is j ∷ []) ∙ sym (take_more xs i x within)

-- ---- the ends of links

pair_at : (a b c d : ℕ) (s t : Bool) → nat_lt a b ≡ s → nat_lt c d ≡ t
    → ((cond s a b == cond t c d) && (cond s b a == cond t d c))
    ≡ ((a == c && b == d) || (a == d && b == c))
pair_at a b c d true true e f = grind (arith, nat_tests)
pair_at a b c d true false e f = grind (arith, nat_tests)
pair_at a b c d false true e f = grind (arith, nat_tests)
pair_at a b c d false false e f = grind (arith, nat_tests)

pair_same : (a b c d : DeviceId) (s t : Bool) → nat_lt a.0 b.0 ≡ s → nat_lt c.0 d.0 ≡ t
    → same_pair (if s then record { low = a; high = b } else record { low = b; high = a })
    (if t then record { low = c; high = d } else record { low = d; high = c })
    ≡ ((a.0 == c.0 && b.0 == d.0) || (a.0 == d.0 && b.0 == c.0))
pair_same a b c d true true e f = pair_at a.0 b.0 c.0 d.0 true true e f
pair_same a b c d true false e f = pair_at a.0 b.0 c.0 d.0 true false e f
pair_same a b c d false true e f = pair_at a.0 b.0 c.0 d.0 false true e f
pair_same a b c d false false e f = pair_at a.0 b.0 c.0 d.0 false false e f

pub same_pair-ends : (l k : Link) → same_pair (ends_between l) (ends_between k) ≡ same_ends l k
same_pair-ends l k = pair_same l.a l.b k.a k.b (nat_lt l.a.0 l.b.0) (nat_lt k.a.0 k.b.0) refl refl

same_pair-Decides : (x y : Ends) → Decides (same_pair x y) (x ≡ y)
same_pair-Decides x y =
    let parts =
    Decides-and (same_device x.low y.low) (same_device x.high y.high)
    (same_device-Decides x.low y.low) (same_device-Decides x.high y.high) in (
      (λ t. let e = parts.0 t in λ i. record { low = e.0 i; high = e.1 i }),
      (λ e. parts.1 (ap (λ z. z.low) e, ap (λ z. z.high) e)),
    )

pub same_ends-laws : IsEquivalence same_ends
same_ends-laws =
    let laws = equivalence same_pair same_pair-Decides in
    record {
      refl = λ l. sym (same_pair-ends l l) ∙ laws.refl (ends_between l);
      symm =
          λ l k. sym (same_pair-ends l k) ∙ laws.symm (ends_between l) (ends_between k)
          ∙ same_pair-ends k l;
      congr =
          λ l k m t. sym (same_pair-ends l m)
          ∙ laws.congr (ends_between l) (ends_between k) (ends_between m) (same_pair-ends l k ∙ t)
          ∙ same_pair-ends k m;
    }

pub ends_stand : (l : Link) (links : List Link)
    → list_any (same_pair (ends_between l)) (map ends_between links) ≡ list_any (same_ends l) links
ends_stand l links =
    list_any-map (same_pair (ends_between l)) ends_between links
    ∙ (λ j. list_any (λ k. same_pair-ends l k j) links)

-- ---- links

-- the link that the code makes of a draft
pub link_is : (names : List (List ℕ)) (draft : LinkDraft) (a b : DeviceId)
    → a ≡ number_in names draft.a → b ≡ number_in names draft.b
    → record { a = a; b = b; up = draft.up } ≡ link_made names draft
link_is names draft a b e f = λ j. record { a = e j; b = f j; up = draft.up }
