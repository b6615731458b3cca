-- The first key that isn't listed is the least.
use Rattle.std.proofs.Common.{◌≡◌, ◌⊎◌, inl, inr, ℕ, suc, Bool, true, false, List, [], ◌∷◌, Option, Some, String, Global, Less, nat_cmp, string_bytes, refl, sym, ap, subst, ◌∙◌, arith}
use Rattle.std.specs.Cmp.Lexicographic.{slice_cmp}
use Rattle.std.specs.List.{All, AllByRecursion, list_any}
use Rattle.std.specs.List.Sorted.{IsStrictlySortedBy}
use Rattle.std.specs.Map.{keys_of}
use Rattle.std.specs.Ordering.{is_lt}
use Rattle.std.specs.Str.{bytes_eq}
use Rattle.std.specs.String.{string_cmp}
use Rattle.std.proofs.lemmas.Bool.{cases_Bool}
use Rattle.std.proofs.lemmas.List.Elements.{All-cons, All-nil}
use Rattle.std.proofs.lemmas.Map.Keys.{sorted_head, sorted_tail}
use Rattle.cn_table.specs.Order.{member_keys, KeysAscend, IsLeastUnlisted}
use Rattle.cn_table.specs.Tables.{unlisted}
use Rattle.toml.specs.Data.{Members, no_members, member}
use Rattle.toml.specs.View.{members_view}
use Rattle.toml.specs.declared.value.Value.{Value as CodeValue}

abbrev Entry : Type 0
Entry = String Global × CodeValue

all_below : (k : String Global) (es : List Entry)
    → AllByRecursion (λ y. string_cmp k y ≡ Less) (keys_of es)
    → AllByRecursion (λ y. slice_cmp nat_cmp (string_bytes k) y ≡ Less)
    (member_keys (members_view es))
all_below k [] h = tt
all_below k (e ∷ es) h = (h.0, all_below k es h.1)

-- the entries of a map are in the order of their keys' bytes
pub ascend_from : (es : List Entry) → IsStrictlySortedBy string_cmp (keys_of es)
    → KeysAscend (members_view es)
unfolding IsStrictlySortedBy
ascend_from [] h = tt
ascend_from (e ∷ es) h = (all_below e.0 es h.0, ascend_from es h.1)

abbrev IsAbove : List (List ℕ) → List ℕ → List ℕ → Type 0
IsAbove listed k q =
    list_any (bytes_eq q) listed ≡ false → (q ≡ k) ⊎ (is_lt (slice_cmp nat_cmp k q) ≡ true)

above_all : (listed : List (List ℕ)) (k : List ℕ) (ks : List (List ℕ))
    → AllByRecursion (λ y. slice_cmp nat_cmp k y ≡ Less) ks → All (IsAbove listed k) ks
above_all listed k [] h = All-nil (IsAbove listed k)
above_all listed k (q ∷ ks) h =
    All-cons (IsAbove listed k) q ks (λ _. inr (ap is_lt h.0)) (above_all listed k ks h.1)

-- the first key that is not listed is the least of those
pub least : (listed : List (List ℕ)) (ms : Members) (k : List ℕ) → KeysAscend ms
    → unlisted listed ms ≡ Some k → IsLeastUnlisted listed ms k
unfolding unlisted
least listed no_members k h e = absurd (cc e)
least listed (member j d ms) k h e =
    elim (cases_Bool (list_any (bytes_eq j) listed)) [
      | inl t ↦
          let later : unlisted listed ms ≡ Some k = rw t at e in
          let rest =
          least listed ms k (sorted_tail (slice_cmp nat_cmp) j (member_keys ms) h) later in
          let c = rest.key in
          record {
            key = (suc c.0, omega (arith, c.1), c.2);
            unlisted = rest.unlisted;
            least =
                All-cons (IsAbove listed k) j (member_keys ms)
                (λ f. let no : ◌≡◌ {A = Bool} true false = sym t ∙ f in absurd (cc no)) rest.least;
          }
      | inr f ↦
          let here : ◌≡◌ {A = Option (List ℕ)} (Some j) (Some k) = rw f at e in
          let same : j ≡ k = cc here in
          let P : List ℕ → Type 0 = λ q. IsLeastUnlisted listed (member j d ms) q in
          subst P same (record {
            key = (0, omega arith, refl);
            unlisted = f;
            least =
                All-cons (IsAbove listed j) j (member_keys ms) (λ _. inl refl)
                (above_all listed j (member_keys ms)
                (sorted_head (slice_cmp nat_cmp) j (member_keys ms) h));
          })
    ]
