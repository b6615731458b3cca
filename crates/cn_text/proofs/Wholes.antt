-- A text that is an atom as a whole is that atom's spelling.
use Rattle.std.proofs.Common.{◌≡◌, inl, inr, ℕ, ◌<◌, ◌^◌, true, Option, Some, None, List, [], ◌++◌, length, Result, Ok, Err, refl, sym, ap, subst, ◌∙◌, arith, eqb}
use Rattle.std.proofs.Math.Seq.{drop-length}
use Rattle.std.proofs.lemmas.Bool.{cases_Bool}
use Rattle.std.proofs.lemmas.Bool.Decides.{nat_tests}
use Rattle.std.proofs.lemmas.List.{append-nil}
use Rattle.cn_base.specs.Cidr.{Cidr, IsCidr}
use Rattle.cn_base.specs.declared.ids.Asn.{Asn}
use Rattle.cn_text.specs.Printed.{address, prefix_text, path_text}
use Rattle.cn_text.specs.Atoms.{address_at, prefix_at, path_at, address_of, prefix_of, path_of, whole, IsPath}
use Rattle.cn_text.specs.declared.number.Bad.{Bad}
use Rattle.cn_text.proofs.Address.{address_spells, address_reads}
use Rattle.cn_text.proofs.Prefix.{prefix_spells, prefix_reads}
use Rattle.cn_text.proofs.Paths.{path_spells, path_reads}
use Rattle.cn_text.proofs.Steps.{Spells}

whole_is : {A : Type 0} (text : List ℕ) (read : Result (A × ℕ) Bad) (x : A)
    → whole text read ≡ Some x → read ≡ Ok (x, length text)
whole_is text (Ok y) x e =
    elim (cases_Bool (eqb y.1 (length text))) [
      | inl t ↦
          let end : y.1 ≡ length text = grind (arith, nat_tests) in
          let k : ◌≡◌ {A = Option _} (Some y.0) (Some x) = rw t at e in
          let same : y.0 ≡ x = cc k in
          ap (λ (z : _ × ℕ). Ok z) (ap (λ (a : _). (a, y.1)) same ∙ ap (λ (n : ℕ). (x, n)) end)
      | inr f ↦
          let k : ◌≡◌ {A = Option _} None (Some x) = rw f at e in
          absurd (cc k)
    ]
whole_is text (Err b) x e = absurd (cc e)

whole_of : {A : Type 0} (text : List ℕ) (read : Result (A × ℕ) Bad) (x : A) (end : ℕ)
    → read ≡ Ok (x, end) → end ≡ length text → whole text read ≡ Some x
whole_of text read x end e is =
    let t : eqb end (length text) ≡ true = grind (arith, nat_tests) in
    let P : Result (_ × ℕ) Bad → Type 0 = λ r. whole text r ≡ Some x in
    subst P (sym e) (rw t refl)

text_is : (text xs : List ℕ) → Spells text 0 (length text) xs → text ≡ xs
text_is text xs h = h.bytes_are ∙ ap (λ (ys : List ℕ). xs ++ ys) (drop-length text) ∙ append-nil xs

-- a text that is an address as a whole is what is printed of it
pub address_is_text : (text : List ℕ) (n : ℕ) → address_of text ≡ Some n
    → (n < 2 ^ 32) × (text ≡ address n)
address_is_text text n e =
    let h = address_spells text 0 n (length text) (whole_is text (address_at text 0) n e) in
    (h.1, text_is text (address n) h.0)

-- what is printed of an address is that address as a whole
pub address_of-address : (n : ℕ) → n < 2 ^ 32 → address_of (address n) ≡ Some n
address_of-address n small =
    whole_of (address n) (address_at (address n) 0) n _
    (address_reads (address n) [] 0 n (sym (append-nil (address n))) small refl) (omega arith)

-- a text that is a prefix as a whole is what is printed of it
pub prefix_is_text : (text : List ℕ) (p : Cidr) → prefix_of text ≡ Some p
    → IsCidr p × (text ≡ prefix_text p)
prefix_is_text text p e =
    let h = prefix_spells text 0 p (length text) (whole_is text (prefix_at text 0) p e) in
    (h.is_cidr, text_is text (prefix_text p) h.spells)

-- what is printed of a prefix is that prefix as a whole
pub prefix_of-prefix_text : (p : Cidr) → p.bits < 2 ^ 32 → IsCidr p
    → prefix_of (prefix_text p) ≡ Some p
prefix_of-prefix_text p small is =
    whole_of (prefix_text p) (prefix_at (prefix_text p) 0) p _
    (prefix_reads (prefix_text p) [] 0 p (sym (append-nil (prefix_text p))) small is refl)
    (omega arith)

-- a text that is a path as a whole is what is printed of it
pub path_is_text : (text : List ℕ) (path : List Asn) → path_of text ≡ Some path
    → IsPath path × (text ≡ path_text path)
path_is_text text path e =
    let h = path_spells text 0 (path, length text) (whole_is text (path_at text 0) path e) in
    (h.1, text_is text (path_text path) h.0)

-- what is printed of a path is that path as a whole
pub path_of-path_text : (path : List Asn) → IsPath path → path_of (path_text path) ≡ Some path
path_of-path_text path is =
    whole_of (path_text path) (path_at (path_text path) 0) path _
    (path_reads (path_text path) [] 0 path (sym (append-nil (path_text path))) is refl refl)
    (omega arith)
