-- Equal paths, and that they are hashed alike.
use Rattle.std.specs.Prelude.{◌≡◌, ◌==◌, Bool, List}
use Rattle.std.specs.Cmp.{IsEquivalence, nat_eq_equiv, on_equiv}
use Rattle.std.specs.Cmp.Lexicographic.{lists_equiv, pointwise}
use Rattle.std.specs.Hash as fed
use Rattle.std.specs.Hash.{Alike, items_Alike}
use Rattle.std.proofs.Common.{ap}
use Rattle.std.proofs.lemmas.Bool.{eqb-true}
use Rattle.cn_base.specs.declared.ids.Asn.{Asn}

-- the same numbers, in the same order
abbrev pub same_path : List Asn → List Asn → Bool
same_path p q = pointwise (λ x y. x.0 == y.0) p q

-- `same_path` is an equivalence
pub same_path_equiv : IsEquivalence same_path
same_path_equiv = lists_equiv (on_equiv (λ (x : Asn). x.0) nat_eq_equiv)

-- what is fed of a number goes by the number alone
same_number :
    (F : Asn → fed.HashWrites) → ((x y : Asn) → x.0 ≡ y.0 → F x ≡ F y)
    → Alike (λ (x : Asn) (y : Asn). x.0 == y.0) F
same_number F along = record { fed = λ x y h. along x y (eqb-true x.0 y.0 h) }

-- equal paths are hashed alike
pub same_path_Alike : Alike same_path (λ p. fed.slice (λ (n : Asn). fed.u32 n.0) p)
same_path_Alike = items_Alike (same_number (λ n. fed.u32 n.0) (λ x y e. ap fed.u32 e))
