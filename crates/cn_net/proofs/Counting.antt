-- The distinct prefixes, as they are counted.
use Rattle.std.proofs.Common.{◌≡◌, ◌≤◌, ℕ, List, length, take, take_all, ap, ◌∙◌}
use Rattle.std.specs.List.{IsDistinct, flat_map, list_any}
use Rattle.std.specs.Set.{distinct_count}
use Rattle.std.proofs.lemmas.Map.Made.{length-from_keys}
use Rattle.cn_base.specs.Cidr.{Cidr, same_prefix}
use Rattle.cn_net.proofs.Keys.{equivalence, same_prefix-Decides}

-- keys that are distinct and are those of all elements are as many as the elements' distinct
-- prefixes
pub counted : {X : Type 0} (own : X → List Cidr) (keys : List Cidr) (xs : List X) (n : ℕ)
    → IsDistinct same_prefix keys → length xs ≤ n
    → ((q : Cidr)
    → list_any (same_prefix q) keys ≡ list_any (same_prefix q) (flat_map own (take n xs)))
    → length keys ≡ distinct_count same_prefix (flat_map own xs)
counted own keys xs n distinct all same =
    let all' : take n xs ≡ xs = take_all n xs all in
    length-from_keys (equivalence same_prefix same_prefix-Decides) keys (flat_map own xs) distinct
    (λ q. same q ∙ ap (λ ys. list_any (same_prefix q) (flat_map own ys)) all')
