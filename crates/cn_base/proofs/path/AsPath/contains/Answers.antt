use Rattle.std.proofs.Common.{rules, ◌≡◌, ◌==◌, [], ◌∷◌, refl, subst}
use Rattle.std.proofs.lemmas.Fn.{fold_over, slice_gives, fronts}
use Rattle.std.proofs.lemmas.List.Folds.{list_any-append}
use Rattle.cn_base.specs.Paths.{holds_asn}
use Rattle.cn_base.proofs.path.AsPath.contains.Goals as goal

-- each number is looked at: after some of them the answer is that of the path of these
pub returns : goal.returns
returns c =
    subst (λ path. c.fold.result ≡ holds_asn path c.args.asn)
    (search rules)
    (fold_over fronts (λ y. y.now) _ (λ seen found. found ≡ holds_asn seen c.args.asn) _
    (λ seen a x b f' j k.
    let more = list_any-append (λ y. y.0 == c.args.asn.0) seen (x.now ∷ []) in search rules)
    _ _ _ _ (slice_gives c.iter.result) refl c.fold.ensures.ran)
