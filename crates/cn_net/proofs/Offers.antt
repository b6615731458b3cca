-- How long offered paths are.
use Rattle.std.proofs.Common.{◌≡◌, ℕ, zero, suc, ◌+◌, ◌≤◌, ◌++◌, ◌∷◌, [], Bool, IsTrue, true, false, ◌==◌, List, length, replicate, take, drop, refl, sym, ap, ◌∙◌, arith}
use Rattle.std.specs.List.{list_all}
use Rattle.std.specs.Bool.{Decides}
use Rattle.std.specs.Cmp.Lexicographic.{pointwise}
use Rattle.std.proofs.lemmas.Bool.{and_from, and_parts, eqb-true, eq-eqb, false≢true}
use Rattle.std.proofs.lemmas.Slice.Eq.{slice_eq-Decides}
use Rattle.std.proofs.lemmas.List.{length-append, length-replicate}
use Rattle.cn_base.specs.declared.ids.Asn.{Asn}
use Rattle.cn_base.specs.declared.ids.DeviceId.{DeviceId}
use Rattle.cn_base.specs.declared.route.Route.{Route}
use Rattle.cn_net.specs.declared.device.Body.{Body}
use Rattle.cn_net.specs.Exchange.{copies}

-- an offered path has the copies more
pub length_offered :
    (body : Body) (peer : DeviceId) (r : Route)
    → length (replicate (copies body peer r) body.asn ++ r.path)
    ≡ copies body peer r + length r.path
length_offered body peer r =
    let n = copies body peer r in
    length-append (replicate n body.asn) r.path
    ∙ ap (λ m. m + length r.path) (length-replicate n body.asn)

-- ---- copies of a number in front of a path

same_asn : (x asn : Asn) → (x.0 == asn.0) ≡ true → x ≡ asn
same_asn x asn e = λ i. record { 0 = eqb-true x.0 asn.0 e i }

pub extended_from : (n : ℕ) (asn : Asn) (sent path : List Asn) → n ≤ length sent
    → list_all (λ x. x.0 == asn.0) (take n sent) ≡ true → drop n sent ≡ path
    → sent ≡ replicate n asn ++ path
extended_from zero asn sent path le all rest = rest
extended_from (suc n) asn [] path le all rest = absurd (omega arith)
extended_from (suc n) asn (x ∷ sent) path le all rest =
    let both = and_parts (x.0 == asn.0) (list_all (λ (y : Asn). y.0 == asn.0) (take n sent)) all in
    let first = same_asn x asn both.0 in
    let others = extended_from n asn sent path (omega arith) both.1 rest in
    λ i. first i ∷ others i

pub all_copies : (n : ℕ) (asn : Asn) (path : List Asn)
    → list_all (λ x. x.0 == asn.0) (take n (replicate n asn ++ path)) ≡ true
all_copies zero asn path = refl
all_copies (suc n) asn path =
    and_from (asn.0 == asn.0)
    (list_all (λ (y : Asn). y.0 == asn.0) (take n (replicate n asn ++ path)))
    (eq-eqb asn.0 asn.0 refl) (all_copies n asn path)

pub path_behind : (n : ℕ) (asn : Asn) (path : List Asn) → drop n (replicate n asn ++ path) ≡ path
path_behind zero asn path = refl
path_behind (suc n) asn path = path_behind n asn path

pub long_enough : (n : ℕ) (asn : Asn) (path : List Asn) → n ≤ length (replicate n asn ++ path)
long_enough n asn path = omega (arith, length-append (replicate n asn) path, length-replicate n asn)

asn_decides : (x y : Asn) → Decides (x.0 == y.0) (x ≡ y)
asn_decides x y = ((λ t. same_asn x y t), (λ e. eq-eqb x.0 y.0 (ap (λ (z : Asn). z.0) e)))

module _ (n times : ℕ) (asn : Asn) (sent path front back : List Asn) (b : Bool) (same : times ≡ n)
    (le : times ≤ length sent) (front_is : front ≡ take times sent)
    (back_is : back ≡ drop times sent)
    (copied : b ≡ list_all (λ x. x.0 == asn.0) front) where
  -- the copies stand in front, and what stands behind is compared
  pub behind_tells : (r : Bool) → b ≡ true → r ≡ pointwise (λ (x y : Asn). x.0 == y.0) back path
      → (IsTrue r → sent ≡ replicate n asn ++ path) × (sent ≡ replicate n asn ++ path → IsTrue r)
  behind_tells r t compared =
      let decides = slice_eq-Decides asn_decides back path r compared in
      let behind : back ≡ drop n sent = back_is ∙ ap (λ m. drop m sent) same in
      let all =
      ap (λ m. list_all (λ (x : Asn). x.0 == asn.0) (take m sent)) (sym same)
      ∙ ap (list_all (λ (x : Asn). x.0 == asn.0)) (sym front_is) ∙ sym copied ∙ t in (
        (λ u. extended_from n asn sent path (omega arith) all (sym behind ∙ decides.0 u)),
        (λ e. decides.1 (behind ∙ ap (drop n) e ∙ path_behind n asn path)),
      )

  -- the copies don't stand in front
  pub front_tells : b ≡ false
      → (IsTrue b → sent ≡ replicate n asn ++ path) × (sent ≡ replicate n asn ++ path → IsTrue b)
  front_tells f = (
    (λ u. absurd (false≢true (sym f ∙ u))),
    (λ e. copied
        ∙ ap (list_all (λ (x : Asn). x.0 == asn.0))
        (front_is ∙ ap (λ m. take m sent) same ∙ ap (take n) e) ∙ all_copies n asn path),
  )
