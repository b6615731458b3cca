-- The part of the list of neighbours that one device sees.
use Rattle.std.proofs.Common.{◌≡◌, ℕ, ◌+◌, ◌-◌, ◌<◌, ◌≤◌, ◌&&◌, ◌↔◌, true, false, List, length, get_or, slice_range, is_some, IsSome, find, option_map, Less, sym, ◌∙◌, ap, subst, true≢false, inl, inr, arith}
use Rattle.std.specs.List.{All, AllPairs, Any, Contains, IsDistinct, position_or_len}
use Rattle.std.proofs.lemmas.Bool.{cases_Bool, cases_lt}
use Rattle.std.proofs.lemmas.Bool.Decides.{Decides-and, nat_tests}
use Rattle.std.proofs.lemmas.List.{get_or_default}
use Rattle.std.proofs.lemmas.List.Edits.{get_or-between, length-between}
use Rattle.std.proofs.lemmas.List.Folds.{find_at}
use Rattle.std.proofs.lemmas.List.Sums.{passes_at_first}
use Rattle.std.proofs.lemmas.Option.{slice_get_cases}
use Rattle.cn_base.specs.declared.ids.DeviceId.{DeviceId}
use Rattle.cn_net.specs.Neighbours.{AreNeighbours, AreStarts, IsStart, TellsOfLink, by_ends, seen_from_a, seen_from_b}
use Rattle.cn_net.specs.Network.{joins, same_device}
use Rattle.cn_net.specs.Valid.{same_ends}
use Rattle.cn_net.specs.declared.device.Link.{Link}
use Rattle.cn_net.specs.declared.neighbours.Neighbour.{Neighbour}
use Rattle.cn_net.proofs.Keys.{same_device-Decides}
use Rattle.cn_net.proofs.Linked.{found_link}

-- ---- the part between two starts

-- from s up to e the list has what d sees
pub record IsPart (d : DeviceId) (list : List Neighbour) (part : List Neighbour)
    (s e : ℕ) : Type 0 where
  pub many : s + length part ≡ e
  pub end : e ≤ length list
  pub below : (k : ℕ) (x : Neighbour) → k < s → (get_or list k x).of.0 < d.0
  pub here : (k : ℕ) (x : Neighbour) → s ≤ k → k < e → (get_or list k x).of ≡ d
  pub above : (k : ℕ) (x : Neighbour) → e ≤ k → k < length list → d.0 < (get_or list k x).of.0
  pub at : (k : ℕ) (x : Neighbour) → k < length part → get_or part k x ≡ get_or list (s + k) x

-- no part ends before it begins
starts_rise : (list : List Neighbour) (d : DeviceId) (s e : ℕ) → IsStart list d.0 s
    → IsStart list (d.0 + 1) e → s ≤ e
starts_rise list d s e starts ends =
    elim (cases_lt e s) [
      | inl lt ↦
          let x : Neighbour = record { of = d; device = d; link = 0 } in
          let within = starts.within in
          let below = starts.parts.0 e x (omega arith) lt in
          let above = ends.parts.1 e x (omega arith) (omega arith) in
          absurd (omega arith)
      | inr le ↦ le
    ]

-- from one start to the next stands what a device sees
pub IsPart-from_starts : (d : DeviceId) (list : List Neighbour) (s e : ℕ) → IsStart list d.0 s
    → IsStart list (d.0 + 1) e → IsPart d list (slice_range list s e) s e
IsPart-from_starts d list s e starts ends =
    let low : s ≤ e = starts_rise list d s e starts ends in
    let high : e ≤ length list = ends.within in
    let many : length (slice_range list s e) ≡ e - s = length-between list s e high in
    record {
      many = omega arith;
      end = high;
      below = λ k x lt. starts.parts.0 k x (omega arith) lt;
      here = λ k x le lt.
          let no_less = starts.parts.1 k x le (omega arith) in
          let no_more = ends.parts.0 k x (omega arith) lt in
          let is : (get_or list k x).of.0 ≡ d.0 = omega arith in
          λ i. record { 0 = is i };
      above = λ k x le lt. let more = ends.parts.1 k x le lt in omega arith;
      at = λ k x lt. get_or-between list s e k x (omega arith);
    }

-- what stands between two starts that are kept is what a device sees
pub IsPart-kept : (count : ℕ) (d : DeviceId) (list : List Neighbour) (starts : List ℕ) (s e : ℕ)
    → AreStarts count list starts → d.0 < count → s ≡ get_or starts d.0 s
    → e ≡ get_or starts (d.0 + 1) e → IsPart d list (slice_range list s e) s e
IsPart-kept count d list starts s e so within at_s at_e =
    let many = so.many in
    let start : s ≡ get_or starts d.0 0 =
    at_s ∙ get_or_default starts d.0 s 0 (omega arith) in
    let end : e ≡ get_or starts (d.0 + 1) 0 =
    at_e ∙ get_or_default starts (d.0 + 1) e 0 (omega arith) in
    IsPart-from_starts d list s e
    (subst (IsStart list d.0) (sym start) (so.each d.0 (omega arith)))
    (subst (IsStart list (d.0 + 1)) (sym end) (so.each (d.0 + 1) (omega arith)))

-- ---- what the part says

pub all_of : (d : DeviceId) (list part : List Neighbour) (s e : ℕ) → IsPart d list part s e
    → All (λ n. n.of ≡ d) part
all_of d list part s e cut k x lt =
    let many = cut.many in
    ap (λ n. n.of) (cut.at k x lt) ∙ cut.here (s + k) x (omega arith) (omega arith)

rises : (x y : Neighbour) → by_ends x y ≡ Less → x.of.0 ≡ y.of.0 → x.device.0 < y.device.0
rises x y h e = grind (arith, nat_tests)

pub part_ascends : (d : DeviceId) (list part : List Neighbour) (s e : ℕ)
    → AllPairs (λ x y. by_ends x y ≡ Less) list → IsPart d list part s e
    → AllPairs (λ x y. x.device.0 < y.device.0) part
part_ascends d list part s e up cut i j x lt within =
    let many = cut.many in
    let end = cut.end in
    let same : (get_or part i x).of ≡ (get_or part j x).of =
    all_of d list part s e cut i x (omega arith)
    ∙ sym (all_of d list part s e cut j x within) in
    let at = cut.at i x (omega arith) in
    let at' = cut.at j x within in
    rises (get_or part i x) (get_or part j x)
    ((λ k. by_ends (at k) (at' k)) ∙ up (s + i) (s + j) x (omega arith) (omega arith))
    (ap (λ z. z.0) same)

tells_of : (links : List Link) (d b : DeviceId) (n : Neighbour) → IsDistinct same_ends links
    → TellsOfLink links n → n.of ≡ d → n.device ≡ b
    → IsSome (option_map (λ l. l.up) (find (joins d b) links))
tells_of links d b n distinct tells is to =
    let l : Link = record { a = d; b = b; up = false } in
    let f = found_link links d b distinct n.link l tells.within
    ((λ j. joins (sym is j) (sym to j) (get_or links n.link l)) ∙ tells.joined l) in
    ap (λ o. is_some (option_map (λ (k : Link). k.up) o)) f

stands : (d b : DeviceId) (list part : List Neighbour) (s e : ℕ) (n : Neighbour)
    → IsPart d list part s e → Contains list n → n.of ≡ d → n.device ≡ b
    → Any (λ m. m.device ≡ b) part
stands d b list part s e n cut (k, k_in, is) of to =
    let many = cut.many in
    let number : n.of.0 ≡ d.0 = ap (λ z. z.0) of in
    let same : (get_or list k n).of.0 ≡ n.of.0 = ap (λ m. m.of.0) is in
    let low : s ≤ k = elim (cases_lt k s) [
      | inl lt ↦ let less = cut.below k n lt in absurd (omega arith)
      | inr le ↦ le
    ] in
    let high : k < e = elim (cases_lt k e) [
      | inl lt ↦ lt
      | inr le ↦ let more = cut.above k n le k_in in absurd (omega arith)
    ] in
    let place : s + (k - s) ≡ k = omega arith in
    let within : k - s < length part = omega arith in
    (k - s, n, within, cut.at (k - s) n within ∙ ap (λ m. get_or list m n) place ∙ is, to)

both : (x y a b : DeviceId) → (same_device x a && same_device y b) ≡ true → (x ≡ a) × (y ≡ b)
both x y a b t = (Decides-and (same_device x a) (same_device y b) (same_device-Decides x a)
    (same_device-Decides y b)).0 t

turned : (d b : DeviceId) (l : Link) → (same_device l.a d && same_device l.b b) ≡ false
    → joins d b l ≡ true → (same_device l.b d && same_device l.a b) ≡ true
turned d b l f t = grind (arith, nat_tests)

seen : (links : List Link) (d b : DeviceId) (list part : List Neighbour) (s e k : ℕ) (l : Link)
    → AreNeighbours links list → IsPart d list part s e → k < length links → get_or links k l ≡ l
    → joins d b l ≡ true → Any (λ m. m.device ≡ b) part
seen links d b list part s e k l so cut lt is t =
    elim (cases_Bool (same_device l.a d && same_device l.b b)) [
      | inl r ↦ let p = both l.a l.b d b r in
          stands d b list part s e (seen_from_a k l) cut
          (subst (λ m. Contains list (seen_from_a k m)) is (so.first k l lt)) p.0 p.1
      | inr f ↦ let p = both l.b l.a d b (turned d b l f t) in
          stands d b list part s e (seen_from_b k l) cut
          (subst (λ m. Contains list (seen_from_b k m)) is (so.second k l lt)) p.0 p.1
    ]

pub part_linked : (links : List Link) (d b : DeviceId) (list part : List Neighbour) (s e : ℕ)
    → IsDistinct same_ends links → AreNeighbours links list → IsPart d list part s e
    → Any (λ m. m.device ≡ b) part ↔ IsSome (option_map (λ l. l.up) (find (joins d b) links))
part_linked links d b list part s e distinct so cut = (
  λ (k, x, lt, is, to).
      let many = cut.many in
      let end = cut.end in
      let here : get_or list (s + k) x ≡ x = sym (cut.at k x lt) ∙ is in
      let of : x.of ≡ d = ap (λ n. n.of) (sym is) ∙ all_of d list part s e cut k x lt in
      tells_of links d b x distinct
      (subst (TellsOfLink links) here (so.each (s + k) x (omega arith))) of to,
  λ some. elim (slice_get_cases links (position_or_len (joins d b) links)).1 [
    | inl (l, lt, is, at) ↦ seen links d b list part s e (position_or_len (joins d b) links)
        l so cut lt at (ap (joins d b) (sym at) ∙ passes_at_first (joins d b) links l lt)
    | inr (le, is) ↦ absurd (true≢false (sym some
        ∙ ap (λ o. is_some (option_map (λ (k : Link). k.up) o)) (find_at (joins d b) links ∙ is)))
  ],
)
