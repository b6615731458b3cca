-- What the engine keeps beside the state is right after each event.
use Rattle.std.proofs.Common.{◌≡◌, ◌≢◌, ℕ, zero, suc, ◌<◌, ◌≤◌, Bool, true, false, List, [], ◌∷◌, length, get_or, set, refl, sym, ap, ◌∙◌, subst, inl, inr, arith, true≢false}
use Rattle.std.specs.Prelude.{◌==◌, ◌&&◌, ◌⊎◌, not, Err, Ok, OnErr, OnOk, Result}
use Rattle.std.specs.FinMap as fin
use Rattle.std.proofs.lemmas.Bool.{cases_lt}
use Rattle.std.proofs.lemmas.Bool.Decides.{eqb_tells}
use Rattle.std.proofs.lemmas.List.{get_or-set_other, get_or-set_same, get_or_default, length-set, set-get_or}
use Rattle.cn_base.specs.declared.ids.DeviceId.{DeviceId}
use Rattle.cn_rib.specs.Updates.{prefixes_of}
use Rattle.cn_pack.specs.Packing.{packed}
use Rattle.cn_wire.specs.Reading.{update_of}
use Rattle.cn_wire.specs.declared.update.Update.{Update}
use Rattle.cn_net.specs.Network.{IsDevice, router_of, same_device}
use Rattle.cn_net.specs.Opening.{Opening}
use Rattle.cn_net.specs.Sessions.{Ascend}
use Rattle.cn_net.specs.declared.sessions.SessionEnds.{SessionEnds}
use Rattle.cn_net.proofs.Keys.{same_device-Decides}
use Rattle.cn_core.specs.declared.owed.Owed.{Owed}
use Rattle.cn_core.specs.State.{CoreState, RibState, SessionState, empty_rib, rib}
use Rattle.cn_core.specs.Machine.{put_out, taken_in}
use Rattle.cn_core.specs.Owed.{message_by, owed, owed_by, owes, rows}
use Rattle.cn_core.specs.OwedLists.{AreElsewhere, AreListed, AreListedFrom, IsListed, without_all}
use Rattle.cn_core.specs.Parts.{dirty_as, received, received_as, received_of, with_all_dirty}
use Rattle.cn_core.specs.Start.{ends, ends_of}
use Rattle.cn_core.specs.Whole.{ArePlacesOf, IsWhole}
use Rattle.cn_core.proofs.Listed.{listed-without}
use Rattle.cn_core.proofs.OwedLists.{is_empty-listed}
use Rattle.cn_core.proofs.Sent.{owed_after}

abbrev pub state_of : Opening → List SessionState → List RibState → CoreState
state_of nn ss rs = record { now = nn; sessions = ss; ribs = rs }

-- what the engine keeps, but for the counts
pub record IsLaid (s : CoreState) (index : List SessionEnds) (lists : List Owed) : Type 0 where
  pub whole : IsWhole s
  pub indexed : index ≡ ends_of s.sessions
  pub listed : AreListed s lists

-- an item is the one that was written, or as it was
set_cases : {A : Type 0} (xs : List A) (i k : ℕ) (v d : A) → i < length xs
    → ((k ≡ i) × (get_or (set xs i v) k d ≡ v))
    ⊎ ((k ≢ i) × (get_or (set xs i v) k d ≡ get_or xs k d))
set_cases xs i k v d inside = elim (eqb_tells k i) [
  | inl same ↦
      inl (same.1, ap (λ j. get_or (set xs i v) j d) same.1 ∙ get_or-set_same xs i v d inside)
  | inr other ↦ inr (other.1, get_or-set_other xs i k v d other.1)
]

-- ---- the order of the sessions

ends_of-set : (xs : List SessionState) (i : ℕ) (x nx : SessionState) → x ≡ get_or xs i x
    → ends nx ≡ ends x
    → ends_of (set xs i nx) ≡ ends_of xs
ends_of-set [] i x nx read same = refl
ends_of-set (y ∷ ys) zero x nx read same = ap (λ e. e ∷ ends_of ys) (same ∙ ap ends read)
ends_of-set (y ∷ ys) (suc i) x nx read same =
    ap (λ es. ends y ∷ es) (ends_of-set ys i x nx read same)

-- these have the same ends
record AreAlike (xs ys : List SessionState) : Type 0 where
  many : length ys ≡ length xs
  from : (k : ℕ) (x : SessionState) → k < length xs → (get_or ys k x).from ≡ (get_or xs k x).from
  to : (k : ℕ) (x : SessionState) → k < length xs → (get_or ys k x).to ≡ (get_or xs k x).to
  all : ends_of ys ≡ ends_of xs

alike_set : (xs : List SessionState) (i : ℕ) (x nx : SessionState) → i < length xs
    → x ≡ get_or xs i x
    → nx.from ≡ x.from → nx.to ≡ x.to → AreAlike xs (set xs i nx)
alike_set xs i x nx inside read from to = record {
  many = length-set xs i nx;
  from = λ k d lt. elim (set_cases xs i k nx d inside) [
    | inl here ↦
        ap (λ (z : SessionState). z.from) here.1 ∙ from
        ∙ ap (λ (z : SessionState). z.from) (session k d here.0)
    | inr other ↦ ap (λ (z : SessionState). z.from) other.1
  ];
  to = λ k d lt. elim (set_cases xs i k nx d inside) [
    | inl here ↦
        ap (λ (z : SessionState). z.to) here.1 ∙ to
        ∙ ap (λ (z : SessionState). z.to) (session k d here.0)
    | inr other ↦ ap (λ (z : SessionState). z.to) other.1
  ];
  all = ends_of-set xs i x nx read (λ j. record { from = from j; to = to j });
}
  where
    session : (k : ℕ) (d : SessionState) → k ≡ i → x ≡ get_or xs k d
    session k d at =
        read ∙ get_or_default xs i x d inside ∙ ap (λ j. get_or xs j d) (sym at)

alike_itself : (xs : List SessionState) → AreAlike xs xs
alike_itself xs =
    record { many = refl; from = λ k x lt. refl; to = λ k x lt. refl; all = refl }

whole_alike : (nn : Opening) (ss ts : List SessionState) (rs qs : List RibState)
    → IsWhole (state_of nn ss rs) → AreAlike ss ts → length qs ≡ length rs
    → IsWhole (state_of nn ts qs)
whole_alike nn ss ts rs qs w same ribs = record {
  ascending = subst Ascend (sym same.all) w.ascending;
  within = λ k d lt.
      let inside : k < length ss = omega (arith, lt, same.many) in
      let was = w.within k d inside in (
        subst (IsDevice nn.net) (sym (same.from k d inside)) was.0,
        subst (IsDevice nn.net) (sym (same.to k d inside)) was.1,
      );
  ribs = ribs ∙ w.ribs;
  few = w.few;
}

-- ---- what is owed goes by the network, the ends, what was sent and what the sender holds

owed_by-alike : (s t : CoreState) (x y : SessionState) → t.now.net ≡ s.now.net
    → y.from ≡ x.from → y.to ≡ x.to → y.adj_rib_out ≡ x.adj_rib_out
    → (rib t y.from).loc_rib ≡ (rib s x.from).loc_rib → owed_by t y ≡ owed_by s x
owed_by-alike s t x y net from to sent best =
    λ i. owed (net i) (from i) (to i) (sent i) (best i)

best_set : (rs : List RibState) (b d : ℕ) (y ny : RibState) → b < length rs → y ≡ get_or rs b y
    → ny.loc_rib ≡ y.loc_rib
    → (get_or (set rs b ny) d empty_rib).loc_rib ≡ (get_or rs d empty_rib).loc_rib
best_set rs b d y ny inside read best = elim (set_cases rs b d ny empty_rib inside) [
  | inl here ↦
      ap (λ (z : RibState). z.loc_rib) here.1 ∙ best
      ∙ ap (λ (z : RibState). z.loc_rib)
      (read ∙ get_or_default rs b y empty_rib inside
      ∙ ap (λ j. get_or rs j empty_rib) (sym here.0))
  | inr other ↦ ap (λ (z : RibState). z.loc_rib) other.1
]

-- ---- after a receive

received_as-same : {A : Type 0} (f : SessionState → A)
    → ((u : Update) (rest : List (List ℕ)) (x : SessionState) → f (taken_in u rest x) ≡ f x)
    → (mail : List (List ℕ)) (x : SessionState) → f (received_of mail x) ≡ f x
received_as-same f same [] x = refl
received_as-same f same (octets ∷ rest) x =
    elim (update_of octets) as (λ r. f (received_as r rest x) ≡ f x) [
      | Ok u ↦ same u rest x
      | Err fault ↦ refl
    ]

with_all_dirty-best : (mail : List (List ℕ)) (y : RibState)
    → (with_all_dirty mail y).loc_rib ≡ y.loc_rib
with_all_dirty-best [] y = refl
with_all_dirty-best (octets ∷ rest) y =
    elim (update_of octets) as (λ r. (dirty_as r y).loc_rib ≡ y.loc_rib) [
      | Ok u ↦ refl
      | Err fault ↦ refl
    ]

-- ---- after a send

list_sent : (s : CoreState) (x : SessionState) (y : Owed)
    → IsListed (owed_by s x) y
    → IsListed (owed_by s (put_out (message_by s x) x))
    (without_all y (prefixes_of (message_by s x)))
unfolding message_by
list_sent s x y is =
    let m = owed_by s x in
    let hop = (router_of s.now.net x.from).0 in
    let u = packed (rows m) hop in
    subst (λ n. IsListed n (without_all y (prefixes_of u)))
    (sym (owed_after s.now.net x.from x.to x.adj_rib_out (rib s x.from).loc_rib hop))
    (listed-without m y is (prefixes_of u))

-- what is owed over a session doesn't look at other sessions
owed_by-sessions : (nn : Opening) (ss ts : List SessionState) (rs : List RibState)
    (x : SessionState)
    → owed_by (state_of nn ss rs) x ≡ owed_by (state_of nn ts rs) x
unfolding rib
owed_by-sessions nn ss ts rs x = refl

-- ---- the whole state

module _ (nn : Opening) (ss : List SessionState) (rs : List RibState) (index : List SessionEnds)
    (os : List Owed) (is : IsLaid (state_of nn ss rs) index os) where
  pub right_received : (i b : ℕ) (x nx : SessionState) (y ny : RibState) → i < length ss
      → x ≡ get_or ss i x → b < length rs → y ≡ get_or rs b y → nx ≡ received x
      → ny ≡ with_all_dirty x.mail y
      → IsLaid (state_of nn (set ss i nx) (set rs b ny)) index os
  unfolding rib
  right_received i b x nx y ny inside read within read_rib new_x new_y =
      let from =
      ap (λ (z : SessionState). z.from) new_x
      ∙ received_as-same (λ z. z.from) (λ u rest z. refl) x.mail x in
      let to =
      ap (λ (z : SessionState). z.to) new_x
      ∙ received_as-same (λ z. z.to) (λ u rest z. refl) x.mail x in
      let sent =
      ap (λ (z : SessionState). z.adj_rib_out) new_x
      ∙ received_as-same (λ z. z.adj_rib_out) (λ u rest z. refl) x.mail x in
      let best = ap (λ (z : RibState). z.loc_rib) new_y ∙ with_all_dirty-best x.mail y in
      let same = alike_set ss i x nx inside read from to in record {
        whole =
            whole_alike nn ss (set ss i nx) rs (set rs b ny) is.whole same (length-set rs b ny);
        indexed = is.indexed ∙ sym same.all;
        listed = record {
          many = is.listed.many ∙ sym same.many;
          each = λ k d o lt.
              let lt' : k < length ss = omega (arith, lt, same.many) in
              subst (λ m. IsListed m (get_or os k o))
              (sym (owed_by-alike (state_of nn ss rs) (state_of nn (set ss i nx) (set rs b ny))
              (get_or ss k d) (get_or (set ss i nx) k d) refl (same.from k d lt')
              (same.to k d lt')
              (elim (set_cases ss i k nx d inside) [
                | inl here ↦
                    ap (λ (z : SessionState). z.adj_rib_out) here.1 ∙ sent
                    ∙ ap (λ (z : SessionState). z.adj_rib_out)
                    (read ∙ get_or_default ss i x d inside ∙ ap (λ j. get_or ss j d) (sym here.0))
                | inr other ↦ ap (λ (z : SessionState). z.adj_rib_out) other.1
              ])
              (best_set rs b (get_or (set ss i nx) k d).from.0 y ny within read_rib best
              ∙ ap (λ (z : DeviceId). (get_or rs z.0 empty_rib).loc_rib) (same.from k d lt'))))
              (is.listed.each k d o lt');
        };
      }

  pub right_sent : (i : ℕ) (x nx : SessionState) (y ny : Owed) (u : Update) → i < length ss
      → x ≡ get_or ss i x → y ≡ get_or os i y
      → u ≡ message_by (state_of nn ss rs) x → nx ≡ put_out u x
      → ny ≡ without_all y (prefixes_of u)
      → IsLaid (state_of nn (set ss i nx) rs) index (set os i ny)
  right_sent i x nx y ny u inside read read_list first new_x new_y =
      let s = state_of nn ss rs in
      let from = ap (λ (z : SessionState). z.from) new_x in
      let to = ap (λ (z : SessionState). z.to) new_x in
      let same = alike_set ss i x nx inside read from to in
      let many = is.listed.many in
      let inside' : i < length os = omega (arith, inside, many) in
      let was : IsListed (owed_by s x) y =
      subst (λ z. IsListed (owed_by s z) y) (sym read)
      (subst (IsListed (owed_by s (get_or ss i x))) (sym read_list)
      (is.listed.each i x y inside)) in record {
        whole = whole_alike nn ss (set ss i nx) rs rs is.whole same refl;
        indexed = is.indexed ∙ sym same.all;
        listed = record {
          many = length-set os i ny ∙ is.listed.many ∙ sym same.many;
          each = λ k d z lt.
              let lt' : k < length ss = omega (arith, lt, same.many) in
              elim (set_cases ss i k nx d inside) [
                | inl here ↦
                    subst (λ u. IsListed (owed_by (state_of nn (set ss i nx) rs) u)
                    (get_or (set os i ny) k z)) (sym here.1)
                    (subst (IsListed (owed_by (state_of nn (set ss i nx) rs) nx))
                    (sym (ap (λ j. get_or (set os i ny) j z) here.0
                    ∙ get_or-set_same os i ny z inside'))
                    (subst (λ m. IsListed m ny) (owed_by-sessions nn ss (set ss i nx) rs nx)
                    (subst (λ z. IsListed (owed_by s z) ny)
                    (sym (new_x ∙ ap (λ v. put_out v x) first))
                    (subst (IsListed (owed_by s (put_out (message_by s x) x)))
                    (sym (new_y ∙ ap (λ v. without_all y (prefixes_of v)) first))
                    (list_sent s x y was)))))
                | inr other ↦
                    subst (λ u. IsListed (owed_by (state_of nn (set ss i nx) rs) u)
                    (get_or (set os i ny) k z)) (sym other.1)
                    (subst (λ m. IsListed m (get_or (set os i ny) k z))
                    (owed_by-sessions nn ss (set ss i nx) rs (get_or ss k d))
                    (subst (IsListed (owed_by s (get_or ss k d)))
                    (sym (get_or-set_other os i k ny z other.0)) (is.listed.each k d z lt')))
              ];
        };
      }

  -- ---- after a decision

  module _ (d : DeviceId) (start end : ℕ) (places : ArePlacesOf d ss start end) where
    -- the sessions from d have the lists of what they owe
    pub listed_from : (y : RibState) → d.0 < length rs → y ≡ get_or rs d.0 y
        → AreListedFrom nn.net y.loc_rib ss start end os
    unfolding rib
    listed_from y inside read = record {
      each = λ k x z ge lt.
          let u : SessionState = get_or ss k x in
          let from : u.from ≡ d = (same_device-Decides u.from d).0 (places.these k x ge lt) in
          let best : (get_or rs u.from.0 empty_rib).loc_rib ≡ y.loc_rib =
          ap (λ (v : DeviceId). (get_or rs v.0 empty_rib).loc_rib) from
          ∙ sym (ap (λ (v : RibState). v.loc_rib)
          (read ∙ get_or_default rs d.0 y empty_rib inside)) in
          subst (λ b. IsListed (owed nn.net u.from u.to u.adj_rib_out b) (get_or os k z)) best
          (is.listed.each k x z (omega (arith, lt, places.inside)));
    }

    -- and after a decision
    pub right-decide : (ny : RibState) (new : List Owed) → d.0 < length rs
        → AreListedFrom nn.net ny.loc_rib ss start end new → AreElsewhere start end os new
        → IsLaid (state_of nn ss (set rs d.0 ny)) index new
    unfolding rib
    right-decide ny new inside from elsewhere = record {
      whole =
          whole_alike nn ss ss rs (set rs d.0 ny) is.whole (alike_itself ss)
          (length-set rs d.0 ny);
      indexed = is.indexed;
      listed = record {
        many = elsewhere.many ∙ is.listed.many;
        each = λ k x z lt.
            let u : SessionState = get_or ss k x in
            elim (same_device u.from d) as (λ t. same_device u.from d ≡ t
            → IsListed (owed nn.net u.from u.to u.adj_rib_out
            (get_or (set rs d.0 ny) u.from.0 empty_rib).loc_rib) (get_or new k z)) [
              | true ↦ λ t.
                  let at = (same_device-Decides u.from d).0 t in
                  let best : (get_or (set rs d.0 ny) u.from.0 empty_rib).loc_rib ≡ ny.loc_rib =
                  ap (λ (v : DeviceId). (get_or (set rs d.0 ny) v.0 empty_rib).loc_rib) at
                  ∙ ap (λ (v : RibState). v.loc_rib) (get_or-set_same rs d.0 ny empty_rib inside) in
                  subst (λ b. IsListed (owed nn.net u.from u.to u.adj_rib_out b) (get_or new k z))
                  (sym best)
                  (elim (cases_lt k start) [
                    | inl before ↦
                        absurd (true≢false (sym t ∙ places.others k x lt (inl before)))
                    | inr ge ↦ elim (cases_lt k end) [
                      | inl below ↦ from.each k x z ge below
                      | inr past ↦ absurd (true≢false (sym t ∙ places.others k x lt (inr past)))
                    ]
                  ])
              | false ↦ λ t.
                  let other : u.from.0 ≢ d.0 =
                  λ h. true≢false (sym ((same_device-Decides u.from d).1 (λ i. record { 0 = h i }))
                  ∙ t) in
                  let best : (get_or (set rs d.0 ny) u.from.0 empty_rib).loc_rib
                  ≡ (get_or rs u.from.0 empty_rib).loc_rib =
                  ap (λ (v : RibState). v.loc_rib)
                  (get_or-set_other rs d.0 u.from.0 ny empty_rib other) in
                  subst (λ b. IsListed (owed nn.net u.from u.to u.adj_rib_out b) (get_or new k z))
                  (sym best)
                  (subst (IsListed (owed nn.net u.from u.to u.adj_rib_out
                  (get_or rs u.from.0 empty_rib).loc_rib))
                  (sym (elsewhere.same k z (outside k x t))) (is.listed.each k x z lt))
            ] refl;
      };
    }
      where
        outside : (k : ℕ) (x : SessionState) → same_device (get_or ss k x).from d ≡ false
            → (k < start) ⊎ (end ≤ k)
        outside k x t = elim (cases_lt k start) [
          | inl before ↦ inl before
          | inr ge ↦ elim (cases_lt k end) [
            | inl below ↦ absurd (true≢false (sym (places.these k x ge below) ∙ t))
            | inr past ↦ inr past
          ]
        ]

-- ---- whether a call went well or not

on_either : {T E P Q G : Type 0} (r : Result T E) → (P → G) → (Q → G) → OnOk r P → OnErr r Q → G
on_either (Ok x) f g p q = f p
on_either (Err e) f g p q = g q

both_on_err : {T E : Type 0} (P Q : Type 0) (r : Result T E) → OnErr r P → OnErr r Q
    → OnErr r (P × Q)
both_on_err P Q (Ok x) p q = tt
both_on_err P Q (Err e) p q = (p, q)

both_on_ok : {T E : Type 0} (P Q : Type 0) (r : Result T E) → OnOk r P → OnOk r Q
    → OnOk r (P × Q)
both_on_ok P Q (Ok x) p q = (p, q)
both_on_ok P Q (Err e) p q = tt

module _ (nn : Opening) (ss : List SessionState) (rs : List RibState) (index : List SessionEnds)
    (os : List Owed) (is : IsLaid (state_of nn ss rs) index os) {T E : Type 0} (r : Result T E)
  where
    -- what is kept is right after a receive, whether or not it could be done
    pub right-receive : (i b : ℕ) (x nx : SessionState) (y ny : RibState) → i < length ss
        → x ≡ get_or ss i x → b < length rs → y ≡ get_or rs b y → OnOk r (nx ≡ received x)
        → OnOk r (ny ≡ with_all_dirty x.mail y) → OnErr r (nx ≡ x) → OnErr r (ny ≡ y)
        → IsLaid (state_of nn (set ss i nx) (set rs b ny)) index os
    right-receive i b x nx y ny inside read within read_rib ok_x ok_y err_x err_y =
        on_either r
        (λ (e : (nx ≡ received x) × (ny ≡ with_all_dirty x.mail y)).
        right_received nn ss rs index os is i b x nx y ny inside read within read_rib e.0 e.1)
        (λ (e : (nx ≡ x) × (ny ≡ y)).
        subst (λ (t : List SessionState × List RibState). IsLaid (state_of nn t.0 t.1) index os)
        (λ j. (
          sym (ap (set ss i) (e.0 ∙ read) ∙ set-get_or ss i x) j,
          sym (ap (set rs b) (e.1 ∙ read_rib) ∙ set-get_or rs b y) j,
        )) is)
        (both_on_ok (nx ≡ received x) (ny ≡ with_all_dirty x.mail y) r ok_x ok_y)
        (both_on_err (nx ≡ x) (ny ≡ y) r err_x err_y)

    -- and after a send
    pub right-send : (i : ℕ) (x nx : SessionState) (y ny : Owed) (u : Update) → i < length ss
        → x ≡ get_or ss i x → y ≡ get_or os i y
        → u ≡ message_by (state_of nn ss rs) x → OnOk r (nx ≡ put_out u x)
        → OnOk r (ny ≡ without_all y (prefixes_of u)) → OnErr r (nx ≡ x) → OnErr r (ny ≡ y)
        → IsLaid (state_of nn (set ss i nx) rs) index (set os i ny)
    right-send i x nx y ny u inside read read_list first ok_x ok_y err_x err_y =
        on_either r
        (λ (e : (nx ≡ put_out u x) × (ny ≡ without_all y (prefixes_of u))).
        right_sent nn ss rs index os is i x nx y ny u inside read read_list first e.0 e.1)
        (λ (e : (nx ≡ x) × (ny ≡ y)).
        subst (λ (t : List SessionState × List Owed). IsLaid (state_of nn t.0 rs) index t.1)
        (λ j. (
          sym (ap (set ss i) (e.0 ∙ read) ∙ set-get_or ss i x) j,
          sym (ap (set os i) (e.1 ∙ read_list) ∙ set-get_or os i y) j,
        )) is)
        (both_on_ok (nx ≡ put_out u x) (ny ≡ without_all y (prefixes_of u)) r ok_x ok_y)
        (both_on_err (nx ≡ x) (ny ≡ y) r err_x err_y)

-- ---- whether a session owes something

twice : (b : Bool) → not (not b) ≡ b
twice true = refl
twice false = refl

-- a session owes something exactly where its lists aren't empty
pub owes-listed : (nn : Opening) (ss : List SessionState) (rs : List RibState)
    (index : List SessionEnds)
    (os : List Owed)
    → IsLaid (state_of nn ss rs) index os → (s : CoreState) → state_of nn ss rs ≡ s
    → (i : ℕ) (y : Owed) (b : Bool) → i < length s.sessions → y ≡ get_or os i y
    → b ≡ ((fin.len y.withdrawals == 0) && (fin.len y.announcements == 0))
    → (x : SessionState) → not b ≡ owes s (get_or s.sessions i x)
owes-listed nn ss rs index os is s v i y b inside read empty x =
    let listed : AreListed s os = subst (λ (t : CoreState). AreListed t os) v is.listed in
    let m = owed_by s (get_or s.sessions i x) in
    ap not (empty ∙ is_empty-listed m y
    (subst (IsListed m) (sym read) (listed.each i x y inside)))
    ∙ twice (owes s (get_or s.sessions i x))
