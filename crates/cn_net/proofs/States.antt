-- There is exactly one stable state.
use Rattle.std.proofs.Common.{◌≡◌, ℕ, suc, zero, Bool, true, false, None, refl, sym, ◌∙◌, arith, inl, inr}
use Rattle.std.proofs.lemmas.Bool.{true≢false, cases_Bool}
use Rattle.cn_base.specs.Cidr.{Cidr}
use Rattle.cn_base.specs.declared.ids.DeviceId.{DeviceId}
use Rattle.cn_net.specs.Network.{Network, HasDistinctIds, IsDevice}
use Rattle.cn_net.specs.OneState.{AgreeElsewhere, DecideOnce, HasOneStableState, HasOneStableStateFor, RoundsAgree}
use Rattle.cn_net.specs.Stable.{Assignment}
use Rattle.cn_net.proofs.OneState.{HasShorter, best_followed, one_state_for}
use Rattle.cn_net.proofs.Rounds.{some_state_for}

pub has_one_state_for : (net : Network) (s : DeviceId → Bool) (p : Cidr) (given : Assignment)
    → HasDistinctIds net → HasOneStableStateFor net s p given
has_one_state_for net s p given ids =
    let r = some_state_for net s ids given in
    record {
      state = r.0;
      elsewhere = λ b d t. r.1 b p t;
      stable = r.2 p;
      one =
          λ other same stable. one_state_for net s p r.0 other ids
          (λ b d t. r.1 b p t ∙ sym (same b d t)) (r.2 p) stable;
    }

pub has_one_state : (net : Network) → HasDistinctIds net → HasOneStableState net
has_one_state net ids =
    let r = some_state_for net (λ _. true) ids (λ _ _. None) in
    record {
      state = r.0;
      stable = λ b p d. r.2 p b d refl;
      one =
          λ other stable b p d. one_state_for net (λ _. true) p r.0 other ids
          (λ z dz t. absurd (true≢false t)) (r.2 p) (λ z dz t. stable z p dz) b d;
    }

-- what the devices outside s hold stays
others_stay : (net : Network) (s : DeviceId → Bool) (p : Cidr) (x : ℕ → Assignment)
    → ((k : ℕ) → DecideOnce net s p (x k) (x (suc k))) → (k : ℕ) (b : DeviceId) → IsDevice net b
    → s b ≡ false → x k b p ≡ x 0 b p
others_stay net s p x n zero b d f = refl
others_stay net s p x n (suc k) b d f = (n k).others b d f ∙ others_stay net s p x n k b d f

rounds_follow : (net : Network) (s : DeviceId → Bool) (p : Cidr) (x y : ℕ → Assignment)
    → HasDistinctIds net → AgreeElsewhere net s p (x 0) (y 0)
    → ((k : ℕ) → DecideOnce net s p (x k) (x (suc k)))
    → ((k : ℕ) → DecideOnce net s p (y k) (y (suc k))) → (k : ℕ)
    → HasShorter net p k (x k) (y k) × HasShorter net p k (y k) (x k)
rounds_follow net s p x y ids same nx ny zero =
    (λ b c d l e. absurd (omega arith), λ b c d l e. absurd (omega arith))
rounds_follow net s p x y ids same nx ny (suc k) =
    let ih = rounds_follow net s p x y ids same nx ny k in
    let out = λ (b : DeviceId) (d : IsDevice net b) (f : s b ≡ false). others_stay net s p x nx
    (suc k) b d f ∙ same b d f ∙ sym (others_stay net s p y ny (suc k) b d f) in (
      λ b c d l e. elim (cases_Bool (s b)) [
        | inl t ↦
            best_followed net k (x k) (y k) b p ids ih.0 ih.1 (x (suc k) b p) (y (suc k) b p)
            ((nx k).these b d t) ((ny k).these b d t) c l e
        | inr f ↦ sym (out b d f) ∙ e
      ],
      λ b c d l e. elim (cases_Bool (s b)) [
        | inl t ↦
            best_followed net k (y k) (x k) b p ids ih.1 ih.0 (y (suc k) b p) (x (suc k) b p)
            ((ny k).these b d t) ((nx k).these b d t) c l e
        | inr f ↦ out b d f ∙ e
      ],
    )

pub rounds_come_together : (net : Network) (s : DeviceId → Bool) (p : Cidr) (x y : ℕ → Assignment)
    → HasDistinctIds net → RoundsAgree net s p x y
rounds_come_together net s p x y ids same nx ny k b c d short =
    let both = rounds_follow net s p x y ids same nx ny k in
    (both.0 b c d short, both.1 b c d short)
