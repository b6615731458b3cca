-- The numbers of the devices, one after another.
use Rattle.std.proofs.Common.{◌≡◌, ℕ, suc, ◌+◌, ◌-◌, ◌<◌, ◌≤◌, List, [], ◌∷◌, ◌++◌, length, map, refl, sym, ap, ◌∙◌, arith, append_assoc}
use Rattle.std.specs.List.{range_with_len}
use Rattle.cn_base.specs.declared.ids.DeviceId.{DeviceId}
use Rattle.cn_net.specs.Network.{Network, device_ids}

-- n numbers, from k on
pub ids : ℕ → ℕ → List DeviceId
ids k n = map (λ i. record { 0 = i }) (range_with_len k n)

pub all_ids : (net : Network) → ids 0 (length net.devices) ≡ device_ids net
unfolding ids device_ids
all_ids net = refl

ids_more : (k n : ℕ) → ids k (suc n) ≡ record { 0 = k } ∷ ids (k + 1) n
unfolding ids
ids_more k n = refl

no_ids : (k : ℕ) → ids k 0 ≡ []
unfolding ids
no_ids k = refl

-- the first of those from k up to n, and the rest
pub ids_next : (k n : ℕ) → k < n → ids k (n - k) ≡ record { 0 = k } ∷ ids (k + 1) (n - (k + 1))
ids_next k n h =
    let left : n - k ≡ suc (n - (k + 1)) = omega (arith, h) in
    ap (ids k) left ∙ ids_more k (n - (k + 1))

pub ids_end : (k n : ℕ) → n ≤ k → ids k (n - k) ≡ []
ids_end k n h =
    let left : n - k ≡ 0 = omega (arith, h) in
    ap (ids k) left ∙ no_ids k

-- ---- a list made of them

pub mapped_next : {A : Type 0} (f : DeviceId → A) (old new : List A) (k n : ℕ) → k < n
    → new ≡ old ++ f (record { 0 = k }) ∷ []
    → new ++ map f (ids (k + 1) (n - (k + 1))) ≡ old ++ map f (ids k (n - k))
mapped_next f old new k n h e =
    ap (λ xs. xs ++ map f (ids (k + 1) (n - (k + 1)))) e
    ∙ append_assoc old (f (record { 0 = k }) ∷ []) (map f (ids (k + 1) (n - (k + 1))))
    ∙ ap (λ xs. old ++ map f xs) (sym (ids_next k n h))
