-- Devices that are kept one after another.
use Rattle.std.proofs.Common.{◌≡◌, ◌+◌, ℕ, Bool, true, false, cond, List, [], append-nil, map, ◌∷◌, ◌++◌, length, sym, ap, ◌∙◌, arith}
use Rattle.std.specs.List.{filter, range_with_len}
use Rattle.std.proofs.lemmas.Bool.{cond-false, cond-true}
use Rattle.std.proofs.lemmas.List.FromFn.{filter_of_map_range_with_len_more}
use Rattle.cn_base.specs.declared.ids.DeviceId.{DeviceId}
use Rattle.cn_net.specs.Network.{Network, device_ids}

-- the first n devices
abbrev pub ids : ℕ → List DeviceId
ids n = map (λ k. record { 0 = k }) (range_with_len 0 n)

pub all_ids : (net : Network) (n : ℕ) → n ≡ length net.devices → ids n ≡ device_ids net
unfolding device_ids
all_ids net n e = ap ids e

module _ (p : DeviceId → Bool) (n : ℕ) (before after : List DeviceId) (d : DeviceId)
    (here : d ≡ record { 0 = n }) where
  more : filter p (ids (n + 1))
      ≡ filter p (ids n) ++ cond (p (record { 0 = n })) (record { 0 = n } ∷ []) []
  more = filter_of_map_range_with_len_more p (λ k. record { 0 = k }) 0 n n (omega arith)

  pub kept_more : before ≡ filter p (ids n) → p d ≡ true → after ≡ before ++ d ∷ []
      → after ≡ filter p (ids (n + 1))
  kept_more so passes is =
      let id : DeviceId = record { 0 = n } in
      let one : cond (p id) (id ∷ []) [] ≡ d ∷ [] =
      cond-true (p id) (id ∷ []) [] (ap p (sym here) ∙ passes) ∙ (λ i. sym here i ∷ []) in
      is ∙ (λ i. so i ++ sym one i) ∙ sym more

  pub kept_same : before ≡ filter p (ids n) → p d ≡ false → before ≡ filter p (ids (n + 1))
  kept_same so fails =
      let id : DeviceId = record { 0 = n } in
      let none : cond (p id) (id ∷ []) [] ≡ [] =
      cond-false (p id) (id ∷ []) [] (ap p (sym here) ∙ fails) in
      so ∙ sym (append-nil (filter p (ids n))) ∙ (λ i. filter p (ids n) ++ sym none i) ∙ sym more
