-- How the state lies in memory: in an order in which a session is found by its place in an index.
use Rattle.std.specs.Prelude.{◌≡◌, ◌⊎◌, ℕ, ◌<◌, ◌≤◌, true, false, List, length, slice_index_or, All}
use Rattle.cn_base.specs.declared.ids.DeviceId.{DeviceId}
use Rattle.cn_net.specs.Network.{IsDevice, same_device}
use Rattle.cn_net.specs.Sessions.{Ascend}
use Rattle.cn_core.specs.Start.{ends_of}
use Rattle.cn_core.specs.State.{CoreState, SessionState, is_session}

-- the sessions ascend strictly by their ends, which are devices, and each device has what it holds
pub record IsWhole (s : CoreState) : Type 0 where
  pub ascending : Ascend (ends_of s.sessions)
  pub within : All (λ x. IsDevice s.now.net x.from × IsDevice s.now.net x.to) s.sessions
  pub ribs : length s.ribs ≡ length s.now.net.devices
  pub few : length s.now.net.devices ≤ 4096

-- the first session from a to b stands at place i
pub record IsPlaceOf (a b : DeviceId) (xs : List SessionState) (i : ℕ) : Type 0 where
  pub inside : i < length xs
  pub here : (d : SessionState) → is_session a b (slice_index_or xs i d) ≡ true
  pub before : (k : ℕ) (d : SessionState) → k < i → is_session a b (slice_index_or xs k d) ≡ false

-- no session is one from a to b
abbrev pub IsNowhere : DeviceId → DeviceId → List SessionState → Type 0
IsNowhere a b xs =
    (k : ℕ) (d : SessionState) → k < length xs → is_session a b (slice_index_or xs k d) ≡ false

-- the sessions from d stand at the places from `start` up to `end`
pub record ArePlacesOf (d : DeviceId) (xs : List SessionState) (start end : ℕ) : Type 0 where
  pub inside : end ≤ length xs
  pub these : (k : ℕ) (x : SessionState) → start ≤ k → k < end
      → same_device (slice_index_or xs k x).from d ≡ true
  pub others : (k : ℕ) (x : SessionState) → k < length xs → (k < start) ⊎ (end ≤ k)
      → same_device (slice_index_or xs k x).from d ≡ false
