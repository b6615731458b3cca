-- What the laws of stable states say: there is exactly one.
-- Below, `s d` says that d is one of the devices that decide; what the others hold is given.
use Rattle.std.specs.Prelude.{◌≡◌, ◌↔◌, ℕ, suc, ◌<◌, Bool, true, false, length, Some}
use Rattle.cn_base.specs.Cidr.{Cidr}
use Rattle.cn_base.specs.declared.ids.DeviceId.{DeviceId}
use Rattle.cn_base.specs.declared.route.Choice.{Choice}
use Rattle.cn_net.specs.Candidates.{IsBest}
use Rattle.cn_net.specs.Network.{Network, IsDevice}
use Rattle.cn_net.specs.Stable.{Assignment, IsStable, offers_to}

-- each of these devices holds, for one prefix, the best of what the others offer and of its own
abbrev pub IsStableFor : Network → (DeviceId → Bool) → Cidr → Assignment → Type 0
IsStableFor net s p held =
    (b : DeviceId) → IsDevice net b → s b ≡ true
    → IsBest net (offers_to net held b p) b p (held b p)

-- ---- assignments that agree

-- each device holds the same for each prefix
abbrev pub Agree : Network → Assignment → Assignment → Type 0
Agree net x y = (b : DeviceId) (p : Cidr) → IsDevice net b → x b p ≡ y b p

-- each device holds the same for the prefix
abbrev pub AgreeFor : Network → Cidr → Assignment → Assignment → Type 0
AgreeFor net p x y = (b : DeviceId) → IsDevice net b → x b p ≡ y b p

-- each device that isn't one of these holds the same for the prefix
abbrev pub AgreeElsewhere : Network → (DeviceId → Bool) → Cidr → Assignment → Assignment → Type 0
AgreeElsewhere net s p x y = (b : DeviceId) → IsDevice net b → s b ≡ false → x b p ≡ y b p

-- each device holds the same routes to the prefix, as far as their paths are shorter than k
abbrev pub AgreeBelow : Network → Cidr → ℕ → Assignment → Assignment → Type 0
AgreeBelow net p k x y =
    (b : DeviceId) (c : Choice) → IsDevice net b → length c.path < k
    → (x b p ≡ Some c) ↔ (y b p ≡ Some c)

-- ---- exactly one

-- exactly one assignment is stable
pub record HasOneStableState (net : Network) : Type 0 where
  pub state : Assignment
  pub stable : IsStable net state
  pub one : (other : Assignment) → IsStable net other → Agree net state other

-- where the others hold what is given, exactly one assignment to these devices is stable for the
-- prefix
pub record HasOneStableStateFor (net : Network) (s : DeviceId → Bool) (p : Cidr)
    (given : Assignment) : Type 0 where
  pub state : Assignment
  pub elsewhere : AgreeElsewhere net s p state given
  pub stable : IsStableFor net s p state
  pub one : (other : Assignment) → AgreeElsewhere net s p other given → IsStableFor net s p other
      → AgreeFor net p state other

-- ---- how it is reached

-- from x to y, each of these devices decides once for the prefix, and each other one keeps what it
-- holds
pub record DecideOnce (net : Network) (s : DeviceId → Bool) (p : Cidr)
    (x y : Assignment) : Type 0 where
  pub these : (b : DeviceId) → IsDevice net b → s b ≡ true
      → IsBest net (offers_to net x b p) b p (y b p)
  pub others : (b : DeviceId) → IsDevice net b → s b ≡ false → y b p ≡ x b p

-- two sequences in which these devices decide again and again agree, after k times, on all routes
-- shorter than k
abbrev pub RoundsAgree : Network → (DeviceId → Bool) → Cidr → (ℕ → Assignment) → (ℕ → Assignment)
    → Type 0
RoundsAgree net s p x y =
    AgreeElsewhere net s p (x 0) (y 0)
    → ((k : ℕ) → DecideOnce net s p (x k) (x (suc k)))
    → ((k : ℕ) → DecideOnce net s p (y k) (y (suc k)))
    → (k : ℕ) → AgreeBelow net p k (x k) (y k)
