-- How files are read.
use Rattle.std.specs.Prelude.{◌≡◌, ◌⊎◌, ℕ, List, [], ◌∷◌}
use Rattle.cn_open.specs.Depth.{sound}
use Rattle.cn_open.specs.OpenFaults.{IsOpenFault}
use Rattle.cn_open.specs.declared.fault.OpenFault.{OpenFault}
use Rattle.cn_outside.specs.Shelf.{Files, MayHold, RisesOnce, SameAtEach}
use Rattle.cn_top.specs.declared.read.FileRead.{FileRead}
use Rattle.cn_top.specs.declared.read.FileRead.TheVariants as read
use Rattle.cn_top.specs.Serial.{ReadsNoScript}
use Rattle.cn_top.specs.declared.wrong.Wrong.{Wrong}
use Rattle.cn_top.specs.declared.wrong.Wrong.TheVariants as wrongs

-- the counts of these names rise by one each: that of a name that is there twice by two
abbrev pub RisesEach : List (List ℕ) → (List ℕ → ℕ) → (List ℕ → ℕ) → Type 0
RisesEach [] before now = SameAtEach before now
RisesEach (name ∷ names) before now =
    (mid : List ℕ → ℕ) × RisesOnce name before mid × RisesEach names mid now

-- each of these names was read once, one that is there twice was read twice, and no read failed
pub record HasRead (names : List (List ℕ)) (before after : Files) : Type 0 where
  pub reads : RisesEach names before.reads after.reads
  pub faults : SameAtEach before.read_faults after.read_faults

-- a read of the name failed, and none was answered
pub record HasNotRead (name : List ℕ) (before after : Files) : Type 0 where
  pub reads : SameAtEach before.reads after.reads
  pub faults : RisesOnce name before.read_faults after.read_faults

-- what is wrong with the text of a plan
abbrev pub IsBadPlan : List ℕ → Wrong → Type 0
IsBadPlan bytes w = (fault : OpenFault) × IsOpenFault sound bytes fault × (w ≡ wrongs.Plan fault)

-- no script is read from the text
abbrev pub IsBadScript : List ℕ → Wrong → Type 0
IsBadScript bytes w = ReadsNoScript bytes × (w ≡ wrongs.NoScript)

-- What the read of one file gives: what its bytes stand for, or what is wrong with them; or the
-- read failed.
abbrev pub ReadsFile : {T : Type 0} → (List ℕ → T → Type 0) → (List ℕ → Wrong → Type 0) → List ℕ
    → Files → Files → FileRead T → Type 0
ReadsFile StandsFor IsBad file before after (read.Good value) =
    ((bytes : List ℕ) × MayHold (before.held file) bytes × StandsFor bytes value)
    × HasRead (file ∷ []) before after
ReadsFile StandsFor IsBad file before after (read.Bad w) =
    ((bytes : List ℕ) × MayHold (before.held file) bytes × IsBad bytes w)
    × HasRead (file ∷ []) before after
ReadsFile StandsFor IsBad file before after read.Unread = HasNotRead file before after

-- memory ran out before the file was read or behind that
abbrev pub MayHaveRead : List ℕ → Files → Files → Type 0
MayHaveRead file before after = HasRead [] before after ⊎ HasRead (file ∷ []) before after
