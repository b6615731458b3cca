-- What is first wrong with a plan's text, in the way of opening it.
use Rattle.std.specs.Prelude.{◌≡◌, ℕ, ◌≤◌, ◌<◌, List, length, Err}
use Rattle.cn_net.specs.Network.{Network}
use Rattle.cn_plan.specs.Boundary.{BoundaryFault, IsFirstFault, of_certificate, of_record}
use Rattle.cn_readnet.specs.Plan.{plan_of}
use Rattle.cn_readnet.specs.declared.plan.NetText.{NetText}
use Rattle.cn_open.specs.Depth.{Depth, named, sound}
use Rattle.cn_open.specs.Emulation.{Emulation, ReadsPlan, StandsFor, is_outside, plan_limit}
use Rattle.cn_open.specs.Faults.{IsPlanFault}
use Rattle.cn_open.specs.declared.fault.OpenAnswer.{OpenAnswer}
use Rattle.cn_open.specs.declared.fault.OpenAnswer.TheVariants.{Fault, Memory}
use Rattle.cn_open.specs.declared.fault.OpenFault.{OpenFault}
use Rattle.cn_open.specs.declared.fault.OpenFault.TheVariants.{NoPlan, Net, Refused, Unsound}
use Rattle.cn_open.specs.declared.fault.TextFault.{TextFault}
use Rattle.cn_open.specs.declared.fault.TextFault.TheVariants.{TooLong, Bad}

-- no plan is read from the text: it is too long, or else it has this first fault
abbrev pub IsTextFault : List ℕ → TextFault → Type 0
IsTextFault bytes (TooLong limit) = (limit ≡ plan_limit) × (plan_limit < length bytes)
IsTextFault bytes (Bad answer) = (length bytes ≤ plan_limit) × (plan_of bytes ≡ Err answer)

-- the bytes stand for an emulation with this network, and this is the first fault of its boundary;
-- a plan that is opened up to its names has none
abbrev pub HasFirstFault : Depth → List ℕ → Network → BoundaryFault → Type 0
HasFirstFault named bytes net fault = ⊥
HasFirstFault sound bytes net fault =
    (e : Emulation) × StandsFor bytes e × (net ≡ e.net)
    × IsFirstFault e.net (is_outside e) e.rows fault

-- No plan is read from the text, for this reason; or the plan that is read has this fault; or the
-- certificate of its boundary is first refused for this; or this is the first record that isn't
-- sound.
abbrev pub IsOpenFault : Depth → List ℕ → OpenFault → Type 0
IsOpenFault depth bytes (NoPlan why) = IsTextFault bytes why
IsOpenFault depth bytes (Net draft fault) =
    (text : NetText) × ReadsPlan bytes text × (draft ≡ text.draft) × IsPlanFault depth text fault
IsOpenFault depth bytes (Refused net refusal) =
    HasFirstFault depth bytes net (of_certificate refusal)
IsOpenFault depth bytes (Unsound net d p held wanted) =
    HasFirstFault depth bytes net (of_record d p held wanted)

-- the boundary is at fault
abbrev pub IsBoundaryFault : OpenFault → Type 0
IsBoundaryFault (NoPlan why) = ⊥
IsBoundaryFault (Net draft fault) = ⊥
IsBoundaryFault (Refused net refusal) = Unit {0}
IsBoundaryFault (Unsound net d p held wanted) = Unit {0}

-- what an answer says of its fault; want of memory says nothing
abbrev pub IsAnswerOf : (OpenFault → Type 0) → OpenAnswer → Type 0
IsAnswerOf says (Fault fault) = says fault
IsAnswerOf says Memory = Unit {0}
