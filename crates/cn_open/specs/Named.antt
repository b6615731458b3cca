-- What a plan is once its names are known.
use Rattle.std.specs.Prelude.{◌≡◌, ℕ, List}
use Rattle.std.specs.List.Sorted.{IsPermutation}
use Rattle.cn_net.specs.Drafted.{draft_of}
use Rattle.cn_net.specs.Network.{Network}
use Rattle.cn_net.specs.Valid.{IsValid}
use Rattle.cn_plan.specs.declared.selection.Selection.{Selection}
use Rattle.cn_readnet.specs.declared.plan.NetText.{NetText}
use Rattle.cn_record.specs.Rows.{AscendsByPair}
use Rattle.cn_record.specs.declared.saved.Row.{Row}
use Rattle.cn_open.specs.Emulation.{HaveNoRepeat, ReadAs, ReadsPlan}
use Rattle.cn_open.specs.Selection.{IsSelectionOf, IsWithin}
use Rattle.cn_open.specs.declared.naming.Named.{Named}

-- these rows are the plan's, at most one for each device and prefix, by device and then by prefix
pub record AreRowsOf (net : Network) (text : NetText) (saved : List Row) : Type 0 where
  pub rows : List Row
  pub read : ReadAs net text.rows rows
  pub once : HaveNoRepeat rows
  pub moved : IsPermutation rows saved
  pub ascending : AscendsByPair saved

-- A plan as it is read describes a valid network, whose devices and links read as the plan's; the
-- selection names devices of it, as the plan does; and the rows are the plan's.
pub record IsNamedAs (text : NetText) (net : Network) (selection : Selection)
    (saved : List Row) : Type 0 where
  pub draft : draft_of net ≡ text.draft
  pub valid : IsValid net
  pub selects : IsSelectionOf net text.selection selection
  pub within : IsWithin net selection
  pub rows : AreRowsOf net text saved

-- a plan is read from the text, and this is what it names
abbrev pub IsNamed : List ℕ → Named → Type 0
IsNamed bytes n =
    (text : NetText) × ReadsPlan bytes text × (n.draft ≡ text.draft)
    × IsNamedAs text n.net n.selection n.saved
