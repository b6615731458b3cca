-- What is wrong with a plan as it is read, and what it describes, from what its names gave.
use Rattle.std.proofs.Common.{◌≡◌, ℕ, Bool, not, List, Some, None, sym, subst, ◌∙◌}
use Rattle.std.specs.List.{flat_map}
use Rattle.cn_base.specs.Cidr.{Cidr}
use Rattle.cn_base.specs.declared.ids.DeviceId.{DeviceId}
use Rattle.cn_net.specs.Drafted.{draft_of}
use Rattle.cn_net.specs.Faults.{fault_of}
use Rattle.cn_net.specs.Islands.{IsAscending}
use Rattle.cn_net.specs.Network.{Network}
use Rattle.cn_net.specs.Valid.{IsValid}
use Rattle.cn_net.specs.declared.draft.Draft.{Draft}
use Rattle.cn_net.proofs.Making.{faultless_where}
use Rattle.cn_plan.specs.Selected.{IsSelected, named as devices_named}
use Rattle.cn_plan.specs.declared.selection.Selection.{Selection}
use Rattle.cn_plan.specs.declared.selection.Selection.TheVariants as devices
use Rattle.cn_readnet.specs.declared.plan.NetText.{NetText}
use Rattle.cn_readnet.specs.declared.selection.NameSelection.{NameSelection}
use Rattle.cn_readnet.specs.declared.selection.NameSelection.TheVariants as names
use Rattle.cn_record.specs.Rows.{IsFirstRepeat}
use Rattle.cn_record.specs.declared.saved.Row.{Row}
use Rattle.cn_open.specs.Depth.{named}
use Rattle.cn_open.specs.Emulation.{Chooses, ReadAs, Selects}
use Rattle.cn_open.specs.Faults.{IsKnown, IsPlanFault, first_unknown, is_written, plan_names, row_names, selection_names}
use Rattle.cn_open.specs.Selection.{IsSelectionOf}
use Rattle.cn_open.specs.declared.fault.PlanFault.TheVariants as fault
use Rattle.cn_open.proofs.Names.{find_behind, find_front}

-- ---- what is wrong with a plan whose network is made

module _ (text : NetText) (net : Network) (drafted : draft_of net ≡ text.draft)
    (valid : IsValid net) where
  no_fault : fault_of text.draft ≡ None
  no_fault = faultless_where text.draft (net, valid, drafted)

  -- a name of the selection that no device bears
  pub unknown_chosen : (name : List ℕ)
      → first_unknown (draft_of net) (selection_names text.selection) ≡ Some name
      → IsPlanFault named text (fault.Unknown name)
  unknown_chosen name e =
      let p : List ℕ → Bool = λ n. not (is_written (draft_of net) n) in (
        no_fault,
        subst (λ (d : Draft). first_unknown d (plan_names text) ≡ Some name) drafted
            (find_front p (selection_names text.selection) (flat_map row_names text.rows) name e),
      )

  module _ (known : first_unknown (draft_of net) (selection_names text.selection) ≡ None) where
    names_behind : first_unknown (draft_of net) (plan_names text)
        ≡ first_unknown (draft_of net) (flat_map row_names text.rows)
    names_behind =
        find_behind (λ n. not (is_written (draft_of net) n)) (selection_names text.selection)
        (flat_map row_names text.rows) known

    -- a name of a row that no device bears
    pub unknown_recorded : (name : List ℕ)
        → first_unknown (draft_of net) (flat_map row_names text.rows) ≡ Some name
        → IsPlanFault named text (fault.Unknown name)
    unknown_recorded name e = (
      no_fault,
      subst (λ (d : Draft). first_unknown d (plan_names text) ≡ Some name) drafted
          (names_behind ∙ e),
    )

    -- all names are known
    pub all_known : first_unknown (draft_of net) (flat_map row_names text.rows) ≡ None
        → IsKnown text
    all_known recorded = (
      no_fault,
      subst (λ (x : Draft). first_unknown x (plan_names text) ≡ None) drafted
          (names_behind ∙ recorded),
    )

  -- two rows of one device and prefix
  pub repeated_row : (rows : List Row) (d : DeviceId) (q : Cidr) → IsKnown text
      → ReadAs net text.rows rows → IsFirstRepeat rows d q
      → IsPlanFault named text (fault.Repeat d q)
  repeated_row rows d q known read first = (known, (net, rows, drafted, valid, read, first))

-- ---- the devices that are selected are those that the plan chooses

pub chooses : (net : Network) (selection : NameSelection) (s : Selection) (set : List DeviceId)
    → IsSelectionOf net selection s → IsSelected net s set → Chooses net selection set
chooses net (names.Emulate xs) (devices.Emulate given) set selects is =
    subst (Selects net xs) (sym is) selects
chooses net (names.Emulate xs) (devices.Must given) set selects is = absurd selects
chooses net (names.Must xs) (devices.Emulate given) set selects is = absurd selects
chooses net (names.Must xs) (devices.Must given) set selects (grown, up) = (given, selects, grown)

pub ascends : (net : Network) (s : Selection) (set : List DeviceId) → IsAscending (devices_named s)
    → IsSelected net s set → IsAscending set
ascends net (devices.Emulate given) set up is = subst IsAscending (sym is) up
ascends net (devices.Must given) set up (grown, up') = up'
