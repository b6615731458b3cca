-- What a pull answers, against the state.
use Rattle.std.proofs.Common.{◌≡◌, ◌<◌, List, length, get_or, not, sym, ap, ◌∙◌, subst, arith}
use Rattle.cn_base.specs.declared.ids.DeviceId.{DeviceId}
use Rattle.cn_base.specs.declared.standing.Standing.{Standing}
use Rattle.cn_base.specs.declared.standing.Standing.TheVariants as stands
use Rattle.std.specs.Prelude.{All}
use Rattle.std.proofs.lemmas.List.{get_or-map, length-map}
use Rattle.cn_net.specs.Boundary.{AgreeInside}
use Rattle.cn_net.specs.Islands.{outside_of}
use Rattle.cn_net.specs.Network.{Network, IsDevice}
use Rattle.cn_net.specs.Stable.{Assignment}
use Rattle.cn_net.proofs.Members.{held}
use Rattle.cn_record.specs.Recorded.{RecordedOpening}
use Rattle.cn_core.specs.declared.event.Step.{Step}
use Rattle.cn_core.specs.declared.pull.DeviceTable.{DeviceTable}
use Rattle.cn_core.specs.Laws.{held_in}
use Rattle.cn_core.specs.Log.{IsState, Log, now}
use Rattle.cn_core.specs.Machine.{state}
use Rattle.cn_core.specs.Order.{IsQuiet, standing}
use Rattle.cn_core.specs.Pulled.{IsQuietAnswer}
use Rattle.cn_core.specs.State.{CoreState}
use Rattle.cn_core.specs.Tables.{AreTables, IsTableOf}
use Rattle.cn_core.proofs.Quiet.{quiet_holds, whole_state}
use Rattle.cn_core.proofs.Stands.{standing_holds}

-- the tables of what devices hold are those of an assignment in which these hold the same
shown_as : (net : Network) (emulated : List DeviceId) (x y : Assignment) (tables : List DeviceTable)
    → All (IsDevice net) emulated → AgreeInside net (outside_of emulated) x y
    → AreTables emulated x tables → AreTables emulated y tables
shown_as net emulated x y tables devices agree shown = record {
  each = shown.each;
  exactly = λ k t lt.
      let u : DeviceTable = get_or tables k t in
      let was : IsTableOf x u = shown.exactly k t lt in
      let many : length emulated ≡ length tables =
      ap length (sym shown.each) ∙ length-map tables (λ t. t.device) in
      let inside : k < length emulated = omega (arith, many, lt) in
      let at : get_or emulated k u.device ≡ u.device =
      ap (λ es. get_or es k u.device) (sym shown.each)
      ∙ get_or-map (λ t. t.device) tables k t u.device lt in
      let is : IsDevice net u.device = subst (IsDevice net) at (devices k u.device inside) in
      let member = held emulated u.device (k, inside, at) in
      record {
        ascending = was.ascending;
        exactly = λ p. was.exactly p ∙ agree u.device p is (ap not member);
      };
}

module _ (r : RecordedOpening) (h : List Step) (t : CoreState) (l : Log) (is : IsState r h t)
    (view : record { recorded = r; history = h } ≡ l) where
  pub pulled_quiet : (emulated : List DeviceId) (tables : List DeviceTable)
      → emulated ≡ r.opening.emulated → stands.Quiet ≡ standing (now l)
      → AreTables emulated (held_in t) tables → IsQuietAnswer l tables
  pulled_quiet emulated tables same stand shown =
      let o = r.opening in
      let quiet : IsQuiet (state r h) =
      (standing_holds r h is.run).0
      (sym (stand ∙ ap (λ (x : Log). standing (now x)) (sym view))) in
      let whole = whole_state r is.recorded in
      let mine : AreTables o.emulated (held_in (state r h)) tables =
      subst (λ s. AreTables o.emulated (held_in s) tables) is.tables
      (subst (λ e. AreTables e (held_in t) tables) same shown) in
      let agree = quiet_holds r h whole.state is.fits is.recorded is.run quiet whole.stable in
      let at : IsQuietAnswer (record { recorded = r; history = h }) tables =
      record {
        quiet = quiet;
        whole = whole;
        shown =
            shown_as o.net o.emulated (held_in (state r h)) whole.state tables
            is.recorded.opening.devices agree mine;
      } in
      subst (λ x. IsQuietAnswer x tables) view at

  pub pulled_again : (pending : Standing) → pending ≡ standing (now l)
      → (pending ≡ stands.Quiet → ⊥) → (IsQuiet (now l) → ⊥) × (pending ≡ standing (now l))
  pulled_again pending stand other =
      let at : state r h ≡ now l = ap now view in (
        λ quiet. other (stand ∙ ap standing (sym at)
            ∙ (standing_holds r h is.run).1 (subst IsQuiet (sym at) quiet)),
        stand,
      )
