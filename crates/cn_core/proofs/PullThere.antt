-- A pull after a run has an answer. Other crates may cite this module.
use Rattle.std.proofs.Common.{◌≡◌, ◌⊎◌, inl, inr, refl}
use Rattle.cn_base.specs.declared.standing.Standing.{Standing}
use Rattle.cn_base.specs.declared.standing.Standing.TheVariants as stands
use Rattle.cn_record.specs.Recorded.{IsRecorded}
use Rattle.cn_core.specs.declared.pull.Pull.{Pull}
use Rattle.cn_core.specs.declared.pull.Pull.TheVariants.{Again, Quiet}
use Rattle.cn_core.specs.Log.{Log, now}
use Rattle.cn_core.specs.Machine.{IsRun}
use Rattle.cn_core.specs.Order.{standing}
use Rattle.cn_core.specs.Pulled.{IsPulled}
use Rattle.cn_core.proofs.Quiet.{whole_state}
use Rattle.cn_core.proofs.StableTables.{tables_there}
use Rattle.cn_core.proofs.Stands.{standing_holds}

quiet_or_pending : (s : Standing) → (s ≡ stands.Quiet) ⊎ (s ≡ stands.Quiet → ⊥)
quiet_or_pending stands.Quiet = inl refl
quiet_or_pending (stands.Mailbox a b) = inr (λ e. absurd cc)
quiet_or_pending (stands.Device d) = inr (λ e. absurd cc)

-- A pull after a run has an answer. Where the state is quiet the tables are made of the one stable
-- state of the whole network, so nothing is asked of the numbers of the opening.
pub pull_there : (l : Log) → IsRecorded l.recorded → IsRun l.recorded l.history
    → (pull : Pull) × IsPulled l pull
pull_there l recorded run =
    let r = l.recorded in
    let stand = standing_holds r l.history run in
    let whole = whole_state r recorded in
    elim (quiet_or_pending (standing (now l))) [
      | inl quiet ↦
          let (tables, shown) =
          tables_there r.opening.net whole.state whole.stable r.opening.emulated
          recorded.opening.devices in
          (Quiet tables, record { quiet = stand.0 quiet; whole = whole; shown = shown })
      | inr pending ↦ (Again (standing (now l)), (λ quiet. pending (stand.1 quiet), refl))
    ]
