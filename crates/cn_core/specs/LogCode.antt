-- How a log is coded, so that it may be what a value stands for.
use Rattle.std.specs.Prelude.{List, refl}
use Rattle.std.specs.Coded.{Coded, code_by, coded×, coded_list}
use Rattle.cn_record.specs.Recorded.{RecordedOpening}
use Rattle.cn_record.specs.contracts.recorded.Recorded as a_recorded
use Rattle.cn_core.specs.contracts.event.Step as a_step
use Rattle.cn_core.specs.declared.event.Step.{Step}
use Rattle.cn_core.specs.Log.{Log}

abbrev pub log_code : Coded Log
log_code =
    code_by (RecordedOpening × List Step)
    (coded× a_recorded.the_row.coded (coded_list a_step.the_row.coded))
    (λ l. (l.recorded, l.history)) (λ p. record { recorded = p.0; history = p.1 }) (λ _. refl)
