use Rattle.std.proofs.Common.{◌∙◌, ap, subst}
use Rattle.std.specs.Prelude.{IfOk}
use Rattle.cn_record.specs.Recorded.{RecordedOpening}
use Rattle.cn_core.specs.Log.{Log}
use Rattle.cn_top.specs.Serial.{IsRunOf}
use Rattle.cn_top.proofs.serial.run_script.Goals as goal

pub returns : goal.returns
returns c =
    subst (λ (r : RecordedOpening). IfOk c.run_on.result (IsRunOf r c.args.script.now))
    (ap (λ (l : Log). l.recorded)
    (c.deref_mut.ensures.value ∙ c.in_ok-core.ensures.ok ∙ c.in-Ok.ensures.ok))
    c.run_on.ensures
