use Rattle.std.proofs.Common.{◌∙◌, ap, sym, subst}
use Rattle.cn_record.specs.Recorded.{RecordedOpening}
use Rattle.cn_core.specs.Log.{Log}
use Rattle.cn_serial.specs.Ran.{IsRan}
use Rattle.cn_serial.proofs.serial.run_serial.Goals as goal

pub returns : goal.returns
returns c =
    subst (λ (l : Log). IsRan c.args.recorded c.args.script.now
    (record { core = l; answers = c.in_ok-answers.answers })) (sym c.into_inner.ensures)
    (subst (λ (r : RecordedOpening). IsRan r c.args.script.now
    (record { core = c.answered.new.core; answers = c.in_ok-answers.answers }))
    (ap (λ (l : Log). l.recorded)
    (c.deref_mut.ensures.value ∙ c.in_ok-core.ensures.ok ∙ c.in-Ok.ensures.ok))
    c.in_ok-answers.ensures)
