use Rattle.std.proofs.Common.{sym, ap, ◌∙◌, subst}
use Rattle.cn_record.specs.Recorded.{RecordedOpening}
use Rattle.cn_core.specs.Log.{IsState}
use Rattle.cn_core.specs.Stored.{stands_for}
use Rattle.cn_core.proofs.Logged.{opened}
use Rattle.cn_core.proofs.emulator.Core.start.Goals as goal

pub invariant_of-result : goal.invariant_of-result
invariant_of-result c =
    let here = stands_for c.in-Ok.opened.engine in
    let same = c.of-opening.ensures in (
      subst (λ (r : RecordedOpening). IsState r c.new.result.items here) (sym same)
          (opened c.args.recorded c.new.result.items here c.valid.ensures
          c.numbers_fit.ensures c.new.ensures.items c.in-Ok.ensures.engine),
      c.in-Ok.ensures.emulated ∙ ap (λ (r : RecordedOpening). r.opening.emulated) (sym same),
    )
