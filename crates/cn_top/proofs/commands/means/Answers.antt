use Rattle.std.proofs.Common.{[], IfOk, refl, subst, sym}
use Rattle.cn_top.specs.Deed.{deed_view}
use Rattle.cn_top.specs.Form.{later_form}
use Rattle.cn_top.specs.FormView.{form_view}
use Rattle.cn_top.specs.Outcome.{Intends}
use Rattle.cn_top.specs.declared.form.Form as code
use Rattle.cn_top.specs.declared.wrong.Wrong.TheVariants as wrongs
use Rattle.cn_top.proofs.Intents.{intends_wrong}
use Rattle.cn_top.proofs.commands.means.Goals as goal

-- no file is read for a command that isn't built yet
pub returns-in-Later-clause-intends : goal.returns-in-Later-clause-intends
returns-in-Later-clause-intends g c =
    let before = g.S.Shelf.files c.args.shelf.now in
    subst
    (λ (f : code.Form). IfOk c.wrong.result
    (λ d. Intends (form_view f) before before (deed_view d)))
    (sym c.in-Later.is)
    (intends_wrong (later_form c.in-Later.later) before before (wrongs.Later c.in-Later.later) []
    c.wrong.result refl refl (record { reads = λ n. refl; faults = λ n. refl }) c.wrong.ensures)
