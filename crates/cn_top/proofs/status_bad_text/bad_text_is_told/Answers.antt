use Rattle.cn_open.specs.declared.fault.OpenFault.TheVariants.{NoPlan}
use Rattle.cn_top.proofs.Statuses.{fault_comes, text_only}
use Rattle.cn_top.proofs.status_bad_text.bad_text_is_told.Goals as goal

pub returns : goal.returns
returns c = record {
  only = text_only;
  comes = λ form before after result why outcome opens has tells calm.
      fault_comes form before after result outcome tells calm (NoPlan why) opens has;
}
