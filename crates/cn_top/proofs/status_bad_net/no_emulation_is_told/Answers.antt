use Rattle.cn_open.specs.declared.fault.OpenFault.TheVariants.{Net}
use Rattle.cn_top.proofs.Statuses.{fault_comes, net_only}
use Rattle.cn_top.proofs.status_bad_net.no_emulation_is_told.Goals as goal

pub returns : goal.returns
returns c = record {
  only = net_only;
  comes = λ form before after result draft fault outcome opens has tells calm.
      fault_comes form before after result outcome tells calm (Net draft fault) opens has;
}
