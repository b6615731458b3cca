use Rattle.cn_top.proofs.Statuses.{boundary_comes, boundary_only}
use Rattle.cn_top.proofs.status_refused.unsafe_boundary_is_refused.Goals as goal

pub returns : goal.returns
returns c = record {
  only = boundary_only;
  comes = λ form before after result outcome opens unsafe tells calm.
      boundary_comes form before after result outcome tells calm opens unsafe;
}
