use Rattle.cn_net.proofs.Inside.{records_alike}
use Rattle.cn_net.proofs.alike.inside_changes_no_records.Goals as goal

pub returns : goal.returns
returns c = records_alike
