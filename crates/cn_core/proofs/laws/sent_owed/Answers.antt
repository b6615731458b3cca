use Rattle.cn_core.proofs.Sent.{sent_owed_holds}
use Rattle.cn_core.proofs.laws.sent_owed.Goals as goal

pub returns : goal.returns
returns c = sent_owed_holds
