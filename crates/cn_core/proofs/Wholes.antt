-- The state after every run lies in the order in which a session is found by its place.
use Rattle.std.proofs.Common.{◌≤◌, length, sym, ap, ◌∙◌, subst}
use Rattle.std.specs.Prelude.{All}
use Rattle.cn_net.specs.Network.{IsDevice}
use Rattle.cn_net.specs.Opening.{Opening}
use Rattle.cn_net.specs.Valid.{IsValid}
use Rattle.cn_record.specs.Recorded.{RecordedOpening}
use Rattle.cn_core.specs.Laws.{IsKept}
use Rattle.cn_core.specs.State.{CoreState, SessionState}
use Rattle.cn_core.specs.Whole.{IsWhole}
use Rattle.cn_core.proofs.Kept.{within}
use Rattle.cn_core.proofs.Searches.{apart}

pub whole_of : (r : RecordedOpening) (s : CoreState) → IsValid r.opening.net → IsKept r s
    → IsWhole s
whole_of r s valid k =
    let now = sym k.now in
    record {
      ascending = apart r.opening s k.ends;
      within =
          subst
          (λ (o : Opening). All (λ (x : SessionState). IsDevice o.net x.from × IsDevice o.net x.to)
          s.sessions) now (within r.opening s k.ends);
      ribs = k.ribs ∙ ap (λ (o : Opening). length o.net.devices) now;
      few = subst (λ (o : Opening). length o.net.devices ≤ 4096) now valid.few_devices;
    }
