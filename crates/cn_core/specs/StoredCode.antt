-- How the stored state is coded, so that it may be what a value stands for.
use Rattle.std.specs.Prelude.{List, refl}
use Rattle.std.specs.Coded.{Coded, code_by, coded×, coded_list}
use Rattle.cn_base.specs.contracts.ids.Asn as an_asn
use Rattle.cn_base.specs.declared.ids.Asn.{Asn}
use Rattle.cn_net.specs.Opening.{Opening}
use Rattle.cn_net.specs.contracts.certified.Certified as an_opening
use Rattle.cn_core.specs.contracts.session.Rib as a_rib
use Rattle.cn_core.specs.contracts.session.Session as a_session
use Rattle.cn_core.specs.declared.session.Rib.{Rib}
use Rattle.cn_core.specs.declared.session.Session.{Session}
use Rattle.cn_core.specs.Stored.{Stored}

abbrev pub stored_code : Coded Stored
stored_code =
    code_by (Opening × (List (List Asn) × (List Session × List Rib)))
    (coded× an_opening.the_row.coded
    (coded× (coded_list (coded_list an_asn.the_row.coded))
    (coded× (coded_list a_session.the_row.coded) (coded_list a_rib.the_row.coded))))
    (λ s. (s.now, (s.pool, (s.sessions, s.ribs))))
    (λ p. record { now = p.0; pool = p.1.0; sessions = p.1.1.0; ribs = p.1.1.1 }) (λ _. refl)
