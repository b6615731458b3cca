use Rattle.std.proofs.Common.{refl}
use Rattle.cn_net.proofs.Reloaded.{device_of-with_body, device_of-with_body_other, map-with_body}
use Rattle.cn_net.proofs.changed.with_body_changes_one_device.Goals as goal

pub returns-clause-changed : goal.returns-clause-changed
returns-clause-changed c = λ net d body x is. device_of-with_body net d body x is

pub returns-clause-others : goal.returns-clause-others
returns-clause-others c = λ net d body e apart. device_of-with_body_other net d body e apart

pub returns-clause-names : goal.returns-clause-names
returns-clause-names c = λ net d body. map-with_body net d body (λ x. x.name) (λ x. refl)

pub returns-clause-layers : goal.returns-clause-layers
returns-clause-layers c = λ net d body. map-with_body net d body (λ x. x.layer) (λ x. refl)

pub returns-clause-ids : goal.returns-clause-ids
returns-clause-ids c = λ net d body. map-with_body net d body (λ x. x.id) (λ x. refl)
