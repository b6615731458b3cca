use Rattle.cn_net.specs.Boundary.{IsBounded}
use Rattle.cn_net.specs.Islands.{label_of, outside_of}
use Rattle.cn_net.specs.Opening.{IsOpening, Opening}
use Rattle.cn_net.specs.Stable.{Assignment, IsStable}
use Rattle.cn_net.proofs.Apart.{distinct_ids}
use Rattle.cn_net.proofs.Boundary.{held_as_recorded, refused_by_emulated}
use Rattle.cn_net.proofs.Quiet.{quiet_agrees}
use Rattle.cn_record.specs.Said.{said_by}
use Rattle.cn_record.proofs.Saying.{says_own}
use Rattle.cn_record.proofs.laws.recorded_boundary.Goals as goal

bounded : (o : Opening) (state : Assignment) → IsOpening o → IsStable o.net state
    → IsBounded o.net (outside_of o.emulated) (label_of o.labels) state
bounded o state is stable =
    record { valid = is.valid; labelling = is.labelling; certified = is.certified; stable = stable }

pub returns-clause-outside : goal.returns-clause-outside
returns-clause-outside c =
    λ r state is stable.
    let o = r.opening in
    held_as_recorded o.net (outside_of o.emulated) (label_of o.labels)
    (said_by o r.rows) state (distinct_ids o.net is.opening.valid) is.opening.labelling
    is.opening.certified stable is.sound

pub returns-clause-foreign : goal.returns-clause-foreign
returns-clause-foreign c =
    λ r state is stable.
    let o = r.opening in
    refused_by_emulated o.net (outside_of o.emulated)
    (label_of o.labels) is.opening.labelling is.opening.certified state stable

pub returns-clause-inside : goal.returns-clause-inside
returns-clause-inside c =
    λ r held state is stable quiet.
    let o = r.opening in
    quiet_agrees o.net (outside_of o.emulated) (label_of o.labels)
    (said_by o r.rows) held state (bounded o state is.opening stable) is.sound
    (says_own o.net (label_of o.labels) r.rows) quiet
