use Rattle.std.proofs.Common.{subst, arith}
use Rattle.cn_wire.specs.Reading.{Gives}
use Rattle.cn_wire.proofs.Again.{update_again}
use Rattle.cn_wire.proofs.Answered.{found_of, fault_is}
use Rattle.cn_wire.proofs.message.decode.Goals as goal

pub returns-clause-found : goal.returns-clause-found
returns-clause-found c =
    found_of c.args.bytes.now c.read.result (λ i. omega (arith, c.type_inv.bytes i)) c.read.ensures

pub returns-clause-only : goal.returns-clause-only
returns-clause-only c =
    λ u s.
    subst (λ r. Gives (λ x. x) c.read.result r) (update_again c.args.bytes.now u s) c.read.ensures

pub returns-clause-fault : goal.returns-clause-fault
returns-clause-fault c = λ f e. fault_is c.args.bytes.now c.read.result f e c.read.ensures
