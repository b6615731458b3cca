-- Along one history a script has one list of answers.
use Rattle.std.proofs.Common.{◌≡◌, List, [], ◌∷◌, All, refl, sym, ap, ◌∙◌}
use Rattle.cn_change.specs.declared.command.Command.{Command}
use Rattle.cn_change.specs.declared.command.Command.TheVariants as command
use Rattle.cn_net.specs.Network.{IsDevice}
use Rattle.cn_record.specs.Recorded.{RecordedOpening}
use Rattle.cn_core.specs.declared.answer.Answer.{Answer}
use Rattle.cn_core.specs.declared.answer.Answer.TheVariants.{Done, Pulled}
use Rattle.cn_core.specs.declared.event.Step.{Step}
use Rattle.cn_core.specs.declared.pull.DeviceTable.{DeviceTable}
use Rattle.cn_core.specs.declared.pull.Pull.{Pull}
use Rattle.cn_core.specs.declared.pull.Pull.TheVariants.{Quiet, Again}
use Rattle.cn_core.specs.Log.{Log}
use Rattle.cn_core.specs.Play.{AreAnswersFrom, IsAnswer, behind_mark, through_mark, with_steps}
use Rattle.cn_core.specs.PlayLaws.{OneAnswerLaw}
use Rattle.cn_core.specs.Pulled.{IsPulled, IsQuietAnswer}
use Rattle.cn_core.proofs.OneTable.{one_list}

-- the emulated devices are devices of the network
abbrev pub EmulatesItsOwn : RecordedOpening → Type 0
EmulatesItsOwn r = All (IsDevice r.opening.net) r.opening.emulated

-- the one stable state has one list of tables
quiet_once : (l : Log) (ts us : List DeviceTable) → EmulatesItsOwn l.recorded → IsQuietAnswer l ts
    → IsQuietAnswer l us → ts ≡ us
quiet_once l ts us own h k =
    one_list l.recorded.opening.net h.whole.state k.whole.state
    (h.whole.one k.whole.state k.whole.stable) l.recorded.opening.emulated ts us own h.shown k.shown

-- a pull has one answer: where the state is quiet the tables, and else what is pending
pull_once : (l : Log) (a b : Pull) → EmulatesItsOwn l.recorded → IsPulled l a → IsPulled l b → a ≡ b
pull_once l (Quiet ts) (Quiet us) own h k = ap Quiet (quiet_once l ts us own h k)
pull_once l (Quiet ts) (Again later) own h k = absurd (k.0 h.quiet)
pull_once l (Again first) (Quiet us) own h k = absurd (h.0 k.quiet)
pull_once l (Again first) (Again later) own h k = ap Again (h.1 ∙ sym k.1)

answer_once : (l : Log) (c : Command) (a b : Answer) → EmulatesItsOwn l.recorded → IsAnswer l c a
    → IsAnswer l c b → a ≡ b
answer_once l command.Pull Done b own h k = absurd h
answer_once l command.Pull (Pulled x) Done own h k = absurd k
answer_once l command.Pull (Pulled x) (Pulled y) own h k = ap Pulled (pull_once l x y own h k)
answer_once l (command.Work n) Done Done own h k = refl
answer_once l (command.Work n) Done (Pulled y) own h k = absurd k
answer_once l (command.Work n) (Pulled x) b own h k = absurd h

-- by the script: each command has one answer
answers_from : (l : Log) (cs : List Command) (steps : List Step) (a b : List Answer)
    → EmulatesItsOwn l.recorded → AreAnswersFrom l cs steps a → AreAnswersFrom l cs steps b → a ≡ b
answers_from l [] steps [] [] own h g = refl
answers_from l [] steps [] (y ∷ b) own h g = absurd g
answers_from l [] steps (x ∷ a) b own h g = absurd h
answers_from l (c ∷ cs) steps [] b own h g = absurd h
answers_from l (c ∷ cs) steps (x ∷ a) [] own h g = absurd g
answers_from l (c ∷ cs) steps (x ∷ a) (y ∷ b) own h g =
    let m = with_steps l (through_mark steps) in
    let one = answer_once m c x y own h.0 g.0 in
    let more = answers_from m cs (behind_mark steps) a b own h.1 g.1 in
    λ i. one i ∷ more i

-- the answers to a script along one history are one
pub answers_once : OneAnswerLaw
answers_once r script h answers others own is so =
    answers_from (record { recorded = r; history = [] }) script h answers others own is so
