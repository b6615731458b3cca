-- A script, and what comes of it in the serial order.
use Rattle.std.specs.Prelude.{◌≡◌, ℕ, ◌+◌, ◌≤◌, List, [], ◌∷◌, length, Ok}
use Rattle.cn_core.specs.declared.answer.Answer.{Answer}
use Rattle.cn_core.specs.declared.event.Step.{Step}
use Rattle.cn_core.specs.Play.{AreAnswers, IsPlay}
use Rattle.cn_net.specs.Network.{Network}
use Rattle.cn_readscript.specs.Script.{script_of}
use Rattle.cn_change.specs.declared.command.Command.{Command}
use Rattle.cn_record.specs.Recorded.{RecordedOpening}
use Rattle.cn_report.specs.Answers.{answer_text}
use Rattle.cn_serial.specs.Serial.{IsSerial}
use Rattle.cn_trace.specs.Trace.{trace_text}
use Rattle.cn_top.specs.declared.serial.Run.{Run}

-- ---- scripts

-- the longest text of a script, in octets
abbrev pub script_limit : ℕ
script_limit = 16777216

-- the text is short enough, and these commands are read from it
pub record ReadsScript (bytes : List ℕ) (commands : List Command) : Type 0 where
  pub short : length bytes ≤ script_limit
  pub read : script_of bytes ≡ Ok commands

abbrev pub ReadsNoScript : List ℕ → Type 0
ReadsNoScript bytes = (commands : List Command) → ReadsScript bytes commands → ⊥

-- ---- runs

-- the texts of the answers to these commands, of which the first has number k
abbrev pub answer_texts : Network → ℕ → List Command → List Answer → List (List ℕ)
answer_texts net k [] answers = []
answer_texts net k (c ∷ cs) [] = []
answer_texts net k (c ∷ cs) (a ∷ more) = answer_text net k c a ∷ answer_texts net (k + 1) cs more

-- What comes of a script in the serial order from a recorded opening: the trace of its serial play,
-- and the texts of the answers along it. There is one serial play (`serial_play` of `cn_serial`),
-- and it is a play: each event was enabled where it happened, and the parts are those that the
-- commands allow. A pull that is answered quiet shows the tables of the emulated devices in the one
-- stable state of the whole network (`IsPulled`).
pub record IsRunOf (r : RecordedOpening) (commands : List Command) (run : Run) : Type 0 where
  pub history : List Step
  pub serial : IsSerial r commands history
  pub play : IsPlay r commands history
  pub answers : List Answer
  pub answered : AreAnswers r commands history answers
  pub traced : run.trace ≡ trace_text r.opening.net history
  pub told : run.texts ≡ answer_texts r.opening.net 1 commands answers
