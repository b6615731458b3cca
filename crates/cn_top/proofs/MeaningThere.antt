-- Where something is told of each name, a call has a meaning: that it has none is refuted.
use Rattle.std.proofs.Common.{◌≡◌, ℕ, ◌⊎◌, inl, inr, List, length, Ok, Err, refl, arith}
use Rattle.std.proofs.lemmas.Bool.{cases_lt}
use Rattle.cn_lists.specs.Classical.{Classically}
use Rattle.cn_lists.proofs.Classical.{given, with_found}
use Rattle.cn_change.specs.declared.command.Command.{Command}
use Rattle.cn_core.proofs.AnswersThere.{answers_there}
use Rattle.cn_open.specs.declared.fault.OpenFault.{OpenFault}
use Rattle.cn_open.proofs.There.{opening_there}
use Rattle.cn_outside.specs.Shelf.{Held, IsTold, MayHold, absent, holds, untold}
use Rattle.cn_readscript.specs.Script.{script_of}
use Rattle.cn_record.specs.Recorded.{IsRecorded, RecordedOpening}
use Rattle.cn_serial.proofs.SerialPlay.{serial_play, serial_there}
use Rattle.cn_trace.specs.Trace.{trace_text}
use Rattle.cn_top.specs.Form.{Form, later_form, plan_form, reads_of, serial_form, usage_form}
use Rattle.cn_top.specs.Meaning.{HoldsFault, HoldsNoScript, HoldsOpening, HoldsScript, Meaning, TellsAll, means_missing, means_right, means_usage, means_wrong, plan_deed, run_deed}
use Rattle.cn_top.specs.Serial.{IsRunOf, ReadsNoScript, ReadsScript, answer_texts, script_limit}
use Rattle.cn_top.specs.declared.serial.Run.{Run}
use Rattle.cn_top.specs.declared.wrong.Wrong.TheVariants as wrongs

-- ---- one file

-- what is told of a name is what it holds, or that nothing is there
held_there : (h : Held) → IsTold h → ((bytes : List ℕ) × MayHold h bytes) ⊎ (h ≡ absent)
held_there untold told = absurd told
held_there absent told = inr refl
held_there (holds bytes) told = inl (bytes, refl)

-- the file of a plan opens or has a fault
abbrev OpensOrNot : Held → Type 0
OpensOrNot h = ((r : RecordedOpening) × HoldsOpening h r) ⊎ ((f : OpenFault) × HoldsFault h f)

plan_there : (h : Held) (bytes : List ℕ) → MayHold h bytes → Classically (OpensOrNot h)
plan_there h bytes holding =
    with_found (opening_there bytes) (λ found. elim found [
      | inl (r, opens) ↦ inl (r, record { bytes = bytes; holding = holding; opens = opens })
      | inr (f, is) ↦ inr (f, record { bytes = bytes; holding = holding; faulty = is })
    ])

commands_there : (bytes : List ℕ) → ((cs : List Command) × ReadsScript bytes cs)
    ⊎ ReadsNoScript bytes
commands_there bytes =
    elim (cases_lt script_limit (length bytes)) [
      | inl long ↦ inr (λ cs h. let short = h.short in absurd (omega (arith, long, short)))
      | inr short ↦ elim (script_of bytes) as
          (λ r. script_of bytes ≡ r
          → ((cs : List Command) × ReadsScript bytes cs) ⊎ ReadsNoScript bytes) [
            | Ok cs ↦ λ is. inl (cs, record { short = short; read = is })
            | Err e ↦ λ is. inr (λ cs h. let other = h.read in absurd cc)
          ] refl
    ]

script_there : (h : Held) (bytes : List ℕ) → MayHold h bytes
    → ((cs : List Command) × HoldsScript h cs) ⊎ HoldsNoScript h
script_there h bytes holding =
    elim (commands_there bytes) [
      | inl (cs, script) ↦ inl (cs, record { bytes = bytes; holding = holding; script = script })
      | inr none ↦ inr (record { bytes = bytes; holding = holding; none = none })
    ]

-- ---- one run

run_there : (r : RecordedOpening) (cs : List Command) → IsRecorded r
    → (run : Run) × IsRunOf r cs run
run_there r cs recorded =
    let (history, serial) = serial_there r cs in
    let play = serial_play r cs history serial in
    let (answers, answered) = answers_there r cs history recorded play in (
      record {
        trace = trace_text r.opening.net history;
        texts = answer_texts r.opening.net 1 cs answers;
      },
      record {
        history = history;
        serial = serial;
        play = play;
        answers = answers;
        answered = answered;
        traced = refl;
        told = refl;
      },
    )

opening_recorded : (h : Held) (r : RecordedOpening) → HoldsOpening h r → IsRecorded r
opening_recorded h r o = let (e, stands, opens) = o.opens in opens.recorded

-- ---- by form

module _ (held : List ℕ → Held) where
  plan_means : (file : List ℕ) → IsTold (held file) → Classically (Meaning (plan_form file) held)
  plan_means file told =
      elim (held_there (held file) told) [
        | inl (bytes, holding) ↦
            with_found (plan_there (held file) bytes holding) (λ found. elim found [
              | inl (r, o) ↦
                  means_right (plan_deed r.opening)
                  (record { recorded = r; opening = o; does = refl })
              | inr (f, h) ↦ means_wrong (wrongs.Plan f) (f, h, refl)
            ])
        | inr none ↦
            given (means_missing 0 (record { place = omega arith; good = tt; nothing = none }))
      ]

  module _ (file script trace : List ℕ) where
    abbrev form : Form
    form = serial_form file script trace

    script_means : (r : RecordedOpening) → HoldsOpening (held file) r → IsTold (held script)
        → Meaning form held
    script_means r o told =
        elim (held_there (held script) told) [
          | inl (bytes, holding) ↦ elim (script_there (held script) bytes holding) [
            | inl (cs, scripted) ↦
                let (run, ran) = run_there r cs (opening_recorded (held file) r o) in
                means_right (run_deed trace run) (record {
                  recorded = r;
                  opening = o;
                  commands = cs;
                  scripted = scripted;
                  run = run;
                  ran = ran;
                  does = refl;
                })
            | inr none ↦ means_wrong wrongs.NoScript (inr (r, o, none, refl))
          ]
          | inr none ↦
              means_missing 1 (record { place = omega arith; good = (r, o); nothing = none })
        ]

    serial_means : IsTold (held file) → IsTold (held script) → Classically (Meaning form held)
    serial_means told told' =
        elim (held_there (held file) told) [
          | inl (bytes, holding) ↦
              with_found (plan_there (held file) bytes holding) (λ found. elim found [
                | inl (r, o) ↦ script_means r o told'
                | inr (f, h) ↦ means_wrong (wrongs.Plan f) (inl (f, h, refl))
              ])
          | inr none ↦
              given (means_missing 0 (record { place = omega arith; good = tt; nothing = none }))
        ]

  -- an arm for each command
  pub meaning_there : (form : Form) → TellsAll (reads_of form) held
      → Classically (Meaning form held)
  meaning_there (plan_form file) tells = plan_means file (tells file (inl refl))
  meaning_there (serial_form file script trace) tells =
      serial_means file script trace (tells file (inl refl)) (tells script (inr (inl refl)))
  meaning_there (later_form later) tells = given (means_wrong (wrongs.Later later) refl)
  meaning_there usage_form tells = given (means_usage refl)
