use Rattle.std.proofs.Common.{◌≡◌, take}
use Rattle.cn_trace.specs.Trace.{trace_text}
use Rattle.cn_trace.proofs.trace.write_trace.Given as goal

abbrev pub invariant-loop-step : goal.invariant-loop-step
invariant-loop-step l = l.text.items ≡ trace_text l.net (take l.step-index l.history)
