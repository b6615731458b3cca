-- The trace of a history. Every line ends with one line feed.
use Rattle.std.specs.Prelude.{ℕ, codes, List, ◌++◌, flat_map}
use Rattle.std.specs.Fmt.{decimal}
use Rattle.cn_net.specs.Network.{Network, name_of}
use Rattle.cn_core.specs.declared.event.Event.{Event}
use Rattle.cn_core.specs.declared.event.Event.TheVariants.{Receive, Decide, Send}
use Rattle.cn_core.specs.declared.event.Step.{Step}
use Rattle.cn_core.specs.declared.event.Step.TheVariants.{Work, Mark}
use Rattle.cn_text.specs.Printed.{newline, pair_text, prefix_text}

-- what happened: a message received, a decision made, or a message sent
abbrev pub event_text : Network → Event → List ℕ
event_text net (Receive from to) = codes "receive " ++ pair_text (name_of net from) (name_of net to)
event_text net (Decide device prefix) =
    codes "decide " ++ name_of net device ++ codes " " ++ prefix_text prefix
event_text net (Send from to) = codes "send " ++ pair_text (name_of net from) (name_of net to)

-- an event, or the mark behind a command
abbrev pub step_text : Network → Step → List ℕ
step_text net (Work event) = event_text net event
step_text net (Mark k) = codes "mark " ++ decimal k

-- the line of a step
abbrev pub step_line : Network → Step → List ℕ
step_line net step = step_text net step ++ newline

-- the line that names the format, and the lines of the steps
abbrev pub trace_text : Network → List Step → List ℕ
trace_text net history = codes "trace 1" ++ newline ++ flat_map (step_line net) history
