-- What an event does to the session and the device that it touches, in total functions.
use Rattle.std.specs.Prelude.{ℕ, List, [], ◌∷◌, Result, Ok, Err}
use Rattle.cn_rib.specs.Updates.{prefixes_of}
use Rattle.cn_wire.specs.Reading.{update_of}
use Rattle.cn_wire.specs.declared.fault.WireFault.{WireFault}
use Rattle.cn_wire.specs.declared.update.Update.{Update}
use Rattle.cn_core.specs.Machine.{with_dirty, taken_in}
use Rattle.cn_core.specs.State.{RibState, SessionState}

-- an update that was read is taken in
abbrev pub received_as : Result Update WireFault → List (List ℕ) → SessionState → SessionState
received_as (Ok u) rest x = taken_in u rest x
received_as (Err fault) rest x = x

abbrev pub received_of : List (List ℕ) → SessionState → SessionState
received_of [] x = x
received_of (octets ∷ rest) x = received_as (update_of octets) rest x

-- the first message is taken in
abbrev pub received : SessionState → SessionState
received x = received_of x.mail x

abbrev pub dirty_as : Result Update WireFault → RibState → RibState
dirty_as (Ok u) x = with_dirty x (prefixes_of u)
dirty_as (Err fault) x = x

-- the prefixes of the first message are dirty
abbrev pub with_all_dirty : List (List ℕ) → RibState → RibState
with_all_dirty [] x = x
with_all_dirty (octets ∷ rest) x = dirty_as (update_of octets) x
