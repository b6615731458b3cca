use Rattle.std.proofs.Common.{◌≡◌, take, map}
use Rattle.cn_record.specs.Places.{place_of}
use Rattle.cn_record.proofs.places.row_devices.Given as goal

abbrev pub invariant-loop-row : goal.invariant-loop-row
invariant-loop-row l = l.places.items ≡ map place_of (take l.row-index l.rows)
