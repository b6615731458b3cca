use Rattle.std.specs.String.{string_bytes}
use Rattle.cn_outside.specs.declared.calls.CallKind.TheVariants.{Read, FailedRead, Write, FailedWrite}
use Rattle.cn_outside.proofs.Counts.{moves_of, noted}
use Rattle.cn_outside.proofs.calls.Calls.note.Goals as goal

pub returns : goal.returns
returns c =
    let kind = c.args.kind in
    let name = string_bytes c.args.name in
    let before = c.args.self.now.made.items in
    let after = c.push.new.self.items in
    let h =
    noted (record { kind = kind; name = c.args.name }) before after
    (rw c.unwrap.ensures at c.push.ensures.items) in
    record {
      reads = moves_of Read kind name before after h;
      read_faults = moves_of FailedRead kind name before after h;
      writes = moves_of Write kind name before after h;
      write_faults = moves_of FailedWrite kind name before after h;
      made = h.count;
    }
