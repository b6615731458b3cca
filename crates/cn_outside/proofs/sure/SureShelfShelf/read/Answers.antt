use Rattle.cn_outside.proofs.Counts.{read_counts}
use Rattle.cn_outside.proofs.sure.SureShelfShelf.read.Goals as goal

pub returns-clause-failed : goal.returns-clause-failed
returns-clause-failed c =
    let h =
    read_counts _ c.args.name.now c.args.self.now.calls c.place.new.self
    c.note_read.new.self _ c.place.ensures.same c.place.ensures.count
    c.note_read.ensures c.in_ok-entry.ensures.name in
    h.failed

pub returns-clause-unfailed : goal.returns-clause-unfailed
returns-clause-unfailed c =
    let h =
    read_counts _ c.args.name.now c.args.self.now.calls c.place.new.self
    c.note_read.new.self _ c.place.ensures.same c.place.ensures.count
    c.note_read.ensures c.in_ok-entry.ensures.name in
    h.unfailed

pub returns-clause-answered : goal.returns-clause-answered
returns-clause-answered c =
    let h =
    read_counts _ c.args.name.now c.args.self.now.calls c.place.new.self
    c.note_read.new.self _ c.place.ensures.same c.place.ensures.count
    c.note_read.ensures c.in_ok-entry.ensures.name in
    h.answered

pub returns-clause-unanswered : goal.returns-clause-unanswered
returns-clause-unanswered c =
    let h =
    read_counts _ c.args.name.now c.args.self.now.calls c.place.new.self
    c.note_read.new.self _ c.place.ensures.same c.place.ensures.count
    c.note_read.ensures c.in_ok-entry.ensures.name in
    h.unanswered
