use Rattle.cn_open.proofs.Readings.{repeated_row}
use Rattle.cn_open.proofs.naming.recorded.Goals as goal

pub returns-in-Err-clause-fault : goal.returns-in-Err-clause-fault
returns-in-Err-clause-fault c =
    let f = c.in-Err.repeat in
    repeated_row c.args.text.now c.args.net.now c.requires.drafted c.valid.ensures
    c.in_ok-rows.rows.items f.device f.prefix c.in_ok-rows.ensures.known c.in_ok-rows.ensures.rows
    c.in-Err.ensures.fault
