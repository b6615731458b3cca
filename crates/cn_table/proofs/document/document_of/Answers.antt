use Rattle.cn_table.proofs.Documents.{not_text, is_table, no_table}
use Rattle.cn_table.proofs.document.document_of.Goals as goal

pub returns-in-Err : goal.returns-in-Err
returns-in-Err c = not_text c.args.bytes.now c.in-Err.ensures.cases.0

pub returns-in-Ok-table_from_str : goal.returns-in-Ok-table_from_str
returns-in-Ok-table_from_str c =
    is_table c.args.bytes.now c.in-Ok.text.now _ c.in-Ok.ensures.cases.0 c.in-Ok.ensures.cases.1
    c.in-Ok-table_from_str.ensures.ok

pub returns-else-is_memory : goal.returns-else-is_memory
returns-else-is_memory c =
    no_table c.args.bytes.now c.in-Ok.text.now c.in-Ok.ensures.cases.0 c.in-Ok.ensures.cases.1
    (c.in-Err-table_from_str.ensures.refused
    (λ m. let t = c.is_memory.ensures.1 m in let f = c.if-is_memory.false in cc (t, f)))
