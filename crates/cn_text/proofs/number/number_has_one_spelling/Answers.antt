use Rattle.cn_text.proofs.Spelling.{read_is_printed}
use Rattle.cn_text.proofs.Printed.{printed_is_read}
use Rattle.cn_text.proofs.number.number_has_one_spelling.Goals as goal

pub returns : goal.returns
returns c = record {
  read_is_printed = λ bytes at max n after small e. read_is_printed bytes at max n after small e;
  printed_is_read = λ n max at tail le small h. printed_is_read n max at tail le small h;
}
