use Rattle.cn_text.proofs.Words.{origin_is_text, origin_of-origin_text}
use Rattle.cn_text.proofs.origin.origin_has_one_spelling.Goals as goal

pub returns : goal.returns
returns c = record {
  whole_is_printed = λ text origin e. origin_is_text text origin e;
  printed_is_whole = λ origin. origin_of-origin_text origin;
}
