use Rattle.cn_text.specs.Printed.{prefix_text}
use Rattle.cn_text.proofs.Prefix.{prefix_spells, prefix_reads}
use Rattle.cn_text.proofs.Steps.{taken_part}
use Rattle.cn_text.proofs.Wholes.{prefix_is_text, prefix_of-prefix_text}
use Rattle.cn_text.proofs.atoms.prefix_has_one_spelling.Goals as goal

pub returns : goal.returns
returns c = record {
  read_is_printed =
      λ bytes at p after e.
      let h = prefix_spells bytes at p after e in
      (h.is_cidr, taken_part bytes (prefix_text p) at after h.spells);
  printed_is_read = λ bytes tail at p e small is h. prefix_reads bytes tail at p e small is h;
  whole_is_printed = λ text p e. prefix_is_text text p e;
  printed_is_whole = λ p small is. prefix_of-prefix_text p small is;
}
