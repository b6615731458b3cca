use Rattle.cn_text.specs.Printed.{address}
use Rattle.cn_text.proofs.Address.{address_spells, address_reads}
use Rattle.cn_text.proofs.Steps.{taken_part}
use Rattle.cn_text.proofs.Wholes.{address_is_text, address_of-address}
use Rattle.cn_text.proofs.atoms.address_has_one_spelling.Goals as goal

pub returns : goal.returns
returns c = record {
  read_is_printed =
      λ bytes at n after e.
      let h = address_spells bytes at n after e in (h.1, taken_part bytes (address n) at after h.0);
  printed_is_read = λ bytes tail at n e small h. address_reads bytes tail at n e small h;
  whole_is_printed = λ text n e. address_is_text text n e;
  printed_is_whole = λ n small. address_of-address n small;
}
