use Rattle.cn_text.specs.Printed.{path_text}
use Rattle.cn_text.proofs.Paths.{path_spells, path_reads}
use Rattle.cn_text.proofs.Steps.{taken_part}
use Rattle.cn_text.proofs.Wholes.{path_is_text, path_of-path_text}
use Rattle.cn_text.proofs.path.path_has_one_spelling.Goals as goal

pub returns : goal.returns
returns c = record {
  read_is_printed =
      λ bytes at path after e.
      let h = path_spells bytes at (path, after) e in
      (h.1, taken_part bytes (path_text path) at after h.0);
  printed_is_read = λ bytes tail at path e is h g. path_reads bytes tail at path e is h g;
  whole_is_printed = λ text path e. path_is_text text path e;
  printed_is_whole = λ path is. path_of-path_text path is;
}
