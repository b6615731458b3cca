-- The line of a file from which nothing is read. A path leads to the key or the item that is at
-- fault.
use Rattle.std.specs.Prelude.{ℕ, codes, List, [], ◌++◌}
use Rattle.std.specs.Fmt.{decimal, signed_decimal}
use Rattle.cn_open.specs.declared.fault.TextFault.{TextFault}
use Rattle.cn_open.specs.declared.fault.TextFault.TheVariants.{TooLong, Bad}
use Rattle.cn_text.specs.Printed.{newline}
use Rattle.cn_text.specs.declared.answer.TextAnswer.{TextAnswer}
use Rattle.cn_text.specs.declared.answer.TextAnswer.TheVariants as text

-- the first fault of a text; want of memory is none
abbrev pub answer_text : TextAnswer → List ℕ
answer_text text.NotUtf8 = codes "not utf-8"
answer_text text.NotToml = codes "not toml"
answer_text (text.Key path) = codes "key " ++ path
answer_text (text.Shape path) = codes "shape " ++ path
answer_text (text.Value path) = codes "value " ++ path
answer_text (text.Version value) = codes "version " ++ signed_decimal value
answer_text (text.TooLong count) = codes "too many commands " ++ decimal count
answer_text (text.Name name path) = codes "name " ++ name ++ codes " at " ++ path
answer_text text.Memory = []

abbrev pub text_fault_text : TextFault → List ℕ
text_fault_text (TooLong limit) = codes "too long " ++ decimal limit
text_fault_text (Bad answer) = answer_text answer

abbrev pub bad_text_line : List ℕ → TextFault → List ℕ
bad_text_line file why = codes "bad text " ++ file ++ codes ": " ++ text_fault_text why ++ newline
