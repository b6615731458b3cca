-- The table that bytes are as a text.
use Rattle.std.specs.Prelude.{ℕ, if◌then◌else◌, List, ok_or, Result, Err}
use Rattle.std.specs.Str.{is_utf8}
use Rattle.cn_text.specs.declared.answer.TextAnswer.{TextAnswer}
use Rattle.cn_text.specs.declared.answer.TextAnswer.TheVariants.{NotUtf8, NotToml}
use Rattle.toml.specs.Data.{Members}
use Rattle.toml.specs.Parse.{parse_document}

-- the top table: the bytes are UTF-8, and that text is TOML
unfoldable pub document_of : List ℕ → Result Members TextAnswer
document_of bytes = if is_utf8 bytes then ok_or (parse_document bytes) NotToml else Err NotUtf8
