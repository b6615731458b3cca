-- The table of bytes, by what the decoder and the parser of their text answer.
use Rattle.std.proofs.Common.{◌≡◌, ℕ, List, Option, Some, None, Ok, Err, ok_or, true, false, sym, ap, ◌∙◌}
use Rattle.std.specs.Str.{IsUtf8, is_utf8}
use Rattle.std.proofs.lemmas.Bool.{false_from_ne_true}
use Rattle.std.proofs.lemmas.Str.{IsUtf8-from_is_utf8, is_utf8-from_IsUtf8}
use Rattle.toml.specs.Data.{Members}
use Rattle.toml.specs.Parse.{parse_document}
use Rattle.cn_text.specs.declared.answer.TextAnswer.TheVariants.{NotUtf8, NotToml}
use Rattle.cn_table.specs.Document.{document_of}

-- octets that are no text are no document
pub not_text : (bytes : List ℕ) → ¬ (IsUtf8 bytes) → document_of bytes ≡ Err NotUtf8
unfolding document_of
not_text bytes h =
    let e : is_utf8 bytes ≡ false =
    false_from_ne_true (is_utf8 bytes) (λ t. h (IsUtf8-from_is_utf8 bytes t)) in
    rw e

parsed : (bytes text : List ℕ) (found : Option Members) → text ≡ bytes → IsUtf8 bytes
    → parse_document text ≡ found → document_of bytes ≡ ok_or found NotToml
unfolding document_of
parsed bytes text found same h e =
    let u : is_utf8 bytes ≡ true = is_utf8-from_IsUtf8 bytes h in
    let p : parse_document bytes ≡ found = ap parse_document (sym same) ∙ e in
    rw (u, p)

-- a text that is TOML is the table that it is parsed as
pub is_table : (bytes text : List ℕ) (ms : Members) → text ≡ bytes → IsUtf8 bytes
    → parse_document text ≡ Some ms → document_of bytes ≡ Ok ms
is_table bytes text ms same h e = parsed bytes text (Some ms) same h e

-- a text that is no TOML is no document
pub no_table : (bytes text : List ℕ) → text ≡ bytes → IsUtf8 bytes → parse_document text ≡ None
    → document_of bytes ≡ Err NotToml
no_table bytes text same h e = parsed bytes text None same h e
