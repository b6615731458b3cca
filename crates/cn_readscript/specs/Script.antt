-- The script that a text stands for, or its first fault.
-- Of a table its keys are read in the order that stands here, and after them a key that isn't
-- listed is a fault.
use Rattle.std.specs.Prelude.{ℕ, suc, nat_le, ℤ, pos, if◌then◌else◌, codes, List, [], ◌∷◌, ◌++◌, Option, Some, None, ok_or, Result, Ok, Err}
use Rattle.std.specs.Ordering.{int_eq}
use Rattle.std.specs.Str.{bytes_eq}
use Rattle.toml.specs.Data.{Data, Items, no_items, item, Members}
use Rattle.cn_text.specs.declared.answer.TextAnswer.{TextAnswer}
use Rattle.cn_text.specs.declared.answer.TextAnswer.TheVariants.{Value, Version, TooLong}
use Rattle.cn_lists.specs.Steps.{◌>>=◌}
use Rattle.cn_table.specs.Document.{document_of}
use Rattle.cn_table.specs.Tables.{front_of, needed, text_of, integer_of, table_of, number_at, array_at, each, only}
use Rattle.cn_change.specs.declared.command.Command.{Command}
use Rattle.cn_change.specs.declared.command.Command.TheVariants.{Pull, Work}
use Rattle.cn_readscript.specs.declared.kind.Kind.{Kind}
use Rattle.cn_readscript.specs.declared.kind.Kind.TheVariants as kinds

-- the version is 1
abbrev pub is_version : ℤ → Result (Unit {0}) TextAnswer
is_version z = if int_eq z (pos 1) then Ok tt else Err (Version z)

-- the version, an integer, which must be there
unfoldable pub version_at : Members → Result (Unit {0}) TextAnswer
version_at ms = do
  d ← needed [] (codes "version") ms
  z ← integer_of (codes "version") d
  is_version z

-- the kind that a word names
abbrev pub kind_of : List ℕ → Option Kind
kind_of word =
    if bytes_eq word (codes "pull") then Some kinds.Pull
    else (if bytes_eq word (codes "work") then Some kinds.Work
    else None)

-- the kind of a command, the word of a kind, which must be there
unfoldable pub kind_at : List ℕ → Members → Result Kind TextAnswer
kind_at front ms = do
  d ← needed front (codes "kind") ms
  word ← text_of (front ++ codes "kind") d
  ok_or (kind_of word) (Value (front ++ codes "kind"))

-- the keys of a pull, and those of a piece of work
abbrev pub pull_keys : List (List ℕ)
pull_keys = codes "kind" ∷ []

abbrev pub work_keys : List (List ℕ)
work_keys = codes "kind" ∷ codes "count" ∷ []

-- a command of a kind, by the keys that stand beside the kind
unfoldable pub command_in : Kind → List ℕ → Members → Result Command TextAnswer
command_in kinds.Pull front ms = do
  no_more ← only front pull_keys ms
  Ok Pull
command_in kinds.Work front ms = do
  count ← number_at 1 1000000 front (codes "count") ms
  no_more ← only front work_keys ms
  Ok (Work count)

-- the command that a table is: its kind is read before its other keys
unfoldable pub command_of : List ℕ → Data → Result Command TextAnswer
command_of path d = do
  ms ← table_of path d
  kind ← kind_at (front_of path) ms
  command_in kind (front_of path) ms

-- how many items an array has
abbrev pub item_count : Items → ℕ
item_count no_items = 0
item_count (item d ds) = suc (item_count ds)

-- an array has at most this many items
abbrev pub at_most : ℕ → Items → Result (Unit {0}) TextAnswer
at_most most items =
    if nat_le (item_count items) most then Ok tt else Err (TooLong (item_count items))

-- the commands, none where the key is absent: they are counted before the first is read
unfoldable pub commands_at : Members → Result (List Command) TextAnswer
commands_at ms = do
  items ← array_at [] (codes "command") ms
  counted ← at_most 10000 items
  each command_of (codes "command") 0 items

-- the keys of a script
abbrev pub script_keys : List (List ℕ)
script_keys = codes "version" ∷ codes "command" ∷ []

-- the script that the top table is
unfoldable pub script_in : Members → Result (List Command) TextAnswer
script_in ms = do
  version ← version_at ms
  commands ← commands_at ms
  no_more ← only [] script_keys ms
  Ok commands

-- the script that bytes stand for, by the table that they are as TOML
unfoldable pub script_of : List ℕ → Result (List Command) TextAnswer
script_of bytes = do
  ms ← document_of bytes
  script_in ms
