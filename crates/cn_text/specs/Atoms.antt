-- Addresses, prefixes and paths, read at a place of a text, and texts that are an atom as a whole.
use Rattle.std.specs.Prelude.{◌≡◌, ℕ, zero, suc, ◌+◌, ◌*◌, ◌%◌, ◌^◌, ◌-◌, ◌≤◌, ◌<◌, ◌==◌, Bool, false, ◌&&◌, if◌then◌else◌, List, [], ◌∷◌, All, length, drop, slice_index, Option, Some, None, slice_get, Result, Ok, Err}
use Rattle.std.specs.Str.{bytes_eq}
use Rattle.cn_lists.specs.Steps.{◌>>=◌}
use Rattle.cn_base.specs.Cidr.{Cidr}
use Rattle.cn_base.specs.declared.ids.Asn.{Asn}
use Rattle.cn_base.specs.declared.ids.Origin.{Origin}
use Rattle.cn_base.specs.declared.ids.Origin.TheVariants.{Igp, Egp, Incomplete}
use Rattle.cn_text.specs.Number.{is_digit, number_at}
use Rattle.cn_text.specs.Printed.{origin_text}
use Rattle.cn_text.specs.declared.number.Bad.{Bad}
use Rattle.cn_text.specs.declared.path.PathAnswer.{PathAnswer}
use Rattle.cn_text.specs.declared.path.PathAnswer.TheVariants.{Bad as BadPath, Memory}

abbrev pub is_mark : ℕ → ℕ → Option ℕ → Result ℕ Bad
is_mark at mark None = Err (record { at = at })
is_mark at mark (Some b) = if b == mark then Ok (at + 1) else Err (record { at = at })

-- the place after a mark
abbrev pub mark_at : List ℕ → ℕ → ℕ → Result ℕ Bad
mark_at bytes at mark = is_mark at mark (slice_get bytes at)

-- the address at a place, four octets joined by dots, as one number, and the place after it
unfoldable pub address_at : List ℕ → ℕ → Result (ℕ × ℕ) Bad
address_at bytes at = do
  a ← number_at bytes at 255
  p ← mark_at bytes a.1 46
  b ← number_at bytes p 255
  q ← mark_at bytes b.1 46
  c ← number_at bytes q 255
  r ← mark_at bytes c.1 46
  d ← number_at bytes r 255
  Ok (a.0 * 16777216 + b.0 * 65536 + c.0 * 256 + d.0, d.1)

-- The prefix at a place, an address, a slash and a length, and the place after it. The bits after
-- its length are zero; a length that leaves others is refused at its first octet.
unfoldable pub prefix_at : List ℕ → ℕ → Result (Cidr × ℕ) Bad
prefix_at bytes at = do
  a ← address_at bytes at
  p ← mark_at bytes a.1 47
  n ← number_at bytes p 32
  if a.0 % 2 ^ (32 - n.0) == 0 then Ok (record { bits = a.0; len = n.0 }, n.1)
      else Err (record { at = p })

-- a path that can be printed: at most 255 numbers of four octets each (RFC 4271, 4.3; RFC 6793)
pub record IsPath (path : List Asn) : Type 0 where
  pub short : length path ≤ 255
  pub numbers : All (λ n. n.0 < 2 ^ 32) path

-- a space and a digit stand at the front
abbrev pub is_further : List ℕ → Bool
is_further [] = false
is_further (b ∷ bs) = b == 32 && is_digit (slice_index bs 0)

-- The further numbers of a path, at most so many, each after a space, and the place after them. One
-- too many is refused at its first octet.
unfoldable pub further_at : List ℕ → ℕ → ℕ → Result (List Asn × ℕ) Bad
further_at bytes zero at =
    if is_further (drop at bytes) then Err (record { at = at + 1 }) else Ok ([], at)
further_at bytes (suc room) at = if is_further (drop at bytes) then (do
  n ← number_at bytes (at + 1) 4294967295
  ns ← further_at bytes room n.1
  Ok (record { 0 = n.0 } ∷ ns.0, ns.1))
    else Ok ([], at)

-- one to 255 numbers, joined by one space each, and the place after them
unfoldable pub numbers_at : List ℕ → ℕ → Result (List Asn × ℕ) Bad
numbers_at bytes at = do
  n ← number_at bytes at 4294967295
  ns ← further_at bytes 254 n.1
  Ok (record { 0 = n.0 } ∷ ns.0, ns.1)

abbrev pub empty_or : Result ℕ Bad → Result (List Asn × ℕ) Bad → Result (List Asn × ℕ) Bad
empty_or (Ok after) numbers = Ok ([], after)
empty_or (Err e) numbers = numbers

-- the path at a place, a dash where it is empty, and the place after it
unfoldable pub path_at : List ℕ → ℕ → Result (List Asn × ℕ) Bad
path_at bytes at = empty_or (mark_at bytes at 45) (numbers_at bytes at)

abbrev pub PathFails : PathAnswer → Result (List Asn × ℕ) Bad → Type 0
PathFails (BadPath at) read = read ≡ Err (record { at = at })
PathFails Memory read = Unit {0}

-- What a call returned is what reading a path gives, unless memory ran out.
abbrev pub PathReads : Result (List Asn × ℕ) PathAnswer → Result (List Asn × ℕ) Bad → Type 0
PathReads (Ok x) read = read ≡ Ok x
PathReads (Err e) read = PathFails e read

-- the atom that a text is as a whole, of what was read at its front
abbrev pub whole : {A : Type 0} → List ℕ → Result (A × ℕ) Bad → Option A
whole text (Ok x) = if x.1 == length text then Some x.0 else None
whole text (Err e) = None

abbrev pub address_of : List ℕ → Option ℕ
address_of text = whole text (address_at text 0)

abbrev pub prefix_of : List ℕ → Option Cidr
prefix_of text = whole text (prefix_at text 0)

abbrev pub path_of : List ℕ → Option (List Asn)
path_of text = whole text (path_at text 0)

-- the ORIGIN whose word a text is
abbrev pub origin_of : List ℕ → Option Origin
origin_of text =
    if bytes_eq text (origin_text Igp) then Some Igp
    else (if bytes_eq text (origin_text Egp) then Some Egp
    else (if bytes_eq text (origin_text Incomplete) then Some Incomplete else None))
