-- Numbers and prefixes as octets (RFC 4271, 4: numbers are big endian; 4.3: prefixes).
use Rattle.std.specs.Prelude.{ℕ, ◌+◌, ◌-◌, ◌*◌, ◌/◌, ◌^◌, ◌<◌, List, get_or}
use Rattle.byteorder.specs.Endian.{big_number, big_bytes}
use Rattle.cn_base.specs.Cidr.{Cidr}

-- each is one of 256 values
abbrev pub IsOctets : List ℕ → Type 0
IsOctets octets = (i : ℕ) → get_or octets i 0 < 256

-- a number as two and as four octets, the highest first
abbrev pub two_octets : ℕ → List ℕ
two_octets n = big_bytes 2 n

abbrev pub four_octets : ℕ → List ℕ
four_octets n = big_bytes 4 n

-- the number in the first two octets, and in the first four. An octet that isn't there counts as 0.
abbrev pub number_2 : List ℕ → ℕ
number_2 octets = big_number 2 octets

abbrev pub number_4 : List ℕ → ℕ
number_4 octets = big_number 4 octets

-- as few octets as hold so many bits
abbrev pub octets_for : ℕ → ℕ
octets_for bits = (bits + 7) / 8

-- the number of 32 bits with the first len as they are and the others zero
abbrev pub masked : ℕ → ℕ → ℕ
masked len bits = bits / 2 ^ (32 - len) * 2 ^ (32 - len)

-- the prefix with this length and these octets
abbrev pub cidr_of : ℕ → List ℕ → Cidr
cidr_of len octets = record { bits = masked len (number_4 octets); len = len }
