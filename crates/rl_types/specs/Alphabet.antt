-- The alphabets: the characters of bytes, and their keys.
use Rattle.std.specs.Prelude.{ℕ, zero, suc, ◌+◌, ◌*◌, ◌/◌, ◌%◌, ◌-◌, ◌==◌, Bool, not, ◌&&◌, ℤ, ◌+ℤ◌, pos, negsuc, nat_lt, nat_le, int_le, if◌then◌else◌, List, [], ◌∷◌, map, length, take, drop, Option, Some, None}
use Rattle.std.specs.List.{range_with_len}
use Rattle.std.specs.Int.{int_gap}
use Rattle.rl_types.specs.declared.numbers.Key.{Key}
use Rattle.rl_types.specs.declared.alphabet.Alphabet.{Alphabet}
use Rattle.rl_types.specs.declared.alphabet.Alphabet.TheVariants.{Char, UnsignedChar, Short, UnsignedShort, Int, UnsignedInt}

-- how many bytes a character has
abbrev pub width_of : Alphabet → ℕ
width_of Char = 1
width_of UnsignedChar = 1
width_of Short = 2
width_of UnsignedShort = 2
width_of Int = 4
width_of UnsignedInt = 4

-- the number of a group of bytes, the low byte first
abbrev pub number_of : List ℕ → ℕ
number_of [] = 0
number_of (byte ∷ bytes) = byte + 256 * number_of bytes

-- the group of bytes at a place
abbrev pub group_at : ℕ → List ℕ → ℕ → ℕ
group_at width bytes at = number_of (take width (drop at bytes))

-- the characters of bytes: the numbers of their groups of a width, from the front
unfoldable pub characters : ℕ → List ℕ → List ℕ
characters width bytes = map (λ i. group_at width bytes (width * i)) (range_with_len 0 (length bytes / width))

-- bytes stand behind the last whole character
abbrev pub has_rest : ℕ → List ℕ → Bool
has_rest width bytes = not (length bytes % width == 0)

-- the key of a character, by its number: in the signed alphabets the upper half of the numbers has the keys below 0
abbrev pub key_of : Alphabet → ℕ → Key
key_of Char n = record { 0 = if nat_lt n 128 then pos n else negsuc (255 - n) }
key_of UnsignedChar n = record { 0 = pos n }
key_of Short n = record { 0 = if nat_lt n 32768 then pos n else negsuc (65535 - n) }
key_of UnsignedShort n = record { 0 = pos n }
key_of Int n = record { 0 = if nat_lt n 2147483648 then pos n else negsuc (4294967295 - n) }
key_of UnsignedInt n = record { 0 = pos n }

-- the key of the character whose bytes stand from a place on, none where there are fewer
abbrev pub key_at : Alphabet → List ℕ → ℕ → Option Key
key_at alphabet bytes at =
    if nat_le (at + width_of alphabet) (length bytes) then Some (key_of alphabet (group_at (width_of alphabet) bytes at)) else None

abbrev pub least_key : Alphabet → ℤ
least_key Char = negsuc 127
least_key UnsignedChar = pos 0
least_key Short = negsuc 32767
least_key UnsignedShort = pos 0
least_key Int = negsuc 2147483647
least_key UnsignedInt = pos 0

abbrev pub greatest_key : Alphabet → ℤ
greatest_key Char = pos 127
greatest_key UnsignedChar = pos 255
greatest_key Short = pos 32767
greatest_key UnsignedShort = pos 65535
greatest_key Int = pos 2147483647
greatest_key UnsignedInt = pos 4294967295

-- the alphabet has the key
abbrev pub has_key : Alphabet → ℤ → Bool
has_key alphabet key = int_le (least_key alphabet) key && int_le key (greatest_key alphabet)

-- n keys in a row
abbrev pub keys_from : ℤ → ℕ → List ℤ
keys_from k zero = []
keys_from k (suc n) = k ∷ keys_from (k +ℤ pos 1) n

-- the keys of an alphabet, ascending
unfoldable pub keys_of : Alphabet → List ℤ
keys_of alphabet = keys_from (least_key alphabet) (int_gap (least_key alphabet) (greatest_key alphabet) + 1)
