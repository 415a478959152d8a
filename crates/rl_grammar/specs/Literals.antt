-- The characters of a literal, and the numbers that integers write.
use Rattle.std.specs.Prelude.{ℕ, Bool, true, false, ◌&&◌, ◌-◌, ◌==◌, nat_le, if◌then◌else◌, List, [], ◌∷◌, length, take, drop}
use Rattle.std.specs.Str.{bytes_eq}
use Rattle.std.specs.Str.Parse.{digits_value}

-- what a byte behind a backslash stands for
abbrev pub escaped : ℕ → ℕ
escaped b =
    if b == 48 then 0
    else if b == 97 then 7
    else if b == 98 then 8
    else if b == 116 then 9
    else if b == 110 then 10
    else if b == 118 then 11
    else if b == 102 then 12
    else if b == 114 then 13
    else b

-- The characters that the bytes between quotes stand for; the flag says that a backslash stands before them. An escaped
-- newline gives none.
unfoldable pub characters : Bool → List ℕ → List ℕ
characters slash [] = []
characters true (b ∷ bs) = if b == 10 then characters false bs else escaped b ∷ characters false bs
characters false (b ∷ bs) = if b == 92 then characters true bs else b ∷ characters false bs

-- what stands between the first and the last byte of a text
abbrev pub inside : List ℕ → List ℕ
inside text = take (length text - 2) (drop 1 text)

-- a literal without the suffix `i` ends as it begins, with its quote
abbrev pub ends_as_it_begins : List ℕ → Bool
ends_as_it_begins text = nat_le 2 (length text) && bytes_eq (take 1 text) (drop (length text - 1) text)

-- a literal of one character without the suffix `i`
abbrev pub is_character : List ℕ → Bool
is_character text = ends_as_it_begins text && length (characters false (inside text)) == 1

-- the number that an integer writes, in hexadecimal behind `0x`, else in decimal
abbrev pub number : List ℕ → ℕ
number [] = 0
number (a ∷ []) = digits_value 10 (a ∷ [])
number (a ∷ b ∷ bs) = if a == 48 && b == 120 then digits_value 16 bs else digits_value 10 (a ∷ b ∷ bs)
