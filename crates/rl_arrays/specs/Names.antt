-- Names of machines, entries, actions and conditions.
use Rattle.std.specs.Prelude.{ℕ, Bool, false, not, ◌&&◌, ◌||◌, ◌==◌, nat_le, List, [], ◌∷◌, length, codes}
use Rattle.std.specs.List.{list_all, list_any, slice_split}
use Rattle.std.specs.Str.{bytes_eq}

abbrev pub is_digit : ℕ → Bool
is_digit b = nat_le 48 b && nat_le b 57

-- a letter or `_`
abbrev pub is_letter : ℕ → Bool
is_letter b = (nat_le 65 b && nat_le b 90) || (nat_le 97 b && nat_le b 122) || b == 95

-- the words of the language that are no names
abbrev pub reserved : List (List ℕ)
reserved =
    codes "machine" ∷ codes "include" ∷ codes "alphtype" ∷ codes "access" ∷ codes "variable" ∷ codes "write" ∷ codes "action" ∷ codes "when"
    ∷ codes "inwhen" ∷ codes "outwhen" ∷ codes "import" ∷ codes "export" ∷ codes "exports" ∷ codes "getkey" ∷ codes "prepush" ∷ codes "postpop" ∷ []

-- a letter, then letters and digits
abbrev pub is_word : List ℕ → Bool
is_word [] = false
is_word (b ∷ bs) = is_letter b && list_all (λ c. is_letter c || is_digit c) bs

-- a word that is not reserved
abbrev pub is_name : List ℕ → Bool
is_name bs = is_word bs && not (list_any (bytes_eq bs) reserved)

-- decimal digits without leading zeros
abbrev pub is_number : List ℕ → Bool
is_number [] = false
is_number (b ∷ []) = is_digit b
is_number (b ∷ c ∷ bs) = is_digit b && not (b == 48) && list_all is_digit (c ∷ bs)

-- what stands between the `:`
abbrev pub parts : List ℕ → List (List ℕ)
parts bs = slice_split (λ c. c == 58) bs

-- two or three numbers
abbrev pub are_numbers : List (List ℕ) → Bool
are_numbers texts = (length texts == 2 || length texts == 3) && list_all is_number texts

-- the name of an anonymous action: `@`, then its place, two or three numbers with `:` between
abbrev pub is_place : List ℕ → Bool
is_place [] = false
is_place (b ∷ bs) = b == 64 && are_numbers (parts bs)

-- the name of an action, or of a condition
abbrev pub is_action_name : List ℕ → Bool
is_action_name bs = is_name bs || is_place bs
