-- The lines of a certificate (this profile).
use Rattle.std.specs.Prelude.{ℕ, List, [], ◌∷◌, ◌++◌, map, flat_map, codes, decimal}
use Rattle.std.specs.Option.{option_map}
use Rattle.std.specs.Fmt.{signed_decimal}
use Rattle.rl_types.specs.declared.numbers.Letter.{Letter}
use Rattle.rl_model.specs.declared.spec.Entry.{Entry}
use Rattle.rl_model.specs.Specification.{numbered, name_or}
use Rattle.rl_certificate.specs.declared.certificate.Access.{Access}
use Rattle.rl_certificate.specs.declared.certificate.Apart.{Apart}
use Rattle.rl_certificate.specs.declared.certificate.Certificate.{Certificate}

-- words with one blank before each
abbrev pub spaced : List (List ℕ) → List ℕ
spaced words = flat_map (λ word. 32 ∷ word) words

-- a letter: its key and, behind a slash, its truths as one number
abbrev pub letter_text : Letter → List ℕ
letter_text l = signed_decimal l.key ++ 47 ∷ decimal l.truths

abbrev pub word_text : List Letter → List ℕ
word_text word = spaced (map letter_text word)

-- the name of the entry of this number, from 1
abbrev pub entry_name : List Entry → ℕ → List ℕ
entry_name entries e = name_or (option_map (λ (x : Entry). x.name) (numbered entries e))

-- the state, the entry's name and the word
abbrev pub access_line : List Entry → Access → List ℕ
access_line entries a =
    codes "access" ++ spaced (decimal a.state ∷ entry_name entries a.entry.0 ∷ []) ++ word_text a.word.items ++ 10 ∷ []

-- the two states and the word
abbrev pub apart_line : Apart → List ℕ
apart_line p = codes "apart" ++ spaced (decimal p.low ∷ decimal p.high ∷ []) ++ word_text p.word.items ++ 10 ∷ []

-- the machine's name, the words to states, and the words of pairs
abbrev pub certificate_text : List ℕ → List Entry → Certificate → List ℕ
certificate_text machine entries c =
    codes "machine" ++ spaced (machine ∷ []) ++ 10 ∷ []
    ++ flat_map (access_line entries) c.access.items
    ++ flat_map apart_line c.apart.items
