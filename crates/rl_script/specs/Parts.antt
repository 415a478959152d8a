-- Texts cut into parts.
use Rattle.std.specs.Prelude.{◌≡◌, ℕ, ◌==◌, Bool, false, List, [], ◌∷◌}
use Rattle.std.specs.List.{slice_split}
use Rattle.rl_replay.specs.Script.{is_word}

-- the parts between the bytes that separate
abbrev pub parts_at : ℕ → List ℕ → List (List ℕ)
parts_at separator text = slice_split (λ b. b == separator) text

-- the words of a text, which have one blank between them
abbrev pub words : List ℕ → List (List ℕ)
words text = parts_at 32 text

-- one word alone, which has a byte
abbrev pub is_one_word : List (List ℕ) → Bool
is_one_word (word ∷ []) = is_word word
is_one_word _ = false

-- other than four words
abbrev pub AreNotFour : List (List ℕ) → Type 0
AreNotFour parts = (a b c d : List ℕ) → parts ≡ a ∷ b ∷ c ∷ d ∷ [] → ⊥
