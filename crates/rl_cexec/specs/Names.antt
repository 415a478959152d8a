-- The names in the printed texts, and what stands in their places (the guide's sections 5.4 and 5.5).
use Rattle.std.specs.Prelude.{ℕ, Bool, true, not, ◌==◌, nat_eq, if◌then◌else◌, List, [], ◌∷◌, ◌++◌, map, drop, Option, Some, None, codes}
use Rattle.std.specs.Option.{option_map_or}
use Rattle.std.specs.List.{list_any, starts_with}
use Rattle.std.specs.Str.{bytes_eq}
use Rattle.rl_lexical.specs.Bytes.{newline, in_word}
use Rattle.rl_lexical.specs.Words.{is_variable}
use Rattle.rl_code.specs.Texts.{first_word}
use Rattle.rl_model.specs.declared.spec.Frame.{Frame}

-- a text of the source in one line: a newline is a blank
abbrev pub one_line : List ℕ → List ℕ
one_line text = map (λ b. if b == newline then 32 else b) text

-- the text that a `variable` statement gives for a name
abbrev pub variable_text : List (List ℕ × List ℕ) → List ℕ → Option (List ℕ)
variable_text [] name = None
variable_text (v ∷ vs) name = if bytes_eq v.0 name then Some v.1 else variable_text vs name

-- the names that have the text of `access` before them
abbrev pub is_accessed : List ℕ → Bool
is_accessed name = list_any (bytes_eq name) (codes "cs" ∷ codes "top" ∷ codes "stack" ∷ codes "act" ∷ codes "ts" ∷ codes "te" ∷ [])

abbrev pub accessed : Frame → List ℕ → List ℕ
accessed frame name = if is_accessed name then one_line frame.access ++ name else name

-- a variable: the text of its `variable` statement alone, or its name behind the text of `access`
abbrev pub variable : Frame → List ℕ → List ℕ
variable frame name = option_map_or one_line (variable_text frame.variables name) (accessed frame name)

-- a name with N in it, for the machine's name
abbrev pub of_machine : List ℕ → List ℕ → List ℕ
of_machine machine word =
    if starts_with nat_eq word (codes "N_") then machine ++ drop 1 word else
    (if starts_with nat_eq word (codes "_N_") then codes "_" ++ (machine ++ drop 2 word) else word)

abbrev pub word_text : List ℕ → Frame → List ℕ → List ℕ
word_text machine frame word = if is_variable word then variable frame word else of_machine machine word

-- what is printed for a byte: a word stands where it begins
abbrev pub filled_here : List ℕ → Frame → Bool → List ℕ → List ℕ
filled_here machine frame fresh [] = []
filled_here machine frame fresh (b ∷ bs) = if in_word b then (if fresh then word_text machine frame (first_word (b ∷ bs)) else []) else b ∷ []

unfoldable pub filled_from : List ℕ → Frame → Bool → List ℕ → List ℕ
filled_from machine frame fresh [] = []
filled_from machine frame fresh (b ∷ bs) = filled_here machine frame fresh (b ∷ bs) ++ filled_from machine frame (not (in_word b)) bs

-- a text of a template, with its variables and the machine's name
abbrev pub filled : List ℕ → Frame → List ℕ → List ℕ
filled machine frame text = filled_from machine frame true text
