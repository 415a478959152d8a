-- What is left of candidates on two sides.
use Rattle.std.specs.Prelude.{ℕ, Bool, List, ◌++◌, Option}
use Rattle.std.specs.List.{list_any}
use Rattle.rl_labels.specs.declared.carry.Carry.{Carry}
use Rattle.rl_labels.specs.Labels.{beats}
use Rattle.rl_automata.specs.declared.moves.Move.{Move}
use Rattle.rl_automata.specs.Auto.{settle, carries}

-- the targets on two sides
abbrev pub Sides : Type 0
Sides = List ℕ × List ℕ

abbrev pub all_carries : List (Move ℕ) → List (Move ℕ) → List Carry
all_carries ls rs = carries ls ++ carries rs

abbrev pub is_beaten : List Carry → Carry → Bool
is_beaten all c = list_any (λ d. beats d.table c.table) all

unfoldable pub settled : List (Move ℕ) → List (Move ℕ) → Option (Move Sides)
settled ls rs = settle (λ ss ts. (ss, ts)) ls rs
