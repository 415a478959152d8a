-- The steps that the operators make of what is left of the candidates.
use Rattle.std.specs.Prelude.{ℕ, List, Option}
use Rattle.std.specs.Option.{option_map}
use Rattle.std.specs.Ordering.{nat_cmp}
use Rattle.rl_sets.specs.Sets.{set_of}
use Rattle.rl_automata.specs.declared.moves.Move.{Move}
use Rattle.rl_automata.specs.Auto.{first}
use Rattle.rl_automata.specs.Follows.{renamed}
use Rattle.rl_ops.specs.Settled.{Sides}

-- the first of each side
abbrev pub pair_move : Option (Move Sides) → Option (Move (Option ℕ × Option ℕ))
pair_move o = option_map (renamed (λ p. (first p.0, first p.1))) o

-- the first of the left side, and the set of the right one
abbrev pub chain_move : Option (Move Sides) → Option (Move (Option ℕ × List ℕ))
chain_move o = option_map (renamed (λ p. (first p.0, set_of nat_cmp p.1))) o

-- the set of the right side
abbrev pub rounds_move : Option (Move Sides) → Option (Move (List ℕ))
rounds_move o = option_map (renamed (λ p. set_of nat_cmp p.1)) o
