-- What a configuration does on a letter.
use Rattle.std.specs.Prelude.{Bool, true, false, Option, Some, None}
use Rattle.rl_automata.specs.declared.moves.Move.{Move}
use Rattle.rl_explore.specs.declared.operator.Step.{Step}
use Rattle.rl_explore.specs.declared.operator.Step.TheVariants.{Stay, Cycle, Go}

abbrev pub move_in : {S : Type 0} → Step S → Option (Move S)
move_in Stay = None
move_in Cycle = None
move_in (Go m) = Some m

abbrev pub is_cycle : {S : Type 0} → Step S → Bool
is_cycle Stay = false
is_cycle Cycle = true
is_cycle (Go m) = false
