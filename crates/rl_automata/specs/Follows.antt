-- The configurations that an automaton reaches, and when one automaton is another's reachable part under other names.
use Rattle.std.specs.Prelude.{◌≡◌, ℤ, Some}
use Rattle.std.specs.Option.{option_map}
use Rattle.rl_types.specs.declared.numbers.Letter.{Letter}
use Rattle.rl_automata.specs.declared.tree.Kind.{Kind}
use Rattle.rl_automata.specs.declared.moves.Move.{Move}
use Rattle.rl_automata.specs.Auto.{Auto}

-- some word leads to the configuration
pub data Reach {S : Type 0} (A : Auto S) : S → Type 0 where
  begun : Reach A A.start
  went : {s : S} → Reach A s → (l : Letter) (m : Move S) → A.step s l ≡ Some m → Reach A m.to

-- the same step, to the target's name
abbrev pub renamed : {S T : Type 0} → (S → T) → Move S → Move T
renamed name m = record { to = name m.to; carry = m.carry }

-- The configurations that A reaches are, one for one under `name`, those that B reaches, and all that is told of them
-- agrees.
pub record Follows {S T : Type 0} (A : Auto S) (B : Auto T) (name : S → T) : Type 0 where
  pub start : name A.start ≡ B.start
  pub step : (s : S) → Reach A s → (l : Letter) → option_map (renamed name) (A.step s l) ≡ B.step (name s) l
  pub final : (s : S) → Reach A s → A.final s ≡ B.final (name s)
  pub out : (s : S) → Reach A s → A.out s ≡ B.out (name s)
  pub marks : (s : S) → Reach A s → (k : Kind) → A.marks s k ≡ B.marks (name s) k
  pub asked : (s : S) → Reach A s → (k : ℤ) → A.asked s k ≡ B.asked (name s) k
  pub apart : (s t : S) → Reach A s → Reach A t → name s ≡ name t → s ≡ t
