-- Runs of small sources: control statements.
use Rattle.std.specs.Prelude.{pos, List, [], ◌∷◌, None, codes}
use Rattle.rl_types.specs.declared.alphabet.Alphabet.TheVariants.{Char}
use Rattle.rl_run.specs.declared.calls.Answer.{Answer}
use Rattle.rl_run.specs.declared.calls.Stop.TheVariants.{StackFull, StackEmpty}
use Rattle.rl_run.specs.declared.statements.StatementKind.TheVariants.{Hold, Call, Ret}
use Rattle.rl_automata.specs.Nodes as N
use Rattle.rl_automata.specs.Nodes.{Node}
use Rattle.rl_model.specs.Specification.{Specification, Plain}
use Rattle.rl_model.specs.Sources.{Named, between, one, any, act, with_statements, states, states_entry, take, takes, does, at_end, ends_final, stops, with_stack, Run}

-- ---- a number, read by an entry of its own

abbrev pub enter : Named
enter = (codes "enter", 1)

abbrev pub done : Named
done = (codes "done", 2)

abbrev pub digit : Node
digit = between (pos 48) (pos 57)

-- action enter { fcall num; } action done { fhold; fret; }
-- num := ([0-9]+ %done) (any - [0-9])?;
-- main := ('n' @enter | 'x')*;
abbrev pub numbers : Specification
numbers = record {
  alphabet = Char;
  entries =
      record { name = codes "num"; root = Plain (N.Cat (N.Leave (N.Cat digit (N.Star digit 1)) (act 2 done)) (N.Union (N.Minus any digit) N.Null)) }
      ∷ record { name = codes "main"; root = Plain (N.Star (N.Union (N.Finish (one 110) (act 1 enter)) (one 120)) 2) }
      ∷ [];
  actions =
      with_statements enter (states_entry Call 1 ∷ [])
      ∷ with_statements done (states Hold ∷ states Ret ∷ [])
      ∷ [];
  conditions = [];
}

-- the call, then the hold and the return
abbrev pub calls_and_returns : List Answer
calls_and_returns = takes (take 1) None ∷ takes (take 1) (take 2) ∷ []

-- on n12x: the character behind the number is held back, and read after the return
abbrev pub ReturnsToCaller : Type 0
ReturnsToCaller = Run numbers (with_stack 64) 2 (codes "n12x") calls_and_returns (does enter 0 110 ∷ does done 3 120 ∷ []) (ends_final 4)

-- on n12: at the end of the input the hold moves nothing, and the return sets the state
abbrev pub ReturnsAtEnd : Type 0
ReturnsAtEnd = Run numbers (with_stack 64) 2 (codes "n12") calls_and_returns (does enter 0 110 ∷ at_end done 3 ∷ []) (ends_final 3)

-- ---- the stack

abbrev pub deep : Named
deep = (codes "deep", 1)

-- action deep { fcall main; } main := 'c' @deep;
abbrev pub nested : Specification
nested = record {
  alphabet = Char;
  entries = record { name = codes "main"; root = Plain (N.Finish (one 99) (act 1 deep)) } ∷ [];
  actions = with_statements deep (states_entry Call 1 ∷ []) ∷ [];
  conditions = [];
}

-- on ccc with room for two: the third call finds no room
abbrev pub NoRoomToPush : Type 0
NoRoomToPush = Run nested (with_stack 2) 1 (codes "ccc") (takes (take 1) None ∷ takes (take 1) None ∷ takes (take 1) None ∷ [])
    (does deep 0 99 ∷ does deep 1 99 ∷ does deep 2 99 ∷ []) (stops (StackFull (record { statement = 1; goal = None })) 3)

abbrev pub back : Named
back = (codes "back", 1)

-- action back { fret; } main := 'r' @back;
abbrev pub returning : Specification
returning = record {
  alphabet = Char;
  entries = record { name = codes "main"; root = Plain (N.Finish (one 114) (act 1 back)) } ∷ [];
  actions = with_statements back (states Ret ∷ []) ∷ [];
  conditions = [];
}

-- on r: there is nothing to return to
abbrev pub NothingToPop : Type 0
NothingToPop = Run returning (with_stack 64) 1 (codes "r") (takes (take 1) None ∷ []) (does back 0 114 ∷ []) (stops (StackEmpty (record { statement = 1; goal = None })) 1)
