-- What calls answer: what the store says of a file, and whether the store ended what is unrolled.
use Rattle.std.specs.Prelude.{◌≡◌, ◌⊎◌, List, ℕ, [], ◌∷◌, ◌++◌, true, false, Option, Some, None, is_some, Result, Ok, Err}
use Rattle.rl_grammar.specs.declared.read_fault.ReadFault.{ReadFault}
use Rattle.rl_grammar.specs.declared.read_fault.ReadFault.TheVariants as reason
use Rattle.rl_grammar.specs.declared.syntax.Syntax.{Syntax}
use Rattle.rl_io.specs.Outside.{Held, Reads, Lacks}
use Rattle.rl_includes.specs.Turns.{stopped, Turn, Becomes, Asks, current_behind, turn_in}
use Rattle.rl_includes.specs.Unrolling.{Including, ComesTo, IsFailure}
use Rattle.rl_includes.specs.declared.reader.Answer.{Answer}
use Rattle.rl_includes.specs.declared.reader.Answer.TheVariants as answer
use Rattle.rl_includes.specs.declared.reader.Located.{Located}
use Rattle.rl_includes.specs.declared.reader.Reader.{Reader}
use Rattle.rl_includes.specs.declared.reader.Request.{Request}
use Rattle.rl_includes.specs.declared.unrolled.Stop.{Stop}
use Rattle.rl_includes.specs.declared.unrolled.Stop.TheVariants as stop
use Rattle.rl_includes.specs.declared.unrolled.Unrolled.{Unrolled}

-- what the store says of a file is so
abbrev pub Answers : Held → List ℕ → Answer → Type 0
Answers held name (answer.Text text) = Reads held name text
Answers held name answer.Missing = Lacks held name
Answers held name answer.Failed = Unit {0}

-- a statement came to this: nothing more, or an `include` that is to be followed
abbrev pub Turned : Turn → Unrolled → Unrolled → Option Request → Type 0
Turned turn old new None = turn ≡ Becomes new
Turned turn old new (Some request) = (turn ≡ Asks request) × (new ≡ old)

-- a statement is taken, and this is the current machine behind it
pub record IsTaken (includes : Including) (reader : Reader) (current : Option (List ℕ)) (item : Located) (old new : Unrolled) (behind : Option (List ℕ)) : Type 0 where
  pub is : behind ≡ current_behind current item.statement
  pub comes : ComesTo includes reader (turn_in reader behind item old) old new

-- what ends where a file is not read for this reason; want of memory is none
abbrev pub stop_of : ReadFault → List ℕ → Option Stop
stop_of (reason.Fault fault) name = Some (stop.Fault fault name)
stop_of (reason.Limit limit) name = Some (stop.Limit limit name)
stop_of reason.Memory name = None

-- a reason is told, and nothing is read on
abbrev pub IsTold : ReadFault → List ℕ → Unrolled → Unrolled → Option (List Syntax) → Type 0
IsTold e name old new None = (s : Stop) × (stop_of e name ≡ Some s) × (new ≡ stopped s old)
IsTold e name old new (Some trees) = ⊥

-- a call is done, and the store failed in it
abbrev pub FailsIn : {A E : Type 0} → Result A E → Option Stop → Type 0
FailsIn (Ok x) s = IsFailure s
FailsIn (Err e) s = ⊥

-- what is unrolled ends where the store failed
abbrev pub EndsInFailure : {E : Type 0} → Result Unrolled E → Type 0
EndsInFailure (Ok u) = IsFailure u.stop
EndsInFailure (Err e) = ⊥

-- no statement is left to be read, or none may be
abbrev pub IsDone : List Located → Unrolled → Type 0
IsDone queue u = (queue ≡ []) ⊎ (is_some u.stop ≡ true)

-- the next statement of a queue, whose first is its last
pub record IsNext (queue rest : List Located) (u : Unrolled) (item : Located) : Type 0 where
  pub taken : queue ≡ rest ++ item ∷ []
  pub unstopped : is_some u.stop ≡ false
