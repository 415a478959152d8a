-- Words for small sources, and for the runs that are expected of them.
use Rattle.std.specs.Prelude.{◌≡◌, ℕ, ◌+◌, true, ℤ, pos, negsuc, List, [], ◌∷◌, map, Option, Some, None, codes, replicate}
use Rattle.rl_types.specs.declared.alphabet.Alphabet.TheVariants.{Char}
use Rattle.rl_run.specs.declared.calls.Call.{Call}
use Rattle.rl_run.specs.declared.calls.Answer.{Answer}
use Rattle.rl_run.specs.declared.calls.Answer.TheVariants.{Yes, Picks}
use Rattle.rl_run.specs.declared.calls.Pick.{Pick}
use Rattle.rl_run.specs.declared.calls.CallKind.{CallKind}
use Rattle.rl_run.specs.declared.calls.CallKind.TheVariants as K
use Rattle.rl_run.specs.declared.calls.Outcome.TheVariants.{Ended, Stopped}
use Rattle.rl_run.specs.declared.calls.Stop.{Stop}
use Rattle.rl_run.specs.declared.calls.Verdict.TheVariants.{Final, Partial, Error}
use Rattle.rl_run.specs.declared.sessions.Settings.{Settings}
use Rattle.rl_run.specs.declared.statements.Statement.{Statement}
use Rattle.rl_run.specs.declared.statements.StatementKind.{StatementKind}
use Rattle.rl_run.specs.declared.statements.GoalBase.TheVariants.{Unread}
use Rattle.rl_automata.specs.declared.tree.Label.{Label}
use Rattle.rl_automata.specs.declared.tree.Label.TheVariants.{Action}
use Rattle.rl_automata.specs.Nodes as N
use Rattle.rl_automata.specs.Nodes.{Node}
use Rattle.rl_model.specs.Specification as spec
use Rattle.rl_model.specs.Specification.{Specification, Root}
use Rattle.rl_model.specs.Trees.{TestsOf, AreTestsHonest, tree_machine}
use Rattle.rl_model.specs.Seen.{End, seen}

-- ---- expressions

abbrev pub between : ℤ → ℤ → Node
between lo hi = N.Set (record { lo = lo; hi = hi } ∷ [])

-- the character of this code
abbrev pub one : ℕ → Node
one k = between (pos k) (pos k)

abbrev pub any : Node
any = between (negsuc 127) (pos 127)

-- one character and then another
abbrev pub two : ℕ → ℕ → Node
two j k = N.Cat (one j) (one k)

-- ---- actions and entries

-- an action, or a condition, with its name and its number
abbrev pub Named : Type 0
Named = List ℕ × ℕ

-- what embeds an action with a stamp
abbrev pub act : ℕ → Named → Label
act stamp x = Action stamp (record { 0 = x.1 })

-- an action without control statements
abbrev pub plainly : Named → spec.Action
plainly x = record { name = x.0; statements = [] }

abbrev pub with_statements : Named → List Statement → spec.Action
with_statements x statements = record { name = x.0; statements = statements }

-- a control statement outside inner braces
abbrev pub states : StatementKind → Statement
states kind = record { kind = kind; outer = true; entry = None; base = Unread; offset = pos 0 }

-- one that names an entry
abbrev pub states_entry : StatementKind → ℕ → Statement
states_entry kind e = record (states kind) { entry = Some (record { 0 = e }) }

-- one entry `main`, with these actions, which have no control statements
abbrev pub main : List Named → Root → Specification
main actions root = record {
  alphabet = Char;
  entries = record { name = codes "main"; root = root } ∷ [];
  actions = map plainly actions;
  conditions = [];
}

-- ---- answers

-- enough of the answer Yes
abbrev pub yes : List Answer
yes = replicate 9 Yes

-- the statement of a number is taken, without a goal
abbrev pub take : ℕ → Option Pick
take n = Some (record { statement = n; goal = None })

-- up to two statements are taken
abbrev pub takes : Option Pick → Option Pick → Answer
takes p q = Picks (p ∷ q ∷ None ∷ None ∷ [])

-- ---- calls

-- a call at a position, with the next one, for a character
abbrev pub called : CallKind → Named → ℕ → ℕ → ℕ → List ℕ × Call
called kind x at next k =
    (x.0, record { kind = kind; action = record { 0 = x.1 }; at = at; next = next; key = Some (record { 0 = pos k }); ts = None; te = None })

abbrev pub does : Named → ℕ → ℕ → List ℕ × Call
does x at k = called K.Do x at (at + 1) k

abbrev pub asks : Named → ℕ → ℕ → List ℕ × Call
asks c at k = called K.Ask c at at k

abbrev pub from : Named → ℕ → ℕ → List ℕ × Call
from x at k = called K.From x at at k

abbrev pub to : Named → ℕ → ℕ → List ℕ × Call
to x at k = called K.To x at (at + 1) k

abbrev pub errs : Named → ℕ → ℕ → List ℕ × Call
errs x at k = called K.Error x at (at + 1) k

-- an action at the end of the input
abbrev pub at_end : Named → ℕ → List ℕ × Call
at_end x at = (x.0, record { kind = K.Eof; action = record { 0 = x.1 }; at = at; next = at; key = None; ts = None; te = None })

-- the token from a position to another, delivered at a character, or at the end of the input
abbrev pub token : Named → ℕ → ℕ → ℕ → ℕ → List ℕ × Call
token x at k start end =
    (x.0, record { kind = K.Token; action = record { 0 = x.1 }; at = at; next = end; key = Some (record { 0 = pos k }); ts = Some start; te = Some end })

abbrev pub last_token : Named → ℕ → ℕ → ℕ → List ℕ × Call
last_token x at start end = (x.0, record { kind = K.Token; action = record { 0 = x.1 }; at = at; next = end; key = None; ts = Some start; te = Some end })

-- ---- ends

-- the run went to the end of the input, into a state that is final
abbrev pub ends_final : ℕ → Option End
ends_final next = Some (record { outcome = Ended; next = next; verdict = Final })

-- or into one that is not
abbrev pub ends_partial : ℕ → Option End
ends_partial next = Some (record { outcome = Ended; next = next; verdict = Partial })

abbrev pub stops : Stop → ℕ → Option End
stops cause next = Some (record { outcome = Stopped cause; next = next; verdict = Error })

-- ---- runs

-- at most so many entries on the stack
abbrev pub with_stack : ℕ → Settings
with_stack n = record { stack = n; look = 8; token_max = 65536 }

-- whatever honest tests the source has, this is seen of its entry e on a text with these answers
abbrev pub Run : Specification → Settings → ℕ → List ℕ → List Answer → List (List ℕ × Call) → Option End → Type 0
Run source settings e text answers calls end =
    (tests : TestsOf source) → AreTestsHonest source tests → seen (tree_machine source tests) settings e text answers ≡ record { calls = calls; end = end }

-- the same of the first entry, where each call is answered by Yes
abbrev pub Runs : Specification → List ℕ → List (List ℕ × Call) → Option End → Type 0
Runs source text calls end = Run source (with_stack 64) 1 text yes calls end
