-- The faults of keys and of entries: the first of them in text order.
use Rattle.std.specs.Prelude.{ℕ, Bool, List, Option, Some, None, Result, Ok, Err}
use Rattle.rl_types.specs.declared.alphabet.Alphabet.{Alphabet}
use Rattle.rl_grammar.specs.declared.read_fault.ReadFault.{ReadFault}
use Rattle.rl_grammar.specs.declared.syntax.Statement.{Statement}
use Rattle.rl_grammar.specs.declared.syntax.Statement.TheVariants as statement
use Rattle.rl_names.specs.Answers.{first_of}
use Rattle.rl_names.specs.Codes.{entry_fault}
use Rattle.rl_names.specs.Entries.{is_entry}
use Rattle.rl_names.specs.Events.{Event, value_events}
use Rattle.rl_names.specs.Events as event
use Rattle.rl_names.specs.Frames.{alphabet_of}
use Rattle.rl_names.specs.Leaves.{leaf_read}
use Rattle.rl_grammar.specs.declared.step.Step.{Step}

abbrev pub fault_in : {A : Type 0} → Result A ReadFault → Option ReadFault
fault_in (Ok x) = None
fault_in (Err e) = Some e

-- of a machine that has these entries
abbrev pub leaf_fault : Alphabet → (List ℕ → Bool) → Event → Option ReadFault
leaf_fault alphabet has (event.Leaf o) = fault_in (leaf_read alphabet o)
leaf_fault alphabet has (event.Code w) = entry_fault has w
leaf_fault alphabet has _ = None

abbrev pub statement_leaf_fault : Alphabet → (List ℕ → Bool) → Statement → Option ReadFault
statement_leaf_fault alphabet has (statement.Definition d) = first_of (leaf_fault alphabet has) (value_events d.value)
statement_leaf_fault alphabet has (statement.Action a) = entry_fault has a.code
statement_leaf_fault alphabet has _ = None

-- the fault of a step among all, by the last `alphtype` and the instantiations of its machine
abbrev pub step_leaf_fault : List Step → Step → Option ReadFault
step_leaf_fault steps s = statement_leaf_fault (alphabet_of s.machine steps) (is_entry s.machine steps) s.statement

-- the first fault of keys and entries
abbrev pub leaves_fault : List Step → Option ReadFault
leaves_fault steps = first_of (step_leaf_fault steps) steps
