-- What a source says of one machine, as a plain value.
use Rattle.std.specs.Prelude.{ℕ, zero, suc, List, [], map, Option, Some, None, slice_get}
use Rattle.std.specs.Option.{option_map}
use Rattle.rl_types.specs.declared.alphabet.Alphabet.{Alphabet}
use Rattle.rl_types.specs.declared.numbers.ActionId.{ActionId}
use Rattle.rl_run.specs.declared.statements.Statement.{Statement}
use Rattle.rl_automata.specs.Nodes.{node_of}
use Rattle.rl_automata.specs.Scans.{Pattern}
pub use Rattle.rl_automata.specs.Scans.{Root, Plain, Scanner}
use Rattle.rl_model.specs.declared.spec.Pattern as rust
use Rattle.rl_model.specs.declared.spec.Root as rust_root
use Rattle.rl_model.specs.declared.spec.Root.TheVariants as R
use Rattle.rl_model.specs.declared.spec.Entry as rust_entry
use Rattle.rl_model.specs.declared.spec.ActionDef.{ActionDef}
use Rattle.rl_model.specs.declared.spec.Spec.{Spec}

-- an instantiation
pub record Entry : Type 0 where
  pub name : List ℕ
  pub root : Root

-- an action: its name, and the control statements of its code in text order
pub record Action : Type 0 where
  pub name : List ℕ
  pub statements : List Statement

-- entries and actions have their places, from 1, as numbers; a condition is the number of its action
pub record Specification : Type 0 where
  pub alphabet : Alphabet
  pub entries : List Entry
  pub actions : List Action
  pub conditions : List ℕ

abbrev pub pattern_of : rust.Pattern → Pattern
pattern_of p = record { tree = node_of p.tree; token = option_map (λ (a : ActionId). a.0) p.token }

abbrev pub root_of : rust_root.Root → Root
root_of (R.Plain t) = Plain (node_of t)
root_of (R.Scanner ps) = Scanner (map pattern_of ps)

abbrev pub entry_of : rust_entry.Entry → Entry
entry_of e = record { name = e.name; root = root_of e.root }

abbrev pub action_of : ActionDef → Action
action_of a = record { name = a.name; statements = a.statements }

-- what a Spec says, without its memory, places and texts
abbrev pub specification_of : Spec → Specification
specification_of spec = record {
  alphabet = spec.alphabet;
  entries = map entry_of spec.entries;
  actions = map action_of spec.actions;
  conditions = map (λ (a : ActionId). a.0) spec.conds;
}

abbrev pub roots_of : Specification → List Root
roots_of spec = map (λ e. e.root) spec.entries

-- the n-th of a list, from 1
abbrev pub numbered : {X : Type 0} → List X → ℕ → Option X
numbered xs zero = None
numbered xs (suc i) = slice_get xs i

-- ---- what is asked by a number

abbrev pub name_or : Option (List ℕ) → List ℕ
name_or None = []
name_or (Some name) = name

abbrev pub entry_name_at : List Entry → ℕ → List ℕ
entry_name_at entries e = name_or (option_map (λ x. x.name) (numbered entries e))

abbrev pub action_name_at : List Action → ℕ → List ℕ
action_name_at actions a = name_or (option_map (λ x. x.name) (numbered actions a))

-- a condition has its action's name
abbrev pub condition_name_at : List Action → List ℕ → ℕ → List ℕ
condition_name_at actions conditions c = name_or (option_map (action_name_at actions) (numbered conditions c))

-- the n-th statement of the a-th action
abbrev pub statement_at : List Action → ℕ → ℕ → Option Statement
statement_at actions a n = elim (numbered actions a) [ None ↦ None | Some x ↦ numbered x.statements n ]
