-- When the Spec of a machine is well-formed. The limits are this profile's.
use Rattle.std.specs.Prelude.{◌≡◌, ◌≢◌, ℕ, ◌<◌, ◌≤◌, ◌&&◌, ◌↔◌, IsTrue, IsSome, IfSome, List, [], ◌∷◌, ◌++◌, map, length, filter, flat_map, All, if◌then◌else◌}
use Rattle.rl_types.specs.Limits.{most_conditions, most_depth, most_names, most_nodes}
use Rattle.rl_types.specs.declared.alphabet.Alphabet.{Alphabet}
use Rattle.rl_types.specs.declared.numbers.Place.{Place}
use Rattle.rl_types.specs.Alphabet.{has_key}
use Rattle.rl_types.specs.KeyRange.{Range}
use Rattle.rl_run.specs.declared.statements.Statement.{Statement}
use Rattle.rl_run.specs.declared.statements.StatementKind.{StatementKind}
use Rattle.rl_automata.specs.Nodes.{Node}
use Rattle.rl_automata.specs.Refused.{AreDifferent, sets_in, conditions_in}
use Rattle.rl_arrays.specs.Names.{is_name, is_action_name}
use Rattle.rl_arrays.specs.Statements.{names_entry, ends_list}
use Rattle.rl_code.specs.Reading.{IsReadAs}
use Rattle.rl_model.specs.declared.spec.Pattern as rust
use Rattle.rl_model.specs.declared.spec.Root as rust_root
use Rattle.rl_model.specs.declared.spec.Root.TheVariants as R
use Rattle.rl_model.specs.declared.spec.Entry as rust_entry
use Rattle.rl_model.specs.declared.spec.ActionDef.{ActionDef}
use Rattle.rl_model.specs.declared.spec.Write.{Write}
use Rattle.rl_model.specs.declared.spec.Spec.{Spec}
use Rattle.rl_model.specs.Specification.{Root, Plain, Scanner, Action, Specification, specification_of, root_of, roots_of, numbered}
use Rattle.rl_model.specs.Counts.{root_size, root_depth, trees_of, pattern_trees, token_actions, actions_in, turn_actions_in, stamps_in}

-- it is the number of one of so many things, which count from 1
abbrev pub IsNumber : ℕ → ℕ → Type 0
IsNumber count n = (1 ≤ n) × (n ≤ count)

-- ---- what stands in a specification

abbrev pub all_trees : Specification → List Node
all_trees spec = flat_map trees_of (roots_of spec)

abbrev pub all_statements : Specification → List Statement
all_statements spec = flat_map (λ (a : Action). a.statements) spec.actions

-- the actions that its expressions embed, and those of its tokens
abbrev pub all_actions : Specification → List ℕ
all_actions spec = flat_map actions_in (all_trees spec) ++ flat_map token_actions (roots_of spec)

-- the actions that may have no control statements: conditions, to-state and from-state actions, and those embedded in a pattern
abbrev pub quiet_actions : Specification → List ℕ
quiet_actions spec = spec.conditions ++ flat_map turn_actions_in (all_trees spec) ++ flat_map actions_in (flat_map pattern_trees (roots_of spec))

abbrev pub HasNoStatement : List Action → ℕ → Type 0
HasNoStatement actions a = IfSome (numbered actions a) (λ x. x.statements ≡ [])

-- both ends of the range are keys of the alphabet
abbrev pub IsInAlphabet : Alphabet → Range → Type 0
IsInAlphabet alphabet r = IsTrue (has_key alphabet r.lo && has_key alphabet r.hi)

-- those up to the first transfer or break, with it
abbrev pub up_to_end : List StatementKind → List StatementKind
up_to_end [] = []
up_to_end (k ∷ ks) = if ends_list k then k ∷ [] else k ∷ up_to_end ks

-- how many statements at the outer level there are up to the first transfer or break
abbrev pub outer_statements : List Statement → ℕ
outer_statements statements = length (up_to_end (map (λ (s : Statement). s.kind) (filter (λ (s : Statement). s.outer) statements)))

-- ---- places

abbrev pub pattern_places : rust_root.Root → List Place
pattern_places (R.Plain t) = []
pattern_places (R.Scanner ps) = map (λ (p : rust.Pattern). p.place) ps

abbrev pub all_places : Spec → List Place
all_places spec =
    flat_map (λ (e : rust_entry.Entry). e.places ++ pattern_places e.root) spec.entries
    ++ map (λ (a : ActionDef). a.place) spec.actions
    ++ map (λ (w : Write). w.place) spec.writes

abbrev pub HasPlaces : rust_entry.Entry → Type 0
HasPlaces e = length e.places ≡ root_size (root_of e.root)

abbrev pub HasPatterns : Root → Type 0
HasPatterns (Plain t) = Unit {0}
HasPatterns (Scanner ps) = ps ≢ []

-- the action's code is a block of C whose words have their forms, which names entries of the Spec and has these control statements
abbrev pub IsCodeRead : Spec → ActionDef → Type 0
IsCodeRead spec a = IsReadAs (map (λ (e : rust_entry.Entry). e.name) spec.entries) a.code a.statements

-- ---- well-formed

-- a Spec is well-formed where these hold
pub record IsWellFormed (spec : Spec) : Type 0 where
  -- how many there are
  pub some_entry : 1 ≤ length spec.entries
  pub few_entries : length spec.entries ≤ 65536
  pub few_actions : length spec.actions ≤ most_names
  pub few_conditions : length spec.conds ≤ most_conditions
  -- names
  pub entries_differ : AreDifferent (map (λ (e : rust_entry.Entry). e.name) spec.entries)
  pub actions_differ : AreDifferent (map (λ (a : ActionDef). a.name) spec.actions)
  pub conditions_differ : AreDifferent (specification_of spec).conditions
  pub machine_name : IsTrue (is_name spec.machine)
  pub entry_names : All (λ (e : rust_entry.Entry). IsTrue (is_name e.name)) spec.entries
  pub action_names : All (λ (a : ActionDef). IsTrue (is_action_name a.name)) spec.actions
  -- numbers
  pub actions_exist : All (IsNumber (length spec.actions)) (all_actions (specification_of spec))
  pub condition_actions_exist : All (IsNumber (length spec.actions)) (specification_of spec).conditions
  pub conditions_exist : All (IsNumber (length spec.conds)) (flat_map conditions_in (all_trees (specification_of spec)))
  pub entries_exist : All (λ (s : Statement). IfSome s.entry (λ e. IsNumber (length spec.entries) e.0)) (all_statements (specification_of spec))
  pub files_exist : All (λ (p : Place). p.file < length spec.files) (all_places spec)
  -- expressions
  pub keys_in_alphabet : All (All (IsInAlphabet spec.alphabet)) (flat_map sets_in (all_trees (specification_of spec)))
  pub few_ranges : All (λ (ranges : List Range). length ranges ≤ 256) (flat_map sets_in (all_trees (specification_of spec)))
  pub few_nodes : All (λ (x : Root). root_size x ≤ most_nodes) (roots_of (specification_of spec))
  pub not_deep : All (λ (x : Root). root_depth x ≤ most_depth) (roots_of (specification_of spec))
  pub stamps : All (IsNumber most_nodes) (flat_map stamps_in (all_trees (specification_of spec)))
  pub places : All HasPlaces spec.entries
  pub patterns : All HasPatterns (roots_of (specification_of spec))
  -- control statements
  pub codes : All (IsCodeRead spec) spec.actions
  pub statement_entries : All (λ (s : Statement). IsSome s.entry ↔ IsTrue (names_entry s.kind)) (all_statements (specification_of spec))
  pub few_outer : All (λ (a : ActionDef). outer_statements a.statements ≤ 4) spec.actions
  pub quiet : All (HasNoStatement (specification_of spec).actions) (quiet_actions (specification_of spec))
