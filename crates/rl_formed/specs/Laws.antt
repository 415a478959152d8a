-- What holds of each draft, and of the entries that it is rewritten to.
use Rattle.std.specs.Prelude.{◌≡◌, ℕ, ◌≤◌, ◌<◌, ◌^◌, IsTrue, List, [], map, length, None, Ok, All}
use Rattle.rl_types.specs.Limits.{most_names}
use Rattle.rl_types.specs.declared.alphabet.Alphabet.{Alphabet}
use Rattle.rl_types.specs.declared.numbers.ActionId.{ActionId}
use Rattle.rl_types.specs.declared.numbers.Place.{Place}
use Rattle.std.specs.List.{flat_map}
use Rattle.rl_types.specs.KeyRange.{Range}
use Rattle.rl_grammar.specs.declared.syntax.Statement.{Statement}
use Rattle.rl_grammar.specs.declared.syntax.Statement.TheVariants as statement
use Rattle.rl_arrays.specs.Names.{is_name, is_action_name}
use Rattle.rl_automata.specs.Nodes.{Node}
use Rattle.rl_automata.specs.Refused.{AreDifferent, sets_in}
use Rattle.rl_model.specs.declared.spec.ActionDef.{ActionDef}
use Rattle.rl_model.specs.declared.spec.Write.{Write}
use Rattle.rl_code.specs.Reading.{IsBlock, IsReadAs}
use Rattle.rl_model.specs.Counts.{actions_in, turn_actions_in, trees_of, pattern_trees, token_actions}
use Rattle.rl_model.specs.Specification.{action_of}
use Rattle.rl_model.specs.WellFormed.{IsNumber, IsInAlphabet, HasNoStatement, HasPatterns, outer_statements}
use Rattle.rl_grammar.specs.declared.step.Step.{Step}
use Rattle.rl_draft.specs.declared.draft.Draft.{Draft}
use Rattle.rl_names.specs.Checks.{leaves_fault}
use Rattle.rl_names.specs.Drafts.{draft_of}
use Rattle.rl_names.specs.Events.{Event, value_events}
use Rattle.rl_names.specs.Events as event
use Rattle.rl_names.specs.Frames.{machines_of}
use Rattle.rl_names.specs.Names.{names_fault}
use Rattle.rl_rewrite.specs.Entries.{Made, meanings, entries, all_conditions}

-- the names of its entries, in order
abbrev pub entry_names : Draft → List (List ℕ)
entry_names draft = map (λ (m : Made). m.name) (entries [] (meanings draft))

-- each action's code is read as its statements, among its entries
abbrev pub HasReadCodes : Draft → Type 0
HasReadCodes draft = All (λ (a : ActionDef). IsReadAs (entry_names draft) a.code a.statements) draft.actions

-- no action has more than four statements at the outer level
abbrev pub HasFewStatements : Draft → Type 0
HasFewStatements draft = All (λ (a : ActionDef). outer_statements a.statements ≤ 4) draft.actions

-- the action with this number has no statement
abbrev pub IsQuiet : Draft → ℕ → Type 0
IsQuiet draft n = HasNoStatement (map action_of draft.actions) n

-- no condition has a statement
abbrev pub HasQuietConditions : Draft → Type 0
HasQuietConditions draft = All (λ (a : ActionId). IsQuiet draft a.0) (all_conditions [] (meanings draft))

-- no to-state and no from-state action of an entry has a statement
abbrev pub HasQuietTurns : Draft → Type 0
HasQuietTurns draft = All (λ (m : Made). All (λ (t : Node). All (IsQuiet draft) (turn_actions_in t)) (trees_of m.root)) (entries [] (meanings draft))

-- no two actions have one name
abbrev pub HasOwnActions : Draft → Type 0
HasOwnActions draft = AreDifferent (map (λ (a : ActionDef). a.name) draft.actions)

-- no two entries have one name
abbrev pub HasOwnEntries : Draft → Type 0
HasOwnEntries draft = AreDifferent (map (λ (m : Made). m.name) (entries [] (meanings draft)))

-- each entry that is a scanner has a pattern
abbrev pub HasPatternsIn : Draft → Type 0
HasPatternsIn draft = All (λ (m : Made). HasPatterns m.root) (entries [] (meanings draft))

-- the actions of its tokens are actions of the machine
abbrev pub HasOwnTokens : Draft → Type 0
HasOwnTokens draft = All (λ (m : Made). All (IsNumber (length draft.actions)) (token_actions m.root)) (entries [] (meanings draft))

-- no action that a pattern embeds has a statement
abbrev pub HasQuietPatterns : Draft → Type 0
HasQuietPatterns draft = All (λ (m : Made). All (λ (t : Node). All (IsQuiet draft) (actions_in t)) (pattern_trees m.root)) (entries [] (meanings draft))

abbrev pub HasFewActions : Draft → Type 0
HasFewActions draft = length draft.actions ≤ most_names

abbrev pub HasFewEntries : Draft → Type 0
HasFewEntries draft = length (entries [] (meanings draft)) ≤ most_names

-- each action that an entry embeds is an action of the machine
abbrev pub EmbedsOwnActions : Draft → Type 0
EmbedsOwnActions draft = All (λ (m : Made). All (λ (t : Node). All (IsNumber (length draft.actions)) (actions_in t)) (trees_of m.root)) (entries [] (meanings draft))

-- each condition is an action of the machine
abbrev pub HasOwnConditions : Draft → Type 0
HasOwnConditions draft = All (λ (a : ActionId). IsNumber (length draft.actions) a.0) (all_conditions [] (meanings draft))

-- it holds of every draft that statements are read as
abbrev pub OfDrafts : (Draft → Type 0) → Type 0
OfDrafts P = (steps : List Step) (machine : List ℕ) (draft : Draft) → draft_of steps machine ≡ Ok draft → P draft

-- it holds of every draft that statements are read as in which no fault of names is found
abbrev pub OfNamed : (Draft → Type 0) → Type 0
OfNamed P = (steps : List Step) (machine : List ℕ) (draft : Draft) → names_fault steps ≡ None → draft_of steps machine ≡ Ok draft → P draft

-- ---- what tokens say

-- each number of the place fits 64 bits
abbrev pub Fits : Place → Type 0
Fits p = (p.file < 2 ^ 64) × (p.line < 2 ^ 64) × (p.col < 2 ^ 64)

abbrev pub IsUsedAsWritten : Event → Type 0
IsUsedAsWritten (event.Code w) = Fits w.place × IsBlock w.text
IsUsedAsWritten _ = Unit {0}

-- its names are names and its codes are blocks of C, as those that tokens have
abbrev pub IsWritten : Statement → Type 0
IsWritten (statement.Machine m) = IsTrue (is_name m.name.text)
IsWritten (statement.Action a) = IsTrue (is_name a.name.text) × IsBlock a.code.text
IsWritten (statement.Definition d) = IsTrue (is_name d.name.text) × All IsUsedAsWritten (value_events d.value)
IsWritten _ = Unit {0}

abbrev pub AreWritten : List Step → Type 0
AreWritten steps = All (λ (s : Step). IsWritten s.statement) steps

-- each entry has a name
abbrev pub HasNamedEntries : Draft → Type 0
HasNamedEntries draft = All (λ (m : Made). IsTrue (is_name m.name)) (entries [] (meanings draft))

-- each action has the name of one
abbrev pub HasNamedActions : Draft → Type 0
HasNamedActions draft = All (λ (a : ActionDef). IsTrue (is_action_name a.name)) draft.actions

abbrev pub IsSmallSet : Alphabet → List Range → Type 0
IsSmallSet alphabet ranges = (length ranges ≤ 256) × All (IsInAlphabet alphabet) ranges

-- the sets of its entries are few ranges, of keys of the alphabet
abbrev pub HasSmallSets : Draft → Type 0
HasSmallSets draft = All (λ (m : Made). All (IsSmallSet draft.alphabet) (flat_map sets_in (trees_of m.root))) (entries [] (meanings draft))

-- it holds of every draft that such statements are read as
abbrev pub OfWritten : (Draft → Type 0) → Type 0
OfWritten P = (steps : List Step) (machine : List ℕ) (draft : Draft) → AreWritten steps → draft_of steps machine ≡ Ok draft → P draft

-- it holds of every draft that such statements are read as in which no fault of names, of keys or of entries is found
abbrev pub OfAccepted : (Draft → Type 0) → Type 0
OfAccepted P = (steps : List Step) (machine : List ℕ) (draft : Draft) → AreWritten steps → names_fault steps ≡ None → leaves_fault steps ≡ None → draft_of steps machine ≡ Ok draft → P draft

-- each machine has a name
abbrev pub HaveNamedMachines : Type 0
HaveNamedMachines = (steps : List Step) → AreWritten steps → All (λ (m : List ℕ). IsTrue (is_name m)) (machines_of steps)

-- ---- files

abbrev pub IsUsedIn : ℕ → Event → Type 0
IsUsedIn count (event.Code w) = w.place.file < count
IsUsedIn count _ = Unit {0}

-- its code, and the statement itself where it is a `write`, stand in one of so many files
abbrev pub StandsIn : ℕ → Statement → Type 0
StandsIn count (statement.Action a) = a.code.place.file < count
StandsIn count (statement.Definition d) = All (IsUsedIn count) (value_events d.value)
StandsIn count (statement.Write w) = w.start.file < count
StandsIn count _ = Unit {0}

abbrev pub StandIn : ℕ → List Step → Type 0
StandIn count steps = All (λ (s : Step). StandsIn count s.statement) steps

abbrev pub HasActionsIn : ℕ → Draft → Type 0
HasActionsIn count draft = All (λ (a : ActionDef). a.place.file < count) draft.actions

abbrev pub HasWritesIn : ℕ → Draft → Type 0
HasWritesIn count draft = All (λ (w : Write). w.place.file < count) draft.writes

-- it holds of every draft that statements in so many files are read as
abbrev pub OfFiles : (ℕ → Draft → Type 0) → Type 0
OfFiles P = (count : ℕ) (steps : List Step) (machine : List ℕ) (draft : Draft) → StandIn count steps → draft_of steps machine ≡ Ok draft → P count draft
