-- What is asked of each part of a Spec.
use Rattle.std.specs.Prelude.{◌≡◌, ◌≢◌, ℕ, ◌+◌, ◌-◌, ◌<◌, ◌≤◌, IsTrue, IfSome, List, [], map, length, sum_by, slice_get, All}
use Rattle.rl_types.specs.Limits.{most_conditions, most_depth, most_names, most_nodes}
use Rattle.rl_types.specs.declared.numbers.ActionId.{ActionId}
use Rattle.rl_types.specs.declared.numbers.Place.{Place}
use Rattle.rl_types.specs.KeyRange.{Range}
use Rattle.rl_automata.specs.declared.tree.Kind.{Kind}
use Rattle.rl_automata.specs.declared.tree.Kind.TheVariants as K
use Rattle.rl_automata.specs.declared.tree.Label.{Label}
use Rattle.rl_automata.specs.declared.tree.Label.TheVariants.{Action, Prior}
use Rattle.rl_automata.specs.Nodes as N
use Rattle.rl_automata.specs.Nodes.{Node, node_of}
use Rattle.rl_automata.specs.Refused.{AreDifferent}
use Rattle.rl_arrays.specs.Names.{is_name, is_action_name}
use Rattle.rl_model.specs.declared.spec.Pattern as rust_pattern
use Rattle.rl_model.specs.declared.spec.Root as rust_root
use Rattle.rl_model.specs.declared.spec.Root.TheVariants as R
use Rattle.rl_model.specs.declared.spec.Entry as rust_entry
use Rattle.rl_model.specs.declared.spec.ActionDef.{ActionDef}
use Rattle.rl_model.specs.declared.spec.Write.{Write}
use Rattle.rl_model.specs.declared.spec.Spec.{Spec}
use Rattle.rl_model.specs.Counts.{size_of, depth_of}
use Rattle.rl_model.specs.WellFormed.{IsNumber, IsInAlphabet, IsCodeRead, outer_statements}
use Rattle.rl_form.specs.declared.scope.Scope.{Scope}

-- what a Spec has, for its parts to speak of
abbrev pub scope_of : Spec → Scope
scope_of spec = record { alphabet = spec.alphabet; actions = length spec.actions; conditions = length spec.conds; files = length spec.files }

-- ---- an expression

-- its stamp is a stamp, and its action one of the actions
abbrev pub IsLabel : Scope → Label → Type 0
IsLabel scope (Action s x) = IsNumber most_nodes s × IsNumber scope.actions x.0
IsLabel scope (Prior s n v) = IsNumber most_nodes s

-- few ranges, of keys of the alphabet
abbrev pub IsSet : Scope → List Range → Type 0
IsSet scope ranges = (length ranges ≤ 256) × All (IsInAlphabet scope.alphabet) ranges

-- all its sets are sets, its stamps stamps, and its actions and conditions are there
abbrev pub IsSound : Scope → Node → Type 0
IsSound scope (N.Set ranges) = IsSet scope ranges
IsSound scope N.Null = Unit {0}
IsSound scope N.Nothing = Unit {0}
IsSound scope (N.Union a b) = IsSound scope a × IsSound scope b
IsSound scope (N.And a b) = IsSound scope a × IsSound scope b
IsSound scope (N.Minus a b) = IsSound scope a × IsSound scope b
IsSound scope (N.Cat a b) = IsSound scope a × IsSound scope b
IsSound scope (N.Star a n) = IsNumber most_nodes n × IsSound scope a
IsSound scope (N.Enter a l) = IsLabel scope l × IsSound scope a
IsSound scope (N.Finish a l) = IsLabel scope l × IsSound scope a
IsSound scope (N.All a l) = IsLabel scope l × IsSound scope a
IsSound scope (N.Leave a l) = IsLabel scope l × IsSound scope a
IsSound scope (N.Mark a class kind s x) = (IsNumber most_nodes s × IsNumber scope.actions x) × IsSound scope a
IsSound scope (N.When a c) = IsNumber scope.conditions c × IsSound scope a

-- an expression that is not too deep, with so many nodes, all of them sound
pub record IsTree (scope : Scope) (n : ℕ) (t : Node) : Type 0 where
  pub not_deep : depth_of t ≤ most_depth
  pub nodes : size_of t ≡ n
  pub sound : IsSound scope t

-- ---- an entry, an action, a `write`

abbrev pub HasFile : ℕ → Place → Type 0
HasFile files place = place.file < files

-- its expression is not too deep and all of it sound, the action of its token exists, and it stands in one of the files
pub record IsPattern (scope : Scope) (p : rust_pattern.Pattern) : Type 0 where
  pub not_deep : depth_of (node_of p.tree) ≤ most_depth
  pub sound : IsSound scope (node_of p.tree)
  pub token : IfSome p.token (λ (a : ActionId). IsNumber scope.actions a.0)
  pub place : HasFile scope.files p.place

-- patterns, one at least, that have so many nodes with the scanner itself
pub record IsScanner (scope : Scope) (n : ℕ) (ps : List rust_pattern.Pattern) : Type 0 where
  pub some_pattern : ps ≢ []
  pub nodes : sum_by (λ (p : rust_pattern.Pattern). size_of (node_of p.tree)) ps + 1 ≡ n
  pub patterns : All (IsPattern scope) ps

abbrev pub IsRoot : Scope → ℕ → rust_root.Root → Type 0
IsRoot scope n (R.Plain t) = IsTree scope n (node_of t)
IsRoot scope n (R.Scanner ps) = IsScanner scope n ps

pub record IsEntry (scope : Scope) (e : rust_entry.Entry) : Type 0 where
  pub name : IsTrue (is_name e.name)
  pub few : length e.places ≤ most_nodes
  pub root : IsRoot scope (length e.places) e.root
  pub places : All (HasFile scope.files) e.places

pub record IsAction (files : ℕ) (a : ActionDef) : Type 0 where
  pub name : IsTrue (is_action_name a.name)
  pub few_outer : outer_statements a.statements ≤ 4
  pub place : HasFile files a.place

abbrev pub IsWrite : ℕ → Write → Type 0
IsWrite files w = HasFile files w.place

abbrev pub IsCondition : ℕ → ActionId → Type 0
IsCondition actions c = IsNumber actions c.0

-- ---- actions without control statements

-- the action with this number, from 1, has no control statement; there may be none with it
abbrev pub IsQuiet : List ActionDef → ℕ → Type 0
IsQuiet actions n = 1 ≤ n → IfSome (slice_get actions (n - 1)) (λ (a : ActionDef). a.statements ≡ [])

-- the action of a mark, where it is a to-state or a from-state action
abbrev pub HasQuietMark : List ActionDef → Kind → ℕ → Type 0
HasQuietMark actions K.To x = IsQuiet actions x
HasQuietMark actions K.From x = IsQuiet actions x
HasQuietMark actions K.Eof x = Unit {0}
HasQuietMark actions K.Error x = Unit {0}

-- its to-state and from-state actions
abbrev pub HasQuietTurns : List ActionDef → Node → Type 0
HasQuietTurns actions (N.Set ranges) = Unit {0}
HasQuietTurns actions N.Null = Unit {0}
HasQuietTurns actions N.Nothing = Unit {0}
HasQuietTurns actions (N.Union a b) = HasQuietTurns actions a × HasQuietTurns actions b
HasQuietTurns actions (N.And a b) = HasQuietTurns actions a × HasQuietTurns actions b
HasQuietTurns actions (N.Minus a b) = HasQuietTurns actions a × HasQuietTurns actions b
HasQuietTurns actions (N.Cat a b) = HasQuietTurns actions a × HasQuietTurns actions b
HasQuietTurns actions (N.Star a n) = HasQuietTurns actions a
HasQuietTurns actions (N.Enter a l) = HasQuietTurns actions a
HasQuietTurns actions (N.Finish a l) = HasQuietTurns actions a
HasQuietTurns actions (N.All a l) = HasQuietTurns actions a
HasQuietTurns actions (N.Leave a l) = HasQuietTurns actions a
HasQuietTurns actions (N.Mark a class kind s x) = HasQuietMark actions kind x × HasQuietTurns actions a
HasQuietTurns actions (N.When a c) = HasQuietTurns actions a

abbrev pub HasQuietLabel : List ActionDef → Label → Type 0
HasQuietLabel actions (Action s x) = IsQuiet actions x.0
HasQuietLabel actions (Prior s n v) = Unit {0}

-- all actions that it embeds
abbrev pub HasQuietActions : List ActionDef → Node → Type 0
HasQuietActions actions (N.Set ranges) = Unit {0}
HasQuietActions actions N.Null = Unit {0}
HasQuietActions actions N.Nothing = Unit {0}
HasQuietActions actions (N.Union a b) = HasQuietActions actions a × HasQuietActions actions b
HasQuietActions actions (N.And a b) = HasQuietActions actions a × HasQuietActions actions b
HasQuietActions actions (N.Minus a b) = HasQuietActions actions a × HasQuietActions actions b
HasQuietActions actions (N.Cat a b) = HasQuietActions actions a × HasQuietActions actions b
HasQuietActions actions (N.Star a n) = HasQuietActions actions a
HasQuietActions actions (N.Enter a l) = HasQuietLabel actions l × HasQuietActions actions a
HasQuietActions actions (N.Finish a l) = HasQuietLabel actions l × HasQuietActions actions a
HasQuietActions actions (N.All a l) = HasQuietLabel actions l × HasQuietActions actions a
HasQuietActions actions (N.Leave a l) = HasQuietLabel actions l × HasQuietActions actions a
HasQuietActions actions (N.Mark a class kind s x) = IsQuiet actions x × HasQuietActions actions a
HasQuietActions actions (N.When a c) = HasQuietActions actions a

-- the to-state and from-state actions of an expression, and all actions in patterns
abbrev pub IsQuietRoot : List ActionDef → rust_root.Root → Type 0
IsQuietRoot actions (R.Plain t) = HasQuietTurns actions (node_of t)
IsQuietRoot actions (R.Scanner ps) = All (λ (p : rust_pattern.Pattern). HasQuietActions actions (node_of p.tree)) ps

-- ---- a Spec

-- there are entries, and not too many of anything
pub record AreFew (spec : Spec) : Type 0 where
  pub some_entry : 1 ≤ length spec.entries
  pub entries : length spec.entries ≤ 65536
  pub actions : length spec.actions ≤ most_names
  pub conditions : length spec.conds ≤ most_conditions

-- no two of a kind have one name, and no two conditions one action
pub record AreApart (spec : Spec) : Type 0 where
  pub entries : AreDifferent (map (λ (e : rust_entry.Entry). e.name) spec.entries)
  pub actions : AreDifferent (map (λ (a : ActionDef). a.name) spec.actions)
  pub conditions : AreDifferent (map (λ (a : ActionId). a.0) spec.conds)

-- each part is as is asked
pub record AreSound (spec : Spec) : Type 0 where
  pub machine : IsTrue (is_name spec.machine)
  pub entries : All (IsEntry (scope_of spec)) spec.entries
  pub actions : All (IsAction (length spec.files)) spec.actions
  pub conditions : All (IsCondition (length spec.actions)) spec.conds
  pub writes : All (IsWrite (length spec.files)) spec.writes

-- conditions, to-state and from-state actions and those in patterns have no control statements
pub record AreQuiet (spec : Spec) : Type 0 where
  pub conditions : All (λ (a : ActionId). IsQuiet spec.actions a.0) spec.conds
  pub roots : All (λ (e : rust_entry.Entry). IsQuietRoot spec.actions e.root) spec.entries

pub record HasParts (spec : Spec) : Type 0 where
  pub few : AreFew spec
  pub sound : AreSound spec
  pub quiet : AreQuiet spec
  pub apart : AreApart spec
  -- each action's code says what its statements are
  pub codes : All (IsCodeRead spec) spec.actions
