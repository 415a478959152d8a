-- The names of a source and the codes of its actions, in text order: the first name that is not defined earlier, that is
-- defined twice, or that is one too many; the first word of code that is misplaced, or statement that is one too many; and
-- the first use of an action with control statements, or of an end-of-file or error embedding, where it may not stand.
use Rattle.std.specs.Prelude.{ℕ, ◌+◌, Bool, false, not, ◌&&◌, ◌||◌, nat_lt, if◌then◌else◌, List, [], ◌∷◌, ◌++◌, fold, length, Option, Some, None, is_some, unwrap_or}
use Rattle.std.specs.Map.{lookup}
use Rattle.std.specs.List.{list_any}
use Rattle.std.specs.Option.{option_map, option_map_or}
use Rattle.std.specs.Str.{bytes_eq}
use Rattle.rl_types.specs.Limits.{most_names}
use Rattle.rl_types.specs.declared.faults.FaultKind.TheVariants.{F5, F6, F13, F14}
use Rattle.rl_types.specs.declared.faults.LimitKind.TheVariants.{L9}
use Rattle.rl_types.specs.declared.numbers.Place.{Place}
use Rattle.rl_grammar.specs.declared.read_fault.ReadFault.{ReadFault}
use Rattle.rl_grammar.specs.declared.read_fault.ReadFault.TheVariants as reason
use Rattle.rl_grammar.specs.declared.syntax.Action.{Action}
use Rattle.rl_grammar.specs.declared.syntax.ActionUse.{ActionUse}
use Rattle.rl_grammar.specs.declared.syntax.ActionUse.TheVariants as action
use Rattle.rl_grammar.specs.declared.syntax.Definition.{Definition}
use Rattle.rl_grammar.specs.declared.syntax.Statement.{Statement}
use Rattle.rl_grammar.specs.declared.syntax.Statement.TheVariants as statement
use Rattle.rl_grammar.specs.declared.syntax.Word.{Word}
use Rattle.rl_grammar.specs.declared.syntax.WriteKind.{WriteKind}
use Rattle.rl_grammar.specs.declared.syntax.WriteKind.TheVariants as written
use Rattle.rl_names.specs.Answers.{or_else}
use Rattle.rl_names.specs.Codes.{has_statements, code_fault}
use Rattle.rl_names.specs.Events.{Event, Found, value_events}
use Rattle.rl_names.specs.Events as event
use Rattle.rl_names.specs.Leaves.{is_built_in, fault_at}
use Rattle.rl_names.specs.Values.{scanner_of}
use Rattle.rl_names.specs.declared.tables.Brought.{Brought}
use Rattle.rl_names.specs.declared.tables.Ending.{Ending}
use Rattle.rl_grammar.specs.declared.step.Step.{Step}

-- a name of a machine: the machine's own, and this one
abbrev pub Named : Type 0
Named = List ℕ × List ℕ

abbrev pub same : Named → Named → Bool
same p q = bytes_eq p.0 q.0 && bytes_eq p.1 q.1

abbrev pub is_among : List ℕ → List ℕ → List Named → Bool
is_among machine name all = list_any (same (machine, name)) all

-- what is said of a name where it stands first
abbrev pub said_of : {A : Type 0} → Named → List (Named × A) → Option A
said_of p all = lookup (same p) all

-- what is known behind statements of all machines
pub record Known : Type 0 where
  -- the names of expressions, in the order of their definitions, and what they bring to where they are used
  pub defined : List (Named × Brought)
  -- the names of actions, and whether they have control statements
  pub actions : List (Named × Bool)
  -- the machines whose data are written
  pub written : List (List ℕ)

-- ---- what an expression embeds, where its names are followed

-- an action that is used has control statements
abbrev pub steers : Known → List ℕ → ActionUse → Bool
steers k machine (action.Name w) = unwrap_or (said_of (machine, w.text) k.actions) false
steers k machine (action.Group opening w closing) = unwrap_or (said_of (machine, w.text) k.actions) false
steers k machine (action.Code w) = has_statements w.text

abbrev pub brings_statements : Option Brought → Bool
brings_statements b = option_map_or (λ (x : Brought). x.steers) b false

abbrev pub embeds_statements : Known → List ℕ → Event → Bool
embeds_statements k machine (event.Embeds a) = steers k machine a
embeds_statements k machine (event.Name w) = brings_statements (said_of (machine, w.text) k.defined)
embeds_statements k machine _ = false

-- of two end-of-file or error embeddings the one whose definition stands first; in one definition the former
abbrev pub earlier : Option Ending → Option Ending → Option Ending
earlier None b = b
earlier (Some a) None = Some a
earlier (Some a) (Some b) = Some (if nat_lt b.number a.number then b else a)

abbrev pub brought_ending : Option Brought → Option Ending
brought_ending None = None
brought_ending (Some b) = b.ending

-- the one that an event of the definition behind those that are known embeds or brings
abbrev pub ending_of : Known → List ℕ → Event → Option Ending
ending_of k machine (event.Ends place) = Some (record { number = length k.defined; place = place })
ending_of k machine (event.Name w) = brought_ending (said_of (machine, w.text) k.defined)
ending_of k machine _ = None

abbrev pub first_ending : Known → List ℕ → Found → Option Ending
first_ending k machine es = fold (λ found e. earlier found (ending_of k machine e)) None es

-- ---- what statements define

-- what a name brings that stands for what uses these; a scanner has its name for the entry alone
abbrev pub brought : Known → List ℕ → Definition → Found → Brought
brought k machine d es = record {
  usable = not (is_some (scanner_of d.value));
  steers = list_any (embeds_statements k machine) es;
  ending = first_ending k machine es;
}

-- the name that a statement defines, and what it brings
abbrev pub defined_by : Known → List ℕ → Statement → List (Named × Brought)
defined_by k machine (statement.Definition d) = ((machine, d.name.text), brought k machine d (value_events d.value)) ∷ []
defined_by k machine _ = []

-- The action that a statement defines, and whether it has control statements.
abbrev pub action_by : List ℕ → Statement → List (Named × Bool)
action_by machine (statement.Action a) = ((machine, a.name.text), has_statements a.code.text) ∷ []
action_by machine _ = []

-- the data of a machine, which are written once
abbrev pub data_by : List ℕ → WriteKind → List (List ℕ)
data_by machine (written.Data place) = machine ∷ []
data_by machine (written.Init place) = []
data_by machine (written.Exec place) = []

abbrev pub written_by : List ℕ → Statement → List (List ℕ)
written_by machine (statement.Write w) = data_by machine w.what
written_by machine _ = []

abbrev pub nothing : Known
nothing = record { defined = []; actions = []; written = [] }

-- what is known behind one more statement
abbrev pub behind : Known → List ℕ → Statement → Known
behind k machine s = record {
  defined = k.defined ++ defined_by k machine s;
  actions = k.actions ++ action_by machine s;
  written = k.written ++ written_by machine s;
}

abbrev pub known_behind : Known → Step → Known
known_behind k s = behind k s.machine s.statement

abbrev pub known : List Step → Known
known steps = fold known_behind nothing steps

-- ---- how many names there are

abbrev pub is_code : Event → ℕ
is_code (event.Code w) = 1
is_code _ = 0

abbrev pub codes_in : Found → ℕ
codes_in [] = 0
codes_in (e ∷ es) = is_code e + codes_in es

abbrev pub names_by : Statement → ℕ
names_by (statement.Definition d) = 1 + codes_in (value_events d.value)
names_by (statement.Action a) = 1
names_by _ = 0

-- the names of a machine: definitions, instantiations and actions, those without a name of their own included
abbrev pub names_of : List ℕ → List Step → ℕ
names_of machine [] = 0
names_of machine (s ∷ ss) = (if bytes_eq machine s.machine then names_by s.statement else 0) + names_of machine ss

-- ---- faults

abbrev pub unknown : Place → ReadFault
unknown place = reason.Fault (record { kind = F5; place = place })

abbrev pub twice : Place → ReadFault
twice place = reason.Fault (record { kind = F6; place = place })

abbrev pub too_many : Place → ReadFault
too_many place = reason.Limit (record { kind = L9; place = place })

abbrev pub unless : Bool → ReadFault → Option ReadFault
unless good fault = if good then None else Some fault

-- a name behind n others: is it one too many?
abbrev pub counted : ℕ → Place → Option ReadFault
counted n place = unless (nat_lt n most_names) (too_many place)

abbrev pub is_usable : Option Brought → Bool
is_usable b = option_map_or (λ (x : Brought). x.usable) b false

-- an expression that is used is defined earlier, or is built in
abbrev pub expression_fault : Known → List ℕ → Word → Option ReadFault
expression_fault k machine w = unless (is_built_in w.text || is_usable (said_of (machine, w.text) k.defined)) (unknown w.place)

-- an action that is used is defined earlier
abbrev pub embedded_fault : Known → List ℕ → Word → Option ReadFault
embedded_fault k machine w = unless (is_some (said_of (machine, w.text) k.actions)) (unknown w.place)

-- an action that may have no control statements
abbrev pub quiet_fault : Known → List ℕ → Place → ActionUse → Option ReadFault
quiet_fault k machine place a = unless (not (steers k machine a)) (fault_at F13 place)

-- What a name brings to a pattern that begins at this place: end-of-file and error embeddings, each of which stands before the
-- pattern, or actions with control statements, which the pattern embeds.
abbrev pub taken_fault : Place → Option Brought → Option ReadFault
taken_fault place b = or_else (option_map (λ (x : Ending). fault_at F14 x.place) (brought_ending b)) (unless (not (brings_statements b)) (fault_at F13 place))

-- an action without a name behind n names, with its code
abbrev pub anonymous_fault : ℕ → Word → Option ReadFault
anonymous_fault n w = or_else (counted n w.place) (code_fault w)

-- what an expression of the machine uses behind n names
abbrev pub use_fault : Known → List ℕ → ℕ → Event → Option ReadFault
use_fault k machine n (event.Name w) = expression_fault k machine w
use_fault k machine n (event.Action w) = embedded_fault k machine w
use_fault k machine n (event.Code w) = anonymous_fault n w
use_fault k machine n (event.Quiet place a) = quiet_fault k machine place a
use_fault k machine n (event.Barred place) = Some (fault_at F14 place)
use_fault k machine n (event.Taken place w) = taken_fault place (said_of (machine, w.text) k.defined)
use_fault k machine n _ = None

-- the first fault of what is used behind n names
abbrev pub uses_fault : Known → List ℕ → ℕ → Found → Option ReadFault
uses_fault k machine n [] = None
uses_fault k machine n (e ∷ es) = or_else (use_fault k machine n e) (uses_fault k machine (n + is_code e) es)

-- a name of an expression is new, and none of those that are built in
abbrev pub name_fault : Known → List ℕ → Word → Option ReadFault
name_fault k machine w = unless (not (is_built_in w.text || is_some (said_of (machine, w.text) k.defined))) (twice w.place)

abbrev pub definition_fault : Known → List ℕ → ℕ → Definition → Option ReadFault
definition_fault k machine n d =
    or_else (name_fault k machine d.name) (or_else (counted n d.name.place) (uses_fault k machine (n + 1) (value_events d.value)))

-- a name of an action is new
abbrev pub action_name_fault : Known → List ℕ → Word → Option ReadFault
action_name_fault k machine w = unless (not (is_some (said_of (machine, w.text) k.actions))) (twice w.place)

abbrev pub action_fault : Known → List ℕ → ℕ → Action → Option ReadFault
action_fault k machine n a = or_else (action_name_fault k machine a.name) (or_else (counted n a.name.place) (code_fault a.code))

abbrev pub data_fault : Known → List ℕ → Place → WriteKind → Option ReadFault
data_fault k machine start (written.Data place) = unless (not (list_any (bytes_eq machine) k.written)) (twice start)
data_fault k machine start (written.Init place) = None
data_fault k machine start (written.Exec place) = None

abbrev pub statement_fault : Known → List ℕ → ℕ → Statement → Option ReadFault
statement_fault k machine n (statement.Definition d) = definition_fault k machine n d
statement_fault k machine n (statement.Action a) = action_fault k machine n a
statement_fault k machine n (statement.Write w) = data_fault k machine w.start w.what
statement_fault k machine n _ = None

-- the fault of a step behind others
abbrev pub step_fault : List Step → Step → Option ReadFault
step_fault before s = statement_fault (known before) s.machine (names_of s.machine before) s.statement

-- the first fault of names of steps that stand behind others
abbrev pub faults_behind : List Step → List Step → Option ReadFault
faults_behind before [] = None
faults_behind before (s ∷ ss) = or_else (step_fault before s) (faults_behind (before ++ s ∷ []) ss)

abbrev pub names_fault : List Step → Option ReadFault
names_fault steps = faults_behind [] steps
