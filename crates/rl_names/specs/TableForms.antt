-- Tables of names, as they are kept.
use Rattle.std.specs.Prelude.{ℕ, Bool, if◌then◌else◌, List, [], map, unwrap_or}
use Rattle.std.specs.Map.{lookup}
use Rattle.std.specs.Str.{bytes_eq}
use Rattle.indexmap.specs.IndexMap.{IndexMap}
use Rattle.indexmap.specs.IndexSet.{IndexSet}
use Rattle.rl_types.specs.declared.alphabet.Alphabet.{Alphabet}
use Rattle.rl_types.specs.declared.alphabet.Alphabet.TheVariants.{Char}
use Rattle.rl_names.specs.Names.{Named, is_among}
use Rattle.rl_grammar.specs.declared.step.Step.{Step}
use denote.Ref.{Bor}

abbrev pub Text : Type 0
Text = Bor (List ℕ)

abbrev pub named : Text × Text → Named
named p = (p.0.now, p.1.now)

-- the names of a table, in order
abbrev pub texts : {S : Type 0} → IndexSet Text S → List (List ℕ)
texts table = map (λ k. k.now) table.keys

abbrev pub pairs : {S : Type 0} → IndexSet (Text × Text) S → List Named
pairs table = map named table.keys

-- a machine has a name in a table
abbrev pub has_in : {S : Type 0} → List ℕ → IndexSet (Text × Text) S → List ℕ → Bool
has_in machine table name = is_among machine name (pairs table)

-- the names of a table, in order, and what is said of them
abbrev pub entries : {A S : Type 0} → IndexMap (Text × Text) A S → List (Named × A)
entries table = map (λ e. (named e.0, e.1)) table.entries

-- how many names a machine has
abbrev pub count_in : {S : Type 0} → List ℕ → IndexMap Text ℕ S → ℕ
count_in machine table = unwrap_or (lookup (λ k. bytes_eq machine k.now) table.entries) 0

-- what a table says of a text, or else this
abbrev pub told_in : {A S : Type 0} → A → List ℕ → IndexMap Text A S → A
told_in other text table = unwrap_or (lookup (λ k. bytes_eq text k.now) table.entries) other

-- the alphabet of a machine
abbrev pub alphabet_in : {S : Type 0} → List ℕ → IndexMap Text Alphabet S → Alphabet
alphabet_in machine table = told_in Char machine table

-- ---- the statements of each machine

abbrev pub Pointer : Type 0
Pointer = Bor Step

-- the statements that are pointed to
abbrev pub pointed : List Pointer → List Step
pointed own = map (λ s. s.now) own

-- the statements of a machine
abbrev pub own_in : {S : Type 0} → List ℕ → IndexMap Text (List Pointer) S → List Pointer
own_in machine groups = told_in [] machine groups

-- these statements for the one machine, and what another one has
abbrev pub instead : List ℕ → List ℕ → List Pointer → List Pointer → List Pointer
instead x machine own other = if bytes_eq x machine then own else other
