-- What the files that the words name come to: the tables of a source or of a printed file, and the lines of a script. Of
-- several machines in a file the one with the given name is meant, or else the first (this profile).
use Rattle.std.specs.Prelude.{◌≡◌, ◌≢◌, ◌⊎◌, ◌↔◌, ℕ, true, false, List, Option, Ok, Err}
use Rattle.rl_sets.specs.Sets.{In}
use Rattle.rl_io.specs.Outside.{Held, Reads}
use Rattle.rl_arrays.specs.declared.arrays.Arrays.{Arrays}
use Rattle.rl_arrays.specs.Valid.{Valid}
use Rattle.rl_cread.specs.declared.fault.TableFault.{TableFault}
use Rattle.rl_cread.specs.declared.fault.TableFault.TheVariants.{Memory}
use Rattle.rl_cread.specs.Contents.{HasNumbers}
use Rattle.rl_cread.specs.Sections.{IsRead, Explains}
use Rattle.rl_layout.specs.SpecArrays.{name_of}
use Rattle.rl_make.specs.Named.{IsUsed, NamesUsed}
use Rattle.rl_make.specs.Writes.{WritesAs, condition_names, entry_names}
use Rattle.rl_model.specs.declared.spec.Spec.{Spec}
use Rattle.rl_model.specs.Specification.{specification_of}
use Rattle.rl_model.specs.Trees.{TestsOf, AreTestsHonest, HasHonestTests, tree_machine}
use Rattle.rl_replay.specs.declared.script.Line.{Line}
use Rattle.rl_replay.specs.declared.script.ScriptFault.{ScriptFault}
use Rattle.rl_replay.specs.Sessions.{Names, script_of}
use Rattle.rl_script.specs.TableNames.{names_in}
use Rattle.rl_words.specs.Runs.{is_printed}
use Rattle.ragel_run.specs.Sources.{HasSource}

-- ---- tables

-- whatever honest tests say, the names are exactly those of the actions that stand in a list of Error, or of a state that the
-- entries reach, or of a step from one
abbrev pub AreUsed : Spec → List (List ℕ) → Type 0
AreUsed spec names = (tests : TestsOf (specification_of spec)) → AreTestsHonest (specification_of spec) tests → (name : List ℕ) →
    In name names ↔ ((x : ℕ) × IsUsed spec (tree_machine (specification_of spec) tests) x × (name ≡ name_of spec.actions x))

-- what a script on a Spec may name: its entries, its conditions, and those of its actions that are used
pub record AreNamesOf (spec : Spec) (names : Names) : Type 0 where
  pub entries : names.entries ≡ entry_names spec
  pub actions : AreUsed spec names.actions
  pub conditions : names.conditions ≡ condition_names spec

-- arrays are made for a Spec: they are valid, and write what its expressions write, for which there are honest tests; they have
-- the names of its entries and conditions, and of the actions that are used
pub record IsMadeFor (spec : Spec) (a : Arrays) : Type 0 where
  pub valid : Valid a
  pub writes : WritesAs spec a
  pub tests : HasHonestTests (specification_of spec)
  pub entries : (names_in a).entries ≡ entry_names spec
  pub actions : NamesUsed spec a
  pub conditions : (names_in a).conditions ≡ condition_names spec

-- the text under a name is a source, for which these arrays are made
pub record IsMade (held : Held) (machine : Option (List ℕ)) (name : List ℕ) (a : Arrays) : Type 0 where
  pub source : Spec
  pub has : HasSource held machine name source
  pub made : IsMadeFor source a

-- the text under a name is a source, for whose expressions there are honest tests, and a script on it may name these
pub record HasNames (held : Held) (machine : Option (List ℕ)) (name : List ℕ) (names : Names) : Type 0 where
  pub source : Spec
  pub has : HasSource held machine name source
  pub tests : HasHonestTests (specification_of source)
  pub named : AreNamesOf source names

-- the first such section of a text spells these arrays, whose numbers fit their type, and they are valid
pub record IsSection (machine : Option (List ℕ)) (text : List ℕ) (a : Arrays) : Type 0 where
  pub spells : IsRead machine text a
  pub fits : HasNumbers a
  pub valid : Valid a

-- the first such section of the text under a name spells these arrays, and no others; their numbers fit their type, and they are
-- valid
pub record IsSpelled (held : Held) (machine : Option (List ℕ)) (name : List ℕ) (a : Arrays) : Type 0 where
  pub text : List ℕ
  pub reads : Reads held name text
  pub spells : IsRead machine text a
  pub fits : HasNumbers a
  pub valid : Valid a
  pub alone : (b : Arrays) → IsSection machine text b → a ≡ b

-- it spells none: the text has no such section, or the first is not right
pub record IsMisspelled (held : Held) (machine : Option (List ℕ)) (name : List ℕ) (fault : TableFault) : Type 0 where
  pub text : List ℕ
  pub reads : Reads held name text
  pub not_memory : fault ≢ Memory
  pub explains : Explains machine text fault
  pub none : (b : Arrays) → IsSection machine text b → ⊥

-- the file under a name gives these arrays
abbrev pub Gives : Held → Option (List ℕ) → List ℕ → Arrays → Type 0
Gives held machine name a = ((is_printed name ≡ false) × IsMade held machine name a) ⊎ ((is_printed name ≡ true) × IsSpelled held machine name a)

-- ---- scripts

-- the text under a name is a script without a fault, where tables have these names
pub record HasScript (held : Held) (name : List ℕ) (names : Names) (lines : List Line) : Type 0 where
  pub text : List ℕ
  pub reads : Reads held name text
  pub form : script_of names text ≡ Ok lines

-- it has this fault
pub record IsFaulty (held : Held) (name : List ℕ) (names : Names) (fault : ScriptFault) : Type 0 where
  pub text : List ℕ
  pub reads : Reads held name text
  pub form : script_of names text ≡ Err fault
