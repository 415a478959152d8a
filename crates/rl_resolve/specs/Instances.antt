-- The machines that have an instantiation, gathered once.
use Rattle.std.specs.Prelude.{◌≡◌, ℕ, Bool, false, List}
use Rattle.indexmap.specs.IndexMap.{IndexMap}
use Rattle.rl_names.specs.TableForms.{Text, told_in}
use Rattle.rl_grammar.specs.declared.step.Step.{Step}
use Rattle.rl_resolve.specs.Resolving.{has_instance}

-- what a table says of a machine; one that is not there has no instantiation
abbrev pub has_in : {S : Type 0} → List ℕ → IndexMap Text Bool S → Bool
has_in machine table = told_in false machine table

-- a table says of every machine whether it has an instantiation
abbrev pub Shows : {S : Type 0} → List Step → IndexMap Text Bool S → Type 0
Shows steps table = (x : List ℕ) → has_in x table ≡ has_instance steps x
