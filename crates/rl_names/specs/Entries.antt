-- The entries of a machine: the names of its instantiations, in text order.
use Rattle.std.specs.Prelude.{ℕ, Bool, true, false, ◌&&◌, if◌then◌else◌, List, [], fold}
use Rattle.std.specs.List.{list_any}
use Rattle.std.specs.Str.{bytes_eq}
use Rattle.rl_grammar.specs.declared.syntax.DefinitionSign.{DefinitionSign}
use Rattle.rl_grammar.specs.declared.syntax.DefinitionSign.TheVariants as sign
use Rattle.rl_grammar.specs.declared.syntax.Statement.{Statement}
use Rattle.rl_grammar.specs.declared.syntax.Statement.TheVariants as statement
use Rattle.rl_grammar.specs.declared.step.Step.{Step}
use Rattle.rl_names.specs.Frames.{is_of, with_name}
use Rattle.rl_names.specs.Names.{same}

abbrev pub instantiates : DefinitionSign → Bool
instantiates (sign.Name place) = false
instantiates (sign.Instantiation place) = true

abbrev pub entries_with : List (List ℕ) → DefinitionSign → List ℕ → List (List ℕ)
entries_with names sign name = if instantiates sign then with_name names name else names

abbrev pub entries_by : List (List ℕ) → Statement → List (List ℕ)
entries_by names (statement.Definition d) = entries_with names d.sign d.name.text
entries_by names _ = names

abbrev pub entries_behind : List ℕ → List (List ℕ) → Step → List (List ℕ)
entries_behind machine names s = if is_of machine s then entries_by names s.statement else names

abbrev pub entries_of : List ℕ → List Step → List (List ℕ)
entries_of machine steps = fold (entries_behind machine) [] steps

abbrev pub is_entry : List ℕ → List Step → List ℕ → Bool
is_entry machine steps name = list_any (bytes_eq name) (entries_of machine steps)

-- a statement of a machine makes this an entry of the one machine
abbrev pub is_entered : List ℕ → List ℕ → List ℕ → Statement → Bool
is_entered machine name other (statement.Definition d) = instantiates d.sign && same (machine, name) (other, d.name.text)
is_entered machine name other _ = false
