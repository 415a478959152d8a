-- What a statement comes to that is no `include`, and no `machine`.
use Rattle.std.proofs.Common.{◌≡◌, ℕ, List, Option, refl}
use Rattle.rl_grammar.specs.declared.syntax.Include.{Include}
use Rattle.rl_grammar.specs.declared.syntax.Machine.{Machine}
use Rattle.rl_grammar.specs.declared.syntax.Statement.{Statement}
use Rattle.rl_grammar.specs.declared.syntax.Statement.TheVariants as statement
use Rattle.rl_includes.specs.Turns.{kept, read_statement, current_behind, Becomes}
use Rattle.rl_includes.specs.declared.reader.Part.{Part}
use Rattle.rl_includes.specs.declared.reader.Reader.{Reader}
use Rattle.rl_includes.specs.declared.unrolled.Unrolled.{Unrolled}

pub no_include : (reader : Reader) (part : Part) (s : Statement) (u : Unrolled) → ((i : Include) → s ≡ statement.Include i → ⊥) → read_statement reader part s u ≡ Becomes (kept reader part s u)
no_include reader part (statement.Machine s) u other = refl
no_include reader part (statement.Include s) u other = absurd (other s refl)
no_include reader part (statement.Alphtype s) u other = refl
no_include reader part (statement.Access s) u other = refl
no_include reader part (statement.Variable s) u other = refl
no_include reader part (statement.Write s) u other = refl
no_include reader part (statement.Action s) u other = refl
no_include reader part (statement.Definition s) u other = refl

pub no_machine : (current : Option (List ℕ)) (s : Statement) → ((m : Machine) → s ≡ statement.Machine m → ⊥) → current_behind current s ≡ current
no_machine current (statement.Machine s) other = absurd (other s refl)
no_machine current (statement.Include s) other = refl
no_machine current (statement.Alphtype s) other = refl
no_machine current (statement.Access s) other = refl
no_machine current (statement.Variable s) other = refl
no_machine current (statement.Write s) other = refl
no_machine current (statement.Action s) other = refl
no_machine current (statement.Definition s) other = refl
