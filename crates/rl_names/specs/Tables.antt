-- What is known so far, as it is kept.
use Rattle.std.specs.Prelude.{◌≡◌, ℕ, ◌+◌, if◌then◌else◌, List, Option, None, Result, MatchResult}
use Rattle.std.specs.Str.{bytes_eq}
use Rattle.rl_grammar.specs.declared.read_fault.ReadFault.{ReadFault}
use Rattle.rl_grammar.specs.declared.syntax.Statement.{Statement}
use Rattle.rl_names.specs.Answers.{Told}
use Rattle.rl_names.specs.Names.{Known, behind, names_by}
use Rattle.rl_names.specs.TableForms.{texts, entries, count_in}
use Rattle.rl_names.specs.declared.tables.Tables.{Tables}

abbrev pub seen : Tables → Known
seen t = record { defined = entries t.defined; actions = entries t.actions; written = texts t.written }

-- one more statement is known, which has no fault
pub record IsNoted (due : Option ReadFault) (machine : List ℕ) (s : Statement) (old new : Tables) : Type 0 where
  pub right : due ≡ None
  pub known : seen new ≡ behind (seen old) machine s
  pub counted : (x : List ℕ) → count_in x new.counts ≡ (if bytes_eq x machine then names_by s else 0) + count_in x old.counts

-- a statement is known, or it has this fault
abbrev pub Notes : Option ReadFault → List ℕ → Statement → Tables → Tables → Result (Unit {0}) ReadFault → Type 0
Notes due machine s old new answer = MatchResult answer (λ done. IsNoted due machine s old new) (Told due)
