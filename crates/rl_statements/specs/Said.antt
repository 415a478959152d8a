-- What is said, in statements.
use Rattle.std.specs.Prelude.{◌≡◌, ℕ, false, IsTrue, List, map, All}
use Rattle.rl_run.specs.declared.statements.Statement.{Statement}
use Rattle.rl_code.specs.declared.said.Said.{Said}
use Rattle.rl_code.specs.Reading.{is_misplaced, names_one_of, statement_of, controls}

-- these are the statements of what is said
abbrev pub IsSaid : List (List ℕ) → List Said → List Statement → Type 0
IsSaid entries said statements = statements ≡ map (statement_of entries) (controls said)

-- each word has its form, each name is that of one of these entries, and these are the statements
pub record AreSaid (entries : List (List ℕ)) (said : List Said) (statements : List Statement) : Type 0 where
  pub formed : All (λ (s : Said). is_misplaced s ≡ false) said
  pub named : All (λ (s : Said). IsTrue (names_one_of entries s)) said
  pub says : IsSaid entries said statements
