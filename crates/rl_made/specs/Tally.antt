-- What a call does to the tally of a run.
use Rattle.std.specs.Prelude.{◌≡◌, ℕ, ◌+◌, if◌then◌else◌, List, [], ◌∷◌, ◌++◌, Option, IfSome}
use Rattle.rl_run.specs.declared.calls.Answer.{Answer}
use Rattle.rl_run.specs.declared.calls.Call.{Call}
use Rattle.rl_run.specs.declared.calls.CallKind.{CallKind}
use Rattle.rl_arrays.specs.TableMachine.{machine}
use Rattle.rl_replay.specs.Host.{host}
use Rattle.rl_made.specs.Made.{is_token}
use Rattle.rl_made.specs.declared.tally.Tally.{Tally}

-- a count, where it fits
abbrev pub Counts : Option ℕ → ℕ → Type 0
Counts tokens n = IfSome tokens (λ count. count ≡ n)

-- the tokens that a call of a kind delivers
abbrev pub token_in : CallKind → ℕ
token_in kind = if is_token kind then 1 else 0

-- a call is answered as without a line for it, and its token is counted
pub record Tells (old : Tally) (c : Call) (answer : Answer) (new : Tally) : Type 0 where
  pub tables : new.names.tables.now ≡ old.names.tables.now
  pub own : (past : List Call) → answer ≡ host (machine old.names.tables.now) [] (past ++ c ∷ [])
  pub counts : (n : ℕ) → Counts old.tokens n → Counts new.tokens (n + token_in c.kind)
