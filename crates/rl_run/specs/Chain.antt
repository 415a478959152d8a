-- Chains of calls of a closure, and the run that they belong to.
use Rattle.std.specs.Prelude.{◌≡◌, ℕ, suc, Bool, List, map, Option, Some, None}
use Rattle.std.specs.List.{FoldsTo}
use Rattle.rl_run.specs.declared.calls.Call.{Call}
use Rattle.rl_run.specs.declared.calls.Answer.{Answer}
use Rattle.rl_run.specs.declared.sessions.Settings.{Settings}
use Rattle.rl_run.specs.declared.calls.Outcome.{Outcome}
use Rattle.rl_run.specs.declared.calls.Outcome.TheVariants.{Wants, Broke, Ended, Stopped}
use Rattle.rl_run.specs.Machine.{Machine, Session}
use Rattle.rl_run.specs.Play.{Play, ended, run}
use Rattle.rl_run.specs.Run.{Input, Rest, letter, turns}
use Rattle.rl_run.specs.Fine.{weight}

-- the closure is called with these calls, each answered in the state that the calls before it left
abbrev pub Chain : {H : Type 0} → (H → Call → Answer → H → Type 0) → H → List (Call × Answer) → H → Type 0
Chain step h log last = FoldsTo (λ p x q. step p x.0 x.1 q) h log last

-- the calls of a chain are those of a program when it is given exactly the chain's answers, and it ends so
abbrev pub IsLogOf : {A : Type 0} → Play A → List (Call × Answer) → A → Type 0
IsLogOf p log end = run p (map (λ x. x.1) log) ≡ record { calls = map (λ x. x.0) log; reached = ended end }

-- a host in one state is called with a chain of calls, those of the program with the host's answers, and stands in another at the end
pub record Played {A H : Type 0} (step : H → Call → Answer → H → Type 0) (h : H) (p : Play A) (last : H) (end : A) : Type 0 where
  pub log : List (Call × Answer)
  pub chain : Chain step h log last
  pub calls : IsLogOf p log end

-- the run from a session on: each turn lowers the weight, so the turns are never spent
unfoldable pub run_on : {S : Type 0} → Bool → Machine S → Settings → Input → Session S → Play (Rest S)
run_on is_broken_off m settings input s = turns is_broken_off m settings input (suc (weight s)) s

-- what is seen of one input is seen of another
abbrev pub Extends : Input → Input → Type 0
Extends short long = (p character : ℕ) → letter short p ≡ Some character → letter long p ≡ Some character

-- the run may go on
abbrev pub IsOpen : Option Outcome → Type 0
IsOpen (Some Wants) = Unit {0}
IsOpen (Some Broke) = Unit {0}
IsOpen (Some Ended) = ⊥
IsOpen (Some (Stopped cause)) = ⊥
IsOpen None = ⊥
