-- The lines of the run over an input.
use Rattle.std.specs.Prelude.{◌≡◌, ℕ, Bool, if◌then◌else◌, List, [], ◌∷◌, ◌++◌, map, Some, codes}
use Rattle.rl_run.specs.declared.calls.Answer.{Answer}
use Rattle.rl_run.specs.declared.calls.Call.{Call}
use Rattle.rl_run.specs.declared.sessions.Settings.{Settings}
use Rattle.rl_run.specs.Machine.{Machine}
use Rattle.rl_run.specs.Run.{Rest, rest, input_at}
use Rattle.rl_run.specs.Verdict.{verdict_of}
use Rattle.rl_replay.specs.Host.{host}
use Rattle.rl_replay.specs.Lines.{run_lines, calls_lines, stop_lines, end_line}
use Rattle.rl_sessions.specs.SessionsValue.{SessionValue}
use Rattle.rl_sessions.specs.Whole.{outcome_so_far}

-- the name of the session
abbrev pub input_name : List ℕ
input_name = codes "input"

-- the lines of one run over bytes at once, from the entry on, ended or not; the host takes by itself what it takes
abbrev pub lines_over : Machine ℕ → Settings → ℕ → List ℕ → Bool → List ℕ
lines_over m settings entry bytes is_ended = run_lines m settings input_name (host m []) entry (input_at m.width 0 bytes is_ended)

-- each call has the host's answer, behind those past
abbrev pub IsHosted : Machine ℕ → List Call → List (Call × Answer) → Type 0
IsHosted m past [] = Unit {0}
IsHosted m past (y ∷ log) = (y.1 ≡ host m [] (past ++ y.0 ∷ [])) × IsHosted m (past ++ y.0 ∷ []) log

-- the calls alone
abbrev pub calls_in : List (Call × Answer) → List Call
calls_in log = map (λ y. y.0) log

-- where the run of a session stands
abbrev pub rest_of : SessionValue → Rest ℕ
rest_of x = rest (Some (outcome_so_far x.over)) x.session

-- the lines of calls that were made, and of where the session stands
abbrev pub lines_at : Machine ℕ → List (Call × Answer) → SessionValue → List ℕ
lines_at m log x =
    calls_lines m input_name (host m []) [] (map (λ y. y.0) log) ++ stop_lines input_name (rest_of x)
    ++ (if x.is_closed then end_line input_name (verdict_of m (rest_of x)) x.session.next else [])
