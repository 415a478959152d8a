-- What the runner's state stands for.
use Rattle.std.specs.Prelude.{ℕ, ◌<◌, ◌≤◌, ◌^◌, List, reverse, All, Option, Some, None, vec_capacity, IfSome}
use Rattle.rl_run.specs.Machine.{Machine, Session}
use Rattle.rl_run.specs.declared.sessions.Settings.{Settings}
use Rattle.rl_arrays.specs.declared.arrays.Arrays.{Arrays}
use Rattle.rl_arrays.specs.Sizes.{states}
use Rattle.rl_runner.specs.declared.state.State.{State}

-- the token list of the state that is kept
abbrev pub kept_of : Machine ℕ → Option ℕ → Option (List ℕ)
kept_of m None = None
kept_of m (Some state) = Some (m.token state)

-- the session that the fields stand for
abbrev pub session_of : Machine ℕ → State → Session ℕ
session_of m s = record {
  state = s.state;
  next = s.next;
  stack = reverse s.stack.items;
  ts = s.ts;
  te = s.te;
  kept = kept_of m s.kept;
  furthest = s.furthest;
  backs = s.backs;
}

-- what holds of a session between any two calls
pub record IsSound (t : Arrays) (settings : Settings) (s : State) : Type 0 where
  pub state : s.state < states t
  pub next : s.next ≤ 2 ^ 63
  pub stack : All (λ q. q < states t) s.stack.items
  pub room : settings.stack ≤ vec_capacity s.stack
  pub backs : s.backs < 65536
  pub te : IfSome s.te (λ p. p ≤ 2 ^ 63)
  pub kept : IfSome s.kept (λ q. q < states t)
