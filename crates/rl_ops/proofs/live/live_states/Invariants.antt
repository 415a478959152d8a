use Rattle.std.proofs.Common.{◌≡◌, ◌<◌, ◌+◌, ℕ, true, false, cond, length}
use Rattle.rl_ops.specs.Live.{AreLive, can_end, live_at, unmarked}
use Rattle.rl_ops.proofs.live.live_states.Given as goal

abbrev pub invariant-sweeps : goal.invariant-sweeps
invariant-sweeps l = record {
  same_length : length l.live.items ≡ length l.m.states;
  live : AreLive l.m l.live.items;
  closed : l.changed ≡ false → (j : ℕ) → j < length l.live.items → can_end l.m l.live.items j ≡ true → live_at l.live.items j ≡ true;
}

abbrev pub decreases-sweeps : goal.decreases-sweeps
decreases-sweeps l = unmarked l.live.items + cond l.changed 1 0
