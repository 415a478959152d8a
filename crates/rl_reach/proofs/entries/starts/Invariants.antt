use Rattle.std.proofs.Common.{◌≡◌, ◌≤◌, ◌<◌, ◌+◌, ◌-◌, ℕ, map, length}
use Rattle.std.specs.List.{range_with_len}
use Rattle.rl_reach.specs.Walks.{IsSoundAt, start_of}
use Rattle.rl_reach.proofs.entries.starts.Given as goal

abbrev pub invariant-entries : goal.invariant-entries
invariant-entries l = record {
  starts : l.starts.items ≡ map (start_of l.root) (range_with_len 1 (l.entry - 1));
  from_one : 1 ≤ l.entry;
  within : l.entry ≤ length l.root + 1;
  few : l.entry ≤ 2147483647;
  sound : (e : ℕ) → 1 ≤ e → e < l.entry → IsSoundAt l.root e;
}

abbrev pub decreases-entries : goal.decreases-entries
decreases-entries l = 2147483648 - l.entry
