-- A session at an entry's start is fine.
use Rattle.std.proofs.Common.{ℕ, ◌^◌, ◌≤◌, refl, arith}
use Rattle.rl_run.specs.Machine.{Machine, fresh}
use Rattle.rl_run.specs.Fine.{IsKinded, IsFine}

pub start_fine : {S : Type 0} (m : Machine S) (e : ℕ) → IsKinded m → IsFine m (fresh (m.entry e))
start_fine m e kinded = record {
  outside = λ _. (refl, refl);
  inside = λ h. let low = kinded.entry e in absurd (omega arith);
  stack = tt;
  top = omega arith;
  backs = omega arith;
}
