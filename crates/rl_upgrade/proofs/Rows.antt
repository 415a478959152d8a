-- The machine `one` in version 2: its two cells differ, so each use has one of its own.
use Rattle.std.proofs.Common.{◌≡◌, refl}
use Rattle.rl_arrays.specs.Shared.{shared, upgraded}
use Rattle.rl_arrays.specs.Words.{sum_before}
use Rattle.rl_arrays.proofs.Rows.{one, two}

pub upgraded-one : upgraded one ≡ two
unfolding upgraded shared sum_before lib.Count.ones
upgraded-one = refl
