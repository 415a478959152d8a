-- The arrays that are gathered are those in version 2.
use Rattle.std.proofs.Common.{◌≡◌}
use Rattle.rl_arrays.specs.declared.arrays.Arrays.{Arrays}
use Rattle.rl_arrays.specs.Shared.{cells_used, upgraded}
use Rattle.rl_upgrade.specs.declared.copies.Keys.{Keys}
use Rattle.rl_upgrade.specs.declared.copies.States.{States}
use Rattle.rl_upgrade.specs.declared.copies.Actions.{Actions}
use Rattle.rl_upgrade.specs.declared.copies.Names.{Names}
use Rattle.rl_upgrade.specs.declared.shares.Stored.{Stored}
use Rattle.rl_upgrade.specs.Copies.{keys_of, states_of, actions_of, names_of, gathered}
use Rattle.rl_upgrade.specs.Values.{stored}

pub gathered_is : (a : Arrays) (keys : Keys) (states : States) (actions : Actions) (names : Names) (cells : Stored)
    → keys ≡ keys_of a → states ≡ states_of a → actions ≡ actions_of a → names ≡ names_of a → cells ≡ stored (cells_used a)
    → gathered a keys states actions names cells ≡ upgraded a
unfolding upgraded
gathered_is a keys states actions names cells k s x n c = λ i. gathered a (k i) (s i) (x i) (n i) (c i)
