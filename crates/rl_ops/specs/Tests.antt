-- When two machines side by side are final.
use Rattle.std.specs.Prelude.{Bool, ◌&&◌, ◌||◌, not}
use Rattle.rl_ops.specs.declared.pair.Test.{Test}
use Rattle.rl_ops.specs.declared.pair.Test.TheVariants.{Either, Both, FirstAlone}

abbrev pub test_of : Test → Bool → Bool → Bool
test_of Either a b = a || b
test_of Both a b = a && b
test_of FirstAlone a b = a && not b
