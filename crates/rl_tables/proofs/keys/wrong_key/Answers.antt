use Rattle.std.proofs.Common.{rules}
use Rattle.rl_arrays.specs.Sizes.{keys_of}
use Rattle.rl_arrays.proofs.Laws.{sum-more, no_sum}
use Rattle.rl_tables.proofs.KeyLaws.{no_states, states_wrong}
use Rattle.rl_tables.proofs.keys.wrong_key.Goals as goal

pub loop-s-init : goal.loop-s-init
loop-s-init c = record { place_is = no_sum _; small = search rules; wrong = no_states c.args.a.now }

pub loop-s-preserved : goal.loop-s-preserved
loop-s-preserved c = record {
  place_is = rw (sum-more (keys_of c.args.a.now) c.loop-s.s) cc;
  small = c.longer-place.ensures.small;
  wrong = rw c.lesser-wrong.ensures (states_wrong c.args.a.now c.loop-s.s c.loop-s.wrong c.wrong_in_state.result c.loop-s.invariant.wrong c.wrong_in_state.ensures);
}
