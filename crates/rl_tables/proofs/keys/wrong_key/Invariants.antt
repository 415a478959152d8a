use Rattle.std.proofs.Common.{◌≡◌, ◌*◌, ◌^◌, length}
use Rattle.rl_arrays.specs.Words.{sum_before, IfAt, IsFirstWrong}
use Rattle.rl_arrays.specs.Sizes.{keys_of}
use Rattle.rl_tables.specs.KeyParts.{StatesSay}
use Rattle.rl_tables.specs.Small.{IsUpTo}
use Rattle.rl_tables.proofs.keys.wrong_key.Given as goal

abbrev pub invariant-loop-s : goal.invariant-loop-s
invariant-loop-s l = record {
  place_is : l.place ≡ sum_before (keys_of l.a) l.s;
  small : IsUpTo (l.s * 2 ^ 66) l.place;
  wrong : IsFirstWrong (length l.a.trans_keys) (λ place. IfAt l.a.trans_keys place (StatesSay l.a l.s place)) l.wrong;
}
