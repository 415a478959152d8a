use Rattle.std.proofs.Common.{◌≡◌, ◌<◌, length, drop}
use Rattle.rl_certificate.specs.Walks.{walk}
use Rattle.rl_certificate.proofs.walk.walk.Given as goal

abbrev pub invariant-loop-letter : goal.invariant-loop-letter
invariant-loop-letter l = record {
  there : l.state < length l.min.states;
  same : walk l.min l.word l.from ≡ walk l.min (drop l.letter-index l.word) l.state;
}
