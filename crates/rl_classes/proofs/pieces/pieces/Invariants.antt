use Rattle.std.proofs.Common.{drop}
use Rattle.rl_types.specs.Alphabet.{least_key}
use Rattle.rl_classes.proofs.PieceLaws.{Cuts}
use Rattle.rl_classes.proofs.pieces.pieces.Given as goal

abbrev pub invariant-loop-step : goal.invariant-loop-step
invariant-loop-step l = Cuts l.f.first l.f.later.items (least_key l.fn.alphabet) l.behind l.pieces.items l.lo l.number (drop l.step-index l.f.later.items)
