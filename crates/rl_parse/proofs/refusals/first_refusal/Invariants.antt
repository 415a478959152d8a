use Rattle.std.proofs.Common.{◌≡◌, ◌≤◌, take, None}
use Rattle.rl_grammar.specs.Refusals.{opened, last_scanner, NoneBefore}
use Rattle.rl_parse.proofs.refusals.first_refusal.Given as goal

abbrev pub invariant-loop-at : goal.invariant-loop-at
invariant-loop-at l = (l.depth ≡ opened 0 (take l.at l.tokens)) × (l.depth ≤ l.at) × (l.scanner ≡ last_scanner None (take l.at l.tokens)) × NoneBefore l.tokens l.at
