use Rattle.std.proofs.Common.{◌≡◌, map, drop}
use Rattle.std.specs.Prelude.{◌==◌}
use Rattle.std.specs.List.{list_any}
use Rattle.rl_arrays.specs.Words.{natural}
use Rattle.rl_cexec.proofs.actions.is_among.Given as goal

abbrev pub invariant-loop-n : goal.invariant-loop-n
invariant-loop-n l = list_any (λ n. n == l.k) (map natural (drop l.n-index l.found)) ≡ list_any (λ n. n == l.k) (map natural l.found)
