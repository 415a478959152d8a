use Rattle.std.proofs.Common.{◌≡◌, ◌+◌, drop, sum_by}
use Rattle.rl_automata.specs.Nodes.{node_of}
use Rattle.rl_model.specs.declared.spec.Pattern as rust
use Rattle.rl_model.specs.Counts.{size_of}
use Rattle.rl_form.proofs.sizes.left_by_all.Given as goal

abbrev pub invariant-loop-p : goal.invariant-loop-p
invariant-loop-p l = l.nodes + sum_by (λ (p : rust.Pattern). size_of (node_of p.tree)) (drop l.p-index l.patterns) ≡ l.left + sum_by (λ (p : rust.Pattern). size_of (node_of p.tree)) l.patterns
