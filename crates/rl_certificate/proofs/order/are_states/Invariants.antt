use Rattle.std.proofs.Common.{◌≤◌, ◌-◌}
use Rattle.std.specs.List.{range_with_len}
use Rattle.rl_certificate.specs.declared.certificate.Access.{Access}
use Rattle.rl_certificate.specs.Certificates.{states_of}
use Rattle.rl_certificate.proofs.OrderLaws.{IsLeft}
use Rattle.rl_certificate.proofs.order.are_states.Given as goal

abbrev pub invariant-loop-a : goal.invariant-loop-a
invariant-loop-a l = record {
  within : l.state ≤ l.states;
  left : IsLeft (λ (a : Access). a.state) l.access (states_of l.states) l.a-index (range_with_len l.state (l.states - l.state));
}
