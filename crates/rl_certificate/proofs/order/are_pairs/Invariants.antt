use Rattle.std.proofs.Common.{◌≡◌, ◌≤◌, ◌<◌, ◌+◌}
use Rattle.rl_certificate.specs.declared.certificate.Apart.{Apart}
use Rattle.rl_certificate.specs.Certificates.{pairs_of}
use Rattle.rl_certificate.specs.Orders.{pairs_from}
use Rattle.rl_certificate.proofs.OrderLaws.{IsLeft}
use Rattle.rl_certificate.proofs.order.are_pairs.Given as goal

abbrev pub invariant-loop-p : goal.invariant-loop-p
invariant-loop-p l = record {
  ordered : l.pair.low < l.pair.high;
  next : l.states ≤ l.pair.high → l.pair.high ≡ l.pair.low + 1;
  left : IsLeft (λ (p : Apart). (p.low, p.high)) l.apart (pairs_of l.states) l.p-index (pairs_from l.states l.pair.low l.pair.high);
}
