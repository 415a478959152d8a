use Rattle.std.proofs.Common.{sym, ◌∙◌, arith, rules, below_more}
use Rattle.rl_tables.proofs.counts.is_in_no_scan.Goals as goal

pub loop-s-preserved : goal.loop-s-preserved
loop-s-preserved c = below_more _ _ c.loop-s.invariant (c.is_quiet.ensures.0 (search rules))

pub returns-then-not-is_quiet : goal.returns-then-not-is_quiet
returns-then-not-is_quiet c = (
  λ t. absurd cc,
  λ all. sym c.if-not-is_quiet.true ∙ c.is_quiet.ensures.1 (λ h. record {
    each = λ p cell k e. record {
      each = λ i of_cell listed. all c.loop-s.s i (record { place = p; cell = cell; state = omega arith; of_state = k; of_use = e; of_cell = of_cell }) h listed;
    };
  }),
)

pub returns : goal.returns
returns c = (
  λ t s e k h listed. ((c.loop-s.invariant s (omega (arith, k.state)) h).each k.place k.cell k.of_state k.of_use).each e k.of_cell listed,
  λ all. search rules,
)
