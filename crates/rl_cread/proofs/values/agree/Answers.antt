use Rattle.std.proofs.Common.{◌≡◌, ◌<◌, ◌∙◌, sym, arith, refl, true, false, length}
use Rattle.rl_cread.proofs.ValueLaws.{entries_agree, agreeing_length, agreeing_at}
use Rattle.rl_cread.proofs.values.agree.Goals as goal

pub returns-then-len-saturating_sub : goal.returns-then-len-saturating_sub
returns-then-len-saturating_sub c = (
  λ t. absurd cc,
  λ e. let l = agreeing_length c.args.raw.now.arrays c.args.raw.now.entries e in absurd (omega (arith, l, c.if-len-saturating_sub.true, c.len.ensures, c.len-2.ensures, c.saturating_sub.ensures)),
)

pub returns-then-not-is_entry_at : goal.returns-then-not-is_entry_at
returns-then-not-is_entry_at c = (
  λ t. absurd cc,
  λ e.
      let lt : c.loop-i.i < length c.args.raw.now.entries = omega (arith, c.loop-i-test.true, c.len-i-end.ensures) in
      let k = agreeing_at c.args.raw.now.arrays c.args.raw.now.entries c.loop-i.i lt e in
      let f : false ≡ true = sym c.if-not-is_entry_at.true ∙ c.is_entry_at.ensures.1 k in
      absurd cc,
)

pub returns : goal.returns
returns c = (
  λ t. entries_agree c.args.raw.now.arrays c.args.raw.now.entries (omega (arith, c.if-len-saturating_sub.false, c.len.ensures, c.len-2.ensures, c.saturating_sub.ensures))
      (λ k lt. c.loop-i.invariant k (omega (arith, lt, c.loop-i-test.false, c.len-i-end.ensures))),
  λ e. refl,
)
