use Rattle.std.proofs.Common.{◌≡◌, false, true, sym, ◌∙◌, arith, inl, inr, rules, below_more}
use Rattle.std.proofs.lemmas.Bool.{cases_lt}
use Rattle.rl_tables.proofs.TargetLaws.{cell_from, cell_behind}
use Rattle.rl_tables.proofs.targets.wrong_in_cell.Goals as goal

pub loop-e-init : goal.loop-e-init
loop-e-init c = cell_from c.args.a.now c.args.s c.args.cell c.entries_within-from.result.0 c.entries_within-from.result.1
    (λ e lt. c.entries_within-from.ensures.entries e (omega arith)) (omega (arith, c.entries_within-from.ensures.few))

pub loop-e-preserved : goal.loop-e-preserved
loop-e-preserved c = below_more _ _ c.loop-e.invariant (record { fits = λ k. c.fits.ensures.0 (search rules) })

pub returns-then-not-fits : goal.returns-then-not-fits
returns-then-not-fits c = (
  omega (arith, c.entries_within-from.ensures.few),
  λ r. (
      let of_cell = (c.entries_within-from.ensures.entries c.loop-e.e (omega (arith, c.entries_within-from.ensures.few))).1 (omega arith, omega arith) in
      let bad : false ≡ true = sym c.if-not-fits.true ∙ c.fits.ensures.1 (r.fits of_cell) in
      absurd cc
      ),
  c.loop-e.invariant,
)

pub returns : goal.returns
returns c = λ k lt. elim (cases_lt k c.loop-e.e) [
  | inl less ↦ c.loop-e.invariant k less
  | inr ge ↦ cell_behind c.args.a.now c.args.s c.args.cell c.entries_within-from.result.0 c.entries_within-from.result.1 (λ e lt. c.entries_within-from.ensures.entries e (omega arith)) k (omega arith)
]
