use Rattle.std.proofs.Common.{◌≡◌, Some, pos, sym, ◌∙◌, arith, inl, inr, rules}
use Rattle.std.proofs.lemmas.Bool.{cases_lt}
use Rattle.rl_arrays.specs.Sizes.{used_cell}
use Rattle.rl_tables.proofs.CountLaws.{same_cell}
use Rattle.rl_tables.proofs.counts.is_in_no_step.Goals as goal

pub loop-place-init : goal.loop-place-init
loop-place-init c = λ p cell low high e. absurd (omega arith)

pub loop-place-preserved : goal.loop-place-preserved
loop-place-preserved c = λ p cell low high e. elim (cases_lt p c.loop-place.place) [
  | inl less ↦ c.loop-place.invariant p cell low less e
  | inr ge ↦
      let same : p ≡ c.loop-place.place = omega arith in
      let here : used_cell c.args.a.now c.loop-place.place ≡ Some (pos cell) = rw same at e in
      let number : cell ≡ c.cell_at.result = same_cell c.args.a.now c.loop-place.place cell c.cell_at.result c.cell_at.ensures.cell here in
      rw number (c.is_in_no_entry.ensures.0 (search rules))
]

pub returns-then-not-is_in_no_entry : goal.returns-then-not-is_in_no_entry
returns-then-not-is_in_no_entry c = (
  λ t. absurd cc,
  λ all. sym c.if-not-is_in_no_entry.true ∙ c.is_in_no_entry.ensures.1 (all.each c.loop-place.place c.cell_at.result ((c.use_range-from.ensures.uses c.loop-place.place).1 (omega arith, omega arith)) c.cell_at.ensures.cell),
)

pub returns : goal.returns
returns c = (
  λ t. record { each = λ p cell k e. (let r = (c.use_range-from.ensures.uses p).0 k in c.loop-place.invariant p cell r.0 (omega (arith, r)) e) },
  λ all. search rules,
)
