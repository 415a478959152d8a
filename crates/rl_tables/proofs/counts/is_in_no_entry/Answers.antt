use Rattle.std.proofs.Common.{◌≡◌, false, true, sym, ◌∙◌, arith, inl, inr, rules}
use Rattle.std.specs.Prelude.{IsTrue, ◌↔◌}
use Rattle.std.proofs.lemmas.Bool.{cases_lt}
use Rattle.rl_arrays.specs.Sizes.{entries_of, IsIn}
use Rattle.rl_arrays.specs.Rules.{IsListed}
use Rattle.rl_tables.proofs.CountLaws.{in_no_entry_behind}
use Rattle.rl_tables.proofs.counts.is_in_no_entry.Goals as goal

pub loop-e-init : goal.loop-e-init
loop-e-init c = λ j lt of_cell listed. (let r = (c.entries_within-from.ensures.entries j (omega (arith, c.entries_within-from.ensures.few))).0 of_cell in absurd (omega (arith, r)))

pub loop-e-preserved : goal.loop-e-preserved
loop-e-preserved c = λ j lt of_cell listed. elim (cases_lt j c.loop-e.e) [
  | inl less ↦ c.loop-e.invariant j less of_cell listed
  | inr ge ↦
      let same : j ≡ c.loop-e.e = omega arith in
      let here : IsListed c.args.a.now c.args.a.now.trans_lists c.loop-e.e c.args.k = rw same at listed in
      let test : IsTrue c.is_listed.result ↔ IsListed c.args.a.now c.args.a.now.trans_lists c.loop-e.e c.args.k = rw c.as_slice.ensures at c.is_listed.ensures in
      let bad : false ≡ true = sym c.if-is_listed.false ∙ test.1 here in
      absurd cc
]

pub returns-then-is_listed : goal.returns-then-is_listed
returns-then-is_listed c = (
  λ t. absurd cc,
  λ all.
      let of_cell = (c.entries_within-from.ensures.entries c.loop-e.e (omega (arith, c.entries_within-from.ensures.few))).1 (omega arith, omega arith) in
      let test : IsTrue c.is_listed.result ↔ IsListed c.args.a.now c.args.a.now.trans_lists c.loop-e.e c.args.k = rw c.as_slice.ensures at c.is_listed.ensures in
      absurd (all.each c.loop-e.e of_cell (test.0 c.if-is_listed.true)),
)

pub returns : goal.returns
returns c = (
  λ t. record {
    each = λ e of_cell listed. elim (cases_lt e c.loop-e.e) [
      | inl less ↦ c.loop-e.invariant e less of_cell listed
      | inr ge ↦ in_no_entry_behind c.args.a.now c.args.k c.args.cell c.entries_within-from.result.0 c.entries_within-from.result.1 (λ i lt. c.entries_within-from.ensures.entries i (omega arith)) e (omega arith) of_cell listed
    ];
  },
  λ all. search rules,
)
