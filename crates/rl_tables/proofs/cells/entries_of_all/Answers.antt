use Rattle.std.proofs.Common.{arith, sym, ap, length}
use Rattle.std.proofs.lemmas.Int.{ints}
use Rattle.rl_arrays.specs.Words.{natural}
use Rattle.rl_arrays.proofs.Laws.{no_sum}
use Rattle.rl_tables.proofs.SumLaws.{natural_low, natural_above, entries_past}
use Rattle.rl_tables.proofs.cells.entries_of_all.Goals as goal

pub returns-then-cells-le0-clause-value : goal.returns-then-cells-le0-clause-value
returns-then-cells-le0-clause-value c = rw (sym c.in_ok-cells.ensures.value) (rw (natural_low c.in_ok-cells.cells (omega (arith, ints))) (no_sum _))

pub returns-then-cells-as_slice-clause-value : goal.returns-then-cells-as_slice-clause-value
returns-then-cells-as_slice-clause-value c = rw (sym c.in_ok-cells.ensures.value) (sym (entries_past c.args.a.now (natural c.in_ok-cells.cells) (natural_above c.in_ok-cells.cells (length c.args.a.now.cell_asks) (omega (arith, ints, ap length c.as_slice.ensures)))))
