use Rattle.std.proofs.Common.{◌+◌, ap, sym}
use Rattle.std.specs.Option.{option_map}
use Rattle.rl_arrays.specs.Words.{number_at}
use Rattle.rl_arrays.specs.TableMachine.{cell_used}
use Rattle.rl_tables.proofs.Places.{use_there, cell_there}
use Rattle.rl_tables.proofs.look_ups.cell_of.Goals as goal

pub place_behind-requires : goal.place_behind-requires
place_behind-requires c =
    let first = rw c.as_slice.ensures at c.count_at-first.ensures.value in
    rw first (use_there c.args.a.now c.requires c.args.state c.args.key.0 c.in-Some.cell (sym c.in-Some.ensures))

pub returns-in-Some-clause-exists : goal.returns-in-Some-clause-exists
returns-in-Some-clause-exists c =
    let a = c.args.a.now in
    let found = ap (option_map (λ k. cell_used a (number_at a.cell_offsets c.args.state + k))) (sym c.in-Some.ensures) in
    let first = rw c.as_slice.ensures at c.count_at-first.ensures.value in
    rw (c.cell_used.ensures, c.place_behind.ensures, first) (cell_there a c.requires c.args.state c.args.key.0 _ found)
