use Rattle.std.proofs.Common.{◌+◌, ap, sym}
use Rattle.std.specs.Option.{option_map}
use Rattle.rl_arrays.specs.Words.{number_at}
use Rattle.rl_arrays.specs.TableMachine.{entry_number, asked_bits}
use Rattle.rl_tables.proofs.Places.{entry_is}
use Rattle.rl_tables.proofs.look_ups.entry_of.Goals as goal

pub returns-in-Some-clause-exists : goal.returns-in-Some-clause-exists
returns-in-Some-clause-exists c =
    let a = c.args.a.now in
    let found = ap (option_map (λ k. number_at a.cell_entries k + entry_number (asked_bits (number_at a.cell_asks k)) c.args.hold)) (sym c.in-Some.ensures.value) in
    rw c.entry_at.ensures (entry_is a c.requires c.args.state c.args.key.0 c.args.hold _ found).1
