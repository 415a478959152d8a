use Rattle.rl_tables.proofs.EntryLaws.{places_of, inside_uses, inside_cells}
use Rattle.rl_tables.proofs.walk.cell_at.Goals as goal

pub returns-clause-cell : goal.returns-clause-cell
returns-clause-cell c =
    let a = c.args.a.now in
    let P = places_of a c.requires.sound in
    rw c.cell_used.ensures (P.used c.args.place ((inside_uses a P c.args.place).0 c.requires.inside))

pub returns-clause-exists : goal.returns-clause-exists
returns-clause-exists c =
    let a = c.args.a.now in
    let P = places_of a c.requires.sound in
    rw c.cell_used.ensures ((inside_cells a P _).1 (P.within c.args.place ((inside_uses a P c.args.place).0 c.requires.inside)))
