use Rattle.rl_make.proofs.WriteLaws.{built_some, built_fits, built_writes, built_names, built_conditions, built_used}
use Rattle.rl_make.proofs.TwinLaws.{built_runs}
use Rattle.rl_make.proofs.make.laid_out.Goals as goal

pub numbered-requires : goal.numbered-requires
numbered-requires c = built_some c.args.spec.now c.args.root.now c.requires.well_formed c.requires.built

pub layout-requires-clause-fits : goal.layout-requires-clause-fits
layout-requires-clause-fits c = built_fits c.args.spec.now c.args.root.now c.in_ok-machine.machine c.requires.well_formed c.requires.built c.in_ok-machine.ensures.machine c.in_ok-machine.ensures.sound

pub returns-clause-writes : goal.returns-clause-writes
returns-clause-writes c = built_writes c.args.spec.now c.args.root.now c.in_ok-machine.machine c.in_ok-tables.tables c.requires.well_formed c.requires.built c.in_ok-machine.ensures.machine c.in_ok-machine.ensures.sound c.in_ok-tables.ensures.shows

pub returns-clause-entries : goal.returns-clause-entries
returns-clause-entries c = built_names c.args.spec.now c.in_ok-machine.machine c.in_ok-tables.tables c.in_ok-tables.ensures.arrays

pub returns-clause-conditions : goal.returns-clause-conditions
returns-clause-conditions c = built_conditions c.args.spec.now c.in_ok-machine.machine c.in_ok-tables.tables c.in_ok-tables.ensures.arrays

pub returns-clause-actions : goal.returns-clause-actions
returns-clause-actions c = built_used c.args.spec.now c.args.root.now c.in_ok-machine.machine c.in_ok-tables.tables c.requires.well_formed c.requires.built
    c.in_ok-machine.ensures.machine c.in_ok-machine.ensures.sound c.in_ok-tables.ensures.arrays

pub returns-clause-runs : goal.returns-clause-runs
returns-clause-runs c = built_runs c.args.spec.now c.args.root.now c.in_ok-machine.machine c.in_ok-tables.tables c.requires.well_formed c.requires.built c.in_ok-machine.ensures.machine c.in_ok-machine.ensures.sound c.in_ok-tables.ensures.shows
