use Rattle.rl_make.proofs.make.numbered.Goals as goal

pub returns-clause-machine : goal.returns-clause-machine
returns-clause-machine c = c.in_ok-machine.ensures.machine
