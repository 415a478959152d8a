use Rattle.rl_build.proofs.node.limited.Goals as goal

pub returns-in-Ok : goal.returns-in-Ok
returns-in-Ok c = λ t p h s. c.within.ensures t p h (rw c.in-Ok.is at s)

pub returns-in-Err : goal.returns-in-Err
returns-in-Err c = λ t p h s k g. tt
