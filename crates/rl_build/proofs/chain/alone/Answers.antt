use Rattle.rl_build.specs.Trees.{IsBuilt}
use Rattle.rl_build.proofs.ChainLaws.{alone_built, gathered_of}
use Rattle.rl_build.proofs.chain.alone.Goals as goal

pub returns-in-Ok : goal.returns-in-Ok
returns-in-Ok c = λ alphabet t n h.
    let x : IsBuilt alphabet t c.in-Ok.built = rw c.in-Ok.is at h in
    gathered_of alphabet t _ c.pushed.result (alone_built alphabet t c.in-Ok.built n x) (rw c.new.ensures.items at c.pushed.ensures)
