use Rattle.std.proofs.Common.{sym, subst}
use Rattle.rl_refine.specs.Covers.{AreSound}
use Rattle.rl_refine.proofs.EdgeLaws.{sound_edges}
use Rattle.rl_refine.proofs.looks.stay_together.Goals as goal

pub step_alike-requires-clause-edges : goal.step_alike-requires-clause-edges
step_alike-requires-clause-edges c = subst AreSound (sym c.as_slice.ensures) (sound_edges c.args.machine.now c.states.ensures.minimal c.args.one c.state-s.result.now c.state-s.ensures)

pub step_alike-requires-clause-others : goal.step_alike-requires-clause-others
step_alike-requires-clause-others c = subst AreSound (sym c.as_slice-then-same_lists.ensures) (sound_edges c.args.machine.now c.states.ensures.minimal c.args.other c.state-t.result.now c.state-t.ensures)
