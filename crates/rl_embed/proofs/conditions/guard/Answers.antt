use Rattle.std.proofs.Common.{ℕ, subst}
use Rattle.rl_automata.specs.Auto.{Auto}
use Rattle.rl_fsm.specs.Builds.{Builds}
use Rattle.rl_embed.proofs.GuardLaws.{quiet_is, when_stands}
use Rattle.rl_embed.proofs.conditions.guard.Goals as goal

pub returns-clause-builds : goal.returns-clause-builds
returns-clause-builds c = subst (λ (A : Auto ℕ). Builds A c.in-Ok.m) (quiet_is c.args.cond.0 c.args.a) c.in-Ok.ensures.builds

pub returns-clause-stands : goal.returns-clause-stands
returns-clause-stands c = when_stands c.args.cond.0 c.args.a c.in-Ok.m (subst (λ (A : Auto ℕ). Builds A c.in-Ok.m) (quiet_is c.args.cond.0 c.args.a) c.in-Ok.ensures.builds)
