use Rattle.std.proofs.Common.{subst, ◌∙◌}
use Rattle.rl_names.specs.Answers.{Gives}
use Rattle.rl_names.specs.Frames.{machines_of}
use Rattle.rl_names.specs.TableForms.{own_in, pointed}
use Rattle.rl_names.proofs.GroupLaws.{drafts_own}
use Rattle.rl_names.proofs.machines.drafts.Goals as goal

pub returns : goal.returns
returns c =
    subst (λ z. Gives z c.drafts_of.result)
    (drafts_own c.args.steps.now (λ m. pointed (own_in m c.in_ok-groups.groups)) c.as_slice.result.now (machines_of c.args.steps.now) (c.as_slice.ensures ∙ c.in_ok-names.ensures)
    c.in_ok-groups.ensures) c.drafts_of.ensures
