use Rattle.std.proofs.Common.{subst}
use Rattle.rl_names.specs.Answers.{Gives}
use Rattle.rl_names.specs.Drafts.{draft_of}
use Rattle.rl_names.specs.TableForms.{own_in, pointed}
use Rattle.rl_names.proofs.machines.draft_named.Goals as goal

pub returns : goal.returns
returns c =
    subst (λ m. Gives (draft_of (pointed (own_in m c.args.groups.now)) m) c.draft_of.result) c.bytes-name.ensures
    (subst (λ own. Gives (draft_of (pointed own) c.bytes-name.result.now) c.draft_of.result) c.own_in.ensures c.draft_of.ensures)
