use Rattle.rl_resolve.proofs.FormLaws.{formed_as_written}
use Rattle.rl_resolve.proofs.forms.specs_are_formed.Goals as goal

pub returns : goal.returns
returns c = formed_as_written
