use Rattle.rl_form.proofs.FormLaws.{form_of_answer}
use Rattle.rl_form.proofs.form.has_form.Goals as goal

pub returns : goal.returns
returns c = form_of_answer c.args.spec.now _ c.has_parts.ensures
