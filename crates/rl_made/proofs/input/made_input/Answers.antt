use Rattle.std.proofs.Common.{◌++◌, ap, sym, ◌∙◌}
use Rattle.rl_made.specs.Made.{made_line}
use Rattle.rl_made.proofs.Inputs.{one_line_more}
use Rattle.rl_made.proofs.input.made_input.Goals as goal

pub loop-number-preserved : goal.loop-number-preserved
loop-number-preserved c = c.in_ok-push_line.ensures ∙ ap (λ text. text ++ made_line c.loop-number.number) c.loop-number.invariant ∙ sym (one_line_more c.loop-number.number)
