use Rattle.std.proofs.Common.{◌≡◌, cond, drop}
use Rattle.rl_lexical.specs.Forms.{form_after, form_after_backslash}
use Rattle.rl_lex.proofs.form.form_after.Given as goal

abbrev pub invariant-loop-b : goal.invariant-loop-b
invariant-loop-b l =
    cond l.is_escaped (form_after_backslash l.form (drop l.b-index l.text)) (form_after l.form (drop l.b-index l.text)) ≡ form_after l.fn.start l.text
