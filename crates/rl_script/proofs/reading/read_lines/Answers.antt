use Rattle.std.proofs.Common.{◌+◌, sym, ◌∙◌, ap, subst}
use Rattle.std.proofs.lemmas.Result.{err_from_is_err_and}
use Rattle.rl_replay.specs.Script.{events_from, lines_of}
use Rattle.rl_script.specs.Faults.{IsFaultOf}
use Rattle.rl_script.specs.Reading.{behind}
use Rattle.rl_script.proofs.reading.read_lines.Goals as goal

pub returns-in_err-add_line : goal.returns-in_err-add_line
returns-in_err-add_line c =
    let p = err_from_is_err_and c.from_residual.result c.from_residual.ensures.1 in
    let lines = c.lines.lines in
    let number = c.lines.number in
    let rest = events_from (number + 1) (lines_of c.in-Some.behind.now) in
    rw (p.1, p.2)
    (subst (λ due. IsFaultOf due c.in_err-add_line.field-0.0)
    (sym (ap (λ ls. behind lines (events_from number ls)) c.in-Some.ensures.lines) ∙ c.lines.invariant.came)
    (c.in_err-add_line.ensures rest))
