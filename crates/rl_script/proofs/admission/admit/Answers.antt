use Rattle.std.proofs.Common.{◌≡◌, Some, subst, ◌⊎◌}
use Rattle.std.proofs.lemmas.Result.{err_from_is_err_and}
use Rattle.rl_replay.specs.declared.script.ScriptFault.TheVariants.{Memory}
use Rattle.rl_replay.specs.Sessions.{first_fault}
use Rattle.rl_script.specs.Course.{Knows}
use Rattle.rl_script.specs.TableNames.{names_in}
use Rattle.rl_script.proofs.CourseLaws.{stopped, fine_more, tells_more}
use Rattle.rl_script.proofs.admission.admit.Goals as goal

pub returns-in_err-take : goal.returns-in_err-take
returns-in_err-take c =
    let p = err_from_is_err_and c.from_residual.result c.from_residual.ensures.1 in
    let lines = c.as_slice-lines.result.now in
    let knows = subst (λ a. Knows (names_in a) lines c.in-Ok.known) c.arrays.ensures.same c.in-Ok.ensures in
    rw (p.1, p.2)
    (subst (λ ls. (c.in_err-take.field-0.0 ≡ Memory) ⊎ (first_fault (names_in c.args.tables.now) ls ≡ Some c.in_err-take.field-0.0)) c.as_slice-lines.ensures
    (stopped (names_in c.args.tables.now) lines c.loop-line.line-index c.line-item.result c.loop-line-test.true c.line-item.is c.in-Ok.known c.loop-line.course
    knows c.loop-line.invariant.tells c.loop-line.invariant.fine c.in_err-take.field-0.0 c.in_err-take.ensures))

pub loop-line-preserved : goal.loop-line-preserved
loop-line-preserved c =
    let names = names_in c.args.tables.now in
    let lines = c.as_slice-lines.result.now in
    let i = c.loop-line.line-index in
    let line = c.line-item.result in
    let known = c.in-Ok.known in
    let course = c.loop-line.course in
    let knows = subst (λ a. Knows (names_in a) lines known) c.arrays.ensures.same c.in-Ok.ensures in record {
      tells = tells_more names lines i line c.loop-line-test.true c.line-item.is known course knows c.loop-line.invariant.tells c.loop-line.invariant.fine
          c.take.new.course c.in_ok-take.ensures.0 c.in_ok-take.ensures.1;
      fine = fine_more names lines i line c.loop-line-test.true c.line-item.is known course knows c.loop-line.invariant.tells c.loop-line.invariant.fine
          c.in_ok-take.ensures.0;
    }
