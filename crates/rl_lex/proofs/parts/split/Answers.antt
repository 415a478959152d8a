use Rattle.std.proofs.Common.{Option, true, length, subst}
use Rattle.rl_types.specs.declared.faults.Fault.{Fault}
use Rattle.rl_lexical.specs.declared.position.Position.{Position}
use Rattle.rl_lexical.specs.Answers.{Gives}
use Rattle.rl_lexical.specs.Parts.{earlier, marked_line, parts_from}
use Rattle.rl_lex.proofs.PartLaws.{earlier_found, of_the_text}
use Rattle.rl_lex.proofs.parts.split.Goals as goal

pub returns-clause-answer : goal.returns-clause-answer
returns-clause-answer c =
    let text = c.args.text.now in
    let P : Position → Type 0 = λ start. Gives (earlier (marked_line true start text) (parts_from (length text) true start text)) c.earlier.result in
    let Q : Option Fault → Type 0 = λ marker. Gives (earlier marker (parts_from (length text) true c.file_start-start.result text)) c.earlier.result in
    subst P c.file_start-start.ensures
    (subst Q c.marked_line-marker.ensures
    (earlier_found c.marked_line-marker.result (parts_from (length text) true c.file_start-start.result text) c.parts_from.result c.parts_from.ensures
    c.earlier.result c.earlier.ensures))

pub returns-clause-joined : goal.returns-clause-joined
returns-clause-joined c = of_the_text c.args.file c.args.text.now c.earlier.result (returns-clause-answer c)
