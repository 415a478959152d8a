use Rattle.std.proofs.Common.{◌+◌, take}
use Rattle.rl_parse.specs.Parse.{IsUnfinished}
use Rattle.rl_parse.proofs.Refused.{fault_told, refusal_told, begins_derived}
use Rattle.rl_parse.proofs.parser.refused.Goals as goal
use Rattle.rl_parse.proofs.parser.refused.Goals.{in-Ok, in-Err-Memory, in-Err-Fault, in-Err-Unfinished}

pub returns : goal.returns
returns c =
    let ts = c.args.tokens.now in
    let at = c.args.at in
    let front = take (at + 1) ts in
    elim c.match-read_sentence.branch [
      | in-Ok w ↦ rw w.result-is (refusal_told ts at c.args.refusal c.requires (begins_derived _ front w.in-Ok.ensures.derived))
      | in-Err-Memory w ↦ rw w.result-is tt
      | in-Err-Fault w ↦
          let f = w.in-Err-Fault.ensures.refused in
          rw (w.result-is, w.syntax_fault.ensures) (fault_told ts at w.in-Err-Fault.fault c.args.refusal c.requires (rw w.in-Err-Fault.field-0-is at f))
      | in-Err-Unfinished w ↦
          let u : IsUnfinished front = rw w.in-Err-Unfinished.field-0-is at w.in-Err-Unfinished.ensures.refused in
          rw w.result-is (refusal_told ts at c.args.refusal c.requires u.begins)
    ]
