use Rattle.std.proofs.Common.{◌∙◌, sym}
use Rattle.std.specs.Prelude.{None}
use Rattle.rl_cread.proofs.Marking.{marked, unmarked, unformed}
use Rattle.rl_cread.proofs.texts.name_in.Goals as goal

pub returns-else-is_name : goal.returns-else-is_name
returns-else-is_name c = λ name m.
    unformed None c.args.line.now c.args.shared c.in-Some.name.now c.args.shared name (marked c.args.shared c.args.line.now c.front_text.result.now c.in-Some.name.now c.front_text.ensures c.in-Some.ensures)
    (sym c.is_name.ensures ∙ c.if-is_name.false) m

pub returns-in-None : goal.returns-in-None
returns-in-None c = unmarked c.args.shared c.args.line.now c.front_text.result.now c.front_text.ensures c.in-None.ensures

pub returns-then-is_name : goal.returns-then-is_name
returns-then-is_name c = record {
  formed = sym c.is_name.ensures ∙ c.if-is_name.true;
  sought = tt;
  is = marked c.args.shared c.args.line.now c.front_text.result.now c.in-Some.name.now c.front_text.ensures c.in-Some.ensures;
}
