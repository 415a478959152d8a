use Rattle.std.proofs.Common.{List, take, subst, sym, arith}
use Rattle.rl_replay.specs.declared.script.Line.{Line}
use Rattle.rl_playback.specs.Books.{AreAnswersOf}
use Rattle.rl_playback.proofs.Fronts.{take_next}
use Rattle.rl_playback.proofs.Gathered.{answers_more, calls_more}
use Rattle.rl_playback.proofs.books.books_of.Goals as goal

pub loop-line-preserved : goal.loop-line-preserved
loop-line-preserved c =
    let added = c.in_ok-add_line.ensures in
    let i = c.loop-line.invariant in (
      subst (λ (lines : List Line). AreAnswersOf lines c.add_line.new.books) (sym (take_next c.args.lines.now c.loop-line.line-index c.line-item.result (omega arith) c.line-item.is))
          (answers_more (take c.loop-line.line-index c.args.lines.now) c.line-item.result c.loop-line.books c.add_line.new.books i.0 added),
      calls_more c.line-item.result c.loop-line.books c.add_line.new.books i.1 added,
    )
