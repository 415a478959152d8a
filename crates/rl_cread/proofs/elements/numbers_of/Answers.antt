use Rattle.std.proofs.Common.{◌∙◌, sym, ap}
use Rattle.std.specs.Prelude.{slice_get}
use Rattle.rl_cread.specs.Contents.{IsPrintedNumber}
use Rattle.rl_cread.specs.Elements.{spaced_number}
use Rattle.rl_cread.proofs.Pieces.{stuck_part, part_at}
use Rattle.rl_cread.proofs.elements.numbers_of.Goals as goal

pub returns-in_default : goal.returns-in_default
returns-in_default c = λ xs fit e.
    let none = rw c.in_default.is at c.in_ok-n.ensures in
    stuck_part spaced_number IsPrintedNumber xs c.loop-part.part-index _ fit (ap (λ ps. slice_get ps c.loop-part.part-index) (sym e) ∙ part_at c.args.parts.now c.loop-part.part-index _ c.loop-part-test.true) none
