use Rattle.std.proofs.Common.{◌≡◌, true, false, Some, None, refl, sym, ◌∙◌, rules}
use Rattle.std.specs.Prelude.{int_le, slice_get}
use Rattle.rl_classes.specs.Pieces.{number_at}
use Rattle.rl_classes.proofs.SegmentLaws.{number_by, number_parted}
use Rattle.rl_classes.proofs.segments.number_of_key.Goals as goal

pub returns-in-Some : goal.returns-in-Some
returns-in-Some c =
    let at : slice_get c.args.pieces.now c.ended.result ≡ Some c.in-Some.piece.now = sym c.in-Some.ensures in
    let low : int_le c.in-Some.piece.now.range.lo c.args.key.0 ≡ true = search rules in
    let found = number_parted c.args.pieces.now c.ended.result c.args.key.0 c.requires c.ended.ensures in
    sym (found ∙ rw (at, low) refl)

pub returns-in_default : goal.returns-in_default
returns-in_default c =
    let at : slice_get c.args.pieces.now c.ended.result ≡ Some c.in-Some.piece.now = sym c.in-Some.ensures in
    let low : int_le c.in-Some.piece.now.range.lo c.args.key.0 ≡ false = search rules in
    let found = number_parted c.args.pieces.now c.ended.result c.args.key.0 c.requires c.ended.ensures in
    sym (found ∙ rw (at, low) refl)

pub returns-in_default-2 : goal.returns-in_default-2
returns-in_default-2 c =
    let at : slice_get c.args.pieces.now c.ended.result ≡ None = sym (rw c.in_default.is at c.piece_at.ensures) in
    let found = number_parted c.args.pieces.now c.ended.result c.args.key.0 c.requires c.ended.ensures in
    sym (found ∙ rw at refl)
