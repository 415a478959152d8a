use Rattle.std.proofs.Common.{rules}
use Rattle.std.specs.Prelude.{int_lt}
use Rattle.std.proofs.lemmas.List.Sorted.{IsPartitionPoint-from_clause}
use Rattle.rl_classes.specs.declared.pieces.Piece.{Piece}
use Rattle.rl_classes.proofs.SegmentLaws.{ends_part, lt_from, ge_from}
use Rattle.rl_classes.proofs.segments.ended.Goals as goal

pub returns : goal.returns
returns c =
    let key = c.args.key.0 in
    let p = λ (piece : Piece). int_lt piece.range.hi key in
    let point = IsPartitionPoint-from_clause p _ _ c.partition_point.ensures.partitioned (ends_part _ key c.requires) (λ a r q k. search rules) in
    (λ k d low high. lt_from _ _ (point.0 k d low high), λ k d low high. ge_from _ _ (point.1 k d low high))
