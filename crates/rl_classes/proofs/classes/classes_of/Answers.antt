use Rattle.std.proofs.Common.{◌≡◌, ◌∷◌, ◌++◌, [], length, set, get_or, sym, rules}
use Rattle.std.proofs.lemmas.List.{take_more, take_all}
use Rattle.rl_classes.specs.Classes.{room_for}
use Rattle.rl_classes.proofs.ClassLaws.{gather_more, gather_ends}
use Rattle.rl_classes.proofs.classes.classes_of.Goals as goal

pub loop-piece-preserved : goal.loop-piece-preserved
loop-piece-preserved c =
    let pieces = c.args.pieces.now in
    let i = c.loop-piece.piece-index in
    let p = c.piece-item.result in
    let whole = c.class_of_number.new.table.keys in
    let n = c.in_ok-class.class in
    let classes = c.loop-piece.classes.items in
    let told = c.in_ok-class.ensures in
    let more : c.add_range.new.classes.items ≡ set (room_for (length whole) classes) n (get_or (room_for (length whole) classes) n [] ++ p.range ∷ []) = search rules in
    let longer : c.push.new.items.items ≡ c.loop-piece.numbered.items ++ record { range = p.range; number = n } ∷ [] = search rules in
    rw (take_more pieces i p (search rules), ← c.piece-item.is) (gather_more _ whole classes _ _ _ p n c.loop-piece.invariant told.goes_on told.class told.one_more told.needed told.distinct more _ longer)

pub returns : goal.returns
returns c = gather_ends c.args.pieces.now _ _ _ (take_all c.loop-piece.piece-index c.args.pieces.now (search rules)) c.loop-piece.invariant
