use Rattle.rl_names.specs.Scopes.{kept}
use Rattle.rl_names.proofs.LevelLaws.{literal_is, number_is, range_is, set_is, regular_is, name_is, group_is, scanner_is}
use Rattle.rl_names.proofs.expressions.+expressions.Goals as goal

pub operand-returns-in-Literal : goal.operand-returns-in-Literal
operand-returns-in-Literal t c = rw (c.in-Literal.is, literal_is (kept c.args.scope.now) c.in-Literal.word) c.literal.ensures

pub operand-returns-in-Number : goal.operand-returns-in-Number
operand-returns-in-Number t c = rw (c.in-Number.is, number_is (kept c.args.scope.now) c.in-Number.one) c.number.ensures

pub operand-returns-in-Set : goal.operand-returns-in-Set
operand-returns-in-Set t c = rw (c.in-Set.is, set_is (kept c.args.scope.now) c.in-Set.word) c.set.ensures

pub operand-returns-in-RegularExpression : goal.operand-returns-in-RegularExpression
operand-returns-in-RegularExpression t c = rw (c.in-RegularExpression.is, regular_is (kept c.args.scope.now) c.in-RegularExpression.word) c.regular.ensures

pub operand-returns-in-Name : goal.operand-returns-in-Name
operand-returns-in-Name t c = rw (c.in-Name.is, name_is (kept c.args.scope.now) c.in-Name.word) c.name.ensures

pub operand-returns-in-Range : goal.operand-returns-in-Range
operand-returns-in-Range t c = rw (c.in-Range.is, range_is (kept c.args.scope.now) c.in-Range.low c.in-Range.field-1 c.in-Range.high) c.range.ensures

pub operand-returns-in-Group : goal.operand-returns-in-Group
operand-returns-in-Group t c = rw (c.in-Group.is, group_is (kept c.args.scope.now) c.in-Group.field-0 c.in-Group.inner c.in-Group.field-2, ← c.get.ensures) c.union.ensures

pub operand-returns-in-Scanner : goal.operand-returns-in-Scanner
operand-returns-in-Scanner t c = rw (c.in-Scanner.is, scanner_is (kept c.args.scope.now) c.in-Scanner.inner, ← c.get-in-Scanner.ensures) c.misplaced.ensures
