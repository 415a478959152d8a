use Rattle.std.proofs.Common.{map, take, sym}
use Rattle.std.proofs.lemmas.Result.{err_from_is_err_and}
use Rattle.rl_sets.proofs.SetLaws.{In-map}
use Rattle.rl_model.specs.Specification.{pattern_of}
use Rattle.rl_build.proofs.CellLaws.{item_in}
use Rattle.rl_build.proofs.PatternLaws.{pattern_fits, row_next, row_stopped, nodes_before}
use Rattle.rl_build.proofs.patterns.row_of.Goals as goal

pub expression-requires : goal.expression-requires
expression-requires c =
    let qs = c.args.patterns.now in
    let q = c.pattern-item.result in
    pattern_fits (map pattern_of qs) (pattern_of q) c.requires (In-map pattern_of q qs (item_in qs c.loop-pattern.pattern-index q c.loop-pattern-test.true c.pattern-item.is))

pub with_pattern-requires-clause-few : goal.with_pattern-requires-clause-few
with_pattern-requires-clause-few c = nodes_before c.args.alphabet c.args.patterns.now c.loop-pattern.pattern-index c.loop-pattern.row c.requires c.loop-pattern.invariant

pub returns-in_err-row : goal.returns-in_err-row
returns-in_err-row c =
    let p = err_from_is_err_and c.from_residual.result c.from_residual.ensures.1 in
    let alphabet = c.args.alphabet in
    let qs = c.args.patterns.now in
    let i = c.loop-pattern.pattern-index in
    let q = c.pattern-item.result in
    rw (p.1, p.2) (row_stopped alphabet qs i q c.in_err-row.field-0.0 c.loop-pattern-test.true (sym c.pattern-item.is)
    (c.in_err-row.ensures alphabet (map pattern_of (take i qs)) (pattern_of q) c.loop-pattern.invariant c.expression.ensures.answer))

pub loop-pattern-preserved : goal.loop-pattern-preserved
loop-pattern-preserved c =
    let alphabet = c.args.alphabet in
    let qs = c.args.patterns.now in
    let i = c.loop-pattern.pattern-index in
    let q = c.pattern-item.result in
    row_next alphabet qs i q c.in_ok-row.row c.loop-pattern-test.true (sym c.pattern-item.is) (c.in_ok-row.ensures alphabet (map pattern_of (take i qs)) (pattern_of q) c.loop-pattern.invariant c.expression.ensures.answer)
