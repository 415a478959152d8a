use Rattle.std.proofs.Common.{◌≡◌, ◌<◌, length, Err, arith}
use Rattle.std.proofs.lemmas.Bool.{eqb-true, eqb-false}
use Rattle.rl_parse.specs.Rules.{block}
use Rattle.rl_parse.proofs.Whole.{left_within, over_within, ok_derives, only_ok, never_over, never_err, over_refused, unfinished_found, fault_found}
use Rattle.rl_parse.proofs.sentence.read_sentence.Goals as goal

pub overflow_sub-result : goal.overflow_sub-result
overflow_sub-result c = over_within c.args.tokens.now c.in-Ok.syntax c.in-Ok.rest.now c.in-Ok.ensures

pub overflow_sub-result-else-left-eq0 : goal.overflow_sub-result-else-left-eq0
overflow_sub-result-else-left-eq0 c =
    let e : block (length c.args.tokens.now) c.args.tokens.now ≡ Err c.in-Err-At.left = rw c.in-Err-At.field-0-is at c.in-Err-At.ensures in
    left_within c.args.tokens.now c.in-Err-At.left e

pub returns-then-is_empty-clause-derived : goal.returns-then-is_empty-clause-derived
returns-then-is_empty-clause-derived c =
    let none : length c.in-Ok.rest.now ≡ 0 = eqb-true (length c.in-Ok.rest.now) 0 cc in
    ok_derives c.args.tokens.now c.in-Ok.syntax c.in-Ok.rest.now c.in-Ok.ensures none

pub returns-then-is_empty-clause-only : goal.returns-then-is_empty-clause-only
returns-then-is_empty-clause-only c = only_ok c.args.tokens.now c.in-Ok.syntax c.in-Ok.rest.now c.in-Ok.ensures

pub returns-else-is_empty-clause-only : goal.returns-else-is_empty-clause-only
returns-else-is_empty-clause-only c = λ s h.
    absurd (never_over c.args.tokens.now c.in-Ok.syntax c.in-Ok.rest.now c.in-Ok.ensures (eqb-false (length c.in-Ok.rest.now) 0 cc) s h)

pub returns-else-is_empty-clause-refused : goal.returns-else-is_empty-clause-refused
returns-else-is_empty-clause-refused c =
    over_refused c.args.tokens.now c.in-Ok.syntax c.in-Ok.rest.now c.in-Ok.ensures (eqb-false (length c.in-Ok.rest.now) 0 cc)

pub returns-then-left-eq0-clause-only : goal.returns-then-left-eq0-clause-only
returns-then-left-eq0-clause-only c = λ s h.
    let e : block (length c.args.tokens.now) c.args.tokens.now ≡ Err c.in-Err-At.left = rw c.in-Err-At.field-0-is at c.in-Err-At.ensures in
    absurd (never_err c.args.tokens.now c.in-Err-At.left e s h)

pub returns-then-left-eq0-clause-refused : goal.returns-then-left-eq0-clause-refused
returns-then-left-eq0-clause-refused c =
    let e : block (length c.args.tokens.now) c.args.tokens.now ≡ Err c.in-Err-At.left = rw c.in-Err-At.field-0-is at c.in-Err-At.ensures in
    let none : block (length c.args.tokens.now) c.args.tokens.now ≡ Err 0 = rw c.if-left-eq0.true at e in
    unfinished_found c.args.tokens.now none

pub returns-else-left-eq0-clause-only : goal.returns-else-left-eq0-clause-only
returns-else-left-eq0-clause-only c = λ s h.
    let e : block (length c.args.tokens.now) c.args.tokens.now ≡ Err c.in-Err-At.left = rw c.in-Err-At.field-0-is at c.in-Err-At.ensures in
    absurd (never_err c.args.tokens.now c.in-Err-At.left e s h)

pub returns-else-left-eq0-clause-refused : goal.returns-else-left-eq0-clause-refused
returns-else-left-eq0-clause-refused c =
    let e : block (length c.args.tokens.now) c.args.tokens.now ≡ Err c.in-Err-At.left = rw c.in-Err-At.field-0-is at c.in-Err-At.ensures in
    let some : 0 < c.in-Err-At.left = omega arith in
    fault_found c.args.tokens.now c.in-Err-At.left e some
