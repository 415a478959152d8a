use Rattle.std.proofs.Common.{◌≡◌, ◌<◌, true, false, List, Option, rules, arith, ◌∙◌, subst}
use Rattle.std.proofs.lemmas.Result.{on_ok_weaker}
use Rattle.rl_grammar.specs.declared.syntax.Syntax.{Syntax}
use Rattle.rl_io.specs.Outside.{Held}
use Rattle.rl_includes.specs.Answers.{IsTaken}
use Rattle.rl_includes.specs.Names.{file_number, is_among}
use Rattle.rl_includes.specs.Unrolling.{Opens, Includes, IsFailure}
use Rattle.rl_includes.proofs.FollowLaws.{walks_more, walks_end, includes_loop, includes_too_deep, enters_none, enters_some}
use Rattle.rl_includes.proofs.StoreLaws.{cause_then, no_failure}
use Rattle.rl_includes.proofs.follow.+unrolling.Goals as goal

pub follow-returns-clause-followed : goal.follow-returns-clause-followed
follow-returns-clause-followed g t c = walks_end _ _ _ _ _ _ _ c.loop-item.invariant.walks c.in_default.ensures

pub follow-loop-item-preserved : goal.follow-loop-item-preserved
follow-loop-item-preserved g t c =
    let taken = subst (λ (h : Held). IsTaken (Includes c.args.reader.now.left h) c.args.reader.now c.loop-item.current c.in-Some.item c.loop-item.unrolled c.take.new.unrolled c.in_ok-current.current)
    c.loop-item.invariant.same c.in_ok-current.ensures.taken in
    record {
      walks = walks_more _ _ _ c.loop-item.queue c.next.new.queue _ c.loop-item.unrolled c.take.new.unrolled c.loop-item.current c.in_ok-current.current c.in-Some.item
          c.loop-item.invariant.walks c.in-Some.ensures taken;
      same = c.take.ensures.same ∙ c.loop-item.invariant.same;
      cause = cause_then (IsFailure c.loop-item.unrolled.stop) (IsFailure c.take.new.unrolled.stop) _ _ _ (no_failure c.loop-item.unrolled.stop c.in-Some.ensures.unstopped) c.loop-item.invariant.cause
          c.in_ok-current.ensures.cause;
    }

pub include-returns-then-is_among-clause-included : goal.include-returns-then-is_among-clause-included
include-returns-then-is_among-clause-included g t c =
    let among : is_among c.args.reader.now.being_read c.args.request.file ≡ true = search rules in
    on_ok_weaker c.fault.result (λ h. includes_loop _ _ _ _ _ _ among h) c.fault.ensures

pub include-returns-then-reader-eq0-clause-included : goal.include-returns-then-reader-eq0-clause-included
include-returns-then-reader-eq0-clause-included g t c =
    let among : is_among c.args.reader.now.being_read c.args.request.file ≡ false = search rules in
    on_ok_weaker c.too_deep.result (λ h. includes_too_deep _ _ _ _ _ _ among (omega arith) h) c.too_deep.ensures

pub include-returns-in-None-clause-included : goal.include-returns-in-None-clause-included
include-returns-in-None-clause-included g t c =
    let among : is_among c.args.reader.now.being_read c.args.request.file ≡ false = search rules in
    let some : 0 < c.args.reader.now.left = omega arith in
    enters_none _ _ _ _ _ _ among some
    (subst (λ (o : Option (List Syntax)). Opens (g.S.Store.held c.args.store.now) c.args.reader.now c.args.request c.args.unrolled.now c.open_file.new.unrolled o) c.in-None.is c.in_ok-opened.ensures.opens)

pub include-returns-in-Some-clause-included : goal.include-returns-in-Some-clause-included
include-returns-in-Some-clause-included g t c =
    let among : is_among c.args.reader.now.being_read c.args.request.file ≡ false = search rules in
    let some : 0 < c.args.reader.now.left = omega arith in
    let number : c.file_number-number.result ≡ file_number c.args.unrolled.now.files c.args.request.file = search rules in
    let opens = subst (λ (o : Option (List Syntax)). Opens (g.S.Store.held c.args.store.now) c.args.reader.now c.args.request c.args.unrolled.now c.open_file.new.unrolled o) c.in-Some.is c.in_ok-opened.ensures.opens in
    on_ok_weaker c.enter.result
    (λ h. enters_some _ (g.S.Store.held c.args.store.now) (g.S.Store.held c.open_file.new.store) _ _ _ c.open_file.new.unrolled _ _ _ among some c.open_file.ensures.same number opens h) c.enter.ensures.entered
