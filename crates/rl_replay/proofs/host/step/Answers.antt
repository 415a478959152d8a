use Rattle.std.proofs.Common.{◌++◌, None, option_to_list, sym, ◌∙◌, ap, arith}
use Rattle.rl_replay.specs.OwnPicks.{picks_left}
use Rattle.rl_replay.proofs.OwnPicks.{no_statement, inner_statement, last_statement, next_statement}
use Rattle.rl_replay.proofs.host.step.Goals as goal

pub returns-in_default-clause-on : goal.returns-in_default-clause-on
returns-in_default-clause-on g c =
    no_statement (g.L.LookUps.machine c.args.look_ups.now) c.args.call.now c.args.number (omega arith) (sym c.statement.ensures ∙ c.in_default.is)

pub returns-then-not-statement-clause-on : goal.returns-then-not-statement-clause-on
returns-then-not-statement-clause-on g c =
    inner_statement (g.L.LookUps.machine c.args.look_ups.now) c.args.call.now c.args.number (omega arith) c.in-Some.statement (sym c.statement.ensures ∙ c.in-Some.is)
    c.checked_add.result c.if-not-statement.true c.checked_add.ensures

pub returns-then-is_last-clause-on : goal.returns-then-is_last-clause-on
returns-then-is_last-clause-on g c =
    let m = g.L.LookUps.machine c.args.look_ups.now in
    last_statement m c.args.call.now c.args.number (omega arith) c.in-Some.statement (sym c.statement.ensures ∙ c.in-Some.is) c.if-not-statement.false (sym c.is_last.ensures ∙ c.if-is_last.true)
    ∙ ap (λ o. option_to_list o ++ picks_left m c.args.call.now None) (sym c.pick_of-pick.ensures)

pub returns-else-is_last-clause-on : goal.returns-else-is_last-clause-on
returns-else-is_last-clause-on g c =
    let m = g.L.LookUps.machine c.args.look_ups.now in
    next_statement m c.args.call.now c.args.number (omega arith) c.in-Some.statement (sym c.statement.ensures ∙ c.in-Some.is) c.checked_add-else-is_last.result
    c.if-not-statement.false (sym c.is_last.ensures ∙ c.if-is_last.false) c.checked_add-else-is_last.ensures
    ∙ ap (λ o. option_to_list o ++ picks_left m c.args.call.now c.checked_add-else-is_last.result) (sym c.pick_of-pick.ensures)
