use Rattle.std.proofs.Common.{sym, ap, ◌∙◌, ◌||◌, take}
use Rattle.rl_replay.specs.Sessions.{is_opened, only}
use Rattle.rl_script.specs.NameTables.{opens}
use Rattle.rl_script.proofs.NameLaws.{taken}
use Rattle.rl_script.proofs.SessionLaws.{opened_more}
use Rattle.rl_script.proofs.names.opened_in.Goals as goal

pub loop-line-preserved : goal.loop-line-preserved
loop-line-preserved c = λ s.
    let lines = c.args.lines.now in
    let i = c.loop-line.line-index in
    let line = c.line-item.result in
    c.in_ok-put_opened.ensures s
    ∙ ap (λ b. b || opens s line.event) (c.loop-line.invariant s)
    ∙ sym (ap (λ list. is_opened (only s list)) (taken lines i line c.loop-line-test.true c.line-item.is) ∙ opened_more s (take i lines) line)
