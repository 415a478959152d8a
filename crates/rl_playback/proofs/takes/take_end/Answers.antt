use Rattle.std.proofs.Common.{rules, of_calls, MutBor, sym, subst}
use Rattle.rl_sessions.specs.Runs.{TakesEnd}
use Rattle.rl_playback.specs.declared.log.Log.{Log}
use Rattle.rl_playback.specs.Log.{LogsCall}
use Rattle.rl_playback.proofs.Transfers.{end_name, end_logged}
use Rattle.rl_playback.proofs.takes.take_end.Goals as goal

pub returns-clause-taken : goal.returns-clause-taken
returns-clause-taken c =
    let t = c.in-Ok.ensures.ended in
    let n = end_name {H = record { 0 : MutBor Log }} _ (λ h. h.0.ghost_name) (λ h k x g s. search (of_calls, rules)) _ _ _ _ _ _ t in
    let e = c.log-1.given.1 (sym n) in
    subst (λ (last : Log). TakesEnd LogsCall c.args.log.now last c.args.name.now c.args.sessions.now c.end-taken.new.self c.in-Ok.outcome) (sym e)
    (end_logged {H = record { 0 : MutBor Log }} _ (λ h. h.0.now) (λ h k x g s. search (of_calls, rules)) _ _ _ _ _ _ t)
