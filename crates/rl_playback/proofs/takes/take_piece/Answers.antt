use Rattle.std.proofs.Common.{rules, of_calls, MutBor, sym, subst}
use Rattle.rl_sessions.specs.Runs.{TakesPiece}
use Rattle.rl_playback.specs.declared.log.Log.{Log}
use Rattle.rl_playback.specs.Log.{LogsCall}
use Rattle.rl_playback.proofs.Transfers.{piece_name, piece_logged}
use Rattle.rl_playback.proofs.takes.take_piece.Goals as goal

pub returns-clause-taken : goal.returns-clause-taken
returns-clause-taken c =
    let t = c.in-Ok.ensures.taken in
    let n = piece_name {H = record { 0 : MutBor Log }} _ (λ h. h.0.ghost_name) (λ h k x g s. search (of_calls, rules)) _ _ _ _ _ _ _ t in
    let e = c.log-1.given.1 (sym n) in
    subst (λ (last : Log). TakesPiece LogsCall c.args.log.now last c.args.name.now c.args.sessions.now c.piece-taken.new.self c.args.piece.now c.in-Ok.outcome) (sym e)
    (piece_logged {H = record { 0 : MutBor Log }} _ (λ h. h.0.now) (λ h k x g s. search (of_calls, rules)) _ _ _ _ _ _ _ t)
