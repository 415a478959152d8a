use Rattle.std.proofs.Common.{◌++◌, take, ap, sym, ◌∙◌, append_assoc, arith}
use Rattle.std.specs.Prelude.{slice_get}
use Rattle.rl_playback.specs.Deeds.{left_at, left_texts}
use Rattle.rl_playback.proofs.LeftViews.{left_next}
use Rattle.rl_playback.proofs.playback.push_all_left.Goals as goal

pub loop-place-preserved : goal.loop-place-preserved
loop-place-preserved c =
    let a = c.args.sessions.now.tables in
    let all = c.args.sessions.now.all in
    let place = c.loop-place.place in
    c.in_ok-push_left.ensures
    ∙ ap (λ text. text ++ left_at a (slice_get all place)) c.loop-place.invariant
    ∙ append_assoc c.args.log.now.text.items (left_texts a (take place all)) (left_at a (slice_get all place))
    ∙ ap (λ more. c.args.log.now.text.items ++ more) (sym (left_next a all place (omega (arith, c.len-place-end.ensures))))
