use Rattle.std.proofs.Common.{◌≡◌, ◌<◌, ◌++◌, ◌∷◌, [], length, get_or, take, map, ap, sym, ◌∙◌}
use Rattle.std.proofs.lemmas.List.{map_more}
use Rattle.std.proofs.lemmas.Option.{get_or_from_slice_get}
use Rattle.rl_explore.proofs.NumberLaws.{get_below}
use Rattle.rl_reach.specs.States.{error_state, state_for}
use Rattle.rl_reach.proofs.states.states_for.Goals as goal

pub loop-i-preserved : goal.loop-i-preserved
loop-i-preserved c =
    let keys = c.args.places.now.keys in
    let p = c.place_at.result in
    let f = state_for c.args.root.now keys in
    let below : c.loop-i.i < length keys = get_below keys c.loop-i.i p c.place_at.ensures in
    let at : get_or keys c.loop-i.i p ≡ p = get_or_from_slice_get keys c.loop-i.i p p c.place_at.ensures in
    c.in_ok-push-2.ensures ∙ (λ j. c.loop-i.invariant j ++ c.in_ok-state.ensures j ∷ [])
    ∙ ap (λ w. error_state ∷ w) (ap (λ q. map f (take c.loop-i.i keys) ++ f q ∷ []) (sym at) ∙ sym (map_more f keys c.loop-i.i p below))
