use Rattle.std.proofs.Common.{◌≡◌, ◌<◌, ◌++◌, ◌∷◌, [], length, get_or, sym, ◌∙◌, rules}
use Rattle.std.proofs.lemmas.List.{map_more}
use Rattle.rl_reach.specs.declared.place.Place.{Place}
use Rattle.rl_reach.specs.Places.{number_in}
use Rattle.rl_reach.proofs.numbered.numbers_of.Goals as goal

pub loop-place-preserved : goal.loop-place-preserved
loop-place-preserved c =
    let keys = c.args.places.now.keys in
    let listed = c.args.listed.now in
    let i = c.loop-place.place-index in
    let d : Place = record { entry = 0; state = 0 } in
    let below : i < length listed = search rules in
    let at : c.number_in.result ≡ number_in keys (get_or listed i d) = search rules in
    c.in_ok-push.ensures ∙ (λ j. c.loop-place.invariant j ++ at j ∷ []) ∙ sym (map_more (number_in keys) listed i d below)
