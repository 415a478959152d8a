use Rattle.std.proofs.Common.{◌≡◌, ◌<◌, ◌++◌, ◌∷◌, [], length, get_or, sym, ◌∙◌, rules}
use Rattle.std.proofs.lemmas.List.{map_more}
use Rattle.rl_min.specs.Numbering.{number_in}
use Rattle.rl_min.proofs.numbering.numbers_of.Goals as goal

pub loop-class-preserved : goal.loop-class-preserved
loop-class-preserved c =
    let keys = c.args.met.now.keys in
    let classes = c.args.classes.now in
    let i = c.loop-class.class-index in
    let below : i < length classes = search rules in
    let at : c.number_in.result ≡ number_in keys (get_or classes i 0) = search rules in
    c.in_ok-push.ensures ∙ (λ j. c.loop-class.invariant j ++ at j ∷ []) ∙ sym (map_more (number_in keys) classes i 0 below)
