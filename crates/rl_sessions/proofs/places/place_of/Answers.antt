use Rattle.std.proofs.Common.{◌∙◌, ap, position}
use Rattle.std.specs.Str.{bytes_eq}
use Rattle.rl_sessions.proofs.Rolls.{position_name}
use Rattle.rl_sessions.proofs.places.place_of.Goals as goal

pub returns : goal.returns
returns c = c.place_on.ensures ∙ ap (λ names. position (bytes_eq c.args.name.now) names) c.requires ∙ position_name c.args.name.now c.args.all.now
