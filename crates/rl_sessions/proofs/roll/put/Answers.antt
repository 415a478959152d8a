use Rattle.std.proofs.Common.{map, ap, ◌∙◌}
use Rattle.rl_sessions.proofs.Rolls.{Key, put_key}
use Rattle.rl_sessions.proofs.roll.put.Goals as goal

pub returns : goal.returns
returns c = ap (map (λ (k : Key). k.items)) c.in-Ok.ensures.keys ∙ put_key c.args.name c.args.roll.now.keys c.requires
