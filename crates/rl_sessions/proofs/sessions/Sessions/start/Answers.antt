use Rattle.std.proofs.Common.{ap, map, sym, count_by, ◌∙◌}
use Rattle.rl_sessions.specs.OneSession.{name_of, is_live}
use Rattle.rl_sessions.proofs.Rolls.{position_name}
use Rattle.rl_sessions.proofs.sessions.Sessions.start.Goals as goal

pub put-requires : goal.put-requires
put-requires c =
    let absent = rw c.as_slice.ensures.value at c.refusal_of.ensures.absent c.in_default.is in
    rw (c.in-Ok-copied.ensures, c.self.invariant.names) (position_name c.args.name.now c.self.inside.all.items ∙ absent)

pub invariant_of-self-in_default-put : goal.invariant_of-self-in_default-put
invariant_of-self-in_default-put c = record {
  ones = rw c.reserve.ensures.items c.self.invariant.ones;
  names = c.in_default-put.ensures ∙ c.self.invariant.names ∙ ap (map name_of) (sym c.reserve.ensures.items);
  live = c.self.invariant.live ∙ ap (count_by is_live) (sym c.reserve.ensures.items);
}
