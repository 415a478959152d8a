use Rattle.std.proofs.Common.{sym, ap, ◌∙◌, ◌-◌}
use Rattle.rl_sessions.specs.OneSession.{name_of, IsOne}
use Rattle.rl_sessions.proofs.Finds.{all_set, set_names, ended_count}
use Rattle.rl_sessions.proofs.Calls.{one_at, one_of, end_taken}
use Rattle.rl_sessions.proofs.sessions.Sessions.end.Goals as goal

pub returns-clause-ended : goal.returns-clause-ended
returns-clause-ended g c =
    let place = rw c.as_slice.ensures.value at c.in-Some.ensures in
    let one = one_at (IsOne c.self.inside.tables.now c.self.inside.settings) c.self.inside.all.items c.in-Some.place c.index_mut.result.now c.index_mut.ensures.value c.self.invariant.ones place.within in
    rw (← c.self.view_is)
    (end_taken c.self.inside.tables.now c.self.inside.settings c.self.inside.all.items c.args.name.now c.in-Some.place c.index_mut.result.now place c.index_mut.ensures.value
    _ c.args.host.now c.end_one.new.host c.end_one.new.one c.end_one.result one c.end_one.ensures.ends)

pub invariant_of-self : goal.invariant_of-self
invariant_of-self g c =
    let place = rw c.as_slice.ensures.value at c.in-Some.ensures in
    let all = c.self.inside.all.items in
    let i = c.in-Some.place in
    let old = c.index_mut.result.now in
    let new = c.end_one.new.one in
    let there = c.index_mut.ensures.value in
    let one = one_at (IsOne c.self.inside.tables.now c.self.inside.settings) all i old there c.self.invariant.ones place.within in
    let ends = c.end_one.ensures.ends in
    record {
      ones = all_set (IsOne c.self.inside.tables.now c.self.inside.settings) all i new c.self.invariant.ones (one_of _ _ _ _ new one.tables one.settings c.end_one.ensures.one);
      names = c.self.invariant.names ∙ sym (set_names all i old new place.within (ends.name ∙ ap name_of there));
      live = ap (λ n. n - 1) c.self.invariant.live ∙ sym (ended_count all i old new place.within (place.live old) ends.is_closed);
    }
