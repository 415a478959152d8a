use Rattle.std.proofs.Common.{◌≡◌, ◌+◌, ◌*◌, ◌<◌, ◌^◌, None, length, sym, ap, ◌∙◌, subst}
use Rattle.rl_arrays.specs.TableMachine.{machine}
use Rattle.rl_sessions.specs.declared.one.One.{One}
use Rattle.rl_sessions.specs.OneSession.{session_value, name_of, IsOne}
use Rattle.rl_sessions.proofs.Finds.{all_set, set_names, same_count}
use Rattle.rl_sessions.proofs.Calls.{one_at, one_of, live_found, piece_taken}
use Rattle.rl_sessions.proofs.sessions.Sessions.piece.Goals as goal

pub feed_one-requires-clause-end : goal.feed_one-requires-clause-end
feed_one-requires-clause-end g c =
    let place = rw c.as_slice.ensures.value at c.in-Some.ensures in
    let small = rw (← c.self.view_is) at c.requires.small in
    let one =
    one_at (IsOne c.self.inside.tables.now c.self.inside.settings) c.self.inside.all.items c.in-Some.place c.index_mut.result.now c.index_mut.ensures.value
    c.self.invariant.ones place.within in
    let x = c.index_mut.result.now in
    subst (λ t. x.over ≡ None → (machine t).width * x.window.base + length x.window.bytes + length c.args.piece.now < 2 ^ 63) (sym one.tables)
    (small (session_value x)
    (live_found c.self.inside.tables.now c.self.inside.settings c.self.inside.all.items c.args.name.now c.in-Some.place c.index_mut.result.now place
    c.index_mut.ensures.value))

pub returns-clause-taken : goal.returns-clause-taken
returns-clause-taken g c =
    let place = rw c.as_slice.ensures.value at c.in-Some.ensures in
    let one = one_at (IsOne c.self.inside.tables.now c.self.inside.settings) c.self.inside.all.items c.in-Some.place c.index_mut.result.now c.index_mut.ensures.value c.self.invariant.ones place.within in
    rw (← c.self.view_is)
    (piece_taken c.self.inside.tables.now c.self.inside.settings c.self.inside.all.items c.args.name.now c.in-Some.place c.index_mut.result.now place c.index_mut.ensures.value
    _ c.args.host.now c.feed_one.new.host c.feed_one.new.one c.feed_one.result one c.args.piece.now c.feed_one.ensures.takes)

pub invariant_of-self : goal.invariant_of-self
invariant_of-self g c =
    let place = rw c.as_slice.ensures.value at c.in-Some.ensures in
    let all = c.self.inside.all.items in
    let i = c.in-Some.place in
    let old = c.index_mut.result.now in
    let new = c.feed_one.new.one in
    let there = c.index_mut.ensures.value in
    let one = one_at (IsOne c.self.inside.tables.now c.self.inside.settings) all i old there c.self.invariant.ones place.within in
    let takes = c.feed_one.ensures.takes in
    record {
      ones = all_set (IsOne c.self.inside.tables.now c.self.inside.settings) all i new c.self.invariant.ones (one_of _ _ _ _ new one.tables one.settings c.feed_one.ensures.one);
      names = c.self.invariant.names ∙ sym (set_names all i old new place.within (takes.name ∙ ap name_of there));
      live = c.self.invariant.live ∙ sym (same_count all i old new place.within (takes.is_closed ∙ ap (λ (x : One). x.is_closed) there));
    }
