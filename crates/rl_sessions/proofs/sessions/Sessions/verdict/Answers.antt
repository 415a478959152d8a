use Rattle.std.proofs.Common.{◌∙◌, sym}
use Rattle.rl_sessions.specs.SessionsValue.{SessionValue, verdict_in}
use Rattle.rl_sessions.specs.OneSession.{IsOne}
use Rattle.rl_sessions.proofs.Calls.{one_at, told_none, told_some}
use Rattle.rl_sessions.proofs.Finds.{place_within}
use Rattle.rl_sessions.proofs.sessions.Sessions.verdict.Goals as goal

pub returns-in-None : goal.returns-in-None
returns-in-None c =
    let position = rw c.as_slice.ensures.value at c.place_of.ensures in
    let place = sym position ∙ c.in-None.is in
    rw (← c.self.view_is) (told_none (λ (x : SessionValue). verdict_in c.self.inside.tables.now x) c.args.name.now c.self.inside.all.items place)

pub returns-in-Some : goal.returns-in-Some
returns-in-Some c =
    let position = rw c.as_slice.ensures.value at c.place_of.ensures in
    let place = sym position ∙ c.in-Some.is in
    let within = place_within c.args.name.now c.self.inside.all.items c.in-Some.place c.index.result.now place in
    let one = one_at (IsOne c.self.inside.tables.now c.self.inside.settings) c.self.inside.all.items c.in-Some.place c.index.result.now c.index.ensures c.self.invariant.ones within in
    let verdict = rw one.tables at c.view_of.ensures.verdict in
    rw (← c.self.view_is) (told_some (λ (x : SessionValue). verdict_in c.self.inside.tables.now x) c.args.name.now c.self.inside.all.items c.in-Some.place c.index.result.now c.view_of.result.verdict place c.index.ensures verdict)
