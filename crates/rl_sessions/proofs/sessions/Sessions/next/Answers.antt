use Rattle.std.proofs.Common.{◌∙◌, sym}
use Rattle.rl_sessions.specs.SessionsValue.{SessionValue}
use Rattle.rl_sessions.proofs.Calls.{told_none, told_some}
use Rattle.rl_sessions.proofs.sessions.Sessions.next.Goals as goal

pub returns-in-None : goal.returns-in-None
returns-in-None c =
    let position = rw c.as_slice.ensures.value at c.place_of.ensures in
    let place = sym position ∙ c.in-None.is in
    rw (← c.self.view_is) (told_none (λ (x : SessionValue). x.session.next) c.args.name.now c.self.inside.all.items place)

pub returns-in-Some : goal.returns-in-Some
returns-in-Some c =
    let position = rw c.as_slice.ensures.value at c.place_of.ensures in
    let place = sym position ∙ c.in-Some.is in
    rw (← c.self.view_is) (told_some (λ (x : SessionValue). x.session.next) c.args.name.now c.self.inside.all.items c.in-Some.place c.index.result.now c.view_of.result.next place c.index.ensures c.view_of.ensures.next)
