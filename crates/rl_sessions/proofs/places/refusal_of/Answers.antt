use Rattle.std.proofs.Common.{rules, ◌≤◌, ◌<◌, ◌∙◌, sym}
use Rattle.std.specs.Prelude.{count_by}
use Rattle.rl_sessions.specs.OneSession.{is_live}
use Rattle.rl_sessions.proofs.Finds.{refused_twice, refused_full, refused_not}
use Rattle.rl_sessions.proofs.places.refusal_of.Goals as goal

pub returns-in-Some-clause-refused : goal.returns-in-Some-clause-refused
returns-in-Some-clause-refused c = refused_twice c.args.name.now c.args.all.now _ (sym c.place_of.ensures ∙ c.in-Some.is)

pub returns-in-None-clause-refused : goal.returns-in-None-clause-refused
returns-in-None-clause-refused c =
    let full : 1024 ≤ count_by is_live c.args.all.now = search rules in
    refused_full c.args.name.now c.args.all.now (sym c.place_of.ensures ∙ c.in-None.is) full

pub returns-in-None-2-clause-refused : goal.returns-in-None-2-clause-refused
returns-in-None-2-clause-refused c =
    let room : count_by is_live c.args.all.now < 1024 = search rules in
    refused_not c.args.name.now c.args.all.now (sym c.place_of.ensures ∙ c.in-None.is) room
