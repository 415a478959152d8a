use Rattle.std.proofs.Common.{rules, ◌≡◌, ◌∙◌, sym, true, false, get_or, map}
use Rattle.rl_sessions.specs.OneSession.{session_value}
use Rattle.rl_sessions.proofs.Finds.{none_live, place_none, closed_place, live_place}
use Rattle.rl_sessions.proofs.places.live_place_of.Goals as goal

pub returns-in-None : goal.returns-in-None
returns-in-None c = none_live c.args.name.now (map session_value c.args.all.now) (place_none c.args.name.now c.args.all.now (sym c.place_of.ensures ∙ c.in-None.is))

pub returns-in-Some : goal.returns-in-Some
returns-in-Some c =
    let closed : (get_or c.args.all.now c.in-Some.place c.index-all-place.result).is_closed ≡ true = search rules in
    closed_place c.args.name.now c.args.all.now c.in-Some.place c.index-all-place.result (sym c.place_of.ensures ∙ c.in-Some.is) closed

pub returns-in-Some-2 : goal.returns-in-Some-2
returns-in-Some-2 c =
    let live : (get_or c.args.all.now c.in-Some.place c.index-all-place.result).is_closed ≡ false = search rules in
    live_place c.args.name.now c.args.all.now c.in-Some.place c.index-all-place.result (sym c.place_of.ensures ∙ c.in-Some.is) live
