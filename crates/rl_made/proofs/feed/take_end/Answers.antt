use Rattle.std.proofs.Common.{rules, of_calls, MutBor, true, sym, subst}
use Rattle.rl_playback.specs.Defaults.{default_settings}
use Rattle.rl_made.specs.Stands.{Stands}
use Rattle.rl_made.specs.declared.tally.Tally.{Tally}
use Rattle.rl_made.proofs.Steps.{end_stands, is_live}
use Rattle.rl_made.proofs.feed.take_end.Goals as goal

pub returns-clause-stands : goal.returns-clause-stands
returns-clause-stands c =
    let a = c.args.tally.now.names.tables.now in
    let r = end_stands a default_settings c.args.name.now {H = record { 0 : MutBor Tally }} _ (λ h. h.0.now) (λ h. h.0.ghost_name)
    (λ h k x g s. search (of_calls, rules)) (λ h k x g s. search (of_calls, rules)) _ _ c.args.input.now _ _ c.requires.stands _
    c.requires.small c.in-Ok.ensures.ended in
    let e = c.tally-1.given.1 (sym r.0) in
    subst (λ (last : Tally). Stands a default_settings c.args.name.now true c.args.input.now last c.end-ended.new.self) (sym e) r.1

pub returns-clause-tables : goal.returns-clause-tables
returns-clause-tables c = (returns-clause-stands c).tally_tables

pub unreachable-requires : goal.unreachable-requires
unreachable-requires c =
    is_live c.args.tally.now.names.tables.now default_settings c.args.name.now c.args.input.now c.args.tally.now c.args.sessions.now c.requires.stands
    c.requires.stands.session c.requires.stands.found (c.in-Err.ensures.refused.1 c.requires.stands.session c.requires.stands.found)
