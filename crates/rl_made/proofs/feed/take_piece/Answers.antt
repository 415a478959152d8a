use Rattle.std.proofs.Common.{rules, of_calls, MutBor, ◌-◌, false, take, drop, sym, subst}
use Rattle.rl_playback.specs.Defaults.{default_settings}
use Rattle.rl_made.specs.Stands.{Stands}
use Rattle.rl_made.specs.declared.tally.Tally.{Tally}
use Rattle.rl_made.proofs.Steps.{has_room, is_live, piece_stands_at}
use Rattle.rl_made.proofs.Places.{piece_behind, piece_small, front_small}
use Rattle.rl_made.proofs.feed.take_piece.Goals as goal

pub returns-clause-stands : goal.returns-clause-stands
returns-clause-stands c =
    let a = c.args.tally.now.names.tables.now in
    let r = piece_stands_at a default_settings c.args.name.now {H = record { 0 : MutBor Tally }} _ (λ h. h.0.now) (λ h. h.0.ghost_name)
    (λ h k x g s. search (of_calls, rules)) (λ h k x g s. search (of_calls, rules)) _ _ (take c.args.from c.args.input.now) _ _ c.requires.stands _ (take c.args.to c.args.input.now) _
    (piece_behind c.args.input.now c.args.from c.args.to c.requires.order c.requires.within)
    (front_small c.args.input.now c.args.to c.requires.within c.requires.small) c.in-Ok.ensures.taken in
    let e = c.tally-1.given.1 (sym r.0) in
    subst (λ (last : Tally). Stands a default_settings c.args.name.now false (take c.args.to c.args.input.now) last c.piece-taken.new.self) (sym e) r.1

pub returns-clause-tables : goal.returns-clause-tables
returns-clause-tables c = (returns-clause-stands c).tally_tables

pub piece-taken-requires-clause-small : goal.piece-taken-requires-clause-small
piece-taken-requires-clause-small c = λ x e none.
    has_room c.args.tally.now.names.tables.now default_settings c.args.name.now (take c.args.from c.args.input.now) c.args.tally.now c.args.sessions.now c.requires.stands
    (take (c.args.to - c.args.from) (drop c.args.from c.args.input.now))
    (piece_small c.args.input.now c.args.from c.args.to c.requires.order c.requires.within c.requires.small) x e none

pub unreachable-requires : goal.unreachable-requires
unreachable-requires c =
    is_live c.args.tally.now.names.tables.now default_settings c.args.name.now (take c.args.from c.args.input.now) c.args.tally.now c.args.sessions.now c.requires.stands
    c.requires.stands.session c.requires.stands.found (c.in-Err.ensures.refused.1 c.requires.stands.session c.requires.stands.found)
