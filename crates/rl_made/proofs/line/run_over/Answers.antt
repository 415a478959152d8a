use Rattle.std.proofs.Common.{false, true, sym, subst}
use Rattle.rl_playback.specs.Defaults.{default_settings}
use Rattle.rl_made.specs.Stands.{Stands}
use Rattle.rl_made.proofs.Steps.{tokens_told}
use Rattle.rl_made.proofs.line.run_over.Goals as goal

pub take_end-requires : goal.take_end-requires
take_end-requires c = record {
  stands = subst (λ a. Stands a default_settings c.args.name.now false c.args.input.now c.take_pieces-pieces.new.tally c.take_pieces-pieces.new.sessions)
      (sym c.take_pieces-pieces.ensures.tables) c.take_pieces-pieces.ensures.stands;
  small = c.requires.small;
}

pub verdict_behind-verdict-requires : goal.verdict_behind-verdict-requires
verdict_behind-verdict-requires c =
    subst (λ a. Stands a default_settings c.args.name.now true c.args.input.now c.take_end.new.tally c.take_end.new.sessions)
    c.take_pieces-pieces.ensures.tables c.take_end.ensures.stands

pub returns-in-Some-clause-tokens : goal.returns-in-Some-clause-tokens
returns-in-Some-clause-tokens c =
    tokens_told c.args.tables.now default_settings c.args.name.now c.args.input.now c.take_end.new.tally c.take_end.new.sessions
    (subst (λ a. Stands a default_settings c.args.name.now true c.args.input.now c.take_end.new.tally c.take_end.new.sessions)
    c.take_pieces-pieces.ensures.tables c.take_end.ensures.stands)
    c.in-Some.tokens c.in-Some.is

pub returns-in-Some-clause-pieces : goal.returns-in-Some-clause-pieces
returns-in-Some-clause-pieces c = c.take_pieces-pieces.ensures.count

pub returns-in-Some-clause-verdict : goal.returns-in-Some-clause-verdict
returns-in-Some-clause-verdict c = c.verdict_behind-verdict.ensures
