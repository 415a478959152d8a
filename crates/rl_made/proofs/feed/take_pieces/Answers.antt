use Rattle.std.proofs.Common.{false, take, sym, ◌∙◌, subst, arith}
use Rattle.rl_playback.specs.Defaults.{default_settings}
use Rattle.rl_made.specs.Stands.{Stands}
use Rattle.rl_made.proofs.Pieces.{piece_counted, all_counted, count_on}
use Rattle.rl_made.proofs.feed.take_pieces.Goals as goal

pub pieces-preserved : goal.pieces-preserved
pieces-preserved c = record {
  within = c.piece_end-to.ensures.within;
  few = omega (arith, c.pieces.invariant.few, c.piece_end-to.ensures.some);
  tables = c.take_piece.ensures.tables ∙ c.pieces.invariant.tables;
  stands = subst (λ a. Stands a default_settings c.args.name.now false (take c.piece_end-to.result c.args.input.now) c.take_piece.new.tally c.take_piece.new.sessions)
      c.pieces.invariant.tables c.take_piece.ensures.stands;
  count = count_on c.pieces.pieces _ _ _ c.pieces.invariant.count
      (piece_counted c.args.input.now c.pieces.from c.piece_end-to.result c.pieces.pieces (omega (arith, c.pieces-test.true)) c.piece_end-to.ensures.within
      c.piece_end-to.ensures.whole c.piece_end-to.ensures.last c.requires.small);
}

pub returns-clause-count : goal.returns-clause-count
returns-clause-count c =
    sym (all_counted c.args.input.now c.pieces.from c.pieces.pieces c.pieces.pieces (omega (arith, c.pieces-test.false))) ∙ c.pieces.invariant.count
