use Rattle.std.proofs.Common.{rules, ◌≤◌, refl, sym, subst, ◌∙◌, arith}
use Rattle.rl_stream.specs.Log.{tables_of}
use Rattle.rl_stream.proofs.Blockwise.{reading_first, passes_on, breaks_off, stops_so, ok_err}
use Rattle.rl_stream.proofs.streaming.feed_all.Goals as goal

pub blocks-2-init : goal.blocks-2-init
blocks-2-init g c = record {
  size = search rules;
  reading = reading_first (tables_of c.args.log.now) c.args.settings c.args.entry.0 (g.I.Source.left c.args.input.now) (g.O.Sink.written c.args.out.now) c.args.log.now c.args.sessions.now
      c.requires.stands c.requires.empty;
  told_input = λ x. x;
  told = λ x. x;
  input_quiet = refl;
  output_quiet = refl;
}

pub blocks-2-preserved : goal.blocks-2-preserved
blocks-2-preserved g c =
    let i = c.blocks-2.invariant in
    let within = subst (λ k. c.in-Ok.more ≤ k) (sym c.in-Ok.ensures.size) c.in-Ok.ensures.bound in
    record {
      size = c.in-Ok.ensures.size ∙ i.size;
      reading = passes_on _ _ _ _ _ _ _ _ _ _ _ i.reading _ c.in-Ok.more c.read_block.new.block _ c.in-Ok.ensures.bytes refl within c.in-Ok.ensures.small _ _ _ _
          c.in-Ok-pass_piece.ensures.passes;
      told_input = λ t. c.in-Ok.ensures.told (i.told_input t);
      told = λ t. c.in-Ok-pass_piece.ensures.told (i.told t);
      input_quiet = c.in-Ok.ensures.cause.kept (λ e. ok_err _ _ e) ∙ i.input_quiet;
      output_quiet = c.in-Ok-pass_piece.ensures.cause.kept (λ e. ok_err _ _ e) ∙ i.output_quiet;
    }

pub returns-in-Err-clause-leaves : goal.returns-in-Err-clause-leaves
returns-in-Err-clause-leaves g c =
    let i = c.blocks-2.invariant in
    let few = i.reading.few in
    stops_so _ _ _ _ _ _ _ _ _ _ _ i.reading _ _ c.in-Err.fault (omega (arith, few)) c.in-Err.ensures.stops

pub returns-in-Err-pass_piece-clause-leaves : goal.returns-in-Err-pass_piece-clause-leaves
returns-in-Err-pass_piece-clause-leaves g c =
    let i = c.blocks-2.invariant in
    let within = subst (λ k. c.in-Ok.more ≤ k) (sym c.in-Ok.ensures.size) c.in-Ok.ensures.bound in
    breaks_off _ _ _ _ _ _ _ _ _ _ _ i.reading _ c.in-Ok.more c.read_block.new.block _ c.in-Ok.ensures.bytes refl within c.in-Ok.ensures.small _ c.in-Err-pass_piece.fault
    c.in-Err-pass_piece.ensures.breaks
