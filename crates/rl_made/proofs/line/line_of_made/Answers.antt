use Rattle.std.proofs.Common.{refl, ◌∙◌}
use Rattle.rl_playback.specs.Defaults.{default_settings}
use Rattle.rl_made.proofs.Inputs.{small_input, text_same}
use Rattle.rl_made.proofs.line.line_of_made.Goals as goal

pub run_over-requires : goal.run_over-requires
run_over-requires c = record {
  small = small_input c.args.lines c.as_slice-input.result.now c.requires.high (c.as_slice-input.ensures.value ∙ c.in_ok-made.ensures);
}

pub returns : goal.returns
returns c =
    c.in_ok-text.ensures
    ∙ text_same c.args.tables.now default_settings c.args.lines c.as_slice-input.result.now _ _ _ _ (c.as_slice-input.ensures.value ∙ c.in_ok-made.ensures) refl
    c.in_ok-told.ensures.pieces c.in_ok-told.ensures.tokens c.in_ok-told.ensures.verdict
