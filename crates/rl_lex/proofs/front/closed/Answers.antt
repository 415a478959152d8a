use Rattle.std.proofs.Common.{◌≡◌, ◌<◌, length, false, arith}
use Rattle.rl_lexical.specs.Modes.{is_read}
use Rattle.rl_lex.proofs.PieceLaws.{reading_starts, reading_goes_on}
use Rattle.rl_lex.proofs.front.closed.Goals as goal

pub loop-mode-init : goal.loop-mode-init
loop-mode-init c = reading_starts c.args.start c.args.text.now c.requires.depth

pub loop-mode-preserved : goal.loop-mode-preserved
loop-mode-preserved c =
    let open_still : is_read c.loop-mode.mode ≡ false = cc in
    let inside : c.loop-mode.n < length c.args.text.now = omega (arith, c.loop-mode.invariant.within) in
    reading_goes_on c.args.start c.args.text.now c.loop-mode.n c.loop-mode.mode c.mode_behind-mode.result c.loop-mode.invariant open_still inside
    c.mode_behind-mode.ensures.value c.mode_behind-mode.ensures.depth
