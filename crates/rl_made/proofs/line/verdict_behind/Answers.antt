use Rattle.std.proofs.Common.{◌∙◌}
use Rattle.rl_playback.specs.Defaults.{default_settings}
use Rattle.rl_made.proofs.Steps.{verdict_told}
use Rattle.rl_made.proofs.line.verdict_behind.Goals as goal

pub returns : goal.returns
returns c =
    c.verdict_of.ensures ∙ verdict_told c.args.tables.now default_settings c.args.name.now c.args.input.now c.args.tally.now c.args.sessions.now c.requires
