use Rattle.std.proofs.Common.{[], ap, sym, subst, ◌∙◌}
use Rattle.rl_run.specs.declared.sessions.Settings.{Settings}
use Rattle.rl_sessions.specs.SessionsValue.{SessionsValue}
use Rattle.rl_tables.specs.Steps.{IsEntryNumber}
use Rattle.rl_playback.specs.Defaults.{default_settings}
use Rattle.rl_made.proofs.Steps.{stands_started}
use Rattle.rl_made.proofs.line.start.Goals as goal

pub returns-in-Ok : goal.returns-in-Ok
returns-in-Ok c =
    let none : Settings → SessionsValue = λ s. record { tables = c.args.tables.now; settings = s; all = [] } in
    stands_started c.args.tables.now default_settings c.args.name.now c.args.tally.now _ _ _ c.arrays-arrays.ensures.valid c.requires.tables c.requires.none
    (c.new-sessions.ensures ∙ ap none c.default_settings.ensures) c.start_entry-entry.ensures.value c.in-Ok.ensures.started

pub start-requires : goal.start-requires
start-requires c =
    subst (λ (v : SessionsValue). IsEntryNumber v.tables c.start_entry-entry.result.0) (sym c.new-sessions.ensures) c.start_entry-entry.ensures.exists
