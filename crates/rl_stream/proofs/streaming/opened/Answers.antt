use Rattle.std.proofs.Common.{sym, subst}
use Rattle.rl_sessions.specs.SessionsValue.{SessionsValue}
use Rattle.rl_tables.specs.Steps.{IsEntryNumber}
use Rattle.rl_stream.proofs.Steps.{stands_named}
use Rattle.rl_stream.proofs.streaming.opened.Goals as goal

pub start-requires : goal.start-requires
start-requires c =
    subst (λ (v : SessionsValue). IsEntryNumber v.tables c.args.entry.0) (sym c.new-sessions.ensures) c.requires.exists

pub returns-in-Ok-clause-stands : goal.returns-in-Ok-clause-stands
returns-in-Ok-clause-stands c =
    stands_named c.args.tables.now c.args.settings c.args.entry.0 c.args.log.now _ _ c.session_name.result.now c.session_name.ensures c.requires.valid c.requires.tables
    c.requires.empty c.new-sessions.ensures c.in-Ok.ensures.started
