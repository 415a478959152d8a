use Rattle.std.proofs.Common.{ap, sym, Some, ◌∙◌}
use Rattle.rl_replay.specs.Sessions.{entry_or_start}
use Rattle.rl_script.specs.TableNames.{names_in}
use Rattle.rl_playback.proofs.Entries.{starts, entry_is, no_entry}
use Rattle.rl_playback.proofs.deeds.entry_for.Goals as goal

pub returns-in-Some-entry_named-clause-value : goal.returns-in-Some-entry_named-clause-value
returns-in-Some-entry_named-clause-value c =
    entry_is c.args.tables.now c.requires.valid (Some c.in-Some-entry_named.entry) c.args.entry.now c.in-Some.name c.bytes.result.now c.in-Some.is c.bytes.ensures
    c.in-Some-entry_named.ensures.found c.in-Some-entry_named.ensures.exists

pub unreachable-requires : goal.unreachable-requires
unreachable-requires c =
    c.requires.exists (no_entry c.args.tables.now c.args.entry.now c.in-Some.name c.bytes.result.now c.in-Some.is c.bytes.ensures c.in-None-entry_named.ensures.none)

pub returns-in-None-clause-value : goal.returns-in-None-clause-value
returns-in-None-clause-value c =
    c.start_entry.ensures.value ∙ starts c.args.tables.now c.requires.valid ∙ sym (ap (λ o. entry_or_start (names_in c.args.tables.now) o) c.in-None.is)
