use Rattle.std.proofs.Common.{◌<◌, length, sym}
use Rattle.std.proofs.lemmas.Result.{err_from_is_err_and}
use Rattle.rl_build.proofs.EntryLaws.{next_built, next_refused, room_for, all_places}
use Rattle.rl_build.proofs.entries.machines.Goals as goal

pub add_entry-requires-clause-room : goal.add_entry-requires-clause-room
add_entry-requires-clause-room c =
    room_for c.args.spec.now.alphabet c.args.spec.now.entries c.loop-entry.entry-index c.loop-entry.root (rw c.as_slice-entry-items.ensures at c.loop-entry-test.true) c.requires.few c.loop-entry.invariant

pub returns-in_err-add_entry : goal.returns-in_err-add_entry
returns-in_err-add_entry c =
    let p = err_from_is_err_and c.from_residual.result c.from_residual.ensures.1 in
    let lt : c.loop-entry.entry-index < length c.args.spec.now.entries = rw c.as_slice-entry-items.ensures at c.loop-entry-test.true in
    rw (p.1, p.2) (next_refused c.args.spec.now.alphabet c.args.spec.now.entries c.loop-entry.entry-index c.entry-item.result c.loop-entry.root lt (sym (rw c.as_slice-entry-items.ensures at c.entry-item.is)) c.loop-entry.invariant
    (all_places c.args.spec.now.entries c.requires.ready) c.in_err-add_entry.field-0.0 c.in_err-add_entry.ensures)

pub loop-entry-preserved : goal.loop-entry-preserved
loop-entry-preserved c =
    let lt : c.loop-entry.entry-index < length c.args.spec.now.entries = rw c.as_slice-entry-items.ensures at c.loop-entry-test.true in
    next_built c.args.spec.now.alphabet c.args.spec.now.entries c.loop-entry.entry-index c.entry-item.result c.loop-entry.root c.add_entry.new.root lt (sym (rw c.as_slice-entry-items.ensures at c.entry-item.is)) c.loop-entry.invariant c.in_ok-add_entry.ensures
