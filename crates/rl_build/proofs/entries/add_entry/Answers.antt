use Rattle.rl_build.proofs.EntryLaws.{some_place, node_placed, entry_told}
use Rattle.rl_build.proofs.entries.add_entry.Goals as goal

pub put_behind-requires-clause-places : goal.put_behind-requires-clause-places
put_behind-requires-clause-places c = rw c.as_slice.ensures (some_place c.args.entry.now c.requires.ready)

pub refusal-requires-clause-node : goal.refusal-requires-clause-node
refusal-requires-clause-node c = node_placed c.args.alphabet c.args.entry.now c.in-Err.refused c.requires.ready c.in-Err.ensures

pub returns-in-Err : goal.returns-in-Err
returns-in-Err c = entry_told c.args.alphabet c.args.entry.now c.in-Err.refused c.refusal.result c.in-Err.ensures c.refusal.ensures.fault c.refusal.ensures.place
