use Rattle.std.proofs.Common.{arith, [], refl}
use Rattle.std.proofs.lemmas.Grind.{common_steps}
use Rattle.rl_io.proofs.mem_sink.MemSinkSink.write_all.Goals.{in-Ok, in-Err}
use Rattle.rl_io.proofs.mem_sink.MemSinkSink.write_all.Goals as goal

pub returns-clause-prefix : goal.returns-clause-prefix
returns-clause-prefix c =
    elim c.match-extend_from_slice.branch [
      | in-Ok w ↦ rw w.result-is tt
      | in-Err w ↦ rw w.result-is ([], c.args.piece.now, refl, grind (arith, common_steps))
    ]
