use Rattle.std.proofs.Common.{◌≡◌, ◌-◌, length}
use Rattle.std.specs.Prelude.{IsSome}
use Rattle.rl_types.specs.Limits.{most_input_bytes}
use Rattle.rl_stream.specs.Log.{tables_of}
use Rattle.rl_stream.specs.Reading.{Reading}
use Rattle.rl_stream.proofs.streaming.feed_all.Given as goal

abbrev pub invariant-blocks-2 : goal.invariant-blocks-2
invariant-blocks-2 g l = record {
  size : length l.block ≡ 4096;
  reading : Reading (tables_of l.fn.log) l.fn.settings l.fn.entry.0 (g.I.Source.left l.fn.input) (g.I.Source.left l.input) (g.O.Sink.written l.fn.out) (g.O.Sink.written l.out) l.count l.is_over l.log l.sessions;
  told_input : IsSome (g.I.Source.left l.fn.input) → IsSome (g.I.Source.left l.input);
  told : IsSome (g.O.Sink.written l.fn.out) → IsSome (g.O.Sink.written l.out);
  input_quiet : g.I.Source.faults l.input ≡ g.I.Source.faults l.fn.input;
  output_quiet : g.O.Sink.faults l.out ≡ g.O.Sink.faults l.fn.out;
}

abbrev pub decreases-blocks-2 : goal.decreases-blocks-2
decreases-blocks-2 g l = most_input_bytes - l.count
