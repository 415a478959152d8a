use Rattle.std.proofs.Common.{refl}
use Rattle.rl_minimal.proofs.sound.is_minimal.Goals as goal

pub returns : goal.returns
returns c = (
  λ t. record {
    counts = c.if-not-are_counts.ensures.0 refl;
    error = c.if-not-begins_with_error.ensures.0 refl;
    states = c.if-not-are_states.ensures.0 refl;
    entries = c.are_entries.ensures.0 t;
  },
  λ m. c.are_entries.ensures.1 m.entries,
)
