use Rattle.std.proofs.Common.{◌≡◌, ◌-◌}
use Rattle.rl_readers.specs.Readers.{many_from}
use Rattle.rl_parse.specs.Rules.{by_kind, embeddings, one_embedding, begins_embedding}
use Rattle.rl_parse.proofs.parts.embeddings.Given as goal

abbrev pub invariant-loop-turn : goal.invariant-loop-turn
invariant-loop-turn l = embeddings l.fn.tokens ≡ many_from (by_kind begins_embedding) one_embedding (l._turn-end - l._turn) l.found l.rest
