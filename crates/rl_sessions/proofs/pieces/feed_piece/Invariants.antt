use Rattle.std.proofs.Common.{◌≡◌, ◌++◌, None, length}
use Rattle.rl_arrays.specs.TableMachine.{machine}
use Rattle.rl_sessions.proofs.Parts.{Along}
use Rattle.rl_sessions.proofs.pieces.feed_piece.Given as goal

abbrev pub invariant-pieces : goal.invariant-pieces
invariant-pieces g l =
    goal.H-IsAlwaysCallable g l.host
    × (l.runner.over ≡ None)
    × (l.runner.tables ≡ l.fn.runner.tables)
    × (l.runner.settings ≡ l.fn.runner.settings)
    × Along (goal.H-step g) (machine l.fn.runner.tables) l.fn.runner.settings l.fn.window.base (l.fn.window.bytes ++ l.fn.piece) l.fn.host l.fn.runner.session l.host l.runner.session l.window l.rest

abbrev pub decreases-pieces : goal.decreases-pieces
decreases-pieces g l = length l.rest
