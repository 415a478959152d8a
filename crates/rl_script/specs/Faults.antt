-- Why there is no script, or why tables do not admit one: the fault that is due, or want of memory, which has no cause.
use Rattle.std.specs.Prelude.{◌≡◌, Option, Some, Result, Err}
use Rattle.rl_replay.specs.declared.script.ScriptFault.{ScriptFault}
use Rattle.rl_replay.specs.declared.script.ScriptFault.TheVariants.{BadLine, Twice, NoSession, NoEntry, NoName, Full, Memory}

-- of what a text says: only a bad line is a fault of its own
abbrev pub IsFaultOf : {A : Type 0} → Result A ScriptFault → ScriptFault → Type 0
IsFaultOf due (BadLine n) = due ≡ Err (BadLine n)
IsFaultOf due Memory = Unit {0}
IsFaultOf due (Twice n) = ⊥
IsFaultOf due (NoSession n) = ⊥
IsFaultOf due (NoEntry n) = ⊥
IsFaultOf due (NoName n) = ⊥
IsFaultOf due (Full n) = ⊥

-- of lines: each fault but the want of memory is the one that is due
abbrev pub IsDue : Option ScriptFault → ScriptFault → Type 0
IsDue due (BadLine n) = due ≡ Some (BadLine n)
IsDue due (Twice n) = due ≡ Some (Twice n)
IsDue due (NoSession n) = due ≡ Some (NoSession n)
IsDue due (NoEntry n) = due ≡ Some (NoEntry n)
IsDue due (NoName n) = due ≡ Some (NoName n)
IsDue due (Full n) = due ≡ Some (Full n)
IsDue due Memory = Unit {0}
