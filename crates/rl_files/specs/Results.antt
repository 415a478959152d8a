-- Values that are read one after another, up to the first fault.
use Rattle.std.specs.Prelude.{Result, Ok, Err}

-- what is read on from a value; a fault stays
abbrev pub and_then : {E A B : Type 0} → Result A E → (A → Result B E) → Result B E
and_then (Err e) next = Err e
and_then (Ok x) next = next x
