-- What a function that reads gives: the value and the tokens behind it that a reader gives, or its fault.
use Rattle.std.specs.Prelude.{◌≡◌, ℕ, Result, Ok, Err}
use Rattle.rl_readers.specs.Readers as r
use Rattle.rl_grammar.specs.declared.token.Token.{Token}
use Rattle.rl_parse.specs.declared.stop.Stop.{Stop}
use Rattle.rl_parse.specs.declared.stop.Stop.TheVariants as stop

-- a reader of tokens
abbrev pub Reader : Type 0 → Type 0
Reader A = r.Reader Token A

abbrev pub Fails : {Y : Type 0} → Stop → Result Y ℕ → Type 0
Fails stop.Memory read = Unit {0}
Fails (stop.At left) read = read ≡ Err left

-- What a function returned, seen by view, is what reading gives, unless memory ran out.
abbrev pub Gives : {X Y : Type 0} → (X → Y) → Result X Stop → Result Y ℕ → Type 0
Gives view (Ok x) read = read ≡ Ok (view x)
Gives view (Err e) read = Fails e read
