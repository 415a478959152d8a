-- What the verdict of a run says of its input: whether it is a word of the entry's expression.
use Rattle.std.specs.Prelude.{◌≡◌, ℕ, ◌+◌, ◌<◌, ◌^◌, Bool, false, true, List, [], ◌∷◌, Option, Some, None, length, if◌then◌else◌, ◌↔◌}
use Rattle.rl_types.specs.declared.numbers.Key.{Key}
use Rattle.rl_types.specs.declared.numbers.Letter.{Letter}
use Rattle.rl_types.specs.Alphabet.{characters, has_rest}
use Rattle.rl_automata.specs.Auto.{holds}
use Rattle.rl_automata.specs.Language.{IsWordOf, has_priority}
use Rattle.rl_run.specs.declared.calls.Answer.{Answer}
use Rattle.rl_run.specs.declared.calls.Answer.TheVariants.{Yes, No}
use Rattle.rl_run.specs.declared.calls.Call.{Call}
use Rattle.rl_run.specs.declared.calls.CallKind.TheVariants.{Ask}
use Rattle.rl_run.specs.declared.calls.Outcome.{Outcome}
use Rattle.rl_run.specs.declared.calls.Outcome.TheVariants.{Stopped}
use Rattle.rl_run.specs.declared.calls.Stop.{Stop as StopCause}
use Rattle.rl_run.specs.declared.calls.Stop.TheVariants.{Stray, HostStop}
use Rattle.rl_run.specs.declared.calls.Verdict.{Verdict}
use Rattle.rl_run.specs.declared.calls.Verdict.TheVariants.{Final, Error}
use Rattle.rl_run.specs.declared.sessions.Settings.{Settings}
use Rattle.rl_run.specs.Machine.{Machine, fresh}
use Rattle.rl_run.specs.Play.{Log, ended, run}
use Rattle.rl_run.specs.Run.{Input, Rest, input_at}
use Rattle.rl_run.specs.Chain.{run_on}
use Rattle.rl_run.specs.Verdict.{verdict_of}
use Rattle.rl_model.specs.Specification.{Specification, Root, Plain, Scanner, statement_at}

-- ---- entries

-- the entry is an expression, and no priority is embedded in it
abbrev pub IsWithoutPriorities : Root → Type 0
IsWithoutPriorities (Plain t) = has_priority t ≡ false
IsWithoutPriorities (Scanner ps) = ⊥

-- the word is one of the entry's expression
abbrev pub IsWordOfEntry : Root → List Letter → Type 0
IsWordOfEntry (Plain t) w = IsWordOf t w
IsWordOfEntry (Scanner ps) w = ⊥

-- no action has a control statement
abbrev pub HasNoStatements : Specification → Type 0
HasNoStatements spec = (action n : ℕ) → statement_at spec.actions action n ≡ None

-- ---- runs

-- the letters of characters from a position on: the key of each, with the conditions that hold at its position
abbrev pub letters_from : (ℕ → Key) → (ℕ → ℕ) → ℕ → List ℕ → List Letter
letters_from key_of truths at [] = []
letters_from key_of truths at (character ∷ characters) =
    record { key = (key_of character).0; truths = truths at } ∷ letters_from key_of truths (at + 1) characters

-- the letters of bytes, by the width of their characters
abbrev pub letters_of : ℕ → (ℕ → Key) → (ℕ → ℕ) → List ℕ → List Letter
letters_of width key_of truths bytes = letters_from key_of truths 0 (characters width bytes)

-- a condition is answered as it holds at the call's position
abbrev pub IsAnsweredBy : (ℕ → ℕ) → Call → Answer → Type 0
IsAnsweredBy truths c x = c.kind ≡ Ask → x ≡ (if holds c.action.0 (truths c.at) then Yes else No)

-- each condition that is called is answered so
abbrev pub AreAnsweredBy : (ℕ → ℕ) → List Call → List Answer → Type 0
AreAnsweredBy truths [] answers = Unit {0}
AreAnsweredBy truths (c ∷ calls) [] = Unit {0}
AreAnsweredBy truths (c ∷ calls) (x ∷ answers) = IsAnsweredBy truths c x × AreAnsweredBy truths calls answers

-- an answer that stops a run: Stop, or one that the call does not take
abbrev pub IsByHost : StopCause → Type 0
IsByHost (Stray x) = Unit {0}
IsByHost HostStop = Unit {0}
IsByHost _ = ⊥

-- the run stopped, for a cause of this sort
abbrev pub IsStoppedBy : (StopCause → Type 0) → Option Outcome → Type 0
IsStoppedBy Sort (Some (Stopped cause)) = Sort cause
IsStoppedBy Sort _ = ⊥

-- an answer stopped the run
abbrev pub IsStoppedByHost : Option Outcome → Type 0
IsStoppedByHost outcome = IsStoppedBy IsByHost outcome

-- bytes as a whole input, by the width of their characters
abbrev pub whole : ℕ → List ℕ → Input
whole width bytes = input_at width 0 bytes true

-- What a verdict tells of an input: it is Final exactly where the input is a word, whole characters all of it, and
-- Error where bytes that fill no character stand at the input's end.
pub record IsTold (verdict : Verdict) (half : Bool) (Word : Type 0) : Type 0 where
  pub word : (verdict ≡ Final) ↔ ((half ≡ false) × Word)
  pub rest : half ≡ true → verdict ≡ Error

-- a run over a whole input, from the entry of this number on: its calls, and where it has come
abbrev pub log_of : {S : Type 0} → Machine S → Settings → ℕ → List ℕ → List Answer → Log (Rest S)
log_of m settings e bytes answers = run (run_on false m settings (whole m.width bytes) (fresh (m.entry e))) answers

-- A run over a whole input, from the entry of this number on, that came to its end and was not stopped by an answer:
-- its verdict is Final exactly where the input is a word of the entry, with the conditions that held at each character.
abbrev pub VerdictsTellWords : {S : Type 0} → Machine S → ℕ → Root → Type 0
VerdictsTellWords {S} m e x =
    (settings : Settings) (bytes : List ℕ) (truths : ℕ → ℕ) (answers : List Answer) (r : Rest S) →
    length bytes < 2 ^ 63 → ((p : ℕ) → truths p < 2 ^ 8) →
    AreAnsweredBy truths (log_of m settings e bytes answers).calls answers →
    (log_of m settings e bytes answers).reached ≡ ended r → ¬ IsStoppedByHost r.outcome →
    IsTold (verdict_of m r) (has_rest m.width bytes) (IsWordOfEntry x (letters_of m.width m.key_of truths bytes))

-- The same where no condition is called: each run that came to its end and was not stopped by an answer tells whether
-- the input is a word, at whose letters no condition holds.
abbrev pub VerdictsTellPlainWords : {S : Type 0} → Machine S → ℕ → Root → Type 0
VerdictsTellPlainWords {S} m e x =
    (settings : Settings) (bytes : List ℕ) (answers : List Answer) (r : Rest S) →
    length bytes < 2 ^ 63 → (log_of m settings e bytes answers).reached ≡ ended r → ¬ IsStoppedByHost r.outcome →
    IsTold (verdict_of m r) (has_rest m.width bytes) (IsWordOfEntry x (letters_of m.width m.key_of (λ p. 0) bytes))
