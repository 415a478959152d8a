-- Reading symbols from the left: a value and the symbols after it, or how many symbols are left at the fault.
use Rattle.std.specs.Prelude.{ℕ, zero, suc, Bool, false, if◌then◌else◌, List, [], ◌∷◌, ◌++◌, length, Option, Some, None, Result, Ok, Err, ◌⊎◌}
use mathlib.Core.Logic.{inl, inr}

-- what a grammar is written in
pub record Symbols : Type 1 where
  -- what is read
  pub Symbol : Type 0
  -- what the grammar sees of a symbol
  pub Seen : Type 0
  -- by which its rules are told apart
  pub Class : Type 0
  pub seen : Symbol → Seen
  pub class_of : Seen → Class

abbrev pub Reader : Type 0 → Type 0 → Type 0
Reader T A = List T → Result (A × List T) ℕ

infixl 10 ◌>>=◌
abbrev pub ◌>>=◌ : {A B : Type 0} → Result A ℕ → (A → Result B ℕ) → Result B ℕ
(Ok x) >>= f = f x
(Err n) >>= f = Err n

-- whether the first symbol passes the test
abbrev pub sees : {T : Type 0} → (T → Bool) → List T → Bool
sees test [] = false
sees test (t ∷ ts) = test t

-- one symbol that passes the test
abbrev pub one : {T A : Type 0} → (T → Bool) → (T → A) → Reader T A
one test get [] = Err 0
one test get (t ∷ ts) = if test t then Ok (get t, ts) else Err (length (t ∷ ts))

-- the first, and behind it the second
abbrev pub both : {T A B : Type 0} → Reader T A → Reader T B → Reader T (A × B)
both p q ts = p ts >>= (λ x. q x.1 >>= (λ y. Ok ((x.0, y.0), y.1)))

-- the same, as another value
abbrev pub made : {T A C : Type 0} → (A → C) → Reader T A → Reader T C
made f p ts = p ts >>= (λ x. Ok (f x.0, x.1))

-- the first where a symbol begins it, else the second
abbrev pub either : {T A B : Type 0} → (T → Bool) → Reader T A → Reader T B → Reader T (A ⊎ B)
either begins p q ts = if sees begins ts then (p ts >>= (λ x. Ok (inl x.0, x.1))) else (q ts >>= (λ x. Ok (inr x.0, x.1)))

-- it where a symbol begins it
abbrev pub optional : {T A : Type 0} → (T → Bool) → Reader T A → Reader T (Option A)
optional begins p ts = if sees begins ts then (p ts >>= (λ x. Ok (Some x.0, x.1))) else Ok (None, ts)

-- it where the first symbol does not pass the test
abbrev pub unless : {T A : Type 0} → (T → Bool) → Reader T A → Reader T A
unless test p ts = if sees test ts then Err (length ts) else p ts

-- More of them, as long as a symbol begins one. The number bounds the turns.
unfoldable pub many_from : {T A : Type 0} → (T → Bool) → Reader T A → ℕ → List A → Reader T (List A)
many_from begins item zero found ts = Ok (found, ts)
many_from begins item (suc n) found ts =
    if sees begins ts then (item ts >>= (λ x. many_from begins item n (found ++ (x.0 ∷ [])) x.1)) else Ok (found, ts)

-- as many as there are: each turn takes a symbol
abbrev pub many : {T A : Type 0} → (T → Bool) → Reader T A → Reader T (List A)
many begins item ts = many_from begins item (length ts) [] ts
