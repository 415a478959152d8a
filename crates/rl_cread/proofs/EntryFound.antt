-- Whether a line is that of an entry.
use Rattle.std.proofs.Common.{◌≡◌, ℕ, List, Bool, Option, Some, None, sym, subst, refl}
use Rattle.std.specs.Prelude.{IsTrue, ℤ, ◌↔◌, Result, IfOk, MatchOption, IsSomeAnd, is_some}
use Rattle.rl_arrays.specs.Names.{is_name}
use Rattle.rl_arrays.specs.Section.{entry_line}
use Rattle.rl_cread.specs.Contents.{IsPrintedNumber}
use Rattle.rl_cread.specs.Lines.{IsEntryLine}

entry_some : (name line : List ℕ) (o : Option (List ℕ × ℤ))
    → MatchOption o ((word : List ℕ) (n : ℤ) → IsTrue (is_name word) → IsPrintedNumber n → line ≡ entry_line name (word, n) → ⊥) (λ e. IsTrue (is_name e.0) × IsPrintedNumber e.1 × (line ≡ entry_line name e))
    → IsTrue (is_some o) ↔ IsEntryLine name line
entry_some name line None h = (λ t. absurd cc, λ e. absurd (h e.word e.number e.fits.0 e.fits.1 e.is))
entry_some name line (Some x) h = (λ t. record { word = x.0; number = x.1; fits = (h.0, h.1); is = h.2 }, λ e. refl)

pub entry_found : (name line : List ℕ) (o : Option (List ℕ × ℤ)) (yes : Bool) → yes ≡ is_some o
    → MatchOption o ((word : List ℕ) (n : ℤ) → IsTrue (is_name word) → IsPrintedNumber n → line ≡ entry_line name (word, n) → ⊥) (λ e. IsTrue (is_name e.0) × IsPrintedNumber e.1 × (line ≡ entry_line name e))
    → IsTrue yes ↔ IsEntryLine name line
entry_found name line o found e h = subst (λ b. IsTrue b ↔ IsEntryLine name line) (sym e) (entry_some name line o h)

pub at_result : {E : Type 0} (P : List ℕ → Type 0) (o : Option (List ℕ)) (line : List ℕ) (r : Result Bool E) → o ≡ Some line
    → IfOk r (λ yes. IsTrue yes ↔ P line) → IfOk r (λ yes. IsTrue yes ↔ IsSomeAnd o P)
at_result P o line r e h = subst (λ q. IfOk r (λ yes. IsTrue yes ↔ IsSomeAnd q P)) (sym e) h
