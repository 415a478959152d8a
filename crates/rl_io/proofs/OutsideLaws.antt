-- How what two calls do comes together.
use Rattle.std.proofs.Common.{ℕ, ◌≤◌, List, [], ◌++◌, Option, Some, None, refl, sym, ap, ◌∙◌, subst, arith, append_assoc, append-nil}
use Rattle.std.specs.Str.{IsUtf8}
use Rattle.rl_io.specs.Outside.{Held, Rose, Lacks, HoldsTextNames, Appends, AppendsPrefix}

-- a count that rose has risen after more calls
pub Rose-later : (before mid now : ℕ) → Rose before mid → mid ≤ now → Rose before now
Rose-later before mid now rose later = omega (arith, rose, later)

-- a count that rose late has risen since earlier
pub Rose-earlier : (before mid now : ℕ) → before ≤ mid → Rose mid now → Rose before now
Rose-earlier before mid now earlier rose = omega (arith, rose, earlier)

-- a name that is no text is absent
pub Lacks-no_text : (held : Held) (name : List ℕ) → HoldsTextNames held → ¬ (IsUtf8 name) → Lacks held name
Lacks-no_text None name texts no_text = tt
Lacks-no_text (Some held) name texts no_text = texts name no_text

-- two pieces in order are one
pub Appends-append : (old mid new : Option (List ℕ)) (first second : List ℕ) → Appends old mid first → Appends mid new second → Appends old new (first ++ second)
Appends-append None mid new first second one two = tt
Appends-append (Some before) mid new first second one two =
    subst (λ (m : Option (List ℕ)). Appends m new second) one two ∙ ap Some (append_assoc before first second)

-- nothing is a prefix of each piece
pub AppendsPrefix-none : (old : Option (List ℕ)) (piece : List ℕ) → AppendsPrefix old old piece
AppendsPrefix-none None piece = tt
AppendsPrefix-none (Some before) piece = ([], piece, refl, ap Some (sym (append-nil before)))

-- a whole piece is a prefix of what goes on with it
pub AppendsPrefix-whole : (old new : Option (List ℕ)) (piece rest : List ℕ) → Appends old new piece → AppendsPrefix old new (piece ++ rest)
AppendsPrefix-whole None new piece rest whole = tt
AppendsPrefix-whole (Some before) new piece rest whole = (piece, rest, refl, whole)

-- a prefix of a piece is a prefix of what goes on with it
pub AppendsPrefix-longer : (old new : Option (List ℕ)) (piece rest : List ℕ) → AppendsPrefix old new piece → AppendsPrefix old new (piece ++ rest)
AppendsPrefix-longer None new piece rest part = tt
AppendsPrefix-longer (Some before) new piece rest part =
    (part.0, part.1 ++ rest, sym (append_assoc part.0 part.1 rest) ∙ ap (λ p. p ++ rest) part.2, part.3)

-- a piece and a prefix of the next are a prefix of both
pub AppendsPrefix-append : (old mid new : Option (List ℕ)) (first second : List ℕ) → Appends old mid first → AppendsPrefix mid new second →
    AppendsPrefix old new (first ++ second)
AppendsPrefix-append None mid new first second one two = tt
AppendsPrefix-append (Some before) mid new first second one two =
    let part = subst (λ (m : Option (List ℕ)). AppendsPrefix m new second) one two in
    (first ++ part.0, part.1, append_assoc first part.0 part.1 ∙ ap (λ p. first ++ p) part.2, part.3 ∙ ap Some (append_assoc before first part.0))
