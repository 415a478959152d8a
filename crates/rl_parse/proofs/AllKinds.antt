-- Facts about all kinds of token, and about all classes, by computation.
use Rattle.std.proofs.Common.{◌≡◌, ℕ, zero, suc, Bool, true, false, List, [], ◌∷◌, refl, sym, rules}
use Rattle.std.specs.Prelude.{◌&&◌, ◌||◌, not}
use Rattle.std.proofs.lemmas.Bool.{and_parts, eq-eqb, true≢false}
use denote.Enum.Bare.{same_true}
use denote.Enum.Declared.{tag_of}
use Rattle.rl_grammar.specs.Lexeme.{same_kind}
use Rattle.rl_grammar.specs.contracts.token.TokenKind.{the_type}
use Rattle.rl_grammar.specs.declared.token.TokenKind.{TokenKind}
use Rattle.rl_grammar.specs.declared.token.TokenKind.TheVariants as k
use Rattle.rl_parse.specs.Classes.{Class}

pub kinds_same : (a b : TokenKind) → same_kind a b ≡ true → a ≡ b
unfolding same_kind
kinds_same a b e = same_true the_type (search rules) a b e

pub kind_itself : (a : TokenKind) → same_kind a a ≡ true
unfolding same_kind
kind_itself a = eq-eqb (tag_of the_type a) (tag_of the_type a) refl

abbrev kinds : List TokenKind
kinds = k.Name ∷ k.Integer ∷ k.Literal ∷ k.Set ∷ k.RegularExpression ∷ k.Code ∷ k.Text ∷ k.Mark ∷ k.Machine ∷ k.Include ∷ k.Alphtype ∷ k.Access ∷
    k.Variable ∷ k.Write ∷ k.Action ∷ k.When ∷ k.Reserved ∷ k.Semicolon ∷ k.Equals ∷ k.ColonEquals ∷ k.OpenScanner ∷ k.CloseScanner ∷ k.Arrow ∷
    k.Bar ∷ k.Ampersand ∷ k.Minus ∷ k.DoubleMinus ∷ k.Dot ∷ k.LeftGuard ∷ k.EntryGuard ∷ k.FinishGuard ∷ k.Star ∷ k.DoubleStar ∷ k.Question ∷
    k.Plus ∷ k.OpenBrace ∷ k.CloseBrace ∷ k.Comma ∷ k.Exclamation ∷ k.Caret ∷ k.DotDot ∷ k.OpenParenthesis ∷ k.CloseParenthesis ∷ k.Greater ∷ k.At ∷
    k.Dollar ∷ k.Percent ∷ k.End ∷ []

abbrev all_in : (TokenKind → Bool) → List TokenKind → Bool
all_in f [] = f k.End
all_in f (x ∷ xs) = f x && all_in f xs

abbrev nth : List TokenKind → ℕ → TokenKind
nth [] n = k.End
nth (x ∷ xs) zero = x
nth (x ∷ xs) (suc n) = nth xs n

at : (f : TokenKind → Bool) (xs : List TokenKind) (n : ℕ) → all_in f xs ≡ true → f (nth xs n) ≡ true
at f [] n e = e
at f (x ∷ xs) zero e = (and_parts (f x) (all_in f xs) e).0
at f (x ∷ xs) (suc n) e = at f xs n (and_parts (f x) (all_in f xs) e).1

-- whether a test holds for each kind
abbrev pub all_kinds : (TokenKind → Bool) → Bool
all_kinds f = all_in f kinds

pub every_kind : (f : TokenKind → Bool) → all_kinds f ≡ true → (kind : TokenKind) → f kind ≡ true
every_kind f e k.Name = at f kinds 0 e
every_kind f e k.Integer = at f kinds 1 e
every_kind f e k.Literal = at f kinds 2 e
every_kind f e k.Set = at f kinds 3 e
every_kind f e k.RegularExpression = at f kinds 4 e
every_kind f e k.Code = at f kinds 5 e
every_kind f e k.Text = at f kinds 6 e
every_kind f e k.Mark = at f kinds 7 e
every_kind f e k.Machine = at f kinds 8 e
every_kind f e k.Include = at f kinds 9 e
every_kind f e k.Alphtype = at f kinds 10 e
every_kind f e k.Access = at f kinds 11 e
every_kind f e k.Variable = at f kinds 12 e
every_kind f e k.Write = at f kinds 13 e
every_kind f e k.Action = at f kinds 14 e
every_kind f e k.When = at f kinds 15 e
every_kind f e k.Reserved = at f kinds 16 e
every_kind f e k.Semicolon = at f kinds 17 e
every_kind f e k.Equals = at f kinds 18 e
every_kind f e k.ColonEquals = at f kinds 19 e
every_kind f e k.OpenScanner = at f kinds 20 e
every_kind f e k.CloseScanner = at f kinds 21 e
every_kind f e k.Arrow = at f kinds 22 e
every_kind f e k.Bar = at f kinds 23 e
every_kind f e k.Ampersand = at f kinds 24 e
every_kind f e k.Minus = at f kinds 25 e
every_kind f e k.DoubleMinus = at f kinds 26 e
every_kind f e k.Dot = at f kinds 27 e
every_kind f e k.LeftGuard = at f kinds 28 e
every_kind f e k.EntryGuard = at f kinds 29 e
every_kind f e k.FinishGuard = at f kinds 30 e
every_kind f e k.Star = at f kinds 31 e
every_kind f e k.DoubleStar = at f kinds 32 e
every_kind f e k.Question = at f kinds 33 e
every_kind f e k.Plus = at f kinds 34 e
every_kind f e k.OpenBrace = at f kinds 35 e
every_kind f e k.CloseBrace = at f kinds 36 e
every_kind f e k.Comma = at f kinds 37 e
every_kind f e k.Exclamation = at f kinds 38 e
every_kind f e k.Caret = at f kinds 39 e
every_kind f e k.DotDot = at f kinds 40 e
every_kind f e k.OpenParenthesis = at f kinds 41 e
every_kind f e k.CloseParenthesis = at f kinds 42 e
every_kind f e k.Greater = at f kinds 43 e
every_kind f e k.At = at f kinds 44 e
every_kind f e k.Dollar = at f kinds 45 e
every_kind f e k.Percent = at f kinds 46 e
every_kind f e k.End = at f kinds 47 e

-- whether a test holds for each class
abbrev at_kind : (Class → Bool) → TokenKind → Bool
at_kind f kind =
    f (record { kind = kind; unsigned = true; key = true }) && f (record { kind = kind; unsigned = true; key = false })
    && f (record { kind = kind; unsigned = false; key = true }) && f (record { kind = kind; unsigned = false; key = false })

abbrev pub all_classes : (Class → Bool) → Bool
all_classes f = all_kinds (at_kind f)

four : (a b c d : Bool) → (a && b && c && d) ≡ true → (a ≡ true) × (b ≡ true) × (c ≡ true) × (d ≡ true)
four true true true true e = (refl, refl, refl, refl)
four true true true false e = absurd (true≢false (sym e))
four true true false d e = absurd (true≢false (sym e))
four true false c d e = absurd (true≢false (sym e))
four false b c d e = absurd (true≢false (sym e))

pick : (f : Class → Bool) (kind : TokenKind) (unsigned key : Bool) → at_kind f kind ≡ true → f (record { kind = kind; unsigned = unsigned; key = key }) ≡ true
pick f kind true true e = (four (f (record { kind = kind; unsigned = true; key = true })) (f (record { kind = kind; unsigned = true; key = false })) (f (record { kind = kind; unsigned = false; key = true })) (f (record { kind = kind; unsigned = false; key = false })) e).0
pick f kind true false e = (four (f (record { kind = kind; unsigned = true; key = true })) (f (record { kind = kind; unsigned = true; key = false })) (f (record { kind = kind; unsigned = false; key = true })) (f (record { kind = kind; unsigned = false; key = false })) e).1
pick f kind false true e = (four (f (record { kind = kind; unsigned = true; key = true })) (f (record { kind = kind; unsigned = true; key = false })) (f (record { kind = kind; unsigned = false; key = true })) (f (record { kind = kind; unsigned = false; key = false })) e).2
pick f kind false false e = (four (f (record { kind = kind; unsigned = true; key = true })) (f (record { kind = kind; unsigned = true; key = false })) (f (record { kind = kind; unsigned = false; key = true })) (f (record { kind = kind; unsigned = false; key = false })) e).3

pub every_class : (f : Class → Bool) → all_classes f ≡ true → (c : Class) → f c ≡ true
every_class f e c = pick f c.kind c.unsigned c.key (every_kind (at_kind f) e c.kind)

abbrev pub implies : {X : Type 0} → (X → Bool) → (X → Bool) → X → Bool
implies f g x = not (f x) || g x

abbrev pub excludes : {X : Type 0} → (X → Bool) → (X → Bool) → X → Bool
excludes f g x = not (f x && g x)

then : (a b : Bool) → (not a || b) ≡ true → a ≡ true → b ≡ true
then true b e h = e
then false b e h = cc

but : (a b : Bool) → not (a && b) ≡ true → a ≡ true → b ≡ false
but true true e h = cc
but true false e h = refl
but false b e h = cc

pub implied : (f g : Class → Bool) → all_classes (implies f g) ≡ true → (c : Class) → f c ≡ true → g c ≡ true
implied f g e c = then (f c) (g c) (every_class (implies f g) e c)

pub excluded : (f g : Class → Bool) → all_classes (excludes f g) ≡ true → (c : Class) → f c ≡ true → g c ≡ false
excluded f g e c = but (f c) (g c) (every_class (excludes f g) e c)

pub kind_implied : (f g : TokenKind → Bool) → all_kinds (implies f g) ≡ true → (kind : TokenKind) → f kind ≡ true → g kind ≡ true
kind_implied f g e kind = then (f kind) (g kind) (every_kind (implies f g) e kind)
