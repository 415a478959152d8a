-- The kind of a text by its first byte.
use Rattle.std.proofs.Common.{◌≡◌, ℕ, zero, suc, true, false, cond, List, [], ◌∷◌, length, Some, None, refl, ap, ◌∙◌, arith}
use Rattle.std.specs.List.{list_all}
use Rattle.rl_grammar.specs.declared.token.TokenKind.{TokenKind}
use Rattle.rl_grammar.specs.declared.token.TokenKind.TheVariants as k
use Rattle.rl_arrays.specs.Names.{is_letter, is_digit}
use Rattle.rl_lexical.specs.declared.context.Context.{Context}
use Rattle.rl_lexical.specs.declared.mode.Mode.{Mode}
use Rattle.rl_lexical.specs.Bytes.{in_word}
use Rattle.rl_lexical.specs.Fronts.{kind_of, piece_or_sign, opened}
use Rattle.rl_lexical.specs.Modes.{mode_after, is_read}
use Rattle.rl_lexical.specs.Signs.{sign_before}
use Rattle.rl_lexical.specs.Words.{word_kind, is_integer}
use Rattle.rl_lex.specs.Longest.{NoToken}

pub no_text : (context : Context) (rest : List ℕ) → kind_of context rest [] ≡ None
unfolding kind_of
no_text context rest = refl

pub letter_kind : (context : Context) (rest : List ℕ) (b : ℕ) (bs : List ℕ) → is_letter b ≡ true
    → kind_of context rest (b ∷ bs) ≡ cond (list_all in_word bs) (Some (word_kind (b ∷ bs))) None
unfolding kind_of
letter_kind context rest b bs h = rw h refl

pub digit_kind : (context : Context) (rest : List ℕ) (b : ℕ) (bs : List ℕ) → is_letter b ≡ false → is_digit b ≡ true
    → kind_of context rest (b ∷ bs) ≡ cond (is_integer (b ∷ bs)) (Some k.Integer) None
unfolding kind_of
digit_kind context rest b bs miss h = rw miss (rw h refl)

other_kind : (context : Context) (rest : List ℕ) (b : ℕ) (bs : List ℕ) → is_letter b ≡ false → is_digit b ≡ false
    → kind_of context rest (b ∷ bs) ≡ piece_or_sign (opened context b) context.in_scanner rest b bs
unfolding kind_of
other_kind context rest b bs miss h = rw miss (rw h refl)

pub piece_kind : (context : Context) (rest : List ℕ) (b : ℕ) (bs : List ℕ) (kind : TokenKind) (mode : Mode) → is_letter b ≡ false → is_digit b ≡ false
    → opened context b ≡ Some (kind, mode) → kind_of context rest (b ∷ bs) ≡ cond (is_read (mode_after mode bs)) (Some kind) None
piece_kind context rest b bs kind mode miss h e = other_kind context rest b bs miss h ∙ ap (λ z. piece_or_sign z context.in_scanner rest b bs) e

pub sign_kind : (context : Context) (rest : List ℕ) (b : ℕ) (bs : List ℕ) → is_letter b ≡ false → is_digit b ≡ false → opened context b ≡ None
    → kind_of context rest (b ∷ bs) ≡ sign_before context.in_scanner rest (b ∷ bs)
sign_kind context rest b bs miss h e = other_kind context rest b bs miss h ∙ ap (λ z. piece_or_sign z context.in_scanner rest b bs) e

pub nothing_left : (context : Context) → NoToken context []
nothing_left context zero l = no_text context []
nothing_left context (suc m) l = no_text context []

pub empty_text : (text : List ℕ) → length text ≡ 0 → text ≡ []
empty_text [] e = refl
empty_text (b ∷ bs) e = absurd (omega arith)
