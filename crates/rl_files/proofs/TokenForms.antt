-- What the kind of a token says of its text: integers are numbers, names are names, and no text is an end.
use Rattle.std.proofs.Common.{◌≡◌, ℕ, zero, suc, ◌-◌, ◌^◌, ◌<◌, Bool, true, false, cond, List, [], ◌∷◌, length, take, drop, Option, Some, None, Result, Ok, Err, ◌⊎◌, inl, inr, refl, sym, ap, ◌∙◌, subst, arith}
use Rattle.std.specs.Prelude.{◌&&◌, ◌||◌, ◌==◌, not, nat_le}
use Rattle.std.specs.List.{list_all, list_any, prefix_len, suffix_len}
use Rattle.std.specs.Str.{bytes_eq}
use Rattle.std.specs.Str.Parse.{digits_value}
use Rattle.std.proofs.lemmas.Bool.{cases_Bool, and_parts, or_cases, false≢true, eqb-true}
use Rattle.std.proofs.lemmas.Bool.Decides.{nat_tests}
use Rattle.rl_types.specs.declared.faults.FaultKind.{FaultKind}
use Rattle.rl_grammar.specs.Lexeme.{same_kind}
use Rattle.rl_grammar.specs.Literals.{number}
use Rattle.rl_grammar.specs.declared.token.Token.{Token}
use Rattle.rl_grammar.specs.declared.token.TokenKind.{TokenKind}
use Rattle.rl_grammar.specs.declared.token.TokenKind.TheVariants as k
use Rattle.rl_arrays.specs.Names.{is_letter, is_digit, is_name, reserved}
use Rattle.rl_lexical.specs.declared.context.Context.{Context}
use Rattle.rl_lexical.specs.declared.mode.Mode.{Mode}
use Rattle.rl_lexical.specs.declared.mode.Mode.TheVariants as m
use Rattle.rl_lexical.specs.declared.position.Position.{Position}
use Rattle.rl_lexical.specs.Bytes.{double_quote, quote, slash, open_bracket, open_brace, in_text, in_word, is_blank, is_hex_digit}
use Rattle.rl_lexical.specs.Contexts.{is_code, is_text}
use Rattle.rl_lexical.specs.Forms.{fault_of}
use Rattle.rl_lexical.specs.Fronts.{opened, piece_or_sign, kind_of, front_kind, longest_within, text_in_front, token_in_front}
use Rattle.rl_lexical.specs.Modes.{mode_after, is_read}
use Rattle.rl_lexical.specs.Signs.{named, statement_signs, binary_signs, unary_signs, scanner_signs, or_else, sign_of, sign_before, is_mark_before}
use Rattle.rl_lexical.specs.Tokens.{checked, token_at}
use Rattle.rl_lexical.specs.Words.{keywords, word_kind, is_hexadecimal, is_decimal, is_integer, integer_value, fits}

-- ---- what is there, or is not

pub option_cases : {A : Type 0} (o : Option A) → ((x : A) × (o ≡ Some x)) ⊎ (o ≡ None)
option_cases (Some x) = inl (x, refl)
option_cases None = inr refl

pub result_cases : {A E : Type 0} (r : Result A E) → ((x : A) × (r ≡ Ok x)) ⊎ ((e : E) × (r ≡ Err e))
result_cases (Ok x) = inl (x, refl)
result_cases (Err e) = inr (e, refl)

pub same_some : {A : Type 0} (x y : A) → Some x ≡ Some y → x ≡ y
same_some x y e = cc

pub none_some : {A : Type 0} (x : A) → None ≡ Some x → ⊥
none_some x e = cc

pub same_ok : {A E : Type 0} (x y : A) → ◌≡◌ {A = Result A E} (Ok x) (Ok y) → x ≡ y
same_ok x y e = cc

pub err_ok : {A E : Type 0} (e : E) (x : A) → ◌≡◌ {A = Result A E} (Err e) (Ok x) → ⊥
err_ok e x h = cc

-- ---- kinds

-- a kind that says nothing of its text
abbrev is_plain : TokenKind → Bool
is_plain k.End = false
is_plain k.Integer = false
is_plain k.Name = false
is_plain _ = true

pub not_end : (kind : TokenKind) → (kind ≡ k.End → ⊥) → same_kind kind k.End ≡ false
unfolding same_kind
not_end k.Name n = refl
not_end k.Integer n = refl
not_end k.Literal n = refl
not_end k.Set n = refl
not_end k.RegularExpression n = refl
not_end k.Code n = refl
not_end k.Text n = refl
not_end k.Mark n = refl
not_end k.Machine n = refl
not_end k.Include n = refl
not_end k.Alphtype n = refl
not_end k.Access n = refl
not_end k.Variable n = refl
not_end k.Write n = refl
not_end k.Action n = refl
not_end k.When n = refl
not_end k.Reserved n = refl
not_end k.Semicolon n = refl
not_end k.Equals n = refl
not_end k.ColonEquals n = refl
not_end k.OpenScanner n = refl
not_end k.CloseScanner n = refl
not_end k.Arrow n = refl
not_end k.Bar n = refl
not_end k.Ampersand n = refl
not_end k.Minus n = refl
not_end k.DoubleMinus n = refl
not_end k.Dot n = refl
not_end k.LeftGuard n = refl
not_end k.EntryGuard n = refl
not_end k.FinishGuard n = refl
not_end k.Star n = refl
not_end k.DoubleStar n = refl
not_end k.Question n = refl
not_end k.Plus n = refl
not_end k.OpenBrace n = refl
not_end k.CloseBrace n = refl
not_end k.Comma n = refl
not_end k.Exclamation n = refl
not_end k.Caret n = refl
not_end k.DotDot n = refl
not_end k.OpenParenthesis n = refl
not_end k.CloseParenthesis n = refl
not_end k.Greater n = refl
not_end k.At n = refl
not_end k.Dollar n = refl
not_end k.Percent n = refl
not_end k.End n = absurd (n refl)

-- what a kind says of a text
pub record IsKindOf (kind : TokenKind) (text : List ℕ) : Type 0 where
  pub no_end : kind ≡ k.End → ⊥
  pub integer : kind ≡ k.Integer → is_integer text ≡ true
  pub name : kind ≡ k.Name → is_name text ≡ true

plain_kind_of : (kind : TokenKind) (text : List ℕ) → is_plain kind ≡ true → IsKindOf kind text
plain_kind_of kind text h = record {
  no_end = λ e. false≢true (sym (ap is_plain e) ∙ h);
  integer = λ e. absurd (false≢true (sym (ap is_plain e) ∙ h));
  name = λ e. absurd (false≢true (sym (ap is_plain e) ∙ h));
}

-- every kind that may be found is plain
abbrev AllPlain : Option TokenKind → Type 0
AllPlain o = (kind : TokenKind) → o ≡ Some kind → is_plain kind ≡ true

one_plain : (kind : TokenKind) → is_plain kind ≡ true → AllPlain (Some kind)
one_plain kind h other e = subst (λ z. is_plain z ≡ true) (same_some kind other e) h

none_plain : AllPlain None
none_plain kind e = absurd (none_some kind e)

or_plain : (a b : Option TokenKind) → AllPlain a → AllPlain b → AllPlain (or_else a b)
or_plain (Some x) b p q = p
or_plain None b p q = q

if_plain : (c : Bool) (a b : Option TokenKind) → AllPlain a → AllPlain b → AllPlain (cond c a b)
if_plain true a b p q = p
if_plain false a b p q = q

abbrev all_plain : List (List ℕ × TokenKind) → Bool
all_plain table = list_all (λ e. is_plain e.1) table

named_plain : (table : List (List ℕ × TokenKind)) (text : List ℕ) → all_plain table ≡ true → AllPlain (named table text)
named_plain [] text h = none_plain
named_plain (x ∷ xs) text h =
    let hs = and_parts (is_plain x.1) (all_plain xs) h in
    if_plain (bytes_eq text x.0) (Some x.1) (named xs text) (one_plain x.1 hs.0) (named_plain xs text hs.1)

scanner_plain : (in_scanner : Bool) (text : List ℕ) → AllPlain (named (scanner_signs in_scanner) text)
scanner_plain true text = named_plain (scanner_signs true) text refl
scanner_plain false text = none_plain

sign_plain : (in_scanner : Bool) (text : List ℕ) → AllPlain (sign_of in_scanner text)
sign_plain in_scanner text =
    or_plain (named (scanner_signs in_scanner) text) (or_else (named statement_signs text) (or_else (named binary_signs text) (named unary_signs text))) (scanner_plain in_scanner text)
    (or_plain (named statement_signs text) (or_else (named binary_signs text) (named unary_signs text)) (named_plain statement_signs text refl)
    (or_plain (named binary_signs text) (named unary_signs text) (named_plain binary_signs text refl) (named_plain unary_signs text refl)))

before_plain : (in_scanner : Bool) (rest text : List ℕ) → AllPlain (sign_before in_scanner rest text)
before_plain in_scanner rest text = if_plain (is_mark_before rest text) (Some k.Mark) (sign_of in_scanner text) (one_plain k.Mark refl) (sign_plain in_scanner text)

-- ---- pieces

abbrev AllOpen : Option (TokenKind × Mode) → Type 0
AllOpen o = (x : TokenKind × Mode) → o ≡ Some x → is_plain x.0 ≡ true

if_open : (c : Bool) (x : TokenKind × Mode) (o : Option (TokenKind × Mode)) → is_plain x.0 ≡ true → AllOpen o → AllOpen (cond c (Some x) o)
if_open true x o p q y e = subst (λ z. is_plain z.0 ≡ true) (same_some x y e) p
if_open false x o p q y e = q y e

no_open : AllOpen None
no_open x e = absurd (none_some x e)

opened_plain : (context : Context) (b : ℕ) → AllOpen (opened context b)
opened_plain context b =
    let code : Option (TokenKind × Mode) = cond (b == open_brace && is_code context.expected) (Some (k.Code, m.Code 0)) None in
    let regular : Option (TokenKind × Mode) = cond (b == slash) (Some (k.RegularExpression, m.Regular)) code in
    let set : Option (TokenKind × Mode) = cond (b == open_bracket) (Some (k.Set, m.Set)) regular in
    if_open (b == quote || b == double_quote) (k.Literal, m.Literal b) set refl
    (if_open (b == open_bracket) (k.Set, m.Set) regular refl
    (if_open (b == slash) (k.RegularExpression, m.Regular) code refl
    (if_open (b == open_brace && is_code context.expected) (k.Code, m.Code 0) None refl no_open)))

-- ---- words and integers

plain_word : (text : List ℕ) (kind : TokenKind) → named keywords text ≡ Some kind → word_kind text ≡ kind
plain_word text kind h = rw h refl

word_is : (b : ℕ) (bs : List ℕ) → is_letter b ≡ true → list_all in_word bs ≡ true → IsKindOf (word_kind (b ∷ bs)) (b ∷ bs)
word_is b bs letter all = elim (option_cases (named keywords (b ∷ bs))) [
  | inl found ↦
      let kind = found.0 in
      let plain : is_plain kind ≡ true = named_plain keywords (b ∷ bs) refl kind found.1 in
      subst (λ z. IsKindOf z (b ∷ bs)) (sym (plain_word (b ∷ bs) kind found.1)) (plain_kind_of kind (b ∷ bs) plain)
  | inr none ↦ elim (cases_Bool (list_any (bytes_eq (b ∷ bs)) reserved)) [
    | inl hit ↦ rw (none, hit) (plain_kind_of k.Reserved (b ∷ bs) refl)
    | inr miss ↦ rw (none, miss) (record {
      no_end = λ e. cc;
      integer = λ e. absurd cc;
      name = λ e. named_word b bs letter all miss;
    })
  ]
]
  where
    named_word : (b : ℕ) (bs : List ℕ) → is_letter b ≡ true → list_all in_word bs ≡ true → list_any (bytes_eq (b ∷ bs)) reserved ≡ false → is_name (b ∷ bs) ≡ true
    named_word b bs letter all miss =
        ap (λ z. (z && list_all in_word bs) && not (list_any (bytes_eq (b ∷ bs)) reserved)) letter
        ∙ (ap (λ z. (true && z) && not (list_any (bytes_eq (b ∷ bs)) reserved)) all ∙ ap not miss)

-- the kind of a text by its first byte
letter_kind : (context : Context) (rest : List ℕ) (b : ℕ) (bs : List ℕ) → is_letter b ≡ true → kind_of context rest (b ∷ bs) ≡ cond (list_all in_word bs) (Some (word_kind (b ∷ bs))) None
unfolding kind_of
letter_kind context rest b bs h = rw h refl

digit_kind : (context : Context) (rest : List ℕ) (b : ℕ) (bs : List ℕ) → is_letter b ≡ false → is_digit b ≡ true → kind_of context rest (b ∷ bs) ≡ cond (is_integer (b ∷ bs)) (Some k.Integer) None
unfolding kind_of
digit_kind context rest b bs miss h = rw miss (rw h refl)

other_kind : (context : Context) (rest : List ℕ) (b : ℕ) (bs : List ℕ) → is_letter b ≡ false → is_digit b ≡ false
    → kind_of context rest (b ∷ bs) ≡ piece_or_sign (opened context b) context.in_scanner rest b bs
unfolding kind_of
other_kind context rest b bs miss h = rw miss (rw h refl)

piece_kind : (context : Context) (rest : List ℕ) (b : ℕ) (bs : List ℕ) (kind : TokenKind) (mode : Mode) → is_letter b ≡ false → is_digit b ≡ false
    → opened context b ≡ Some (kind, mode) → kind_of context rest (b ∷ bs) ≡ cond (is_read (mode_after mode bs)) (Some kind) None
piece_kind context rest b bs kind mode miss h e = other_kind context rest b bs miss h ∙ ap (λ z. piece_or_sign z context.in_scanner rest b bs) e

sign_kind : (context : Context) (rest : List ℕ) (b : ℕ) (bs : List ℕ) → is_letter b ≡ false → is_digit b ≡ false → opened context b ≡ None
    → kind_of context rest (b ∷ bs) ≡ sign_before context.in_scanner rest (b ∷ bs)
sign_kind context rest b bs miss h e = other_kind context rest b bs miss h ∙ ap (λ z. piece_or_sign z context.in_scanner rest b bs) e

kind_is : (found : Option TokenKind) (c : Bool) (x kind : TokenKind) (text : List ℕ) → found ≡ cond c (Some x) None → (c ≡ true → IsKindOf x text) → found ≡ Some kind → IsKindOf kind text
kind_is found true x kind text e h f = subst (λ z. IsKindOf z text) (same_some x kind (sym e ∙ f)) (h refl)
kind_is found false x kind text e h f = absurd (none_some kind (sym e ∙ f))

kind_holds : (context : Context) (rest text : List ℕ) (kind : TokenKind) → kind_of context rest text ≡ Some kind → IsKindOf kind text
unfolding kind_of
kind_holds context rest [] kind e = absurd (none_some kind e)
kind_holds context rest (b ∷ bs) kind e = elim (cases_Bool (is_letter b)) [
  | inl letter ↦ kind_is _ (list_all in_word bs) (word_kind (b ∷ bs)) kind (b ∷ bs) (letter_kind context rest b bs letter) (λ all. word_is b bs letter all) e
  | inr no_letter ↦ elim (cases_Bool (is_digit b)) [
    | inl digit ↦ kind_is _ (is_integer (b ∷ bs)) k.Integer kind (b ∷ bs) (digit_kind context rest b bs no_letter digit)
        (λ h. record { no_end = λ e. cc; integer = λ e. h; name = λ e. absurd cc }) e
    | inr no_digit ↦ elim (option_cases (opened context b)) [
      | inl found ↦ kind_is _ (is_read (mode_after found.0.1 bs)) found.0.0 kind (b ∷ bs) (piece_kind context rest b bs found.0.0 found.0.1 no_letter no_digit found.1)
          (λ h. plain_kind_of found.0.0 (b ∷ bs) (opened_plain context b found.0 found.1)) e
      | inr none ↦
          let sign : sign_before context.in_scanner rest (b ∷ bs) ≡ Some kind = sym (sign_kind context rest b bs no_letter no_digit none) ∙ e in
          plain_kind_of kind (b ∷ bs) (before_plain context.in_scanner rest (b ∷ bs) kind sign)
    ]
  ]
]

-- ---- the token in front of a text

longest_holds : (n : ℕ) (context : Context) (text : List ℕ) (found : TokenKind × ℕ) → longest_within n context text ≡ Some found → IsKindOf found.0 (take found.1 text)
unfolding longest_within
longest_holds zero context text found e = absurd (none_some found e)
longest_holds (suc n) context text found e = elim (option_cases (front_kind context text (suc n))) [
  | inl here ↦
      let same : (here.0, suc n) ≡ found = same_some (here.0, suc n) found (rw here.1 at e) in
      subst (λ z. IsKindOf z.0 (take z.1 text)) same (kind_holds context (drop (suc n) text) (take (suc n) text) here.0 here.1)
  | inr none ↦ longest_holds n context text found (rw none at e)
]

text_holds : (text : List ℕ) (found : TokenKind × ℕ) → text_in_front text ≡ Some found → IsKindOf found.0 (take found.1 text)
text_holds text found e = by_end (prefix_len in_text text == length text) (prefix_len in_text text - suffix_len is_blank (take (prefix_len in_text text) text)) e
  where
    by_end : (c : Bool) (n : ℕ) → cond c None (Some (k.Text, n)) ≡ Some found → IsKindOf found.0 (take found.1 text)
    by_end true n e = absurd (none_some found e)
    by_end false n e = subst (λ z. IsKindOf z.0 (take z.1 text)) (same_some (k.Text, n) found e) (plain_kind_of k.Text (take n text) refl)

front_holds : (context : Context) (text : List ℕ) (found : TokenKind × ℕ) → token_in_front context text ≡ Some found → IsKindOf found.0 (take found.1 text)
unfolding token_in_front
front_holds context text found e = elim (cases_Bool (is_text context.expected)) [
  | inl hit ↦ text_holds text found (rw hit at e)
  | inr miss ↦ longest_holds (length text) context text found (rw miss at e)
]

-- ---- tokens

-- a token is no end; an integer fits 64 bits with a sign; a name is a name
pub record IsToken (token : Token) : Type 0 where
  pub no_end : same_kind token.kind k.End ≡ false
  pub integer : token.kind ≡ k.Integer → number token.text < 2 ^ 63
  pub name : token.kind ≡ k.Name → is_name token.text ≡ true

-- an integer that begins with `0x` is hexadecimal
number_is : (text : List ℕ) → is_integer text ≡ true → number text ≡ integer_value text
number_is [] h = absurd (false≢true h)
number_is (a ∷ []) h = refl
number_is (a ∷ b ∷ cs) h = elim (cases_Bool (a == 48 && b == 120)) [
  | inl hit ↦
      let x : b ≡ 120 = eqb-true b 120 (and_parts (a == 48) (b == 120) hit).1 in
      let hexadecimal : is_hexadecimal (a ∷ b ∷ cs) ≡ true = elim (or_cases (is_decimal (a ∷ b ∷ cs)) (is_hexadecimal (a ∷ b ∷ cs)) h) [
        | inl decimal ↦
            let digits = (and_parts (is_digit a) (list_all is_digit (b ∷ cs)) decimal).1 in
            let digit : is_digit b ≡ true = (and_parts (is_digit b) (list_all is_digit cs) digits).0 in
            let no_digit : false ≡ true = sym (ap is_digit x) ∙ digit in
            absurd (false≢true no_digit)
        | inr hexadecimal ↦ hexadecimal
      ] in
      ap (λ z. cond z (digits_value 16 cs) (digits_value 10 (a ∷ b ∷ cs))) (hit ∙ sym hexadecimal)
  | inr miss ↦ ap (λ z. cond z (digits_value 16 cs) (digits_value 10 (a ∷ b ∷ cs))) (miss ∙ sym (no_prefix cs miss))
]
  where
    no_prefix : (cs : List ℕ) → (a == 48 && b == 120) ≡ false → is_hexadecimal (a ∷ b ∷ cs) ≡ false
    no_prefix [] miss = refl
    no_prefix (c ∷ cs) miss = ap (λ z. z && list_all is_hex_digit (c ∷ cs)) miss

no_fault : (text : List ℕ) → fault_of k.Integer text ≡ None → fits text ≡ true
no_fault text e = elim (cases_Bool (fits text)) [
  | inl hit ↦ hit
  | inr miss ↦ let some = rw miss at e in absurd (none_some _ (sym some))
]

integer_fits : (kind : TokenKind) (text : List ℕ) → IsKindOf kind text → fault_of kind text ≡ None → kind ≡ k.Integer → number text < 2 ^ 63
integer_fits kind text h none is =
    let here : fault_of k.Integer text ≡ None = sym (ap (λ z. fault_of z text) is) ∙ none in
    let most : nat_le (integer_value text) 9223372036854775807 ≡ true = no_fault text here in
    let value : number text ≡ integer_value text = number_is text (h.integer is) in
    grind (arith, nat_tests)

made_token : (at : Position) (kind : TokenKind) (text : List ℕ) (fault : Option FaultKind) (token : Token) → fault_of kind text ≡ fault → IsKindOf kind text
    → checked at kind text fault ≡ Ok token → IsToken token
made_token at kind text (Some fault) token f h e = absurd (err_ok _ token e)
made_token at kind text None token f h e = subst IsToken (same_ok _ token e) (record {
  no_end = not_end kind h.no_end;
  integer = λ is. integer_fits kind text h f is;
  name = h.name;
})

pub token_holds : (context : Context) (at : Position) (text : List ℕ) (token : Token) → token_at context at text ≡ Ok token → IsToken token
token_holds context at text token e = elim (option_cases (token_in_front context text)) [
  | inl found ↦
      let here : checked at found.0.0 (take found.0.1 text) (fault_of found.0.0 (take found.0.1 text)) ≡ Ok token = rw found.1 at e in
      made_token at found.0.0 (take found.0.1 text) (fault_of found.0.0 (take found.0.1 text)) token refl (front_holds context text found.0 found.1) here
  | inr none ↦ let here = rw none at e in absurd (err_ok _ token here)
]
