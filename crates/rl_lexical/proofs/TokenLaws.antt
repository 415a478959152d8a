-- The tokens of a text are slices of it in order, and what stands between them is blanks and comments.
use Rattle.std.proofs.Common.{◌≡◌, ℕ, zero, suc, ◌+◌, ◌-◌, ◌<◌, ◌≤◌, Bool, true, false, cond, eqb, List, [], ◌∷◌, length, take, drop, Option, Some, None, ◌⊎◌, Result, Ok, Err, inl, inr, refl, sym, ap, ◌∙◌, subst, arith, length-drop, length-take-le}
use Rattle.std.specs.Prelude.{◌&&◌, ◌||◌, if◌then◌else◌, not, nat_le}
use Rattle.std.specs.List.{prefix_len, suffix_len, list_all, list_any}
use Rattle.std.specs.Str.{bytes_eq}
use Rattle.std.proofs.lemmas.Bool.{cases_Bool, false≢true, eqb-true, leb-true, and_parts}
use Rattle.std.proofs.lemmas.Slice.Eq.{bytes_eq-Decides}
use Rattle.rl_types.specs.declared.faults.Fault.{Fault}
use Rattle.rl_types.specs.declared.faults.FaultKind.{FaultKind}
use Rattle.rl_grammar.specs.declared.token.Token.{Token}
use Rattle.rl_grammar.specs.declared.token.TokenKind.{TokenKind}
use Rattle.rl_grammar.specs.declared.token.TokenKind.TheVariants as k
use Rattle.rl_arrays.specs.Names.{is_letter, is_digit, reserved}
use Rattle.rl_lexical.specs.declared.context.Context.{Context}
use Rattle.rl_lexical.specs.declared.context.Expected.{Expected}
use Rattle.rl_lexical.specs.declared.context.Expected.TheVariants as e
use Rattle.rl_lexical.specs.declared.mode.Mode.{Mode}
use Rattle.rl_lexical.specs.declared.position.Position.{Position}
use Rattle.rl_lexical.specs.Bytes.{newline, hash, double_quote, quote, slash, open_bracket, open_brace, is_blank, in_text, is_empty}
use Rattle.rl_lexical.specs.Contexts.{is_text, is_code, expected_behind, expected_behind_name, context_behind, first_context}
use Rattle.rl_lexical.specs.Forms.{fault_of}
use Rattle.rl_lexical.specs.Fronts.{opened, piece_or_sign, kind_of, front_kind, or_shorter, longest_within, text_in_front, token_in_front}
use Rattle.rl_lexical.specs.Gaps.{gap_len, comment_len}
use Rattle.rl_lexical.specs.Modes.{mode_after, is_read}
use Rattle.rl_lexical.specs.Places.{position_behind}
use Rattle.rl_lexical.specs.Signs.{named, or_else, statement_signs, binary_signs, unary_signs, scanner_signs, sign_of, is_mark_before, sign_before}
use Rattle.rl_lexical.specs.Tokens.{gap_before, next_position, next_text, end_token, checked, token_or_fault, token_at, before_others, then_others, tokens_from, IsGap, AreSlices}
use Rattle.rl_lexical.specs.Words.{keywords, word_kind, keyword_or_name, is_variable}

-- ---- gaps

gap_hash : (b : ℕ) (bs : List ℕ) → eqb b hash ≡ true → gap_len (b ∷ bs) ≡ 1 + comment_len bs
gap_hash b bs h = rw h refl

gap_blank : (b : ℕ) (bs : List ℕ) → eqb b hash ≡ false → is_blank b ≡ true → gap_len (b ∷ bs) ≡ 1 + gap_len bs
gap_blank b bs miss h = rw miss (rw h refl)

gap_other : (b : ℕ) (bs : List ℕ) → eqb b hash ≡ false → is_blank b ≡ false → gap_len (b ∷ bs) ≡ 0
gap_other b bs miss h = rw miss (rw h refl)

comment_end : (b : ℕ) (bs : List ℕ) → eqb b newline ≡ true → comment_len (b ∷ bs) ≡ 1 + gap_len bs
comment_end b bs h = rw h refl

comment_more : (b : ℕ) (bs : List ℕ) → eqb b newline ≡ false → comment_len (b ∷ bs) ≡ 1 + comment_len bs
comment_more b bs h = rw h refl

mutual
  gap_bound : (xs : List ℕ) → gap_len xs ≤ length xs
  gap_bound [] = omega arith
  gap_bound (b ∷ bs) = elim (cases_Bool (eqb b hash)) [
    | inl hit ↦ (let l = comment_bound bs in let n = gap_hash b bs hit in omega arith)
    | inr miss ↦ elim (cases_Bool (is_blank b)) [
      | inl blank ↦ (let l = gap_bound bs in let n = gap_blank b bs miss blank in omega arith)
      | inr other ↦ (let n = gap_other b bs miss other in omega arith)
    ]
  ]

  comment_bound : (xs : List ℕ) → comment_len xs ≤ length xs
  comment_bound [] = omega arith
  comment_bound (b ∷ bs) = elim (cases_Bool (eqb b newline)) [
    | inl hit ↦ (let l = gap_bound bs in let n = comment_end b bs hit in omega arith)
    | inr miss ↦ (let l = comment_bound bs in let n = comment_more b bs miss in omega arith)
  ]

one_more : (n : ℕ) → 1 + n ≡ suc n
one_more n = omega arith

-- the gap in front is a gap
mutual
  gap_front : (xs : List ℕ) → gap_len (take (gap_len xs) xs) ≡ gap_len xs
  gap_front [] = refl
  gap_front (b ∷ bs) =
      let P : ℕ → Type 0 = λ z. gap_len (take z (b ∷ bs)) ≡ z in
      elim (cases_Bool (eqb b hash)) [
        | inl hit ↦
            subst P (sym (gap_hash b bs hit ∙ one_more (comment_len bs)))
            (gap_hash b (take (comment_len bs) bs) hit ∙ (ap (λ z. 1 + z) (comment_front bs) ∙ one_more (comment_len bs)))
        | inr miss ↦ elim (cases_Bool (is_blank b)) [
          | inl blank ↦
              subst P (sym (gap_blank b bs miss blank ∙ one_more (gap_len bs)))
              (gap_blank b (take (gap_len bs) bs) miss blank ∙ (ap (λ z. 1 + z) (gap_front bs) ∙ one_more (gap_len bs)))
          | inr other ↦ subst P (sym (gap_other b bs miss other)) refl
        ]
      ]

  comment_front : (xs : List ℕ) → comment_len (take (comment_len xs) xs) ≡ comment_len xs
  comment_front [] = refl
  comment_front (b ∷ bs) =
      let P : ℕ → Type 0 = λ z. comment_len (take z (b ∷ bs)) ≡ z in
      elim (cases_Bool (eqb b newline)) [
        | inl hit ↦
            subst P (sym (comment_end b bs hit ∙ one_more (gap_len bs)))
            (comment_end b (take (gap_len bs) bs) hit ∙ (ap (λ z. 1 + z) (gap_front bs) ∙ one_more (gap_len bs)))
        | inr miss ↦
            subst P (sym (comment_more b bs miss ∙ one_more (comment_len bs)))
            (comment_more b (take (comment_len bs) bs) miss ∙ (ap (λ z. 1 + z) (comment_front bs) ∙ one_more (comment_len bs)))
      ]

blank_is_no_hash : (b : ℕ) → is_blank b ≡ true → eqb b hash ≡ false
blank_is_no_hash b h = elim (cases_Bool (eqb b hash)) [
  | inr miss ↦ miss
  | inl hit ↦ (let same : is_blank hash ≡ true = ap is_blank (sym (eqb-true b hash hit)) ∙ h in absurd (false≢true same))
]

blanks_more : (b : ℕ) (bs : List ℕ) → is_blank b ≡ true → prefix_len is_blank (b ∷ bs) ≡ suc (prefix_len is_blank bs)
blanks_more b bs h = rw h (one_more (prefix_len is_blank bs))

blanks_bound : (xs : List ℕ) → prefix_len is_blank xs ≤ length xs
blanks_bound [] = omega arith
blanks_bound (b ∷ bs) = elim (cases_Bool (is_blank b)) [
  | inl hit ↦ (let l = blanks_bound bs in let n = blanks_more b bs hit in omega arith)
  | inr miss ↦ rw miss (omega arith)
]

blanks_front : (xs : List ℕ) → gap_len (take (prefix_len is_blank xs) xs) ≡ prefix_len is_blank xs
blanks_front [] = refl
blanks_front (b ∷ bs) =
    let P : ℕ → Type 0 = λ z. gap_len (take z (b ∷ bs)) ≡ z in
    elim (cases_Bool (is_blank b)) [
      | inl hit ↦
          subst P (sym (blanks_more b bs hit))
          (gap_blank b (take (prefix_len is_blank bs) bs) (blank_is_no_hash b hit) hit ∙ (ap (λ z. 1 + z) (blanks_front bs) ∙ one_more (prefix_len is_blank bs)))
      | inr miss ↦ (let none : prefix_len is_blank (b ∷ bs) ≡ 0 = rw miss refl in subst P (sym none) refl)
    ]

before_bound : (context : Context) (text : List ℕ) → gap_before context text ≤ length text
before_bound context text = elim (cases_Bool (is_text context.expected)) [
  | inl hit ↦ rw hit (blanks_bound text)
  | inr miss ↦ rw miss (gap_bound text)
]

before_front : (context : Context) (text : List ℕ) → gap_len (take (gap_before context text) text) ≡ gap_before context text
before_front context text = elim (cases_Bool (is_text context.expected)) [
  | inl hit ↦ rw hit (blanks_front text)
  | inr miss ↦ rw miss (gap_front text)
]

before_is_gap : (context : Context) (text : List ℕ) → IsGap (take (gap_before context text) text)
before_is_gap context text = before_front context text ∙ sym (length-take-le (gap_before context text) text (before_bound context text))

-- ---- how many bytes a token has

-- the words behind which a text stands
abbrev calls : TokenKind → Bool
calls k.Access = true
calls k.Variable = true
calls _ = false

abbrev waits : Expected → ℕ
waits e.VariableName = 1
waits e.Text = 1
waits _ = 0

abbrev call : TokenKind → ℕ
call kind = if calls kind then 1 else 0

behind_name : (expected : Expected) (text : List ℕ) → waits (expected_behind_name expected text) ≤ waits expected
behind_name e.Any text = omega arith
behind_name e.ActionName text = omega arith
behind_name e.Code text = omega arith
behind_name e.Text text = omega arith
behind_name e.VariableName text = elim (cases_Bool (is_variable text)) [
  | inl hit ↦ rw hit (omega arith)
  | inr miss ↦ rw miss (omega arith)
]

behind_token : (expected : Expected) (kind : TokenKind) (text : List ℕ) → waits (expected_behind expected kind text) ≤ call kind + waits expected
behind_token expected k.Name text = (let l = behind_name expected text in omega arith)
behind_token expected k.Access text = omega arith
behind_token expected k.Variable text = omega arith
behind_token expected _ text = omega arith

behind_text : (expected : Expected) (text : List ℕ) → waits (expected_behind expected k.Text text) ≡ 0
behind_text expected text = refl

text_waits : (expected : Expected) → is_text expected ≡ true → waits expected ≡ 1
text_waits e.Text h = refl
text_waits _ h = absurd (false≢true h)

-- such a word has more than one byte
longer_entry : (b : ℕ) (entry : List ℕ) → nat_le 2 (length entry) ≡ true → bytes_eq (b ∷ []) entry ≡ false
longer_entry b entry h = elim (cases_Bool (bytes_eq (b ∷ []) entry)) [
  | inr miss ↦ miss
  | inl hit ↦
      let same : b ∷ [] ≡ entry = (bytes_eq-Decides (b ∷ []) entry).0 hit in
      let bound = leb-true 2 (length entry) h in
      absurd (omega (arith, ap length same))
]

no_keyword : (table : List (List ℕ × TokenKind)) (b : ℕ) → list_all (λ entry. nat_le 2 (length entry.0)) table ≡ true → named table (b ∷ []) ≡ None
no_keyword [] b h = refl
no_keyword (entry ∷ table) b h =
    let parts = and_parts (nat_le 2 (length entry.0)) (list_all (λ entry. nat_le 2 (length entry.0)) table) h in
    rw (longer_entry b entry.0 parts.0) (no_keyword table b parts.1)

short_word : (b : ℕ) → calls (word_kind (b ∷ [])) ≡ false
short_word b =
    let none = no_keyword keywords b refl in
    ap (λ z. calls (keyword_or_name (b ∷ []) z)) none ∙ plain (list_any (bytes_eq (b ∷ [])) reserved)
  where
    plain : (r : Bool) → calls (cond r k.Reserved k.Name) ≡ false
    plain true = refl
    plain false = refl

-- no kind of the option calls for a text
abbrev plain_kind : Option TokenKind → Bool
plain_kind None = true
plain_kind (Some kind) = not (calls kind)

not_calls : (kind : TokenKind) → not (calls kind) ≡ true → calls kind ≡ false
not_calls kind h = elim (cases_Bool (calls kind)) [
  | inl hit ↦ (let wrong : not true ≡ true = rw hit at h in absurd (false≢true wrong))
  | inr miss ↦ miss
]

named_plain : (table : List (List ℕ × TokenKind)) (text : List ℕ) → list_all (λ entry. not (calls entry.1)) table ≡ true → plain_kind (named table text) ≡ true
named_plain [] text h = refl
named_plain (entry ∷ table) text h =
    let parts = and_parts (not (calls entry.1)) (list_all (λ entry. not (calls entry.1)) table) h in
    elim (cases_Bool (bytes_eq text entry.0)) [
      | inl hit ↦ rw hit parts.0
      | inr miss ↦ rw miss (named_plain table text parts.1)
    ]

or_plain : (first second : Option TokenKind) → plain_kind first ≡ true → plain_kind second ≡ true → plain_kind (or_else first second) ≡ true
or_plain None second f g = g
or_plain (Some kind) second f g = f

scanner_plain : (in_scanner : Bool) (text : List ℕ) → plain_kind (named (scanner_signs in_scanner) text) ≡ true
scanner_plain true text = named_plain (scanner_signs true) text refl
scanner_plain false text = refl

sign_plain : (in_scanner : Bool) (text : List ℕ) → plain_kind (sign_of in_scanner text) ≡ true
sign_plain in_scanner text =
    or_plain (named (scanner_signs in_scanner) text) _ (scanner_plain in_scanner text)
    (or_plain (named statement_signs text) _ (named_plain statement_signs text refl)
    (or_plain (named binary_signs text) _ (named_plain binary_signs text refl) (named_plain unary_signs text refl)))

before_plain : (in_scanner : Bool) (rest text : List ℕ) → plain_kind (sign_before in_scanner rest text) ≡ true
before_plain in_scanner rest text = elim (cases_Bool (is_mark_before rest text)) [
  | inl hit ↦ rw hit refl
  | inr miss ↦ rw miss (sign_plain in_scanner text)
]

-- what a byte opens calls for no text
abbrev plain_opening : Option (TokenKind × Mode) → Bool
plain_opening None = true
plain_opening (Some opening) = not (calls opening.0)

opened_plain : (context : Context) (b : ℕ) → plain_opening (opened context b) ≡ true
opened_plain context b = elim (cases_Bool (eqb b quote || eqb b double_quote)) [
  | inl hit ↦ rw hit refl
  | inr miss ↦ elim (cases_Bool (eqb b open_bracket)) [
    | inl hit ↦ rw miss (rw hit refl)
    | inr other ↦ elim (cases_Bool (eqb b slash)) [
      | inl hit ↦ rw miss (rw other (rw hit refl))
      | inr third ↦ elim (cases_Bool (eqb b open_brace && is_code context.expected)) [
        | inl hit ↦ rw miss (rw other (rw third (rw hit refl)))
        | inr fourth ↦ rw miss (rw other (rw third (rw fourth refl)))
      ]
    ]
  ]
]

piece_plain : (opening : Option (TokenKind × Mode)) (in_scanner : Bool) (rest : List ℕ) (b : ℕ) (bs : List ℕ) → plain_opening opening ≡ true
    → plain_kind (piece_or_sign opening in_scanner rest b bs) ≡ true
piece_plain None in_scanner rest b bs h = before_plain in_scanner rest (b ∷ bs)
piece_plain (Some opening) in_scanner rest b bs h = elim (cases_Bool (is_read (mode_after opening.1 bs))) [
  | inl hit ↦ rw hit h
  | inr miss ↦ rw miss refl
]

one_byte : (context : Context) (rest : List ℕ) (b : ℕ) → plain_kind (kind_of context rest (b ∷ [])) ≡ true
unfolding kind_of
one_byte context rest b = elim (cases_Bool (is_letter b)) [
  | inl letter ↦ rw letter (ap not (short_word b))
  | inr no_letter ↦ elim (cases_Bool (is_digit b)) [
    | inl digit ↦ rw no_letter (rw digit refl)
    | inr no_digit ↦ rw no_letter (rw no_digit (piece_plain (opened context b) context.in_scanner rest b [] (opened_plain context b)))
  ]
]

call_one : (kind : TokenKind) → call kind ≤ 1
call_one kind = elim (cases_Bool (calls kind)) [
  | inl hit ↦ rw hit (omega arith)
  | inr miss ↦ rw miss (omega arith)
]

call_none : (kind : TokenKind) → calls kind ≡ false → call kind ≡ 0
call_none kind h = rw h refl

call_bound : (context : Context) (text : List ℕ) (kind : TokenKind) (n : ℕ) → 0 < n → n ≤ length text → front_kind context text n ≡ Some kind → call kind + 1 ≤ n
call_bound context text kind zero l w e = absurd (omega arith)
call_bound context [] kind (suc zero) l w e = absurd (omega arith)
call_bound context (b ∷ bs) kind (suc zero) l w e =
    let plain : plain_kind (Some kind) ≡ true = ap plain_kind (sym e) ∙ one_byte context bs b in
    let none = call_none kind (not_calls kind plain) in
    omega arith
call_bound context text kind (suc (suc n)) l w e = (let one = call_one kind in omega arith)

-- ---- the token in front

none_at_zero : (context : Context) (text : List ℕ) → longest_within 0 context text ≡ None
unfolding longest_within
none_at_zero context text = refl

more : (m : ℕ) (context : Context) (text : List ℕ) → longest_within (suc m) context text ≡ or_shorter (front_kind context text (suc m)) (suc m) (longest_within m context text)
unfolding longest_within
more m context text = refl

same_found : (x y : TokenKind × ℕ) → ◌≡◌ {A = Option (TokenKind × ℕ)} (Some x) (Some y) → x ≡ y
same_found x y h = cc

or_is : (first : Option TokenKind) (m : ℕ) (shorter : Option (TokenKind × ℕ)) (kind : TokenKind) (n : ℕ) → or_shorter first m shorter ≡ Some (kind, n)
    → ((first ≡ Some kind) × (n ≡ m)) ⊎ (shorter ≡ Some (kind, n))
or_is (Some other) m shorter kind n h =
    let same = same_found (other, m) (kind, n) h in
    inl (ap (λ z. Some z.0) same, sym (ap (λ z. z.1) same))
or_is None m shorter kind n h = inr h

-- the longest token within some bytes is a token
pub within_is : (m : ℕ) (context : Context) (text : List ℕ) (kind : TokenKind) (n : ℕ) → longest_within m context text ≡ Some (kind, n)
    → (0 < n) × (n ≤ m) × (front_kind context text n ≡ Some kind)
within_is zero context text kind n h = absurd (let none = none_at_zero context text in cc)
within_is (suc m) context text kind n h =
    elim (or_is (front_kind context text (suc m)) (suc m) (longest_within m context text) kind n (sym (more m context text) ∙ h)) [
      | inl here ↦
          let same : n ≡ suc m = here.1 in
          let P : ℕ → Type 0 = λ z. front_kind context text z ≡ Some kind in
          (omega arith, omega arith, subst P (sym same) here.0)
      | inr shorter ↦ (let x = within_is m context text kind n shorter in let l = x.1 in (x.0, omega arith, x.2))
    ]

text_bound : (text : List ℕ) → prefix_len in_text text ≤ length text
text_bound [] = omega arith
text_bound (b ∷ bs) = elim (cases_Bool (in_text b)) [
  | inl hit ↦ rw hit (let l = text_bound bs in omega arith)
  | inr miss ↦ rw miss (omega arith)
]

text_is : (text : List ℕ) (kind : TokenKind) (n : ℕ) → text_in_front text ≡ Some (kind, n) → (kind ≡ k.Text) × (n ≤ length text)
text_is text kind n h = elim (cases_Bool (eqb (prefix_len in_text text) (length text))) [
  | inl hit ↦ absurd (let none : None ≡ Some (kind, n) = rw hit at h in cc)
  | inr miss ↦
      let all : Some (k.Text, prefix_len in_text text - suffix_len is_blank (take (prefix_len in_text text) text)) ≡ Some (kind, n) = rw miss at h in
      let same = same_found (k.Text, prefix_len in_text text - suffix_len is_blank (take (prefix_len in_text text) text)) (kind, n) all in
      let len : prefix_len in_text text - suffix_len is_blank (take (prefix_len in_text text) text) ≡ n = ap (λ z. z.1) same in
      let bound = text_bound text in
      (sym (ap (λ z. z.0) same), omega arith)
]

front_text : (context : Context) (text : List ℕ) → is_text context.expected ≡ true → token_in_front context text ≡ text_in_front text
unfolding token_in_front
front_text context text h = rw h refl

front_longest : (context : Context) (text : List ℕ) → is_text context.expected ≡ false → token_in_front context text ≡ longest_within (length text) context text
unfolding token_in_front
front_longest context text h = rw h refl

-- a token has bytes, and more of them where a text may stand behind it
progress : (context : Context) (text : List ℕ) (kind : TokenKind) (n : ℕ) (word : List ℕ) → token_in_front context text ≡ Some (kind, n)
    → (n ≤ length text) × (waits (expected_behind context.expected kind word) + 1 ≤ n + waits context.expected)
progress context text kind n word h = elim (cases_Bool (is_text context.expected)) [
  | inl hit ↦
      let x = text_is text kind n (sym (front_text context text hit) ∙ h) in
      let one = text_waits context.expected hit in
      let none : waits (expected_behind context.expected kind word) ≡ 0 = ap (λ z. waits (expected_behind context.expected z word)) x.0 ∙ behind_text context.expected word in
      (x.1, omega arith)
  | inr miss ↦
      let x = within_is (length text) context text kind n (sym (front_longest context text miss) ∙ h) in
      let some : 0 < n = x.0 in
      let bound : n ≤ length text = x.1 in
      let enough = call_bound context text kind n some bound x.2 in
      let behind = behind_token context.expected kind word in
      (bound, omega arith)
]

-- ---- the tokens of a text

checked_is : (at : Position) (kind : TokenKind) (text : List ℕ) (fault : Option FaultKind) (token : Token) → checked at kind text fault ≡ Ok token
    → token ≡ record { kind = kind; text = text; from = at.from; place = at.place }
checked_is at kind text None token h = cc
checked_is at kind text (Some fault) token h = absurd cc

record IsToken (at : Position) (text : List ℕ) (found : Option (TokenKind × ℕ)) (token : Token) : Type 0 where
  n : ℕ
  is : found ≡ Some (token.kind, n)
  slice : token.text ≡ take n text
  offset : token.from ≡ at.from
  place : token.place ≡ at.place

token_is : (at : Position) (text : List ℕ) (found : Option (TokenKind × ℕ)) (token : Token) → token_or_fault at text found ≡ Ok token → IsToken at text found token
token_is at text None token h = absurd cc
token_is at text (Some x) token h =
    let same = checked_is at x.0 (take x.1 text) (fault_of x.0 (take x.1 text)) token h in
    record { n = x.1; is = ap (λ z. Some (z.kind, x.1)) (sym same); slice = ap (λ z. z.text) same; offset = ap (λ z. z.from) same; place = ap (λ z. z.place) same }

nothing : (text : List ℕ) → is_empty text ≡ true → text ≡ []
nothing [] h = refl
nothing (b ∷ bs) h = absurd (false≢true h)

no_bytes : (text : List ℕ) → length text ≤ 0 → text ≡ []
no_bytes [] l = refl
no_bytes (b ∷ bs) l = absurd (omega arith)

split_off : (token : Token) (answer : Result (List Token) Fault) (tokens : List Token) → before_others token answer ≡ Ok tokens
    → (others : List Token) × (answer ≡ Ok others) × (tokens ≡ token ∷ others)
split_off token (Ok others) tokens h = (others, refl, cc)
split_off token (Err fault) tokens h = absurd cc

end_slice : (at : Position) (gap : ℕ) (text : List ℕ) → gap ≤ length text → IsGap (take gap text) → drop gap text ≡ []
    → AreSlices at text (end_token (position_behind at (take gap text)) ∷ [])
end_slice at gap text l g d = (gap, record { within = omega arith; gap_is = g; slice = refl; offset = refl; place = refl }, d)

-- the text behind a token is shorter
behind_shorter : (n gap count : ℕ) (text word : List ℕ) (expected : Expected) (after : Expected) → length text + waits expected ≤ suc n → gap ≤ length text
    → count ≤ length (drop gap text) → length word ≡ count → waits after + 1 ≤ count + waits expected → length (drop (length word) (drop gap text)) + waits after ≤ n
behind_shorter n gap count text word expected after l g c w p = omega (arith, length-drop {A = ℕ})

step : (n : ℕ) (context : Context) (at : Position) (text : List ℕ) → tokens_from (suc n) context at text
    ≡ cond (is_empty (next_text context text)) (Ok (end_token (next_position context at text) ∷ []))
    (then_others (token_at context (next_position context at text) (next_text context text))
    (λ token. tokens_from n (context_behind context token.kind token.text) (position_behind (next_position context at text) token.text)
    (drop (length token.text) (next_text context text))))
unfolding tokens_from
step n context at text = refl

none_left : (context : Context) (at : Position) (text : List ℕ) (tokens : List Token) → length text ≤ 0 → tokens_from 0 context at text ≡ Ok tokens → AreSlices at text tokens
unfolding tokens_from
none_left context at text tokens l h =
    let none = no_bytes text l in
    let all : tokens ≡ end_token at ∷ [] = cc in
    rw all (rw none (end_slice at 0 [] (omega arith) refl refl))

one_slice : (n : ℕ) (context : Context) (at : Position) (text : List ℕ) (tokens : List Token)
    → ((after : Context) (behind : Position) (rest : List ℕ) (others : List Token) → length rest + waits after.expected ≤ n → tokens_from n after behind rest ≡ Ok others
    → AreSlices behind rest others)
    → length text + waits context.expected ≤ suc n → tokens_from (suc n) context at text ≡ Ok tokens → AreSlices at text tokens
one_slice n context at text tokens slices l h = by_text (is_empty (next_text context text)) refl
  where
    by_token : is_empty (next_text context text) ≡ false → (answer : Result Token Fault) → token_at context (next_position context at text) (next_text context text) ≡ answer
        → AreSlices at text tokens
    by_token some (Err fault) a =
        absurd (let wrong : Err fault ≡ Ok tokens = sym (step n context at text ∙ rw some (rw a refl)) ∙ h in cc)
    by_token some (Ok token) a =
        let gap = gap_before context text in
        let here = next_position context at text in
        let rest = next_text context text in
        let after = context_behind context token.kind token.text in
        let behind = position_behind here token.text in
        let all : before_others token (tokens_from n after behind (drop (length token.text) rest)) ≡ Ok tokens = sym (step n context at text ∙ rw some (rw a refl)) ∙ h in
        let x = split_off token (tokens_from n after behind (drop (length token.text) rest)) tokens all in
        let t = token_is here rest (token_in_front context rest) token a in
        let count : ℕ = t.n in
        let p = progress context rest token.kind count token.text t.is in
        let bound : count ≤ length rest = p.0 in
        let len : length token.text ≡ count = ap length t.slice ∙ length-take-le count rest bound in
        let inside : gap ≤ length text = before_bound context text in
        let shorter = behind_shorter n gap count text token.text context.expected after.expected l inside bound len p.1 in
        let tail : AreSlices behind (drop (length token.text) rest) x.0 = slices after behind (drop (length token.text) rest) x.0 shorter x.1 in
        let slice : token.text ≡ take (length token.text) (drop gap text) = t.slice ∙ ap (λ z. take z rest) (sym len) in
        let whole : AreSlices at text (token ∷ x.0) =
        (gap, record { within = omega (arith, length-drop gap text); gap_is = before_is_gap context text; slice = slice; offset = t.offset; place = t.place }, tail) in
        let Q : List Token → Type 0 = λ z. AreSlices at text z in
        subst Q (sym x.2) whole

    by_text : (b : Bool) → is_empty (next_text context text) ≡ b → AreSlices at text tokens
    by_text true e =
        let gap = gap_before context text in
        let here = next_position context at text in
        let all : Ok (end_token here ∷ []) ≡ Ok tokens = sym (step n context at text ∙ rw e refl) ∙ h in
        let last : end_token here ∷ [] ≡ tokens = cc in
        let inside : gap ≤ length text = before_bound context text in
        let Q : List Token → Type 0 = λ z. AreSlices at text z in
        subst Q last (end_slice at gap text inside (before_is_gap context text) (nothing (next_text context text) e))
    by_text false e = by_token e (token_at context (next_position context at text) (next_text context text)) refl

-- the tokens of a text are slices of it in order, and all else is blanks and comments
slices_from : (n : ℕ) (context : Context) (at : Position) (text : List ℕ) (tokens : List Token) → length text + waits context.expected ≤ n
    → tokens_from n context at text ≡ Ok tokens → AreSlices at text tokens
slices_from zero context at text tokens l h = none_left context at text tokens (omega arith) h
slices_from (suc n) context at text tokens l h = one_slice n context at text tokens (λ after behind rest others m f. slices_from n after behind rest others m f) l h

pub tokens_are_slices : (at : Position) (text : List ℕ) (tokens : List Token) → tokens_from (length text) first_context at text ≡ Ok tokens → AreSlices at text tokens
tokens_are_slices at text tokens h = slices_from (length text) first_context at text tokens (omega arith) h
