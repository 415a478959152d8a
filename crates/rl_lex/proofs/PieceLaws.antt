-- The longest piece that ends with a byte of its own.
use Rattle.std.proofs.Common.{◌≡◌, ℕ, zero, suc, ◌+◌, ◌-◌, ◌<◌, ◌≤◌, Bool, true, false, cond, eqb, List, [], ◌∷◌, length, take, drop, Some, None, inl, inr, refl, sym, ap, ◌∙◌, subst, Option, arith, get_or, below_more, length-drop}
use Rattle.std.proofs.lemmas.Bool.{cases_Bool, false≢true}
use Rattle.rl_arrays.specs.Names.{is_letter, is_digit}
use Rattle.rl_grammar.specs.declared.token.TokenKind.{TokenKind}
use Rattle.rl_lexical.specs.declared.context.Context.{Context}
use Rattle.rl_lexical.specs.declared.mode.Mode.{Mode}
use Rattle.rl_lexical.specs.declared.mode.Mode.TheVariants as m
use Rattle.rl_lexical.specs.Bytes.{letter_i}
use Rattle.rl_lexical.specs.Fronts.{opened, front_kind}
use Rattle.rl_lexical.specs.Modes.{mode_behind, mode_after, is_read}
use Rattle.rl_lex.specs.Longest.{IsLongest, NoToken, Finds, Closes, IsOpen, IsReading, FindsPiece, takes_suffix}
use Rattle.rl_lex.specs.Pieces.{depth_of}
use Rattle.rl_lex.proofs.KindLaws.{no_text, piece_kind}

pub after_none : (mode : Mode) → mode_after mode [] ≡ mode
unfolding mode_after
after_none mode = refl

pub after_one : (mode : Mode) (b : ℕ) (bs : List ℕ) → mode_after mode (b ∷ bs) ≡ mode_after (mode_behind mode b) bs
unfolding mode_after
after_one mode b bs = refl

stays_past : (bs : List ℕ) → mode_after m.Past bs ≡ m.Past
unfolding mode_after
stays_past [] = refl
stays_past (b ∷ bs) = stays_past bs

-- a piece that is read takes no more bytes
past_complete : (bs : List ℕ) → 0 < length bs → is_read (mode_after m.Complete bs) ≡ false
past_complete [] l = absurd (omega arith)
past_complete (b ∷ bs) l = ap is_read (after_one m.Complete b bs ∙ stays_past bs)

-- but for its suffix
past_suffix : (b : ℕ) (bs : List ℕ) → 0 < length bs → is_read (mode_after m.Suffixable (b ∷ bs)) ≡ false
past_suffix b bs l = elim (cases_Bool (eqb b letter_i)) [
  | inl hit ↦ ap is_read (after_one m.Suffixable b bs ∙ ap (λ z. mode_after (cond z m.Complete m.Past) bs) hit) ∙ past_complete bs l
  | inr miss ↦ ap is_read (after_one m.Suffixable b bs ∙ (ap (λ z. mode_after (cond z m.Complete m.Past) bs) miss ∙ stays_past bs))
]

-- the bytes behind the first n
after_more : (mode : Mode) (n j : ℕ) (bs : List ℕ) → mode_after mode (take (n + j) bs) ≡ mode_after (mode_after mode (take n bs)) (take j (drop n bs))
after_more mode zero j bs =
    let n : 0 + j ≡ j = omega arith in
    ap (λ z. mode_after mode (take z bs)) n ∙ ap (λ z. mode_after z (take j bs)) (sym (after_none mode))
after_more mode (suc n) zero [] =
    let n' : suc n + 0 ≡ suc n = omega arith in
    ap (λ z. mode_after mode (take z [])) n' ∙ sym (after_none (mode_after mode []))
after_more mode (suc n) (suc j) [] =
    let n' : suc n + suc j ≡ suc (n + suc j) = omega arith in
    ap (λ z. mode_after mode (take z [])) n' ∙ sym (after_none (mode_after mode []))
after_more mode (suc n) j (b ∷ bs) =
    let n' : suc n + j ≡ suc (n + j) = omega arith in
    ap (λ z. mode_after mode (take z (b ∷ bs))) n'
    ∙ (after_one mode b (take (n + j) bs) ∙ (after_more (mode_behind mode b) n j bs ∙ ap (λ z. mode_after z (take j (drop n bs))) (sym (after_one mode b (take n bs)))))

-- two bytes more are too many
two_past : (end : Mode) → is_read end ≡ true → (j : ℕ) (xs : List ℕ) → 1 < j → j ≤ length xs → is_read (mode_after end (take j xs)) ≡ false
two_past end r zero xs l w = absurd (omega arith)
two_past end r (suc zero) xs l w = absurd (omega arith)
two_past end r (suc (suc j)) [] l w = absurd (omega arith)
two_past end r (suc (suc j)) (x ∷ []) l w = absurd (omega arith)
two_past m.Suffixable r (suc (suc j)) (x ∷ y ∷ xs) l w = past_suffix x (y ∷ take j xs) (omega arith)
two_past m.Complete r (suc (suc j)) (x ∷ y ∷ xs) l w = past_complete (x ∷ y ∷ take j xs) (omega arith)
two_past _ r (suc (suc j)) (x ∷ y ∷ xs) l w = absurd (false≢true r)

-- one byte more is too many where no suffix follows
one_past : (end : Mode) → is_read end ≡ true → (xs : List ℕ) → takes_suffix end xs ≡ false → (j : ℕ) → 0 < j → j ≤ length xs → is_read (mode_after end (take j xs)) ≡ false
one_past end r xs h zero l w = absurd (omega arith)
one_past end r [] h (suc j) l w = absurd (omega arith)
one_past m.Suffixable r (x ∷ xs) h (suc j) l w =
    ap is_read (after_one m.Suffixable x (take j xs) ∙ (ap (λ z. mode_after (cond z m.Complete m.Past) (take j xs)) h ∙ stays_past (take j xs)))
one_past m.Complete r (x ∷ xs) h (suc j) l w = past_complete (x ∷ take j xs) (omega arith)
one_past _ r (x ∷ xs) h (suc j) l w = absurd (false≢true r)

-- a suffix belongs to the piece
one_suffix : (end : Mode) (xs : List ℕ) → takes_suffix end xs ≡ true → is_read (mode_after end (take 1 xs)) ≡ true
one_suffix m.Suffixable [] h = absurd (false≢true h)
one_suffix m.Suffixable (x ∷ xs) h =
    ap is_read (after_one m.Suffixable x [] ∙ (after_none (cond (eqb x letter_i) m.Complete m.Past) ∙ ap (λ z. cond z m.Complete m.Past) h))
one_suffix _ xs h = absurd (false≢true h)

has_suffix : (end : Mode) (xs : List ℕ) → takes_suffix end xs ≡ true → 0 < length xs
has_suffix m.Suffixable [] h = absurd (false≢true h)
has_suffix m.Suffixable (x ∷ xs) h = omega arith
has_suffix _ xs h = absurd (false≢true h)

module _ (context : Context) (b : ℕ) (bs : List ℕ) (kind : TokenKind) (mode : Mode)
    (no_letter : is_letter b ≡ false) (no_digit : is_digit b ≡ false) (opens : opened context b ≡ Some (kind, mode)) where
  front_piece : (m : ℕ) → front_kind context (b ∷ bs) (suc m) ≡ cond (is_read (mode_after mode (take m bs))) (Some kind) None
  front_piece m = piece_kind context (drop m bs) b (take m bs) kind mode no_letter no_digit opens

  is_one : (m : ℕ) → is_read (mode_after mode (take m bs)) ≡ true → front_kind context (b ∷ bs) (suc m) ≡ Some kind
  is_one m e = front_piece m ∙ ap (λ z. cond z (Some kind) None) e

  is_none : (m : ℕ) → is_read (mode_after mode (take m bs)) ≡ false → front_kind context (b ∷ bs) (suc m) ≡ None
  is_none m e = front_piece m ∙ ap (λ z. cond z (Some kind) None) e

  no_piece : IsOpen mode bs → NoToken context (b ∷ bs)
  no_piece h zero w = no_text context (b ∷ bs)
  no_piece h (suc m) w = is_none m (h m (omega arith))

  module _ (end : Mode) (n : ℕ) (closes : Closes mode bs end n) where
    -- what m bytes make of the mode, where n of them close the piece
    behind_end : (m : ℕ) → n ≤ m → mode_after mode (take m bs) ≡ mode_after end (take (m - n) (drop n bs))
    behind_end m l =
        let sum : n + (m - n) ≡ m = omega arith in
        ap (λ z. mode_after mode (take z bs)) (sym sum)
        ∙ (after_more mode n (m - n) bs ∙ ap (λ z. mode_after z (take (m - n) (drop n bs))) closes.after)

    longest_piece : takes_suffix end (drop n bs) ≡ false → IsLongest context (b ∷ bs) kind (n + 1)
    longest_piece h =
        let one : n + 1 ≡ suc n = omega arith in
        let within : n ≤ length bs = closes.within in
        record {
          some = omega arith;
          within = omega arith;
          is_token = rw one (is_one n (ap is_read closes.after ∙ closes.reads));
          longest = λ m l w. longer h m l w;
        }
      where
        longer : takes_suffix end (drop n bs) ≡ false → (m : ℕ) → n + 1 < m → m ≤ length (b ∷ bs) → front_kind context (b ∷ bs) m ≡ None
        longer h zero l w = absurd (omega arith)
        longer h (suc m) l w =
            is_none m (ap is_read (behind_end m (omega arith))
            ∙ one_past end closes.reads (drop n bs) h (m - n) (omega arith) (omega (arith, length-drop n bs)))

    longest_suffixed : takes_suffix end (drop n bs) ≡ true → IsLongest context (b ∷ bs) kind (n + 2)
    longest_suffixed h =
        let two : n + 2 ≡ suc (n + 1) = omega arith in
        let one : (n + 1) - n ≡ 1 = omega arith in
        let some = has_suffix end (drop n bs) h in
        record {
          some = omega arith;
          within = omega (arith, length-drop n bs);
          is_token = rw two (is_one (n + 1) (ap is_read (behind_end (n + 1) (omega arith))
              ∙ (ap (λ z. is_read (mode_after end (take z (drop n bs)))) one ∙ one_suffix end (drop n bs) h)));
          longest = λ m l w. longer m l w;
        }
      where
        longer : (m : ℕ) → n + 2 < m → m ≤ length (b ∷ bs) → front_kind context (b ∷ bs) m ≡ None
        longer zero l w = absurd (omega arith)
        longer (suc m) l w =
            is_none m (ap is_read (behind_end m (omega arith)) ∙ two_past end closes.reads (m - n) (drop n bs) (omega arith) (omega (arith, length-drop n bs)))

    -- the token has n + 1 bytes, and one more where a suffix belongs to it
    pub piece_found : (suffix : Bool) → takes_suffix end (drop n bs) ≡ suffix → IsLongest context (b ∷ bs) kind (cond suffix (n + 2) (n + 1))
    piece_found true h = longest_suffixed h
    piece_found false h = longest_piece h

  pub none_found : IsOpen mode bs → NoToken context (b ∷ bs)
  none_found h = no_piece h

-- one byte more
next_mode : (mode : Mode) (n : ℕ) (text : List ℕ) → n < length text → mode_after mode (take (n + 1) text) ≡ mode_behind (mode_after mode (take n text)) (get_or text n 0)
next_mode mode n [] l = absurd (omega arith)
next_mode mode zero (b ∷ bs) l = after_one mode b [] ∙ (after_none (mode_behind mode b) ∙ ap (λ z. mode_behind z b) (sym (after_none mode)))
next_mode mode (suc n) (b ∷ bs) l =
    let one : suc n + 1 ≡ suc (n + 1) = omega arith in
    ap (λ z. mode_after mode (take z (b ∷ bs))) one
    ∙ (after_one mode b (take (n + 1) bs) ∙ (next_mode (mode_behind mode b) n bs (omega arith)
    ∙ ap (λ z. mode_behind z (get_or bs n 0)) (sym (after_one mode b (take n bs)))))

module _ (start : Mode) (text : List ℕ) where
  pub reading_starts : depth_of start ≡ 0 → IsReading start text 0 start
  reading_starts d = record { within = omega arith; after = after_none start; before = λ m l. absurd (omega arith); depth = omega arith }

  not_yet : (n : ℕ) (mode : Mode) → IsReading start text n mode → is_read mode ≡ false → (m : ℕ) → m < n + 1 → is_read (mode_after start (take m text)) ≡ false
  not_yet n mode r e = below_more _ _ r.before (ap is_read r.after ∙ e)

  pub reading_goes_on : (n : ℕ) (mode next : Mode) → IsReading start text n mode → is_read mode ≡ false → n < length text → next ≡ mode_behind mode (get_or text n 0)
      → depth_of next ≤ depth_of mode + 1 → IsReading start text (n + 1) next
  reading_goes_on n mode next r e l step d =
      let depth : depth_of mode ≤ n = r.depth in
      record {
        within = omega arith;
        after = next_mode start n text l ∙ (ap (λ z. mode_behind z (get_or text n 0)) r.after ∙ sym step);
        before = not_yet n mode r e;
        depth = omega arith;
      }

  pub reading_ends : (n : ℕ) (mode : Mode) → IsReading start text n mode → is_read mode ≡ true → Closes start text mode n
  reading_ends n mode r e = record { within = r.within; after = r.after; reads = e; first = r.before }

  pub reading_fails : (n : ℕ) (mode : Mode) → IsReading start text n mode → is_read mode ≡ false → n ≡ length text → IsOpen start text
  reading_fails n mode r e l = λ m w. not_yet n mode r e m (omega arith)

-- a piece is the longest token where its first byte begins nothing else
pub piece_is_longest : (context : Context) (b : ℕ) (bs : List ℕ) (kind : TokenKind) (mode : Mode) → is_letter b ≡ false → is_digit b ≡ false
    → opened context b ≡ Some (kind, mode) → (found : Option (TokenKind × ℕ)) → FindsPiece kind mode bs found → Finds context (b ∷ bs) found
piece_is_longest context b bs kind mode no_letter no_digit opens None h = none_found context b bs kind mode no_letter no_digit opens h
piece_is_longest context b bs kind mode no_letter no_digit opens (Some x) h =
    let piece = h.1 in
    let whole = piece_found context b bs kind mode no_letter no_digit opens piece.end piece.before piece.closes
    (takes_suffix piece.end (drop piece.before bs)) refl in
    let P : TokenKind → Type 0 = λ z. IsLongest context (b ∷ bs) z x.1 in
    let Q : ℕ → Type 0 = λ z. IsLongest context (b ∷ bs) kind z in
    subst P (sym h.0) (subst Q (sym piece.count) whole)
