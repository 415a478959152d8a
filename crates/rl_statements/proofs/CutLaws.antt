-- Where the text of a statement ends.
use Rattle.std.proofs.Common.{◌≡◌, ℕ, ◌+◌, ◌<◌, Bool, true, false, cond, eqb, List, [], ◌∷◌, length, take, Option, Some, None, inl, inr, refl, sym, ap, subst, ◌∙◌, arith}
use Rattle.std.specs.Prelude.{◌&&◌}
use Rattle.std.specs.Option.{option_map}
use Rattle.std.proofs.lemmas.Bool.{cases_Bool}
use Rattle.rl_lexical.specs.declared.mode.Mode.{Mode}
use Rattle.rl_lexical.specs.Modes.{mode_behind}
use Rattle.rl_code.specs.Texts.{up_to_semicolon, is_outside, is_left}
use Rattle.rl_statements.specs.Lengths.{statement_len}

one_more : (n b : ℕ) (x : Option (List ℕ)) → option_map (λ t. (n + 1) + length t) x ≡ option_map (λ t. n + length t) (option_map (λ t. b ∷ t) x)
one_more n b None = refl
one_more n b (Some t) = (let e : (n + 1) + length t ≡ n + length (b ∷ t) = omega arith in ap Some e)

-- the length is that of the text
length_of : (depth n : ℕ) (mode : Mode) (bs : List ℕ) → statement_len depth n mode bs ≡ option_map (λ t. n + length t) (up_to_semicolon depth mode bs)
unfolding statement_len up_to_semicolon
length_of depth n mode [] = refl
length_of depth n mode (b ∷ bs) = elim (cases_Bool (is_outside mode && eqb b 59)) [
  | inl hit ↦ (let e : n ≡ n + length {A = ℕ} [] = omega arith in rw hit (ap Some e))
  | inr miss ↦ elim (cases_Bool (is_left depth (mode_behind mode b))) [
    | inl left ↦ rw miss (rw left refl)
    | inr stays ↦ rw miss (rw stays (length_of depth (n + 1) (mode_behind mode b) bs ∙ one_more n b (up_to_semicolon depth (mode_behind mode b) bs)))
  ]
]

same_text : (a b : List ℕ) → Some a ≡ Some b → a ≡ b
same_text a b e = cc

longer_front : (b : ℕ) (bs : List ℕ) (x : Option (List ℕ)) → ((t : List ℕ) → x ≡ Some t → take (length t) bs ≡ t)
    → (t : List ℕ) → option_map (λ s. b ∷ s) x ≡ Some t → take (length t) (b ∷ bs) ≡ t
longer_front b bs None front t e = absurd (cc)
longer_front b bs (Some s) front t e =
    let same : b ∷ s ≡ t = same_text (b ∷ s) t e in
    let here : take (length (b ∷ s)) (b ∷ bs) ≡ b ∷ s = ap (λ z. b ∷ z) (front s refl) in
    subst (λ z. take (length z) (b ∷ bs) ≡ z) same here

-- the text is a front
front_of : (depth : ℕ) (mode : Mode) (bs t : List ℕ) → up_to_semicolon depth mode bs ≡ Some t → take (length t) bs ≡ t
unfolding up_to_semicolon
front_of depth mode [] t e = absurd (cc)
front_of depth mode (b ∷ bs) t e = elim (cases_Bool (is_outside mode && eqb b 59)) [
  | inl hit ↦
      let whole : Some [] ≡ Some t = rw hit at e in
      subst (λ z. take (length z) (b ∷ bs) ≡ z) (same_text [] t whole) refl
  | inr miss ↦ elim (cases_Bool (is_left depth (mode_behind mode b))) [
    | inl left ↦
        let whole : None ≡ Some t = rw left at (rw miss at e) in
        absurd (cc)
    | inr stays ↦
        let whole : option_map (λ s. b ∷ s) (up_to_semicolon depth (mode_behind mode b) bs) ≡ Some t = rw stays at (rw miss at e) in
        longer_front b bs (up_to_semicolon depth (mode_behind mode b) bs) (front_of depth (mode_behind mode b) bs) t whole
  ]
]

cut_here : (bs : List ℕ) (k : ℕ) (x : Option (List ℕ)) → ((t : List ℕ) → x ≡ Some t → take (length t) bs ≡ t) → option_map (λ t. 0 + length t) x ≡ Some k → x ≡ Some (take k bs)
cut_here bs k None front e = absurd (cc)
cut_here bs k (Some t) front e =
    let len : 0 + length t ≡ k = same_number (0 + length t) k e in
    let same : length t ≡ k = omega (arith, len) in
    ap Some (sym (subst (λ z. take z bs ≡ t) same (front t refl)))
  where
    same_number : (a b : ℕ) → Some a ≡ Some b → a ≡ b
    same_number a b e = cc

no_cut_here : (x : Option (List ℕ)) → option_map (λ t. 0 + length t) x ≡ None → x ≡ None
no_cut_here None e = refl
no_cut_here (Some t) e = absurd (cc)

pub cut_at : (depth k : ℕ) (mode : Mode) (bs : List ℕ) → statement_len depth 0 mode bs ≡ Some k → up_to_semicolon depth mode bs ≡ Some (take k bs)
cut_at depth k mode bs e = cut_here bs k (up_to_semicolon depth mode bs) (front_of depth mode bs) (sym (length_of depth 0 mode bs) ∙ e)

pub no_cut : (depth : ℕ) (mode : Mode) (bs : List ℕ) → statement_len depth 0 mode bs ≡ None → up_to_semicolon depth mode bs ≡ None
no_cut depth mode bs e = no_cut_here (up_to_semicolon depth mode bs) (sym (length_of depth 0 mode bs) ∙ e)
