-- Forms character by character, and the characters of a set's token.
use Rattle.std.proofs.Common.{◌≡◌, ℕ, Bool, true, false, cond, not, ◌&&◌, ◌||◌, List, [], ◌∷◌, ◌++◌, refl, sym, ◌∙◌, ap, subst, true≢false}
use Rattle.std.proofs.Common.{Some, None}
use Rattle.std.proofs.lemmas.Bool.{eqb-true}
use Rattle.std.specs.Prelude.{◌==◌}
use Rattle.rl_grammar.specs.Literals.{escaped}
use Rattle.rl_lexical.specs.declared.context.Form.{Form}
use Rattle.rl_lexical.specs.declared.context.Form.TheVariants as o
use Rattle.rl_lexical.specs.declared.mode.Mode.TheVariants as m
use Rattle.rl_lexical.specs.Bytes.{newline, dash, backslash, close_bracket, caret}
use Rattle.rl_lexical.specs.Forms.{form_behind, form_behind_escape, form_after, form_after_backslash, set_item_form}
use Rattle.rl_lexical.specs.Modes.{mode_after, is_read}
use Rattle.rl_leaves.specs.declared.text.Character.{Character}
use Rattle.rl_leaves.specs.Texts.{before, characters, is_plain}
use Rattle.rl_laws.specs.Written.{plain, IsMember}

-- ---- what characters make of a form

abbrev pub step_over : Form → Character → Form
step_over f c = cond c.is_escaped (form_behind_escape f) (form_behind f c.byte)

abbrev pub over : Form → List Character → Form
over f [] = f
over f (c ∷ cs) = over (step_over f c) cs

pub read_over : (slash : Bool) (f : Form) (bs : List ℕ) → cond slash (form_after_backslash f bs) (form_after f bs) ≡ over f (characters slash bs)
unfolding characters
read_over true f [] = refl
read_over false f [] = refl
read_over true f (b ∷ bs) =
    elim (b == newline) as (λ t. cond t (form_after f bs) (form_after (form_behind_escape f) bs)
    ≡ over f (before (cond t None (Some (record { byte = escaped b; is_escaped = true }))) (characters false bs))) [
      | true ↦ read_over false f bs
      | false ↦ read_over false (form_behind_escape f) bs
    ]
read_over false f (b ∷ bs) =
    elim (b == backslash) as (λ t. cond t (form_after_backslash f bs) (form_after (form_behind f b) bs)
    ≡ over f (before (cond t None (Some (plain b))) (characters t bs))) [
      | true ↦ read_over true f bs
      | false ↦ read_over false (form_behind f b) bs
    ]

wrong_step : (c : Character) → step_over o.Wrong c ≡ o.Wrong
wrong_step c = elim c.is_escaped as (λ t. cond t o.Wrong o.Wrong ≡ o.Wrong) [ true ↦ refl | false ↦ refl ]

-- what is wrong stays wrong
pub wrong : (cs : List Character) → over o.Wrong cs ≡ o.Wrong
wrong [] = refl
wrong (c ∷ cs) = ap (λ f. over f cs) (wrong_step c) ∙ wrong cs

-- ---- the characters of a set

pub plain_is : (b : ℕ) (c : Character) → is_plain b c ≡ true → c ≡ plain b
plain_is b c e =
    (elim c.is_escaped as (λ t. c.is_escaped ≡ t → (not t && c.byte == b) ≡ true → c ≡ plain b) [
      | true ↦ λ f g. absurd (true≢false (sym g))
      | false ↦ λ f g i. record { byte = eqb-true c.byte b g i; is_escaped = f i }
    ]) refl e

pub member_item : (c : Character) → IsMember c → step_over o.SetItem c ≡ o.SetCharacter
member_item c w =
    (elim c.is_escaped as (λ t. (not t && c.byte == dash) ≡ false → (not t && c.byte == close_bracket) ≡ false
    → cond t o.SetCharacter (set_item_form c.byte) ≡ o.SetCharacter) [
      | true ↦ λ d k. refl
      | false ↦ λ d k i. cond (k i) o.Repeated (cond (d i) o.Wrong o.SetCharacter)
    ]) w.not_dash w.not_close

pub member_character : (c : Character) → IsMember c → step_over o.SetCharacter c ≡ o.SetCharacter
member_character c w =
    (elim c.is_escaped as (λ t. (not t && c.byte == dash) ≡ false → (not t && c.byte == close_bracket) ≡ false
    → cond t o.SetCharacter (form_behind o.SetCharacter c.byte) ≡ o.SetCharacter) [
      | true ↦ λ d k. refl
      | false ↦ λ d k i. cond (d i) o.SetRange (cond (k i) o.Repeated (cond (d i) o.Wrong o.SetCharacter))
    ]) w.not_dash w.not_close

pub member_range : (c : Character) → IsMember c → step_over o.SetRange c ≡ o.SetItem
member_range c w =
    (elim c.is_escaped as (λ t. (not t && c.byte == dash) ≡ false → (not t && c.byte == close_bracket) ≡ false
    → cond t o.SetItem (form_behind o.SetRange c.byte) ≡ o.SetItem) [
      | true ↦ λ d k. refl
      | false ↦ λ d k i. cond (k i || d i) o.Wrong o.SetItem
    ]) w.not_dash w.not_close

-- without a `^` the start is an item
pub start_is_item : (c : Character) → is_plain caret c ≡ false → step_over o.SetStart c ≡ step_over o.SetItem c
start_is_item c n =
    (elim c.is_escaped as (λ t. (not t && c.byte == caret) ≡ false
    → cond t o.SetCharacter (form_behind o.SetStart c.byte) ≡ cond t o.SetCharacter (set_item_form c.byte)) [
      | true ↦ λ k. refl
      | false ↦ λ k i. cond (k i) o.SetItem (set_item_form c.byte)
    ]) n

-- ---- where the token of a set ends

abbrev pub has_close : List Character → Bool
has_close [] = false
has_close (c ∷ cs) = is_plain close_bracket c || has_close cs

pub record Ends (slash : Bool) (bs : List ℕ) : Type 0 where
  pub between : List ℕ
  pub written : bs ≡ between ++ close_bracket ∷ []
  pub reads : characters slash bs ≡ characters slash between ++ plain close_bracket ∷ []
  pub none : has_close (characters slash between) ≡ false

past : {P : Type 0} (bs : List ℕ) → is_read (mode_after m.Past bs) ≡ true → P
unfolding mode_after
past [] e = absurd (true≢false (sym e))
past (b ∷ bs) e = past bs e

closed : (bs : List ℕ) → is_read (mode_after m.Complete bs) ≡ true → Ends false (close_bracket ∷ bs)
unfolding mode_after characters
closed [] e = record { between = []; written = refl; reads = refl; none = refl }
closed (b ∷ bs) e = past bs e

behind_escape : (b : ℕ) (bs : List ℕ) → Ends false bs → Ends true (b ∷ bs)
unfolding characters
behind_escape b bs t = record {
  between = b ∷ t.between;
  written = ap (λ w. b ∷ w) t.written;
  reads = elim (b == newline) as (λ n. before (cond n None (Some (record { byte = escaped b; is_escaped = true }))) (characters false bs)
      ≡ before (cond n None (Some (record { byte = escaped b; is_escaped = true }))) (characters false t.between) ++ plain close_bracket ∷ []) [
        | true ↦ t.reads
        | false ↦ ap (λ w. record { byte = escaped b; is_escaped = true } ∷ w) t.reads
      ];
  none = elim (b == newline) as (λ n. has_close (before (cond n None (Some (record { byte = escaped b; is_escaped = true }))) (characters false t.between)) ≡ false) [
    | true ↦ t.none
    | false ↦ t.none
  ];
}

behind_backslash : (b : ℕ) (bs : List ℕ) → (b == backslash) ≡ true → Ends true bs → Ends false (b ∷ bs)
unfolding characters
behind_backslash b bs e t = record {
  between = b ∷ t.between;
  written = ap (λ w. b ∷ w) t.written;
  reads = ap (λ n. before (cond n None (Some (plain b))) (characters n bs)) e ∙ t.reads
      ∙ sym (ap (λ n. before (cond n None (Some (plain b))) (characters n t.between) ++ plain close_bracket ∷ []) e);
  none = subst (λ n. has_close (before (cond n None (Some (plain b))) (characters n t.between)) ≡ false) (sym e) t.none;
}

behind_plain : (b : ℕ) (bs : List ℕ) → (b == backslash) ≡ false → (b == close_bracket) ≡ false → Ends false bs → Ends false (b ∷ bs)
unfolding characters
behind_plain b bs e n t = record {
  between = b ∷ t.between;
  written = ap (λ w. b ∷ w) t.written;
  reads = ap (λ n. before (cond n None (Some (plain b))) (characters n bs)) e ∙ ap (λ w. plain b ∷ w) t.reads
      ∙ sym (ap (λ n. before (cond n None (Some (plain b))) (characters n t.between) ++ plain close_bracket ∷ []) e);
  none = subst (λ n. has_close (before (cond n None (Some (plain b))) (characters n t.between)) ≡ false) (sym e) (ap (λ c. c || has_close (characters false t.between)) n ∙ t.none);
}

pub ends : (slash : Bool) (bs : List ℕ) → is_read (mode_after (cond slash m.SetEscape m.Set) bs) ≡ true → Ends slash bs
unfolding mode_after
ends true [] e = absurd (true≢false (sym e))
ends false [] e = absurd (true≢false (sym e))
ends true (b ∷ bs) e = behind_escape b bs (ends false bs e)
ends false (b ∷ bs) e =
    (elim (b == close_bracket) as (λ t. (b == close_bracket) ≡ t → is_read (mode_after (cond t m.Complete (cond (b == backslash) m.SetEscape m.Set)) bs) ≡ true → Ends false (b ∷ bs)) [
      | true ↦ λ c h. subst (λ w. Ends false (w ∷ bs)) (sym (eqb-true b close_bracket c)) (closed bs h)
      | false ↦ λ c h.
          (elim (b == backslash) as (λ t. (b == backslash) ≡ t → is_read (mode_after (cond t m.SetEscape m.Set) bs) ≡ true → Ends false (b ∷ bs)) [
            | true ↦ λ s g. behind_backslash b bs s (ends true bs g)
            | false ↦ λ s g. behind_plain b bs s c (ends false bs g)
          ]) refl h
    ]) refl e
