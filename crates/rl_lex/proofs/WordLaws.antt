-- The longest word.
use Rattle.std.proofs.Common.{◌≡◌, ℕ, zero, suc, ◌+◌, ◌<◌, ◌≤◌, true, cond, List, [], ◌∷◌, length, take, drop, Some, None, refl, sym, ap, ◌∙◌, subst, arith}
use Rattle.std.specs.List.{prefix_len}
use Rattle.std.proofs.lemmas.Bool.{false≢true}
use Rattle.rl_arrays.specs.Names.{is_letter}
use Rattle.rl_lexical.specs.declared.context.Context.{Context}
use Rattle.rl_lexical.specs.Bytes.{in_word, begins}
use Rattle.rl_lexical.specs.Fronts.{front_kind}
use Rattle.rl_lexical.specs.Words.{word_kind}
use Rattle.rl_lex.specs.Longest.{IsLongest}
use Rattle.rl_lex.proofs.Classes.{all_front, not_all, front_bound}
use Rattle.rl_lex.proofs.KindLaws.{letter_kind}

in_word_too : (b : ℕ) → is_letter b ≡ true → in_word b ≡ true
in_word_too b h = rw h refl

pub longest_word : (context : Context) (text : List ℕ) → begins is_letter text ≡ true
    → IsLongest context text (word_kind (take (prefix_len in_word text) text)) (prefix_len in_word text)
longest_word context [] h = absurd (false≢true h)
longest_word context (b ∷ bs) h =
    let n = prefix_len in_word bs in
    let one : 1 + n ≡ suc n = omega arith in
    let len : prefix_len in_word (b ∷ bs) ≡ 1 + n = rw (in_word_too b h) refl in
    let bound = front_bound in_word bs in
    let all = all_front in_word bs in
    let P : ℕ → Type 0 = λ z. IsLongest context (b ∷ bs) (word_kind (take z (b ∷ bs))) z in
    subst P (sym len) (record {
      some = omega arith;
      within = omega arith;
      is_token = rw one (letter_kind context (drop n bs) b (take n bs) h ∙ ap (λ z. cond z (Some (word_kind (b ∷ take n bs))) None) all);
      longest = λ m l w. longer context b bs h m l w;
    })
  where
    longer : (context : Context) (b : ℕ) (bs : List ℕ) → is_letter b ≡ true → (m : ℕ) → 1 + prefix_len in_word bs < m → m ≤ length (b ∷ bs)
        → front_kind context (b ∷ bs) m ≡ None
    longer context b bs h zero l w = absurd (omega arith)
    longer context b bs h (suc m) l w =
        let no = not_all in_word bs m (omega arith) (omega arith) in
        letter_kind context (drop m bs) b (take m bs) h ∙ ap (λ z. cond z (Some (word_kind (b ∷ take m bs))) None) no
