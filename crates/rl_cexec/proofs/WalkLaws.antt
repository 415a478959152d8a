-- A step of the walk over code.
use Rattle.std.proofs.Common.{◌≡◌, ℕ, ◌+◌, ◌-◌, ◌<◌, Bool, List, ◌∷◌, ◌++◌, take, drop, length, slice_index_or, sym, ap, ◌∙◌, append_assoc, arith}
use Rattle.std.specs.Prelude.{not}
use Rattle.std.proofs.lemmas.List.{drop_more, take_all, length-drop}
use Rattle.rl_lexical.specs.declared.mode.Mode.{Mode}
use Rattle.rl_lexical.specs.Bytes.{in_word}
use Rattle.rl_lexical.specs.Modes.{mode_behind}
use Rattle.rl_code.specs.declared.word.CodeWord.{CodeWord}
use Rattle.rl_cexec.specs.Code.{Turn, turn, code_from}

-- what one byte prints, and then the rest
front_first : (of_word : CodeWord → List ℕ → Turn) (skip : ℕ) (fresh : Bool) (mode : Mode) (b : ℕ) (bs : List ℕ) (text new whole : List ℕ) (next : ℕ)
    → text ++ code_from of_word skip fresh mode (b ∷ bs) ≡ whole
    → new ≡ text ++ (turn of_word skip fresh mode (b ∷ bs)).text
    → next ≡ (turn of_word skip fresh mode (b ∷ bs)).skip
    → new ++ code_from of_word next (not (in_word b)) (mode_behind mode b) bs ≡ whole
unfolding code_from
front_first of_word skip fresh mode b bs text new whole next so_far printed skipped =
    ap (λ n. n ++ code_from of_word next (not (in_word b)) (mode_behind mode b) bs) printed
    ∙ append_assoc text (turn of_word skip fresh mode (b ∷ bs)).text (code_from of_word next (not (in_word b)) (mode_behind mode b) bs)
    ∙ ap (λ n. text ++ ((turn of_word skip fresh mode (b ∷ bs)).text ++ code_from of_word n (not (in_word b)) (mode_behind mode b) bs)) skipped
    ∙ so_far

-- the same at a place of the code, from which on all is given
pub one_more : (of_word : CodeWord → List ℕ → Turn) (skip : ℕ) (fresh : Bool) (mode : Mode) (code : List ℕ) (at : ℕ) (text new whole : List ℕ) (next : ℕ) (later : Bool) (behind : Mode)
    → at < length code
    → text ++ code_from of_word skip fresh mode (drop at code) ≡ whole
    → new ≡ text ++ (turn of_word skip fresh mode (take (length code - at) (drop at code))).text
    → next ≡ (turn of_word skip fresh mode (take (length code - at) (drop at code))).skip
    → later ≡ in_word (slice_index_or code at 0)
    → behind ≡ mode_behind mode (slice_index_or code at 0)
    → new ++ code_from of_word next (not later) behind (drop (at + 1) code) ≡ whole
one_more of_word skip fresh mode code at text new whole next later behind there so_far printed skipped word moved =
    let cut : drop at code ≡ slice_index_or code at 0 ∷ drop (at + 1) code = drop_more code at 0 there in
    let all : take (length code - at) (drop at code) ≡ drop at code = take_all (length code - at) (drop at code) (omega (arith, length-drop at code)) in
    ap (λ m. new ++ code_from of_word next (not later) m (drop (at + 1) code)) moved
    ∙ ap (λ l. new ++ code_from of_word next (not l) (mode_behind mode (slice_index_or code at 0)) (drop (at + 1) code)) word
    ∙ front_first of_word skip fresh mode (slice_index_or code at 0) (drop (at + 1) code) text new whole next
    (ap (λ xs. text ++ code_from of_word skip fresh mode xs) (sym cut) ∙ so_far)
    (printed ∙ ap (λ xs. text ++ (turn of_word skip fresh mode xs).text) (all ∙ cut))
    (skipped ∙ ap (λ xs. (turn of_word skip fresh mode xs).skip) (all ∙ cut))
