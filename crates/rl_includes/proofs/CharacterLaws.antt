-- The characters of a literal, one byte more.
use Rattle.std.proofs.Common.{◌≡◌, ℕ, ◌+◌, ◌<◌, ◌≤◌, Bool, true, false, List, [], ◌∷◌, ◌++◌, length, drop, get_or, refl, sym, ap, ◌∙◌, append_assoc, drop-cons, add-one}
use Rattle.std.proofs.lemmas.List.{append-nil, drop_all}
use Rattle.std.specs.Prelude.{◌==◌, if◌then◌else◌, option_to_list, Some, None}
use Rattle.rl_grammar.specs.Literals.{escaped, characters}
use Rattle.rl_includes.specs.Characters.{slash_behind, character}

one_or_none : (none : Bool) (c : ℕ) (cs : List ℕ) → (if none then cs else c ∷ cs) ≡ option_to_list (if none then None else Some c) ++ cs
one_or_none true c cs = refl
one_or_none false c cs = refl

none_or_one : (none : Bool) (c : ℕ) (bs : List ℕ)
    → (if none then characters true bs else c ∷ characters false bs) ≡ option_to_list (if none then None else Some c) ++ characters none bs
none_or_one true c bs = refl
none_or_one false c bs = refl

first : (slash : Bool) (b : ℕ) (bs : List ℕ) → characters slash (b ∷ bs) ≡ option_to_list (character slash b) ++ characters (slash_behind slash b) bs
unfolding characters
first true b bs = one_or_none (b == 10) (escaped b) (characters false bs)
first false b bs = none_or_one (b == 92) b bs

pub starts : (bytes : List ℕ) → [] ++ characters false (drop 0 bytes) ≡ characters false bytes
starts bytes = refl

-- a turn of the loop
pub one_more : (whole bytes found : List ℕ) (slash : Bool) (i : ℕ) → i < length bytes → found ++ characters slash (drop i bytes) ≡ whole
    → (found ++ option_to_list (character slash (get_or bytes i 0))) ++ characters (slash_behind slash (get_or bytes i 0)) (drop (i + 1) bytes) ≡ whole
one_more whole bytes found slash i less e =
    let b = get_or bytes i 0 in
    let here : drop i bytes ≡ b ∷ drop (i + 1) bytes = rw (add-one, drop-cons bytes i 0) refl in
    append_assoc found (option_to_list (character slash b)) (characters (slash_behind slash b) (drop (i + 1) bytes))
    ∙ (ap (λ z. found ++ z) (sym (first slash b (drop (i + 1) bytes)))
    ∙ (ap (λ z. found ++ characters slash z) (sym here) ∙ e))

none_left : (slash : Bool) → characters slash [] ≡ []
unfolding characters
none_left true = refl
none_left false = refl

pub ends : (whole bytes found : List ℕ) (slash : Bool) (i : ℕ) → length bytes ≤ i → found ++ characters slash (drop i bytes) ≡ whole → found ≡ whole
ends whole bytes found slash i over e =
    sym (append-nil found) ∙ (ap (λ z. found ++ z) (sym (none_left slash)) ∙ (ap (λ z. found ++ characters slash z) (sym (drop_all i bytes over)) ∙ e))
