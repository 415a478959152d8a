-- The characters of a text, one byte more.
use Rattle.std.proofs.Common.{◌≡◌, ℕ, ◌+◌, ◌<◌, ◌≤◌, Bool, true, false, List, [], ◌∷◌, ◌++◌, length, drop, get_or, refl, sym, ap, ◌∙◌, append_assoc, drop-cons, add-one}
use Rattle.std.proofs.lemmas.List.{append-nil, drop_all}
use Rattle.std.specs.Prelude.{Option, Some, None, option_to_list}
use Rattle.rl_leaves.specs.declared.text.Character.{Character}
use Rattle.rl_leaves.specs.Texts.{character, slash_behind, before, characters}

before_is : (c : Option Character) (cs : List Character) → before c cs ≡ option_to_list c ++ cs
before_is None cs = refl
before_is (Some c) cs = refl

first : (slash : Bool) (b : ℕ) (bs : List ℕ) → characters slash (b ∷ bs) ≡ option_to_list (character slash b) ++ characters (slash_behind slash b) bs
unfolding characters
first true b bs = before_is (character true b) (characters (slash_behind true b) bs)
first false b bs = before_is (character false b) (characters (slash_behind false b) bs)

-- a turn of the loop
pub one_more : (whole : List Character) (bytes : List ℕ) (found : List Character) (slash : Bool) (i : ℕ) → i < length bytes
    → found ++ characters slash (drop i bytes) ≡ whole
    → (found ++ option_to_list (character slash (get_or bytes i 0))) ++ characters (slash_behind slash (get_or bytes i 0)) (drop (i + 1) bytes) ≡ whole
one_more whole bytes found slash i less e =
    let b = get_or bytes i 0 in
    let here : drop i bytes ≡ b ∷ drop (i + 1) bytes = rw (add-one, drop-cons bytes i 0) refl in
    append_assoc found (option_to_list (character slash b)) (characters (slash_behind slash b) (drop (i + 1) bytes))
    ∙ (ap (λ z. found ++ z) (sym (first slash b (drop (i + 1) bytes)))
    ∙ (ap (λ z. found ++ characters slash z) (sym here) ∙ e))

none_left : (slash : Bool) → characters slash [] ≡ []
unfolding characters
none_left true = refl
none_left false = refl

pub ends : (whole : List Character) (bytes : List ℕ) (found : List Character) (slash : Bool) (i : ℕ) → length bytes ≤ i
    → found ++ characters slash (drop i bytes) ≡ whole → found ≡ whole
ends whole bytes found slash i over e =
    sym (append-nil found) ∙ (ap (λ z. found ++ z) (sym (none_left slash)) ∙ (ap (λ z. found ++ characters slash z) (sym (drop_all i bytes over)) ∙ e))
