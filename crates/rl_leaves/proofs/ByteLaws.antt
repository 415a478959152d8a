-- The characters of a token stand for the bytes that the grammar reads in a literal.
use Rattle.std.proofs.Common.{◌≡◌, ℕ, Bool, true, false, cond, ◌==◌, List, [], ◌∷◌, map, refl, ap}
use Rattle.std.specs.Prelude.{Some, None}
use Rattle.rl_grammar.specs.Literals.{escaped, characters as literal_characters}
use Rattle.rl_leaves.specs.declared.text.Character.{Character}
use Rattle.rl_leaves.specs.Texts.{before, characters}

abbrev bytes : List Character → List ℕ
bytes cs = map (λ (c : Character). c.byte) cs

none_or_one : (none : Bool) (c : Character) (cs : List Character) (bs : List ℕ) → bytes cs ≡ bs
    → bytes (before (cond none None (Some c)) cs) ≡ cond none bs (c.byte ∷ bs)
none_or_one true c cs bs e = e
none_or_one false c cs bs e = ap (λ z. c.byte ∷ z) e

none_then : (none : Bool) (c : Character) (bs : List ℕ) → ((slash : Bool) → bytes (characters slash bs) ≡ literal_characters slash bs)
    → bytes (before (cond none None (Some c)) (characters none bs)) ≡ cond none (literal_characters true bs) (c.byte ∷ literal_characters false bs)
none_then true c bs e = e true
none_then false c bs e = ap (λ z. c.byte ∷ z) (e false)

pub bytes_are : (slash : Bool) (bs : List ℕ) → bytes (characters slash bs) ≡ literal_characters slash bs
unfolding characters literal_characters
bytes_are true [] = refl
bytes_are false [] = refl
bytes_are true (b ∷ bs) =
    none_or_one (b == 10) (record { byte = escaped b; is_escaped = true }) (characters false bs) (literal_characters false bs) (bytes_are false bs)
bytes_are false (b ∷ bs) = none_then (b == 92) (record { byte = b; is_escaped = false }) bs (λ slash. bytes_are slash bs)
