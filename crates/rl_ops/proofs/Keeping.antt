-- The candidates that are kept.
use Rattle.std.proofs.Common.{◌≡◌, ℕ, ◌&&◌, List, [], ◌∷◌, ◌++◌, option_map, refl, ap, sym, ◌∙◌}
use Rattle.rl_labels.specs.declared.carry.Carry.{Carry}
use Rattle.rl_automata.specs.declared.moves.Move.{Move}
use Rattle.rl_automata.specs.Auto.{carries, targets, kept, settle, step_to, is_none_left}
use Rattle.rl_automata.specs.Follows.{renamed}
use Rattle.rl_ops.specs.Settled.{Sides, all_carries, settled}

settled_is : (ls rs : List (Move ℕ)) (lefts rights : List ℕ) (parts : List Carry)
    → lefts ≡ targets (kept (all_carries ls rs) ls) → rights ≡ targets (kept (all_carries ls rs) rs) → parts ≡ carries (kept (all_carries ls rs) ls) ++ carries (kept (all_carries ls rs) rs)
    → settled ls rs ≡ step_to (lefts, rights) parts
unfolding settled
settled_is ls rs lefts rights parts l r p = λ i. step_to (sym l i, sym r i) (sym p i)

pub settled_from : (ls rs : List (Move ℕ)) (l0 r0 lefts rights : List ℕ) (p0 p1 p2 : List Carry) → l0 ≡ [] → r0 ≡ [] → p0 ≡ []
    → lefts ≡ l0 ++ targets (kept (all_carries ls rs) ls) → p1 ≡ p0 ++ carries (kept (all_carries ls rs) ls) → rights ≡ r0 ++ targets (kept (all_carries ls rs) rs) → p2 ≡ p1 ++ carries (kept (all_carries ls rs) rs)
    → settled ls rs ≡ step_to (lefts, rights) p2
settled_from ls rs l0 r0 lefts rights p0 p1 p2 a b c d e f g =
    settled_is ls rs lefts rights p2 (d ∙ ap (λ w. w ++ targets (kept (all_carries ls rs) ls)) a) (f ∙ ap (λ w. w ++ targets (kept (all_carries ls rs) rs)) b)
    (g ∙ ap (λ w. w ++ carries (kept (all_carries ls rs) rs)) (e ∙ ap (λ w. w ++ carries (kept (all_carries ls rs) ls)) c))

step_to-map : {C D : Type 0} (h : C → D) (c : C) (parts : List Carry) → option_map (renamed h) (step_to c parts) ≡ step_to (h c) parts
step_to-map h c [] = refl
step_to-map h c (x ∷ parts) = refl

pub settled-map : {D : Type 0} (h : Sides → D) (ls rs : List (Move ℕ)) → option_map (renamed h) (settled ls rs) ≡ settle (λ ss ts. h (ss, ts)) ls rs
unfolding settled
settled-map h ls rs =
    step_to-map h (targets (kept (all_carries ls rs) ls), targets (kept (all_carries ls rs) rs)) (carries (kept (all_carries ls rs) ls) ++ carries (kept (all_carries ls rs) rs))

pub none_both : (xs ys : List Carry) → is_none_left (xs ++ ys) ≡ (is_none_left xs && is_none_left ys)
none_both [] ys = refl
none_both (x ∷ xs) ys = refl
