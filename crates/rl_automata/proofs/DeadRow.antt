-- Nothing that ('ab' $A) & 'ac' reaches can end.
use Rattle.std.proofs.Common.{◌≡◌, ℕ, ℤ, Bool, true, false, cond, not, ◌&&◌, ◌||◌, List, [], ◌∷◌, refl, sym, ◌∙◌, ap, subst, Some, None, true≢false, pos, negsuc, arith, nat_le, ◌≤◌, leb-true}
use Rattle.std.specs.List.{list_any}
use Rattle.rl_types.specs.declared.numbers.Letter.{Letter}
use Rattle.rl_types.specs.KeyRange.{in_range}
use Rattle.rl_labels.specs.Carries.{no_carry}
use Rattle.rl_automata.specs.declared.moves.Move.{Move}
use Rattle.rl_automata.specs.Auto.{Auto, set_auto, cat_auto, every_auto, and_auto, quiet}
use Rattle.rl_automata.specs.Nodes.{Conf, Ends, TellsLive, carry_of}
use Rattle.rl_automata.specs.Sites.{raw_auto}
use Rattle.rl_automata.specs.Rows.{apart, action}
use Rattle.rl_automata.proofs.Congruence.{reach_all, some_in, none_in}

-- one character, whose set holds the letter at hand or not
abbrev given : Bool → Auto Bool
given holds = record (set_auto []) { step = λ c l. cond (not c && holds) (Some (record { to = true; carry = no_carry })) None }

abbrev At : Type 0
At = Conf apart

abbrev tried : Bool → Bool → Bool → Auto At
tried a b c = and_auto (every_auto (quiet (cat_auto (given a) (given b))) (carry_of (action 1 1))) (quiet (cat_auto (given a) (given c)))

abbrev raw : Auto At
raw = raw_auto apart ((tt, tt), (tt, tt))

-- what is reached
data Met : At → Type 0 where
  at_start : Met (Some (Some false, []), Some (Some false, []))
  after_a : Met (Some (Some true, []), Some (Some true, []))
  after_b : Met (Some (None, true ∷ []), None)
  after_c : Met (None, Some (None, true ∷ []))

to_there : (t : At) (c : _) (m : Move At) → Met t → Some (record { to = t; carry = c }) ≡ Some m → Met m.to
to_there t c m h e = subst Met (ap (λ w. w.to) (some_in (record { to = t; carry = c }) m e)) h

moved : (a b c : Bool) (l : Letter) → (b ≡ true → c ≡ true → ⊥) → (s : At) → Met s → (m : Move At) → (tried a b c).step s l ≡ Some m → Met m.to
moved a b c l x s at_start m e = first a e
  where
    first : (a : Bool) → (tried a b c).step (Some (Some false, []), Some (Some false, [])) l ≡ Some m → Met m.to
    first true e = to_there _ _ m after_a e
    first false e = none_in m e
moved a b c l x s after_a m e = second b c x e
  where
    second : (b c : Bool) → (b ≡ true → c ≡ true → ⊥) → (tried a b c).step (Some (Some true, []), Some (Some true, [])) l ≡ Some m → Met m.to
    second true true x e = absurd (x refl refl)
    second true false x e = to_there _ _ m after_b e
    second false true x e = to_there _ _ m after_c e
    second false false x e = none_in m e
moved a b c l x s after_b m e = none_in m e
moved a b c l x s after_c m e = none_in m e

not_final : (s : At) → Met s → raw.final s ≡ false
not_final s at_start = refl
not_final s after_a = refl
not_final s after_b = refl
not_final s after_c = refl

and_parts : (a b : Bool) → ((a && b) || false) ≡ true → (a ≡ true) × (b ≡ true)
and_parts true true e = (refl, refl)
and_parts true false e = absurd (true≢false (sym e))
and_parts false b e = absurd (true≢false (sym e))

-- no letter is both b and c
b_or_c : (k : ℤ) → list_any (in_range k) (record { lo = pos 98; hi = pos 98 } ∷ []) ≡ true → list_any (in_range k) (record { lo = pos 99; hi = pos 99 } ∷ []) ≡ true → ⊥
b_or_c (pos n) e f = above n (leb-true n 98 (and_parts (nat_le 98 n) (nat_le n 98) e).1) (leb-true 99 n (and_parts (nat_le 99 n) (nat_le n 99) f).0)
  where
    above : (n : ℕ) → n ≤ 98 → 99 ≤ n → ⊥
    above n low high = omega arith
b_or_c (negsuc n) e f = true≢false (sym e)

step_met : (s : At) (l : Letter) (m : Move At) → Met s → raw.step s l ≡ Some m → Met m.to
step_met s l m h e = moved (list_any (in_range l.key) (record { lo = pos 97; hi = pos 97 } ∷ [])) (list_any (in_range l.key) (record { lo = pos 98; hi = pos 98 } ∷ []))
    (list_any (in_range l.key) (record { lo = pos 99; hi = pos 99 } ∷ [])) l (b_or_c l.key) s h m e

never_ends : (w : List Letter) (s : At) → Met s → Ends raw w s → ⊥
never_ends [] s h e = true≢false (sym e ∙ not_final s h)
never_ends (l ∷ w) s h (m, p, e) = never_ends w m.to (step_met s l m h p) e

pub apart_is_dead : TellsLive raw (λ c. false)
apart_is_dead c r = (
  (λ e. absurd (true≢false (sym e))),
  (λ x. absurd (never_ends x.0 c (reach_all Met at_start (λ s q h l m e. step_met s l m h e) c r) x.1)),
)
