-- States that stay together, and the first of them.
use Rattle.std.proofs.Common.{◌≡◌, ℕ, zero, suc, ◌+◌, ◌<◌, ◌≤◌, List, [], ◌∷◌, ◌++◌, length, refl, sym, ap, ◌∙◌, subst, arith, length-append}
use native.Mathlib.Decide.{dec_lt}
use Rattle.rl_minimal.specs.Minimal.{Minimal}
use Rattle.rl_refine.specs.Classes.{class_in}
use Rattle.rl_refine.specs.Splits.{AreZeros, StayTogether, IsFirst, AreSplit, AreCoarse}
use Rattle.rl_refine.proofs.ListLaws.{room_from, room_less}

module _ (m : Minimal) (cs : List ℕ) where
  pub stay_self : (i : ℕ) → StayTogether m cs i i
  stay_self i = record {
    class = refl;
    from = refl;
    to = refl;
    eof = refl;
    error = refl;
    token = refl;
    is_error = refl;
    verdict = refl;
    kind = refl;
    home = refl;
    steps = record { asked = λ k. refl; led = λ l. refl };
  }

  pub stay_back : (i j : ℕ) → StayTogether m cs i j → StayTogether m cs j i
  stay_back i j s = record {
    class = sym s.class;
    from = sym s.from;
    to = sym s.to;
    eof = sym s.eof;
    error = sym s.error;
    token = sym s.token;
    is_error = sym s.is_error;
    verdict = sym s.verdict;
    kind = sym s.kind;
    home = sym s.home;
    steps = record { asked = λ k. sym (s.steps.asked k); led = λ l. sym (s.steps.led l) };
  }

  pub stay_on : (i j k : ℕ) → StayTogether m cs i j → StayTogether m cs j k → StayTogether m cs i k
  stay_on i j k s t = record {
    class = s.class ∙ t.class;
    from = s.from ∙ t.from;
    to = s.to ∙ t.to;
    eof = s.eof ∙ t.eof;
    error = s.error ∙ t.error;
    token = s.token ∙ t.token;
    is_error = s.is_error ∙ t.is_error;
    verdict = s.verdict ∙ t.verdict;
    kind = s.kind ∙ t.kind;
    home = s.home ∙ t.home;
    steps = record { asked = λ k. s.steps.asked k ∙ t.steps.asked k; led = λ l. s.steps.led l ∙ t.steps.led l };
  }

  -- a state that no earlier one stays together with is its own first
  pub first_self : (i : ℕ) → ((k : ℕ) → k < i → StayTogether m cs k i → ⊥) → IsFirst m cs i i
  first_self i n = record { within = omega arith; together = stay_self i; least = n }

  -- the first states of two that stay together are one
  pub same_first : (i j a b : ℕ) → IsFirst m cs i a → IsFirst m cs j b → StayTogether m cs i j → a ≡ b
  same_first i j a b p q s = elim (dec_lt a b) [
    | yes l ↦ absurd (q.least a l (stay_on a i j p.together s))
    | no n ↦ elim (dec_lt b a) [
      | yes l ↦ absurd (p.least b l (stay_on b j i q.together (stay_back i j s)))
      | no o ↦ omega arith
    ]
  ]

  pub first_shared : (i j a b : ℕ) → IsFirst m cs i a → IsFirst m cs j b → a ≡ b → StayTogether m cs i j
  first_shared i j a b p q e = stay_on i a j (stay_back a i p.together) (subst (λ x. StayTogether m cs x j) (sym e) q.together)

-- ---- classes one after another

get_last : (xs : List ℕ) (x : ℕ) → class_in (xs ++ x ∷ []) (length xs) ≡ x
get_last [] x = refl
get_last (y ∷ xs) x = get_last xs x

get_before : (xs : List ℕ) (x i : ℕ) → i < length xs → class_in (xs ++ x ∷ []) i ≡ class_in xs i
get_before [] x i l = absurd (omega arith)
get_before (y ∷ xs) x zero l = refl
get_before (y ∷ xs) x (suc i) l = get_before xs x i (omega arith)

-- the first states of those below a number
pub record AreSplitBelow (m : Minimal) (old new : List ℕ) (n : ℕ) : Type 0 where
  pub whole : length new ≡ n
  pub first : (i : ℕ) → i < n → IsFirst m old i (class_in new i)

pub split_none : (m : Minimal) (old : List ℕ) → AreSplitBelow m old [] 0
split_none m old = record { whole = refl; first = λ i l. absurd (omega arith) }

pub split_more : (m : Minimal) (old new : List ℕ) (n x : ℕ) → AreSplitBelow m old new n → IsFirst m old n x → AreSplitBelow m old (new ++ x ∷ []) (n + 1)
split_more m old new n x s f = record {
  whole = let w = s.whole in let a = length-append new (x ∷ []) in omega (arith, w, a);
  first = λ i l. elim (dec_lt i n) [
    | yes p ↦ subst (IsFirst m old i) (sym (get_before new x i (let w = s.whole in omega (arith, w)))) (s.first i p)
    | no p ↦
        let e : n ≡ i = omega arith in
        let g : x ≡ class_in (new ++ x ∷ []) n = sym (ap (class_in (new ++ x ∷ [])) (sym s.whole) ∙ get_last new x) in
        subst (λ k. IsFirst m old k (class_in (new ++ x ∷ []) k)) e (subst (IsFirst m old n) g f)
  ];
}

pub split_all : (m : Minimal) (old new : List ℕ) (n : ℕ) → n ≡ length m.states → AreSplitBelow m old new n → AreSplit m old new
split_all m old new n e s = record { whole = s.whole ∙ e; first = λ i l. s.first i (omega (arith, e)) }

pub no_zeros : AreZeros [] 0
no_zeros = record { whole = refl; each = λ i. refl }

zero_more : (xs : List ℕ) → ((i : ℕ) → class_in xs i ≡ 0) → (i : ℕ) → class_in (xs ++ 0 ∷ []) i ≡ 0
zero_more [] h zero = refl
zero_more [] h (suc i) = refl
zero_more (y ∷ xs) h zero = h 0
zero_more (y ∷ xs) h (suc i) = zero_more xs (λ k. h (suc k)) i

pub more_zeros : (xs : List ℕ) (n : ℕ) → AreZeros xs n → AreZeros (xs ++ 0 ∷ []) (n + 1)
more_zeros xs n z = record {
  whole = let w = z.whole in let a = length-append xs (0 ∷ []) in omega (arith, w, a);
  each = zero_more xs z.each;
}

pub zeros_coarse : (m : Minimal) (cs : List ℕ) (n : ℕ) → n ≡ length m.states → AreZeros cs n → AreCoarse m cs
zeros_coarse m cs n e z = record {
  whole = z.whole ∙ e;
  first = λ i l. let h = z.each i in omega (arith, h);
  own = λ i l. z.each (class_in cs i) ∙ sym (z.each i);
  alike = λ context i j l k a. z.each i ∙ sym (z.each j);
}

-- ---- a split falls

pub split_falls : (m : Minimal) (old new : List ℕ) → AreCoarse m old → AreSplit m old new → (new ≡ old → ⊥) → room_from 0 new < room_from 0 old
split_falls m old new c s n = room_less 0 old new (record {
  whole = s.whole ∙ sym c.whole;
  each = λ k l.
      let w = c.whole in
      let f = s.first k (omega (arith, w)) in
      let h : class_in old (class_in new k) ≤ class_in new k = c.first (class_in new k) (let v = f.within in omega (arith, w, v)) in
      let g = f.together.class in
      omega (arith, h, g);
  within = λ k l. let w = c.whole in let f = (s.first k (omega (arith, w))).within in omega (arith, f);
}) n
