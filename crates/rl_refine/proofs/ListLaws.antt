-- Lists of numbers.
use Rattle.std.proofs.Common.{◌≡◌, ℕ, suc, ◌+◌, ◌-◌, ◌<◌, ◌≤◌, List, [], ◌∷◌, length, refl, sym, arith}
use native.Mathlib.Decide.{dec_lt}
use Rattle.rl_types.specs.declared.numbers.ActionId.{ActionId}
use Rattle.rl_minimal.specs.Minimal.{numbers}
use Rattle.rl_refine.specs.Classes.{class_in}

-- ---- lists of actions by their numbers

cons_same : (x y : ActionId) (xs ys : List ActionId) → x.0 ≡ y.0 → xs ≡ ys → x ∷ xs ≡ y ∷ ys
cons_same x y xs ys e f = λ i. record { 0 = e i } ∷ f i

cons_first : (a b : ℕ) (ks ns : List ℕ) → a ∷ ks ≡ b ∷ ns → a ≡ b
cons_first a b ks ns e = cc

cons_rest : (a b : ℕ) (ks ns : List ℕ) → a ∷ ks ≡ b ∷ ns → ks ≡ ns
cons_rest a b ks ns e = cc

none_cons : (a : ℕ) (ks : List ℕ) → [] ≡ a ∷ ks → ⊥
none_cons a ks e = cc

pub numbers_same : (xs ys : List ActionId) → numbers xs ≡ numbers ys → xs ≡ ys
numbers_same [] [] e = refl
numbers_same [] (y ∷ ys) e = absurd (none_cons y.0 (numbers ys) e)
numbers_same (x ∷ xs) [] e = absurd (none_cons x.0 (numbers xs) (sym e))
numbers_same (x ∷ xs) (y ∷ ys) e = cons_same x y xs ys (cons_first x.0 y.0 (numbers xs) (numbers ys) e) (numbers_same xs ys (cons_rest x.0 y.0 (numbers xs) (numbers ys) e))

-- ---- how much each class may still rise, up to the number of its state

abbrev pub room_from : ℕ → List ℕ → ℕ
room_from i [] = 0
room_from i (c ∷ cs) = (i - c) + room_from (suc i) cs

-- the new numbers are no lower, and none is above its place
pub record AreHigher (i : ℕ) (old new : List ℕ) : Type 0 where
  pub whole : length new ≡ length old
  pub each : (k : ℕ) → k < length old → class_in old k ≤ class_in new k
  pub within : (k : ℕ) → k < length old → class_in new k ≤ i + k

rest_higher : (i c d : ℕ) (old new : List ℕ) → AreHigher i (c ∷ old) (d ∷ new) → AreHigher (suc i) old new
rest_higher i c d old new h = record {
  whole = let w : suc (length new) ≡ suc (length old) = h.whole in omega arith;
  each = λ k l. h.each (suc k) (omega arith);
  within = λ k l. let w : class_in new k ≤ i + suc k = h.within (suc k) (omega arith) in omega arith;
}

room_falls : (i : ℕ) (old new : List ℕ) → AreHigher i old new → room_from i new ≤ room_from i old
room_falls i [] [] h = omega arith
room_falls i [] (d ∷ new) h = absurd (let w : suc (length new) ≡ 0 = h.whole in omega arith)
room_falls i (c ∷ old) [] h = absurd (let w : 0 ≡ suc (length old) = h.whole in omega arith)
room_falls i (c ∷ old) (d ∷ new) h =
    let e : c ≤ d = h.each 0 (omega arith) in
    let r = room_falls (suc i) old new (rest_higher i c d old new h) in
    omega (arith, r, e)

same_cons : (c d : ℕ) (old new : List ℕ) → c ≡ d → old ≡ new → c ∷ old ≡ d ∷ new
same_cons c d old new p q = λ i. p i ∷ q i

pub room_less : (i : ℕ) (old new : List ℕ) → AreHigher i old new → (new ≡ old → ⊥) → room_from i new < room_from i old
room_less i [] [] h n = absurd (n refl)
room_less i [] (d ∷ new) h n = absurd (let w : suc (length new) ≡ 0 = h.whole in omega arith)
room_less i (c ∷ old) [] h n = absurd (let w : 0 ≡ suc (length old) = h.whole in omega arith)
room_less i (c ∷ old) (d ∷ new) h n =
    let e : c ≤ d = h.each 0 (omega arith) in
    let w : d ≤ i + 0 = h.within 0 (omega arith) in
    let hs = rest_higher i c d old new h in
    elim (dec_lt c d) [
      | yes l ↦ let r = room_falls (suc i) old new hs in omega (arith, r, l, w)
      | no l ↦
          let s : d ≡ c = omega arith in
          let r = room_less (suc i) old new hs (λ q. n (same_cons d c new old s q)) in
          omega (arith, r, e)
    ]
