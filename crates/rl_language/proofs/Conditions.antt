-- What is heard where each condition is answered as it holds: a step goes by it as by all that holds.
use Rattle.std.proofs.Common.{◌≡◌, ◌≢◌, ℕ, ◌+◌, ◌-◌, ◌^◌, ◌<◌, ◌≤◌, Bool, true, false, cond, true≢false, List, [], ◌∷◌, ◌++◌, ◌⊎◌, inl, inr, refl, sym, ◌∙◌, ap, subst, nat_eq, bit_and, bit_or, min, eq-eqb, eqb-true, arith}
use Rattle.std.specs.Int.{bit_at}
use Rattle.std.proofs.lemmas.Nat.{or_lt}
use Rattle.std.proofs.lemmas.Nat.Bits.{bit_at-zero, bit_at-lt, bit_at-pow_same, bit_at-pow_other, bit_at_above, bit_at_and, bit_at_or}
use Rattle.std.proofs.Math.Nat.{eq-or-lt_of_le}
use Rattle.std.proofs.lemmas.Bool.{cases_lt}
use Rattle.rl_automata.specs.Auto.{holds}
use Rattle.rl_automata.specs.Laws.{AgreeOn}
use Rattle.rl_run.specs.declared.calls.Answer.{Answer}
use Rattle.rl_run.specs.declared.calls.Answer.TheVariants.{Yes, No}
use Rattle.rl_run.specs.declared.calls.Call.{Call}
use Rattle.rl_run.specs.declared.calls.CallKind.TheVariants.{Ask}
use Rattle.rl_run.specs.declared.sessions.Flow.TheVariants.{Goes}
use Rattle.rl_run.specs.declared.sessions.Heard.{Heard}
use Rattle.rl_run.specs.Machine.{Session}
use Rattle.rl_run.specs.declared.sessions.Spot.{Spot}
use Rattle.rl_run.specs.Hosted.{hosted}
use Rattle.rl_run.specs.Play.{Play, done, ask, bind, ended, stands, run}
use Rattle.rl_run.specs.Turn.{conditions, all_conditions, hears, heard, call_of}
use Rattle.rl_language.specs.Verdicts.{IsAnsweredBy, AreAnsweredBy}

-- ---- wherever a program may end, with answers of a sort

abbrev pub EndsBy : {A : Type 0} → (Call → Answer → Type 0) → (A → Type 0) → Play A → Type 0
EndsBy Fits P (done a) = P a
EndsBy Fits P (ask c f) = (x : Answer) → Fits c x → EndsBy Fits P (f x)

pub ends_bind : {A B : Type 0} (Fits : Call → Answer → Type 0) (P : A → Type 0) (Q : B → Type 0) (p : Play A) (k : A → Play B) → EndsBy Fits P p → ((a : A) → P a → EndsBy Fits Q (k a)) → EndsBy Fits Q (bind p k)
ends_bind Fits P Q (done a) k h f = f a h
ends_bind Fits P Q (ask c g) k h f = λ x e. ends_bind Fits P Q (g x) k (h x e) f

pub some_end : {A : Type 0} (a b : A) → ended a ≡ ended b → a ≡ b
some_end a b e = cc

pub no_end : {A X : Type 0} (p : Play A) (a : A) → stands p ≡ ended a → X
no_end p a e = cc

-- what holds wherever it may end holds where it ends
pub ends_run : {A : Type 0} (truths : ℕ → ℕ) (P : A → Type 0) (p : Play A) (answers : List Answer) (a : A) → EndsBy (IsAnsweredBy truths) P p
    → AreAnsweredBy truths (run p answers).calls answers → (run p answers).reached ≡ ended a → P a
ends_run truths P (done b) answers a h g e = subst P (some_end b a e) h
ends_run truths P (ask c f) [] a h g e = no_end (ask c f) a e
ends_run truths P (ask c f) (x ∷ answers) a h g e = ends_run truths P (f x) answers a (h x g.0) g.1 e

-- the same against a host whose answers are of the sort
pub ends_hosted : {A : Type 0} (Fits : Call → Answer → Type 0) (P : A → Type 0) (host : List Call → Answer) → ((past : List Call) (c : Call) → Fits c (host (past ++ c ∷ []))) → (p : Play A) (past : List Call) → EndsBy Fits P p → P (hosted host past p).1
ends_hosted Fits P host fits (done a) past h = h
ends_hosted Fits P host fits (ask c f) past h = ends_hosted Fits P host fits (f (host (past ++ c ∷ []))) (past ++ c ∷ []) (h (host (past ++ c ∷ [])) (fits past c))

-- ---- bits

module _ (asked t : ℕ) where
  -- the first n conditions are heard
  record Knows (n hold : ℕ) : Type 0 where
    below : (i : ℕ) → i < n → bit_at asked i ≡ 1 → bit_at hold i ≡ bit_at t i
    above : (i : ℕ) → n ≤ i → bit_at hold i ≡ 0
    small : hold < 2 ^ 8

  -- what is known below n, and of n, is known below n + 1
  next_below : (n hold more : ℕ) → Knows n hold → ((i : ℕ) → i < n → bit_at more i ≡ bit_at hold i) → (bit_at asked n ≡ 1 → bit_at more n ≡ bit_at t n)
      → (i : ℕ) → i < n + 1 → bit_at asked i ≡ 1 → bit_at more i ≡ bit_at t i
  next_below n hold more k same here i lt a =
      let r : (i ≡ n) ⊎ (i < n) = eq-or-lt_of_le (omega arith) in
      elim r [
        | inl e ↦ subst (λ j. bit_at more j ≡ bit_at t j) (sym e) (here (ap (bit_at asked) (sym e) ∙ a))
        | inr l ↦ same i l ∙ k.below i l a
      ]

  begins : Knows 0 0
  begins = record { below = λ i lt a. absurd (omega arith); above = λ i le. bit_at-zero i; small = omega arith }

  skips : (n bit hold : ℕ) → bit ≡ 2 ^ n → nat_eq (bit_and asked bit) 0 ≡ true → Knows n hold → Knows (n + 1) hold
  skips n bit hold p z k = record {
    below = next_below n hold hold k (λ i l. refl) (λ a. absurd (never a));
    above = λ i le. k.above i (omega arith);
    small = k.small;
  }
    where
      never : bit_at asked n ≡ 1 → ⊥
      never a =
          let set : bit_at bit n ≡ 1 = ap (λ w. bit_at w n) p ∙ bit_at-pow_same n in
          let none : bit_at (bit_and asked bit) n ≡ 0 = ap (λ w. bit_at w n) (eqb-true (bit_and asked bit) 0 z) ∙ bit_at-zero n in
          let both : bit_at (bit_and asked bit) n ≡ min (bit_at asked n) (bit_at bit n) = bit_at_and asked bit n in
          omega (arith, set, none, both, a)

  other_bit : (n bit i : ℕ) → bit ≡ 2 ^ n → i ≢ n → bit_at bit i ≡ 0
  other_bit n bit i p ne = ap (λ w. bit_at w i) p ∙ bit_at-pow_other n i ne

  hears_yes : (n bit hold : ℕ) → bit ≡ 2 ^ n → bit < 2 ^ 8 → bit_at t n ≡ 1 → Knows n hold → Knows (n + 1) (bit_or hold bit)
  hears_yes n bit hold p low b k = record {
    below = next_below n hold (bit_or hold bit) k
        (λ i l. let ne : i ≢ n = omega arith in let z : bit_at bit i ≡ 0 = other_bit n bit i p ne in omega (arith, bit_at_or hold bit i, z))
        (λ a. let set : bit_at bit n ≡ 1 = ap (λ w. bit_at w n) p ∙ bit_at-pow_same n in let z : bit_at hold n ≡ 0 = k.above n (omega arith) in omega (arith, bit_at_or hold bit n, set, z, b));
    above = λ i le. let ne : i ≢ n = omega arith in let z : bit_at bit i ≡ 0 = other_bit n bit i p ne in let y : bit_at hold i ≡ 0 = k.above i (omega arith) in omega (arith, bit_at_or hold bit i, z, y);
    small = or_lt 8 hold bit k.small low;
  }

  hears_no : (n hold : ℕ) → bit_at t n ≡ 0 → Knows n hold → Knows (n + 1) hold
  hears_no n hold b k = record {
    below = next_below n hold hold k (λ i l. refl) (λ a. k.above n (omega arith) ∙ sym b);
    above = λ i le. k.above i (omega arith);
    small = k.small;
  }

  -- all are heard
  agrees : (hold : ℕ) → t < 2 ^ 8 → Knows 8 hold → AgreeOn asked t hold
  agrees hold low k c h = ap (λ w. nat_eq w 1) (sym (same (c - 1) (eqb-true (bit_at asked (c - 1)) 1 h)))
    where
      same : (i : ℕ) → bit_at asked i ≡ 1 → bit_at hold i ≡ bit_at t i
      same i a =
          let r : (i < 8) ⊎ (8 ≤ i) = cases_lt i 8 in
          elim r [
            | inl l ↦ k.below i l a
            | inr g ↦ k.above i g ∙ sym (bit_at_above t 8 i low g)
          ]

-- ---- what is heard

module _ {S : Type 0} (Fits : Call → Answer → Type 0) (truths : ℕ → ℕ) (fit : (c : Call) (x : Answer) → Fits c x → IsAnsweredBy truths c x) (spot : Spot) (s : Session S) (asked : ℕ) (low : truths spot.at < 2 ^ 8) where
  abbrev t : ℕ
  t = truths spot.at

  -- all conditions were heard, as far as they are asked
  pub record HearsAll (h : Heard) : Type 0 where
    pub hold : ℕ
    pub is : h ≡ heard Goes hold
    pub agree : AgreeOn asked t hold
    pub small : hold < 2 ^ 8

  -- these are the conditions behind the first n
  abbrev AreBehind : ℕ → List (ℕ × ℕ) → Type 0
  AreBehind n [] = n ≡ 8
  AreBehind n (c ∷ cs) = (c.0 ≡ n + 1) × (c.1 ≡ 2 ^ n) × (c.1 < 2 ^ 8) × AreBehind (n + 1) cs

  holds_at : (c n : ℕ) (b : Bool) → c ≡ n + 1 → holds c t ≡ b → nat_eq (bit_at t n) 1 ≡ b
  holds_at c n b e h = ap (λ i. nat_eq (bit_at t i) 1) (place c n e) ∙ h
    where
      place : (c n : ℕ) → c ≡ n + 1 → n ≡ c - 1
      place c n e = omega arith

  bit_zero : (n : ℕ) → nat_eq (bit_at t n) 1 ≡ false → bit_at t n ≡ 0
  bit_zero n e =
      let ne : bit_at t n ≢ 1 = λ p. true≢false (sym (eq-eqb (bit_at t n) 1 p) ∙ e) in
      omega (arith, bit_at-lt t n, ne)

  heard_from : (n : ℕ) (cs : List (ℕ × ℕ)) (hold : ℕ) → AreBehind n cs → Knows asked t n hold → EndsBy Fits HearsAll (conditions spot s asked cs hold)
  heard_from n [] hold e k = record { hold = hold; is = refl; agree = agrees asked t hold low (subst (λ i. Knows asked t i hold) e k); small = k.small }
  heard_from n (c ∷ cs) hold (number, bit, few, behind) k = by (nat_eq (bit_and asked c.1) 0) refl
      (λ z. heard_from (n + 1) cs hold behind (skips asked t n c.1 hold bit z k))
      (λ x. heard_from (n + 1) cs (bit_or hold c.1) behind (hears_yes asked t n c.1 hold bit few (eqb-true (bit_at t n) 1 (holds_at c.0 n true number x)) k))
      (λ x. heard_from (n + 1) cs hold behind (hears_no asked t n hold (bit_zero n (holds_at c.0 n false number x)) k))
    where
      answered : (b : Bool) → holds c.0 t ≡ b
          → (holds c.0 t ≡ true → EndsBy Fits HearsAll (conditions spot s asked cs (bit_or hold c.1)))
          → (holds c.0 t ≡ false → EndsBy Fits HearsAll (conditions spot s asked cs hold))
          → EndsBy Fits HearsAll (hears (cond b Yes No) c.1 hold (λ h. conditions spot s asked cs h))
      answered true e f g = f e
      answered false e f g = g e

      by : (b : Bool) → nat_eq (bit_and asked c.1) 0 ≡ b
          → (nat_eq (bit_and asked c.1) 0 ≡ true → EndsBy Fits HearsAll (conditions spot s asked cs hold))
          → (holds c.0 t ≡ true → EndsBy Fits HearsAll (conditions spot s asked cs (bit_or hold c.1)))
          → (holds c.0 t ≡ false → EndsBy Fits HearsAll (conditions spot s asked cs hold))
          → EndsBy Fits HearsAll (cond b (conditions spot s asked cs hold) (ask (call_of spot Ask c.0 s) (λ x. hears x c.1 hold (λ h. conditions spot s asked cs h))))
      by true e skip f g = skip e
      by false e skip f g = λ x a. subst (λ y. EndsBy Fits HearsAll (hears y c.1 hold (λ h. conditions spot s asked cs h))) (sym (fit (call_of spot Ask c.0 s) x a refl)) (answered (holds c.0 t) refl f g)

  pub all_heard : EndsBy Fits HearsAll (conditions spot s asked all_conditions 0)
  all_heard = heard_from 0 all_conditions 0
      (refl, refl, omega arith, (refl, refl, omega arith, (refl, refl, omega arith, (refl, refl, omega arith, (refl, refl, omega arith, (refl, refl, omega arith, (refl, refl, omega arith, (refl, refl, omega arith, refl))))))))
      (begins asked t)
