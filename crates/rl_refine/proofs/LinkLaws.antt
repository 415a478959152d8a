-- The way along the first states of a class.
use Rattle.std.proofs.Common.{◌≡◌, ℕ, zero, suc, ◌+◌, ◌<◌, ◌≤◌, List, [], ◌∷◌, length, refl, sym, ap, ◌∙◌, subst, arith, slice_set}
use native.Mathlib.Decide.{dec_lt}
use Rattle.rl_minimal.specs.Minimal.{Minimal}
use Rattle.rl_refine.specs.Classes.{class_in}
use Rattle.rl_refine.specs.Splits.{AreZeros, StayTogether, IsFirst, AreCoarse}
use Rattle.rl_refine.specs.Links.{IsNext, AreLinked, IsWith, IsBehind}
use Rattle.rl_refine.proofs.SplitLaws.{stay_self, stay_back, stay_on, first_self, same_first}

set_length : (xs : List ℕ) (p x : ℕ) → length (slice_set xs p x) ≡ length xs
set_length [] zero x = refl
set_length [] (suc p) x = refl
set_length (y ∷ xs) zero x = refl
set_length (y ∷ xs) (suc p) x = ap suc (set_length xs p x)

set_there : (xs : List ℕ) (p x : ℕ) → p < length xs → class_in (slice_set xs p x) p ≡ x
set_there [] p x l = absurd (omega arith)
set_there (y ∷ xs) zero x l = refl
set_there (y ∷ xs) (suc p) x l = set_there xs p x (omega arith)

set_other : (xs : List ℕ) (p x k : ℕ) → (k ≡ p → ⊥) → class_in (slice_set xs p x) k ≡ class_in xs k
set_other [] zero x k n = refl
set_other [] (suc p) x k n = refl
set_other (y ∷ xs) zero x zero n = absurd (n refl)
set_other (y ∷ xs) zero x (suc k) n = refl
set_other (y ∷ xs) (suc p) x zero n = refl
set_other (y ∷ xs) (suc p) x (suc k) n = set_other xs p x k (λ e. n (ap suc e))

pub zeros_linked : (m : Minimal) (old later : List ℕ) → AreZeros later (length m.states) → AreLinked m old later 0
zeros_linked m old later z = record {
  whole = z.whole;
  unused = λ k l. z.each k;
  each = λ k l. absurd (omega arith);
  last = λ p f a b. absurd (omega arith);
  next = λ p l. absurd (omega arith);
}

-- the way has come to `at`, which no first state of the class before it stays together with the i-th
pub record IsOn (m : Minimal) (old : List ℕ) (i at : ℕ) : Type 0 where
  pub within : at ≤ i
  pub class : class_in old at ≡ class_in old i
  pub known : at ≡ i → class_in old i ≡ i
  pub first : IsFirst m old at at
  pub passed : (f : ℕ) → f < at → IsFirst m old f f → class_in old f ≡ class_in old i → StayTogether m old f i → ⊥

module _ (m : Minimal) (old : List ℕ) (coarse : AreCoarse m old) (later : List ℕ) (i : ℕ) (there : i < length m.states) (linked : AreLinked m old later i) where
  first_first : (k f : ℕ) → IsFirst m old k f → IsFirst m old f f
  first_first k f h = first_self m old f (λ j l s. h.least j l (stay_on m old j f k s h.together))

  pub on_start : IsOn m old i (class_in old i)
  on_start =
      let c = coarse.first i there in
      record {
        within = c;
        class = coarse.own i there;
        known = λ e. e;
        first = first_self m old (class_in old i) (λ k l s.
            let e : class_in old k ≡ class_in old i = s.class ∙ coarse.own i there in
            let h : class_in old k ≤ k = coarse.first k (omega (arith, c, there, l)) in
            omega (arith, e, h, l));
        passed = λ f l h e s.
            let b : class_in old f ≤ f = coarse.first f (omega (arith, c, there, l)) in
            omega (arith, e, b, l);
      }

  -- the i-th state is a first one where none before stays together with it
  new_first : ((f : ℕ) → f < i → IsFirst m old f f → class_in old f ≡ class_in old i → StayTogether m old f i → ⊥) → IsFirst m old i i
  new_first n = first_self m old i (λ k l s.
      let p = linked.each k l in
      let w = p.1.within in
      n p.0 (omega (arith, w, l)) (first_first k p.0 p.1) (p.1.together.class ∙ s.class) (stay_on m old p.0 k i p.1.together s))

  pub on_self : IsOn m old i i → IsWith m old i i
  on_self o = record { first = o.first; known = λ e. o.known refl }

  pub on_with : (at : ℕ) → (at ≡ i → ⊥) → IsOn m old i at → StayTogether m old at i → IsWith m old i at
  on_with at d o s = record {
    first = record { within = o.within; together = s; least = λ k l t. o.first.least k l (stay_on m old k i at t (stay_back m old at i s)) };
    known = λ e. absurd (d e);
  }

  pub on_behind : (at : ℕ) → (at ≡ i → ⊥) → IsOn m old i at → (StayTogether m old at i → ⊥) → class_in later at ≡ 0 → IsBehind m old later i at
  on_behind at d o n z = record {
    new = new_first (λ f l h e s. elim (dec_lt f at) [
      | yes b ↦ o.passed f b h e s
      | no c ↦ elim (dec_lt at f) [
        | yes b ↦ linked.last at f b l o.first h (o.class ∙ sym e) z
        | no q ↦ let r : f ≡ at = omega arith in n (subst (λ x. StayTogether m old x i) r s)
      ]
    ]);
    first = o.first;
    before = below;
    class = o.class;
    last = z;
  }
    where
      below : at < i
      below = elim (dec_lt at i) [ yes l ↦ l | no l ↦ let w = o.within in absurd (d (omega (arith, w))) ]

  pub on_next : (at : ℕ) → (at ≡ i → ⊥) → IsOn m old i at → (StayTogether m old at i → ⊥) → 0 < class_in later at → IsOn m old i (class_in later at) × (at < class_in later at)
  on_next at d o n z = (
    record {
      within = let w = next.below in omega (arith, w);
      class = sym next.class ∙ o.class;
      known = λ e. let w = next.below in absurd (omega (arith, e, w));
      first = next.first;
      passed = λ f l h e s. elim (dec_lt f at) [
        | yes b ↦ o.passed f b h e s
        | no c ↦ elim (dec_lt at f) [
          | yes b ↦ next.between f b l h (o.class ∙ sym e)
          | no q ↦ let r : f ≡ at = omega arith in n (subst (λ x. StayTogether m old x i) r s)
        ]
      ];
    },
    next.above,
  )
    where
      below : at < i
      below = elim (dec_lt at i) [ yes l ↦ l | no l ↦ let w = o.within in absurd (d (omega (arith, w))) ]

      next : IsNext m old i at (class_in later at)
      next = linked.next at below o.first z

  wider : (p n : ℕ) → IsNext m old i p n → IsNext m old (i + 1) p n
  wider p n h = record { above = h.above; below = let b = h.below in omega (arith, b); first = h.first; class = h.class; between = h.between }

  each_more : (f : ℕ) → IsFirst m old i f → (k : ℕ) → k < i + 1 → (g : ℕ) × IsFirst m old k g
  each_more f h k l = elim (dec_lt k i) [
    | yes p ↦ linked.each k p
    | no n ↦ let e : i ≡ k = omega arith in (f, subst (λ x. IsFirst m old x f) e h)
  ]

  pub linked_with : (f : ℕ) → IsWith m old i f → AreLinked m old later (i + 1)
  linked_with f w = record {
    whole = linked.whole;
    unused = λ k l. linked.unused k (omega arith);
    each = each_more f w.first;
    last = λ p g a b h j e z. elim (dec_lt g i) [
      | yes l ↦ linked.last p g a l h j e z
      | no n ↦
          let q : g ≡ i = omega arith in
          let s : f ≡ i = same_first m old i i f i w.first (subst (λ x. IsFirst m old x x) q j) (stay_self m old i) in
          let k : class_in old i ≡ i = w.known s in
          let c : class_in old p ≡ i = e ∙ ap (class_in old) q ∙ k in
          let u : class_in old p ≤ p = coarse.first p (omega (arith, there, a, q)) in
          omega (arith, c, u, a, q)
    ];
    next = λ p l h z. elim (dec_lt p i) [
      | yes b ↦ wider p (class_in later p) (linked.next p b h z)
      | no n ↦ let u = linked.unused p (omega arith) in absurd (omega (arith, u, z))
    ];
  }

  module _ (at : ℕ) (b : IsBehind m old later i at) where
    abbrev set : List ℕ
    set = slice_set later at i

    set_is : class_in set at ≡ i
    set_is = set_there later at i (let w = linked.whole in let l = b.before in omega (arith, w, l, there))

    pub linked_behind : AreLinked m old (slice_set later at i) (i + 1)
    linked_behind = record {
      whole = set_length later at i ∙ linked.whole;
      unused = λ k l. set_other later at i k (λ e. let c = b.before in omega (arith, e, c, l)) ∙ linked.unused k (omega arith);
      each = each_more i b.new;
      last = λ p g a l h j e z. elim (dec_lt p at) [
        | yes x ↦ lasts p g a l h j e z (λ q. omega (arith, q, x))
        | no n ↦ elim (dec_lt at p) [
          | yes x ↦ lasts p g a l h j e z (λ q. omega (arith, q, x))
          | no o ↦
              let q : at ≡ p = omega arith in
              let y : i ≡ 0 = sym set_is ∙ ap (class_in set) q ∙ z in
              let c = b.before in
              omega (arith, y, c)
        ]
      ];
      next = λ p l h z. elim (dec_lt p at) [
        | yes x ↦ nexts p l h z (λ q. omega (arith, q, x))
        | no n ↦ elim (dec_lt at p) [
          | yes x ↦ nexts p l h z (λ q. omega (arith, q, x))
          | no o ↦ let q : at ≡ p = omega arith in subst (λ x. IsNext m old (i + 1) x (class_in set x)) q (subst (IsNext m old (i + 1) at) (sym set_is) mine)
        ]
      ];
    }
      where
        mine : IsNext m old (i + 1) at i
        mine = record {
          above = b.before;
          below = omega arith;
          first = b.new;
          class = b.class;
          between = λ f x y h e. linked.last at f x y b.first h e b.last;
        }

        nexts : (p : ℕ) → p < i + 1 → IsFirst m old p p → 0 < class_in set p → (p ≡ at → ⊥) → IsNext m old (i + 1) p (class_in set p)
        nexts p l h z d =
            let s : class_in set p ≡ class_in later p = set_other later at i p d in
            let y : 0 < class_in later p = subst (λ x. 0 < x) s z in
            elim (dec_lt p i) [
              | yes x ↦ subst (IsNext m old (i + 1) p) (sym s) (wider p (class_in later p) (linked.next p x h y))
              | no n ↦ let u = linked.unused p (omega arith) in absurd (omega (arith, u, y))
            ]

        lasts : (p g : ℕ) → p < g → g < i + 1 → IsFirst m old p p → IsFirst m old g g → class_in old p ≡ class_in old g → class_in set p ≡ 0 → (p ≡ at → ⊥) → ⊥
        lasts p g a l h j e z d =
            let y : class_in later p ≡ 0 = sym (set_other later at i p d) ∙ z in
            elim (dec_lt g i) [
              | yes x ↦ linked.last p g a x h j e y
              | no n ↦
                  let q : g ≡ i = omega arith in
                  let c : class_in old p ≡ class_in old at = e ∙ ap (class_in old) q ∙ sym b.class in
                  elim (dec_lt p at) [
                    | yes x ↦ linked.last p at x b.before h b.first c y
                    | no o ↦ linked.last at p (omega (arith, d, o)) (omega (arith, a, q)) b.first h (sym c) b.last
                  ]
            ]
