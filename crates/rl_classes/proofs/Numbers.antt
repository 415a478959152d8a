-- Numbers in place of values, by a list of the values.
use Rattle.std.proofs.Common.{◌≡◌, ◌≢◌, ℕ, zero, suc, ◌+◌, ◌<◌, ◌≤◌, ◌⊎◌, Bool, true, false, cond, List, [], ◌∷◌, ◌++◌, length, take, map, Option, Some, None, refl, sym, ap, ◌∙◌, subst, inl, inr, arith}
use Rattle.std.specs.Prelude.{ℤ, ◌≤ℤ◌, ◌<ℤ◌, int_le, slice_get, AllPairs}
use Rattle.std.proofs.lemmas.Bool.{cases_order}
use Rattle.std.proofs.Common.{eqb, ◌&&◌, Decides}
use Rattle.std.proofs.lemmas.Bool.Decides.{Decides-eqb}
use Rattle.std.proofs.lemmas.Option.{slice_get_within, get_or_from_slice_get, slice_get-get_or}
use Rattle.std.proofs.lemmas.List.{get_or_append_left}
use Rattle.rl_classes.specs.declared.steps.Step.{Step}
use Rattle.rl_classes.specs.declared.steps.Steps.{Steps}
use Rattle.rl_classes.specs.Steps.{Ascend, froms, value_from, value_at, IsPairOf}
use Rattle.rl_classes.specs.Sets.{Renumbers, GoesOn}

-- the steps have the numbers of the values of others
abbrev pub Number : {T : Type 0} → List T → List (Step ℕ) → List (Step T) → Type 0
Number ks [] [] = Unit {0}
Number ks (s ∷ ss) (p ∷ ps) = (s.from ≡ p.from) × (slice_get ks s.value ≡ Some p.value) × Number ks ss ps
Number ks [] (p ∷ ps) = ⊥
Number ks (s ∷ ss) [] = ⊥

still_there : {T : Type 0} → (ks more : List T) (n : ℕ) (x : T) → slice_get ks n ≡ Some x → slice_get (ks ++ more) n ≡ Some x
still_there [] more n x e = absurd cc
still_there (k ∷ ks) more zero x e = e
still_there (k ∷ ks) more (suc n) x e = still_there ks more n x e

pub stays : {T : Type 0} → (ks whole : List T) (n : ℕ) (x : T) → GoesOn ks whole → slice_get ks n ≡ Some x → slice_get whole n ≡ Some x
stays ks whole n x g e = rw g.1 (still_there ks g.0 n x e)

pub Number-grows : {T : Type 0} → (ks whole : List T) (ss : List (Step ℕ)) (ps : List (Step T)) → GoesOn ks whole → Number ks ss ps → Number whole ss ps
Number-grows ks whole [] [] g h = tt
Number-grows ks whole (s ∷ ss) (p ∷ ps) g h = (h.0, stays ks whole s.value p.value g h.1, Number-grows ks whole ss ps g h.2)
Number-grows ks whole [] (p ∷ ps) g h = absurd h
Number-grows ks whole (s ∷ ss) [] g h = absurd h

pub Number-push : {T : Type 0} → (ks : List T) (ss : List (Step ℕ)) (ps : List (Step T)) (s : Step ℕ) (p : Step T) → Number ks ss ps → s.from ≡ p.from → slice_get ks s.value ≡ Some p.value → Number ks (ss ++ s ∷ []) (ps ++ p ∷ [])
Number-push ks [] [] s p h e f = (e, f, tt)
Number-push ks (t ∷ ss) (q ∷ ps) s p h e f = (h.0, h.1, Number-push ks ss ps s p h.2 e f)
Number-push ks [] (q ∷ ps) s p h e f = absurd h
Number-push ks (t ∷ ss) [] s p h e f = absurd h

Number-value : {T : Type 0} → (ks : List T) (n : ℕ) (x : T) (ss : List (Step ℕ)) (ps : List (Step T)) (key : ℤ) → slice_get ks n ≡ Some x → Number ks ss ps → slice_get ks (value_from n ss key) ≡ Some (value_from x ps key)
Number-value ks n x [] [] key e h = e
Number-value {T} ks n x (s ∷ ss) (p ∷ ps) key e h =
    rw h.0 ((elim (int_le p.from key) as (λ b. slice_get ks (value_from (cond {A = ℕ} b s.value n) ss key) ≡ Some (value_from (cond {A = T} b p.value x) ps key)) [
      | true ↦ Number-value ks s.value p.value ss ps key h.1 h.2
      | false ↦ Number-value ks n x ss ps key e h.2
    ]))
Number-value ks n x [] (p ∷ ps) key e h = absurd h
Number-value ks n x (s ∷ ss) [] key e h = absurd h

Number-froms : {T : Type 0} → (ks : List T) (ss : List (Step ℕ)) (ps : List (Step T)) → Number ks ss ps → froms ss ≡ froms ps
Number-froms ks [] [] h = refl
Number-froms ks (s ∷ ss) (p ∷ ps) h = rw (h.0, Number-froms ks ss ps h.2) refl
Number-froms ks [] (p ∷ ps) h = absurd h
Number-froms ks (s ∷ ss) [] h = absurd h

pub one_place : {T : Type 0} → (ks : List T) (i j : ℕ) (x : T) → AllPairs (λ p q. p ≢ q) ks → slice_get ks i ≡ Some x → slice_get ks j ≡ Some x → i ≡ j
one_place ks i j x apart e f =
    let a = get_or_from_slice_get ks i x x e in
    let b = get_or_from_slice_get ks j x x f in
    elim (cases_order i j) [
      | inl same ↦ same
      | inr other ↦ elim other [
        | inl lt ↦ absurd (apart i j x lt (slice_get_within ks j x f) (a ∙ sym b))
        | inr gt ↦ absurd (apart j i x gt (slice_get_within ks i x e) (b ∙ sym a))
      ]
    ]

some_is : {T : Type 0} → (x y : T) → Some x ≡ Some y → x ≡ y
some_is x y e = cc

-- how far numbers stand in the place of values
pub record Numbers {T : Type 0} (ks : List T) (n : ℕ) (x : T) (ss : List (Step ℕ)) (ps : List (Step T)) : Type 0 where
  pub first : slice_get ks n ≡ Some x
  pub later : Number ks ss ps
  pub distinct : AllPairs (λ p q. p ≢ q) ks

pub numbers_are : {T : Type 0} → (ks : List T) (f : Steps T) (g : Steps ℕ) (ss : List (Step ℕ)) (ps : List (Step T)) → ss ≡ g.later.items → ps ≡ f.later.items → Numbers ks g.first f.first ss ps → Renumbers f g
numbers_are ks f g ss ps ss_is ps_is h =
    let later : Number ks g.later.items f.later.items = rw (← ss_is, ← ps_is) h.later in
    let at : (key : ℤ) → slice_get ks (value_at g key) ≡ Some (value_at f key) = λ key. Number-value ks g.first f.first g.later.items f.later.items key h.first later in
    record {
      told = λ k l. (λ same. some_is _ _ (sym (at k) ∙ ap (λ n. slice_get ks n) same ∙ at l), λ same. one_place ks _ _ (value_at f l) h.distinct (at k ∙ ap (λ x. Some x) same) (at l));
      froms_are = Number-froms ks g.later.items f.later.items later;
    }

pub numbers_more : {T : Type 0} → (ks whole : List T) (n : ℕ) (x : T) (ss more : List (Step ℕ)) (ps : List (Step T)) (p : Step T) (m : ℕ) → Numbers ks n x ss ps → GoesOn ks whole → AllPairs (λ p q. p ≢ q) whole → slice_get whole m ≡ Some p.value →
    more ≡ ss ++ record { from = p.from; value = m } ∷ [] → Numbers whole n x more (ps ++ p ∷ [])
numbers_more ks whole n x ss more ps p m h g distinct e is = record {
  first = stays ks whole n x g h.first;
  later = rw is (Number-push whole ss ps (record { from = p.from; value = m }) p (Number-grows ks whole ss ps g h.later) refl e);
  distinct = distinct;
}

pairs_same : (a b : ℕ × ℕ) → a.0 ≡ b.0 → a.1 ≡ b.1 → a ≡ b
pairs_same a b e f = ap (λ (n : ℕ). (n, a.1)) e ∙ ap (λ (n : ℕ). (b.0, n)) f

and_both : (x y : Bool) → (x && y) ≡ true → (x ≡ true) × (y ≡ true)
and_both true y e = (refl, e)
and_both false y e = absurd cc

both_true : (x y : Bool) → x ≡ true → y ≡ true → (x && y) ≡ true
both_true x y e f = rw (e, f) refl

pub pair_decides : (a b : ℕ × ℕ) → Decides (eqb a.0 b.0 && eqb a.1 b.1) (a ≡ b)
pair_decides a b = (λ e. let h = and_both _ _ e in pairs_same a b ((Decides-eqb a.0 b.0).0 h.0) ((Decides-eqb a.1 b.1).0 h.1), λ e. both_true _ _ ((Decides-eqb a.0 b.0).1 (ap (λ (p : ℕ × ℕ). p.0) e)) ((Decides-eqb a.1 b.1).1 (ap (λ (p : ℕ × ℕ). p.1) e)))
