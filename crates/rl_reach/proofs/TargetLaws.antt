-- Edges whose letters find the same lead to the same places in the same order.
use Rattle.std.proofs.Common.{◌≡◌, ℕ, ◌<◌, ℤ, ◌<ℤ◌, ◌≤ℤ◌, Bool, true, false, cond, ◌||◌, List, [], ◌∷◌, ◌++◌, ◌⊎◌, map, refl, ap, sym, ◌∙◌, subst, inl, inr, arith}
use Rattle.std.specs.Prelude.{nat_eq}
use Rattle.std.specs.List.{filter_map, list_any}
use Rattle.std.proofs.lemmas.Int.{ints}
use Rattle.std.proofs.lemmas.Bool.{cases_order}
use Rattle.std.proofs.lemmas.List.{map-append}
use Rattle.indexmap.specs.IndexSet.{insert_key}
use Rattle.rl_types.specs.declared.numbers.Key.{Key}
use Rattle.rl_sets.specs.Sets.{In}
use Rattle.rl_sets.proofs.SetLaws.{In-map}
use Rattle.rl_fsm.proofs.PieceLaws.{before_or_not}
use Rattle.rl_run.specs.Numbers.{firsts}
use Rattle.rl_minimal.specs.declared.state.MinEdge.{MinEdge}
use Rattle.rl_reach.specs.declared.place.Place.{Place}
use Rattle.rl_reach.specs.Places.{same_place, with_place, with_places}
use Rattle.rl_reach.proofs.LetterLaws.{Before, AreOrdered, before_trans}
use Rattle.rl_reach.proofs.EdgeLaws.{at, AddSame, AreSorted, hit, own, firsts_met, walks, edge_found, owns_ordered}

-- ---- numbers that are added one after another

any_at : (x : ℕ) (acc : List ℕ) → list_any (same_place (at x)) (map at acc) ≡ list_any (nat_eq x) acc
any_at x [] = refl
any_at x (y ∷ acc) = elim (nat_eq x y) as (λ b. (b || list_any (same_place (at x)) (map at acc)) ≡ (b || list_any (nat_eq x) acc)) [
  | true ↦ refl
  | false ↦ any_at x acc
]

add_at : (acc : List ℕ) (x : ℕ) → map at (insert_key nat_eq acc x) ≡ with_place (map at acc) (at x)
add_at acc x = by (list_any (nat_eq x) acc) ∙ ap (λ b. cond b (map at acc) (map at acc ++ at x ∷ [])) (sym (any_at x acc))
  where
    by : (b : Bool) → map at (cond b acc (acc ++ x ∷ [])) ≡ cond b (map at acc) (map at acc ++ at x ∷ [])
    by true = refl
    by false = map-append at acc (x ∷ [])

-- what adds numbers in order, each once, gives each at its first place
module _ (add : List ℕ → List ℕ → List ℕ) (done : (acc : List ℕ) → add acc [] ≡ acc) (next : (acc : List ℕ) (x : ℕ) (xs : List ℕ) → add acc (x ∷ xs) ≡ add (insert_key nat_eq acc x) xs) where
  placed : (xs acc : List ℕ) → map at (add acc xs) ≡ with_places (map at acc) (map at xs)
  placed [] acc = ap (map at) (done acc)
  placed (x ∷ xs) acc = ap (map at) (next acc x xs) ∙ placed xs (insert_key nat_eq acc x) ∙ ap (λ w. with_places w (map at xs)) (add_at acc x)

  back : (xs : List ℕ) → map (λ (p : Place). p.state) (map at xs) ≡ xs
  back [] = refl
  back (x ∷ xs) = ap (λ w. x ∷ w) (back xs)

  pub firsts_by : (xs : List ℕ) → add [] xs ≡ firsts xs
  firsts_by xs = sym (back (add [] xs)) ∙ ap (map (λ (p : Place). p.state)) (placed xs []) ∙ firsts_met xs

-- ---- letters in order, with more of them

same_keys : (x y : ℤ) → x ≤ℤ y → y ≤ℤ x → x ≡ y
same_keys x y a b = omega (arith, ints)

order_of : (l k : Key × ℕ) → Before l k ⊎ (l ≡ k) ⊎ Before k l
order_of l k = elim (before_or_not l.0.0 k.0.0) [
  | inl a ↦ inl (inl a)
  | inr a ↦ elim (before_or_not k.0.0 l.0.0) [
    | inl b ↦ inr (inr (inl b))
    | inr b ↦ by (same_keys l.0.0 k.0.0 b a) (cases_order l.1 k.1)
  ]
]
  where
    by : l.0.0 ≡ k.0.0 → (l.1 ≡ k.1) ⊎ ((l.1 < k.1) ⊎ (k.1 < l.1)) → Before l k ⊎ (l ≡ k) ⊎ Before k l
    by e (inl f) = inr (inl (λ i. (record { 0 = e i }, f i)))
    by e (inr (inl f)) = inl (inr (e, f))
    by e (inr (inr f)) = inr (inr (inr (sym e, f)))

-- the letters with one more
record Wider (l : Key × ℕ) (ls : List (Key × ℕ)) : Type 0 where
  letters : List (Key × ℕ)
  ordered : AreOrdered letters
  there : In l letters
  kept : (k : Key × ℕ) → In k ls → In k letters
  from : (k : Key × ℕ) → In k letters → (l ≡ k) ⊎ In k ls

wider : (l : Key × ℕ) (ls : List (Key × ℕ)) → AreOrdered ls → Wider l ls
wider l [] o = record { letters = l ∷ []; ordered = ((λ k i. absurd i), tt); there = inl refl; kept = λ k i. absurd i; from = λ k i. elim i [ inl e ↦ inl e | inr z ↦ absurd z ] }
wider l (k ∷ ls) o = by (order_of l k) (wider l ls o.1)
  where
    by : Before l k ⊎ (l ≡ k) ⊎ Before k l → Wider l ls → Wider l (k ∷ ls)
    by (inl b) r = record {
      letters = l ∷ k ∷ ls;
      ordered = ((λ j i. elim i [ inl e ↦ subst (Before l) e b | inr h ↦ before_trans l k j b (o.0 j h) ]), o);
      there = inl refl;
      kept = λ j i. inr i;
      from = λ j i. i;
    }
    by (inr (inl e)) r = record { letters = k ∷ ls; ordered = o; there = inl (sym e); kept = λ j i. i; from = λ j i. inr i }
    by (inr (inr b)) r = record {
      letters = k ∷ r.letters;
      ordered = ((λ j i. elim (r.from j i) [ inl e ↦ subst (Before k) e b | inr h ↦ o.0 j h ]), r.ordered);
      there = inr r.there;
      kept = λ j i. elim i [ inl e ↦ inl e | inr h ↦ inr (r.kept j h) ];
      from = λ j i. elim i [ inl e ↦ inr (inl e) | inr h ↦ elim (r.from j h) [ inl e ↦ inl e | inr q ↦ inr (inr q) ] ];
    }

-- the letters of both lists
record Both (xs ls : List (Key × ℕ)) : Type 0 where
  letters : List (Key × ℕ)
  ordered : AreOrdered letters
  first : (k : Key × ℕ) → In k xs → In k letters
  second : (k : Key × ℕ) → In k ls → In k letters

both : (xs ls : List (Key × ℕ)) → AreOrdered ls → Both xs ls
both [] ls o = record { letters = ls; ordered = o; first = λ k i. absurd i; second = λ k i. i }
both (x ∷ xs) ls o =
    let w = wider x ls o in
    let r = both xs w.letters w.ordered in
    record { letters = r.letters; ordered = r.ordered; first = λ k i. elim i [ inl e ↦ subst (λ j. In j r.letters) e (r.second x w.there) | inr h ↦ r.first k h ]; second = λ k i. r.second k (w.kept k i) }

-- ---- two lists of edges

module _ (es fs : List MinEdge) (s : AreSorted es) (t : AreSorted fs) (same : (l : Key × ℕ) → hit es l ≡ hit fs l) where
  ls : Both (map own es) (map own fs)
  ls = both (map own es) (map own fs) (owns_ordered fs t)

  pub adds_same : AddSame (map (λ (e : MinEdge). e.target) es) (map (λ (e : MinEdge). e.target) fs)
  adds_same met =
      sym (walks es ls.letters [] es met ls.ordered (owns_ordered es s) (λ e i. inr i) (edge_found es s) (λ e i. ls.first (own e) (In-map own e es i)) (λ e z. absurd z))
      ∙ (λ i. with_places met (map at (filter_map (λ l. same l i) ls.letters)))
      ∙ walks fs ls.letters [] fs met ls.ordered (owns_ordered fs t) (λ e i. inr i) (edge_found fs t) (λ e i. ls.second (own e) (In-map own e fs i)) (λ e z. absurd z)
