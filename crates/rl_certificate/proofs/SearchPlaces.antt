-- A search goes on from place to place, and ends.
use Rattle.std.proofs.Common.{◌≡◌, ℕ, zero, suc, ◌+◌, ◌<◌, ◌≤◌, Bool, true, false, nat_eq, List, [], ◌∷◌, ◌++◌, map, length, take, drop, Option, Some, None, slice_get, unwrap_or, refl, ap, sym, ◌∙◌, subst, inl, inr, ◌⊎◌, arith, add-one}
use Rattle.std.specs.Option.{option_map_or}
use Rattle.std.specs.List.{IsDistinct, AllByRecursion}
use Rattle.std.proofs.lemmas.Map.Steps.{length-le_from_distinct_below}
use native.Mathlib.Decide.{dec_lt}
use borrow.Author.Tests.{eqb-true}
use Rattle.rl_types.specs.declared.numbers.Letter.{Letter}
use Rattle.rl_sets.specs.Sets.{In}
use Rattle.rl_sets.proofs.SetLaws.{In-map_from, any_from}
use Rattle.rl_fsm.specs.Reads.{own_letter}
use Rattle.rl_fsm.proofs.PieceLaws.{All-In}
use Rattle.rl_minimal.specs.declared.state.MinEdge.{MinEdge}
use Rattle.rl_minimal.specs.declared.state.MinState.{MinState}
use Rattle.rl_minimal.specs.Minimal.{Minimal, reads_of}
use Rattle.rl_minimal.specs.Machine.{edges_at, entry_at}
use Rattle.rl_minimal.specs.Sound as sound
use Rattle.rl_minimal.specs.Sound.{IsMinimal, IsEdge}
use Rattle.rl_certificate.specs.declared.certificate.Access.{Access}
use Rattle.rl_certificate.specs.Walks.{and_then, walk, target_on, IsEntry, LeadsTo}
use Rattle.rl_certificate.specs.Firsts.{AccessBefore}
use Rattle.rl_certificate.specs.Reaches.{IsMet, AreWords, AllBefore, AreSorted, AreGone, AreMet, IsAdded, AreAdded, AreBegun, IsSearched, IsClosed}
use Rattle.rl_certificate.proofs.EdgeLaws.{AreOrdered, ordered, sound_edges}
use Rattle.rl_certificate.proofs.WordLaws.{access_trans, access_self, access_behind, access_longer}
use Rattle.rl_certificate.proofs.ReachLaws.{leads_on}
use Rattle.rl_certificate.proofs.SearchLaws.{met_grown}
use Rattle.rl_certificate.proofs.SearchEdges.{IsStepped, added, own_rising, IsReady, IsDone, all_added}

some_is : {X : Type 0} (x y : X) → Some x ≡ Some y → x ≡ y
some_is x y e = cc

none_is : {X : Type 0} {Y : Type 0} (y : X) → None ≡ Some y → Y
none_is y e = cc

-- ---- the edges of a state

ordered_by : (m : Minimal) → IsMinimal m → (i : ℕ) (o : Option MinState) → slice_get m.states i ≡ o
    → AreOrdered (option_map_or (λ (s : MinState). s.edges) o [])
ordered_by m h i None q = record { each = λ e j. absurd j; ascending = refl }
ordered_by m h i (Some s) q = ordered s.edges (sound_edges m h i s q)

pub ordered_at : (m : Minimal) → IsMinimal m → (i : ℕ) → AreOrdered (edges_at m i)
ordered_at m h i = ordered_by m h i (slice_get m.states i) refl

edge_by : (m : Minimal) → IsMinimal m → (i : ℕ) (o : Option MinState) → slice_get m.states i ≡ o → (e : MinEdge)
    → In e (option_map_or (λ (s : MinState). s.edges) o []) → e.target < length m.states
edge_by m h i None q e j = absurd j
edge_by m h i (Some s) q e j = (All-In (IsEdge m.states s) s.edges e (h.states i s q).edges.each j).target.there

edge_there : (m : Minimal) → IsMinimal m → (i : ℕ) (e : MinEdge) → In e (edges_at m i) → e.target < length m.states
edge_there m h i e j = edge_by m h i (slice_get m.states i) refl e j

step_there : (m : Minimal) → IsMinimal m → (i : ℕ) (l : Letter) (t : ℕ) → target_on m i l ≡ Some t → t < length m.states
step_there m h i l t q = let s = leads_on m i l t q in subst (λ n. n < length m.states) s.end (edge_there m h i s.edge s.there)

walk_by : (m : Minimal) (w : List Letter) (s : ℕ) (o : Option ℕ) → ((t : ℕ) → o ≡ Some t → walk m w t ≡ Some s → s < length m.states)
    → and_then o (walk m w) ≡ Some s → s < length m.states
walk_by m w s None f q = none_is s q
walk_by m w s (Some t) f q = f t refl q

walk_there : (m : Minimal) → IsMinimal m → (w : List Letter) (i s : ℕ) → i < length m.states → walk m w i ≡ Some s → s < length m.states
walk_there m h [] i s l q = subst (λ n. n < length m.states) (some_is i s q) l
walk_there m h (k ∷ w) i s l q = walk_by m w s (target_on m i k) (λ t p r. walk_there m h w t s (step_there m h i k t p) r) q

-- ---- elements of lists by their places

pub slice_append : {X : Type 0} (xs ys : List X) (i : ℕ) (x : X) → slice_get xs i ≡ Some x → slice_get (xs ++ ys) i ≡ Some x
slice_append [] ys i x q = none_is x q
slice_append (y ∷ xs) ys zero x q = q
slice_append (y ∷ xs) ys (suc i) x q = slice_append xs ys i x q

pub slice_in : {X : Type 0} (xs : List X) (i : ℕ) (x : X) → slice_get xs i ≡ Some x → In x xs
slice_in [] i x q = none_is x q
slice_in (y ∷ xs) zero x q = inl (some_is y x q)
slice_in (y ∷ xs) (suc i) x q = inr (slice_in xs i x q)

slice_dropped : {X : Type 0} (xs : List X) (i : ℕ) (x : X) → slice_get xs i ≡ Some x → In x (drop i xs)
slice_dropped [] i x q = none_is x q
slice_dropped (y ∷ xs) zero x q = inl (some_is y x q)
slice_dropped (y ∷ xs) (suc i) x q = slice_dropped xs i x q

take_next : {X : Type 0} (xs ys : List X) (i : ℕ) (x z : X) → slice_get xs i ≡ Some x → In z (take (suc i) (xs ++ ys)) → In z (take i xs) ⊎ (x ≡ z)
take_next [] ys i x z q j = none_is x q
take_next (y ∷ xs) ys zero x z q (inl e) = inr (sym (some_is y x q) ∙ e)
take_next (y ∷ xs) ys zero x z q (inr j) = absurd j
take_next (y ∷ xs) ys (suc i) x z q (inl e) = inl (inl e)
take_next (y ∷ xs) ys (suc i) x z q (inr j) = elim (take_next xs ys i x z q j) [ inl k ↦ inl (inr k) | inr e ↦ inr e ]

take_all : {X : Type 0} (xs : List X) (i : ℕ) → length xs ≤ i → take i xs ≡ xs
take_all [] zero h = refl
take_all [] (suc i) h = refl
take_all (x ∷ xs) zero h = absurd (omega arith)
take_all (x ∷ xs) (suc i) h = ap (λ w. x ∷ w) (take_all xs i (omega arith))

drop_head : {X : Type 0} (xs ys : List X) (i : ℕ) (x : X) → x ∷ ys ≡ drop i xs → (slice_get xs i ≡ Some x) × (ys ≡ drop (suc i) xs)
drop_head [] ys zero x q = cc
drop_head [] ys (suc i) x q = cc
drop_head (y ∷ xs) ys zero x q = (ap Some (sym (let e : x ≡ y = cc in e)), let e : ys ≡ xs = cc in e)
drop_head (y ∷ xs) ys (suc i) x q = drop_head xs ys i x q

later_before : (met : List Access) (i : ℕ) (a b : Access) → slice_get met i ≡ Some a → AreSorted met → In b (drop (suc i) met)
    → AccessBefore a.entry.0 a.word.items b.entry.0 b.word.items
later_before [] i a b q s j = none_is a q
later_before (c ∷ met) zero a b q s j = subst (λ (x : Access). AccessBefore x.entry.0 x.word.items b.entry.0 b.word.items) (some_is c a q) (s.0 b j)
later_before (c ∷ met) (suc i) a b q s j = later_before met i a b q s.1 j

pub at_place : {X : Type 0} (xs : List X) (i : ℕ) → i < length xs → (x : X) × (slice_get xs i ≡ Some x)
at_place [] i h = absurd (omega arith)
at_place (x ∷ xs) zero h = (x, refl)
at_place (x ∷ xs) (suc i) h = at_place xs i (omega arith)

-- ---- one place further

pub gone_on : (m : Minimal) → IsMinimal m → (met new : List Access) (place : ℕ) (a : Access) → slice_get met place ≡ Some a → IsSearched m met place
    → AreAdded met new a.entry.0 a.word.items (edges_at m a.state) → IsSearched m new (place + 1)
gone_on m h met new place a q s g = record {
  known = record { words = d.words; sorted = d.sorted; starts = λ e k. met_grown met new d.more (entry_at m.entries e) e [] d.grows (s.known.starts e k) };
  gone = λ b i. gone_by b (take_next met d.more place a b q (subst (λ w. In b (take (suc place) w)) d.grows (subst (λ n. In b (take n new))
      (add-one place) i)));
  ahead = λ b i l. d.ahead b.entry.0 b.word.items l (later_before new place a b (subst (λ w. slice_get w place ≡ Some a) (sym d.grows)
      (slice_append met d.more place a q)) d.sorted
      (subst (λ n. In b (drop n new)) (add-one place) i));
}
  where
    edges : List MinEdge
    edges = edges_at m a.state

    o : AreOrdered (edges_at m a.state)
    o = ordered_at m h a.state

    leads : LeadsTo m a.entry.0 a.word.items a.state
    leads = s.known.words.lead a (slice_in met place a q)

    behind : (l : Letter) → AllBefore met a.entry.0 (a.word.items ++ l ∷ [])
    behind l = s.ahead a (slice_dropped met place a q) l

    ready : IsReady m a o leads met edges
    ready = record {
      words = s.known.words;
      sorted = s.known.sorted;
      inside = λ e i. i;
      before = λ e i. behind (own_letter (reads_of e));
      rising = own_rising edges o;
      ahead = λ f v k b c j. access_trans c.entry.0 a.entry.0 f c.word.items (a.word.items ++ k ∷ []) (v ++ k ∷ []) (behind k c j)
          (access_behind a.entry.0 f a.word.items v k k b);
    }

    d : IsDone m a o leads met new edges
    d = all_added m a o leads edges met new ready g

    gone_by : (b : Access) → In b (take place met) ⊎ (a ≡ b) → AreGone new b (edges_at m b.state)
    gone_by b (inl j) = record {
      each = λ e i. met_grown met new d.more e.target b.entry.0 (b.word.items ++ own_letter (reads_of e) ∷ []) d.grows ((s.gone b j).each e i);
    }
    gone_by b (inr e) = subst (λ (x : Access). AreGone new x (edges_at m x.state)) e (record { each = d.reached })

-- ---- the first words

-- the empty words of so many entries
record IsBegun (m : Minimal) (met : List Access) (n : ℕ) : Type 0 where
  pub words : AreWords m met
  pub sorted : AreSorted met
  pub empty : (a : Access) → In a met → (a.word.items ≡ []) × (a.entry.0 < n + 1)
  pub starts : (e : ℕ) → e < n + 1 → IsEntry m e → IsMet met (entry_at m.entries e) e []

begun_none : (m : Minimal) → IsBegun m [] 0
begun_none m = record {
  words = record { lead = λ a i. absurd i; once = λ a b i j e. absurd i };
  sorted = tt;
  empty = λ a i. absurd i;
  starts = λ e l k. let f : 1 ≤ e = k.first in absurd (omega arith);
}

begun_next : (m : Minimal) (met mid : List Access) (n s : ℕ) → slice_get m.entries n ≡ Some s → n < length m.entries → IsBegun m met n
    → IsAdded met mid s (n + 1) [] → IsBegun m mid (n + 1)
begun_next m met mid n s q l b g = record {
  words = step.words;
  sorted = step.sorted;
  empty = λ a i. empty_by a (step.only a i);
  starts = λ e k j. starts_by e j k;
}
  where
    here : entry_at m.entries (n + 1) ≡ s
    here = ap (entry_at m.entries) (add-one n) ∙ ap (λ o. unwrap_or o 0) q

    leads : LeadsTo m (n + 1) [] s
    leads = record { known = record { first = omega arith; last = omega arith }; end = ap Some here }

    before : AllBefore met (n + 1) []
    before c i = inr (ap length (b.empty c i).0, inl (b.empty c i).1)

    step : IsStepped m met mid s (n + 1) []
    step = added m met mid s (n + 1) [] b.words b.sorted leads before g

    empty_by : (a : Access) → In a met ⊎ ((a.entry.0 ≡ n + 1) × (a.word.items ≡ [])) → (a.word.items ≡ []) × (a.entry.0 < n + 1 + 1)
    empty_by a (inl i) = ((b.empty a i).0, let k : a.entry.0 < n + 1 = (b.empty a i).1 in omega arith)
    empty_by a (inr p) = (p.1, let k : a.entry.0 ≡ n + 1 = p.0 in omega arith)

    starts_by : (e : ℕ) → IsEntry m e → e < n + 1 + 1 → IsMet mid (entry_at m.entries e) e []
    starts_by e j f = elim (dec_lt e (n + 1)) [
      | yes k ↦ met_grown met mid step.more (entry_at m.entries e) e [] step.grows (b.starts e k j)
      | no k ↦ let same : n + 1 ≡ e = omega arith in
          subst (λ x. IsMet mid (entry_at m.entries x) x []) same (subst (λ x. IsMet mid x (n + 1) []) (sym here) step.found)
    ]

begun_all : (m : Minimal) (states : List ℕ) (met new : List Access) (n : ℕ) → states ≡ drop n m.entries → n + length states ≡ length m.entries
    → IsBegun m met n → AreBegun met new n states → IsBegun m new (length m.entries)
begun_all m [] met new n q c b g = subst (IsBegun m new) (let e : n ≡ length m.entries = omega arith in e) (subst (λ w. IsBegun m w n) (sym g) b)
begun_all m (s ∷ states) met new n q c b g =
    let p = drop_head m.entries states n s q in
    let count : length (s ∷ states) ≡ suc (length states) = refl in
    begun_all m states g.0 new (n + 1) (p.1 ∙ ap (λ k. drop k m.entries) (sym (add-one n))) (omega arith) (begun_next m met g.0 n s p.0
    (omega arith) b g.1) g.2

pub begun_searched : (m : Minimal) (met : List Access) → AreBegun [] met 0 m.entries → IsSearched m met 0
begun_searched m met g = record {
  known = record { words = b.words; sorted = b.sorted; starts = λ e k. b.starts e (let l : e ≤ length m.entries = k.last in omega arith) k };
  gone = λ a i. absurd i;
  ahead = λ a i l c j. access_longer c.entry.0 a.entry.0 c.word.items a.word.items l (ap length (b.empty c j).0 ∙ sym (ap length (b.empty a i).0));
}
  where
    b : IsBegun m met (length m.entries)
    b = begun_all m m.entries [] met 0 refl (let e : 0 + length m.entries ≡ length m.entries = omega arith in e) (begun_none m) g

-- ---- the end

pub searched_closed : (m : Minimal) (met : List Access) (place : ℕ) → length met ≤ place → IsSearched m met place → IsClosed m met
searched_closed m met place h s = record {
  words = s.known.words;
  starts = s.known.starts;
  steps = λ a i. s.gone a (subst (In a) (sym (take_all met place h)) i);
}

entry_there : (m : Minimal) → IsMinimal m → (e : ℕ) → IsEntry m e → entry_at m.entries e < length m.states
entry_there m h zero k = let f : 1 ≤ 0 = k.first in absurd (omega arith)
entry_there m h (suc e) k = by (slice_get m.entries e) refl
  where
    by : (o : Option ℕ) → slice_get m.entries e ≡ o → unwrap_or o 0 < length m.states
    by (Some s) q = (All-In (sound.IsEntry m.states) m.entries s h.entries (slice_in m.entries e s q)).there
    by None q = let c : 2 ≤ length m.states = h.counts.states in omega arith

pub leads_there : (m : Minimal) → IsMinimal m → (e : ℕ) (w : List Letter) (s : ℕ) → LeadsTo m e w s → s < length m.states
leads_there m h e w s k = walk_there m h w (entry_at m.entries e) s (entry_there m h e k.known) k.end

not_true : (b : Bool) → (b ≡ true → ⊥) → b ≡ false
not_true true n = absurd (n refl)
not_true false n = refl

distinct_by : (s : ℕ) (met : List Access) → ((b : Access) → In b met → s ≡ b.state → ⊥)
    → AllByRecursion (λ y. nat_eq s y ≡ false) (map (λ (a : Access). a.state) met)
distinct_by s [] n = tt
distinct_by s (b ∷ met) n = (not_true (nat_eq s b.state) (λ t. n b (inl refl) (eqb-true s b.state t)), distinct_by s met (λ c i. n c (inr i)))

distinct : (met : List Access) → ((a b : Access) → In a met → In b met → a.state ≡ b.state → a ≡ b) → AreSorted met
    → IsDistinct nat_eq (map (λ (a : Access). a.state) met)
unfolding IsDistinct
distinct [] once s = tt
distinct (a ∷ met) once s = (
  distinct_by a.state met (λ b i q. access_self b.entry.0 b.word.items (subst (λ
      (x : Access). AccessBefore x.entry.0 x.word.items b.entry.0 b.word.items) (once a b (inl refl) (inr i) q) (s.0 b i))),
  distinct met (λ b c i j q. once b c (inr i) (inr j) q) s.1,
)

length_map : (met : List Access) → length (map (λ (a : Access). a.state) met) ≡ length met
length_map [] = refl
length_map (a ∷ met) = ap suc (length_map met)

-- no more words than states
pub few_words : (m : Minimal) → IsMinimal m → (met : List Access) → AreMet m met → length met ≤ length m.states
few_words m h met k =
    subst (λ n. n ≤ length m.states) (length_map met)
    (length-le_from_distinct_below (map (λ (a : Access). a.state) met) (length m.states) (distinct met k.words.once k.sorted) (λ q t. below q
    (any_from (nat_eq q) (map (λ (a : Access). a.state) met) t)))
  where
    below : (q : ℕ) → (x : ℕ) × In x (map (λ (a : Access). a.state) met) × (nat_eq q x ≡ true) → q < length m.states
    below q p = let r = In-map_from (λ (a : Access). a.state) p.0 met p.1 in
        subst (λ n. n < length m.states) (r.2 ∙ sym (eqb-true q p.0 p.2)) (leads_there m h r.0.entry.0 r.0.word.items r.0.state (k.words.lead r.0 r.1))
