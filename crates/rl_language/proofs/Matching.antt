-- The automaton of an expression without priorities accepts exactly the expression's words.
use Rattle.std.proofs.Common.{◌≡◌, ◌≢◌, ℕ, Bool, true, false, cond, not, ◌&&◌, ◌||◌, true≢false, List, [], ◌∷◌, ◌++◌, ◌⊎◌, ◌↔◌, IsTrue, refl, sym, ◌∙◌, ap, subst, inl, inr, Option, Some, None}
use Rattle.std.specs.List.{list_any}
use Rattle.rl_types.specs.declared.numbers.Letter.{Letter}
use Rattle.rl_types.specs.KeyRange.{Range, in_range}
use Rattle.rl_sets.specs.Sets.{In, joined}
use Rattle.rl_sets.specs.Order.{IsOrder}
use Rattle.rl_sets.proofs.OrderLaws.{list_is_order, eq_by_cmp-itself}
use Rattle.rl_labels.specs.Carries.{no_carry}
use Rattle.rl_automata.specs.declared.moves.Move.{Move}
use Rattle.rl_automata.specs.Auto.{pruned, Auto, only_live, on_part, first, targets, part_moves, holds, set_auto, point_auto, cat_auto, star_auto, and_auto, minus_auto, union_auto, leave_auto, mark_auto}
use Rattle.rl_automata.specs.Follows.{begun}
use Rattle.rl_automata.specs.Nodes as N
use Rattle.rl_automata.specs.Nodes.{Node, Ends, carry_of}
use Rattle.rl_automata.specs.Marks.{Marks, auto, AreHonest}
use Rattle.rl_automata.specs.Runs.{unpruned}
use Rattle.rl_automata.specs.Language.{IsWordOf, has_priority, is_priority}
use Rattle.rl_automata.proofs.MarksLaws.{auto_order}
use Rattle.rl_automata.proofs.StartLaws.{never_returns}
use Rattle.rl_language.proofs.Plainness.{none_in_auto, left_of, right_of}
use Rattle.rl_language.proofs.Accepting.{to_of, accepts, part_accepts, accepts_same, ends_accepts, accepts_ends, part_step, or_false, enter_accepts, finish_accepts, every_accepts, quiet_accepts, when_accepts, holds_along, pruned_accepts, both_accepts, chain_accepts, cat_accepts, rounds, opens, star_accepts}

-- ---- what tests say together

-- the test says whether P
abbrev pub Says : Bool → Type 0 → Type 0
Says b P = (b ≡ true) ↔ P

pub says_as : {P : Type 0} {a b : Bool} → a ≡ b → Says b P → Says a P
says_as e s = ((λ h. s.0 (sym e ∙ h)), (λ p. e ∙ s.1 p))

or_left : (a b : Bool) → a ≡ true → (a || b) ≡ true
or_left a b e = ap (λ c. c || b) e

or_right : (a b : Bool) → b ≡ true → (a || b) ≡ true
or_right true b e = refl
or_right false b e = e

or_cases : (a b : Bool) → (a || b) ≡ true → (a ≡ true) ⊎ (b ≡ true)
or_cases true b e = inl refl
or_cases false b e = inr e

and_parts : (a b : Bool) → (a && b) ≡ true → (a ≡ true) × (b ≡ true)
and_parts true b e = (refl, e)
and_parts false b e = absurd (true≢false (sym e))

and_both : (a b : Bool) → a ≡ true → b ≡ true → (a && b) ≡ true
and_both a b e f = ap (λ c. c && b) e ∙ f

not_true : (b : Bool) → not b ≡ true → b ≡ true → ⊥
not_true true e f = true≢false (sym e)
not_true false e f = true≢false (sym f)

true_not : (b : Bool) → (b ≡ true → ⊥) → not b ≡ true
true_not true h = absurd (h refl)
true_not false h = refl

pub says_or : {P Q : Type 0} (a b : Bool) → Says a P → Says b Q → Says (a || b) (P ⊎ Q)
says_or {P = P} {Q = Q} a b s t = (to, back)
  where
    to : (a || b) ≡ true → P ⊎ Q
    to e = let r : (a ≡ true) ⊎ (b ≡ true) = or_cases a b e in elim r [ inl h ↦ inl (s.0 h) | inr h ↦ inr (t.0 h) ]

    back : P ⊎ Q → (a || b) ≡ true
    back (inl p) = or_left a b (s.1 p)
    back (inr q) = or_right a b (t.1 q)

says_and : {P Q : Type 0} (a b : Bool) → Says a P → Says b Q → Says (a && b) (P × Q)
says_and a b s t = ((λ e. let r = and_parts a b e in (s.0 r.0, t.0 r.1)), (λ p. and_both a b (s.1 p.0) (t.1 p.1)))

says_minus : {P Q : Type 0} (a b : Bool) → Says a P → Says b Q → Says (a && not b) (P × ¬ Q)
says_minus a b s t = (
  (λ e. let r = and_parts a (not b) e in (s.0 r.0, λ q. not_true b r.1 (t.1 q))),
  (λ p. and_both a (not b) (s.1 p.0) (true_not b (λ h. p.1 (t.0 h)))),
)

-- ---- one character, the empty word, and no word

-- a test that fails says what can't be
pub says_never : {P : Type 0} → (P → ⊥) → Says false P
says_never h = ((λ e. absurd (true≢false (sym e))), (λ p. absurd (h p)))

abbrev is_empty : List Letter → Bool
is_empty [] = true
is_empty (l ∷ w) = false

not_empty : (l : Letter) (w : List Letter) → l ∷ w ≢ []
not_empty l w e = true≢false (sym (ap is_empty e))

abbrev first_of : Letter → List Letter → Letter
first_of d [] = d
first_of d (x ∷ xs) = x

abbrev rest_of : List Letter → List Letter
rest_of [] = []
rest_of (x ∷ xs) = xs

set_says : (ranges : List Range) (w : List Letter) → Says (accepts (set_auto ranges) w false) (IsWordOf (N.Set ranges) w)
set_says ranges [] = says_never (λ p. not_empty p.0 [] (sym p.1))
set_says ranges (l ∷ w) = by w (list_any (in_range l.key) ranges) refl
  where
    by : (w : List Letter) (b : Bool) → list_any (in_range l.key) ranges ≡ b
        → Says (on_part false (λ (m : Move Bool). accepts (set_auto ranges) w m.to) (cond b (Some (record { to = true; carry = no_carry })) None)) (IsWordOf (N.Set ranges) (l ∷ w))
    by [] true e = ((λ h. (l, refl, e)), (λ p. refl))
    by (x ∷ w) true e = says_never (λ p. not_empty x w (ap rest_of p.1))
    by w false e = says_never (λ p. true≢false (sym p.2 ∙ ap (λ k. list_any (in_range k.key) ranges) (sym (ap (first_of l) p.1)) ∙ e))

null_says : (w : List Letter) → Says (accepts (point_auto true) w tt) (w ≡ [])
null_says [] = ((λ e. refl), (λ p. refl))
null_says (l ∷ w) = says_never (not_empty l w)

nothing_says : (w : List Letter) → Says (accepts (point_auto false) w tt) ⊥
nothing_says [] = says_never (λ p. p)
nothing_says (l ∷ w) = says_never (λ p. p)

-- ---- concatenation

module _ {S T : Type 0} (A : Auto S) (B : Auto T) where
  chain_splits : (w : List Letter) (o : Option S) → chain_accepts A B w o ≡ true
      → (u v : List Letter) × (w ≡ u ++ v) × (part_accepts A u o ≡ true) × (accepts B v B.start ≡ true)
  chain_splits [] o e = let r = and_parts (on_part false A.final o) (B.final B.start) e in ([], [], refl, r.0, r.1)
  chain_splits (l ∷ w) o e =
      let r : ((on_part false A.final o && accepts B (l ∷ w) B.start) ≡ true) ⊎ (chain_accepts A B w (first (targets (part_moves A l o))) ≡ true) = or_cases _ _ e in
      elim r [
        | inl h ↦ let q = and_parts (on_part false A.final o) (accepts B (l ∷ w) B.start) h in ([], l ∷ w, refl, q.0, q.1)
        | inr h ↦ let q = chain_splits w (first (targets (part_moves A l o))) h in (l ∷ q.0, q.1, ap (λ x. l ∷ x) q.2, part_step A l q.0 o ∙ q.3, q.4)
      ]

  chain_joined : (u v : List Letter) (o : Option S) → part_accepts A u o ≡ true → accepts B v B.start ≡ true → chain_accepts A B (u ++ v) o ≡ true
  chain_joined [] [] o a b = and_both (on_part false A.final o) (B.final B.start) a b
  chain_joined [] (l ∷ v) o a b = or_left _ _ (and_both (on_part false A.final o) (accepts B (l ∷ v) B.start) a b)
  chain_joined (l ∷ u) v o a b =
      or_right (on_part false A.final o && accepts B (l ∷ (u ++ v)) B.start) (chain_accepts A B (u ++ v) (first (targets (part_moves A l o))))
      (chain_joined u v (first (targets (part_moves A l o))) (sym (part_step A l u o) ∙ a) b)

-- ---- repetition

module _ {S : Type 0} (A : Auto S) where
  -- each of the words is accepted from the start, and none is empty
  abbrev AreRounds : List (List Letter) → Type 0
  AreRounds us = (u : List Letter) → In u us → (u ≢ []) × (accepts A u A.start ≡ true)

  some_true : (f g : S → Bool) → ((s : S) → f s ≡ true → g s ≡ true) → (o : Option (Move S)) → on_part false (λ m. f m.to) o ≡ true → on_part false (λ m. g m.to) o ≡ true
  some_true f g h None e = e
  some_true f g h (Some m) e = h m.to e

  -- a word from s, and rounds behind it
  record Rounds (w : List Letter) (s : S) : Type 0 where
    word : List Letter
    more : List (List Letter)
    whole : w ≡ word ++ joined more
    first_ends : accepts A word s ≡ true
    others : AreRounds more

  no_rounds : AreRounds []
  no_rounds u h = absurd h

  more_rounds : (u : List Letter) (us : List (List Letter)) → u ≢ [] → accepts A u A.start ≡ true → AreRounds us → AreRounds (u ∷ us)
  more_rounds u us ne a h x (inl e) = ((λ q. ne (e ∙ q)), subst (λ y. accepts A y A.start ≡ true) e a)
  more_rounds u us ne a h x (inr i) = h x i

  rounds_split : (w : List Letter) (s : S) → rounds A w s ≡ true → Rounds w s
  rounds_split [] s e = record { word = []; more = []; whole = refl; first_ends = e; others = no_rounds }
  rounds_split (l ∷ w) s e =
      let r : (on_part false (λ m. rounds A w m.to) (A.step s l) ≡ true) ⊎ ((A.final s && on_part false (λ m. rounds A w m.to) (A.step A.start l)) ≡ true) = or_cases _ _ e in
      elim r [
        | inl h ↦ let q = behind (rounds_split w) s (A.step s l) refl h in record { word = l ∷ q.0; more = q.1; whole = ap (λ x. l ∷ x) q.2; first_ends = q.3; others = q.4 }
        | inr h ↦ let p = and_parts (A.final s) _ h in let q = behind (rounds_split w) A.start (A.step A.start l) refl p.1 in
            record { word = []; more = (l ∷ q.0) ∷ q.1; whole = ap (λ x. l ∷ x) q.2; first_ends = p.0; others = more_rounds (l ∷ q.0) q.1 (not_empty l q.0) q.3 q.4 }
      ]
    where
      behind : ((t : S) → rounds A w t ≡ true → Rounds w t) → (t : S) (o : Option (Move S)) → A.step t l ≡ o → on_part false (λ m. rounds A w m.to) o ≡ true
          → (u : List Letter) × (us : List (List Letter)) × (w ≡ u ++ joined us) × (accepts A (l ∷ u) t ≡ true) × AreRounds us
      behind rest t None p h = absurd (true≢false (sym h))
      behind rest t (Some m) p h =
          let q = rest m.to h in
          (q.word, q.more, q.whole, ap (on_part false (λ n. accepts A q.word n.to)) p ∙ q.first_ends, q.others)

  rounds_joined : (us : List (List Letter)) → AreRounds us → (u : List Letter) (s : S) → accepts A u s ≡ true → rounds A (u ++ joined us) s ≡ true
  rounds_joined [] h [] s a = a
  rounds_joined [] h (l ∷ u) s a = or_left _ _ (some_true (accepts A u) (rounds A (u ++ [])) (rounds_joined [] h u) (A.step s l) a)
  rounds_joined ([] ∷ us) h u s a = absurd ((h [] (inl refl)).0 refl)
  rounds_joined ((y ∷ ys) ∷ us) h [] s a =
      or_right (on_part false (λ m. rounds A (ys ++ joined us) m.to) (A.step s y)) _
      (and_both (A.final s) _ a (some_true (accepts A ys) (rounds A (ys ++ joined us)) (rounds_joined us (λ x i. h x (inr i)) ys) (A.step A.start y) (h (y ∷ ys) (inl refl)).1))
  rounds_joined ((y ∷ ys) ∷ us) h (l ∷ u) s a = or_left _ _ (some_true (accepts A u) (rounds A (u ++ joined ((y ∷ ys) ∷ us))) (rounds_joined ((y ∷ ys) ∷ us) h u) (A.step s l) a)

-- ---- operators

module _ {S T : Type 0} (A : Auto S) (B : Auto T) {P Q : List Letter → Type 0} (s : (w : List Letter) → Says (accepts A w A.start) (P w)) (t : (w : List Letter) → Says (accepts B w B.start) (Q w)) where
  cat_says : (w : List Letter) → Says (chain_accepts A B w (Some A.start)) ((u v : List Letter) × (w ≡ u ++ v) × P u × Q v)
  cat_says w = (
    (λ e. let q = chain_splits A B w (Some A.start) e in (q.0, q.1, q.2, (s q.0).0 q.3, (t q.1).0 q.4)),
    (λ q. subst (λ x. chain_accepts A B x (Some A.start) ≡ true) (sym q.2) (chain_joined A B q.0 q.1 (Some A.start) ((s q.0).1 q.3) ((t q.1).1 q.4))),
  )

module _ {S : Type 0} (A : Auto S) (o : IsOrder A.order) {P : List Letter → Type 0} (s : (w : List Letter) → Says (accepts A w A.start) (P w)) where
  abbrev AreJoined : List Letter → Type 0
  AreJoined w = (us : List (List Letter)) × (w ≡ joined us) × ((u : List Letter) → In u us → (u ≢ []) × P u)

  of_rounds : (w : List Letter) (us : List (List Letter)) → w ≡ joined us → AreRounds A us → AreJoined w
  of_rounds w us e h = (us, e, λ u i. let r = h u i in (r.0, (s u).0 r.1))

  from_start : (w u : List Letter) (us : List (List Letter)) → w ≡ u ++ joined us → accepts A u A.start ≡ true → AreRounds A us → AreJoined w
  from_start w [] us e a h = of_rounds w us e h
  from_start w (x ∷ xs) us e a h = of_rounds w ((x ∷ xs) ∷ us) e (more_rounds A (x ∷ xs) us (not_empty x xs) a h)

  star_to : (w : List Letter) → (opens A w (A.start ∷ []) || list_any (rounds A w) (A.start ∷ [])) ≡ true → AreJoined w
  star_to [] e = of_rounds [] [] refl (no_rounds A)
  star_to (l ∷ w) e =
      let q = rounds_split A (l ∷ w) A.start (sym (or_false (rounds A (l ∷ w) A.start)) ∙ e) in
      from_start (l ∷ w) q.word q.more q.whole q.first_ends q.others

  star_back : (us : List (List Letter)) → AreRounds A us → (opens A (joined us) (A.start ∷ []) || list_any (rounds A (joined us)) (A.start ∷ [])) ≡ true
  star_back [] h = or_left _ _ (eq_by_cmp-itself (list_is_order o) (A.start ∷ []))
  star_back (u ∷ us) h =
      or_right (opens A (u ++ joined us) (A.start ∷ [])) (list_any (rounds A (u ++ joined us)) (A.start ∷ []))
      (or_left (rounds A (u ++ joined us) A.start) false (rounds_joined A us (λ x i. h x (inr i)) u A.start (h u (inl refl)).1))

  star_says : (w : List Letter) → Says (opens A w (A.start ∷ []) || list_any (rounds A w) (A.start ∷ [])) (AreJoined w)
  star_says w = (
    star_to w,
    (λ q. subst (λ x. (opens A x (A.start ∷ []) || list_any (rounds A x) (A.start ∷ [])) ≡ true) (sym q.1) (star_back q.0 (λ u i. let r = q.2 u i in (r.0, (s u).1 r.1)))),
  )

along_says : (c : ℕ) (w : List Letter) → Says (holds_along c w) ((l : Letter) → In l w → IsTrue (holds c l.truths))
along_says c [] = ((λ e l i. absurd i), (λ f. refl))
along_says c (l ∷ w) = (to (along_says c w).0, (λ f. and_both (holds c l.truths) (holds_along c w) (f l (inl refl)) ((along_says c w).1 (λ x i. f x (inr i)))))
  where
    to : (holds_along c w ≡ true → (x : Letter) → In x w → IsTrue (holds c x.truths)) → (holds c l.truths && holds_along c w) ≡ true → (x : Letter) → In x (l ∷ w) → IsTrue (holds c x.truths)
    to rest e x (inl p) = ap (λ y. holds c y.truths) (sym p) ∙ (and_parts (holds c l.truths) (holds_along c w) e).0
    to rest e x (inr i) = rest (and_parts (holds c l.truths) (holds_along c w) e).1 x i

says_swapped : {P Q : Type 0} {b : Bool} → Says b (P × Q) → Says b (Q × P)
says_swapped s = ((λ e. let r = s.0 e in (r.1, r.0)), (λ p. s.1 (p.1, p.0)))

-- ---- expressions

-- pruning by the test takes no word
abbrev TakesNoWord : {S : Type 0} → Auto S → (S → Bool) → Type 0
TakesNoWord A live = (w : List Letter) → accepts (pruned live A) w A.start ≡ accepts A w A.start

-- none of the tests takes a word of its node
abbrev TakeNoWords : (t : Node) → Marks t → Type 0
TakeNoWords (N.Set ranges) k = Unit {0}
TakeNoWords N.Null k = Unit {0}
TakeNoWords N.Nothing k = Unit {0}
TakeNoWords (N.Union a b) k = TakeNoWords a k.0 × TakeNoWords b k.1
TakeNoWords (N.And a b) k = TakeNoWords a k.0 × TakeNoWords b k.1 × TakesNoWord (and_auto (auto a k.0) (auto b k.1)) k.2
TakeNoWords (N.Minus a b) k = TakeNoWords a k.0 × TakeNoWords b k.1 × TakesNoWord (minus_auto (auto a k.0) (auto b k.1)) k.2
TakeNoWords (N.Cat a b) k = TakeNoWords a k.0 × TakeNoWords b k.1
TakeNoWords (N.Star a n) k = TakeNoWords a k
TakeNoWords (N.Enter a l) k = TakeNoWords a k
TakeNoWords (N.Finish a l) k = TakeNoWords a k
TakeNoWords (N.All a l) k = TakeNoWords a k
TakeNoWords (N.Leave a l) k = TakeNoWords a k
TakeNoWords (N.Mark a class kind s x) k = TakeNoWords a k
TakeNoWords (N.When a c) k = TakeNoWords a k

honest_take_none : (t : Node) (k : Marks t) → AreHonest t k → TakeNoWords t k
honest_take_none (N.Set ranges) k h = tt
honest_take_none N.Null k h = tt
honest_take_none N.Nothing k h = tt
honest_take_none (N.Union a b) k h = (honest_take_none a k.0 h.0, honest_take_none b k.1 h.1)
honest_take_none (N.And a b) k h = (honest_take_none a k.0 h.0, honest_take_none b k.1 h.1, λ w. pruned_accepts (and_auto (auto a k.0) (auto b k.1)) k.2 h.2 w (and_auto (auto a k.0) (auto b k.1)).start begun)
honest_take_none (N.Minus a b) k h = (honest_take_none a k.0 h.0, honest_take_none b k.1 h.1, λ w. pruned_accepts (minus_auto (auto a k.0) (auto b k.1)) k.2 h.2 w (minus_auto (auto a k.0) (auto b k.1)).start begun)
honest_take_none (N.Cat a b) k h = (honest_take_none a k.0 h.0, honest_take_none b k.1 h.1)
honest_take_none (N.Star a n) k h = honest_take_none a k h
honest_take_none (N.Enter a l) k h = honest_take_none a k h
honest_take_none (N.Finish a l) k h = honest_take_none a k h
honest_take_none (N.All a l) k h = honest_take_none a k h
honest_take_none (N.Leave a l) k h = honest_take_none a k h
honest_take_none (N.Mark a class kind s x) k h = honest_take_none a k h
honest_take_none (N.When a c) k h = honest_take_none a k h

all_live : {S : Type 0} (A : Auto S) → TakesNoWord A (λ s. true)
all_live {S} A w = accepts_same A (pruned (λ s. true) A) (λ s. refl) (λ s l. by (A.step s l)) w A.start
  where
    by : (o : Option (Move S)) → to_of (only_live (λ s. true) o) ≡ to_of o
    by None = refl
    by (Some m) = refl

unpruned_take_none : (t : Node) → TakeNoWords t (unpruned t)
unpruned_take_none (N.Set ranges) = tt
unpruned_take_none N.Null = tt
unpruned_take_none N.Nothing = tt
unpruned_take_none (N.Union a b) = (unpruned_take_none a, unpruned_take_none b)
unpruned_take_none (N.And a b) = (unpruned_take_none a, unpruned_take_none b, all_live (and_auto (auto a (unpruned a)) (auto b (unpruned b))))
unpruned_take_none (N.Minus a b) = (unpruned_take_none a, unpruned_take_none b, all_live (minus_auto (auto a (unpruned a)) (auto b (unpruned b))))
unpruned_take_none (N.Cat a b) = (unpruned_take_none a, unpruned_take_none b)
unpruned_take_none (N.Star a n) = unpruned_take_none a
unpruned_take_none (N.Enter a l) = unpruned_take_none a
unpruned_take_none (N.Finish a l) = unpruned_take_none a
unpruned_take_none (N.All a l) = unpruned_take_none a
unpruned_take_none (N.Leave a l) = unpruned_take_none a
unpruned_take_none (N.Mark a class kind s x) = unpruned_take_none a
unpruned_take_none (N.When a c) = unpruned_take_none a

accept_words : (t : Node) (k : Marks t) → has_priority t ≡ false → TakeNoWords t k → (w : List Letter) → Says (accepts (auto t k) w (auto t k).start) (IsWordOf t w)
accept_words (N.Set ranges) k e h w = set_says ranges w
accept_words N.Null k e h w = null_says w
accept_words N.Nothing k e h w = nothing_says w
accept_words (N.Union a b) k e h w =
    let A = auto a k.0 in let B = auto b k.1 in let l = left_of (has_priority a) (has_priority b) e in let r = right_of (has_priority a) (has_priority b) e in
    says_as (quiet_accepts (union_auto A B) w (Some A.start, Some B.start) ∙ both_accepts A B (none_in_auto a k.0 l) (none_in_auto b k.1 r) (λ p q. p || q) refl w (Some A.start, Some B.start))
    (says_or (accepts A w A.start) (accepts B w B.start) (accept_words a k.0 l h.0 w) (accept_words b k.1 r h.1 w))
accept_words (N.And a b) k e h w =
    let A = auto a k.0 in let B = auto b k.1 in let l = left_of (has_priority a) (has_priority b) e in let r = right_of (has_priority a) (has_priority b) e in
    says_as (h.2 w ∙ both_accepts A B (none_in_auto a k.0 l) (none_in_auto b k.1 r) (λ p q. p && q) refl w (Some A.start, Some B.start))
    (says_and (accepts A w A.start) (accepts B w B.start) (accept_words a k.0 l h.0 w) (accept_words b k.1 r h.1 w))
accept_words (N.Minus a b) k e h w =
    let A = auto a k.0 in let B = auto b k.1 in let l = left_of (has_priority a) (has_priority b) e in let r = right_of (has_priority a) (has_priority b) e in
    says_as (h.2 w ∙ both_accepts A B (none_in_auto a k.0 l) (none_in_auto b k.1 r) (λ p q. p && not q) refl w (Some A.start, Some B.start))
    (says_minus (accepts A w A.start) (accepts B w B.start) (accept_words a k.0 l h.0 w) (accept_words b k.1 r h.1 w))
accept_words (N.Cat a b) k e h w =
    let A = auto a k.0 in let B = auto b k.1 in let l = left_of (has_priority a) (has_priority b) e in let r = right_of (has_priority a) (has_priority b) e in
    says_as (quiet_accepts (cat_auto A B) w (Some A.start, []) ∙ cat_accepts A B (auto_order b k.1) (none_in_auto a k.0 l) (none_in_auto b k.1 r) w (Some A.start, []))
    (cat_says A B (accept_words a k.0 l h.0) (accept_words b k.1 r h.1) w)
accept_words (N.Star a n) k e h w =
    let A = auto a k in
    says_as (quiet_accepts (star_auto A n) w (A.start ∷ []) ∙ star_accepts A (auto_order a k) (none_in_auto a k e) (never_returns a k) n w (A.start ∷ []))
    (star_says A (auto_order a k) (accept_words a k e h) w)
accept_words (N.Enter a l) k e h w = says_as (enter_accepts (auto a k) (carry_of l) w (auto a k).start) (accept_words a k (right_of (is_priority l) (has_priority a) e) h w)
accept_words (N.Finish a l) k e h w = says_as (finish_accepts (auto a k) (carry_of l) w (auto a k).start) (accept_words a k (right_of (is_priority l) (has_priority a) e) h w)
accept_words (N.All a l) k e h w = says_as (every_accepts (auto a k) (carry_of l) w (auto a k).start) (accept_words a k (right_of (is_priority l) (has_priority a) e) h w)
accept_words (N.Leave a l) k e h w = says_as (accepts_same (auto a k) (leave_auto (auto a k) (carry_of l)) (λ s. refl) (λ s l. refl) w (auto a k).start) (accept_words a k (right_of (is_priority l) (has_priority a) e) h w)
accept_words (N.Mark a class kind s x) k e h w =
    says_as (accepts_same (auto a k) (mark_auto (auto a k) class kind (record { major = s; minor = 0; action = record { 0 = x } })) (λ s. refl) (λ s l. refl) w (auto a k).start) (accept_words a k e h w)
accept_words (N.When a c) k e h w =
    let A = auto a k in
    says_as (when_accepts A c w A.start) (says_swapped (says_and (holds_along c w) (accepts A w A.start) (along_says c w) (accept_words a k e h w)))

pub matches : (t : Node) (k : Marks t) → has_priority t ≡ false → AreHonest t k → (w : List Letter) → Says (accepts (auto t k) w (auto t k).start) (IsWordOf t w)
matches t k e h w = accept_words t k e (honest_take_none t k h) w

-- the same where nothing is pruned: so whether a word is one of the expression's can be computed
pub unpruned_matches : (t : Node) → has_priority t ≡ false → (w : List Letter) → Says (accepts (auto t (unpruned t)) w (auto t (unpruned t)).start) (IsWordOf t w)
unpruned_matches t e w = accept_words t (unpruned t) e (unpruned_take_none t) w

ends_as : {S : Type 0} (A : Auto S) (w : List Letter) {P : Type 0} → Says (accepts A w A.start) P → Ends A w A.start ↔ P
ends_as A w s = ((λ x. s.0 (ends_accepts A w A.start x)), (λ p. accepts_ends A w A.start (s.1 p)))

pub automata_match : (t : Node) (k : Marks t) → has_priority t ≡ false → AreHonest t k → (w : List Letter) → Ends (auto t k) w (auto t k).start ↔ IsWordOf t w
automata_match t k e h w = ends_as (auto t k) w (matches t k e h w)

pub unpruned_match : (t : Node) → has_priority t ≡ false → (w : List Letter) → Ends (auto t (unpruned t)) w (auto t (unpruned t)).start ↔ IsWordOf t w
unpruned_match t e w = ends_as (auto t (unpruned t)) w (unpruned_matches t e w)
