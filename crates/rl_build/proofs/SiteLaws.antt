-- The nodes of an expression in post-order: those of its operands, and itself.
use Rattle.std.proofs.Common.{◌≡◌, ℕ, zero, suc, ◌+◌, Bool, true, false, cond, List, [], ◌∷◌, ◌++◌, length, refl, ap, subst, inl, inr, Option, Some, None, arith}
use Rattle.std.proofs.lemmas.List.{length-append}
use Rattle.rl_types.specs.declared.alphabet.Alphabet.{Alphabet}
use Rattle.rl_sets.specs.Sets.{In}
use Rattle.rl_sets.proofs.SetLaws.{In-append_left, In-append_cases}
use Rattle.rl_automata.specs.declared.moves.Move.{Move}
use Rattle.rl_automata.specs.Auto.{Auto, pruned, only_live}
use Rattle.rl_automata.specs.Nodes as N
use Rattle.rl_automata.specs.Nodes.{Node}
use Rattle.rl_automata.specs.Marks.{Marks, auto, AreHonest}
use Rattle.rl_automata.specs.Scans.{Plain}
use Rattle.rl_automata.specs.Sites.{Below, AreHonestBelow, raw_auto, Site, AtNode, IsHonestSite, sites}
use Rattle.rl_automata.specs.Refused.{HasMore, Cause, IsAccepted, IsRefusedFor, IsFirstRefused}
use Rattle.rl_automata.proofs.Congruence.{none_in}
use Rattle.rl_automata.proofs.Leads.{reach_in}
use Rattle.rl_automata.proofs.CountLaws.{quiet_more}
use Rattle.rl_automata.proofs.RefusalLaws.{honest_all}
use Rattle.rl_model.specs.Counts.{size_of}
use Rattle.rl_build.specs.Nodes.{sites_below}
use Rattle.rl_build.specs.Trees.{AreAccepted}

-- some tests, honest or not
pub any_tests : (t : Node) → Marks t
any_tests (N.Set ranges) = tt
any_tests N.Null = tt
any_tests N.Nothing = tt
any_tests (N.Union a b) = (any_tests a, any_tests b)
any_tests (N.And a b) = (any_tests a, any_tests b, λ c. true)
any_tests (N.Minus a b) = (any_tests a, any_tests b, λ c. true)
any_tests (N.Cat a b) = (any_tests a, any_tests b)
any_tests (N.Star a n) = any_tests a
any_tests (N.Enter a l) = any_tests a
any_tests (N.Finish a l) = any_tests a
any_tests (N.All a l) = any_tests a
any_tests (N.Leave a l) = any_tests a
any_tests (N.Mark a class kind s x) = any_tests a
any_tests (N.When a c) = any_tests a

-- tests with these of the operands
abbrev pub with_below : (t : Node) → Below t → Marks t
with_below (N.Set ranges) k = k
with_below N.Null k = k
with_below N.Nothing k = k
with_below (N.Union a b) k = k
with_below (N.And a b) k = (k.0, k.1, λ c. true)
with_below (N.Minus a b) k = (k.0, k.1, λ c. true)
with_below (N.Cat a b) k = k
with_below (N.Star a n) k = k
with_below (N.Enter a l) k = k
with_below (N.Finish a l) k = k
with_below (N.All a l) k = k
with_below (N.Leave a l) k = k
with_below (N.Mark a class kind s x) k = k
with_below (N.When a c) k = k

-- the tests of the operands
abbrev pub below : (t : Node) → Marks t → Below t
below (N.Set ranges) k = k
below N.Null k = k
below N.Nothing k = k
below (N.Union a b) k = k
below (N.And a b) k = (k.0, k.1)
below (N.Minus a b) k = (k.0, k.1)
below (N.Cat a b) k = k
below (N.Star a n) k = k
below (N.Enter a l) k = k
below (N.Finish a l) k = k
below (N.All a l) k = k
below (N.Leave a l) k = k
below (N.Mark a class kind s x) k = k
below (N.When a c) k = k

pub sites_split : (t : Node) (k : Marks t) → sites t k ≡ sites_below t (below t k) ++ AtNode t (below t k) ∷ []
sites_split (N.Set ranges) k = refl
sites_split N.Null k = refl
sites_split N.Nothing k = refl
sites_split (N.Union a b) k = refl
sites_split (N.And a b) k = refl
sites_split (N.Minus a b) k = refl
sites_split (N.Cat a b) k = refl
sites_split (N.Star a n) k = refl
sites_split (N.Enter a l) k = refl
sites_split (N.Finish a l) k = refl
sites_split (N.All a l) k = refl
sites_split (N.Leave a l) k = refl
sites_split (N.Mark a class kind s x) k = refl
sites_split (N.When a c) k = refl

pub sites_with : (t : Node) (k : Below t) → sites t (with_below t k) ≡ sites_below t k ++ AtNode t k ∷ []
sites_with (N.Set ranges) k = refl
sites_with N.Null k = refl
sites_with N.Nothing k = refl
sites_with (N.Union a b) k = refl
sites_with (N.And a b) k = refl
sites_with (N.Minus a b) k = refl
sites_with (N.Cat a b) k = refl
sites_with (N.Star a n) k = refl
sites_with (N.Enter a l) k = refl
sites_with (N.Finish a l) k = refl
sites_with (N.All a l) k = refl
sites_with (N.Leave a l) k = refl
sites_with (N.Mark a class kind s x) k = refl
sites_with (N.When a c) k = refl

pub honest_below : (t : Node) (k : Marks t) → AreHonest t k → AreHonestBelow t (below t k)
honest_below (N.Set ranges) k h = h
honest_below N.Null k h = h
honest_below N.Nothing k h = h
honest_below (N.Union a b) k h = h
honest_below (N.And a b) k h = (h.0, h.1)
honest_below (N.Minus a b) k h = (h.0, h.1)
honest_below (N.Cat a b) k h = h
honest_below (N.Star a n) k h = h
honest_below (N.Enter a l) k h = h
honest_below (N.Finish a l) k h = h
honest_below (N.All a l) k h = h
honest_below (N.Leave a l) k h = h
honest_below (N.Mark a class kind s x) k h = h
honest_below (N.When a c) k h = h

-- ---- how many nodes there are

pub count_one : (xs : List Site) (z : Site) (n : ℕ) → length xs ≡ n → length (xs ++ z ∷ []) ≡ n + 1
count_one xs z n e = let l : length (xs ++ z ∷ []) ≡ length xs + length (z ∷ []) = length-append xs (z ∷ []) in omega arith

count_two : (xs ys : List Site) (z : Site) (m n : ℕ) → length xs ≡ m → length ys ≡ n → length (xs ++ ys ++ z ∷ []) ≡ m + n + 1
count_two xs ys z m n d e = count_one (xs ++ ys) z (m + n) (let l : length (xs ++ ys) ≡ length xs + length ys = length-append xs ys in omega arith)

pub sites_counted : (t : Node) (k : Marks t) → length (sites t k) ≡ size_of t
sites_counted (N.Set ranges) k = refl
sites_counted N.Null k = refl
sites_counted N.Nothing k = refl
sites_counted (N.Union a b) k = count_two (sites a k.0) (sites b k.1) _ (size_of a) (size_of b) (sites_counted a k.0) (sites_counted b k.1)
sites_counted (N.And a b) k = count_two (sites a k.0) (sites b k.1) _ (size_of a) (size_of b) (sites_counted a k.0) (sites_counted b k.1)
sites_counted (N.Minus a b) k = count_two (sites a k.0) (sites b k.1) _ (size_of a) (size_of b) (sites_counted a k.0) (sites_counted b k.1)
sites_counted (N.Cat a b) k = count_two (sites a k.0) (sites b k.1) _ (size_of a) (size_of b) (sites_counted a k.0) (sites_counted b k.1)
sites_counted (N.Star a n) k = count_one (sites a k) _ (size_of a) (sites_counted a k)
sites_counted (N.Enter a l) k = count_one (sites a k) _ (size_of a) (sites_counted a k)
sites_counted (N.Finish a l) k = count_one (sites a k) _ (size_of a) (sites_counted a k)
sites_counted (N.All a l) k = count_one (sites a k) _ (size_of a) (sites_counted a k)
sites_counted (N.Leave a l) k = count_one (sites a k) _ (size_of a) (sites_counted a k)
sites_counted (N.Mark a class kind s x) k = count_one (sites a k) _ (size_of a) (sites_counted a k)
sites_counted (N.When a c) k = count_one (sites a k) _ (size_of a) (sites_counted a k)

pub below_counted : (t : Node) (k : Below t) → length (sites_below t k) + 1 ≡ size_of t
below_counted t k =
    let all : length (sites t (with_below t k)) ≡ size_of t = sites_counted t (with_below t k) in
    let split : length (sites t (with_below t k)) ≡ length (sites_below t k ++ AtNode t k ∷ []) = ap length (sites_with t k) in
    let one : length (sites_below t k ++ AtNode t k ∷ []) ≡ length (sites_below t k) + 1 = count_one (sites_below t k) (AtNode t k) (length (sites_below t k)) refl in
    omega arith

-- ---- honest sites

pub honest_sites : (t : Node) (k : Marks t) → AreHonest t k → (x : Site) → In x (sites t k) → IsHonestSite x
honest_sites t k h x i = honest_all (Plain t ∷ []) (k, tt) (h, tt) x (In-append_left x (sites t k) [] i)

either : (P : Site → Type 0) (xs ys : List Site) → ((x : Site) → In x xs → P x) → ((x : Site) → In x ys → P x) → (x : Site) → In x (xs ++ ys) → P x
either P xs ys f g x i = elim (In-append_cases x xs ys i) [ inl j ↦ f x j | inr j ↦ g x j ]

pub honest_operands : (t : Node) (k : Below t) → AreHonestBelow t k → (x : Site) → In x (sites_below t k) → IsHonestSite x
honest_operands (N.Set ranges) k h = λ x i. absurd i
honest_operands N.Null k h = λ x i. absurd i
honest_operands N.Nothing k h = λ x i. absurd i
honest_operands (N.Union a b) k h = either IsHonestSite (sites a k.0) (sites b k.1) (honest_sites a k.0 h.0) (honest_sites b k.1 h.1)
honest_operands (N.And a b) k h = either IsHonestSite (sites a k.0) (sites b k.1) (honest_sites a k.0 h.0) (honest_sites b k.1 h.1)
honest_operands (N.Minus a b) k h = either IsHonestSite (sites a k.0) (sites b k.1) (honest_sites a k.0 h.0) (honest_sites b k.1 h.1)
honest_operands (N.Cat a b) k h = either IsHonestSite (sites a k.0) (sites b k.1) (honest_sites a k.0 h.0) (honest_sites b k.1 h.1)
honest_operands (N.Star a n) k h = honest_sites a k h
honest_operands (N.Enter a l) k h = honest_sites a k h
honest_operands (N.Finish a l) k h = honest_sites a k h
honest_operands (N.All a l) k h = honest_sites a k h
honest_operands (N.Leave a l) k h = honest_sites a k h
honest_operands (N.Mark a class kind s x) k h = honest_sites a k h
honest_operands (N.When a c) k h = honest_sites a k h

-- ---- the first refused of two lists one after the other

module _ (alphabet : Alphabet) where
  pub accepted_append : (xs ys : List Site) → AreAccepted alphabet xs → AreAccepted alphabet ys → AreAccepted alphabet (xs ++ ys)
  accepted_append xs ys f g = either (IsAccepted alphabet) xs ys f g

  pub accepted_behind : (xs : List Site) (y : Site) → AreAccepted alphabet xs → IsAccepted alphabet y → AreAccepted alphabet (xs ++ y ∷ [])
  accepted_behind xs y f a = accepted_append xs (y ∷ []) f (λ x i. elim i [ inl e ↦ subst (IsAccepted alphabet) e a | inr j ↦ absurd j ])

  pub first_before : (xs ys : List Site) (i : ℕ) (c : Cause) → IsFirstRefused alphabet xs i c → IsFirstRefused alphabet (xs ++ ys) i c
  first_before [] ys i c h = absurd h
  first_before (x ∷ xs) ys zero c h = h
  first_before (x ∷ xs) ys (suc i) c h = (h.0, h.1, first_before xs ys i c h.2)

  pub first_after : (xs ys : List Site) (i n : ℕ) (c : Cause) → ((x : Site) → In x xs → IsHonestSite x) → AreAccepted alphabet xs → length xs + i ≡ n → IsFirstRefused alphabet ys i c → IsFirstRefused alphabet (xs ++ ys) n c
  first_after [] ys i n c f g e h = subst (λ w. IsFirstRefused alphabet ys w c) (same i n e) h
    where
      same : (i n : ℕ) → 0 + i ≡ n → i ≡ n
      same i n e = omega arith
  first_after (x ∷ xs) ys i zero c f g e h = absurd (none (length xs) i e)
    where
      none : (l i : ℕ) → suc l + i ≡ 0 → ⊥
      none l i e = omega arith
  first_after (x ∷ xs) ys i (suc n) c f g e h = (f x (inl refl), g x (inl refl), first_after xs ys i n c (λ y j. f y (inr j)) (λ y j. g y (inr j)) (less (length xs) i n e) h)
    where
      less : (l i n : ℕ) → suc l + i ≡ suc n → l + i ≡ n
      less l i n e = omega arith

  -- the last one is the first that is refused
  pub last_refused : (xs : List Site) (y : Site) (c : Cause) → ((x : Site) → In x xs → IsHonestSite x) → AreAccepted alphabet xs → IsHonestSite y → IsRefusedFor alphabet y c → IsFirstRefused alphabet (xs ++ y ∷ []) (length xs) c
  last_refused xs y c f g h r = first_after xs (y ∷ []) 0 (length xs) c f g (at_end (length xs)) (h, r)
    where
      at_end : (n : ℕ) → n + 0 ≡ n
      at_end n = omega arith

-- ---- what is reached before pruning

live_from : {S : Type 0} (live : S → Bool) (o : Option (Move S)) (m : Move S) → only_live live o ≡ Some m → o ≡ Some m
live_from live None m e = none_in m e
live_from live (Some v) m e =
    (elim (live v.to) as (λ b. cond b (Some v) None ≡ Some m → ◌≡◌ {A = Option (Move _)} (Some v) (Some m)) [
      | true ↦ λ q. q
      | false ↦ λ q. none_in m q
    ]) e

pruned_more : {S : Type 0} (live : S → Bool) (A : Auto S) (n : ℕ) → HasMore (pruned live A) n → HasMore A n
pruned_more live A n h = (h.0, (h.1.0, (λ c i. reach_in refl (λ s l v e. (v, live_from live (A.step s l) v e, refl)) c (h.1.1 c i))), h.2)

pub raw_more : (t : Node) (k : Marks t) (n : ℕ) → HasMore (auto t k) n → HasMore (raw_auto t (below t k)) n
raw_more (N.Set ranges) k n h = h
raw_more N.Null k n h = h
raw_more N.Nothing k n h = h
raw_more (N.Union a b) k n h = (quiet_more (raw_auto (N.Union a b) k) n).0 h
raw_more (N.And a b) k n h = pruned_more k.2 (raw_auto (N.And a b) (k.0, k.1)) n h
raw_more (N.Minus a b) k n h = pruned_more k.2 (raw_auto (N.Minus a b) (k.0, k.1)) n h
raw_more (N.Cat a b) k n h = (quiet_more (raw_auto (N.Cat a b) k) n).0 h
raw_more (N.Star a m) k n h = (quiet_more (raw_auto (N.Star a m) k) n).0 h
raw_more (N.Enter a l) k n h = h
raw_more (N.Finish a l) k n h = h
raw_more (N.All a l) k n h = h
raw_more (N.Leave a l) k n h = h
raw_more (N.Mark a class kind s x) k n h = h
raw_more (N.When a c) k n h = h
