-- Two honest tests of one expression tell the same of all that is reached.
use Rattle.std.proofs.Common.{◌≡◌, ℕ, Bool, ◌&&◌, ◌||◌, not, List, [], ◌∷◌, map, refl, sym, ◌∙◌, ap, Option, Some, None, option_map, Ordering}
use Rattle.rl_sets.specs.Sets.{set_of, Ascends}
use Rattle.rl_sets.specs.Order.{IsOrder, pair_order}
use Rattle.rl_sets.proofs.SetLaws.{set_of-ascending}
use Rattle.std.specs.Option.{option_cmp}
use Rattle.std.specs.Cmp.Lexicographic.{slice_cmp}
use Rattle.rl_types.specs.declared.numbers.Letter.{Letter}
use Rattle.rl_automata.specs.declared.moves.Move.{Move}
use Rattle.rl_automata.specs.Auto.{Auto, both_auto, cat_auto, star_auto, pruned}
use Rattle.rl_automata.specs.Follows.{Reach, begun, went, renamed, Follows}
use Rattle.rl_automata.specs.Nodes as N
use Rattle.rl_automata.specs.Nodes.{Node, Conf, carry_of, TellsLive}
use Rattle.rl_automata.specs.Marks.{Marks, auto, AreHonest}
use Rattle.rl_automata.proofs.Congruence.{both_follows, pair_name, cat_follows, chain_name, chain_reach}
use Rattle.rl_automata.proofs.Congruence1.{quiet_follows, star_follows, star_reach, set_name, enter_follows, finish_follows, every_follows, leave_follows, mark_follows, when_follows}
use Rattle.rl_automata.proofs.Keeps.{pruned_both}
use Rattle.rl_automata.proofs.MarksLaws.{auto_order}

-- ---- other words for the same names

-- the same automaton under names that are equal where it reaches
pub follows_as : {S T : Type 0} {A : Auto S} {B : Auto T} (f g : S → T) → Follows A B f → ((s : S) → Reach A s → f s ≡ g s) → Follows A B g
follows_as {S = S} {T = T} {A = A} {B = B} f g F e = record {
  start = sym (e A.start begun) ∙ F.start;
  step = λ s r l. same s r l (A.step s l) refl ∙ F.step s r l ∙ ap (λ w. B.step w l) (e s r);
  final = λ s r. F.final s r ∙ ap B.final (e s r);
  out = λ s r. F.out s r ∙ ap B.out (e s r);
  marks = λ s r k. F.marks s r k ∙ ap (λ w. B.marks w k) (e s r);
  asked = λ s r k. F.asked s r k ∙ ap (λ w. B.asked w k) (e s r);
  apart = λ s t r q h. F.apart s t r q (e s r ∙ h ∙ sym (e t q));
}
  where
    same : (s : S) → Reach A s → (l : Letter) (o : Option (Move S)) → A.step s l ≡ o → option_map (renamed g) o ≡ option_map (renamed f) o
    same s r l None p = refl
    same s r l (Some m) p = λ i. Some (record { to = sym (e m.to (went r l m p)) i; carry = m.carry })

pub itself : {S : Type 0} (A : Auto S) → Follows A A (λ s. s)
itself {S = S} A = record {
  start = refl;
  step = λ s r l. same (A.step s l);
  final = λ s r. refl;
  out = λ s r. refl;
  marks = λ s r k. refl;
  asked = λ s r k. refl;
  apart = λ s t r q e. e;
}
  where
    same : (o : Option (Move S)) → option_map (renamed (λ s. s)) o ≡ o
    same None = refl
    same (Some m) = refl

option_map-itself : {S : Type 0} (o : Option S) → option_map (λ s. s) o ≡ o
option_map-itself None = refl
option_map-itself (Some s) = refl

map-itself : {S : Type 0} (ss : List S) → map (λ s. s) ss ≡ ss
map-itself [] = refl
map-itself (s ∷ ss) = λ i. s ∷ map-itself ss i

-- the order does not depend on the tests
pub order_same : (t : Node) (k h : Marks t) → (auto t k).order ≡ (auto t h).order
order_same (N.Set ranges) k h = refl
order_same N.Null k h = refl
order_same N.Nothing k h = refl
order_same (N.Union a b) k h = λ i. pair_order (option_cmp (order_same a k.0 h.0 i)) (option_cmp (order_same b k.1 h.1 i))
order_same (N.And a b) k h = λ i. pair_order (option_cmp (order_same a k.0 h.0 i)) (option_cmp (order_same b k.1 h.1 i))
order_same (N.Minus a b) k h = λ i. pair_order (option_cmp (order_same a k.0 h.0 i)) (option_cmp (order_same b k.1 h.1 i))
order_same (N.Cat a b) k h = λ i. pair_order (option_cmp (order_same a k.0 h.0 i)) (slice_cmp (order_same b k.1 h.1 i))
order_same (N.Star a n) k h = λ i. slice_cmp (order_same a k h i)
order_same (N.Enter a l) k h = order_same a k h
order_same (N.Finish a l) k h = order_same a k h
order_same (N.All a l) k h = order_same a k h
order_same (N.Leave a l) k h = order_same a k h
order_same (N.Mark a class kind s x) k h = order_same a k h
order_same (N.When a c) k h = order_same a k h

-- a set in order, written by an equal order
pub set_itself : {S : Type 0} (R Q : S → S → Ordering) → IsOrder R → R ≡ Q → (ss : List S) → Ascends R ss → set_of Q (map (λ s. s) ss) ≡ ss
set_itself R Q o e ss h = (λ i. set_of (sym e i) (map-itself ss i)) ∙ set_of-ascending o ss h

-- ---- the law

module _ {S T : Type 0} {A A' : Auto S} {B B' : Auto T} (F : Follows A A' (λ s. s)) (G : Follows B B' (λ t. t)) where
  pub pair_itself : (c : Option S × Option T) → pair_name F G c ≡ c
  pair_itself c = λ i. (option_map-itself c.0 i, option_map-itself c.1 i)

  pub both_agrees : (test : Bool → Bool → Bool) → Follows (both_auto A B test) (both_auto A' B' test) (λ c. c)
  both_agrees test = follows_as (pair_name F G) (λ c. c) (both_follows F G test) (λ c r. pair_itself c)

  pruned_agrees : (test : Bool → Bool → Bool) (live live' : Option S × Option T → Bool) → TellsLive (both_auto A B test) live → TellsLive (both_auto A' B' test) live' → Follows (pruned live (both_auto A B test)) (pruned live' (both_auto A' B' test)) (λ c. c)
  pruned_agrees test live live' x y = follows_as (pair_name F G) (λ c. c) (pruned_both F G test live live' x y) (λ c r. pair_itself c)

  pub chain_itself : (o : IsOrder B.order) (o' : IsOrder B'.order) → B.order ≡ B'.order → (c : Option S × List T) → Reach (cat_auto A B) c → chain_name o o' F G c ≡ c
  chain_itself o o' e c r = λ i. (option_map-itself c.0 i, set_itself B.order B'.order o e c.1 (chain_reach o o' F G c r).2 i)

  pub cat_agrees : (o : IsOrder B.order) (o' : IsOrder B'.order) → B.order ≡ B'.order → Follows (cat_auto A B) (cat_auto A' B') (λ c. c)
  cat_agrees o o' e = follows_as (chain_name o o' F G) (λ c. c) (cat_follows o o' F G) (chain_itself o o' e)

pub star_agrees : {S : Type 0} {A A' : Auto S} (F : Follows A A' (λ s. s)) (o : IsOrder A.order) (o' : IsOrder A'.order) → A.order ≡ A'.order → (base : ℕ) → Follows (star_auto A base) (star_auto A' base) (λ c. c)
star_agrees {A = A} {A' = A'} F o o' e base = follows_as (set_name o o' F) (λ c. c) (star_follows o o' F base)
    (λ c r. set_itself A.order A'.order o e c (star_reach o o' F base c r).1)

-- the automata of one expression, with two tests that are honest
pub honest_agree : (t : Node) (k h : Marks t) → AreHonest t k → AreHonest t h → Follows (auto t k) (auto t h) (λ c. c)
honest_agree (N.Set ranges) k h x y = itself (auto (N.Set ranges) k)
honest_agree N.Null k h x y = itself (auto N.Null k)
honest_agree N.Nothing k h x y = itself (auto N.Nothing k)
honest_agree (N.Union a b) k h x y = quiet_follows (both_agrees (honest_agree a k.0 h.0 x.0 y.0) (honest_agree b k.1 h.1 x.1 y.1) (λ p q. p || q))
honest_agree (N.And a b) k h x y = pruned_agrees (honest_agree a k.0 h.0 x.0 y.0) (honest_agree b k.1 h.1 x.1 y.1) (λ p q. p && q) k.2 h.2 x.2 y.2
honest_agree (N.Minus a b) k h x y = pruned_agrees (honest_agree a k.0 h.0 x.0 y.0) (honest_agree b k.1 h.1 x.1 y.1) (λ p q. p && not q) k.2 h.2 x.2 y.2
honest_agree (N.Cat a b) k h x y = quiet_follows (cat_agrees (honest_agree a k.0 h.0 x.0 y.0) (honest_agree b k.1 h.1 x.1 y.1) (auto_order b k.1) (auto_order b h.1) (order_same b k.1 h.1))
honest_agree (N.Star a n) k h x y = quiet_follows (star_agrees (honest_agree a k h x y) (auto_order a k) (auto_order a h) (order_same a k h) n)
honest_agree (N.Enter a l) k h x y = enter_follows (auto_order a k) (auto_order a h) (honest_agree a k h x y) (carry_of l)
honest_agree (N.Finish a l) k h x y = finish_follows (honest_agree a k h x y) (carry_of l)
honest_agree (N.All a l) k h x y = every_follows (honest_agree a k h x y) (carry_of l)
honest_agree (N.Leave a l) k h x y = leave_follows (honest_agree a k h x y) (carry_of l)
honest_agree (N.Mark a class kind s n) k h x y = mark_follows (auto_order a k) (auto_order a h) (honest_agree a k h x y) class kind (record { major = s; minor = 0; action = record { 0 = n } })
honest_agree (N.When a c) k h x y = when_follows (honest_agree a k h x y) c
