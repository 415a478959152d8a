-- An expression without cycles of priorities is the same automaton whether unions, concatenations and repetitions are
-- made quiet or not.
use Rattle.std.proofs.Common.{◌≡◌, ℤ, Bool, ◌&&◌, ◌||◌, not, List, [], ◌∷◌, ◌++◌, inl, refl, subst, Option}
use Rattle.std.specs.Option.{option_cmp}
use Rattle.std.specs.Cmp.Lexicographic.{slice_cmp}
use Rattle.rl_types.specs.declared.numbers.Letter.{Letter}
use Rattle.rl_sets.specs.Sets.{In}
use Rattle.rl_sets.specs.Order.{IsOrder, pair_order}
use Rattle.rl_sets.proofs.SetLaws.{In-append_left, In-append_right}
use Rattle.rl_automata.specs.Auto.{Auto, both_auto, union_auto, cat_auto, star_auto, pruned, quiet, both_jams, cat_jams, star_jams}
use Rattle.rl_automata.specs.Follows.{Reach, Follows}
use Rattle.rl_automata.specs.Nodes as N
use Rattle.rl_automata.specs.Nodes.{Node, Conf, carry_of}
use Rattle.rl_automata.specs.Marks.{Marks, auto}
use Rattle.rl_automata.specs.Sites.{Site, AtNode, sites, site_auto, site_jams}
use Rattle.rl_types.specs.declared.alphabet.Alphabet.{Alphabet}
use Rattle.rl_automata.specs.Refused.{HasCycle, IsAccepted, L6, L8, F15}
use Rattle.rl_automata.proofs.Congruence.{follows_on}
use Rattle.rl_automata.proofs.Congruence1.{pruned_follows, enter_follows, finish_follows, every_follows, leave_follows, mark_follows, when_follows}
use Rattle.rl_automata.proofs.PruneLaws.{quiet_reach}
use Rattle.rl_automata.proofs.HonestLaws.{itself, both_agrees, cat_agrees, star_agrees}
use Rattle.rl_automata.proofs.MarksLaws.{auto_order}
use Rattle.rl_asks.specs.Asks.{AsksTheSameQuiet, JamsAt, plain_auto, HasNoCycles}
use Rattle.rl_asks.proofs.Asking.{asks_where_it_steps, both_same, cat_same, star_same}

-- ---- one operator

-- quiet and not, where no candidates are a cycle
quiet_itself : {S : Type 0} (A : Auto S) (jam : S → Letter → Bool) → AsksTheSameQuiet A jam → ((c : S) (key : ℤ) → Reach A c → ¬ JamsAt jam c key) → Follows (quiet A) A (λ c. c)
quiet_itself A jam same n = let F = itself A in record {
  start = F.start;
  step = λ s r l. F.step s (quiet_reach A s r) l;
  final = λ s r. refl;
  out = λ s r. refl;
  marks = λ s r k. refl;
  asked = λ s r k. same s k (n s k (quiet_reach A s r));
  apart = λ s t r q e. e;
}

-- a node that is not refused for a cycle has none anywhere
never_jams : (x : Site) → ¬ HasCycle x → (c : _) (key : ℤ) → Reach (site_auto x) c → ¬ JamsAt (site_jams x) c key
never_jams x n c key r j = n (c, r, record { key = key; truths = j.0 }, j.2)

-- ---- the order

plain_order : (t : Node) (k : Marks t) → (auto t k).order ≡ (plain_auto t k).order
plain_order (N.Set ranges) k = refl
plain_order N.Null k = refl
plain_order N.Nothing k = refl
plain_order (N.Union a b) k = λ i. pair_order (option_cmp (plain_order a k.0 i)) (option_cmp (plain_order b k.1 i))
plain_order (N.And a b) k = λ i. pair_order (option_cmp (plain_order a k.0 i)) (option_cmp (plain_order b k.1 i))
plain_order (N.Minus a b) k = λ i. pair_order (option_cmp (plain_order a k.0 i)) (option_cmp (plain_order b k.1 i))
plain_order (N.Cat a b) k = λ i. pair_order (option_cmp (plain_order a k.0 i)) (slice_cmp (plain_order b k.1 i))
plain_order (N.Star a n) k = λ i. slice_cmp (plain_order a k i)
plain_order (N.Enter a l) k = plain_order a k
plain_order (N.Finish a l) k = plain_order a k
plain_order (N.All a l) k = plain_order a k
plain_order (N.Leave a l) k = plain_order a k
plain_order (N.Mark a class kind s x) k = plain_order a k
plain_order (N.When a c) k = plain_order a k

plain_is_order : (t : Node) (k : Marks t) → IsOrder (plain_auto t k).order
plain_is_order t k = subst IsOrder (plain_order t k) (auto_order t k)

-- ---- the sites of the operands

below : (x : Site) (xs : List Site) → ((y : Site) → In y (xs ++ x ∷ []) → ¬ HasCycle y) → (y : Site) → In y xs → ¬ HasCycle y
below x xs n y i = n y (In-append_left y xs (x ∷ []) i)

module _ (x : Site) (xs ys : List Site) (n : (y : Site) → In y (xs ++ ys ++ x ∷ []) → ¬ HasCycle y) where
  left_below : (y : Site) → In y xs → ¬ HasCycle y
  left_below y i = n y (In-append_left y (xs ++ ys) (x ∷ []) (In-append_left y xs ys i))

  right_below : (y : Site) → In y ys → ¬ HasCycle y
  right_below y i = n y (In-append_left y (xs ++ ys) (x ∷ []) (In-append_right y xs ys i))

  of_both : ¬ HasCycle x
  of_both = n x (In-append_right x (xs ++ ys) (x ∷ []) (inl refl))

of_one : (x : Site) (xs : List Site) → ((y : Site) → In y (xs ++ x ∷ []) → ¬ HasCycle y) → ¬ HasCycle x
of_one x xs n = n x (In-append_right x xs (x ∷ []) (inl refl))

-- ---- the law

module _ {S T : Type 0} {A A' : Auto S} {B B' : Auto T} (F : Follows A A' (λ s. s)) (G : Follows B B' (λ t. t)) where
  pruned_plain : (test : Bool → Bool → Bool) (live : Option S × Option T → Bool) → Follows (pruned live (both_auto A B test)) (pruned live (both_auto A' B' test)) (λ c. c)
  pruned_plain test live = pruned_follows (both_agrees F G test) live live (λ c r. refl)

pub quiet_is_plain : (t : Node) (k : Marks t) → HasNoCycles t k → Follows (auto t k) (plain_auto t k) (λ c. c)
quiet_is_plain (N.Set ranges) k n = itself (auto (N.Set ranges) k)
quiet_is_plain N.Null k n = itself (auto N.Null k)
quiet_is_plain N.Nothing k n = itself (auto N.Nothing k)
quiet_is_plain (N.Union a b) k n =
    let x = AtNode (N.Union a b) (k.0, k.1) in
    let F = quiet_is_plain a k.0 (left_below x (sites a k.0) (sites b k.1) n) in
    let G = quiet_is_plain b k.1 (right_below x (sites a k.0) (sites b k.1) n) in
    let U = union_auto (auto a k.0) (auto b k.1) in
    let same = both_same (auto a k.0) (auto b k.1) (asks_where_it_steps a k.0) (asks_where_it_steps b k.1) (λ p q. p || q) in
    follows_on (λ c. c) (λ c. c) (quiet_itself U (both_jams (auto a k.0) (auto b k.1)) same (never_jams x (of_both x (sites a k.0) (sites b k.1) n))) (both_agrees F G (λ p q. p || q))
quiet_is_plain (N.And a b) k n =
    let x = AtNode (N.And a b) (k.0, k.1) in
    pruned_plain (quiet_is_plain a k.0 (left_below x (sites a k.0) (sites b k.1) n)) (quiet_is_plain b k.1 (right_below x (sites a k.0) (sites b k.1) n)) (λ p q. p && q) k.2
quiet_is_plain (N.Minus a b) k n =
    let x = AtNode (N.Minus a b) (k.0, k.1) in
    pruned_plain (quiet_is_plain a k.0 (left_below x (sites a k.0) (sites b k.1) n)) (quiet_is_plain b k.1 (right_below x (sites a k.0) (sites b k.1) n)) (λ p q. p && not q) k.2
quiet_is_plain (N.Cat a b) k n =
    let x = AtNode (N.Cat a b) (k.0, k.1) in
    let F = quiet_is_plain a k.0 (left_below x (sites a k.0) (sites b k.1) n) in
    let G = quiet_is_plain b k.1 (right_below x (sites a k.0) (sites b k.1) n) in
    let same = cat_same (auto a k.0) (auto b k.1) (asks_where_it_steps a k.0) (asks_where_it_steps b k.1) in
    follows_on (λ c. c) (λ c. c) (quiet_itself (cat_auto (auto a k.0) (auto b k.1)) (cat_jams (auto a k.0) (auto b k.1)) same (never_jams x (of_both x (sites a k.0) (sites b k.1) n)))
    (cat_agrees F G (auto_order b k.1) (plain_is_order b k.1) (plain_order b k.1))
quiet_is_plain (N.Star a m) k n =
    let x = AtNode (N.Star a m) k in
    let F = quiet_is_plain a k (below x (sites a k) n) in
    let same = star_same (auto a k) (asks_where_it_steps a k) m in
    follows_on (λ c. c) (λ c. c) (quiet_itself (star_auto (auto a k) m) (star_jams (auto a k) m) same (never_jams x (of_one x (sites a k) n)))
    (star_agrees F (auto_order a k) (plain_is_order a k) (plain_order a k) m)
quiet_is_plain (N.Enter a l) k n = enter_follows (auto_order a k) (plain_is_order a k) (quiet_is_plain a k (below (AtNode (N.Enter a l) k) (sites a k) n)) (carry_of l)
quiet_is_plain (N.Finish a l) k n = finish_follows (quiet_is_plain a k (below (AtNode (N.Finish a l) k) (sites a k) n)) (carry_of l)
quiet_is_plain (N.All a l) k n = every_follows (quiet_is_plain a k (below (AtNode (N.All a l) k) (sites a k) n)) (carry_of l)
quiet_is_plain (N.Leave a l) k n = leave_follows (quiet_is_plain a k (below (AtNode (N.Leave a l) k) (sites a k) n)) (carry_of l)
quiet_is_plain (N.Mark a class kind s y) k n =
    mark_follows (auto_order a k) (plain_is_order a k) (quiet_is_plain a k (below (AtNode (N.Mark a class kind s y) k) (sites a k) n)) class kind (record { major = s; minor = 0; action = record { 0 = y } })
quiet_is_plain (N.When a c) k n = when_follows (quiet_is_plain a k (below (AtNode (N.When a c) k) (sites a k) n)) c

-- what is accepted is refused for no cause, and so for no cycle
pub accepted_no_cycles : (alphabet : Alphabet) (t : Node) (k : Marks t) → ((x : Site) → In x (sites t k) → IsAccepted alphabet x) → HasNoCycles t k
accepted_no_cycles alphabet t k a x i cycle = a x i F15 (a x i L6, λ cells. a x i L8 (a x i L6, cells), cycle)
