-- Honest tests exist for each tree that was built.
use Rattle.std.proofs.Common.{ℕ, Bool, List, [], ◌∷◌, ◌↔◌, Option}
use Rattle.rl_sets.specs.Order.{IsOrder}
use Rattle.rl_sets.specs.Sets.{In}
use Rattle.rl_sets.proofs.OrderLaws.{bool_order, point_order, pair_is_order, option_is_order, list_is_order}
use Rattle.rl_automata.specs.Auto.{Auto, quiet, both_auto}
use Rattle.rl_automata.specs.Follows.{Reach, Follows}
use Rattle.rl_automata.specs.Nodes as N
use Rattle.rl_automata.specs.Nodes.{Node, Conf, Ends, TellsLive}
use Rattle.rl_automata.proofs.Congruence.{both_follows, pair_name, follows_on}
use Rattle.rl_automata.proofs.Congruence1.{quiet_follows}
use Rattle.rl_automata.specs.Marks.{Marks, auto}
use Rattle.rl_automata.specs.Scans.{Pattern, PatternMarks, scan_auto}
use Rattle.rl_automata.proofs.PruneLaws.{loud_tells}
use Rattle.rl_automata.proofs.Tests.{on_states, live_exists}

pub auto_order : (t : Node) (k : Marks t) → IsOrder (auto t k).order
auto_order (N.Set ranges) k = bool_order
auto_order N.Null k = point_order
auto_order N.Nothing k = point_order
auto_order (N.Union a b) k = pair_is_order (option_is_order (auto_order a k.0)) (option_is_order (auto_order b k.1))
auto_order (N.And a b) k = pair_is_order (option_is_order (auto_order a k.0)) (option_is_order (auto_order b k.1))
auto_order (N.Minus a b) k = pair_is_order (option_is_order (auto_order a k.0)) (option_is_order (auto_order b k.1))
auto_order (N.Cat a b) k = pair_is_order (option_is_order (auto_order a k.0)) (list_is_order (auto_order b k.1))
auto_order (N.Star a n) k = list_is_order (auto_order a k)
auto_order (N.Enter a l) k = auto_order a k
auto_order (N.Finish a l) k = auto_order a k
auto_order (N.All a l) k = auto_order a k
auto_order (N.Leave a l) k = auto_order a k
auto_order (N.Mark a class kind s x) k = auto_order a k
auto_order (N.When a c) k = auto_order a k

-- the marks of the machine before pruning give the node's test
module _ {S T : Type 0} {M M' : Auto ℕ} {A : Auto S} {B : Auto T} {f : ℕ → S} {g : ℕ → T} (o : IsOrder A.order) (o' : IsOrder B.order) (F : Follows M A f) (G : Follows M' B g)
    (test : Bool → Bool → Bool) (raw : Auto ℕ) (name : ℕ → Option ℕ × Option ℕ) (H : Follows raw (quiet (both_auto M M' test)) name)
    (js : List ℕ) (all : (i : ℕ) → Reach raw i ↔ In i js) (mark : ℕ → Bool) (tells : TellsLive raw mark) where
  pub node_test : (live : Option S × Option T → Bool) × TellsLive (both_auto A B test) live
  node_test =
      let to : Option ℕ × Option ℕ → Option S × Option T = pair_name F G in
      let K = follows_on name to H (quiet_follows (both_follows F G test)) in
      let order = pair_is_order (option_is_order o) (option_is_order o') in
      (on_states order (λ i. to (name i)) K js all mark, loud_tells (both_auto A B test) (on_states order (λ i. to (name i)) K js all mark) (live_exists order (λ i. to (name i)) K js all mark tells))

pub scan_order : (ps : List Pattern) (k : PatternMarks ps) → IsOrder (scan_auto ps k).order
scan_order [] k = point_order
scan_order (p ∷ ps) k = pair_is_order (option_is_order (auto_order p.tree k.0)) (scan_order ps k.1)
