-- A machine of two side by side, pruned, stands for the node where the operands stand for theirs.
use Rattle.std.proofs.Common.{◌≡◌, ℕ, zero, suc, ◌<◌, Bool, true, false, cond, not, ◌&&◌, List, [], ◌∷◌, ◌↔◌, Option, Some, None, option_map, length, slice_get, refl, sym, subst, inl, inr, arith, true≢false}
use native.Mathlib.Decide.{dec_lt}
use Rattle.rl_types.specs.declared.numbers.Letter.{Letter}
use Rattle.rl_sets.specs.Sets.{In}
use Rattle.rl_automata.specs.declared.moves.Move.{Move}
use Rattle.rl_automata.specs.Auto.{Auto, quiet, pruned, and_auto, minus_auto, both_auto, on_part, only_live}
use Rattle.rl_automata.specs.Follows.{Reach, Follows}
use Rattle.rl_automata.specs.Marks.{HasMarks}
use Rattle.rl_automata.specs.Nodes as N
use Rattle.rl_automata.specs.Nodes.{Node, TellsLive}
use Rattle.rl_automata.specs.Refused.{HasMore}
use Rattle.rl_automata.proofs.Congruence.{reach_all, some_in, none_in, follows_on, both_follows, pair_name, reach_along}
use Rattle.rl_automata.proofs.Congruence1.{quiet_follows, pruned_follows, reach_in}
use Rattle.rl_automata.proofs.CountLaws.{more_along, quiet_more}
use Rattle.rl_automata.proofs.MarksLaws.{auto_order, node_test}
use Rattle.rl_automata.proofs.PruneLaws.{told_same, quiet_tells, prune_quiet}
use Rattle.rl_fsm.specs.declared.edge.Edge.{Edge}
use Rattle.rl_fsm.specs.declared.state.State.{State}
use Rattle.rl_fsm.specs.Reads.{takes}
use Rattle.rl_fsm.specs.Graphs.{Graph, fsm_auto, state_at, edge_for, reads_of, move_of}
use Rattle.rl_fsm.specs.Sound.{IsEdge, AreEdges, IsSound}
use Rattle.rl_fsm.specs.Builds.{Builds, StandsFor}
use Rattle.rl_fsm.proofs.PieceLaws.{All-In}
use Rattle.rl_fsm.proofs.Walks.{reaches_each}
use Rattle.rl_explore.specs.declared.fault.BuildFault.{BuildFault}
use Rattle.rl_explore.specs.declared.fault.BuildFault.TheVariants.{L6, L8, F12, F15, Memory}
use Rattle.rl_explore.specs.Numbers.{IsCause}
use Rattle.rl_ops.specs.Live.{live_at, only_marked}

-- ---- nothing new is reached

live_from : {S : Type 0} (live : S → Bool) (o : Option (Move S)) (m : Move S) → only_live live o ≡ Some m → o ≡ Some m
live_from live None m e = none_in m e
live_from live (Some v) m e =
    (elim (live v.to) as (λ b. cond b (Some v) None ≡ Some m → ◌≡◌ {A = Option (Move _)} (Some v) (Some m)) [
      | true ↦ λ q. q
      | false ↦ λ q. none_in m q
    ]) e

pruned_reach : (m : Graph) (live : List Bool) (i : ℕ) → Reach (only_marked m live) i → Reach (fsm_auto m) i
pruned_reach m live = reach_in refl (λ s l v e. (v, live_from (live_at live) ((fsm_auto m).step s l) v e, refl))

pruned_more : (m : Graph) (live : List Bool) (n : ℕ) → HasMore (only_marked m live) n → HasMore (fsm_auto m) n
pruned_more m live n h = (h.0, (h.1.0, (λ c i. pruned_reach m live c (h.1.1 c i))), h.2)

-- so want of memory is the one fault
pub only_memory : (m : Graph) (live : List Bool) (most : ℕ) (e : BuildFault) → IsCause (only_marked m live) (λ c l. false) most e → ¬ HasMore (fsm_auto m) 32767 → ¬ HasMore (fsm_auto m) most → e ≡ Memory
only_memory m live most L6 h x y = absurd (x (pruned_more m live 32767 h))
only_memory m live most L8 h x y = absurd (y (pruned_more m live most h.1))
only_memory m live most (F12 i) h x y = absurd h
only_memory m live most F15 h x y = absurd (true≢false (sym h.2.3))
only_memory m live most Memory h x y = refl

-- what the machine of two reaches is what the two together do
pub raw_no_more : (a b raw : Graph) (test : Bool → Bool → Bool) (n : ℕ) → Builds (quiet (both_auto (fsm_auto a) (fsm_auto b) test)) raw → ¬ HasMore (both_auto (fsm_auto a) (fsm_auto b) test) n → ¬ HasMore (fsm_auto raw) n
raw_no_more a b raw test n z x h = x ((quiet_more (both_auto (fsm_auto a) (fsm_auto b) test) n).0 ((more_along z.follows n).0 h))

-- ---- the node

module _ {S T : Type 0} {A : Auto S} {B : Auto T} (a b : Graph) {f : ℕ → S} {g : ℕ → T} (F : Follows (fsm_auto a) A f) (G : Follows (fsm_auto b) B g) (test : Bool → Bool → Bool) where
  pruned_builds : (raw r : Graph) (mark : ℕ → Bool) (live : Option S × Option T → Bool) → Builds (quiet (both_auto (fsm_auto a) (fsm_auto b) test)) raw → TellsLive (fsm_auto raw) mark → TellsLive (both_auto A B test) live
      → Builds (pruned mark (fsm_auto raw)) r → Builds (pruned live (both_auto A B test)) r
  pruned_builds raw r mark live x marks honest y =
      let X = both_auto A B test in
      let H = follows_on x.name (pair_name F G) x.follows (quiet_follows (both_follows F G test)) in
      let told = told_same H mark live marks (quiet_tells X live honest) (reach_along H) in
      let P = follows_on (λ i. pair_name F G (x.name i)) (λ c. c) (pruned_follows H mark live told) (prune_quiet X live) in
      record { sound = y.sound; numbered = y.numbered; name = λ i. pair_name F G (x.name (y.name i)); follows = follows_on y.name (λ i. pair_name F G (x.name i)) y.follows P }

-- ---- the numbers that are reached

upto : ℕ → List ℕ
upto zero = []
upto (suc n) = n ∷ upto n

in_upto : (n i : ℕ) → i < n → In i (upto n)
unfolding upto
in_upto zero i h = absurd (omega arith)
in_upto (suc n) i h = elim (dec_lt i n) [ yes l ↦ inr (in_upto n i l) | no k ↦ inl (omega arith) ]

upto_below : (n i : ℕ) → In i (upto n) → i < n
unfolding upto
upto_below zero i h = absurd h
upto_below (suc n) i (inl e) = omega arith
upto_below (suc n) i (inr h) = let l : i < n = upto_below n i h in omega arith

find_in : (l : Letter) (es : List Edge) (e : Edge) → edge_for l es ≡ Some e → In e es
find_in l [] e h = none_in e h
find_in l (f ∷ es) e h =
    (elim (takes l (reads_of f)) as (λ b. cond b (Some f) (edge_for l es) ≡ Some e → In e (f ∷ es)) [
      | true ↦ λ q. inl (some_in f e q)
      | false ↦ λ q. inr (find_in l es e q)
    ]) h

get_In : {X : Type 0} (xs : List X) (i : ℕ) (x : X) → slice_get xs i ≡ Some x → In x xs
get_In [] i x e = none_in x e
get_In (y ∷ xs) zero x e = inl (some_in y x e)
get_In (y ∷ xs) (suc i) x e = inr (get_In xs i x e)

reached_below : (m : Graph) → IsSound m → (i : ℕ) → Reach (fsm_auto m) i → i < length m.states
reached_below m h = reach_all (λ i. i < length m.states) h.start (λ i r b l v e. by i l v (state_at m i) refl e)
  where
    by : (i : ℕ) (l : Letter) (v : Move ℕ) (o : Option State) → state_at m i ≡ o → on_part None (λ (s : State). option_map move_of (edge_for l s.edges)) o ≡ Some v → v.to < length m.states
    by i l v None q e = none_in v e
    by i l v (Some s) q e =
        let a = All-In (λ (s : State). AreEdges (length m.states) s.edges) m.states s h.edges (get_In m.states i s q) in
        (elim (edge_for l s.edges) as (λ o. edge_for l s.edges ≡ o → option_map move_of o ≡ Some v → v.to < length m.states) [
          | None ↦ λ r f. none_in v f
          | Some g ↦ λ r f. subst (λ w. w.to < length m.states) (some_in (move_of g) v f) (All-In (IsEdge (length m.states)) s.edges g a.each (find_in l s.edges g r)).target
        ]) refl e

all_reached : {S : Type 0} (A : Auto S) (m : Graph) → Builds A m → (i : ℕ) → Reach (fsm_auto m) i ↔ In i (upto (length m.states))
all_reached A m z i = ((λ r. in_upto (length m.states) i (reached_below m z.sound i r)), (λ j. reaches_each m z.sound z.numbered i (upto_below (length m.states) i j)))

module _ (a b raw r : Graph) (mark : ℕ → Bool) (tells : TellsLive (fsm_auto raw) mark) (y : Builds (pruned mark (fsm_auto raw)) r) where
  pub and_stands : Builds (quiet (and_auto (fsm_auto a) (fsm_auto b))) raw → (s t : Node) → StandsFor s a → StandsFor t b → StandsFor (N.And s t) r
  and_stands z s t p q k h = pruned_builds a b (p k.0 h.0).follows (q k.1 h.1).follows (λ x w. x && w) raw r mark k.2 z tells h.2 y

  pub minus_stands : Builds (quiet (minus_auto (fsm_auto a) (fsm_auto b))) raw → (s t : Node) → StandsFor s a → StandsFor t b → StandsFor (N.Minus s t) r
  minus_stands z s t p q k h = pruned_builds a b (p k.0 h.0).follows (q k.1 h.1).follows (λ x w. x && not w) raw r mark k.2 z tells h.2 y

  pub and_marks : Builds (quiet (and_auto (fsm_auto a) (fsm_auto b))) raw → (s t : Node) → StandsFor s a → StandsFor t b → HasMarks s → HasMarks t → HasMarks (N.And s t)
  and_marks z s t p q (k, hk) (j, hj) =
      let T = node_test (auto_order s k) (auto_order t j) (p k hk).follows (q j hj).follows (λ x w. x && w) (fsm_auto raw) z.name z.follows (upto (length raw.states)) (all_reached _ raw z) mark tells in
      ((k, j, T.0), (hk, hj, T.1))

  pub minus_marks : Builds (quiet (minus_auto (fsm_auto a) (fsm_auto b))) raw → (s t : Node) → StandsFor s a → StandsFor t b → HasMarks s → HasMarks t → HasMarks (N.Minus s t)
  minus_marks z s t p q (k, hk) (j, hj) =
      let T = node_test (auto_order s k) (auto_order t j) (p k hk).follows (q j hj).follows (λ x w. x && not w) (fsm_auto raw) z.name z.follows (upto (length raw.states)) (all_reached _ raw z) mark tells in
      ((k, j, T.0), (hk, hj, T.1))
