-- The machine's automaton whose steps want a condition.
use Rattle.std.proofs.Common.{◌≡◌, ℕ, ℤ, ◌-◌, ◌^◌, ◌<◌, Bool, true, false, cond, ◌||◌, List, [], ◌∷◌, map, Option, Some, None, option_map, is_some, nat_eq, bit_and, bit_or, IsTrue, refl, ap, sym, ◌∙◌, subst, arith}
use Rattle.std.specs.Int.{bit_at}
use Rattle.std.specs.List.{list_any}
use Rattle.std.proofs.lemmas.Nat.Bits.{bit_at_and, bit_at_or, bit_at-pow_same, bit_at-lt}
use Rattle.rl_types.specs.declared.numbers.Letter.{Letter}
use Rattle.rl_types.specs.KeyRange.{Range}
use Rattle.rl_automata.specs.declared.moves.Move.{Move}
use Rattle.rl_automata.specs.declared.tree.Kind.{Kind}
use Rattle.rl_automata.specs.declared.tree.Kind.TheVariants.{To, From, Eof, Error}
use Rattle.rl_automata.specs.Auto.{Auto, on_part, holds, guarded_step, quiet, when_auto, steps_at, every_truths}
use Rattle.rl_automata.specs.Nodes as N
use Rattle.rl_automata.specs.Nodes.{Node}
use Rattle.rl_automata.proofs.Congruence.{follows_on}
use Rattle.rl_automata.proofs.Congruence1.{when_follows}
use Rattle.rl_fsm.specs.declared.edge.Edge.{Edge}
use Rattle.rl_fsm.specs.declared.state.State.{State}
use Rattle.rl_fsm.specs.Reads.{asks_at}
use Rattle.rl_fsm.specs.Graphs.{Graph, fsm_auto, state_at, reads_of, edge_for, move_of, marks_of, ranges_of, ranges_at}
use Rattle.rl_fsm.specs.Builds.{Builds, StandsFor}
use Rattle.rl_explore.specs.Ranges.{at, InSame, Outside, ReadsRanges, AsksRanges, AreRanges}
use Rattle.rl_embed.specs.Guarded.{reads_in, reads_key, marks_at, no_marks, guarded_auto}
use Rattle.rl_embed.proofs.EdgeLaws.{Inside, inside_right, edges_alike, asks_alike, reads_alike, edges_outside, reads_outside, outside_from, edges_told}

-- ---- the condition among those that are asked

kept_bit : (t q i : ℕ) → bit_at (bit_and t (bit_or (2 ^ i) q)) i ≡ bit_at t i
kept_bit t q i = omega (arith, bit_at_and t (bit_or (2 ^ i) q) i, bit_at_or (2 ^ i) q i, bit_at-pow_same i, bit_at-lt q i, bit_at-lt t i)

holds_kept : (c t q : ℕ) → holds c t ≡ holds c (bit_and t (bit_or (2 ^ (c - 1)) q))
holds_kept c t q = ap (λ w. nat_eq w 1) (sym (kept_bit t q (c - 1)))

never : (b : Bool) → ◌≡◌ {A = Option (Move ℕ)} (cond b None None) None
never true = refl
never false = refl

-- ---- the ranges of a state's edges tell what it does

module _ (c : ℕ) where
  abbrev ranges_in : Option State → List Range
  ranges_in o = on_part [] (λ (s : State). ranges_of s.edges) o

  abbrev step_in : Option State → Letter → Option (Move ℕ)
  step_in o l = cond (holds c l.truths) (on_part None (λ (s : State). option_map move_of (edge_for l s.edges)) o) None

  abbrev all_asks : List Edge → ℤ → ℕ
  all_asks es k = bit_or (2 ^ (c - 1)) (asks_at k (map reads_of es))

  abbrev asked_in : Option State → ℤ → ℕ
  asked_in o k = cond (on_part false (λ (s : State). reads_in k s.edges) o) (bit_or (2 ^ (c - 1)) (on_part 0 (λ (s : State). asks_at k (map reads_of s.edges)) o)) 0

  step_outside : (o : Option State) (k : ℤ) → Outside (ranges_in o) k → (t : ℕ) → step_in o (at k t) ≡ None
  step_outside None k f t = never (holds c t)
  step_outside (Some s) k f t = ap (λ w. cond (holds c t) (option_map move_of w) None) (edges_outside k s.edges f t) ∙ never (holds c t)

  step_alike : (o : Option State) (j k : ℤ) → InSame (ranges_in o) j k → (t : ℕ) → step_in o (at j t) ≡ step_in o (at k t)
  step_alike None j k f t = refl
  step_alike (Some s) j k f t = ap (λ w. cond (holds c t) (option_map move_of w) None) (edges_alike j k s.edges f t)

  step_told : (o : Option State) (k : ℤ) (t : ℕ) → step_in o (at k t) ≡ step_in o (at k (bit_and t (asked_in o k)))
  step_told None k t = never (holds c t) ∙ sym (never (holds c (bit_and t 0)))
  step_told (Some s) k t = by (reads_in k s.edges) refl
    where
      by : (b : Bool) → reads_in k s.edges ≡ b → step_in (Some s) (at k t) ≡ step_in (Some s) (at k (bit_and t (cond b (all_asks s.edges k) 0)))
      by true q = λ x. cond (holds_kept c t (asks_at k (map reads_of s.edges)) x) (option_map move_of (edges_told k t (all_asks s.edges k) s.edges (inside_right (2 ^ (c - 1)) (asks_at k (map reads_of s.edges))) x)) None
      by false q = let f = outside_from k s.edges q in step_outside (Some s) k f t ∙ sym (step_outside (Some s) k f (bit_and t 0))

  asked_alike : (o : Option State) (j k : ℤ) → InSame (ranges_in o) j k → asked_in o j ≡ asked_in o k
  asked_alike None j k f = refl
  asked_alike (Some s) j k f = λ x. cond (reads_alike j k s.edges f x) (bit_or (2 ^ (c - 1)) (asks_alike j k s.edges f x)) 0

  asked_outside : (o : Option State) (k : ℤ) → Outside (ranges_in o) k → asked_in o k ≡ 0
  asked_outside None k f = refl
  asked_outside (Some s) k f = ap (λ b. cond b (all_asks s.edges k) 0) (reads_outside k s.edges f)

  pub guard_are : (m : Graph) (i : ℕ) → AreRanges (guarded_auto c m) (λ j l. false) i (ranges_at m i)
  guard_are m i = let o = state_at m i in record {
    steps = record { alike = step_alike o; outside = step_outside o; told = step_told o };
    cycles = record { alike = λ j k f t. refl; outside = λ k f t. refl; told = λ k t. refl };
    asks = record { alike = asked_alike o; outside = asked_outside o };
  }

  -- ---- nothing is asked where nothing steps

  no_any : (f : ℕ → Bool) → ((t : ℕ) → f t ≡ false) → (ts : List ℕ) → list_any f ts ≡ false
  no_any f e [] = refl
  no_any f e (t ∷ ts) = ap (λ b. b || list_any f ts) (e t) ∙ no_any f e ts

  reads_nothing : (o : Option State) (k : ℤ) → on_part false (λ (s : State). reads_in k s.edges) o ≡ false → Outside (ranges_in o) k
  reads_nothing None k q r i = absurd i
  reads_nothing (Some s) k q r i = outside_from k s.edges q r i

  module _ (m : Graph) where
    steps_nowhere : (i : ℕ) (k : ℤ) → reads_key m i k ≡ false → steps_at (guarded_auto c m) i k ≡ false
    steps_nowhere i k q = no_any (λ t. is_some ((guarded_auto c m).step i (at k t))) (λ t. ap is_some (step_outside (state_at m i) k (reads_nothing (state_at m i) k q) t)) every_truths

    quiet_asks : (i : ℕ) (k : ℤ) → (quiet (guarded_auto c m)).asked i k ≡ (when_auto c (fsm_auto m)).asked i k
    quiet_asks i k = by (reads_key m i k) refl
      where
        by : (b : Bool) → reads_key m i k ≡ b → cond (steps_at (guarded_auto c m) i k) (cond b (bit_or (2 ^ (c - 1)) ((fsm_auto m).asked i k)) 0) 0 ≡ cond (steps_at (guarded_auto c m) i k) (bit_or (2 ^ (c - 1)) ((fsm_auto m).asked i k)) 0
        by true q = refl
        by false q = let n = steps_nowhere i k q in ap (λ b. cond b 0 0) n ∙ sym (ap (λ b. cond b (bit_or (2 ^ (c - 1)) ((fsm_auto m).asked i k)) 0) n)

    pub quiet_is : quiet (guarded_auto c m) ≡ when_auto c (fsm_auto m)
    quiet_is = λ j. record (when_auto c (fsm_auto m)) { asked = λ i k. quiet_asks i k j }

-- ---- marks, expressions

pub marks_told : (m : Graph) (i : ℕ) (k : Kind) → marks_of k (marks_at m i) ≡ (fsm_auto m).marks i k
marks_told m i k = by (state_at m i) k
  where
    by : (o : Option State) (k : Kind) → marks_of k (on_part no_marks (λ (s : State). s.marks) o) ≡ on_part [] (λ (s : State). marks_of k s.marks) o
    by None To = refl
    by None From = refl
    by None Eof = refl
    by None Error = refl
    by (Some s) k = refl

pub when_stands : (c : ℕ) (a r : Graph) → Builds (when_auto c (fsm_auto a)) r → (t : Node) → StandsFor t a → StandsFor (N.When t c) r
when_stands c a r z t w k h =
    let b = w k h in
    record { sound = z.sound; numbered = z.numbered; name = λ i. b.name (z.name i); follows = follows_on z.name b.name z.follows (when_follows b.follows c) }
