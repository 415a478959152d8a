-- The machines that are built find the words of their expressions.
use Rattle.std.proofs.Common.{◌≡◌, ℕ, zero, suc, ◌-◌, ◌<◌, ◌≤◌, List, [], ◌∷◌, ◌↔◌, refl, sym, ◌∙◌, ap, subst, map, Some, None, length, slice_get, nat_eq, false, cond, arith}
use Rattle.std.proofs.lemmas.Bool.Decides.{nat_tests}
use Rattle.rl_types.specs.declared.numbers.Letter.{Letter}
use Rattle.rl_automata.specs.Auto.{Auto, on_part}
use Rattle.rl_automata.specs.Follows.{Follows, begun}
use Rattle.rl_automata.specs.Nodes.{Ends}
use Rattle.rl_automata.specs.Marks.{auto}
use Rattle.rl_automata.proofs.PruneLaws.{ends_along, ends_back}
use Rattle.rl_fsm.specs.declared.root.EntryFsm.{EntryFsm}
use Rattle.rl_fsm.specs.declared.root.EntryFsm.TheVariants as F
use Rattle.rl_fsm.specs.Graphs.{Graph, fsm_auto}
use Rattle.rl_run.proofs.SameRuns.{same_runs}
use Rattle.rl_model.specs.Parts.{StandsAt}
use Rattle.rl_model.specs.Specification.{Specification, Root, Plain, Scanner, roots_of}
use Rattle.rl_model.specs.Trees.{Tests, IsHonest, root_at, tests_at, ConfAt, TestsOf, AreTestsHonest, HasHonestTests, context_of, tree_machine}
use Rattle.rl_build.specs.Entries.{IsMachineOf, AreMachinesOf}
use Rattle.rl_fsm.specs.Roots.{graph_of, graph_at}
use Rattle.rl_root.specs.Roots.{part_at, root_machine}
use Rattle.rl_build.specs.Roots.{IsTwinOf}
use Rattle.rl_language.specs.Verdicts.{IsWithoutPriorities, IsWordOfEntry, HasNoStatements, VerdictsTellWords}
use Rattle.rl_language.proofs.Matching.{automata_match}
use Rattle.rl_language.proofs.TreeWords.{tests_honest, iff_then, tree_tells, same_tell}

-- a machine ends along the words along which the automaton does that it is built of
follows_match : {S T : Type 0} (A : Auto S) (B : Auto T) (name : S → T) → Follows A B name → (w : List Letter) → Ends A w A.start ↔ Ends B w B.start
follows_match A B name F w = (
  (λ x. subst (Ends B w) F.start (ends_along F w A.start begun x)),
  (λ y. ends_back F w A.start begun (subst (Ends B w) (sym F.start) y)),
)

machine_match : (x : Root) (m : EntryFsm) → IsMachineOf x m → (k : Tests x) → IsHonest x k → IsWithoutPriorities x → (w : List Letter) → Ends (fsm_auto (graph_of m)) w (graph_of m).start ↔ IsWordOfEntry x w
machine_match (Plain t) (F.Plain g) stands k h e w =
    let b = stands k h in
    iff_then (follows_match (fsm_auto g) (auto t k) b.name b.follows w) (automata_match t k e h w)
machine_match (Plain t) (F.Scanner s) stands k h e w = absurd stands
machine_match (Scanner ps) m stands k h e w = absurd e

-- the machine of an entry
pub machines_at : (xs : List Root) (ms : List EntryFsm) → AreMachinesOf xs ms → (i : ℕ) → i < length xs → (m : EntryFsm) × (slice_get ms i ≡ Some m) × IsMachineOf (root_at xs (suc i)) m
machines_at [] ms h i lt = absurd (omega arith)
machines_at (x ∷ xs) [] h i lt = absurd h
machines_at (x ∷ xs) (m ∷ ms) h zero lt = (m, refl, h.0)
machines_at (x ∷ xs) (m ∷ ms) h (suc i) lt = machines_at xs ms h.1 i (omega arith)

graph_there : (ms : List EntryFsm) (i : ℕ) (m : EntryFsm) → slice_get ms i ≡ Some m → graph_at ms (suc i) ≡ graph_of m
graph_there ms i m e =
    let none : Graph = record { start = 0; states = [] } in
    ap (λ b. on_part none graph_of (cond b None (slice_get ms (suc i - 1)))) (not_zero i) ∙ ap (λ j. on_part none graph_of (slice_get ms j)) (less i) ∙ ap (on_part none graph_of) e
  where
    not_zero : (i : ℕ) → nat_eq (suc i) 0 ≡ false
    not_zero i = grind (arith, nat_tests)

    less : (i : ℕ) → suc i - 1 ≡ i
    less i = omega arith

pub mapped_length : {X Y : Type 0} (f : X → Y) (xs : List X) → length (map f xs) ≡ length xs
mapped_length f [] = refl
mapped_length f (x ∷ xs) = ap suc (mapped_length f xs)

pub built_match : (spec : Specification) (entries : List EntryFsm) → AreMachinesOf (roots_of spec) entries → HasHonestTests spec → (e : ℕ) → 1 ≤ e → e ≤ length spec.entries
    → IsWithoutPriorities (root_at (roots_of spec) e) → (w : List Letter) → Ends (fsm_auto (graph_at entries e)) w (graph_at entries e).start ↔ IsWordOfEntry (root_at (roots_of spec) e) w
built_match spec entries machines tests zero from up plain w = absurd (omega arith)
built_match spec entries machines tests (suc i) from up plain w =
    let size : length (roots_of spec) ≡ length spec.entries = mapped_length (λ e. e.root) spec.entries in
    let p = machines_at (roots_of spec) entries machines i (omega arith) in
    let x = root_at (roots_of spec) (suc i) in
    subst (λ g. Ends (fsm_auto g) w g.start ↔ IsWordOfEntry x w) (sym (graph_there entries i p.0 p.1))
    (machine_match x p.0 p.2 (tests_at (roots_of spec) tests.0 (suc i)) (tests_honest (roots_of spec) tests.0 tests.1 (suc i)) plain w)

pub built_tell : (spec : Specification) (tests : TestsOf spec) (entries : List EntryFsm) → AreTestsHonest spec tests → IsTwinOf spec tests entries → HasNoStatements spec → (e : ℕ) → 1 ≤ e → e ≤ length spec.entries
    → IsWithoutPriorities (root_at (roots_of spec) e) → VerdictsTellWords (root_machine entries (context_of spec)) e (root_at (roots_of spec) e)
built_tell spec tests entries honest twin quiet e from up plain =
    let R = StandsAt (ConfAt spec) (λ e. ℕ) (part_at entries) twin.0 in
    same_tell (tree_machine spec tests) (root_machine entries (context_of spec)) (λ a. a) R
    (same_runs (tree_machine spec tests) (root_machine entries (context_of spec)) (λ a. a) R twin.1)
    twin.1.width twin.1.key_of e (root_at (roots_of spec) e) (tree_tells spec tests honest quiet e from up plain)
