-- The machine of the classes is the one with the fewest states.
use Rattle.std.proofs.Common.{◌≡◌, ℕ, zero, suc, ◌<◌, ◌≤◌, cond, List, [], ◌∷◌, map, length, Option, Some, None, option_map, slice_get, unwrap_or, refl, ap, sym, ◌∙◌, subst, arith}
use Rattle.std.proofs.lemmas.List.{length-map}
use Rattle.rl_types.specs.declared.numbers.Letter.{Letter}
use Rattle.rl_types.specs.declared.numbers.Key.{Key}
use Rattle.rl_automata.specs.declared.moves.Move.{Move}
use Rattle.rl_automata.proofs.Congruence.{reach_all, some_in}
use Rattle.rl_automata.specs.Follows.{Reach}
use Rattle.rl_explore.proofs.NumberLaws.{get_exists}
use Rattle.rl_fsm.specs.declared.root.EntryFsm.{EntryFsm}
use Rattle.rl_fsm.specs.Roots.{auto_at}
use Rattle.rl_run.specs.Machine.{Go, Machine}
use Rattle.rl_run.specs.Twin.{IsTwin, GoR, After}
use Rattle.rl_run.specs.Classes.{InClass, AreAlike}
use Rattle.rl_run.proofs.Compose.{twin_after}
use Rattle.rl_model.specs.Parts.{Context, letter_of, go_at, start_at}
use Rattle.rl_root.specs.Roots.{RootState, part_at, root_machine, IsBuilt}
use Rattle.rl_minimal.specs.Minimal.{Minimal}
use Rattle.rl_minimal.specs.Machine.{min_machine}
use Rattle.rl_minimal.specs.Sound.{IsMinimal}
use Rattle.rl_refine.specs.Classes.{AreClasses}
use Rattle.rl_reach.specs.Canonical.{IsMachineOf, IsUnmerged, IsLeast}
use Rattle.rl_min.specs.Numbering.{class_at, IsNumbering}
use Rattle.rl_min.specs.Merged.{number_at, state_for, merged_of, IsMergedOf}
use Rattle.rl_min.specs.Least.{IsLeastOf}
use Rattle.rl_min.proofs.ClassLaws.{same_alike, alike_same}
use Rattle.rl_min.proofs.AlikeLaws.{alike_from, alike_to, twin_by}
use Rattle.rl_min.proofs.ReachedLaws.{states_reached}
use Rattle.rl_min.proofs.MergedLaws.{picked, merged_twin}
use Rattle.rl_min.proofs.SoundLaws.{no_context}
use Rattle.rl_min.proofs.CanonicalLaws.{found, merged_canonical}

module _ (entries : List EntryFsm) (m : Minimal) (is : IsMachineOf entries m) (apart : IsUnmerged entries m is) (minimal : IsMinimal m) where
  abbrev Built : RootState → Type 0
  Built = IsBuilt entries

  -- ---- what is built has a number

  module _ (context : Context) where
    abbrev root : Machine RootState
    root = root_machine entries context

    abbrev old : Machine ℕ
    old = min_machine m context

    go_inside : (g : Go RootState) (o : Option (Go ℕ)) (i : ℕ) (l : Key × ℕ) → old.find i l.0 l.1 ≡ o → i < length m.states → GoR root old (λ a. a) (InClass root is.class Built) (Some g) o → is.class g.target < length m.states
    go_inside g None i l e h r = absurd r
    go_inside g (Some x) i l e h r = subst (λ k. k < length m.states) r.0.0 ((states_reached m minimal context).steps i l.0 l.1 x h e).0

    step_inside : (q : RootState) (l : Key × ℕ) (g : Go RootState) → Built q → is.class q < length m.states → root.find q l.0 l.1 ≡ Some g → is.class g.target < length m.states
    step_inside q l g b h e =
        go_inside g (old.find (is.class q) l.0 l.1) (is.class q) l refl h (subst (λ o. GoR root old (λ a. a) (InClass root is.class Built) o (old.find (is.class q) l.0 l.1)) e ((is.twin context).find q (is.class q) l.0 l.1 (refl, b)))

  failed_inside : is.class None < length m.states
  failed_inside = subst (λ k. k < length m.states) ((is.twin no_context).failed.0) (states_reached m minimal no_context).failed

  built_inside : (q : RootState) → Built q → is.class q < length m.states
  built_inside None b = failed_inside
  built_inside (Some (e, i)) b = reach_all (λ j. is.class (Some (e, j)) < length m.states) start further i b.1
    where
      start : is.class (Some (e, (auto_at entries e).start)) < length m.states
      start =
          let entry_is : (root_machine entries no_context).entry e ≡ Some (e, (auto_at entries e).start) = ap (λ t. cond t (start_at (λ e. ℕ) (part_at entries) e) None) b.0 in
          subst (λ q. is.class q < length m.states) entry_is (subst (λ k. k < length m.states) ((is.twin no_context).entry e).0 ((states_reached m minimal no_context).entries e))

      further : (j : ℕ) → Reach (auto_at entries e) j → is.class (Some (e, j)) < length m.states → (l : Letter) (v : Move ℕ) → (auto_at entries e).step j l ≡ Some v → is.class (Some (e, v.to)) < length m.states
      further j r h l v s =
          step_inside no_context (Some (e, j)) (record { 0 = l.key }, l.truths) (go_at (λ e. ℕ) (part_at entries) e v) (b.0, r) h (ap (option_map (go_at (λ e. ℕ) (part_at entries) e)) s)

  -- ---- the classes

  module _ (classes numbers states : List ℕ) (alike : AreClasses m classes) (n : IsNumbering classes numbers states) where
    abbrev c : ℕ → ℕ
    c i = number_at numbers i

    abbrev L : Minimal
    L = merged_of m numbers states

    abbrev number : RootState → ℕ
    number q = c (is.class q)

    abbrev Inside : ℕ → Type 0
    Inside i = i < length m.states

    count_is : length L.states ≡ length states
    count_is = length-map states (state_for m.states numbers)

    twin : (context : Context) → IsTwin (root_machine entries context) (min_machine L context) (λ a. a) (InClass (root_machine entries context) number Built)
    twin context =
        let R = root_machine entries context in
        let O = min_machine m context in
        let first = InClass R is.class Built in
        let second = InClass O c Inside in
        twin_by R (min_machine L context) (After first second) (InClass R number Built) (λ q p r. (r.2.0 ∙ ap c r.1.0, r.1.1)) (λ q p r. (is.class q, (refl, r.1), (r.0, built_inside q r.1)))
        (twin_after R O (min_machine L context) (λ a. a) (λ a. a) first second (is.twin context) (merged_twin m minimal classes numbers states alike n context))

    used : (p : ℕ) → p < length L.states → (q : RootState) × Built q × (number q ≡ p)
    used p h =
        let e : length L.states ≡ length states = count_is in
        let t = picked m minimal classes numbers states alike n p (omega arith) in
        let u = is.used (class_at states p) t.there in
        (u.0, u.1, ap c u.2 ∙ t.number)

    machine : IsMachineOf entries L
    machine = record {
      class = number;
      twin = twin;
      used = used;
      starts = length-map m.entries c ∙ is.starts;
      order = found m minimal classes numbers states alike n is.order is.canonical;
      canonical = merged_canonical m minimal classes numbers states alike n is.order is.canonical;
    }

    pub least_of : IsLeastOf entries L
    unfolding machine
    least_of = record {
      machine = machine;
      least = λ context. record {
        sound = λ q p a b e.
            alike_from (root_machine entries context) (min_machine m context) (InClass (root_machine entries context) is.class Built) (is.twin context) q p (is.class q) (is.class p) (refl, a) (refl, b)
            (same_alike m minimal classes numbers states alike n context (is.class q) (is.class p) (built_inside q a) (built_inside p b) e);
        complete = λ q p a b s.
            alike_same m minimal classes numbers states alike n context (is.class q) (is.class p) (built_inside q a) (built_inside p b)
            (alike_to (root_machine entries context) (min_machine m context) (InClass (root_machine entries context) is.class Built) (is.twin context) q p (is.class q) (is.class p) (refl, a) (refl, b) s);
      };
      unlike = unlike;
    }
      where
        unlike : (context : Context) (i j : ℕ) → i < length L.states → j < length L.states → AreAlike (min_machine L context) i j → i ≡ j
        unlike context i j a b s =
            let e : length L.states ≡ length states = count_is in
            let t = picked m minimal classes numbers states alike n i (omega arith) in
            let u = picked m minimal classes numbers states alike n j (omega arith) in
            let same = alike_from (min_machine m context) (min_machine L context) (InClass (min_machine m context) c Inside) (merged_twin m minimal classes numbers states alike n context) (class_at states i) (class_at states j) i j (sym t.number, t.there) (sym u.number, u.there) s in
            sym t.number ∙ alike_same m minimal classes numbers states alike n context (class_at states i) (class_at states j) t.there u.there same ∙ u.number

-- ---- what is made

pub made_least : (entries : List EntryFsm) (m least : Minimal) → (is : IsMachineOf entries m) × IsUnmerged entries m is → IsMinimal m → IsMergedOf m least → IsLeastOf entries least
made_least entries m least made minimal merged = subst (IsLeastOf entries) (sym merged.made) (least_of entries m made.0 made.1 minimal merged.classes merged.numbers merged.states merged.alike merged.numbering)
