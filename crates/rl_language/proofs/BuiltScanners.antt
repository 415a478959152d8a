-- The machines of scanners find the tokens that their patterns' trees do.
use Rattle.std.proofs.Common.{◌≡◌, ℕ, zero, suc, ◌-◌, ◌<◌, ◌≤◌, Bool, true, false, cond, List, [], ◌∷◌, refl, sym, ◌∙◌, ap, subst, Option, Some, None, option_map, is_some, length, slice_get, nat_eq, arith}
use Rattle.std.specs.List.{All}
use Rattle.std.proofs.lemmas.Bool.Decides.{nat_tests}
use Rattle.rl_types.specs.declared.numbers.ActionId.{ActionId}
use Rattle.rl_types.specs.declared.numbers.Letter.{Letter}
use Rattle.rl_labels.specs.Labels.{numbers}
use Rattle.rl_automata.specs.declared.moves.Move.{Move}
use Rattle.rl_automata.specs.Auto.{Auto, on_part}
use Rattle.rl_automata.specs.Follows.{Reach, begun, went, Follows, renamed}
use Rattle.rl_automata.specs.Scans.{Pattern, Confs, PatternMarks, ArePatternsHonest, ends_token, token_list, scan_auto}
use Rattle.rl_automata.proofs.Congruence.{reach_all, some_in, none_in}
use Rattle.rl_fsm.specs.declared.edge.Edge.{Edge}
use Rattle.rl_fsm.specs.declared.root.EntryFsm.{EntryFsm}
use Rattle.rl_fsm.specs.declared.root.EntryFsm.TheVariants as F
use Rattle.rl_fsm.specs.declared.state.State.{State}
use Rattle.rl_fsm.specs.Graphs.{Graph, fsm_auto, state_at, edge_for, reads_of, move_of}
use Rattle.rl_fsm.specs.Reads.{takes}
use Rattle.rl_fsm.specs.Roots.{graph_of, entry_at, ends_in, token_list_in}
use Rattle.rl_fsm.specs.Scanned.{Scanned, token_at}
use Rattle.rl_fsm.specs.Sound.{IsEdge, AreEdges, IsSound}
use Rattle.rl_model.specs.Parts.{Part}
use Rattle.rl_model.specs.Specification.{Specification, Root, Scanner, roots_of}
use Rattle.rl_model.specs.Trees.{root_at, list_or}
use Rattle.rl_root.specs.Roots.{part_at}
use Rattle.rl_scan.specs.Scanners.{BuildsScanner}
use Rattle.rl_build.specs.Entries.{IsMachineOf, AreMachinesOf}
use Rattle.rl_language.specs.Scanners.{ArePatternsWithoutPriorities, Leads, MakesToken, match_in, FindsTokens}
use Rattle.rl_language.proofs.BuiltWords.{machines_at, mapped_length}
use Rattle.rl_language.proofs.LongestMatch.{Knows, finds, tree_match, scan_has}
use Rattle.rl_language.proofs.ScannerWords.{scan_token, scan_stuck}

-- ---- states that are reached are states

all_at : {X : Type 0} (P : X → Type 0) (xs : List X) (i : ℕ) (x : X) → All P xs → slice_get xs i ≡ Some x → P x
all_at P [] i x a e = none_in x e
all_at P (y ∷ xs) zero x a e = subst P (some_in y x e) (a zero y (omega arith))
all_at P (y ∷ xs) (suc i) x a e = all_at P xs i x (λ k d h. a (suc k) d (omega arith)) e

-- what holds of each edge holds of the one that is found
edge_has : (P : Edge → Type 0) (es : List Edge) (l : Letter) (e : Edge) → All P es → edge_for l es ≡ Some e → P e
edge_has P [] l e a h = none_in e h
edge_has P (f ∷ es) l e a h =
    (elim (takes l (reads_of f)) as (λ b. cond b (Some f) (edge_for l es) ≡ Some e → P e) [
      | true ↦ λ q. subst P (some_in f e q) (a zero f (omega arith))
      | false ↦ λ q. edge_has P es l e (λ k d h. a (suc k) d (omega arith)) q
    ]) h

reached_below : (m : Graph) → IsSound m → (i : ℕ) → Reach (fsm_auto m) i → i < length m.states
reached_below m h = reach_all (λ i. i < length m.states) h.start (λ i r b l v e. by i l v (state_at m i) refl e)
  where
    by : (i : ℕ) (l : Letter) (v : Move ℕ) (o : Option State) → state_at m i ≡ o → on_part None (λ (s : State). option_map move_of (edge_for l s.edges)) o ≡ Some v → v.to < length m.states
    by i l v None q e = none_in v e
    by i l v (Some s) q e =
        let a = all_at (λ (s : State). AreEdges (length m.states) s.edges) m.states i s h.edges q in
        (elim (edge_for l s.edges) as (λ o. edge_for l s.edges ≡ o → option_map move_of o ≡ Some v → v.to < length m.states) [
          | None ↦ λ r f. none_in v f
          | Some g ↦ λ r f. subst (λ w. w.to < length m.states) (some_in (move_of g) v f) (edge_has (IsEdge (length m.states)) s.edges l g a.each r).target
        ]) refl e

-- ---- words along a machine and along what it follows

module _ {S T : Type 0} (A : Auto S) (B : Auto T) (name : S → T) (F : Follows A B name) where
  step_led : (s : S) → Reach A s → (l : Letter) (m : Move S) → A.step s l ≡ Some m → B.step (name s) l ≡ Some (renamed name m)
  step_led s r l m e = sym (F.step s r l) ∙ ap (option_map (renamed name)) e

  step_none : (s : S) → Reach A s → (l : Letter) → A.step s l ≡ None → B.step (name s) l ≡ None
  step_none s r l e = sym (F.step s r l) ∙ ap (option_map (renamed name)) e

  leads_along : (w : List Letter) (s t : S) → Reach A s → Leads A w s t → Reach A t × Leads B w (name s) (name t)
  leads_along [] s t r e = (subst (Reach A) e r, ap name e)
  leads_along (l ∷ w) s t r (m, e, h) =
      let rest = leads_along w m.to t (went r l m e) h in
      (rest.0, (renamed name m, step_led s r l m e, rest.1))

  pub led_from_start : (w : List Letter) (t : S) → Leads A w A.start t → Reach A t × Leads B w B.start (name t)
  led_from_start w t h =
      let along = leads_along w A.start t begun h in
      (along.0, subst (λ c. Leads B w c (name t)) F.start along.1)

-- ---- one scanner

-- a state of a scanner's machine is a match where it has a list
some_or : (o : Option (List ActionId)) → cond (is_some o) (Some (on_part [] numbers o)) None ≡ option_map numbers o
some_or None = refl
some_or (Some x) = refl

some_is : {X Y : Type 0} (f : X → Y) (o : Option X) → is_some (option_map f o) ≡ is_some o
some_is f None = refl
some_is f (Some x) = refl

final_some : (ps : List Pattern) (k : PatternMarks ps) (c : Confs ps) → is_some (token_list ps k c) ≡ ends_token ps k c
final_some ps k c = ap is_some (sym (tree_match ps k c)) ∙ by (ends_token ps k c)
  where
    by : (b : Bool) → is_some (cond b (Some (list_or (token_list ps k c))) None) ≡ b
    by true = refl
    by false = refl

module _ (ps : List Pattern) (k : PatternMarks ps) (plain : ArePatternsWithoutPriorities ps) (honest : ArePatternsHonest ps k) (s : Scanned) (b : BuildsScanner (scan_auto ps k) (token_list ps k) s) (p : Part ℕ)
    (start : p.auto.start ≡ s.machine.start) (step : p.auto.step ≡ (fsm_auto s.machine).step)
    (ends : (i : ℕ) → p.auto.final i ≡ is_some (token_at s.tokens i)) (lists : (i : ℕ) → p.token i ≡ on_part [] numbers (token_at s.tokens i)) where
  abbrev B : Auto (Confs ps)
  B = scan_auto ps k

  abbrev name : ℕ → Confs ps
  name = b.machine.name

  as_machine : (w : List Letter) (i j : ℕ) → Leads p.auto w i j → Leads (fsm_auto s.machine) w i j
  as_machine [] i j e = e
  as_machine (l ∷ w) i j (m, e, h) = (m, ap (λ f. f i l) (sym step) ∙ e, as_machine w m.to j h)

  led : (w : List Letter) (i : ℕ) → Leads p.auto w p.auto.start i → Reach (fsm_auto s.machine) i × Leads B w B.start (name i)
  led w i h = led_from_start (fsm_auto s.machine) B name b.machine.follows w i (subst (λ q. Leads (fsm_auto s.machine) w q i) start (as_machine w p.auto.start i h))

  list_of : (i : ℕ) → Reach (fsm_auto s.machine) i → option_map numbers (token_at s.tokens i) ≡ token_list ps k (name i)
  list_of i r = b.tokens i (reached_below s.machine b.machine.sound i r)

  is_final : (i : ℕ) → Reach (fsm_auto s.machine) i → p.auto.final i ≡ ends_token ps k (name i)
  is_final i r = ends i ∙ sym (some_is numbers (token_at s.tokens i)) ∙ ap is_some (list_of i r) ∙ final_some ps k (name i)

  match_is : (i : ℕ) → Reach (fsm_auto s.machine) i → match_in p i ≡ token_list ps k (name i)
  match_is i r = (λ j. cond (ends i j) (Some (lists i j)) None) ∙ some_or (token_at s.tokens i) ∙ list_of i r

  knows : Knows ps k p
  knows = record {
    has = λ w i h.
        let a = led w i h in let t = scan_has ps k plain honest w (name i) a.1 in
        ((λ e. t.0 (sym (is_final i a.0) ∙ e)), (λ word. is_final i a.0 ∙ t.1 word));
    tokens = λ w i h. let a = led w i h in subst (MakesToken ps k w) (sym (match_is i a.0)) (scan_token ps k plain honest w (name i) a.1);
    stuck = λ w i h l e v.
        let a = led w i h in
        scan_stuck ps k plain honest w (name i) a.1 l (step_none (fsm_auto s.machine) B name b.machine.follows i a.0 l (ap (λ f. f i l) (sym step) ∙ e)) v;
  }

  pub scanned_finds : FindsTokens ps k p
  scanned_finds = finds ps k p knows

-- ---- all entries

entry_there : (ms : List EntryFsm) (i : ℕ) (m : EntryFsm) → slice_get ms i ≡ Some m → entry_at ms (suc i) ≡ Some m
entry_there ms i m e = ap (λ b. cond b None (slice_get ms (suc i - 1))) (not_zero i) ∙ ap (slice_get ms) (less i) ∙ e
  where
    not_zero : (i : ℕ) → nat_eq (suc i) 0 ≡ false
    not_zero i = grind (arith, nat_tests)

    less : (i : ℕ) → suc i - 1 ≡ i
    less i = omega arith

machine_finds : (x : Root) (ps : List Pattern) → x ≡ Scanner ps → (m : EntryFsm) → IsMachineOf x m → (k : PatternMarks ps) → ArePatternsWithoutPriorities ps → ArePatternsHonest ps k
    → (entries : List EntryFsm) (e : ℕ) → entry_at entries e ≡ Some m → FindsTokens ps k (part_at entries e)
machine_finds x ps same m stands k plain honest entries e there = by m (subst (λ y. IsMachineOf y m) same stands) there
  where
    by : (m : EntryFsm) → IsMachineOf (Scanner ps) m → entry_at entries e ≡ Some m → FindsTokens ps k (part_at entries e)
    by (F.Plain g) stands there = absurd stands
    by (F.Scanner s) stands there =
        let none : Graph = record { start = 0; states = [] } in
        scanned_finds ps k plain honest s (stands k honest) (part_at entries e)
        (ap (λ o. (on_part none graph_of o).start) there)
        (ap (λ o. (fsm_auto (on_part none graph_of o)).step) there)
        (λ i. ap (λ o. on_part false (λ x. ends_in x i) o) there)
        (λ i. ap (λ o. on_part [] (λ x. token_list_in x i) o) there)

pub built_finds : (spec : Specification) (entries : List EntryFsm) → AreMachinesOf (roots_of spec) entries → (e : ℕ) → 1 ≤ e → e ≤ length spec.entries
    → (ps : List Pattern) (k : PatternMarks ps) → root_at (roots_of spec) e ≡ Scanner ps → ArePatternsWithoutPriorities ps → ArePatternsHonest ps k → FindsTokens ps k (part_at entries e)
built_finds spec entries machines zero from up ps k scans plain honest = absurd (omega arith)
built_finds spec entries machines (suc i) from up ps k scans plain honest =
    let size : length (roots_of spec) ≡ length spec.entries = mapped_length (λ e. e.root) spec.entries in
    let p = machines_at (roots_of spec) entries machines i (omega arith) in
    machine_finds (root_at (roots_of spec) (suc i)) ps scans p.0 p.2 k plain honest entries (suc i) (entry_there entries i p.0 p.1)
