-- What building the entries of a specification gives, from what building each of them gave.
use Rattle.std.proofs.Common.{◌≡◌, ℕ, zero, suc, ◌+◌, ◌-◌, ◌*◌, ◌<◌, ◌≤◌, Bool, true, false, cond, List, [], ◌∷◌, ◌++◌, map, flat_map, length, Some, All, refl, sym, ◌∙◌, ap, subst, inl, inr, arith, nat_lt, take, drop, get_or, drop-cons, add-one}
use Rattle.std.proofs.lemmas.Bool.Decides.{nat_tests}
use Rattle.std.proofs.Math.Seq.{take-suc}
use Rattle.std.proofs.lemmas.List.{take-append-drop, length-take-le}
use Rattle.std.proofs.lemmas.List.Sums.{sum_by-cons}
use Rattle.std.specs.Prelude.{IfSome, sum_by}
use Rattle.rl_types.specs.declared.alphabet.Alphabet.{Alphabet}
use Rattle.rl_types.specs.declared.numbers.Place.{Place}
use Rattle.rl_types.specs.KeyRange.{Range}
use Rattle.rl_sets.specs.Sets.{In}
use Rattle.rl_sets.proofs.SetLaws.{In-map, In-flat_map}
use Rattle.rl_automata.specs.Nodes as N
use Rattle.rl_automata.specs.Nodes.{Node}
use Rattle.rl_automata.specs.Scans.{Pattern, Root, Plain, Scanner}
use Rattle.rl_automata.specs.Sites.{Site, RootMarks, root_sites, AllRootMarks, all_sites}
use Rattle.rl_automata.specs.Refused.{Cause, IsFirstRefused, IsRefusal, AreBuildable, sets_in, conditions_in}
use Rattle.rl_fsm.specs.declared.root.EntryFsm.{EntryFsm}
use Rattle.rl_fsm.specs.declared.root.EntryFsm.TheVariants as F
use Rattle.rl_fsm.specs.Roots.{states_of, states_in}
use Rattle.rl_fsm.proofs.PieceLaws.{All-In, All-from_In}
use Rattle.rl_model.specs.declared.spec.Entry as rust_entry
use Rattle.rl_model.specs.declared.spec.Spec.{Spec}
use Rattle.rl_model.specs.Counts.{size_of, root_size, trees_of}
use Rattle.rl_model.specs.RefusedNode.{cause_place, place_at}
use Rattle.rl_model.specs.Specification.{root_of, entry_of, roots_of, specification_of}
use Rattle.rl_model.specs.Trees.{AllTests, AreAllHonest}
use Rattle.rl_model.specs.WellFormed.{IsNumber, HasPlaces, HasPatterns, IsWellFormed, all_trees}
use Rattle.rl_build.specs.declared.built.Refused.{Refused}
use Rattle.rl_build.specs.declared.fault.BuildRefusal.{BuildRefusal}
use Rattle.rl_build.specs.Entries.{AreMachinesOf, IsFitRoot, IsReadyEntry, IsEntryBuilt, IsRootRefused, IsEntryRefused, AreEntriesBuilt}
use Rattle.rl_build.specs.Trees.{cause_of, ranges_in, wrong_numbers}
use Rattle.rl_build.proofs.AnswerLaws.{ranges_fit, conditions_fit, fit_from}
use Rattle.rl_build.proofs.ScannerLaws.{RootSays, if_some_to, if_some_both, root_honest, root_counted, any_patterns}
use Rattle.rl_build.proofs.SiteLaws.{any_tests, accepted_append, first_before, first_after}
use Rattle.rl_scan.proofs.ClosedLaws.{scanner_tests}

abbrev roots_in : List rust_entry.Entry → List Root
roots_in es = map (λ e. e.root) (map entry_of es)

-- ---- entries of a well-formed specification are ready

all_ranges : (ps : List Pattern) → ((p : Pattern) → In p ps → All (λ (ranges : List Range). length ranges ≤ 256) (sets_in p.tree)) → sum_by (λ (p : Pattern). ranges_in p.tree) ps ≤ 256 * sum_by (λ (p : Pattern). size_of p.tree) ps
all_ranges [] h = omega arith
all_ranges (p ∷ ps) h =
    let a : sum_by (λ (p : Pattern). ranges_in p.tree) (p ∷ ps) ≡ ranges_in p.tree + sum_by (λ (p : Pattern). ranges_in p.tree) ps = sum_by-cons (λ (p : Pattern). ranges_in p.tree) p ps in
    let b : sum_by (λ (p : Pattern). size_of p.tree) (p ∷ ps) ≡ size_of p.tree + sum_by (λ (p : Pattern). size_of p.tree) ps = sum_by-cons (λ (p : Pattern). size_of p.tree) p ps in
    let c : ranges_in p.tree ≤ 256 * size_of p.tree = ranges_fit p.tree (h p (inl refl)) in
    let d : sum_by (λ (p : Pattern). ranges_in p.tree) ps ≤ 256 * sum_by (λ (p : Pattern). size_of p.tree) ps = all_ranges ps (λ q i. h q (inr i)) in
    omega arith

all_conditions : (ps : List Pattern) → ((p : Pattern) → In p ps → All (IsNumber 8) (conditions_in p.tree)) → sum_by (λ (p : Pattern). wrong_numbers p.tree) ps ≡ 0
all_conditions [] h = refl
all_conditions (p ∷ ps) h =
    let a : sum_by (λ (p : Pattern). wrong_numbers p.tree) (p ∷ ps) ≡ wrong_numbers p.tree + sum_by (λ (p : Pattern). wrong_numbers p.tree) ps = sum_by-cons (λ (p : Pattern). wrong_numbers p.tree) p ps in
    let b : wrong_numbers p.tree ≡ 0 = conditions_fit p.tree (h p (inl refl)) in
    let c : sum_by (λ (p : Pattern). wrong_numbers p.tree) ps ≡ 0 = all_conditions ps (λ q i. h q (inr i)) in
    omega arith

module _ (spec : Spec) (well : IsWellFormed spec) where
  abbrev xs : List Root
  xs = roots_of (specification_of spec)

  in_all : {X : Type 0} (f : Node → List X) (x : Root) (t : Node) (a : X) → In x xs → In t (trees_of x) → In a (f t) → In a (flat_map f (all_trees (specification_of spec)))
  in_all f x t a i h j = In-flat_map f a t (flat_map trees_of xs) (In-flat_map trees_of t x xs i h) j

  few_ranges : (x : Root) (t : Node) → In x xs → In t (trees_of x) → All (λ (ranges : List Range). length ranges ≤ 256) (sets_in t)
  few_ranges x t i h = All-from_In (λ (ranges : List Range). length ranges ≤ 256) (sets_in t)
      (λ s j. All-In (λ (ranges : List Range). length ranges ≤ 256) (flat_map sets_in (all_trees (specification_of spec))) s well.few_ranges (in_all sets_in x t s i h j))

  right_conditions : (x : Root) (t : Node) → In x xs → In t (trees_of x) → All (IsNumber 8) (conditions_in t)
  right_conditions x t i h = All-from_In (IsNumber 8) (conditions_in t) (λ c j.
      let n : IsNumber (length spec.conds) c = All-In (IsNumber (length spec.conds)) (flat_map conditions_in (all_trees (specification_of spec))) c well.conditions_exist (in_all conditions_in x t c i h j) in
      let few : length spec.conds ≤ 8 = well.few_conditions in
      let least : 1 ≤ c = n.0 in
      let most : c ≤ length spec.conds = n.1 in
      (least, omega arith))

  few_nodes : (x : Root) → In x xs → root_size x ≤ 100000
  few_nodes x i = All-In (λ (x : Root). root_size x ≤ 100000) xs x well.few_nodes i

  fit : (x : Root) → In x xs → IsFitRoot x
  fit (Plain t) i = fit_from t (few_ranges (Plain t) t i (inl refl)) (right_conditions (Plain t) t i (inl refl)) (few_nodes (Plain t) i)
  fit (Scanner ps) i = record {
    some = All-In HasPatterns xs (Scanner ps) well.patterns i;
    nodes = few_nodes (Scanner ps) i;
    ranges =
        let a : sum_by (λ (p : Pattern). ranges_in p.tree) ps ≤ 256 * sum_by (λ (p : Pattern). size_of p.tree) ps = all_ranges ps (λ p j. few_ranges (Scanner ps) p.tree i (In-map (λ (p : Pattern). p.tree) p ps j)) in
        let b : sum_by (λ (p : Pattern). size_of p.tree) ps + 1 ≤ 100000 = few_nodes (Scanner ps) i in
        omega arith;
    conditions = all_conditions ps (λ p j. right_conditions (Scanner ps) p.tree i (In-map (λ (p : Pattern). p.tree) p ps j));
  }

  pub entries_ready : All IsReadyEntry spec.entries
  entries_ready = All-from_In IsReadyEntry spec.entries (λ e i. record {
    fit = fit (root_of e.root) (In-map (λ e. e.root) (entry_of e) (map entry_of spec.entries) (In-map entry_of e spec.entries i));
    places = All-In HasPlaces spec.entries e well.places i;
  })

pub size_some : (t : Node) → 0 < size_of t
size_some (N.Set ranges) = omega arith
size_some N.Null = omega arith
size_some N.Nothing = omega arith
size_some (N.Union a b) = omega arith
size_some (N.And a b) = omega arith
size_some (N.Minus a b) = omega arith
size_some (N.Cat a b) = omega arith
size_some (N.Star a n) = omega arith
size_some (N.Enter a l) = omega arith
size_some (N.Finish a l) = omega arith
size_some (N.All a l) = omega arith
size_some (N.Leave a l) = omega arith
size_some (N.Mark a class kind s x) = omega arith
size_some (N.When a c) = omega arith

-- an entry has a node
pub some_place : (e : rust_entry.Entry) → IsReadyEntry e → 0 < length e.places
some_place e r = subst (λ n. 0 < n) (sym r.places) (by (root_of e.root) r.fit)
  where
    by : (x : Root) → IsFitRoot x → 0 < root_size x
    by (Plain t) h = size_some t
    by (Scanner ps) h = omega arith

pub all_places : (es : List rust_entry.Entry) → All IsReadyEntry es → All HasPlaces es
all_places es h = All-from_In HasPlaces es (λ e i. let r = All-In IsReadyEntry es e h i in r.places)

-- ---- entries that are built

any_root : (x : Root) → RootMarks x
any_root (Plain t) = any_tests t
any_root (Scanner ps) = any_patterns ps

any_roots : (xs : List Root) → AllRootMarks xs
any_roots [] = tt
any_roots (x ∷ xs) = (any_root x, any_roots xs)

module _ (alphabet : Alphabet) where
  pub entries_more : (es : List rust_entry.Entry) (ms : List EntryFsm) (e : rust_entry.Entry) (m : EntryFsm) → AreEntriesBuilt alphabet es ms → IsEntryBuilt alphabet (root_of e.root) m → AreEntriesBuilt alphabet (es ++ e ∷ []) (ms ++ m ∷ [])
  entries_more [] [] e m h b = (b, tt)
  entries_more [] (n ∷ ms) e m h b = absurd h
  entries_more (f ∷ es) [] e m h b = absurd h
  entries_more (f ∷ es) (n ∷ ms) e m h b = (h.0, entries_more es ms e m h.1 b)

  pub few_states : (es : List rust_entry.Entry) (ms : List EntryFsm) → AreEntriesBuilt alphabet es ms → states_in ms ≤ 32767 * length es
  few_states [] [] h = omega arith
  few_states [] (n ∷ ms) h = absurd h
  few_states (f ∷ es) [] h = absurd h
  few_states (f ∷ es) (n ∷ ms) h =
      let a : states_of n ≤ 32767 = h.0.few in
      let b : states_in ms ≤ 32767 * length es = few_states es ms h.1 in
      let d : states_in (n ∷ ms) ≡ states_of n + states_in ms = sum_by-cons states_of n ms in
      let e : length (f ∷ es) ≡ suc (length es) = refl in
      omega arith

  pub machines_of : (es : List rust_entry.Entry) (ms : List EntryFsm) → AreEntriesBuilt alphabet es ms → AreMachinesOf (roots_in es) ms
  machines_of [] [] h = tt
  machines_of [] (n ∷ ms) h = absurd h
  machines_of (f ∷ es) [] h = absurd h
  machines_of (f ∷ es) (n ∷ ms) h = (h.0.machine, machines_of es ms h.1)

  pub entries_tests : (es : List rust_entry.Entry) (ms : List EntryFsm) → AreEntriesBuilt alphabet es ms → (k : AllTests (roots_in es)) × AreAllHonest (roots_in es) k
  entries_tests [] [] h = (tt, tt)
  entries_tests [] (n ∷ ms) h = absurd h
  entries_tests (f ∷ es) [] h = absurd h
  entries_tests (f ∷ es) (n ∷ ms) h = by (root_of f.root) n h.0 (roots_in es) (entries_tests es ms h.1)
    where
      by : (x : Root) (m : EntryFsm) → IsEntryBuilt alphabet x m → (ys : List Root) → ((k : AllTests ys) × AreAllHonest ys k) → (k : AllTests (x ∷ ys)) × AreAllHonest (x ∷ ys) k
      by (Plain t) (F.Plain m) b ys r = ((b.tests.0, r.0), (b.tests.1, r.1))
      by (Plain t) (F.Scanner s) b ys r = absurd b.machine
      by (Scanner ps) (F.Plain m) b ys r = absurd b.machine
      by (Scanner ps) (F.Scanner s) b ys r =
          let c = scanner_tests ps b.tests.0 b.tests.1 s b.machine in
          (((b.tests.0, c.0), r.0), ((b.tests.1, c.1), r.1))

  pub entries_accepted : (es : List rust_entry.Entry) (ms : List EntryFsm) → AreEntriesBuilt alphabet es ms → AreBuildable alphabet (roots_in es)
  entries_accepted [] [] h = (tt, tt, λ x i. absurd i)
  entries_accepted [] (n ∷ ms) h = absurd h
  entries_accepted (f ∷ es) [] h = absurd h
  entries_accepted (f ∷ es) (n ∷ ms) h =
      let r = entries_accepted es ms h.1 in
      let x = root_of f.root in
      let t = h.0.tests in (
        (t.0, r.0),
        (t.1, r.1),
        accepted_append alphabet (root_sites x t.0) (all_sites (roots_in es) r.0) (h.0.accepted t.0 t.1) r.2,
      )

  -- ---- an entry that is refused

  first_below : (xs : List Site) (i : ℕ) (cause : Cause) → IsFirstRefused alphabet xs i cause → i < length xs
  first_below [] i cause h = absurd h
  first_below (x ∷ xs) zero cause h = let l : length (x ∷ xs) ≡ suc (length xs) = refl in omega arith
  first_below (x ∷ xs) (suc i) cause h =
      let l : length (x ∷ xs) ≡ suc (length xs) = refl in
      let b : i < length xs = first_below xs i cause h.2 in
      omega arith

  first_place : (cause : Cause) (e : rust_entry.Entry) (es : List rust_entry.Entry) (i : ℕ) (place : Place) → i < length e.places → cause_place e i cause ≡ Some place → place_at (e ∷ es) i cause ≡ Some place
  first_place cause e es i place below at = here (nat_lt i (length e.places)) (inside i (length e.places) below)
    where
      inside : (i n : ℕ) → i < n → nat_lt i n ≡ true
      inside i n h = grind (arith, nat_tests)

      here : (b : Bool) → b ≡ true → cond b (cause_place e i cause) (place_at es (i - length e.places) cause) ≡ Some place
      here true h = at
      here false h = absurd cc

  later_place : (cause : Cause) (e : rust_entry.Entry) (es : List rust_entry.Entry) (i : ℕ) (place : Place) → place_at es i cause ≡ Some place → place_at (e ∷ es) (length e.places + i) cause ≡ Some place
  later_place cause e es i place at = there (nat_lt (length e.places + i) (length e.places)) (outside i (length e.places))
    where
      outside : (i n : ℕ) → nat_lt (n + i) n ≡ false
      outside i n = grind (arith, nat_tests)

      less : (i n : ℕ) → n + i - n ≡ i
      less i n = omega arith

      there : (b : Bool) → b ≡ false → cond b (cause_place e (length e.places + i) cause) (place_at es (length e.places + i - length e.places) cause) ≡ Some place
      there true h = absurd cc
      there false h = ap (λ n. place_at es n cause) (less i (length e.places)) ∙ at

  -- the i-th node of all is the first that is refused, and stands at this place
  abbrev IsFirstAt : List rust_entry.Entry → Cause → Place → Type 0
  IsFirstAt es cause place = (i : ℕ) × IsRefusal alphabet (roots_in es) i cause × (place_at es i cause ≡ Some place)

  refused_behind : (cause : Cause) (place : Place) (front : List rust_entry.Entry) (ms : List EntryFsm) (e : rust_entry.Entry) (back : List rust_entry.Entry) → AreEntriesBuilt alphabet front ms → ((f : rust_entry.Entry) → In f (front ++ e ∷ back) → HasPlaces f)
      → (i : ℕ) (k : RootMarks (root_of e.root)) → IsFirstRefused alphabet (root_sites (root_of e.root) k) i cause → cause_place e i cause ≡ Some place → IsFirstAt (front ++ e ∷ back) cause place
  refused_behind cause place [] [] e back h places i k first at =
      let count : length (root_sites (root_of e.root) k) ≡ length e.places = root_counted (root_of e.root) k ∙ sym (places e (inl refl)) in
      let below : i < length (root_sites (root_of e.root) k) = first_below (root_sites (root_of e.root) k) i cause first in (
        i,
        ((k, any_roots (roots_in back)), first_before alphabet (root_sites (root_of e.root) k) (all_sites (roots_in back) (any_roots (roots_in back))) i cause first),
        first_place cause e back i place (omega arith) at,
      )
  refused_behind cause place [] (m ∷ ms) e back h places i k first at = absurd h
  refused_behind cause place (f ∷ front) [] e back h places i k first at = absurd h
  refused_behind cause place (f ∷ front) (m ∷ ms) e back h places i k first at =
      let r = refused_behind cause place front ms e back h.1 (λ g j. places g (inr j)) i k first at in
      let x = root_of f.root in
      let t = h.0.tests in
      let rest = roots_in (front ++ e ∷ back) in
      let count : length (root_sites x t.0) ≡ length f.places = root_counted x t.0 ∙ sym (places f (inl refl)) in (
        length f.places + r.0,
        (
          (t.0, r.1.0),
          first_after alphabet (root_sites x t.0) (all_sites rest r.1.0) r.0 (length f.places + r.0) cause (root_honest x t.0 t.1) (h.0.accepted t.0 t.1) (ap (λ n. n + r.0) count) r.1.1,
        ),
        later_place cause f (front ++ e ∷ back) r.0 place r.2,
      )

  pub entry_refused : (front : List rust_entry.Entry) (ms : List EntryFsm) (e : rust_entry.Entry) (back : List rust_entry.Entry) → AreEntriesBuilt alphabet front ms → ((f : rust_entry.Entry) → In f (front ++ e ∷ back) → HasPlaces f)
      → (r : BuildRefusal) → IsEntryRefused alphabet e r → IfSome (cause_of r.fault) (λ cause. IsFirstAt (front ++ e ∷ back) cause r.place)
  entry_refused front ms e back h places r x =
      if_some_to (λ cause. (i : ℕ) × (k : RootMarks (root_of e.root)) × IsFirstRefused alphabet (root_sites (root_of e.root) k) i cause × (cause_place e i cause ≡ Some r.place)) (λ cause. IsFirstAt (front ++ e ∷ back) cause r.place) (cause_of r.fault)
      (λ cause q. refused_behind cause r.place front ms e back h places q.0 q.1 q.2 q.3) x

  -- ---- the entries one after another

  pub next_built : (es : List rust_entry.Entry) (i : ℕ) (e : rust_entry.Entry) (old new : List EntryFsm) → i < length es → get_or es i e ≡ e → AreEntriesBuilt alphabet (take i es) old
      → ((m : EntryFsm) × IsEntryBuilt alphabet (root_of e.root) m × (new ≡ old ++ m ∷ [])) → AreEntriesBuilt alphabet (take (i + 1) es) new
  next_built es i e old new lt at h (m, b, q) =
      let more : take (i + 1) es ≡ take i es ++ e ∷ [] = rw add-one (take-suc es i e lt) ∙ ap (λ x. take i es ++ x ∷ []) at in
      rw (more, q) (entries_more (take i es) old e m h b)

  pub next_refused : (es : List rust_entry.Entry) (i : ℕ) (e : rust_entry.Entry) (old : List EntryFsm) → i < length es → get_or es i e ≡ e → AreEntriesBuilt alphabet (take i es) old → All HasPlaces es
      → (r : BuildRefusal) → IsEntryRefused alphabet e r → IfSome (cause_of r.fault) (λ cause. IsFirstAt es cause r.place)
  next_refused es i e old lt at h places r x =
      let cut : es ≡ take i es ++ e ∷ drop (suc i) es = sym (take-append-drop i es) ∙ ap (λ x. take i es ++ x) (drop-cons es i e lt ∙ ap (λ x. x ∷ drop (suc i) es) at) in
      subst (λ all. IfSome (cause_of r.fault) (λ cause. IsFirstAt all cause r.place)) (sym cut)
      (entry_refused (take i es) old e (drop (suc i) es) h (λ f j. All-In HasPlaces es f places (subst (In f) (sym cut) j)) r x)

  pub room_for : (es : List rust_entry.Entry) (i : ℕ) (old : List EntryFsm) → i < length es → length es ≤ 65536 → AreEntriesBuilt alphabet (take i es) old → states_in old + 32767 ≤ 2147483646
  room_for es i old lt few h =
      let a : states_in old ≤ 32767 * length (take i es) = few_states (take i es) old h in
      let b : length (take i es) ≡ i = length-take-le i es (omega arith) in
      omega arith

-- ---- one entry

pub entry_told : (alphabet : Alphabet) (e : rust_entry.Entry) (r : Refused) (q : BuildRefusal) → IsRootRefused alphabet (root_of e.root) r → q.fault ≡ r.fault → IfSome (cause_of r.fault) (λ cause. cause_place e r.node cause ≡ Some q.place) → IsEntryRefused alphabet e q
entry_told alphabet e r q h same at =
    subst (λ fault. IfSome (cause_of fault) (λ cause. (i : ℕ) × (k : RootMarks (root_of e.root)) × IsFirstRefused alphabet (root_sites (root_of e.root) k) i cause × (cause_place e i cause ≡ Some q.place))) (sym same)
    (if_some_both (RootSays alphabet (root_of e.root) r.node) (λ cause. cause_place e r.node cause ≡ Some q.place) (λ cause. (i : ℕ) × (k : RootMarks (root_of e.root)) × IsFirstRefused alphabet (root_sites (root_of e.root) k) i cause × (cause_place e i cause ≡ Some q.place)) (cause_of r.fault)
    (λ cause s p. (r.node, s.0, s.1, p)) h.first at)

-- the refused node has a place
pub node_placed : (alphabet : Alphabet) (e : rust_entry.Entry) (r : Refused) → IsReadyEntry e → IsRootRefused alphabet (root_of e.root) r → r.node < length e.places
node_placed alphabet e r h x = subst (λ n. r.node < n) (sym h.places) x.within
