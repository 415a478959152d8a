-- The machine of a Spec's entries has only the Spec's actions, conditions and keys.
use Rattle.std.proofs.Common.{◌≡◌, ℕ, ◌^◌, ◌<◌, ◌≤◌, suc, Bool, ◌&&◌, List, [], ◌∷◌, ◌++◌, map, length, Option, Some, None, IfSome, slice_get, refl, sym, ◌∙◌, ap, subst, arith, IsTrue, inl, inr}
use Rattle.std.specs.List.{All, AllByRecursion}
use Rattle.std.specs.Option.{option_map, option_map_or}
use Rattle.std.proofs.lemmas.List.{length-map, map-id}
use Rattle.std.proofs.lemmas.List.Elements.{All-from_recursion, recursion_from_All}
use Rattle.std.proofs.lemmas.Option.{slice_get_within}
use Rattle.rl_types.specs.declared.numbers.ActionId.{ActionId}
use Rattle.rl_types.specs.declared.numbers.Key.{Key}
use Rattle.rl_types.specs.Alphabet.{has_key}
use Rattle.rl_sets.specs.Sets.{In}
use Rattle.rl_run.specs.declared.statements.Statement.{Statement}
use Rattle.rl_run.specs.Machine.{Go, Machine}
use Rattle.rl_run.specs.Twin.{ListR, GoR, IsTwin, After}
use Rattle.rl_run.specs.Classes.{InClass}
use Rattle.rl_run.proofs.Compose.{twin_after}
use Rattle.rl_fsm.specs.declared.root.EntryFsm.{EntryFsm}
use Rattle.rl_fsm.specs.Reads.{own_letter, asks_at}
use Rattle.rl_model.specs.declared.spec.Spec.{Spec}
use Rattle.rl_model.specs.ListRules.{KeepsRules, lists_at}
use Rattle.rl_model.specs.Parts.{StandsAt}
use Rattle.rl_model.specs.Specification.{Action, Root, Specification, specification_of, roots_of, numbered, statement_at, action_of, entry_of}
use Rattle.rl_model.specs.Trees.{ConfAt, TestsOf, TreeState, context_of, tree_machine}
use Rattle.rl_model.specs.WellFormed.{IsNumber, HasNoStatement, IsWellFormed}
use Rattle.rl_model.proofs.WellFormedLaws.{tree_keeps}
use Rattle.rl_minimal.specs.declared.state.MinEdge.{MinEdge}
use Rattle.rl_minimal.specs.declared.state.MinState.{MinState}
use Rattle.rl_minimal.specs.Minimal.{Minimal, numbers, at_state, reads_of}
use Rattle.rl_minimal.specs.Machine.{edge_for, go_of, edges_at, min_machine}
use Rattle.rl_minimal.specs.Sound.{AreReads, IsEdge, IsState, IsMinimal}
use Rattle.rl_reach.specs.Canonical.{IsMachineOf}
use Rattle.rl_root.specs.Roots as machines
use Rattle.rl_build.specs.Entries.{AreMachinesOf}
use Rattle.rl_build.specs.Roots as built
use Rattle.rl_layout.specs.Fits.{AreActions, AreQuiet, EdgeFits, StateFits, Fits}
use Rattle.rl_make.proofs.Found.{last_letter, takes_last, edge_found, some_found, asks_within}

-- ---- lists that are the same, and what holds of their members

same_all : (P : ℕ → Type 0) (xs ys : List ℕ) → ys ≡ map (λ a. a) xs → AllByRecursion P xs → AllByRecursion P ys
same_all P xs ys e h = subst (AllByRecursion P) (sym (e ∙ map-id xs)) h

number_all : (P : ℕ → Type 0) (list : List ActionId) → AllByRecursion P (numbers list) → All (λ (a : ActionId). P a.0) list
number_all P list h = All-from_recursion (λ (a : ActionId). P a.0) list (go list h)
  where
    go : (list : List ActionId) → AllByRecursion P (numbers list) → AllByRecursion (λ (a : ActionId). P a.0) list
    go [] h = tt
    go (a ∷ list) h = (h.0, go list h.1)

all_left : (P : ℕ → Type 0) (xs ys : List ℕ) → AllByRecursion P (xs ++ ys) → AllByRecursion P xs
all_left P [] ys h = tt
all_left P (x ∷ xs) ys h = (h.0, all_left P xs ys h.1)

all_right : (P : ℕ → Type 0) (xs ys : List ℕ) → AllByRecursion P (xs ++ ys) → AllByRecursion P ys
all_right P [] ys h = h
all_right P (x ∷ xs) ys h = all_right P xs ys h.1

pub all_in : {X : Type 0} (P : X → Type 0) (xs : List X) → ((x : X) → In x xs → P x) → AllByRecursion P xs
all_in P [] h = tt
all_in P (x ∷ xs) h = (h x (inl refl), all_in P xs (λ y i. h y (inr i)))

pub in_all : {X : Type 0} (P : X → Type 0) (xs : List X) → AllByRecursion P xs → (x : X) → In x xs → P x
in_all P [] h x i = absurd i
in_all P (y ∷ xs) h x (inl q) = subst P q h.0
in_all P (y ∷ xs) h x (inr i) = in_all P xs h.1 x i

no_first : {X : Type 0} (xs : List X) → slice_get xs 0 ≡ None → xs ≡ []
no_first [] e = refl
no_first (x ∷ xs) e = absurd (cc e)

-- an action that has no first statement has none
quiet_from : (actions : List Action) (a : ℕ) → statement_at actions a 1 ≡ None → HasNoStatement actions a
quiet_from actions a e = by (numbered actions a) e
  where
    by : (o : Option Action) → elim o as (λ _. Option Statement) [ None ↦ None | Some x ↦ slice_get x.statements 0 ] ≡ None → IfSome o (λ x. x.statements ≡ [])
    by None e = tt
    by (Some x) e = no_first x.statements e

quiet_all : (actions : List Action) (list : List ℕ) → AllByRecursion (λ a. (n : ℕ) → statement_at actions a n ≡ None) list → AllByRecursion (HasNoStatement actions) list
quiet_all actions [] h = tt
quiet_all actions (a ∷ list) h = (quiet_from actions a (h.0 1), quiet_all actions list h.1)

-- ---- one machine

module _ (spec : Spec) (well : IsWellFormed spec) (entries : List EntryFsm) (m : Minimal) (made : IsMachineOf entries m) (sound : IsMinimal m)
    (tests : TestsOf (specification_of spec)) (twin : built.IsTwinOf (specification_of spec) tests entries) where
  abbrev plain : Specification
  plain = specification_of spec

  abbrev tree : Machine (TreeState plain)
  tree = tree_machine plain tests

  abbrev root : Machine machines.RootState
  root = machines.root_machine entries (context_of plain)

  abbrev small : Machine ℕ
  small = min_machine m (context_of plain)

  abbrev pub Named : TreeState plain → machines.RootState → Type 0
  Named = StandsAt (ConfAt plain) (λ e. ℕ) (machines.part_at entries) twin.0

  abbrev pub Counted : machines.RootState → ℕ → Type 0
  Counted = InClass root made.class (machines.IsBuilt entries)

  pub tree_twin : IsTwin tree small (λ a. a) (After Named Counted)
  tree_twin = twin_after tree root small (λ a. a) (λ a. a) Named Counted twin.1 (made.twin (context_of plain))

  rules : KeepsRules plain tree
  rules = tree_keeps spec well tests

  -- the state of the trees that a number stands for
  stands : (p : machines.RootState) → machines.IsBuilt entries p → (q : TreeState plain) × Named q p
  stands None b = (None, (refl, tt))
  stands (Some (e, i)) b = (Some (e, twin.0 e i), (refl, b.1))

  behind : (i : ℕ) → i < length m.states → (q : TreeState plain) × After Named Counted q i
  behind i h =
      let (p, b, e) = made.used i h in
      let (q, n) = stands p b in
      (q, (p, n, (sym e, b)))

  module _ (i : ℕ) (s : MinState) (at : slice_get m.states i ≡ Some s) (q : TreeState plain) (r : After Named Counted q i) where
    told : {X : Type 0} (d : X) (f : MinState → X) → at_state d f m.states i ≡ f s
    told d f = ap (λ o. option_map_or f o d) at

    -- a list of the state is that of the trees' state
    list_of : (P : ℕ → Type 0) (f : MinState → List ActionId) (xs : List ℕ) → ListR tree small (λ a. a) (After Named Counted) xs (at_state [] (λ s. numbers (f s)) m.states i) →
        AllByRecursion P xs → All (λ (a : ActionId). P a.0) (f s)
    list_of P f xs same h = number_all P (f s) (subst (AllByRecursion P) (told [] (λ s. numbers (f s))) (same_all P xs (at_state [] (λ s. numbers (f s)) m.states i) same.0 h))

    abbrev Known : ℕ → Type 0
    Known = IsNumber (length plain.actions)

    known : (list : List ActionId) → All (λ (a : ActionId). Known a.0) list → AreActions spec list
    known list h = subst (λ n. All (λ (a : ActionId). IsNumber n a.0) list) (length-map spec.actions action_of) h

    all_lists : AllByRecursion Known (lists_at tree q)
    all_lists = rules.lists q

    -- each of its parts, the last one first
    abbrev three : List ℕ
    three = (tree.from q ++ tree.to q) ++ tree.error q

    before_token : AllByRecursion Known (three ++ tree.eof q)
    before_token = all_left Known (three ++ tree.eof q) (tree.token q) all_lists

    before_eof : AllByRecursion Known three
    before_eof = all_left Known three (tree.eof q) before_token

    before_error : AllByRecursion Known (tree.from q ++ tree.to q)
    before_error = all_left Known (tree.from q ++ tree.to q) (tree.error q) before_eof

    -- ---- edges

    is_state : IsState m.states m.first_final i s
    is_state = sound.states i s at

    reads : (e : MinEdge) → In e s.edges → AreReads e
    reads e j = (in_all (IsEdge m.states s) s.edges (recursion_from_All (IsEdge m.states s) s.edges is_state.edges.each) e j).reads

    edges_are : edges_at m i ≡ s.edges
    edges_are = told [] (λ s. s.edges)

    -- what a step of the state says of the trees' step
    step_from : (key : Key) (hold : ℕ) (f : MinEdge) → small.find i key hold ≡ Some (go_of f) →
        (g : Go (TreeState plain)) × (tree.find q key hold ≡ Some g) × ListR tree small (λ a. a) (After Named Counted) g.list (numbers f.list)
    step_from key hold f e = by (tree.find q key hold) refl (subst (GoR tree small (λ a. a) (After Named Counted) (tree.find q key hold)) e (tree_twin.find q i key hold r))
      where
        by : (o : Option (Go (TreeState plain))) → tree.find q key hold ≡ o → GoR tree small (λ a. a) (After Named Counted) o (Some (go_of f)) →
            (g : Go (TreeState plain)) × (tree.find q key hold ≡ Some g) × ListR tree small (λ a. a) (After Named Counted) g.list (numbers f.list)
        by None p x = absurd x
        by (Some g) p x = (g, p, x.1)

    module _ (e : MinEdge) (j : In e s.edges) where
      is_read : AreReads e
      is_read = reads e j

      abbrev first_key : Key
      first_key = record { 0 = e.range.lo }

      own : small.find i first_key e.truths.0 ≡ Some (go_of e)
      own = ap (λ es. option_map go_of (edge_for (own_letter (reads_of e)) es)) edges_are
          ∙ ap (option_map go_of) (edge_found s.edges reads is_state.edges.ascending e j)

      pub own_step : (g : Go (TreeState plain)) × (tree.find q first_key e.truths.0 ≡ Some g) × ListR tree small (λ a. a) (After Named Counted) g.list (numbers e.list)
      own_step = step_from first_key e.truths.0 e own

      low_in : IsTrue (has_key plain.alphabet e.range.lo)
      low_in = rules.keys q first_key e.truths.0 own_step.0 own_step.1

      last : (f : MinEdge) × (edge_for (last_letter (reads_of e)) s.edges ≡ Some f)
      last = some_found (last_letter (reads_of e)) s.edges e j (takes_last (reads_of e) is_read.keys is_read.truths)

      last_step : (g : Go (TreeState plain)) × (tree.find q (record { 0 = e.range.hi }) e.truths.0 ≡ Some g) × ListR tree small (λ a. a) (After Named Counted) g.list (numbers (last.0).list)
      last_step = step_from (record { 0 = e.range.hi }) e.truths.0 last.0
          (ap (λ es. option_map go_of (edge_for (last_letter (reads_of e)) es)) edges_are ∙ ap (option_map go_of) last.1)

      high_in : IsTrue (has_key plain.alphabet e.range.hi)
      high_in = rules.keys q (record { 0 = e.range.hi }) e.truths.0 last_step.0 last_step.1

      asked_below : e.asks.0 < 2 ^ length spec.conds
      asked_below =
          let all : asks_at e.range.lo (map reads_of s.edges) ≡ tree.asked q first_key =
          ap (λ es. asks_at e.range.lo (map reads_of es)) (sym edges_are) ∙ tree_twin.asked q i first_key r in
          let few : tree.asked q first_key < 2 ^ length spec.conds = subst (λ n. tree.asked q first_key < 2 ^ n) (length-map spec.conds (λ (a : ActionId). a.0)) (rules.asked q first_key) in
          let one = asks_within (map reads_of s.edges) (reads_of e) (in_reads e s.edges j) is_read.keys in
          below e.asks.0 (asks_at e.range.lo (map reads_of s.edges)) (tree.asked q first_key) (2 ^ length spec.conds) one all few
        where
          in_reads : (e : MinEdge) (es : List MinEdge) → In e es → In (reads_of e) (map reads_of es)
          in_reads e [] i = absurd i
          in_reads e (f ∷ es) (inl q) = inl (ap reads_of q)
          in_reads e (f ∷ es) (inr i) = inr (in_reads e es i)

          below : (a b c n : ℕ) → a ≤ b → b ≡ c → c < n → a < n
          below a b c n x y z = omega arith

      edge_numbers : (P : ℕ → Type 0) → AllByRecursion P own_step.0.list → All (λ (a : ActionId). P a.0) e.list
      edge_numbers P h = number_all P e.list (same_all P own_step.0.list (numbers e.list) own_step.2.0 h)

      edge_fits : EdgeFits spec e
      edge_fits = record {
        keys = both_true low_in high_in;
        asks = asked_below;
        actions = known e.list (edge_numbers Known (rules.steps q first_key e.truths.0 own_step.0 own_step.1));
      }
        where
          both_true : {a b : Bool} → IsTrue a → IsTrue b → IsTrue (a && b)
          both_true {a} {b} x y = subst (λ w. IsTrue (w && b)) (sym x) y

      edge_quiet : 0 < s.kind → AreQuiet spec e.list
      edge_quiet h = edge_numbers (HasNoStatement plain.actions) (quiet_all plain.actions own_step.0.list
          (rules.kinded.quiet q first_key e.truths.0 own_step.0 own_step.1 (kinds s.kind (tree.kind q) h (sym (told 0 (λ s. s.kind)) ∙ tree_twin.kind q i r))))
        where
          kinds : (a b : ℕ) → 0 < a → a ≡ b → 1 ≤ b
          kinds a b x y = omega arith

    state_fits : StateFits spec s
    state_fits = record {
      from = known s.from (list_of Known (λ s. s.from) (tree.from q) (tree_twin.from q i r) (all_left Known (tree.from q) (tree.to q) before_error));
      to = known s.to (list_of Known (λ s. s.to) (tree.to q) (tree_twin.to q i r) (all_right Known (tree.from q) (tree.to q) before_error));
      eof = known s.eof (list_of Known (λ s. s.eof) (tree.eof q) (tree_twin.eof q i r) (all_right Known three (tree.eof q) before_token));
      error = known s.error (list_of Known (λ s. s.error) (tree.error q) (tree_twin.error q i r) (all_right Known (tree.from q ++ tree.to q) (tree.error q) before_eof));
      token = known s.token (list_of Known (λ s. s.token) (tree.token q) (tree_twin.token q i r) (all_right Known (three ++ tree.eof q) (tree.token q) all_lists));
      edges = All-from_recursion (EdgeFits spec) s.edges (all_in (EdgeFits spec) s.edges edge_fits);
      quiet_from = list_of (HasNoStatement plain.actions) (λ s. s.from) (tree.from q) (tree_twin.from q i r) (quiet_all plain.actions (tree.from q) (rules.from q));
      quiet_to = list_of (HasNoStatement plain.actions) (λ s. s.to) (tree.to q) (tree_twin.to q i r) (quiet_all plain.actions (tree.to q) (rules.to q));
      quiet_steps = λ h. All-from_recursion (λ (e : MinEdge). AreQuiet spec e.list) s.edges (all_in (λ (e : MinEdge). AreQuiet spec e.list) s.edges (λ e j. edge_quiet e j h));
    }

  same_count : (xs : List Root) (ms : List EntryFsm) → AreMachinesOf xs ms → length ms ≡ length xs
  same_count [] [] h = refl
  same_count [] (m ∷ ms) h = absurd h
  same_count (x ∷ xs) [] h = absurd h
  same_count (x ∷ xs) (m ∷ ms) h = ap (λ n. suc n) (same_count xs ms h.1)

  all_at : (P : MinState → Type 0) (states : List MinState) → ((i : ℕ) (s : MinState) → slice_get states i ≡ Some s → P s) → AllByRecursion P states
  all_at P [] h = tt
  all_at P (s ∷ states) h = (h 0 s refl, all_at P states (λ i t e. h (suc i) t e))

  pub fits : AreMachinesOf (roots_of plain) entries → Fits spec m
  fits machines = record {
    entries = made.starts ∙ same_count (roots_of plain) entries machines ∙ length-map plain.entries (λ e. e.root) ∙ length-map spec.entries entry_of;
    states = All-from_recursion (StateFits spec) m.states (all_at (StateFits spec) m.states (λ i s e. state_fits i s e (behind i (slice_get_within m.states i s e)).0 (behind i (slice_get_within m.states i s e)).1));
  }

-- a Spec that is well-formed has an entry, and so a machine
pub some_machine : (spec : Spec) (entries : List EntryFsm) → IsWellFormed spec → AreMachinesOf (roots_of (specification_of spec)) entries → 1 ≤ length entries
some_machine spec entries well machines =
    at_least (length entries) (length spec.entries) (counts (roots_of (specification_of spec)) entries machines ∙ length-map (specification_of spec).entries (λ e. e.root) ∙ length-map spec.entries entry_of) well.some_entry
  where
    counts : (xs : List Root) (ms : List EntryFsm) → AreMachinesOf xs ms → length ms ≡ length xs
    counts [] [] h = refl
    counts [] (m ∷ ms) h = absurd h
    counts (x ∷ xs) [] h = absurd h
    counts (x ∷ xs) (m ∷ ms) h = ap (λ n. suc n) (counts xs ms h.1)

    at_least : (a b : ℕ) → a ≡ b → 1 ≤ b → 1 ≤ a
    at_least a b e h = omega arith
