-- The names of actions in the tables of a Spec are those of the actions that are used.
use Rattle.std.proofs.Common.{◌≡◌, ℕ, suc, ◌<◌, ◌≤◌, Bool, true, false, true≢false, ◌&&◌, ◌||◌, nat_eq, List, [], ◌∷◌, map, length, Option, Some, None, slice_get, refl, sym, ◌∙◌, ap, subst, IsTrue, inl, inr, ◌⊎◌}
use Rattle.std.specs.List.{All, AllByRecursion, list_any}
use Rattle.std.specs.Option.{option_map, option_map_or}
use Rattle.std.proofs.lemmas.List.{map-id}
use Rattle.std.proofs.lemmas.List.Elements.{All-from_recursion, recursion_from_All}
use Rattle.std.proofs.lemmas.Option.{slice_get_within}
use Rattle.std.proofs.lemmas.Bool.{and_parts, eqb-true}
use Rattle.rl_types.specs.declared.numbers.ActionId.{ActionId}
use Rattle.rl_types.specs.declared.numbers.Key.{Key}
use Rattle.rl_types.specs.Alphabet.{has_key}
use Rattle.rl_sets.specs.Sets.{In}
use Rattle.rl_sets.proofs.SetLaws.{In-map, In-map_from}
use Rattle.rl_run.specs.Machine.{Go, Machine}
use Rattle.rl_run.specs.Numbers.{letters_of, Leads, IsKnown}
use Rattle.rl_run.specs.Twin.{GoR, IsTwin, After}
use Rattle.rl_fsm.specs.declared.root.EntryFsm.{EntryFsm}
use Rattle.rl_arrays.specs.declared.arrays.Arrays.{Arrays}
use Rattle.rl_model.specs.declared.spec.Spec.{Spec}
use Rattle.rl_model.specs.Parts.{letter_of}
use Rattle.rl_model.specs.Specification.{Specification, specification_of}
use Rattle.rl_model.specs.Trees.{TestsOf, TreeState, context_of, tree_machine}
use Rattle.rl_model.specs.WellFormed.{IsWellFormed}
use Rattle.rl_minimal.specs.declared.state.MinEdge.{MinEdge}
use Rattle.rl_minimal.specs.declared.state.MinState.{MinState}
use Rattle.rl_minimal.specs.Minimal.{Minimal, numbers, at_state}
use Rattle.rl_minimal.specs.Machine.{edge_for, go_of, edges_at, min_machine}
use Rattle.rl_minimal.specs.Sound.{IsMinimal}
use Rattle.rl_reach.specs.Canonical.{IsMachineOf}
use Rattle.rl_reach.specs.Laws.{BeginIn}
use Rattle.rl_root.specs.Roots as machines
use Rattle.rl_reach.proofs.BreadthLaws.{built_known}
use Rattle.rl_build.specs.Roots as built
use Rattle.rl_layout.specs.Books.{uses_of, lists_of, order_of}
use Rattle.rl_layout.specs.Fits.{EdgeFits, StateFits, Fits}
use Rattle.rl_layout.specs.Layout.{arrays_of}
use Rattle.rl_layout.specs.SpecArrays.{name_of}
use Rattle.rl_layout.proofs.ListLaws.{all_at}
use Rattle.rl_layout.proofs.BookLaws.{listed, lists_listed, has_number, actions_numbered}
use Rattle.rl_layout.proofs.NumberLaws.{steps_all, order_all}
use Rattle.rl_layout.proofs.ShownLaws.{edges_numbered}
use Rattle.rl_script.specs.TableNames.{names_in}
use Rattle.rl_make.specs.Named.{StepHas, Has, IsUsed}
use Rattle.rl_make.proofs.FitLaws.{Named, Counted, tree_twin, all_in, in_all, own_step}

-- ---- members of lists

in_same : (x : ℕ) (xs ys : List ℕ) → ys ≡ map (λ a. a) xs → In x xs → In x ys
in_same x xs ys e = subst (In x) (sym (e ∙ map-id xs))

in_back : (x : ℕ) (xs ys : List ℕ) → ys ≡ map (λ a. a) xs → In x ys → In x xs
in_back x xs ys e = subst (In x) (e ∙ map-id xs)

in_order : (order : List ℕ) (x : ℕ) → has_number order x ≡ true → In x order
in_order [] x e = absurd (true≢false (sym e))
in_order (y ∷ order) x e = by (nat_eq x y) refl e (in_order order x)
  where
    by : (b : Bool) → nat_eq x y ≡ b → (b || has_number order x) ≡ true → (has_number order x ≡ true → In x order) → (y ≡ x) ⊎ In x order
    by true s h f = inl (sym (eqb-true x y s))
    by false s h f = inr (f h)

among : {X : Type 0} (xs : List X) → AllByRecursion (λ x. In x xs) xs
among xs = all_in (λ x. In x xs) xs (λ x i. i)

names_are : (spec : Spec) (m : Minimal) (a : Arrays) → a ≡ arrays_of spec m → (names_in a).actions ≡ map (name_of spec.actions) (order_of (lists_of m.states))
unfolding arrays_of
names_are spec m a e = ap (λ w. (names_in w).actions) e

module _ (spec : Spec) (well : IsWellFormed spec) (entries : List EntryFsm) (m : Minimal) (made : IsMachineOf entries m) (sound : IsMinimal m)
    (tests : TestsOf (specification_of spec)) (twin : built.IsTwinOf (specification_of spec) tests entries) (fits : Fits spec m) where
  abbrev plain : Specification
  plain = specification_of spec

  abbrev tree : Machine (TreeState plain)
  tree = tree_machine plain tests

  abbrev root : Machine machines.RootState
  root = machines.root_machine entries (context_of plain)

  abbrev small : Machine ℕ
  small = min_machine m (context_of plain)

  abbrev By : TreeState plain → machines.RootState → Type 0
  By = Named spec well entries m made sound tests twin

  abbrev R : TreeState plain → ℕ → Type 0
  R = After By (Counted spec well entries m made sound tests twin)

  abbrev same : IsTwin tree small (λ a. a) R
  same = tree_twin spec well entries m made sound tests twin

  abbrev letters : List (Key × ℕ)
  letters = letters_of spec.alphabet

  abbrev count : ℕ
  count = length spec.entries

  abbrev lists : List (List ActionId)
  lists = lists_of m.states

  abbrev order : List ℕ
  order = order_of lists

  -- ---- actions that are used have numbers

  along : (word : List (Key × ℕ)) (q p : TreeState plain) (i : ℕ) → Leads tree letters count word q p → R q i → (j : ℕ) × R p j
  along [] q p i e r = (i, subst (λ z. R z i) e r)
  along (l ∷ word) q p i e r =
      by (small.find i l.0 l.1) (subst (λ o. GoR tree small (λ a. a) R o (small.find i l.0 l.1)) e.1 (same.find q i l.0 l.1 r)) (λ j x. along word e.0.target p j e.2 x)
    where
      by : (o : Option (Go ℕ)) → GoR tree small (λ a. a) R (Some e.0) o → ((j : ℕ) → R e.0.target j → (k : ℕ) × R p k) → (k : ℕ) × R p k
      by None x f = absurd x
      by (Some h) x f = f h.target x.0

  number_of : (q : TreeState plain) → IsKnown tree letters count q → (i : ℕ) × R q i
  number_of q (inl e) = (small.failed, subst (λ z. R z small.failed) (sym e) same.failed)
  number_of q (inr (e, low, high, word, path)) = along word (tree.entry e) q (small.entry e) path (same.entry e)

  uses_at : (i : ℕ) (s : MinState) → slice_get m.states i ≡ Some s → AllByRecursion (λ list. listed lists list ≡ true) (uses_of s)
  uses_at i s e = all_at (λ s. AllByRecursion (λ list. listed lists list ≡ true) (uses_of s)) m.states i s (lists_listed m.states) e

  state_numbered : (f : MinState → List ActionId) → ((s : MinState) → AllByRecursion (λ list. listed lists list ≡ true) (uses_of s) → listed lists (f s) ≡ true)
      → (i x : ℕ) → In x (at_state [] (λ s. numbers (f s)) m.states i) → has_number order x ≡ true
  state_numbered f pick i x h = by (slice_get m.states i) refl h
    where
      by : (o : Option MinState) → slice_get m.states i ≡ o → In x (option_map_or (λ s. numbers (f s)) o []) → has_number order x ≡ true
      by None e k = absurd k
      by (Some s) e k = in_all (λ a. has_number order a ≡ true) (numbers (f s)) (actions_numbered lists (f s) (pick s (uses_at i s e))) x k

  step_numbered : (i : ℕ) (key : Key) (hold x : ℕ) (e : MinEdge) → edge_for (letter_of key hold) (edges_at m i) ≡ Some e → In x (numbers e.list) → has_number order x ≡ true
  step_numbered i key hold x e found h = in_all (λ a. has_number order a ≡ true) (numbers e.list) (edges_numbered spec m sound well i key hold e found) x h

  used_numbered : (x : ℕ) → IsUsed spec tree x → has_number order x ≡ true
  used_numbered x (q, known, h) = by h
    where
      at : (i : ℕ) × R q i
      at = number_of q known

      step : StepHas tree q x → has_number order x ≡ true
      step (key, hold, g, e, j) = found (edge_for (letter_of key hold) (edges_at m at.0)) refl
          (subst (λ o. GoR tree small (λ a. a) R o (small.find at.0 key hold)) e (same.find q at.0 key hold at.1))
        where
          found : (o : Option MinEdge) → edge_for (letter_of key hold) (edges_at m at.0) ≡ o → GoR tree small (λ a. a) R (Some g) (option_map go_of o) → has_number order x ≡ true
          found None f r = absurd r
          found (Some y) f r = step_numbered at.0 key hold x y f (in_same x g.list (numbers y.list) r.1.0 j)

      by : Has tree q x → has_number order x ≡ true
      by (inl j) = state_numbered (λ s. s.from) (λ s u. u.0) at.0 x (in_same x (tree.from q) (small.from at.0) (same.from q at.0 at.1).0 j)
      by (inr (inl j)) = state_numbered (λ s. s.to) (λ s u. u.1.0) at.0 x (in_same x (tree.to q) (small.to at.0) (same.to q at.0 at.1).0 j)
      by (inr (inr (inl j))) = state_numbered (λ s. s.error) (λ s u. u.1.1.1.0) at.0 x (in_same x (tree.error q) (small.error at.0) (same.error q at.0 at.1).0 j)
      by (inr (inr (inr (inl j)))) = state_numbered (λ s. s.eof) (λ s u. u.1.1.0) at.0 x (in_same x (tree.eof q) (small.eof at.0) (same.eof q at.0 at.1).0 j)
      by (inr (inr (inr (inr (inl j))))) = state_numbered (λ s. s.token) (λ s u. u.1.1.1.1.0) at.0 x (in_same x (tree.token q) (small.token at.0) (same.token q at.0 at.1).0 j)
      by (inr (inr (inr (inr (inr j))))) = step j

  -- ---- actions that have numbers are used

  count_is : length entries ≡ count
  count_is = sym made.starts ∙ fits.entries

  fits_at : (i : ℕ) (s : MinState) → slice_get m.states i ≡ Some s → StateFits spec s
  fits_at i s e = all_at (StateFits spec) m.states i s (recursion_from_All (StateFits spec) m.states fits.states) e

  begin : BeginIn spec.alphabet m
  begin i e = by (slice_get m.states i) refl
    where
      by : (o : Option MinState) → slice_get m.states i ≡ o → In e (option_map_or (λ (s : MinState). s.edges) o []) → IsTrue (has_key spec.alphabet e.range.lo)
      by None q j = absurd j
      by (Some s) q j =
          let f = in_all (EdgeFits spec) s.edges (recursion_from_All (EdgeFits spec) s.edges (fits_at i s q).edges) e j in
          (and_parts (has_key spec.alphabet e.range.lo) (has_key spec.alphabet e.range.hi) f.keys).0

  along_root : (word : List (Key × ℕ)) (p r : machines.RootState) (q : TreeState plain) → Leads root letters (length entries) word p r → By q p
      → (t : TreeState plain) × Leads tree letters count word q t × By t r
  along_root [] p r q e n = (q, refl, subst (By q) e n)
  along_root (l ∷ word) p r q e n =
      by (tree.find q l.0 l.1) refl (subst (λ o. GoR tree root (λ a. a) By (tree.find q l.0 l.1) o) e.1 (twin.1.find q p l.0 l.1 n)) (λ t x. along_root word e.0.target r t e.2 x)
    where
      by : (o : Option (Go (TreeState plain))) → tree.find q l.0 l.1 ≡ o → GoR tree root (λ a. a) By o (Some e.0)
          → ((t : TreeState plain) → By t e.0.target → (s : TreeState plain) × Leads tree letters count word t s × By s r)
          → (s : TreeState plain) × Leads tree letters count (l ∷ word) q s × By s r
      by None f x k = absurd x
      by (Some g) f x k = let s = k g.target x.0 in (s.0, (g, f, s.1), s.2)

  known_tree : (p : machines.RootState) → IsKnown root letters (length entries) p → (q : TreeState plain) × IsKnown tree letters count q × By q p
  known_tree p (inl e) = (tree.failed, inl refl, subst (By tree.failed) (sym e) twin.1.failed)
  known_tree p (inr (e, low, high, word, path)) =
      let s = along_root word (root.entry e) p (tree.entry e) path (twin.1.entry e) in
      (s.0, inr (e, low, subst (λ n. e ≤ n) count_is high, word, s.1), s.2)

  behind : (i : ℕ) → i < length m.states → (q : TreeState plain) × IsKnown tree letters count q × R q i
  behind i h =
      let u = made.used i h in
      let k = known_tree u.0 (built_known entries spec.alphabet (context_of plain) m made sound begin u.0 u.1) in
      (k.0, k.1, (u.0, k.2, (sym u.2, u.1)))

  abbrev Used : ℕ → Type 0
  Used = IsUsed spec tree

  state_used : (i : ℕ) (s : MinState) → slice_get m.states i ≡ Some s → AllByRecursion (λ l. AllByRecursion Used (numbers l)) (uses_of s)
  state_used i s at = (
    own (λ s. s.from) tree.from same_from (λ x j. inl j),
    (
      own (λ s. s.to) tree.to same_to (λ x j. inr (inl j)),
      (
        own (λ s. s.eof) tree.eof same_eof (λ x j. inr (inr (inr (inl j)))),
        (
          own (λ s. s.error) tree.error same_error (λ x j. inr (inr (inl j))),
          (
            own (λ s. s.token) tree.token same_token (λ x j. inr (inr (inr (inr (inl j))))),
            steps_all (λ l. AllByRecursion Used (numbers l)) tt (λ e. In e s.edges) edge_used s (All-from_recursion (λ e. In e s.edges) s.edges (among s.edges)),
          ),
        ),
      ),
    ),
  )
    where
      b : (q : TreeState plain) × IsKnown tree letters count q × R q i
      b = behind i (slice_get_within m.states i s at)

      same_from : at_state [] (λ s. numbers s.from) m.states i ≡ map (λ a. a) (tree.from b.0)
      same_from = (same.from b.0 i b.2).0

      same_to : at_state [] (λ s. numbers s.to) m.states i ≡ map (λ a. a) (tree.to b.0)
      same_to = (same.to b.0 i b.2).0

      same_eof : at_state [] (λ s. numbers s.eof) m.states i ≡ map (λ a. a) (tree.eof b.0)
      same_eof = (same.eof b.0 i b.2).0

      same_error : at_state [] (λ s. numbers s.error) m.states i ≡ map (λ a. a) (tree.error b.0)
      same_error = (same.error b.0 i b.2).0

      same_token : at_state [] (λ s. numbers s.token) m.states i ≡ map (λ a. a) (tree.token b.0)
      same_token = (same.token b.0 i b.2).0

      own : (f : MinState → List ActionId) (g : TreeState plain → List ℕ) → at_state [] (λ s. numbers (f s)) m.states i ≡ map (λ a. a) (g b.0)
          → ((x : ℕ) → In x (g b.0) → Has tree b.0 x) → AllByRecursion Used (numbers (f s))
      own f g e to =
          let told : at_state [] (λ s. numbers (f s)) m.states i ≡ numbers (f s) = ap (λ o. option_map_or (λ s. numbers (f s)) o []) at in
          all_in Used (numbers (f s)) (λ x j. (b.0, b.1, to x (in_back x (g b.0) (numbers (f s)) (sym told ∙ e) j)))

      edge_used : (e : MinEdge) → In e s.edges → AllByRecursion Used (numbers e.list)
      edge_used e j =
          let o = own_step spec well entries m made sound tests twin i s at b.0 b.2 e j in
          all_in Used (numbers e.list) (λ x k. (b.0, b.1, inr (inr (inr (inr (inr (record { 0 = e.range.lo }, e.truths.0, o.0, o.1, in_back x o.0.list (numbers e.list) o.2.0 k)))))))

  states_all : (P : MinState → Type 0) (states : List MinState) → ((i : ℕ) (s : MinState) → slice_get states i ≡ Some s → P s) → AllByRecursion P states
  states_all P [] h = tt
  states_all P (s ∷ states) h = (h 0 s refl, states_all P states (λ i t e. h (suc i) t e))

  order_used : AllByRecursion Used order
  order_used = order_all Used m.states (states_all (λ s. AllByRecursion (λ l. AllByRecursion Used (numbers l)) (uses_of s)) m.states state_used)

  -- ---- names

  pub names_used : (a : Arrays) → a ≡ arrays_of spec m → (name : List ℕ) →
      (In name (names_in a).actions → (x : ℕ) × IsUsed spec tree x × (name ≡ name_of spec.actions x))
      × (((x : ℕ) × IsUsed spec tree x × (name ≡ name_of spec.actions x)) → In name (names_in a).actions)
  names_used a e name = (
    λ i.
        let named = names_are spec m a e in
        let p = In-map_from (name_of spec.actions) name order (subst (In name) named i) in
        (p.0, in_all Used order order_used p.0 p.1, sym p.2),
    λ u.
        let named = names_are spec m a e in
        let there = In-map (name_of spec.actions) u.0 order (in_order order u.0 (used_numbered u.0 u.1)) in
        subst (In name) (sym named) (subst (λ n. In n (map (name_of spec.actions) order)) (sym u.2) there),
  )
