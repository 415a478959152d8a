-- The cells of states in arrays: where they stand, what they ask, and where their entries lead.
use Rattle.std.proofs.Common.{◌≡◌, ℕ, ◌+◌, ◌*◌, ◌<◌, true, false, cond, nat_eq, ℤ, pos, List, [], ◌∷◌, ◌++◌, length, map, take, drop, Option, Some, None, refl, sym, ap, ◌∙◌, subst, arith, length-append}
use Rattle.std.specs.Prelude.{slice_get, position}
use Rattle.std.specs.List.{flat_map}
use Rattle.std.specs.Option.{option_map, option_map_or, option_or}
use Rattle.std.specs.Ordering.{int_eq}
use Rattle.std.proofs.lemmas.Option.{slice_get-map}
use Rattle.std.proofs.lemmas.Bool.{ne_eqb}
use Rattle.std.proofs.lemmas.List.{length-map}
use Rattle.std.proofs.lemmas.List.FromFn.{length-map-range_with_len}
use Rattle.rl_types.specs.declared.numbers.ActionId.{ActionId}
use Rattle.rl_run.specs.Machine.{Go}
use Rattle.rl_model.specs.declared.spec.Spec.{Spec}
use Rattle.rl_arrays.specs.declared.arrays.Arrays.{Arrays}
use Rattle.rl_arrays.specs.Words.{natural, number_at}
use Rattle.rl_arrays.specs.Lists.{members}
use Rattle.rl_arrays.specs.Shared.{Cell as SharedCell, shared, cell_number, places_from}
use Rattle.rl_arrays.specs.TableMachine.{range_of, single_keys, range_ends, cell_within, cell_used, asked_bits, entry_number, step_of, asked, entry_of}
use Rattle.rl_minimal.specs.declared.state.MinEdge.{MinEdge}
use Rattle.rl_minimal.specs.declared.state.MinState.{MinState}
use Rattle.rl_minimal.specs.Minimal.{Minimal, numbers}
use Rattle.rl_layout.specs.declared.runs.Run.{Run}
use Rattle.rl_layout.specs.Runs.{edges_of, laid_of, runs_of, is_single}
use Rattle.rl_layout.specs.Cells.{ordered_of, keys_of, key_count, cell_count, asks_of, entry_count, edge_at, steps_of_run, steps_of, target_of, offsets}
use Rattle.rl_layout.specs.Books.{list_of, place_in, number_in}
use Rattle.rl_layout.specs.Shares.{leads, cell_of, cells_used}
use Rattle.rl_layout.specs.Layout.{arrays_laid}
use Rattle.rl_layout.proofs.ListLaws.{front_get, made_get, to_filter, all_from}
use Rattle.rl_layout.proofs.FoundLaws.{ends_of, low_of, Finds, finds_single, finds_range, finds_either}
use Rattle.rl_layout.proofs.BookLaws.{listed, list_shown}
use Rattle.rl_layout.proofs.Segments.{begins, behind_of, segment, in_segment, front_part, back_part, offset_at, map_map, begins_map, flat_map_map, map_flat_map, flat_map_flat_map}
use Rattle.rl_layout.proofs.ShareLaws.{shared_there, entries_in, place_at}
use Rattle.rl_layout.proofs.SpecLaws.{number_is}

-- ---- cells

-- a run of a state, with the state's edges
pub record Cell : Type 0 where
  pub edges : List MinEdge
  pub run : Run

abbrev pub cell : MinState → Run → Cell
cell s r = record { edges = s.edges; run = r }

abbrev pub cells_in : MinState → List Cell
cells_in s = map (cell s) (ordered_of s)

abbrev pub all_cells : List MinState → List Cell
all_cells states = flat_map cells_in states

abbrev pub asked_in : Cell → ℕ
asked_in c = asks_of c.edges c.run

abbrev pub steps_in : Cell → List (Option MinEdge)
steps_in c = steps_of_run c.edges c.run

-- what is made of each run of each state is made of each cell
pub cells_map : {Y : Type 0} → (g : Cell → Y) (states : List MinState) → flat_map (λ s. map (λ r. g (cell s r)) (ordered_of s)) states ≡ map g (all_cells states)
cells_map g states = sym (map_flat_map g cells_in states ∙ (λ i. flat_map (λ s. map_map g (cell s) (ordered_of s) i) states))

-- the cells that are used, as values
abbrev pub value : List (List ActionId) → Cell → SharedCell
value lists c = cell_of lists c.edges c.run

pub used_are : (lists : List (List ActionId)) (states : List MinState) → cells_used lists states ≡ map (value lists) (all_cells states)
used_are lists states = cells_map (value lists) states

pub cells_flat_map : {Y : Type 0} → (g : Cell → List Y) (states : List MinState) → flat_map (λ s. flat_map (λ r. g (cell s r)) (ordered_of s)) states ≡ flat_map g (all_cells states)
cells_flat_map g states = sym (flat_map_flat_map g cells_in states ∙ (λ i. flat_map (λ s. flat_map_map g (cell s) (ordered_of s) i) states))

pub count_is : (s : MinState) → cell_count s ≡ length (cells_in s)
count_is s =
    let a = length-map (ordered_of s) (cell s) in
    let b = length-append (laid_of s).singles (laid_of s).ranges in
    omega (arith, a, b)

pub steps_count : (c : Cell) → entry_count c.edges c.run ≡ length (steps_in c)
steps_count c = sym (length-map-range_with_len (λ j. edge_at (asks_of c.edges c.run) j (edges_of c.edges c.run)) 0 (entry_count c.edges c.run))

pub number_none : (xs : List ℤ) (i : ℕ) → slice_get xs i ≡ None → number_at xs i ≡ 0
number_none xs i e = ap (λ o. option_map_or natural o 0) e

offset_number : {X Y : Type 0} → (f : X → List Y) (xs : List X) (i : ℕ) (x : X) → slice_get xs i ≡ Some x → number_at (offsets 0 (map (λ z. length (f z)) xs)) i ≡ begins f xs i
offset_number f xs i x e = let same : 0 + begins f xs i ≡ begins f xs i = omega arith in number_is (offsets 0 (map (λ z. length (f z)) xs)) i (pos (0 + begins f xs i)) (offset_at f xs 0 i x e) ∙ same

-- ---- keys

ends_length : (runs : List Run) → length (flat_map ends_of runs) ≡ length runs + length runs
ends_length [] = refl
ends_length (r ∷ runs) = let rest = ends_length runs in omega (arith, rest)

pub key_count_is : (s : MinState) → key_count s ≡ length (keys_of s)
key_count_is s =
    let a = length-append (map low_of (laid_of s).singles) (flat_map ends_of (laid_of s).ranges) in
    let b = length-map (laid_of s).singles low_of in
    let c = ends_length (laid_of s).ranges in
    omega (arith, a, b, c)

-- ---- one state

module _ (spec : Spec) (lists : List (List ActionId)) (order : List ℕ) (m : Minimal) where
  abbrev pub a : Arrays
  a = arrays_laid spec lists order m

  -- the cells of all keys, and those that are stored
  abbrev pub used : List SharedCell
  used = cells_used lists m.states

  abbrev pub kept : List SharedCell
  kept = shared used

  -- nothing is found in a state that is none
  pub no_state : (q : ℕ) (key : ℤ) → slice_get m.states q ≡ None → cell_within a q key ≡ None
  no_state q key e =
      λ i. option_or (position (int_eq key) (take (none_single i) (drop (number_at a.key_offsets q) a.trans_keys)))
      (option_map (λ r. number_at a.single_lengths q + r) (range_of key (take (2 * none_range i) (drop (number_at a.key_offsets q + number_at a.single_lengths q) a.trans_keys))))
    where
      none_single : number_at a.single_lengths q ≡ 0
      none_single = number_none a.single_lengths q (slice_get-map (λ s. pos (length (laid_of s).singles)) m.states q ∙ ap (option_map (λ s. pos (length (laid_of s).singles))) e)

      none_range : number_at a.range_lengths q ≡ 0
      none_range = number_none a.range_lengths q (slice_get-map (λ s. pos (length (laid_of s).ranges)) m.states q ∙ ap (option_map (λ s. pos (length (laid_of s).ranges))) e)

  module _ (q : ℕ) (s : MinState) (there : slice_get m.states q ≡ Some s) where
    key_offset : number_at a.key_offsets q ≡ begins keys_of m.states q
    key_offset = (λ i. number_at (offsets 0 (map (λ z. key_count_is z i) m.states)) q) ∙ offset_number keys_of m.states q s there

    singles_are : number_at a.single_lengths q ≡ length (laid_of s).singles
    singles_are = number_is a.single_lengths q (pos (length (laid_of s).singles)) (slice_get-map (λ s. pos (length (laid_of s).singles)) m.states q ∙ ap (option_map (λ s. pos (length (laid_of s).singles))) there)

    ranges_are : number_at a.range_lengths q ≡ length (laid_of s).ranges
    ranges_are = number_is a.range_lengths q (pos (length (laid_of s).ranges)) (slice_get-map (λ s. pos (length (laid_of s).ranges)) m.states q ∙ ap (option_map (λ s. pos (length (laid_of s).ranges))) there)

    keys_there : drop (begins keys_of m.states q) a.trans_keys ≡ (map low_of (laid_of s).singles ++ flat_map ends_of (laid_of s).ranges) ++ behind_of keys_of m.states (pos 0 ∷ []) q
    keys_there = segment keys_of m.states (pos 0 ∷ []) q s there

    single_keys_are : single_keys a q ≡ map low_of (laid_of s).singles
    single_keys_are =
        let count : number_at a.single_lengths q ≡ length (map low_of (laid_of s).singles) = singles_are ∙ sym (length-map (laid_of s).singles low_of) in
        (λ i. take (count i) (drop (key_offset i) a.trans_keys))
        ∙ front_part (map low_of (laid_of s).singles) (flat_map ends_of (laid_of s).ranges) (behind_of keys_of m.states (pos 0 ∷ []) q) (drop (begins keys_of m.states q) a.trans_keys) keys_there

    range_ends_are : range_ends a q ≡ flat_map ends_of (laid_of s).ranges
    range_ends_are =
        let n = ends_length (laid_of s).ranges in
        let twice : 2 * number_at a.range_lengths q ≡ length (flat_map ends_of (laid_of s).ranges) = ap (λ n. 2 * n) ranges_are ∙ omega (arith, n) in
        let count : number_at a.single_lengths q ≡ length (map low_of (laid_of s).singles) = singles_are ∙ sym (length-map (laid_of s).singles low_of) in
        (λ i. take (twice i) (drop (key_offset i + count i) a.trans_keys))
        ∙ back_part (map low_of (laid_of s).singles) (flat_map ends_of (laid_of s).ranges) (behind_of keys_of m.states (pos 0 ∷ []) q) a.trans_keys (begins keys_of m.states q) keys_there

    -- the cell that is found
    pub found : (key : ℤ) → Finds key (ordered_of s) (cell_within a q key)
    found key = subst (Finds key (ordered_of s)) (sym path)
        (finds_either key (laid_of s).singles (laid_of s).ranges (position (int_eq key) (map low_of (laid_of s).singles)) (range_of key (flat_map ends_of (laid_of s).ranges))
        (finds_single key (laid_of s).singles (to_filter is_single (λ r. is_single r ≡ true) (runs_of s.edges) (all_from (λ r. is_single r ≡ true → is_single r ≡ true) (runs_of s.edges) (λ i r e h. h))))
        (finds_range key (laid_of s).ranges))
      where
        path : cell_within a q key ≡ option_or (position (int_eq key) (map low_of (laid_of s).singles)) (option_map (λ r. length (laid_of s).singles + r) (range_of key (flat_map ends_of (laid_of s).ranges)))
        path = λ i. option_or (position (int_eq key) (single_keys_are i)) (option_map (λ r. singles_are i + r) (range_of key (range_ends_are i)))

    -- ---- one cell

    module _ (i : ℕ) (r : Run) (run_there : slice_get (ordered_of s) i ≡ Some r) where
      abbrev pub place : ℕ
      place = begins cells_in m.states q + i

      cell_there : slice_get (all_cells m.states) place ≡ Some (cell s r)
      cell_there = in_segment cells_in m.states q i s (cell s r) there (slice_get-map (cell s) (ordered_of s) i ∙ ap (option_map (cell s)) run_there)

      cell_offset : number_at a.cell_offsets q + i ≡ place
      cell_offset = ap (λ n. n + i) ((λ j. number_at (offsets 0 (map (λ z. count_is z j) m.states)) q) ∙ offset_number cells_in m.states q s there)

      -- ---- its shared cell

      abbrev laid : SharedCell
      laid = cell_of lists s.edges r

      abbrev pub number : ℕ
      number = cell_number kept laid

      abbrev pub edge : ℕ → Option MinEdge
      edge j = edge_at (asks_of s.edges r) j (edges_of s.edges r)

      used_there : slice_get used place ≡ Some laid
      used_there = ap (λ w. slice_get w place) (used_are lists m.states) ∙ slice_get-map (value lists) (all_cells m.states) place ∙ ap (option_map (value lists)) cell_there

      kept_there : slice_get kept number ≡ Some laid
      kept_there = shared_there used place laid used_there

      use_there : cell_used a (number_at a.cell_offsets q + i) ≡ number
      use_there =
          ap (number_at a.cell_uses) cell_offset
          ∙ number_is a.cell_uses place (pos number) (front_get (map (λ c. pos (cell_number kept c)) used) (pos 0 ∷ []) place (pos number)
          (slice_get-map (λ c. pos (cell_number kept c)) used place ∙ ap (option_map (λ c. pos (cell_number kept c))) used_there))

      asks_there : number_at a.cell_asks number ≡ asks_of s.edges r
      asks_there = number_is a.cell_asks number (pos (asks_of s.edges r)) (front_get (map (λ (c : SharedCell). pos c.asks) kept) (pos 0 ∷ []) number (pos (asks_of s.edges r))
          (slice_get-map (λ (c : SharedCell). pos c.asks) kept number ∙ ap (option_map (λ (c : SharedCell). pos c.asks)) kept_there))

      entries_there : number_at a.cell_entries number ≡ begins entries_in kept number
      entries_there = number_is a.cell_entries number (pos (begins entries_in kept number))
          (front_get (places_from 0 kept) (pos 0 ∷ []) number (pos (begins entries_in kept number)) (place_at kept 0 number laid kept_there ∙ ap (λ n. Some (pos n)) none))
        where
          none : 0 + begins entries_in kept number ≡ begins entries_in kept number
          none = omega arith

      entry_at : (j : ℕ) → j < entry_count s.edges r → slice_get (entries_in laid) j ≡ Some (leads lists (edge j))
      entry_at j l = let none : 0 + j ≡ j = omega arith in made_get (λ j. leads lists (edge j)) 0 (entry_count s.edges r) j l ∙ ap (λ n. Some (leads lists (edge n))) none

      -- what an array by entry has at an entry of the cell
      by_entry : (g : ℕ × ℕ → ℤ) (j : ℕ) → j < entry_count s.edges r
          → slice_get (flat_map (λ c. map g (entries_in c)) kept ++ pos 0 ∷ []) (begins entries_in kept number + j) ≡ Some (g (leads lists (edge j)))
      by_entry g j l = front_get (flat_map (λ c. map g (entries_in c)) kept) (pos 0 ∷ []) (begins entries_in kept number + j) (g (leads lists (edge j))) (
          ap (λ n. slice_get (flat_map (λ c. map g (entries_in c)) kept) (n + j)) (sym (begins_map g entries_in kept number))
          ∙ in_segment (λ c. map g (entries_in c)) kept number j laid (g (leads lists (edge j))) kept_there (slice_get-map g (entries_in laid) j ∙ ap (option_map g) (entry_at j l))
          )

      pub target_there : (j : ℕ) → j < entry_count s.edges r → number_at a.trans_targs (begins entries_in kept number + j) ≡ target_of (edge j)
      target_there j l = number_is a.trans_targs (begins entries_in kept number + j) (pos (target_of (edge j))) (by_entry (λ e. pos e.0) j l)

      pub list_there : (j : ℕ) → j < entry_count s.edges r → number_at a.trans_lists (begins entries_in kept number + j) ≡ place_in lists (list_of (edge j))
      list_there j l = number_is a.trans_lists (begins entries_in kept number + j) (pos (place_in lists (list_of (edge j)))) (by_entry (λ e. pos e.1) j l)

      -- it is a step of the machine
      pub step_there : (j : ℕ) → j < entry_count s.edges r → slice_get (flat_map steps_of m.states) (begins steps_in (all_cells m.states) place + j) ≡ Some (edge j)
      step_there j l =
          let none : 0 + j ≡ j = omega arith in
          ap (λ w. slice_get w (begins steps_in (all_cells m.states) place + j)) (cells_flat_map steps_in m.states)
          ∙ in_segment steps_in (all_cells m.states) place j (cell s r) (edge j) cell_there (made_get edge 0 (entry_count s.edges r) j l ∙ ap (λ n. Some (edge n)) none)

      -- what is asked there, and the entry of the conditions that hold
      pub asked_there : (key : ℤ) → cell_within a q key ≡ Some i → asked a q key ≡ asks_of s.edges r
      asked_there key e =
          ap (λ o. option_map_or (λ c. number_at a.cell_asks c) (option_map (λ c. cell_used a (number_at a.cell_offsets q + c)) o) 0) e ∙ ap (number_at a.cell_asks) use_there ∙ asks_there

      pub entry_there : (key : ℤ) (hold : ℕ) → cell_within a q key ≡ Some i → entry_of a q key hold ≡ Some (begins entries_in kept number + entry_number (asked_bits (asks_of s.edges r)) hold)
      entry_there key hold e =
          ap (λ o. option_map (λ c. number_at a.cell_entries c + entry_number (asked_bits (number_at a.cell_asks c)) hold) (option_map (λ c. cell_used a (number_at a.cell_offsets q + c)) o)) e
          ∙ ap (λ c. Some (number_at a.cell_entries c + entry_number (asked_bits (number_at a.cell_asks c)) hold)) use_there
          ∙ (λ j. Some (entries_there j + entry_number (asked_bits (asks_there j)) hold))

  -- ---- one entry

  -- a step: it leads to a state that is not Error, and its list is listed
  pub record IsStep (e : MinEdge) : Type 0 where
    pub alive : 0 < e.target
    pub list : listed lists e.list ≡ true

  abbrev pub go_laid : MinEdge → Go ℕ
  go_laid e = record { target = e.target; list = map (number_in order) (numbers e.list) }

  abbrev pub MayBeStep : Option MinEdge → Type 0
  MayBeStep None = Unit {0}
  MayBeStep (Some e) = IsStep e

  pub step_is : (n : ℕ) (o : Option MinEdge) → number_at a.trans_targs n ≡ target_of o → number_at a.trans_lists n ≡ place_in lists (list_of o)
      → MayBeStep o → step_of a n ≡ option_map go_laid o
  step_is n o target place p = (λ i. cond (nat_eq (target i) 0) None (Some (record { target = target i; list = members a.actions (place i) }))) ∙ by o p
    where
      by : (o : Option MinEdge) → MayBeStep o → cond (nat_eq (target_of o) 0) None (Some (record { target = target_of o; list = members a.actions (place_in lists (list_of o)) })) ≡ option_map go_laid o
      by None p = refl
      by (Some x) p =
          let some : nat_eq x.target 0 ≡ false = ne_eqb x.target 0 (λ z. let l = p.alive in omega (arith, l, z)) in
          (λ i. cond (some i) None (Some (record { target = x.target; list = members a.actions (place_in lists x.list) }))) ∙ (λ i. Some (record { target = x.target; list = list_shown order lists x.list p.list i }))
