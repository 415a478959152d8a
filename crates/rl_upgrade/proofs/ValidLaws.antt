-- The new arrays are valid.
use Rattle.std.proofs.Common.{◌≡◌, ℕ, zero, suc, ◌+◌, ◌^◌, ◌<◌, ℤ, pos, ◌≤ℤ◌, ◌<ℤ◌, List, [], ◌∷◌, ◌++◌, length, map, Option, Some, None, refl, sym, ap, ◌∙◌, subst, arith, length-append, inl, inr, ◌⊎◌}
use Rattle.std.specs.Prelude.{slice_get, IfSome, IsSomeAnd}
use Rattle.std.specs.List.{flat_map, Contains}
use Rattle.std.specs.Option.{option_map}
use Rattle.std.proofs.lemmas.Int.{ints}
use Rattle.std.proofs.lemmas.List.{length-map}
use Rattle.std.proofs.lemmas.Nat.{pow_pos}
use Rattle.std.proofs.lemmas.Option.{slice_get-map, slice_get_within}
use Rattle.rl_arrays.specs.declared.arrays.Arrays.{Arrays}
use Rattle.rl_arrays.specs.declared.arrays.ArrayName.{ArrayName}
use Rattle.rl_arrays.specs.declared.arrays.ArrayName.TheVariants as the
use Rattle.rl_arrays.specs.Words.{natural, number_at, IfAt}
use Rattle.rl_arrays.specs.Lists.{IsList, members}
use Rattle.rl_arrays.specs.Sizes.{has, due, states, conditions, shared_cells, entries_of, uses_end, cells_end, entries_end, one_more, IsClosing, IsEntryOf}
use Rattle.rl_arrays.specs.Rules.{Says, UseSays, AskSays, CellEntrySays, TargetOf, TargetSays, StepListSays, CountSays, IsListed}
use Rattle.rl_arrays.specs.Valid.{FirstWrong, Valid}
use Rattle.rl_arrays.specs.Shared.{Cell, cell_number, places_from, upgraded}
use Rattle.rl_arrays.specs.TableMachine.{cell_used}
use Rattle.rl_tables.proofs.Elements.{right, has-due, element, number-at, is_at}
use Rattle.rl_tables.proofs.Elements as old_elements
use Rattle.rl_upgrade.proofs.ListLaws.{front_get}
use Rattle.rl_upgrade.proofs.Segments.{begins, sum_is}
use Rattle.rl_upgrade.proofs.ShareLaws.{entries_in, place_at, places_length}
use Rattle.rl_upgrade.proofs.OldLaws.{some_pos, places, entry_count, entries_end_is, targets_length}
use Rattle.rl_upgrade.proofs.NewLaws.{uses, used, kept, b, old, number, used_length, used_at, origin, kept_at, entries, by_entry}
use Rattle.rl_upgrade.proofs.EntryLaws.{cells_are, asks_length, cells_end_is, widths, new_entries_end, old_target, old_list, old_entry, entry_of_state, array_length}
use Rattle.rl_upgrade.proofs.StayLaws as stays
use Rattle.rl_upgrade.proofs.StayLaws.{moved, if_more}

-- an element is that of the list, or the closing one
data_of : {X : Type 0} → (xs : List X) (k : ℕ) (x y : X) → slice_get (xs ++ y ∷ []) k ≡ Some x → (slice_get xs k ≡ Some x) ⊎ ((k ≡ length xs) × (x ≡ y))
data_of [] zero x y e = inr (refl, (let s : x ≡ y = cc in s))
data_of [] (suc k) x y e = absurd cc
data_of (w ∷ xs) zero x y e = inl e
data_of (w ∷ xs) (suc k) x y e = by (data_of xs k x y e)
  where
    by : (slice_get xs k ≡ Some x) ⊎ ((k ≡ length xs) × (x ≡ y)) → (slice_get xs k ≡ Some x) ⊎ ((suc k ≡ suc (length xs)) × (x ≡ y))
    by (inl h) = inl h
    by (inr h) = let n = h.0 in inr (omega (arith, n), h.1)

-- what an element of a map is made of
at_map : {X Y : Type 0} → (g : X → Y) (xs : List X) (i : ℕ) (y : Y) → slice_get (map g xs) i ≡ Some y → (x : X) × (slice_get xs i ≡ Some x) × (y ≡ g x)
at_map g [] i y e = absurd cc
at_map g (x ∷ xs) zero y e = let same : y ≡ g x = cc in (x, refl, same)
at_map g (x ∷ xs) (suc i) y e = at_map g xs i y e

if_at : {X : Type 0} → (xs : List X) (i : ℕ) (P : X → Type 0) → ((x : X) → slice_get xs i ≡ Some x → P x) → IfAt xs i P
if_at {X = X} xs i P f = by (slice_get xs i) f
  where
    by : (o : Option X) → ((x : X) → o ≡ Some x → P x) → IfSome o P
    by None f = tt
    by (Some x) f = f x refl

right_of : (a : Arrays) (array : ArrayName) → due a array ≡ has a array → ((i : ℕ) → Says a array i) → FirstWrong a array None
right_of a array e f = λ k l. record { there = omega (arith, e, l); due = omega (arith, e, l); says = f k }

due_is : (end : Option ℤ) (n h : ℕ) → end ≡ Some (pos n) → h ≡ n + 1 → one_more end h ≡ h
due_is end n h e q = ap (λ o. one_more o h) e ∙ sym q

closing_place : (end : Option ℤ) (n k : ℕ) → end ≡ Some (pos n) → IsClosing end k → k ≡ n
closing_place end n k e h = some_pos k n (sym h ∙ e)

not_negative : (n : ℕ) → pos 0 ≤ℤ pos n
not_negative n = omega (arith, ints)

lt_pos : (m n : ℕ) → m < n → pos m <ℤ pos n
lt_pos m n h = omega (arith, ints)

module _ (a : Arrays) (valid : Valid a) where
  abbrev new : Arrays
  new = b a valid

  abbrev numbers : List ℤ
  numbers = map (λ c. pos (cell_number (kept a valid) c)) (used a valid)

  -- ---- uses

  use_says : (k : ℕ) (x : ℤ) → slice_get new.cell_uses k ≡ Some x → UseSays new k x
  use_says k x e = by (data_of numbers k x (pos 0) e)
    where
      count : length numbers ≡ uses a valid
      count = let n = length-map (used a valid) (λ c. pos (cell_number (kept a valid) c)) in let l = used_length a valid in omega (arith, n, l)

      by : (slice_get numbers k ≡ Some x) ⊎ ((k ≡ length numbers) × (x ≡ pos 0)) → UseSays new k x
      by (inr h) =
          let place = h.0 ∙ count in
          record {
            closing = λ _. h.1;
            positive = subst (λ z. pos 0 ≤ℤ z) (sym h.1) (not_negative 0);
            known = λ open_one. absurd (open_one ((places a valid).uses_are ∙ ap (λ k. Some (pos k)) (sym place)));
          }
      by (inl h) =
          let p = at_map (λ c. pos (cell_number (kept a valid) c)) (used a valid) k x h in
          let less : k < uses a valid = let l = slice_get_within (used a valid) k p.0 p.1 in let n = used_length a valid in omega (arith, l, n) in
          let there = used_at a valid k less in
          let same : p.0 ≡ old a valid k = let q = p.1 in cc in
          let is : x ≡ pos (number a valid k) = p.2 ∙ ap (λ c. pos (cell_number (kept a valid) c)) same in
          record {
            closing = λ c. let q = closing_place (uses_end a) (uses a valid) k (places a valid).uses_are c in absurd (omega (arith, q, less));
            positive = subst (λ z. pos 0 ≤ℤ z) (sym is) (not_negative (number a valid k));
            known = λ _. subst (λ z. z <ℤ pos (shared_cells new)) (sym is) (lt_pos (number a valid k) (shared_cells new)
                (let l = slice_get_within (kept a valid) (number a valid k) (old a valid k) (kept_at a valid k less) in let n = cells_are a valid in omega (arith, l, n)));
          }

  cell_uses : FirstWrong new the.CellUses None
  cell_uses = right_of new the.CellUses
      (due_is (uses_end a) (uses a valid) (length new.cell_uses) (places a valid).uses_are (let n = length-append numbers (pos 0 ∷ []) in
      let k = length-map (used a valid) (λ c. pos (cell_number (kept a valid) c)) in let l = used_length a valid in omega (arith, n, k, l)))
      (λ i. if_at new.cell_uses i (UseSays new i) (use_says i))

  -- ---- asked conditions

  known_asks : (n : ℕ) (c : Cell) → slice_get (kept a valid) n ≡ Some c → c.asks < 2 ^ conditions a
  known_asks n c e =
      let o = origin a valid n c e in
      let cell = cell_used a o.place in
      let less = (places a valid).within o.place o.within in
      let len = (places a valid).asks in
      let whole = has-due a valid the.CellAsks in
      let r = right a valid the.CellAsks cell (omega (arith, less, len, whole)) in
      let x = element a.cell_asks cell r.there in
      let known = (old_elements.if_at a.cell_asks cell x.0 (AskSays a cell) x.1 r.says).known in
      let same : natural x.0 ≡ c.asks = sym (number-at a.cell_asks cell x.0 x.1) ∙ ap (λ (z : Cell). z.asks) (sym o.is) in
      subst (λ k. k < 2 ^ conditions a) same known

  ask_says : (n : ℕ) (x : ℤ) → slice_get new.cell_asks n ≡ Some x → AskSays new n x
  ask_says n x e = by (data_of (map (λ (c : Cell). pos c.asks) (kept a valid)) n x (pos 0) e)
    where
      by : (slice_get (map (λ (c : Cell). pos c.asks) (kept a valid)) n ≡ Some x) ⊎ ((n ≡ length (map (λ (c : Cell). pos c.asks) (kept a valid))) × (x ≡ pos 0)) → AskSays new n x
      by (inr h) = record {
        closing = λ _. h.1;
        positive = subst (λ z. pos 0 ≤ℤ z) (sym h.1) (not_negative 0);
        known = subst (λ z. natural z < 2 ^ conditions a) (sym h.1) (pow_pos (conditions a));
      }
      by (inl h) =
          let p = at_map (λ (c : Cell). pos c.asks) (kept a valid) n x h in
          record {
            closing = λ c. let q = closing_place (cells_end new) (length (kept a valid)) n (cells_end_is a valid) c in let l = slice_get_within (kept a valid) n p.0 p.1 in absurd (omega (arith, q, l));
            positive = subst (λ z. pos 0 ≤ℤ z) (sym p.2) (not_negative p.0.asks);
            known = subst (λ z. natural z < 2 ^ conditions a) (sym p.2) (known_asks n p.0 p.1);
          }

  cell_asks : FirstWrong new the.CellAsks None
  cell_asks = right_of new the.CellAsks (due_is (cells_end new) (length (kept a valid)) (length new.cell_asks) (cells_end_is a valid) (asks_length a valid))
      (λ i. if_at new.cell_asks i (AskSays new i) (ask_says i))

  -- ---- where entries begin

  place_says : (n : ℕ) (x : ℤ) → slice_get new.cell_entries n ≡ Some x → CellEntrySays new n x
  place_says n x e = by (data_of (places_from 0 (kept a valid)) n x (pos 0) e)
    where
      by : (slice_get (places_from 0 (kept a valid)) n ≡ Some x) ⊎ ((n ≡ length (places_from 0 (kept a valid))) × (x ≡ pos 0)) → CellEntrySays new n x
      by (inr h) =
          let place = h.0 in
          let n_is : n ≡ length (kept a valid) = place ∙ places_length (kept a valid) 0 in
          record { closing = λ _. h.1; sum = λ open_one. absurd (open_one (cells_end_is a valid ∙ ap (λ k. Some (pos k)) (sym n_is))) }
      by (inl h) =
          let l = slice_get_within (places_from 0 (kept a valid)) n x h in
          let k = places_length (kept a valid) 0 in
          let c = element (kept a valid) n (omega (arith, l, k)) in
          let there = place_at (kept a valid) 0 n c.0 c.1 in
          let same : x ≡ pos (0 + begins entries_in (kept a valid) n) = cc in
          let none : 0 + begins entries_in (kept a valid) n ≡ begins entries_in (kept a valid) n = omega arith in
          record {
            closing = λ c. let q = closing_place (cells_end new) (length (kept a valid)) n (cells_end_is a valid) c in absurd (omega (arith, q, l, k));
            sum = λ _. subst (λ o. IfSome o (λ sum. x ≡ sum)) (sym (sum_is (entries_of new) entries_in (kept a valid) (widths a valid) n (omega (arith, l, k)))) (same ∙ ap (λ w. pos w) none);
          }

  cell_entries : FirstWrong new the.CellEntries None
  cell_entries = right_of new the.CellEntries
      (let n = length-append (places_from 0 (kept a valid)) (pos 0 ∷ []) in let k = places_length (kept a valid) 0 in let q = asks_length a valid in omega (arith, n, k, q))
      (λ i. if_at new.cell_entries i (CellEntrySays new i) (place_says i))

  -- ---- arrays by entry

  entry_of_element : (g : ℕ × ℕ → ℤ) (n : ℕ) (x : ℤ) → slice_get (flat_map (λ c. map g (entries_in c)) (kept a valid) ++ pos 0 ∷ []) n ≡ Some x
      → ((e : ℕ × ℕ) × (slice_get (entries a valid) n ≡ Some e) × (x ≡ g e)) ⊎ ((n ≡ length (entries a valid)) × (x ≡ pos 0))
  entry_of_element g n x e = by (data_of (flat_map (λ c. map g (entries_in c)) (kept a valid)) n x (pos 0) e)
    where
      by : (slice_get (flat_map (λ c. map g (entries_in c)) (kept a valid)) n ≡ Some x) ⊎ ((n ≡ length (flat_map (λ c. map g (entries_in c)) (kept a valid))) × (x ≡ pos 0))
          → ((e : ℕ × ℕ) × (slice_get (entries a valid) n ≡ Some e) × (x ≡ g e)) ⊎ ((n ≡ length (entries a valid)) × (x ≡ pos 0))
      by (inl h) = inl (at_map g (entries a valid) n x (sym (ap (λ w. slice_get w n) (by_entry a valid g)) ∙ h))
      by (inr h) = inr (h.0 ∙ ap (λ (w : List ℤ). length w) (by_entry a valid g) ∙ length-map (entries a valid) g, h.1)

  element_of_entry : (g : ℕ × ℕ → ℤ) (n : ℕ) (e : ℕ × ℕ) → slice_get (entries a valid) n ≡ Some e → slice_get (flat_map (λ c. map g (entries_in c)) (kept a valid) ++ pos 0 ∷ []) n ≡ Some (g e)
  element_of_entry g n e h =
      front_get (flat_map (λ c. map g (entries_in c)) (kept a valid)) (pos 0 ∷ []) n (g e) (ap (λ w. slice_get w n) (by_entry a valid g) ∙ slice_get-map g (entries a valid) n ∙ ap (option_map g) h)

  not_closing : (n : ℕ) (e : ℕ × ℕ) → slice_get (entries a valid) n ≡ Some e → IsClosing (entries_end new) n → ⊥
  not_closing n e at c = let q = closing_place (entries_end new) (length (entries a valid)) n (new_entries_end a valid) c in let l = slice_get_within (entries a valid) n e at in omega (arith, q, l)

  -- ---- targets

  target_moves : (s : ℕ) (x : ℤ) → TargetOf a s x → TargetOf new s x
  target_moves s x t = record { plain = t.plain; inner = t.inner; home = t.home }

  -- a target of a state is one of it among the old entries
  target_fits : (n : ℕ) (e : ℕ × ℕ) → slice_get (entries a valid) n ≡ Some e → (s : ℕ) → IsEntryOf new s n → TargetOf new s (pos e.0)
  target_fits n e at s h =
      let q = entry_of_state a valid s n h in
      let o = q.old_one in
      let same : q.entry ≡ e = let t = q.there in cc in
      let old_says = old_target a valid o.place o.within in
      let is : pos (number_at a.trans_targs o.place) ≡ pos q.entry.0 = let t = old_says.1 in let u = o.target in cc in
      target_moves s (pos e.0) (subst (λ (z : ℕ × ℕ). TargetOf a s (pos z.0)) same (subst (TargetOf a s) is (old_says.0.kinds s q.of_state)))

  some_state : 0 < states a
  some_state = let e = has-due a valid the.KeyOffsets in omega (arith, e)

  target_says : (n : ℕ) (x : ℤ) → slice_get new.trans_targs n ≡ Some x → TargetSays new n x
  target_says n x e = by (entry_of_element (λ e. pos e.0) n x e)
    where
      by : ((e : ℕ × ℕ) × (slice_get (entries a valid) n ≡ Some e) × (x ≡ pos e.0)) ⊎ ((n ≡ length (entries a valid)) × (x ≡ pos 0)) → TargetSays new n x
      by (inl p) =
          let o = old_entry a valid n p.0 p.1 in
          let old_says = old_target a valid o.place o.within in
          let is : pos (number_at a.trans_targs o.place) ≡ pos p.0.0 = let t = old_says.1 in let u = o.target in cc in
          let says = subst (TargetSays a o.place) is old_says.0 in
          subst (TargetSays new n) (sym p.2) (record {
            closing = λ c. absurd (not_closing n p.0 p.1 c);
            state = says.state;
            kinds = target_fits n p.0 p.1;
          })
      by (inr h) = subst (TargetSays new n) (sym h.1) (record {
        closing = λ _. refl;
        state = (not_negative 0, lt_pos 0 (states a) some_state);
        kinds = λ s k. (let q = entry_of_state a valid s n k in let l = slice_get_within (entries a valid) n q.entry q.there in let z = h.0 in absurd (omega (arith, l, z)));
      })

  trans_targs : FirstWrong new the.TransTargs None
  trans_targs = right_of new the.TransTargs (due_is (entries_end new) (length (entries a valid)) (length new.trans_targs) (new_entries_end a valid) (array_length a valid (λ e. pos e.0)))
      (λ i. if_at new.trans_targs i (TargetSays new i) (target_says i))

  -- ---- the lists of steps

  -- the empty list is one
  no_list : IsList a.actions (pos 0)
  no_list =
      let len = targets_length a valid in
      let r = right a valid the.TransLists (entry_count a valid) (omega (arith, len)) in
      let x = element a.trans_lists (entry_count a valid) r.there in
      let says = old_elements.if_at a.trans_lists (entry_count a valid) x.0 (StepListSays a (entry_count a valid)) x.1 r.says in
      subst (IsList a.actions) (says.closing (entries_end_is a valid)) says.list

  list_says : (n : ℕ) (x : ℤ) → slice_get new.trans_lists n ≡ Some x → StepListSays new n x
  list_says n x e = by (entry_of_element (λ e. pos e.1) n x e)
    where
      by : ((e : ℕ × ℕ) × (slice_get (entries a valid) n ≡ Some e) × (x ≡ pos e.1)) ⊎ ((n ≡ length (entries a valid)) × (x ≡ pos 0)) → StepListSays new n x
      by (inr h) = subst (StepListSays new n) (sym h.1) (record { closing = λ _. refl; list = no_list; stays = λ _. refl })
      by (inl p) =
          let o = old_entry a valid n p.0 p.1 in
          let old_says = old_list a valid o.place o.within in
          let is : pos (number_at a.trans_lists o.place) ≡ pos p.0.1 = let t = old_says.1 in let u = o.list in cc in
          let says = subst (StepListSays a o.place) is old_says.0 in
          let there : slice_get new.trans_targs n ≡ Some (pos p.0.0) = element_of_entry (λ e. pos e.0) n p.0 p.1 in
          subst (StepListSays new n) (sym p.2) (record {
            closing = λ c. absurd (not_closing n p.0 p.1 c);
            list = says.list;
            stays = λ t. says.stays (o.target ∙ sym there ∙ t);
          })

  trans_lists : FirstWrong new the.TransLists None
  trans_lists = right_of new the.TransLists (array_length a valid (λ e. pos e.0) ∙ sym (array_length a valid (λ e. pos e.1))) (λ i. if_at new.trans_lists i (StepListSays new i) (list_says i))

  -- ---- how many statements an action has

  -- an action that a step of a state lists is listed by an old one
  listed_before : (s n k : ℕ) → IsEntryOf new s n → IsListed new new.trans_lists n k → (m : ℕ) × IsEntryOf a s m × IsListed a a.trans_lists m k
  listed_before s n k h listed =
      let q = entry_of_state a valid s n h in
      let o = q.old_one in
      let here : slice_get new.trans_lists n ≡ Some (pos q.entry.1) = element_of_entry (λ e. pos e.1) n q.entry q.there in
      let has : Contains (members a.actions q.entry.1) k = subst (λ w. IsSomeAnd w (λ number. Contains (members a.actions (natural number)) k)) here listed in
      (o.place, q.of_state, is_at a.trans_lists o.place (pos q.entry.1) (λ number. Contains (members a.actions (natural number)) k) o.list has)

  count_says : (k : ℕ) (n : ℤ) → CountSays a k n → CountSays new k n
  count_says k n r = record {
    positive = r.positive;
    none = r.none;
    from = r.from;
    to = r.to;
    inner = λ s e h kind listed. let q = listed_before s e k h listed in r.inner s q.0 q.1 kind q.2;
    few = r.few;
  }

  stmt_counts : FirstWrong new the.StmtCounts None
  stmt_counts = moved a (kept a valid) (used a valid) valid the.StmtCounts refl refl (λ i. if_more (slice_get a.stmt_counts i) (CountSays a i) (CountSays new i) (count_says i))

  -- ---- all

  each : (array : ArrayName) → FirstWrong new array None
  each the.Actions = stays.actions a (kept a valid) (used a valid) valid
  each the.KeyOffsets = stays.key_offsets a (kept a valid) (used a valid) valid
  each the.TransKeys = stays.trans_keys a (kept a valid) (used a valid) valid
  each the.SingleLengths = stays.single_lengths a (kept a valid) (used a valid) valid
  each the.RangeLengths = stays.range_lengths a (kept a valid) (used a valid) valid
  each the.CellOffsets = stays.cell_offsets a (kept a valid) (used a valid) valid
  each the.CellUses = cell_uses
  each the.CellAsks = cell_asks
  each the.CellEntries = cell_entries
  each the.TransTargs = trans_targs
  each the.TransLists = trans_lists
  each the.FromLists = stays.from_lists a (kept a valid) (used a valid) valid
  each the.ToLists = stays.to_lists a (kept a valid) (used a valid) valid
  each the.EofLists = stays.eof_lists a (kept a valid) (used a valid) valid
  each the.ErrorLists = stays.error_lists a (kept a valid) (used a valid) valid
  each the.AcceptLists = stays.accept_lists a (kept a valid) (used a valid) valid
  each the.StateKinds = stays.state_kinds a (kept a valid) (used a valid) valid
  each the.Homes = stays.homes a (kept a valid) (used a valid) valid
  each the.ActionNames = stays.action_names a (kept a valid) (used a valid) valid
  each the.StmtFirsts = stays.stmt_firsts a (kept a valid) (used a valid) valid
  each the.StmtCounts = stmt_counts
  each the.StmtKinds = stays.stmt_kinds a (kept a valid) (used a valid) valid
  each the.StmtOuter = stays.stmt_outer a (kept a valid) (used a valid) valid
  each the.StmtArgs = stays.stmt_args a (kept a valid) (used a valid) valid
  each the.StmtBases = stays.stmt_bases a (kept a valid) (used a valid) valid
  each the.CondNames = stays.cond_names a (kept a valid) (used a valid) valid
  each the.EntryNames = stays.entry_names a (kept a valid) (used a valid) valid
  each the.EntryStates = stays.entry_states a (kept a valid) (used a valid) valid

  pub upgraded_valid : Valid (upgraded a)
  unfolding upgraded
  upgraded_valid = record { version = (omega (arith, ints), omega (arith, ints)); each = each }
