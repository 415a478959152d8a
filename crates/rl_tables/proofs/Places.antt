-- The entry that is found for a key is one of a cell that its state uses.
use Rattle.std.proofs.Common.{◌≡◌, ℕ, ◌+◌, ◌-◌, ◌*◌, ◌^◌, ◌<◌, ◌≤◌, Bool, true, false, List, length, drop, Option, Some, None, refl, sym, ◌∙◌, ap, subst, arith, nat_lt}
use Rattle.std.proofs.lemmas.Bool.Decides.{nat_tests}
use Rattle.std.proofs.lemmas.Int.{ints}
use Rattle.std.proofs.lemmas.List.{length-take}
use Rattle.std.proofs.lemmas.List.Quantifiers.{position-Some}
use Rattle.std.proofs.lemmas.Option.{slice_get_past}
use Rattle.std.proofs.Math.Nat.{pow-le-pow_right}
use Rattle.std.specs.Prelude.{ℤ, pos, ◌≤ℤ◌, ◌<ℤ◌, slice_get, option_and_then, count_ones, max, if◌then◌else◌}
use Rattle.std.specs.Option.{option_map, option_or}
use Rattle.std.specs.List.{position}
use Rattle.std.specs.Ordering.{int_eq}
use Rattle.rl_arrays.specs.declared.arrays.Arrays.{Arrays}
use Rattle.rl_arrays.specs.declared.arrays.ArrayName.TheVariants as the
use Rattle.rl_arrays.specs.Words.{natural, number_at, sum_before}
use Rattle.rl_arrays.specs.Sizes.{states, shares, conditions, uses_of, entries_of, used_cell, uses_end, cells_end, one_more, IsClosing, IsEntryOf}
use Rattle.rl_arrays.specs.Rules.{LengthSays, IsSum, UseSays, AskSays, CellEntrySays}
use Rattle.rl_arrays.specs.Valid.{Valid, Right}
use Rattle.rl_arrays.specs.TableMachine.{single_keys, range_ends, range_of, cell_within, cell_used, cell_of, asked_bits, entry_number, entry_of}
use Rattle.rl_tables.proofs.Elements.{right, has-due, element, if_at, number-at, number_none, nonneg, pos-≤, pos-<}
use Rattle.rl_tables.proofs.Totals.{total, total-suc, total-<, sum-pos}
use Rattle.rl_tables.proofs.Asked.{range-within, entry_within}

some_same : {X : Type 0} (x y : X) → Some x ≡ Some y → x ≡ y
some_same x y e = cc

none_some : {X Y : Type 0} (x : X) → None ≡ Some x → Y
none_some {X} x e = absurd (no e)
  where
    no : None ≡ Some x → ⊥
    no e = cc

-- where an option is mapped to something, it is something
pub map_some : {X Y : Type 0} (f : X → Y) (o : Option X) (y : Y) → option_map f o ≡ Some y → (x : X) × (o ≡ Some x) × (f x ≡ y)
map_some f None y e = none_some y e
map_some f (Some x) y e = (x, refl, some_same (f x) y e)

pub then_some : {X Y : Type 0} (f : X → Option Y) (o : Option X) (y : Y) → option_and_then f o ≡ Some y → (x : X) × (o ≡ Some x) × (f x ≡ Some y)
then_some f None y e = none_some y e
then_some f (Some x) y e = (x, refl, e)

module _ (a : Arrays) (valid : Valid a) where
  -- numbers of keys are not negative
  length_at : (xs : List ℤ) (s : ℕ) → s < length xs → ((x : ℤ) → slice_get xs s ≡ Some x → pos 0 ≤ℤ x) → slice_get xs s ≡ Some (pos (number_at xs s))
  length_at xs s h p =
      let x = element xs s h in
      let e = nonneg x.0 (p x.0 x.1) in
      let n = number-at xs s x.0 x.1 in
      x.1 ∙ ap Some e ∙ ap (λ k. Some (pos k)) (sym n)

  singles_at : (s : ℕ) → s < states a → slice_get a.single_lengths s ≡ Some (pos (number_at a.single_lengths s))
  singles_at s h =
      let r = right a valid the.SingleLengths s h in
      length_at a.single_lengths s r.there (λ x e. (if_at a.single_lengths s x (LengthSays a s) e r.says).positive)

  ranges_at : (s : ℕ) → s < states a → slice_get a.range_lengths s ≡ Some (pos (number_at a.range_lengths s))
  ranges_at s h =
      let r = right a valid the.RangeLengths s h in
      length_at a.range_lengths s r.there (λ x e. (if_at a.range_lengths s x (LengthSays a s) e r.says).positive)

  -- how many cells a state uses
  abbrev pub uses : ℕ → ℕ
  uses s = number_at a.single_lengths s + number_at a.range_lengths s

  uses_are : (s : ℕ) → s < states a → uses_of a s ≡ Some (pos (uses s))
  uses_are s h = rw (singles_at s h, ranges_at s h) refl

  uses_sum : (i : ℕ) → i ≤ states a → sum_before (uses_of a) i ≡ Some (pos (total uses i))
  uses_sum i h = sum-pos (uses_of a) uses (states a) uses_are i h

  abbrev pub use_count : ℕ
  use_count = total uses (states a)

  uses_end_is : uses_end a ≡ Some (pos use_count)
  uses_end_is = uses_sum (states a) (omega arith)

  -- the cells: each use's own, or those that are shared
  pub record Shared : Type 0 where
    pub cells : ℕ
    pub cells_are : cells_end a ≡ Some (pos cells)
    pub asks : length a.cell_asks ≡ cells + 1
    pub used : (p : ℕ) → p < use_count → used_cell a p ≡ Some (pos (cell_used a p))
    pub within : (p : ℕ) → p < use_count → cell_used a p < cells

  one_more_is : (end : Option ℤ) (n has : ℕ) → end ≡ Some (pos n) → one_more end has ≡ n + 1
  one_more_is end n has e = rw e refl

  own_cells : shares a ≡ false → Shared
  own_cells e =
      let same : cells_end a ≡ Some (pos use_count) = rw e uses_end_is in record {
        cells = use_count;
        cells_are = same;
        asks = has-due a valid the.CellAsks ∙ one_more_is (cells_end a) use_count (length a.cell_asks) same;
        used = λ p h. rw e refl;
        within = λ p h. rw e h;
      }

  shared_cells : shares a ≡ true → Shared
  shared_cells e =
      let few = length a.cell_asks - 1 in
      let same : cells_end a ≡ Some (pos few) = rw e refl in
      record {
        cells = few;
        cells_are = same;
        asks = has-due a valid the.CellAsks ∙ one_more_is (cells_end a) few (length a.cell_asks) same;
        used = λ p h. (let is = (use_of p h).0 in rw e is);
        within = λ p h. (let less = (use_of p h).1 in rw e less);
      }
    where
      due_uses : length a.cell_uses ≡ use_count + 1
      due_uses =
          let due : length a.cell_uses ≡ (if shares a then one_more (uses_end a) (length a.cell_uses) else 0) = has-due a valid the.CellUses in
          let all : length a.cell_uses ≡ one_more (uses_end a) (length a.cell_uses) = rw e at due in
          all ∙ one_more_is (uses_end a) use_count (length a.cell_uses) uses_end_is

      not_last : (p : ℕ) → p < use_count → IsClosing (uses_end a) p → ⊥
      not_last p h f =
          let same : pos use_count ≡ pos p = some_same (pos use_count) (pos p) (sym uses_end_is ∙ f) in
          let number : use_count ≡ p = ap natural same in
          omega arith

      use_of : (p : ℕ) → p < use_count → (slice_get a.cell_uses p ≡ Some (pos (number_at a.cell_uses p))) × (number_at a.cell_uses p < length a.cell_asks - 1)
      use_of p h =
          let len = due_uses in
          let whole = has-due a valid the.CellUses in
          let r = right a valid the.CellUses p (omega arith) in
          let x = element a.cell_uses p r.there in
          let says = if_at a.cell_uses p x.0 (UseSays a p) x.1 r.says in
          let few = says.known (not_last p h) in
          let number = nonneg x.0 says.positive in
          let n = number-at a.cell_uses p x.0 x.1 in
          (x.1 ∙ ap Some number ∙ ap (λ k. Some (pos k)) (sym n), omega (arith, ints, n, number, few))

  pub shared_by : (b : Bool) → shares a ≡ b → Shared
  shared_by false e = own_cells e
  shared_by true e = shared_cells e

  abbrev pub shared : Shared
  shared = shared_by (shares a) refl

  asks_due : (c : ℕ) → c < length a.cell_asks → Right a the.CellAsks c
  asks_due c h = right a valid the.CellAsks c (let e = has-due a valid the.CellAsks in omega arith)

  entries_due : (c : ℕ) → c < length a.cell_asks → Right a the.CellEntries c
  entries_due c h = right a valid the.CellEntries c h

  -- how many entries a cell has
  abbrev pub entries : ℕ → ℕ
  entries c = 2 ^ count_ones (number_at a.cell_asks c)

  entries_are : (c : ℕ) → c < length a.cell_asks → entries_of a c ≡ Some (pos (entries c))
  entries_are c h =
      let x = element a.cell_asks c h in
      rw x.1 refl

  entries_sum : (i : ℕ) → i ≤ length a.cell_asks → sum_before (entries_of a) i ≡ Some (pos (total entries i))
  entries_sum i h = sum-pos (entries_of a) entries (length a.cell_asks) entries_are i h

  -- the place of a state's first use
  offset_is : (s : ℕ) → s < states a → number_at a.cell_offsets s ≡ total uses s
  offset_is s h =
      let r = right a valid the.CellOffsets s h in
      let x = element a.cell_offsets s r.there in
      let says = if_at a.cell_offsets s x.0 (IsSum (uses_of a) s) x.1 r.says in
      let sum : x.0 ≡ pos (total uses s) = rw (uses_sum s (omega arith)) at says in
      number-at a.cell_offsets s x.0 x.1 ∙ ap natural sum

  within_state : (s : ℕ) (key : ℤ) (i : ℕ) → cell_within a s key ≡ Some i → i < uses s
  within_state s key i e = go (position (int_eq key) (single_keys a s)) refl e
    where
      single : (i : ℕ) → position (int_eq key) (single_keys a s) ≡ Some i → i < number_at a.single_lengths s + number_at a.range_lengths s
      single i f =
          let w = position-Some (int_eq key) (single_keys a s) i (pos 0) f in
          let l = length-take (number_at a.single_lengths s) (drop (number_at a.key_offsets s) a.trans_keys) in
          let few = w.0 in
          omega (arith, l, few)

      range : (i : ℕ) → option_map (λ r. number_at a.single_lengths s + r) (range_of key (range_ends a s)) ≡ Some i → i < number_at a.single_lengths s + number_at a.range_lengths s
      range i f =
          let r = map_some (λ r. number_at a.single_lengths s + r) (range_of key (range_ends a s)) i f in
          let w = range-within key (range_ends a s) r.0 r.1 in
          let l = length-take (2 * number_at a.range_lengths s) (drop (number_at a.key_offsets s + number_at a.single_lengths s) a.trans_keys) in
          let same = r.2 in
          omega (arith, l, w, same)

      go : (o : Option ℕ) → position (int_eq key) (single_keys a s) ≡ o → option_or o (option_map (λ r. number_at a.single_lengths s + r) (range_of key (range_ends a s))) ≡ Some i → i < number_at a.single_lengths s + number_at a.range_lengths s
      go None f e = range i e
      go (Some k) f e = let same : k ≡ i = some_same k i e in subst (λ j. j < number_at a.single_lengths s + number_at a.range_lengths s) same (single k f)

  -- a state that uses a cell exists
  exists : (s i : ℕ) → i < uses s → s < states a
  exists s i h = go (nat_lt s (states a)) refl
    where
      go : (b : Bool) → nat_lt s (states a) ≡ b → s < states a
      go true f = grind (arith, nat_tests)
      go false f =
          let past : states a ≤ s = grind (arith, nat_tests) in
          let m = has-due a valid the.SingleLengths in
          let n = has-due a valid the.RangeLengths in
          let no_single = number_none a.single_lengths s (slice_get_past a.single_lengths s (omega arith)) in
          let no_range = number_none a.range_lengths s (slice_get_past a.range_lengths s (omega arith)) in
          absurd (omega arith)

  -- the use of a key in a state, and its cell
  pub record Found (s c : ℕ) : Type 0 where
    pub place : ℕ
    pub state : s < states a
    pub from : total uses s ≤ place
    pub to : place < total uses (s + 1)
    pub behind : place < use_count
    pub cell : cell_used a place ≡ c
    pub of_use : used_cell a place ≡ Some (pos c)
    pub within : c < shared.cells

  pub found_at : (s : ℕ) (key : ℤ) (i : ℕ) → cell_within a s key ≡ Some i → Found s (cell_used a (number_at a.cell_offsets s + i))
  found_at s key i e =
      let few = within_state s key i e in
      let there = exists s i few in
      let offset = offset_is s there in
      let next = total-suc uses s in
      let far = total-< uses s (states a) there in
      let behind : number_at a.cell_offsets s + i < use_count = omega arith in
      record {
        place = number_at a.cell_offsets s + i;
        state = there;
        from = omega arith;
        to = omega arith;
        behind = behind;
        cell = refl;
        of_use = shared.used (number_at a.cell_offsets s + i) behind;
        within = shared.within (number_at a.cell_offsets s + i) behind;
      }

  pub cell_is : (s : ℕ) (key : ℤ) (c : ℕ) → cell_of a s key ≡ Some c → Found s c
  cell_is s key c e =
      let i = map_some (λ i. cell_used a (number_at a.cell_offsets s + i)) (cell_within a s key) c e in
      subst (Found s) i.2 (found_at s key i.0 i.1)

  pub cell_there : (s : ℕ) (key : ℤ) (c : ℕ) → cell_of a s key ≡ Some c → c < length a.cell_asks
  cell_there s key c e = let less = (cell_is s key c e).within in let len = shared.asks in omega arith

  -- the place of a use has room
  pub use_there : (s : ℕ) (key : ℤ) (i : ℕ) → cell_within a s key ≡ Some i → number_at a.cell_offsets s + i < max (length a.cell_asks) (length a.cell_uses)
  use_there s key i e =
      let few = within_state s key i e in
      let there = exists s i few in
      let offset = offset_is s there in
      let far = total-< uses s (states a) there in
      let behind : number_at a.cell_offsets s + i < use_count = omega arith in
      go (shares a) refl behind
    where
      go : (b : Bool) → shares a ≡ b → number_at a.cell_offsets s + i < use_count → number_at a.cell_offsets s + i < max (length a.cell_asks) (length a.cell_uses)
      go false e h =
          let same : cells_end a ≡ Some (pos use_count) = rw e uses_end_is in
          let len = has-due a valid the.CellAsks ∙ one_more_is (cells_end a) use_count (length a.cell_asks) same in
          omega arith
      go true e h =
          let due : length a.cell_uses ≡ (if shares a then one_more (uses_end a) (length a.cell_uses) else 0) = has-due a valid the.CellUses in
          let all : length a.cell_uses ≡ one_more (uses_end a) (length a.cell_uses) = rw e at due in
          let len = all ∙ one_more_is (uses_end a) use_count (length a.cell_uses) uses_end_is in
          omega arith

  -- the asked conditions of a cell are few
  asks_few : (c : ℕ) → c < length a.cell_asks → number_at a.cell_asks c < 256
  asks_few c h =
      let r = asks_due c h in
      let x = element a.cell_asks c r.there in
      let known = (if_at a.cell_asks c x.0 (AskSays a c) x.1 r.says).known in
      let few : length a.cond_names ≤ 9 = let e = has-due a valid the.CondNames in omega (arith, e) in
      let fits : conditions a ≤ 8 = omega (arith, few) in
      let two : 0 < 2 = omega arith in
      let small : 2 ^ conditions a ≤ 2 ^ 8 = pow-le-pow_right {n = 2} two {i = conditions a} {j = 8} fits in
      let same = number-at a.cell_asks c x.0 x.1 in
      omega (arith, same, known, small)

  pub asks_byte : (c : ℕ) → c < length a.cell_asks → number_at a.cell_asks c < 256
  asks_byte c h = asks_few c h

  first_entry : (c : ℕ) → c < shared.cells → number_at a.cell_entries c ≡ total entries c
  first_entry c h =
      let len = shared.asks in
      let r = entries_due c (omega arith) in
      let x = element a.cell_entries c r.there in
      let says = if_at a.cell_entries c x.0 (CellEntrySays a c) x.1 r.says in
      let open_cell : IsClosing (cells_end a) c → ⊥ = λ e. not_last shared.cells_are e in
      let sum : x.0 ≡ pos (total entries c) = rw (entries_sum c (omega arith)) at (says.sum open_cell) in
      number-at a.cell_entries c x.0 x.1 ∙ ap natural sum
    where
      not_last : cells_end a ≡ Some (pos shared.cells) → cells_end a ≡ Some (pos c) → ⊥
      not_last e f =
          let same : pos shared.cells ≡ pos c = some_same (pos shared.cells) (pos c) (sym e ∙ f) in
          let number : shared.cells ≡ c = ap natural same in
          omega arith

  pub entry_is : (s : ℕ) (key : ℤ) (hold e : ℕ) → entry_of a s key hold ≡ Some e → IsEntryOf a s e × (e < length a.trans_targs)
  entry_is s key hold e f =
      let c = map_some (λ c. number_at a.cell_entries c + entry_number (asked_bits (number_at a.cell_asks c)) hold) (cell_of a s key) e f in
      let cell = cell_is s key c.0 c.1 in
      let inside = cell.within in
      let len = shared.asks in
      let few = entry_within (number_at a.cell_asks c.0) hold (asks_few c.0 (omega arith)) in
      let begins = first_entry c.0 inside in
      let is = c.2 in
      let next = total-suc entries c.0 in
      let low : total entries c.0 ≤ e = omega (arith, begins, is) in
      let high : e < total entries (c.0 + 1) = upper c.0 e few begins is next in (
        record {
          place = cell.place;
          cell = c.0;
          state = cell.state;
          of_state = record {
            from = rw (uses_sum s (omega (arith, cell.state))) (pos-≤ (total uses s) cell.place cell.from);
            to = rw (uses_sum (s + 1) (omega (arith, cell.state))) (pos-< cell.place (total uses (s + 1)) cell.to);
          };
          of_use = cell.of_use;
          of_cell = record {
            from = rw (entries_sum c.0 (omega arith)) (pos-≤ (total entries c.0) e low);
            to = rw (entries_sum (c.0 + 1) (omega arith)) (pos-< e (total entries (c.0 + 1)) high);
          };
        },
        within c.0 e high inside,
      )
    where
      upper : (c e : ℕ) → entry_number (asked_bits (number_at a.cell_asks c)) hold < 2 ^ count_ones (number_at a.cell_asks c) → number_at a.cell_entries c ≡ total entries c →
          number_at a.cell_entries c + entry_number (asked_bits (number_at a.cell_asks c)) hold ≡ e → total entries (c + 1) ≡ total entries c + entries c → e < total entries (c + 1)
      upper c e few begins is next = omega arith

      within : (c e : ℕ) → e < total entries (c + 1) → c < shared.cells → e < length a.trans_targs
      within c e h l =
          let len = shared.asks in
          let next = total-suc entries c in
          let far = total-< entries c shared.cells l in
          let whole = has-due a valid the.TransTargs in
          let due : length a.trans_targs ≡ total entries shared.cells + 1 = rw (shared.cells_are, entries_sum shared.cells (omega arith)) at whole in
          omega arith
