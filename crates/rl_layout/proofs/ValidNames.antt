-- The arrays of names, and of the entries' states, are right.
use Rattle.std.proofs.Common.{◌≡◌, ◌≢◌, ℕ, zero, suc, ◌+◌, ◌<◌, ◌≤◌, max, min, Bool, false, true≢false, cond, ℤ, pos, List, [], ◌∷◌, length, map, Option, Some, None, refl, sym, ap, ◌∙◌, subst, arith, IsTrue, codes, inl, inr}
use Rattle.std.specs.Prelude.{slice_get, position, unwrap_or}
use Rattle.std.specs.List.{AllByRecursion}
use Rattle.std.specs.Option.{option_map, option_map_or}
use Rattle.std.specs.Str.{bytes_eq}
use Rattle.std.proofs.lemmas.Option.{slice_get-map}
use Rattle.std.proofs.lemmas.List.{length-map}
use Rattle.std.proofs.lemmas.List.Elements.{recursion_from_All}
use Rattle.std.proofs.lemmas.Bool.{cases_eq}
use Rattle.rl_types.specs.declared.alphabet.Alphabet.{Alphabet}
use Rattle.rl_types.specs.declared.alphabet.Alphabet.TheVariants.{Char, UnsignedChar, Short, UnsignedShort, Int, UnsignedInt}
use Rattle.rl_types.specs.declared.numbers.ActionId.{ActionId}
use Rattle.rl_sets.specs.Sets.{In}
use Rattle.rl_automata.specs.Refused.{AreDifferent}
use Rattle.rl_arrays.specs.declared.arrays.Arrays.{Arrays}
use Rattle.rl_arrays.specs.declared.arrays.ArrayName.TheVariants as the
use Rattle.rl_arrays.specs.Words.{IfAt, IsBetween}
use Rattle.rl_arrays.specs.Names.{is_name, is_action_name}
use Rattle.rl_arrays.specs.Sizes.{states}
use Rattle.rl_arrays.specs.Rules.{NameSays, EntrySays, HeadRight, start_entry}
use Rattle.rl_arrays.specs.Valid.{FirstWrong}
use Rattle.rl_model.specs.declared.spec.ActionDef.{ActionDef}
use Rattle.rl_model.specs.declared.spec.Entry.{Entry}
use Rattle.rl_model.specs.declared.spec.Spec.{Spec}
use Rattle.rl_model.specs.WellFormed.{IsWellFormed, IsNumber}
use Rattle.rl_minimal.specs.declared.state.MinState.{MinState}
use Rattle.rl_minimal.specs.Minimal.{Minimal}
use Rattle.rl_minimal.specs.Sound.{IsMinimal, IsEntry}
use Rattle.rl_layout.specs.Books.{lists_of, order_of}
use Rattle.rl_layout.specs.SpecArrays.{name_of, alphabet_number, start_place}
use Rattle.rl_layout.specs.Layout.{arrays_laid}
use Rattle.rl_layout.specs.Fits.{Fits}
use Rattle.rl_layout.proofs.ListLaws.{all_at, position-cons, next_get}
use Rattle.rl_layout.proofs.Segments.{map_map}
use Rattle.rl_layout.proofs.NumberLaws.{different_at, different_within, order_differs, order_own}
use Rattle.rl_layout.proofs.SumLaws.{element}
use Rattle.rl_layout.proofs.ValidBase.{at_map, if_at, right_of, not_negative, le_pos, lt_pos, states_are, kind_may}

-- ---- names of numbered actions

-- the action of a number
named : (actions : List ActionDef) (x : ℕ) → IsNumber (length actions) x → (j : ℕ) × (y : ActionDef) × (x ≡ suc j) × (slice_get actions j ≡ Some y) × (name_of actions x ≡ y.name)
named actions zero n = absurd (let l = n.0 in omega (arith, l))
named actions (suc j) n = let y = element actions j (let l = n.1 in omega (arith, l)) in (j, y.0, refl, y.1, ap (λ o. option_map_or (λ (z : ActionDef). z.name) o []) y.1)

name_at : (actions : List ActionDef) (j : ℕ) (y : ActionDef) → slice_get actions j ≡ Some y → slice_get (map (λ (a : ActionDef). a.name) actions) j ≡ Some y.name
name_at actions j y e = slice_get-map (λ (a : ActionDef). a.name) actions j ∙ ap (option_map (λ (a : ActionDef). a.name)) e

same_name : (actions : List ActionDef) → AreDifferent (map (λ (a : ActionDef). a.name) actions) → (x z : ℕ) → IsNumber (length actions) x → IsNumber (length actions) z → name_of actions x ≡ name_of actions z → x ≡ z
same_name actions d x z n k e =
    let p = named actions x n in
    let q = named actions z k in
    let names : p.1.name ≡ q.1.name = sym p.4 ∙ e ∙ q.4 in
    let same : p.0 ≡ q.0 = different_at (map (λ (a : ActionDef). a.name) actions) p.0 q.0 p.1.name d (name_at actions p.0 p.1 p.3) (name_at actions q.0 q.1 q.3 ∙ ap (λ w. Some w) (sym names)) in
    p.2 ∙ ap (λ w. suc w) same ∙ sym q.2

-- a name of a form is not empty
not_empty : (is_formed : List ℕ → Bool) → is_formed [] ≡ false → (name : List ℕ) → IsTrue (is_formed name) → [] ≡ name → ⊥
not_empty f none name h e = true≢false (sym h ∙ ap f (sym e) ∙ none)

-- names behind an empty one
names_say : (is_formed : List ℕ → Bool) (names : List (List ℕ)) → is_formed [] ≡ false → AllByRecursion (λ name. IsTrue (is_formed name)) names → ((i j : ℕ) (name : List ℕ) → slice_get names i ≡ Some name → slice_get names j ≡ Some name → i ≡ j)
    → (i : ℕ) (name : List ℕ) → slice_get ([] ∷ names) i ≡ Some name → NameSays is_formed ([] ∷ names) i name
names_say f names none all apart zero name e = record { empty = λ _. (let s : name ≡ [] = cc in s); formed = λ l. absurd (omega arith); new = λ k l. absurd (omega arith) }
names_say f names none all apart (suc i) name e = record { empty = λ z. absurd (omega arith); formed = λ _. formed; new = new }
  where
    formed : IsTrue (f name)
    formed = all_at (λ name. IsTrue (f name)) names i name all e

    new : (k : ℕ) → k < suc i → slice_get ([] ∷ names) k ≢ Some name
    new zero l h = not_empty f none name formed (let s : [] ≡ name = cc in s)
    new (suc k) l h = let same : k ≡ i = apart k i name h e in omega (arith, same, l)

-- so many numbers from one on
abbrev numbers_from : ℕ → ℕ → List ℕ
numbers_from k zero = []
numbers_from k (suc n) = k ∷ numbers_from (suc k) n

module _ (spec : Spec) (m : Minimal) (sound : IsMinimal m) (well : IsWellFormed spec) (fits : Fits spec m) where
  abbrev pub lists : List (List ActionId)
  lists = lists_of m.states

  abbrev pub order : List ℕ
  order = order_of lists

  abbrev pub a : Arrays
  a = arrays_laid spec lists order m

  -- the names of different actions
  formed_all : (ns : List ℕ) → AllByRecursion (IsNumber (length spec.actions)) ns → AllByRecursion (λ name. IsTrue (is_action_name name)) (map (name_of spec.actions) ns)
  formed_all [] all = tt
  formed_all (n ∷ ns) all =
      let p = named spec.actions n all.0 in
      (subst (λ w. IsTrue (is_action_name w)) (sym p.4) (all_at (λ (y : ActionDef). IsTrue (is_action_name y.name)) spec.actions p.0 p.1 (recursion_from_All (λ (y : ActionDef). IsTrue (is_action_name y.name)) spec.actions well.action_names) p.3), formed_all ns all.1)

  apart_all : (ns : List ℕ) → AllByRecursion (IsNumber (length spec.actions)) ns → AreDifferent ns → (i j : ℕ) (name : List ℕ) → slice_get (map (name_of spec.actions) ns) i ≡ Some name → slice_get (map (name_of spec.actions) ns) j ≡ Some name → i ≡ j
  apart_all ns all d i j name e h =
      let p = at_map (name_of spec.actions) ns i name e in
      let q = at_map (name_of spec.actions) ns j name h in
      let same : p.0 ≡ q.0 = same_name spec.actions well.actions_differ p.0 q.0 (all_at (IsNumber (length spec.actions)) ns i p.0 all p.1) (all_at (IsNumber (length spec.actions)) ns j q.0 all q.1) (sym p.2 ∙ q.2) in
      different_at ns i j p.0 d p.1 (q.1 ∙ ap (λ w. Some w) (sym same))

  -- no more actions have numbers than there are
  few : length order ≤ length spec.actions
  few =
      let l = different_within order (numbers_from 1 (length spec.actions)) (order_differs lists) (λ x i. has_number 1 (length spec.actions) x (number_in order x (order_own spec m fits) i)) in
      let n = numbers_length 1 (length spec.actions) in
      omega (arith, l, n)
    where
      numbers_length : (k n : ℕ) → length (numbers_from k n) ≡ n
      numbers_length k zero = refl
      numbers_length k (suc n) = let r = numbers_length (suc k) n in omega (arith, r)

      has_number : (k n x : ℕ) → (k ≤ x) × (x < k + n) → In x (numbers_from k n)
      has_number k zero x b = absurd (let p = b.0 in let q = b.1 in omega (arith, p, q))
      has_number k (suc n) x b = elim (cases_eq k x) [ inl e ↦ inl e | inr d ↦ inr (has_number (suc k) n x (let p = b.0 in let q = b.1 in (omega (arith, p, d), omega (arith, q)))) ]

      number_in : (ns : List ℕ) (x : ℕ) → AllByRecursion (IsNumber (length spec.actions)) ns → In x ns → (1 ≤ x) × (x < 1 + length spec.actions)
      number_in [] x all i = absurd i
      number_in (n ∷ ns) x all (inl e) = let p = all.0.0 in let q = all.0.1 in (omega (arith, p, e), omega (arith, q, e))
      number_in (n ∷ ns) x all (inr i) = number_in ns x all.1 i

  action_bound : (n : ℕ) → 1 ≤ n → n ≤ 2147483647 → max 1 (min 2147483647 n) ≡ n
  action_bound n a b = omega arith

  pub action_names_right : FirstWrong a the.ActionNames None
  action_names_right = right_of a the.ActionNames
      (action_bound (length a.action_names) (omega arith) (let l = few in let k = well.few_actions in let n = length-map order (name_of spec.actions) in omega (arith, l, k, n)))
      (λ i. if_at a.action_names i (NameSays is_action_name a.action_names i) (names_say is_action_name (map (name_of spec.actions) order) refl (formed_all order (order_own spec m fits)) (apart_all order (order_own spec m fits) (order_differs lists)) i))

  -- ---- conditions

  abbrev conds : List ℕ
  conds = map (λ (x : ActionId). x.0) spec.conds

  cond_names_are : map (λ (x : ActionId). name_of spec.actions x.0) spec.conds ≡ map (name_of spec.actions) conds
  cond_names_are = sym (map_map (name_of spec.actions) (λ (x : ActionId). x.0) spec.conds)

  conds_own : AllByRecursion (IsNumber (length spec.actions)) conds
  conds_own = recursion_from_All (IsNumber (length spec.actions)) conds well.condition_actions_exist

  cond_bound : (n : ℕ) → 1 ≤ n → n ≤ 9 → max 1 (min 9 n) ≡ n
  cond_bound n a b = omega arith

  pub cond_names_right : FirstWrong a the.CondNames None
  cond_names_right = right_of a the.CondNames
      (cond_bound (length a.cond_names) (omega arith) (let k = well.few_conditions in let n = length-map spec.conds (λ (x : ActionId). name_of spec.actions x.0) in omega (arith, k, n)))
      (λ i. if_at a.cond_names i (NameSays is_action_name a.cond_names i) (subst (λ ns. (name : List ℕ) → slice_get ([] ∷ ns) i ≡ Some name → NameSays is_action_name ([] ∷ ns) i name) (sym cond_names_are)
      (names_say is_action_name (map (name_of spec.actions) conds) refl (formed_all conds conds_own) (apart_all conds conds_own well.conditions_differ) i)))

  -- ---- entries

  entries_formed : (entries : List Entry) → AllByRecursion (λ (e : Entry). IsTrue (is_name e.name)) entries → AllByRecursion (λ name. IsTrue (is_name name)) (map (λ (e : Entry). e.name) entries)
  entries_formed [] all = tt
  entries_formed (e ∷ entries) all = (all.0, entries_formed entries all.1)

  entry_bound : (n : ℕ) → 2 ≤ n → n ≤ 2147483647 → max 2 (min 2147483647 n) ≡ n
  entry_bound n a b = omega arith

  pub entry_names_right : FirstWrong a the.EntryNames None
  entry_names_right = right_of a the.EntryNames
      (let n = length-map spec.entries (λ (e : Entry). e.name) in let k = well.some_entry in let l = well.few_entries in entry_bound (length a.entry_names) (omega (arith, n, k)) (omega (arith, n, l)))
      (λ i. if_at a.entry_names i (NameSays is_name a.entry_names i) (names_say is_name (map (λ (e : Entry). e.name) spec.entries) refl (entries_formed spec.entries (recursion_from_All (λ (e : Entry). IsTrue (is_name e.name)) spec.entries well.entry_names))
      (λ j k name e h. different_at (map (λ (e : Entry). e.name) spec.entries) j k name well.entries_differ e h) i))

  -- ---- the entries' states, and the lines before the arrays

  position_map : (p : List ℕ → Bool) (entries : List Entry) → position p (map (λ (e : Entry). e.name) entries) ≡ position (λ (e : Entry). p e.name) entries
  position_map p [] = refl
  position_map p (e ∷ entries) =
      position-cons p e.name (map (λ (e : Entry). e.name) entries) ∙ (λ i. cond (p e.name) (Some 0) (option_map (λ k. k + 1) (position_map p entries i)))
      ∙ sym (position-cons (λ (e : Entry). p e.name) e entries)

  start_entry_is : start_entry a ≡ start_place spec.entries + 1
  start_entry_is =
      ap (λ o. unwrap_or o 1) (position-cons (bytes_eq (codes "main")) [] (map (λ (e : Entry). e.name) spec.entries) ∙ (λ i. option_map (λ k. k + 1) (position_map (bytes_eq (codes "main")) spec.entries i)))
      ∙ by (position (λ (e : Entry). bytes_eq (codes "main") e.name) spec.entries)
    where
      by : (o : Option ℕ) → unwrap_or (option_map (λ k. k + 1) o) 1 ≡ unwrap_or o 0 + 1
      by None = refl
      by (Some k) = refl

  start_says : IfAt a.entry_states (start_entry a) (λ state. a.start ≡ state)
  start_says = if_at a.entry_states (start_entry a) (λ state. a.start ≡ state) (λ x e.
      let here : slice_get (map pos m.entries) (start_place spec.entries) ≡ Some x = sym (next_get (pos 0) (map pos m.entries) (start_place spec.entries)) ∙ ap (slice_get (pos 0 ∷ map pos m.entries)) (sym start_entry_is) ∙ e in
      let p = at_map pos m.entries (start_place spec.entries) x here in
      ap (λ o. pos (unwrap_or o 0)) p.1 ∙ sym p.2)

  alphabet_says : (alphabet : Alphabet) → IsBetween 0 5 (alphabet_number alphabet)
  alphabet_says Char = (le_pos 0 0 (omega arith), le_pos 0 5 (omega arith))
  alphabet_says UnsignedChar = (le_pos 0 1 (omega arith), le_pos 1 5 (omega arith))
  alphabet_says Short = (le_pos 0 2 (omega arith), le_pos 2 5 (omega arith))
  alphabet_says UnsignedShort = (le_pos 0 3 (omega arith), le_pos 3 5 (omega arith))
  alphabet_says Int = (le_pos 0 4 (omega arith), le_pos 4 5 (omega arith))
  alphabet_says UnsignedInt = (le_pos 0 5 (omega arith), le_pos 5 5 (omega arith))

  head_right : HeadRight a
  head_right = record {
    name = well.machine_name;
    start = start_says;
    alphabet = alphabet_says spec.alphabet;
    first_final = (le_pos 1 m.first_final sound.counts.final, le_pos m.first_final (states a) (let n = states_are spec lists order m sound in let l = sound.counts.last_final in omega (arith, n, l)));
  }

  entry_says : (e : ℕ) (x : ℤ) → slice_get a.entry_states e ≡ Some x → EntrySays a e x
  entry_says zero x h = record {
    none = λ _. (let s : x ≡ pos 0 = cc in s);
    head = λ _. head_right;
    state_is = λ l. absurd (omega arith);
    alive = λ l. absurd (omega arith);
    kind = λ l. absurd (omega arith);
  }
  entry_says (suc e) x h =
      let p = at_map pos m.entries e x h in
      let s = all_at (IsEntry m.states) m.entries e p.0 (recursion_from_All (IsEntry m.states) m.entries sound.entries) p.1 in
      subst (EntrySays a (suc e)) (sym p.2) (record {
        none = λ z. absurd (omega arith);
        head = λ z. absurd (omega arith);
        state_is = λ _. (not_negative p.0, lt_pos p.0 (states a) (let n = states_are spec lists order m sound in let l = s.there in omega (arith, n, l)));
        alive = λ _ z. let q : p.0 ≡ 0 = cc in let l = s.alive in omega (arith, q, l);
        kind = λ _. kind_may spec lists order m sound p.0 0 1 (λ t f. let d : option_map_or (λ (s : MinState). s.kind) (slice_get m.states p.0) 0 ≡ t.kind = ap (λ o. option_map_or (λ (s : MinState). s.kind) o 0) f in let k = s.kind in (omega (arith, d, k), omega (arith, d, k)));
      })

  pub entry_states_right : FirstWrong a the.EntryStates None
  entry_states_right = right_of a the.EntryStates (let n = length-map spec.entries (λ (e : Entry). e.name) in let k = length-map m.entries pos in let l = fits.entries in omega (arith, n, k, l)) (λ i. if_at a.entry_states i (EntrySays a i) (entry_says i))
