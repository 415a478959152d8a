-- The arrays of statements are right.
use Rattle.std.proofs.Common.{◌≡◌, ℕ, zero, suc, ◌+◌, ◌<◌, ◌≤◌, Bool, true, false, true≢false, cond, ℤ, pos, ◌+ℤ◌, List, [], ◌∷◌, length, map, take, drop, Option, Some, None, refl, sym, ap, ◌∙◌, subst, arith, IsTrue, IfSome, IsSomeAnd, nat_eq, inl, inr, ◌⊎◌}
use Rattle.std.specs.Prelude.{slice_get, option_and_then, IsSome, ◌↔◌}
use Rattle.std.specs.List.{AllByRecursion, flat_map, filter, Contains, cons_option}
use Rattle.std.specs.Option.{option_map, option_map_or}
use Rattle.std.specs.Ordering.{int_eq}
use Rattle.std.proofs.Math.Seq.{take-append_seam}
use Rattle.std.proofs.lemmas.Option.{same_Some, slice_get-map, slice_get_within, slice_get-get_or}
use Rattle.std.proofs.lemmas.List.{length-map, append-nil}
use Rattle.std.proofs.lemmas.List.Elements.{recursion_from_All}
use Rattle.std.proofs.lemmas.Int.{ints}
use Rattle.rl_types.specs.declared.numbers.ActionId.{ActionId}
use Rattle.rl_types.specs.declared.numbers.EntryId.{EntryId}
use Rattle.rl_run.specs.declared.statements.Statement.{Statement}
use Rattle.rl_run.specs.declared.statements.StatementKind.{StatementKind}
use Rattle.rl_run.specs.declared.statements.StatementKind.TheVariants.{Hold, Exec, Goto, Call, Ret, Next, Break}
use Rattle.rl_run.specs.declared.statements.GoalBase.{GoalBase}
use Rattle.rl_run.specs.declared.statements.GoalBase.TheVariants.{Unread, P, Ts, Te}
use Rattle.rl_arrays.specs.declared.arrays.Arrays.{Arrays}
use Rattle.rl_arrays.specs.declared.arrays.ArrayName.TheVariants as the
use Rattle.rl_arrays.specs.Words.{natural, number_at, IsBetween, sum_before}
use Rattle.rl_arrays.specs.Lists.{members}
use Rattle.rl_arrays.specs.TableMachine.{asked_bits, entry_number}
use Rattle.rl_arrays.specs.Statements.{kind_of, ends_list, names_entry, outer_kinds, up_to_end}
use Rattle.rl_arrays.specs.Sizes as sizes
use Rattle.rl_arrays.specs.Sizes.{IsEntryOf, statements_end, one_more}
use Rattle.rl_arrays.specs.Rules.{IsListed, HasKind, FirstSays, CountSays, StatementSays, MarkSays, ArgumentSays, BaseSays}
use Rattle.rl_arrays.specs.Rules as rules
use Rattle.rl_arrays.specs.Valid.{FirstWrong}
use Rattle.rl_model.specs.declared.spec.ActionDef.{ActionDef}
use Rattle.rl_model.specs.declared.spec.Entry.{Entry}
use Rattle.rl_model.specs.declared.spec.Spec.{Spec}
use Rattle.rl_model.specs.Specification.{Action, action_of, specification_of, numbered}
use Rattle.rl_model.specs.WellFormed as W
use Rattle.rl_model.specs.WellFormed.{IsWellFormed, IsNumber, HasNoStatement, outer_statements, all_statements}
use Rattle.rl_minimal.specs.declared.state.MinEdge.{MinEdge}
use Rattle.rl_minimal.specs.declared.state.MinState.{MinState}
use Rattle.rl_minimal.specs.Minimal.{Minimal, numbers}
use Rattle.rl_minimal.specs.Sound.{IsMinimal}
use Rattle.rl_layout.specs.declared.statements.StatementArray.TheVariants as of
use Rattle.rl_layout.specs.Runs.{edges_of}
use Rattle.rl_layout.specs.Cells.{asks_of, edge_at, offsets}
use Rattle.rl_layout.specs.Books.{list_of, lists_of, uses_of, place_in, order_of, number_in}
use Rattle.rl_layout.specs.SpecArrays.{statements_of, kind_number, base_number, element_of, name_of}
use Rattle.rl_layout.specs.Layout.{arrays_laid}
use Rattle.rl_layout.specs.Fits.{Fits, StateFits, AreQuiet}
use Rattle.rl_layout.proofs.ListLaws.{all_at, found_all}
use Rattle.rl_layout.proofs.BookLaws.{listed, lists_listed, list_shown, has_number, actions_numbered, numbered_place}
use Rattle.rl_layout.proofs.Segments.{begins, behind_of, segment, in_segment, offset_at, begins_map, map_flat_map, flat_map_map}
use Rattle.rl_layout.proofs.SumLaws.{AreLengths, sum_is, begins_all, element}
use Rattle.rl_layout.proofs.SpecLaws.{number_is, numbered-map, same_kind, all_in_actions, of_action}
use Rattle.rl_layout.proofs.PlaceLaws.{stands_in}
use Rattle.rl_layout.proofs.ValidBase.{length_offsets, at_map, if_at, right_of, not_negative, le_pos, lt_pos, kind_has}
use Rattle.rl_layout.proofs.ValidCells.{data_of, entries as stored_entries, StepOf, step_of_state, list_listed, not_of_state, entry_of_element, of_run}

begins_of_map : {X Y Z : Type 0} → (f : Y → List Z) (g : X → Y) (xs : List X) (i : ℕ) → begins f (map g xs) i ≡ begins (λ x. f (g x)) xs i
begins_of_map f g [] i = refl
begins_of_map f g (x ∷ xs) zero = refl
begins_of_map f g (x ∷ xs) (suc i) = ap (λ n. length (f (g x)) + n) (begins_of_map f g xs i)

-- numbers of kinds, marks and bases
kind_within : (k : StatementKind) → IsBetween 1 7 (kind_number k)
kind_within Hold = (le_pos 1 1 (omega arith), le_pos 1 7 (omega arith))
kind_within Exec = (le_pos 1 2 (omega arith), le_pos 2 7 (omega arith))
kind_within Goto = (le_pos 1 3 (omega arith), le_pos 3 7 (omega arith))
kind_within Call = (le_pos 1 4 (omega arith), le_pos 4 7 (omega arith))
kind_within Ret = (le_pos 1 5 (omega arith), le_pos 5 7 (omega arith))
kind_within Next = (le_pos 1 6 (omega arith), le_pos 6 7 (omega arith))
kind_within Break = (le_pos 1 7 (omega arith), le_pos 7 7 (omega arith))

mark_within : (b : Bool) → IsBetween 0 1 (cond b (pos 1) (pos 0))
mark_within true = (le_pos 0 1 (omega arith), le_pos 1 1 (omega arith))
mark_within false = (le_pos 0 0 (omega arith), le_pos 0 1 (omega arith))

base_within : (b : GoalBase) → IsBetween 0 3 (base_number b)
base_within Unread = (le_pos 0 0 (omega arith), le_pos 0 3 (omega arith))
base_within P = (le_pos 0 1 (omega arith), le_pos 1 3 (omega arith))
base_within Ts = (le_pos 0 2 (omega arith), le_pos 2 3 (omega arith))
base_within Te = (le_pos 0 3 (omega arith), le_pos 3 3 (omega arith))

-- the outer statements, by the numbers of their kinds
outer_are : (ss : List Statement) → outer_kinds (map (element_of of.Kind) ss) (map (element_of of.Outer) ss)
    ≡ map kind_number (map (λ (s : Statement). s.kind) (filter (λ (s : Statement). s.outer) ss))
outer_are [] = refl
outer_are (s ∷ ss) = by s.outer ∙ ap (λ w. cond s.outer (kind_number s.kind ∷ w) w) (outer_are ss) ∙ picked s.outer
  where
    rest : List ℤ
    rest = outer_kinds (map (element_of of.Kind) ss) (map (element_of of.Outer) ss)

    others : List Statement
    others = filter (λ (s : Statement). s.outer) ss

    by : (b : Bool) → cons_option (cond (int_eq (cond b (pos 1) (pos 0)) (pos 1)) (Some (kind_number s.kind)) None) rest ≡ cond b (kind_number s.kind ∷ rest) rest
    by true = refl
    by false = refl

    picked : (b : Bool) → cond b (kind_number s.kind ∷ map kind_number (map (λ (s : Statement). s.kind) others)) (map kind_number (map (λ (s : Statement). s.kind) others))
        ≡ map kind_number (map (λ (s : Statement). s.kind) (cond b (s ∷ others) others))
    picked true = refl
    picked false = refl

-- by their numbers as many kinds stand up to the first that ends a list
ends_alike : (ks : List StatementKind) → length (up_to_end (map kind_number ks)) ≡ length (W.up_to_end ks)
ends_alike [] = refl
ends_alike (k ∷ ks) =
    (λ i. length (cond (option_map_or ends_list (same_kind k i) false) (kind_number k ∷ []) (kind_number k ∷ up_to_end (map kind_number ks))))
    ∙ by (ends_list k) (ends_alike ks)
  where
    by : (b : Bool) → length (up_to_end (map kind_number ks)) ≡ length (W.up_to_end ks)
        → length (cond b (kind_number k ∷ []) (kind_number k ∷ up_to_end (map kind_number ks))) ≡ length (cond b (k ∷ []) (k ∷ W.up_to_end ks))
    by true same = refl
    by false same = ap suc same

-- an element that a list has stands at a place
contained : (xs : List ℕ) (x : ℕ) → Contains xs x → (i : ℕ) × (slice_get xs i ≡ Some x)
contained xs x c = (c.0, slice_get-get_or xs c.0 x c.1 ∙ ap (λ w. Some w) c.2)

at_some : {X : Type 0} → (xs : List X) (i : ℕ) (Q : X → Type 0) → IsSomeAnd (slice_get xs i) Q → (x : X) × (slice_get xs i ≡ Some x) × Q x
at_some {X = X} xs i Q h = by (slice_get xs i) refl h
  where
    by : (o : Option X) → slice_get xs i ≡ o → IsSomeAnd o Q → (x : X) × (slice_get xs i ≡ Some x) × Q x
    by None e k = absurd k
    by (Some x) e k = (x, e, k)

quiet_none : (actions : List ActionDef) (x : ℕ) → HasNoStatement (map action_of actions) x → statements_of actions x ≡ []
quiet_none actions x h = by (numbered actions x) (subst (λ o. IfSome o (λ (y : Action). y.statements ≡ [])) (numbered-map action_of actions x) h)
  where
    by : (o : Option ActionDef) → IfSome (option_map action_of o) (λ (y : Action). y.statements ≡ []) → option_map_or (λ (y : ActionDef). y.statements) o [] ≡ []
    by None h = refl
    by (Some y) h = h

module _ (spec : Spec) (m : Minimal) (sound : IsMinimal m) (well : IsWellFormed spec) (fits : Fits spec m) where
  abbrev pub lists : List (List ActionId)
  lists = lists_of m.states

  abbrev pub order : List ℕ
  order = order_of lists

  abbrev pub a : Arrays
  a = arrays_laid spec lists order m

  abbrev own : ℕ → List Statement
  own x = statements_of spec.actions x

  abbrev count : ℕ → ℕ
  count x = length (own x)

  -- ---- sums

  abbrev all_own : List (List Statement)
  all_own = [] ∷ map own order

  count_widths : AreLengths (sizes.statements_of a) (λ (ss : List Statement). ss) all_own
  count_widths zero ss e = let same : [] ≡ ss = cc in ap (λ w. Some (pos (length w))) same
  count_widths (suc i) ss e =
      let p = at_map own order i ss e in
      slice_get-map pos (map count order) i ∙ ap (option_map pos) (slice_get-map count order i ∙ ap (option_map count) p.1) ∙ ap (λ w. Some (pos (length w))) (sym p.2)

  count_length : length a.stmt_counts ≡ length all_own
  count_length = let n = length-map (map count order) pos in let k = length-map order count in let l = length-map order own in omega (arith, n, k, l)

  begun : (i : ℕ) → begins (λ (ss : List Statement). ss) all_own (suc i) ≡ begins own order i
  begun i = let n = begins_of_map (λ (ss : List Statement). ss) own order i in omega (arith, n)

  -- ---- where statements begin

  first_says : (k : ℕ) (x : ℤ) → slice_get a.stmt_firsts k ≡ Some x → FirstSays a k x
  first_says zero x e = record { none = λ _. (let s : x ≡ pos 0 = cc in s); sum = λ l. absurd (omega arith) }
  first_says (suc i) x e = record { none = λ z. absurd (omega arith); sum = λ _. subst (λ o. IfSome o (λ sum. x ≡ sum +ℤ pos 1)) (sym sum) (same ∙ next) }
    where
      within : i < length order
      within =
          let l = slice_get_within (offsets 1 (map count order)) i x e in
          let n = length_offsets 1 (map count order) in
          let k = length-map order count in
          omega (arith, l, n, k)

      here : (n : ℕ) × (slice_get order i ≡ Some n)
      here = element order i within

      same : x ≡ pos (1 + begins own order i)
      same = same_Some x (pos (1 + begins own order i)) (sym e ∙ offset_at own order 1 i here.0 here.1)

      sum : sum_before (sizes.statements_of a) (suc i) ≡ Some (pos (begins own order i))
      sum = sum_is (sizes.statements_of a) (λ (ss : List Statement). ss) all_own count_widths (suc i) (let n = length-map order own in let l = within in omega (arith, n, l)) ∙ ap (λ n. Some (pos n)) (begun i)

      next : pos (1 + begins own order i) ≡ pos (begins own order i) +ℤ pos 1
      next = omega (arith, ints)

  names_length : length a.action_names ≡ length order + 1
  names_length = let n = length-map order (name_of spec.actions) in omega (arith, n)

  pub firsts_right : FirstWrong a the.StmtFirsts None
  firsts_right = right_of a the.StmtFirsts (let n = names_length in let k = length_offsets 1 (map count order) in let l = length-map order count in omega (arith, n, k, l)) (λ i. if_at a.stmt_firsts i (FirstSays a i) (first_says i))

  -- ---- elements of statements

  -- the statement that an element is told of
  pub record Told (f : Statement → ℤ) (k : ℕ) (x : ℤ) : Type 0 where
    pub place : ℕ
    pub action : ℕ
    pub inner : ℕ
    pub statement : Statement
    pub there : slice_get order place ≡ Some action
    pub stands : slice_get (own action) inner ≡ Some statement
    pub k_is : k ≡ begins own order place + inner
    pub x_is : x ≡ f statement

  told : (f : Statement → ℤ) (k : ℕ) (x : ℤ) → slice_get (flat_map (λ n. map f (own n)) order) k ≡ Some x → Told f k x
  told f k x e =
      let s = stands_in (λ n. map f (own n)) order k x e in
      let p = at_map f (own s.thing) s.inner x s.has in
      record { place = s.outer; action = s.thing; inner = s.inner; statement = p.0; there = s.there; stands = p.1; k_is = s.place_is ∙ ap (λ n. n + s.inner) (begins_map f own order s.outer); x_is = p.2 }

  -- another array has its element of it at the same place
  tells : (f g : Statement → ℤ) (k : ℕ) (x : ℤ) (t : Told f k x) → slice_get (flat_map (λ n. map g (own n)) order) k ≡ Some (g t.statement)
  tells f g k x t =
      ap (slice_get (flat_map (λ n. map g (own n)) order)) (t.k_is ∙ ap (λ n. n + t.inner) (sym (begins_map g own order t.place)))
      ∙ in_segment (λ n. map g (own n)) order t.place t.inner t.action (g t.statement) t.there (slice_get-map g (own t.action) t.inner ∙ ap (option_map g) t.stands)

  flat_length : (f : Statement → ℤ) → length (flat_map (λ n. map f (own n)) order) ≡ length (flat_map own order)
  flat_length f = ap (λ w. length w) (sym (map_flat_map f own order)) ∙ length-map (flat_map own order) f

  statements_end_is : statements_end a ≡ Some (pos (length (flat_map own order)))
  statements_end_is =
      ap (sum_before (sizes.statements_of a)) count_length ∙ sum_is (sizes.statements_of a) (λ (ss : List Statement). ss) all_own count_widths (length all_own) (omega arith)
      ∙ ap (λ n. Some (pos n)) (begins_all (λ (ss : List Statement). ss) all_own ∙ ap (λ w. length w) (flat_map_map (λ (ss : List Statement). ss) own order))

  end_due : (end : Option ℤ) (n h : ℕ) → end ≡ Some (pos n) → h ≡ n + 1 → one_more end h ≡ h
  end_due end n h e q = ap (λ o. one_more o h) e ∙ sym q

  kinds_length : length a.stmt_kinds ≡ length (flat_map own order) + 1
  kinds_length = let n = flat_length (element_of of.Kind) in omega (arith, n)

  kind_says : (i : ℕ) (x : ℤ) → slice_get a.stmt_kinds i ≡ Some x → StatementSays a i x
  kind_says zero x e = record { none = λ _. (let s : x ≡ pos 0 = cc in s); known = λ l. absurd (omega arith) }
  kind_says (suc k) x e = let t = told (element_of of.Kind) k x e in record { none = λ z. absurd (omega arith); known = λ _. subst (IsBetween 1 7) (sym t.x_is) (kind_within t.statement.kind) }

  pub kinds_right : FirstWrong a the.StmtKinds None
  kinds_right = right_of a the.StmtKinds (end_due (statements_end a) (length (flat_map own order)) (length a.stmt_kinds) statements_end_is kinds_length) (λ i. if_at a.stmt_kinds i (StatementSays a i) (kind_says i))

  mark_says : (i : ℕ) (x : ℤ) → slice_get a.stmt_outer i ≡ Some x → MarkSays a i x
  mark_says zero x e = let s : x ≡ pos 0 = cc in record { none = λ _. s; known = subst (IsBetween 0 1) (sym s) (mark_within false) }
  mark_says (suc k) x e = let t = told (element_of of.Outer) k x e in record { none = λ z. absurd (omega arith); known = subst (IsBetween 0 1) (sym t.x_is) (mark_within t.statement.outer) }

  pub outer_right : FirstWrong a the.StmtOuter None
  outer_right = right_of a the.StmtOuter (let n = kinds_length in let k = flat_length (element_of of.Outer) in omega (arith, n, k)) (λ i. if_at a.stmt_outer i (MarkSays a i) (mark_says i))

  base_says : (i : ℕ) (x : ℤ) → slice_get a.stmt_bases i ≡ Some x → BaseSays a i x
  base_says zero x e = let s : x ≡ pos 0 = cc in record { none = λ _. s; known = subst (IsBetween 0 3) (sym s) (base_within Unread) }
  base_says (suc k) x e = let t = told (element_of of.Base) k x e in record { none = λ z. absurd (omega arith); known = subst (IsBetween 0 3) (sym t.x_is) (base_within t.statement.base) }

  pub bases_right : FirstWrong a the.StmtBases None
  bases_right = right_of a the.StmtBases (let n = kinds_length in let k = flat_length (element_of of.Base) in omega (arith, n, k)) (λ i. if_at a.stmt_bases i (BaseSays a i) (base_says i))

  -- ---- arguments

  entry_argument : (o : Option EntryId) (offset : ℤ) (b : Bool) → (IsSome o ↔ IsTrue b) → IfSome o (λ e. IsNumber (length spec.entries) e.0) → IsTrue b → rules.IsEntry a (option_map_or (λ (e : EntryId). pos e.0) o offset)
  entry_argument None offset b h n t = absurd (true≢false (sym (h.1 t)))
  entry_argument (Some e) offset b h n t = (le_pos 1 e.0 n.0, lt_pos e.0 (length a.entry_names) (let k = length-map spec.entries (λ (x : Entry). x.name) in let l = n.1 in omega (arith, k, l)))

  argument_says : (i : ℕ) (x : ℤ) → slice_get a.stmt_args i ≡ Some x → ArgumentSays a i x
  argument_says zero x e = record { none = λ _. (let s : x ≡ pos 0 = cc in s); entry = tt }
  argument_says (suc k) x e = record {
    none = λ z. absurd (omega arith);
    entry = subst (λ o. IfSome o (λ kind. IsTrue (names_entry kind) → rules.IsEntry a x)) (sym kind_is) (λ t. subst (rules.IsEntry a) (sym s.x_is) (entry_argument s.statement.entry s.statement.offset (names_entry s.statement.kind) paired exists t));
  }
    where
      s : Told (element_of of.Argument) k x
      s = told (element_of of.Argument) k x e

      kind_is : option_and_then kind_of (slice_get a.stmt_kinds (suc k)) ≡ Some s.statement.kind
      kind_is = ap (option_and_then kind_of) (tells (element_of of.Argument) (element_of of.Kind) k x s) ∙ same_kind s.statement.kind

      paired : IsSome s.statement.entry ↔ IsTrue (names_entry s.statement.kind)
      paired = all_at (λ (s : Statement). IsSome s.entry ↔ IsTrue (names_entry s.kind)) (own s.action) s.inner s.statement (of_action (AllByRecursion (λ (s : Statement). IsSome s.entry ↔ IsTrue (names_entry s.kind))) spec.actions tt
          (all_in_actions (λ (s : Statement). IsSome s.entry ↔ IsTrue (names_entry s.kind)) spec.actions (recursion_from_All (λ (s : Statement). IsSome s.entry ↔ IsTrue (names_entry s.kind)) (all_statements (specification_of spec)) well.statement_entries)) s.action) s.stands

      exists : IfSome s.statement.entry (λ e. IsNumber (length spec.entries) e.0)
      exists = all_at (λ (s : Statement). IfSome s.entry (λ e. IsNumber (length spec.entries) e.0)) (own s.action) s.inner s.statement (of_action (AllByRecursion (λ (s : Statement). IfSome s.entry (λ e. IsNumber (length spec.entries) e.0))) spec.actions tt
          (all_in_actions (λ (s : Statement). IfSome s.entry (λ e. IsNumber (length spec.entries) e.0)) spec.actions (recursion_from_All (λ (s : Statement). IfSome s.entry (λ e. IsNumber (length spec.entries) e.0)) (all_statements (specification_of spec)) well.entries_exist)) s.action) s.stands

  pub arguments_right : FirstWrong a the.StmtArgs None
  arguments_right = right_of a the.StmtArgs (let n = kinds_length in let k = flat_length (element_of of.Argument) in omega (arith, n, k)) (λ i. if_at a.stmt_args i (ArgumentSays a i) (argument_says i))

  -- ---- counts

  -- an action whose number a quiet list has, has no statement
  quiet_list : (list : List ActionId) (i n : ℕ) → listed lists list ≡ true → AreQuiet spec list → slice_get order i ≡ Some n → Contains (members a.actions (place_in lists list)) (suc i) → own n ≡ []
  quiet_list list i n h quiet there has =
      let at = contained (map (number_in order) (numbers list)) (suc i) (subst (λ xs. Contains xs (suc i)) (list_shown order lists list h) has) in
      let p = at_map (number_in order) (numbers list) at.0 (suc i) at.1 in
      let q = at_map (λ (x : ActionId). x.0) list at.0 p.0 p.1 in
      let b = numbered_place order p.0 (all_at (λ x. has_number order x ≡ true) (numbers list) at.0 p.0 (actions_numbered lists list h) p.1) in
      let number : number_in order p.0 ≡ b.0 + 1 = ap (λ o. option_map_or (λ i. i + 1) o 0) b.1 in
      let place : b.0 ≡ i = let r = p.2 in omega (arith, number, r) in
      let same_place : slice_get order i ≡ Some p.0 = ap (slice_get order) (sym place) ∙ b.2 in
      let same : n ≡ p.0 = cc in
      ap own same ∙ quiet_none spec.actions p.0 (subst (HasNoStatement (specification_of spec).actions) (sym q.2) (all_at (λ (x : ActionId). HasNoStatement (specification_of spec).actions x.0) list at.0 q.0 (recursion_from_All (λ (x : ActionId). HasNoStatement (specification_of spec).actions x.0) list quiet) q.1))

  fits_at : (q : ℕ) (s : MinState) → slice_get m.states q ≡ Some s → StateFits spec s
  fits_at q s e = all_at (StateFits spec) m.states q s (recursion_from_All (StateFits spec) m.states fits.states) e

  uses_at : (q : ℕ) (s : MinState) → slice_get m.states q ≡ Some s → AllByRecursion (λ list. listed lists list ≡ true) (uses_of s)
  uses_at q s e = all_at (λ s. AllByRecursion (λ list. listed lists list ≡ true) (uses_of s)) m.states q s (lists_listed m.states) e

  -- lists of states
  quiet_state : (f : MinState → List ActionId) → ((q : ℕ) (s : MinState) → slice_get m.states q ≡ Some s → (listed lists (f s) ≡ true) × AreQuiet spec (f s)) → (i n : ℕ) → slice_get order i ≡ Some n → (q : ℕ) → IsListed a (map (λ s. pos (place_in lists (f s))) m.states) q (suc i) → own n ≡ []
  quiet_state f facts i n there q h =
      let b = at_some (map (λ s. pos (place_in lists (f s))) m.states) q (λ number. Contains (members a.actions (natural number)) (suc i)) h in
      let p = at_map (λ s. pos (place_in lists (f s))) m.states q b.0 b.1 in
      let k = facts q p.0 p.1 in
      quiet_list (f p.0) i n k.0 k.1 there (subst (λ w. Contains (members a.actions (natural w)) (suc i)) p.2 b.2)

  -- lists of steps from a scanner's states
  quiet_step : (i n : ℕ) → slice_get order i ≡ Some n → (q e : ℕ) → IsEntryOf a q e → HasKind a q 1 3 → IsListed a a.trans_lists e (suc i) → own n ≡ []
  quiet_step i n there q e entry kind h = by (entry_of_element spec m sound fits (λ z. pos z.1) e b.0 b.1)
    where
      b : (x : ℤ) × (slice_get a.trans_lists e ≡ Some x) × Contains (members a.actions (natural x)) (suc i)
      b = at_some a.trans_lists e (λ number. Contains (members a.actions (natural number)) (suc i)) h

      quiet_of : (z : ℕ × ℕ) (s : StepOf spec m sound fits q z) (o : Option MinEdge) → edge_at (asks_of s.state.edges s.run) s.number (edges_of s.state.edges s.run) ≡ o → AreQuiet spec (list_of o)
      quiet_of z s None t = λ k d l. absurd (omega arith)
      quiet_of z s (Some x) t =
          let k = kind_has spec lists order m sound q s.state 1 3 s.there kind in
          found_all (λ (e : MinEdge). AreQuiet spec e.list) (λ (e : MinEdge). nat_eq (entry_number (asked_bits (asks_of s.state.edges s.run)) e.truths.0) s.number) (edges_of s.state.edges s.run) x
          (of_run spec m sound fits (λ (e : MinEdge). AreQuiet spec e.list) s.state.edges s.run ((fits_at q s.state s.there).quiet_steps (omega (arith, k)))) t

      by : ((z : ℕ × ℕ) × (slice_get (stored_entries spec m sound fits) e ≡ Some z) × (b.0 ≡ pos z.1)) ⊎ ((e ≡ length (stored_entries spec m sound fits)) × (b.0 ≡ pos 0)) → own n ≡ []
      by (inr k) = absurd (not_of_state spec m sound fits q e k.0 entry)
      by (inl p) =
          let s = step_of_state spec m sound fits q e p.0 p.1 entry in
          let o = edge_at (asks_of s.state.edges s.run) s.number (edges_of s.state.edges s.run) in
          let number : b.0 ≡ pos (place_in lists (list_of o)) = p.2 ∙ ap (λ (z : ℕ × ℕ). pos z.1) s.is in
          quiet_list (list_of o) i n (list_listed spec m sound fits q p.0 s) (quiet_of p.0 s o refl) there (subst (λ w. Contains (members a.actions (natural w)) (suc i)) number b.2)

  -- the statements that stand from an action's first one on
  taken : (f : Statement → ℤ) (i n : ℕ) → slice_get order i ≡ Some n → take (count n) (drop (1 + begins own order i) (pos 0 ∷ flat_map (λ n. map f (own n)) order)) ≡ map f (own n)
  taken f i n there =
      let place : 1 + begins own order i ≡ suc (begins own order i) = omega arith in
      ap (λ k. take (count n) (drop k (pos 0 ∷ flat_map (λ n. map f (own n)) order))) place
      ∙ sym (λ j. take (length-map (own n) f j) (drop (begins_map f own order i j) (append-nil (flat_map (λ n. map f (own n)) order) j)))
      ∙ ap (take (length (map f (own n)))) (segment (λ n. map f (own n)) order [] i n there) ∙ take-append_seam (map f (own n)) (behind_of (λ n. map f (own n)) order [] i)

  first_at : (i n : ℕ) → slice_get order i ≡ Some n → number_at a.stmt_firsts (suc i) ≡ 1 + begins own order i
  first_at i n there = number_is a.stmt_firsts (suc i) (pos (1 + begins own order i)) (offset_at own order 1 i n there)

  few_outer : (n : ℕ) → outer_statements (own n) ≤ 4
  few_outer n = of_action (λ ss. outer_statements ss ≤ 4) spec.actions (omega arith) (recursion_from_All (λ (y : ActionDef). outer_statements y.statements ≤ 4) spec.actions well.few_outer) n

  few_of : (i n : ℕ) → slice_get order i ≡ Some n → let first = number_at a.stmt_firsts (suc i) in length (up_to_end (outer_kinds (take (count n) (drop first a.stmt_kinds)) (take (count n) (drop first a.stmt_outer)))) ≤ 4
  few_of i n there = subst (λ k. k ≤ 4) (sym path) (few_outer n)
    where
      path : length (up_to_end (outer_kinds (take (count n) (drop (number_at a.stmt_firsts (suc i)) a.stmt_kinds)) (take (count n) (drop (number_at a.stmt_firsts (suc i)) a.stmt_outer)))) ≡ outer_statements (own n)
      path =
          ap (λ k. length (up_to_end (outer_kinds (take (count n) (drop k a.stmt_kinds)) (take (count n) (drop k a.stmt_outer))))) (first_at i n there)
          ∙ (λ j. length (up_to_end (outer_kinds (taken (element_of of.Kind) i n there j) (taken (element_of of.Outer) i n there j))))
          ∙ ap (λ w. length (up_to_end w)) (outer_are (own n)) ∙ ends_alike (map (λ (s : Statement). s.kind) (filter (λ (s : Statement). s.outer) (own n)))

  no_count : (n : ℕ) → own n ≡ [] → pos (count n) ≡ pos 0
  no_count n e = ap (λ (ss : List Statement). pos (length ss)) e

  count_says : (k : ℕ) (x : ℤ) → slice_get a.stmt_counts k ≡ Some x → CountSays a k x
  count_says zero x e = let s : x ≡ pos 0 = cc in subst (CountSays a 0) (sym s) (record {
    positive = not_negative 0;
    none = λ _. refl;
    from = λ q h. refl;
    to = λ q h. refl;
    inner = λ q e h k l. refl;
    few = omega arith;
  })
  count_says (suc i) x e =
      let p = at_map pos (map count order) i x e in
      let q = at_map count order i p.0 p.1 in
      subst (CountSays a (suc i)) (sym (p.2 ∙ ap (λ n. pos n) q.2)) (record {
        positive = not_negative (count q.0);
        none = λ z. absurd (omega arith);
        from = λ s h. no_count q.0 (quiet_state (λ s. s.from) (λ j t g. ((uses_at j t g).0, (fits_at j t g).quiet_from)) i q.0 q.1 s h);
        to = λ s h. no_count q.0 (quiet_state (λ s. s.to) (λ j t g. ((uses_at j t g).1.0, (fits_at j t g).quiet_to)) i q.0 q.1 s h);
        inner = λ s n h k l. no_count q.0 (quiet_step i q.0 q.1 s n h k l);
        few = few_of i q.0 q.1;
      })

  pub counts_right : FirstWrong a the.StmtCounts None
  counts_right = right_of a the.StmtCounts (let n = names_length in let k = length-map (map count order) pos in let l = length-map order count in omega (arith, n, k, l)) (λ i. if_at a.stmt_counts i (CountSays a i) (count_says i))
