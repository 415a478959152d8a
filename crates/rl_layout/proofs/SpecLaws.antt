-- The names and the statements of arrays are those of the Spec.
use Rattle.std.proofs.Common.{◌≡◌, ℕ, zero, suc, ◌+◌, ◌-◌, ◌<◌, Bool, true, false, cond, ◌&&◌, nat_le, ℤ, pos, List, [], ◌∷◌, length, map, Option, Some, None, refl, sym, ap, ◌∙◌, arith, true≢false}
use Rattle.std.specs.Prelude.{slice_get, unwrap_or, option_and_then, IsTrue, IsSome, ◌↔◌}
use Rattle.std.specs.List.{AllByRecursion, flat_map}
use Rattle.std.specs.Option.{option_map, option_map_or}
use Rattle.std.specs.Ordering.{int_eq}
use Rattle.std.proofs.lemmas.Option.{slice_get-map, slice_get_within}
use Rattle.std.proofs.lemmas.Bool.Decides.{nat_tests}
use Rattle.rl_types.specs.declared.alphabet.Alphabet.{Alphabet}
use Rattle.rl_types.specs.declared.alphabet.Alphabet.TheVariants.{Char, UnsignedChar, Short, UnsignedShort, Int, UnsignedInt}
use Rattle.rl_types.specs.declared.numbers.ActionId.{ActionId}
use Rattle.rl_types.specs.declared.numbers.EntryId.{EntryId}
use Rattle.rl_run.specs.declared.statements.Statement.{Statement}
use Rattle.rl_run.specs.declared.statements.StatementKind.{StatementKind}
use Rattle.rl_run.specs.declared.statements.StatementKind.TheVariants.{Hold, Exec, Goto, Call, Ret, Next, Break}
use Rattle.rl_run.specs.declared.statements.GoalBase.{GoalBase}
use Rattle.rl_run.specs.declared.statements.GoalBase.TheVariants.{Unread, P, Ts, Te}
use Rattle.rl_arrays.specs.declared.arrays.Arrays.{Arrays}
use Rattle.rl_arrays.specs.Words.{natural, number_at}
use Rattle.rl_arrays.specs.KeyRules.{alphabet_of}
use Rattle.rl_arrays.specs.TableMachine.{name_at}
use Rattle.rl_arrays.specs.Statements.{kind_of, base_of, names_entry, is_exec, statement_of, statement_at, statement}
use Rattle.rl_minimal.specs.Machine.{entry_at}
use Rattle.rl_model.specs.declared.spec.ActionDef.{ActionDef}
use Rattle.rl_model.specs.declared.spec.Entry.{Entry}
use Rattle.rl_model.specs.Specification.{Action, action_of, entry_of, numbered, name_or, action_name_at, condition_name_at, entry_name_at}
use Rattle.rl_model.specs.Specification as spec_statements
use Rattle.rl_layout.specs.declared.statements.StatementArray.TheVariants as of
use Rattle.rl_layout.specs.SpecArrays.{statements_of, name_of, kind_number, base_number, element_of, alphabet_number}
use Rattle.rl_layout.specs.Cells.{offsets}
use Rattle.rl_layout.proofs.ListLaws.{next_get, all_at, all_parts}
use Rattle.rl_layout.proofs.Segments.{begins, begins_map, offset_at, in_segment}

-- ---- numbers of arrays

pub number_is : (xs : List ℤ) (i : ℕ) (x : ℤ) → slice_get xs i ≡ Some x → number_at xs i ≡ natural x
number_is xs i x e = ap (λ o. option_map_or natural o 0) e

pub alphabet_is : (alphabet : Alphabet) → unwrap_or (alphabet_of (alphabet_number alphabet)) Char ≡ alphabet
alphabet_is Char = refl
alphabet_is UnsignedChar = refl
alphabet_is Short = refl
alphabet_is UnsignedShort = refl
alphabet_is Int = refl
alphabet_is UnsignedInt = refl

-- ---- names

pub numbered-map : {X Y : Type 0} → (f : X → Y) (xs : List X) (n : ℕ) → numbered (map f xs) n ≡ option_map f (numbered xs n)
numbered-map f xs zero = refl
numbered-map f xs (suc n) = slice_get-map f xs n

pub action_named : (actions : List ActionDef) (a : ℕ) → name_of actions a ≡ action_name_at (map action_of actions) a
action_named actions a = by (numbered actions a) ∙ sym (ap (λ o. name_or (option_map (λ (x : Action). x.name) o)) (numbered-map action_of actions a))
  where
    by : (o : Option ActionDef) → option_map_or (λ (x : ActionDef). x.name) o [] ≡ name_or (option_map (λ (x : Action). x.name) (option_map action_of o))
    by None = refl
    by (Some x) = refl

pub condition_named : (actions : List ActionDef) (conds : List ActionId) (c : ℕ) → name_at ([] ∷ map (λ (a : ActionId). name_of actions a.0) conds) c ≡ condition_name_at (map action_of actions) (map (λ (a : ActionId). a.0) conds) c
condition_named actions conds zero = refl
condition_named actions conds (suc c) =
    ap (λ o. unwrap_or o []) (slice_get-map (λ (a : ActionId). name_of actions a.0) conds c) ∙ by (slice_get conds c)
    ∙ sym (ap (λ o. name_or (option_map (action_name_at (map action_of actions)) o)) (slice_get-map (λ (a : ActionId). a.0) conds c))
  where
    by : (o : Option ActionId) → unwrap_or (option_map (λ (a : ActionId). name_of actions a.0) o) [] ≡ name_or (option_map (action_name_at (map action_of actions)) (option_map (λ (a : ActionId). a.0) o))
    by None = refl
    by (Some x) = action_named actions x.0

pub entry_named : (entries : List Entry) (e : ℕ) → name_at ([] ∷ map (λ (x : Entry). x.name) entries) e ≡ entry_name_at (map entry_of entries) e
entry_named entries zero = refl
entry_named entries (suc e) =
    ap (λ o. unwrap_or o []) (slice_get-map (λ (x : Entry). x.name) entries e) ∙ by (slice_get entries e)
    ∙ sym (ap (λ o. name_or (option_map (λ x. x.name) o)) (slice_get-map entry_of entries e))
  where
    by : (o : Option Entry) → unwrap_or (option_map (λ (x : Entry). x.name) o) [] ≡ name_or (option_map (λ x. x.name) (option_map entry_of o))
    by None = refl
    by (Some x) = refl

pub entry_state : (entries : List ℕ) (e : ℕ) → number_at (pos 0 ∷ map pos entries) e ≡ entry_at entries e
entry_state entries zero = refl
entry_state entries (suc e) = ap (λ o. option_map_or natural o 0) (slice_get-map pos entries e) ∙ by (slice_get entries e)
  where
    by : (o : Option ℕ) → option_map_or natural (option_map pos o) 0 ≡ unwrap_or o 0
    by None = refl
    by (Some x) = refl

-- ---- one statement

pub same_kind : (k : StatementKind) → kind_of (kind_number k) ≡ Some k
same_kind Hold = refl
same_kind Exec = refl
same_kind Goto = refl
same_kind Call = refl
same_kind Ret = refl
same_kind Next = refl
same_kind Break = refl

same_base : (b : GoalBase) → base_of (base_number b) ≡ b
same_base Unread = refl
same_base P = refl
same_base Ts = refl
same_base Te = refl

same_outer : (b : Bool) → int_eq (cond b (pos 1) (pos 0)) (pos 1) ≡ b
same_outer true = refl
same_outer false = refl

-- a statement has an entry exactly where its kind names one, and a goal only where it is an exec
pub record IsPlain (s : Statement) : Type 0 where
  pub entry : IsSome s.entry ↔ IsTrue (names_entry s.kind)
  pub base : is_exec s.kind ≡ false → s.base ≡ Unread
  pub offset : is_exec s.kind ≡ false → s.offset ≡ pos 0

same_entry : (b : Bool) (o : Option EntryId) (offset : ℤ) → (IsSome o ↔ IsTrue b) → cond b (Some (record { 0 = natural (option_map_or (λ (e : EntryId). pos e.0) o offset) })) None ≡ o
same_entry true (Some e) offset h = refl
same_entry true None offset h = absurd (true≢false (sym (h.1 refl)))
same_entry false (Some e) offset h = absurd (true≢false (sym (h.0 refl)))
same_entry false None offset h = refl

no_entry : (k : StatementKind) → is_exec k ≡ true → names_entry k ≡ false
no_entry Exec e = refl
no_entry Hold e = refl
no_entry Goto e = absurd (true≢false (sym e))
no_entry Call e = absurd (true≢false (sym e))
no_entry Ret e = refl
no_entry Next e = absurd (true≢false (sym e))
no_entry Break e = refl

own_base : (b : Bool) (base : GoalBase) → (b ≡ false → base ≡ Unread) → cond b (base_of (base_number base)) Unread ≡ base
own_base true base f = same_base base
own_base false base f = sym (f refl)

own_offset : (b : Bool) (o : Option EntryId) (offset : ℤ) → (b ≡ true → IsSome o → ⊥) → (b ≡ false → offset ≡ pos 0) → cond b (option_map_or (λ (e : EntryId). pos e.0) o offset) (pos 0) ≡ offset
own_offset true None offset n f = refl
own_offset true (Some e) offset n f = absurd (n refl refl)
own_offset false o offset n f = sym (f refl)

pub same_statement : (s : Statement) → IsPlain s → statement_of (element_of of.Outer s) (element_of of.Argument s) (element_of of.Base s) s.kind ≡ s
same_statement s p = λ i. record {
  kind = s.kind;
  outer = same_outer s.outer i;
  entry = same_entry (names_entry s.kind) s.entry s.offset p.entry i;
  base = own_base (is_exec s.kind) s.base p.base i;
  offset = own_offset (is_exec s.kind) s.entry s.offset none p.offset i;
}
  where
    none : is_exec s.kind ≡ true → IsSome s.entry → ⊥
    none e h = true≢false (sym (p.entry.0 h) ∙ no_entry s.kind e)

-- ---- the statements of an action

module _ (actions : List ActionDef) (order : List ℕ) where
  abbrev own : ℕ → List Statement
  own a = statements_of actions a

  abbrev count : ℕ → ℕ
  count a = length (own a)

  -- an element of an array of statements
  element_there : (f : Statement → ℤ) (i k a : ℕ) (s : Statement) → slice_get order i ≡ Some a → slice_get (own a) k ≡ Some s → slice_get (pos 0 ∷ flat_map (λ a. map f (own a)) order) (1 + begins own order i + k) ≡ Some (f s)
  element_there f i k a s e h =
      let next : 1 + begins own order i + k ≡ (begins own order i + k) + 1 = omega arith in
      ap (slice_get (pos 0 ∷ flat_map (λ a. map f (own a)) order)) next ∙ next_get (pos 0) (flat_map (λ a. map f (own a)) order) (begins own order i + k)
      ∙ ap (λ n. slice_get (flat_map (λ a. map f (own a)) order) (n + k)) (sym (begins_map f own order i))
      ∙ in_segment (λ a. map f (own a)) order i k a (f s) e (slice_get-map f (own a) k ∙ ap (option_map f) h)

  count_at : (i a : ℕ) → slice_get order i ≡ Some a → number_at (pos 0 ∷ map pos (map count order)) (i + 1) ≡ count a
  count_at i a e = number_is (pos 0 ∷ map pos (map count order)) (i + 1) (pos (count a)) (
      next_get (pos 0) (map pos (map count order)) i ∙ slice_get-map pos (map count order) i ∙ ap (option_map pos) (slice_get-map count order i ∙ ap (option_map count) e)
      )

  first_at : (i a : ℕ) → slice_get order i ≡ Some a → number_at (pos 0 ∷ offsets 1 (map count order)) (i + 1) ≡ 1 + begins own order i
  first_at i a e = number_is (pos 0 ∷ offsets 1 (map count order)) (i + 1) (pos (1 + begins own order i)) (next_get (pos 0) (offsets 1 (map count order)) i ∙ offset_at own order 1 i a e)

-- the statements that stand in arrays
module _ (actions : List ActionDef) (order : List ℕ) (a : Arrays)
    (firsts : a.stmt_firsts ≡ pos 0 ∷ offsets 1 (map (λ x. length (statements_of actions x)) order)) (counts : a.stmt_counts ≡ pos 0 ∷ map pos (map (λ x. length (statements_of actions x)) order))
    (kinds : a.stmt_kinds ≡ pos 0 ∷ flat_map (λ x. map (element_of of.Kind) (statements_of actions x)) order) (outer : a.stmt_outer ≡ pos 0 ∷ flat_map (λ x. map (element_of of.Outer) (statements_of actions x)) order)
    (args : a.stmt_args ≡ pos 0 ∷ flat_map (λ x. map (element_of of.Argument) (statements_of actions x)) order) (bases : a.stmt_bases ≡ pos 0 ∷ flat_map (λ x. map (element_of of.Base) (statements_of actions x)) order) where
  stands : (i k x : ℕ) (s : Statement) → slice_get order i ≡ Some x → slice_get (statements_of actions x) k ≡ Some s → IsPlain s → statement_at a (1 + begins (statements_of actions) order i + k) ≡ Some s
  stands i k x s e h p =
      (λ j. option_map (statement_of (unwrap_or (of_outer j) (pos 0)) (unwrap_or (of_args j) (pos 0)) (unwrap_or (of_bases j) (pos 0))) (option_and_then kind_of (of_kinds j)))
      ∙ ap (option_map (statement_of (element_of of.Outer s) (element_of of.Argument s) (element_of of.Base s))) (same_kind s.kind)
      ∙ ap (λ w. Some w) (same_statement s p)
    where
      place : ℕ
      place = 1 + begins (statements_of actions) order i + k

      of_outer : slice_get a.stmt_outer place ≡ Some (element_of of.Outer s)
      of_outer = ap (λ w. slice_get w place) outer ∙ element_there actions order (element_of of.Outer) i k x s e h

      of_args : slice_get a.stmt_args place ≡ Some (element_of of.Argument s)
      of_args = ap (λ w. slice_get w place) args ∙ element_there actions order (element_of of.Argument) i k x s e h

      of_bases : slice_get a.stmt_bases place ≡ Some (element_of of.Base s)
      of_bases = ap (λ w. slice_get w place) bases ∙ element_there actions order (element_of of.Base) i k x s e h

      of_kinds : slice_get a.stmt_kinds place ≡ Some (element_of of.Kind s)
      of_kinds = ap (λ w. slice_get w place) kinds ∙ element_there actions order (element_of of.Kind) i k x s e h

  -- by its number, from 1
  pub by_number : (i x n : ℕ) → slice_get order i ≡ Some x → AllByRecursion IsPlain (statements_of actions x) → statement a (i + 1) n ≡ numbered (statements_of actions x) n
  by_number i x zero e p = refl
  by_number i x (suc k) e p =
      (λ j. cond (nat_le 1 (suc k) && nat_le (suc k) (count_is j)) (statement_at a (first_is j + (suc k - 1))) None)
      ∙ ap (λ n. cond (nat_le 1 (suc k) && nat_le (suc k) (length (statements_of actions x))) (statement_at a (1 + begins (statements_of actions) order i + n)) None) same
      ∙ by (slice_get (statements_of actions x) k) refl
    where
      same : suc k - 1 ≡ k
      same = omega arith

      count_is : number_at a.stmt_counts (i + 1) ≡ length (statements_of actions x)
      count_is = ap (λ w. number_at w (i + 1)) counts ∙ count_at actions order i x e

      first_is : number_at a.stmt_firsts (i + 1) ≡ 1 + begins (statements_of actions) order i
      first_is = ap (λ w. number_at w (i + 1)) firsts ∙ first_at actions order i x e

      by : (o : Option Statement) → slice_get (statements_of actions x) k ≡ o → cond (nat_le 1 (suc k) && nat_le (suc k) (length (statements_of actions x))) (statement_at a (1 + begins (statements_of actions) order i + k)) None ≡ slice_get (statements_of actions x) k
      by (Some s) h =
          let less : k < length (statements_of actions x) = slice_get_within (statements_of actions x) k s h in
          let one : nat_le 1 (suc k) ≡ true = grind (arith, nat_tests) in
          let other : nat_le (suc k) (length (statements_of actions x)) ≡ true = grind (arith, nat_tests, less) in
          (λ j. cond (one j && other j) (statement_at a (1 + begins (statements_of actions) order i + k)) None) ∙ stands i k x s e h (all_at IsPlain (statements_of actions x) k s p h) ∙ sym h
      by None h =
          let one : nat_le 1 (suc k) ≡ true = grind (arith, nat_tests) in
          let other : nat_le (suc k) (length (statements_of actions x)) ≡ false = not_within (statements_of actions x) k h in
          (λ j. cond (one j && other j) (statement_at a (1 + begins (statements_of actions) order i + k)) None) ∙ sym h
        where
          not_within : (xs : List Statement) (k : ℕ) → slice_get xs k ≡ None → nat_le (suc k) (length xs) ≡ false
          not_within [] k h = grind (arith, nat_tests)
          not_within (x ∷ xs) zero h = absurd cc
          not_within (x ∷ xs) (suc k) h = let less : nat_le (suc k) (length xs) ≡ false = not_within xs k h in let same : nat_le (suc (suc k)) (suc (length xs)) ≡ nat_le (suc k) (length xs) = grind (arith, nat_tests) in same ∙ less

-- ---- the Spec's own

pub statements_told : (actions : List ActionDef) (x n : ℕ) → numbered (statements_of actions x) n ≡ spec_statements.statement_at (map action_of actions) x n
statements_told actions x n = by (numbered actions x) ∙ sym (ap chosen (numbered-map action_of actions x))
  where
    chosen : Option Action → Option Statement
    chosen o = elim o [ None ↦ None | Some y ↦ numbered y.statements n ]

    none_at : (n : ℕ) → numbered {X = Statement} [] n ≡ None
    none_at zero = refl
    none_at (suc i) = refl

    by : (o : Option ActionDef) → numbered (option_map_or (λ (y : ActionDef). y.statements) o []) n ≡ chosen (option_map action_of o)
    by None = none_at n
    by (Some y) = refl

-- what holds of each statement holds of those of each action
pub all_in_actions : (Q : Statement → Type 0) (actions : List ActionDef) → AllByRecursion Q (flat_map (λ (x : Action). x.statements) (map action_of actions)) → AllByRecursion (λ (y : ActionDef). AllByRecursion Q y.statements) actions
all_in_actions Q [] a = tt
all_in_actions Q (y ∷ actions) a = let p = all_parts Q y.statements (flat_map (λ (x : Action). x.statements) (map action_of actions)) a in (p.0, all_in_actions Q actions p.1)

-- what holds of the statements of each action, and of none, holds of those of each number
pub of_action : (Q : List Statement → Type 0) (actions : List ActionDef) → Q [] → AllByRecursion (λ (y : ActionDef). Q y.statements) actions → (x : ℕ) → Q (statements_of actions x)
of_action Q actions none all zero = none
of_action Q actions none all (suc i) = by (slice_get actions i) refl
  where
    by : (o : Option ActionDef) → slice_get actions i ≡ o → Q (option_map_or (λ (y : ActionDef). y.statements) o [])
    by None e = none
    by (Some y) e = all_at (λ (y : ActionDef). Q y.statements) actions i y all e

-- each statement of each action is plain
pub all_plain : (actions : List ActionDef) → AllByRecursion (λ (y : ActionDef). AllByRecursion IsPlain y.statements) actions → (x : ℕ) → AllByRecursion IsPlain (statements_of actions x)
all_plain actions a x = of_action (AllByRecursion IsPlain) actions tt a x
