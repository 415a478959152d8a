-- Automata over letters, and what each operator of an expression makes of its operands.
--     Auto S                         an automaton whose configurations are of type S
--     union_auto A B, cat_auto A B   each operator, as a function of automata that knows no expressions
--     settle make ls rs              the step that candidates on two sides make together
--     quiet A, pruned live A         A that asks only where it can step; A without the steps to what can't end
use Rattle.std.specs.Prelude.{ℕ, ◌-◌, ◌/◌, ◌%◌, ◌^◌, ℤ, Bool, true, false, cond, not, ◌&&◌, ◌||◌, List, [], ◌∷◌, ◌++◌, map, nat_eq, bit_or, Option, Some, None, is_some}
use Rattle.std.specs.declared.cmp.Ordering.{Ordering}
use Rattle.std.specs.declared.cmp.Ordering.TheVariants.{Equal}
use Rattle.std.specs.Ordering.{bool_cmp, eq_by_cmp}
use Rattle.std.specs.Option.{option_cmp, option_map}
use Rattle.std.specs.Cmp.Lexicographic.{slice_cmp}
use Rattle.std.specs.List.{filter, list_any, flat_map, range_with_len}
use Rattle.rl_labels.specs.declared.stamped.Stamp.{Stamp}
use Rattle.rl_types.specs.declared.numbers.Letter.{Letter}
use Rattle.rl_types.specs.KeyRange.{Range, in_range}
use Rattle.rl_automata.specs.declared.tree.Class.{Class}
use Rattle.rl_automata.specs.declared.tree.Class.TheVariants as C
use Rattle.rl_automata.specs.declared.tree.Kind.{Kind}
use Rattle.rl_automata.specs.declared.tree.Kind.TheVariants.{To, From, Eof, Error}
use Rattle.rl_sets.specs.Sets.{set_of}
use Rattle.rl_labels.specs.declared.carry.Carry.{Carry}
use Rattle.rl_automata.specs.declared.moves.Move.{Move}
use Rattle.rl_sets.specs.Order.{pair_order}
use Rattle.rl_labels.specs.Labels.{stamps_of, restamp, beats}
use Rattle.rl_labels.specs.Carries.{no_carry, all_of, both_of}

-- An automaton steps from configuration to configuration. `order` sorts the configurations, so that sets of them can
-- be written as lists. A step, and a final configuration that is left, carry stamped actions and priorities. `marks`
-- are the actions that stay with a configuration. `asked` are the conditions that have to be known at a key before
-- the step: bit i - 1 stands for condition i.
pub record Auto (S : Type 0) : Type 0 where
  pub order : S → S → Ordering
  pub start : S
  pub step : S → Letter → Option (Move S)
  pub final : S → Bool
  pub out : S → Carry
  pub marks : S → Kind → List Stamp
  pub asked : S → ℤ → ℕ

-- ---- letters

-- whether condition c is among the truths
abbrev pub holds : ℕ → ℕ → Bool
holds c truths = nat_eq ((truths / 2 ^ (c - 1)) % 2) 1

-- each set of truths of 8 conditions
unfoldable pub every_truths : List ℕ
every_truths = range_with_len 0 256

-- ---- parts that may be absent

-- what f says of the part, or d where it is absent
abbrev pub on_part : {S X : Type 0} → X → (S → X) → Option S → X
on_part d f None = d
on_part d f (Some s) = f s

abbrev pub first : {X : Type 0} → List X → Option X
first [] = None
first (x ∷ xs) = Some x

abbrev pub listed : {X : Type 0} → Option X → List X
listed None = []
listed (Some x) = x ∷ []

-- ---- candidates for a step

module _ {S : Type 0} where
  abbrev pub carries : List (Move S) → List Carry
  carries ms = map (λ m. m.carry) ms

  abbrev pub targets : List (Move S) → List S
  targets ms = map (λ m. m.to) ms

  -- those that none of all the candidates beats
  abbrev pub kept : List Carry → List (Move S) → List (Move S)
  kept all ms = filter (λ m. not (list_any (λ c. beats c.table m.carry.table) all)) ms

  -- the same step, which carries c too
  abbrev pub carrying : Carry → Move S → Move S
  carrying c m = record { to = m.to; carry = both_of c m.carry }

  -- the same step, whose i-th action, from 0, has the stamp (base, i)
  abbrev pub restamped : ℕ → Move S → Move S
  restamped base m =
      record { to = m.to; carry = record { actions = restamp base m.carry.actions; table = m.carry.table } }

-- the step to this target that carries what all those that were kept carry; none where none was kept
abbrev pub step_to : {C : Type 0} → C → List Carry → Option (Move C)
step_to target [] = None
step_to target (c ∷ cs) = Some (record { to = target; carry = all_of (c ∷ cs) })

-- The candidates of two sides, cut as one set: those that are kept make the target, and their labels are joined.
-- Without candidates, and where each is beaten, there is no step.
abbrev pub settle : {S T C : Type 0} → (List S → List T → C) → List (Move S) → List (Move T) → Option (Move C)
settle make ls rs =
    let all = carries ls ++ carries rs in
    let left = kept all ls in
    let right = kept all rs in
    step_to (make (targets left) (targets right)) (carries left ++ carries right)

abbrev pub is_none_left : {X : Type 0} → List X → Bool
is_none_left [] = true
is_none_left (x ∷ xs) = false

-- a cycle of priorities: there are candidates, and each is beaten
abbrev pub jams : {S T : Type 0} → List (Move S) → List (Move T) → Bool
jams ls rs =
    let all = carries ls ++ carries rs in
    not (is_none_left all) && is_none_left (carries (kept all ls) ++ carries (kept all rs))

-- ---- what several configurations give together

-- the conditions that they ask
abbrev pub asked_of : {S : Type 0} → Auto S → ℤ → List S → ℕ
asked_of A k [] = 0
asked_of A k (s ∷ ss) = bit_or (A.asked s k) (asked_of A k ss)

-- their steps
abbrev pub steps_of : {S : Type 0} → Auto S → Letter → List S → List (Move S)
steps_of A l ss = flat_map (λ s. listed (A.step s l)) ss

-- the step of a part, if it is there and has one
abbrev pub part_moves : {S : Type 0} → Auto S → Letter → Option S → List (Move S)
part_moves A l c = on_part [] (λ s. listed (A.step s l)) c

abbrev pub same_kind : Kind → Kind → Bool
same_kind To To = true
same_kind From From = true
same_kind Eof Eof = true
same_kind Error Error = true
same_kind j k = false

-- a step to a target that `live` passes
abbrev pub only_live : {S : Type 0} → (S → Bool) → Option (Move S) → Option (Move S)
only_live live None = None
only_live live (Some m) = cond (live m.to) (Some m) None

-- ---- one character, the empty word, and no word

-- before and after the character: `true` is after
abbrev pub set_auto : List Range → Auto Bool
set_auto ranges = record {
  order = bool_cmp;
  start = false;
  step = λ c l. cond (not c && list_any (in_range l.key) ranges) (Some (record { to = true; carry = no_carry })) None;
  final = λ c. c;
  out = λ c. no_carry;
  marks = λ c k. [];
  asked = λ c k. 0;
}

-- the one configuration of the empty word, which is final, and of no word, which is not
abbrev pub point_auto : Bool → Auto (Unit {0})
point_auto is_final = record {
  order = λ c d. Equal;
  start = tt;
  step = λ c l. None;
  final = λ c. is_final;
  out = λ c. no_carry;
  marks = λ c k. [];
  asked = λ c k. 0;
}

-- ---- two operands side by side

module _ {S T : Type 0} (A : Auto S) (B : Auto T) where
  -- an operand is absent once it has no way on
  abbrev pub Pair : Type 0
  Pair = Option S × Option T

  -- `is_final` tells from the two operands whether the whole is final
  abbrev pub both_auto : (Bool → Bool → Bool) → Auto Pair
  both_auto is_final = record {
    order = pair_order (option_cmp A.order) (option_cmp B.order);
    start = (Some A.start, Some B.start);
    step = λ c l. settle (λ ss ts. (first ss, first ts)) (part_moves A l c.0) (part_moves B l c.1);
    final = λ c. is_final (on_part false A.final c.0) (on_part false B.final c.1);
    out = λ c. cond (is_final (on_part false A.final c.0) (on_part false B.final c.1))
        (both_of (on_part no_carry A.out c.0) (on_part no_carry B.out c.1))
        no_carry;
    marks = λ c k. stamps_of (on_part [] (λ s. A.marks s k) c.0 ++ on_part [] (λ t. B.marks t k) c.1);
    asked = λ c k. bit_or (on_part 0 (λ s. A.asked s k) c.0) (on_part 0 (λ t. B.asked t k) c.1);
  }

  abbrev pub union_auto : Auto Pair
  union_auto = both_auto (λ a b. a || b)

  abbrev pub and_auto : Auto Pair
  and_auto = both_auto (λ a b. a && b)

  abbrev pub minus_auto : Auto Pair
  minus_auto = both_auto (λ a b. a && not b)

  -- whether the candidates of the two operands are a cycle
  abbrev pub both_jams : Pair → Letter → Bool
  both_jams c l = jams (part_moves A l c.0) (part_moves B l c.1)

-- ---- one operand after the other

module _ {S T : Type 0} (A : Auto S) (B : Auto T) where
  -- the left part, and the right parts that were begun
  abbrev pub Chain : Type 0
  Chain = Option S × List T

  abbrev pub left_final : Chain → Bool
  left_final c = on_part false A.final c.0

  -- what the start of the right operand gives, only where the left part is final
  abbrev pub next : {X : Type 0} → Chain → X → X → X
  next c x none = cond (left_final c) x none

  -- the left part is final, and the empty word ends the right operand
  abbrev pub ends_at_once : Chain → Bool
  ends_at_once c = left_final c && B.final B.start

  abbrev pub chain_final : Chain → Bool
  chain_final c = list_any B.final c.1 || ends_at_once c

  -- the steps of the right parts and, where the left part is left, the first step of the right operand with its out
  abbrev pub right_moves : Chain → Letter → List (Move T)
  right_moves c l = steps_of B l c.1 ++ next c (map (carrying (on_part no_carry A.out c.0)) (listed (B.step B.start l))) []

  abbrev pub cat_auto : Auto Chain
  cat_auto = record {
    order = pair_order (option_cmp A.order) (slice_cmp B.order);
    start = (Some A.start, []);
    step = λ c l. settle (λ ss ts. (first ss, set_of B.order ts)) (part_moves A l c.0) (right_moves c l);
    final = chain_final;
    out = λ c. cond (chain_final c)
        (all_of (map B.out c.1 ++ cond (ends_at_once c) (on_part no_carry A.out c.0 ∷ B.out B.start ∷ []) []))
        no_carry;
    marks = λ c k. stamps_of (on_part [] (λ s. A.marks s k) c.0 ++ (flat_map (λ t. B.marks t k) c.1 ++ next c (B.marks B.start k) []));
    asked = λ c k. bit_or (on_part 0 (λ s. A.asked s k) c.0) (bit_or (asked_of B k c.1) (next c (B.asked B.start k) 0));
  }

  abbrev pub cat_jams : Chain → Letter → Bool
  cat_jams c l = jams (part_moves A l c.0) (right_moves c l)

-- ---- rounds of one operand

module _ {S : Type 0} (A : Auto S) where
  abbrev pub is_start : S → Bool
  is_start c = eq_by_cmp A.order c A.start

  -- the step of a member; a step of the operand's start is restamped
  abbrev pub round_step : ℕ → S → Letter → List (Move S)
  round_step base s l = cond (is_start s) (map (restamped base) (listed (A.step s l))) (listed (A.step s l))

  -- the steps of one member: its own and, where it is final, the first step of a new round with its out
  abbrev pub member_steps : ℕ → Letter → S → List (Move S)
  member_steps base l s =
      round_step base s l ++ cond (A.final s) (map (carrying (A.out s)) (round_step base A.start l)) []

  -- the configuration that a repetition begins with
  abbrev pub only_start : List S → Bool
  only_start c = eq_by_cmp (slice_cmp A.order) c (A.start ∷ [])

  -- a configuration is the members that were begun; the first one is begun at once
  abbrev pub star_auto : ℕ → Auto (List S)
  star_auto base = record {
    order = slice_cmp A.order;
    start = A.start ∷ [];
    step = λ c l. settle {S = S} (λ ss ts. set_of A.order ts) [] (flat_map (member_steps base l) c);
    final = λ c. only_start c || list_any A.final c;
    out = λ c. cond (only_start c || list_any A.final c) (all_of (map A.out c)) no_carry;
    marks = λ c k. stamps_of (flat_map (λ s. A.marks s k ++ cond (A.final s) (A.marks A.start k) []) c);
    asked = λ c k. bit_or (asked_of A k c) (cond (list_any A.final c) (A.asked A.start k) 0);
  }

  abbrev pub star_jams : ℕ → List S → Letter → Bool
  star_jams base c l = jams {S = S} [] (flat_map (member_steps base l) c)

  -- ---- embeddings

  -- the steps of the start carry x, and its out does where it is final
  abbrev pub enter_auto : Carry → Auto S
  enter_auto x = record A {
    step = λ c l. cond (is_start c) (option_map (carrying x) (A.step c l)) (A.step c l);
    out = λ c. cond (is_start c && A.final c) (both_of x (A.out c)) (A.out c);
  }

  -- the steps into a final configuration carry x
  abbrev pub finish_auto : Carry → Auto S
  finish_auto x = record A { step = λ c l. option_map (λ m. cond (A.final m.to) (carrying x m) m) (A.step c l) }

  -- every step carries x
  abbrev pub every_auto : Carry → Auto S
  every_auto x = record A { step = λ c l. option_map (carrying x) (A.step c l) }

  -- the out of each final configuration carries x
  abbrev pub leave_auto : Carry → Auto S
  leave_auto x = record A { out = λ c. cond (A.final c) (both_of x (A.out c)) (A.out c) }

  abbrev pub in_class : Class → S → Bool
  in_class C.Start c = is_start c
  in_class C.NotStart c = not (is_start c)
  in_class C.All c = true
  in_class C.Final c = A.final c
  in_class C.NotFinal c = not (A.final c)
  in_class C.Middle c = not (is_start c) && not (A.final c)

  -- the configurations of the class have the mark
  abbrev pub mark_auto : Class → Kind → Stamp → Auto S
  mark_auto class kind x =
      record A { marks = λ c k. cond (same_kind kind k && in_class class c) (stamps_of (x ∷ A.marks c k)) (A.marks c k) }

  -- ---- conditions and pruning

  -- whether some truths at this key give a step
  abbrev pub steps_at : S → ℤ → Bool
  steps_at c k = list_any (λ t. is_some (A.step c (record { key = k; truths = t }))) every_truths

  -- these conditions where some truths give a step, else none
  abbrev pub asking : (S → ℤ → ℕ) → S → ℤ → ℕ
  asking asks c k = cond (steps_at c k) (asks c k) 0

  -- the step, only where the condition holds
  abbrev pub guarded_step : ℕ → S → Letter → Option (Move S)
  guarded_step condition c l = cond (holds condition l.truths) (A.step c l) None

  -- the step, only where its target can still end
  abbrev pub live_step : (S → Bool) → S → Letter → Option (Move S)
  live_step live c l = only_live live (A.step c l)

-- The same, which asks nothing where no truths give a step. Where no candidates are a cycle of priorities, a union, a
-- concatenation and a repetition step wherever a part does, so that there it changes nothing.
abbrev pub quiet : {S : Type 0} → Auto S → Auto S
quiet A = record A { asked = asking A A.asked }

-- the same without the steps whose target can't end any more, as `live` tells
abbrev pub pruned : {S : Type 0} → (S → Bool) → Auto S → Auto S
pruned live A = quiet (record A { step = live_step A live })

-- a step exists only where the condition holds, and where there could be one the condition is asked
abbrev pub when_auto : {S : Type 0} → ℕ → Auto S → Auto S
when_auto c A =
    let guarded = record A { step = guarded_step A c } in
    record guarded { asked = asking guarded (λ s k. bit_or (2 ^ (c - 1)) (A.asked s k)) }
