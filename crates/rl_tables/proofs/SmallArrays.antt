-- The arrays of a small machine are valid, and of ten changes of them the first element that is not right.
use lib.Count.{ones}
use Rattle.std.proofs.Common.{◌≡◌, ◌≢◌, ℕ, zero, suc, ◌+◌, ◌*◌, ◌<◌, ◌≤◌, List, [], ◌∷◌, Some, None, refl, ap, arith, codes, inl, inr, lit<, true, false}
use Rattle.std.proofs.lemmas.Bool.{cases_lt}
use Rattle.std.proofs.lemmas.Int.{ints}
use Rattle.std.specs.Prelude.{ℤ, pos, ◌+ℤ◌, ◌<ℤ◌, IfSome, IsSomeAnd, slice_get}
use Rattle.rl_arrays.specs.declared.arrays.Arrays.{Arrays}
use Rattle.rl_arrays.specs.declared.arrays.ArrayName.{ArrayName}
use Rattle.rl_arrays.specs.declared.arrays.ArrayName.TheVariants as the
use Rattle.rl_arrays.specs.declared.arrays.TheConstants.{ORDER}
use Rattle.rl_arrays.specs.Words.{natural, sum_before, IsBetween}
use Rattle.rl_arrays.specs.Lists.{left_at, IsList}
use Rattle.rl_arrays.specs.Sizes.{has, due}
use Rattle.rl_arrays.specs.KeyRules.{IsSingle, IsEnd, KeySays}
use Rattle.rl_arrays.specs.Rules.{HasKind, LengthSays, AskSays, TargetOf, TargetSays, StepListSays, ListSays, EndListSays, TokenListSays, KindSays, HomeSays, CountSays, Says}
use Rattle.rl_arrays.specs.Valid.{Right, span, FirstWrong, SoundBefore, IsBad}
use Rattle.rl_arrays.proofs.Order.{all_sound}
use Rattle.rl_tables.specs.Rows.{one, OneIsValid, NoSuchKey, NoSuchCondition, NoSuchState, NoListBegins, TooFewLists, NoSuchAction, FinalBehindAll, NoSuchVersion, UsesInVersionOne, NoSuchCell}

-- ---- what holds of so many numbers, one by one

abbrev AllFrom : (ℕ → Type 0) → ℕ → ℕ → Type 0
AllFrom P i zero = Unit {0}
AllFrom P i (suc n) = P i × AllFrom P (i + 1) n

from : (P : ℕ → Type 0) (i n : ℕ) → AllFrom P i n → (k : ℕ) → i ≤ k → k < i + n → P k
from P i zero h k low high = absurd (omega arith)
from P i (suc n) h k low high = elim (cases_lt i k) [
  | inl less ↦ from P (i + 1) n h.1 k (omega arith) (omega arith)
  | inr ge ↦ let same : k ≡ i = omega arith in rw same h.0
]

below : (P : ℕ → Type 0) (n : ℕ) → AllFrom P 0 n → (k : ℕ) → k < n → P k
below P n h k less = from P 0 n h k (omega arith) (omega arith)

-- an array that has as many elements as are due, of which each is as is said
rights : (a : Arrays) (array : ArrayName) (n : ℕ) → has a array ≡ n → due a array ≡ n → AllFrom (Says a array) 0 n → FirstWrong a array None
rights a array n h d f k less =
    let within : k < n = omega (arith, h, d, less) in
    record { there = omega (arith, h, within); due = omega (arith, d, within); says = below (Says a array) n f k within }

some_same : {X : Type 0} (x y : X) → Some x ≡ Some y → x ≡ y
some_same x y e = cc

-- two places that are not the same
apart : {P : Type 0} (m n : ℕ) → m ≢ n → Some (pos m) ≡ Some (pos n) → P
apart m n ne e = absurd (ne (ap natural (some_same (pos m) (pos n) e)))

-- ---- changes of the arrays

-- the version, the uses of cells, the least final state
record Head : Type 0 where
  version : ℤ
  uses : List ℤ
  first_final : ℤ

-- in version 1
abbrev head_one : ℤ → Head
head_one first_final = record { version = pos 1; uses = []; first_final = first_final }

abbrev changed : Head → List ℤ → List ℤ → List ℤ → List ℤ → List ℤ → Arrays
changed head keys asks targs lists from_lists = record one {
  version = head.version;
  first_final = head.first_final;
  trans_keys = keys;
  cell_uses = head.uses;
  cell_asks = asks;
  trans_targs = targs;
  trans_lists = lists;
  from_lists = from_lists;
}

abbrev keys : List ℤ
keys = one.trans_keys

abbrev asks : List ℤ
asks = one.cell_asks

abbrev targs : List ℤ
targs = one.trans_targs

abbrev lists : List ℤ
lists = one.trans_lists

abbrev zeros : List ℤ
zeros = one.from_lists

-- ---- actions, and the numbers of keys and cells

module _ (f : Head) (keys asks targs lists froms : List ℤ) where
  abbrev changed_all : Arrays
  changed_all = changed f keys asks targs lists froms

  actions_right : FirstWrong changed_all the.Actions None
  unfolding left_at
  actions_right = rights changed_all the.Actions 3 refl refl (
    record { empty = λ e. refl; count = λ e. omega (arith, ints); member = λ h. absurd (omega arith) },
    (
      record { empty = λ e. absurd (omega arith); count = λ e. omega (arith, ints); member = λ h. absurd (omega arith) },
      (
        record { empty = λ e. absurd (omega arith); count = λ e. omega (arith, ints); member = λ h. (omega (arith, ints), omega (arith, ints)) },
        tt,
      ),
    ),
  )

  key_offsets_right : FirstWrong changed_all the.KeyOffsets None
  unfolding sum_before
  key_offsets_right = rights changed_all the.KeyOffsets 4 refl refl (refl, (refl, (refl, (refl, tt))))

  cell_offsets_right : FirstWrong changed_all the.CellOffsets None
  unfolding sum_before
  cell_offsets_right = rights changed_all the.CellOffsets 4 refl refl (refl, (refl, (refl, (refl, tt))))

  -- all states are plain
  never : (s low high : ℕ) {P : Type 0} → 1 ≤ low → HasKind changed_all s low high → P
  never zero low high h k = absurd (omega (arith, ints, h, k.0))
  never (suc zero) low high h k = absurd (omega (arith, ints, h, k.0))
  never (suc (suc zero)) low high h k = absurd (omega (arith, ints, h, k.0))
  never (suc (suc (suc zero))) low high h k = absurd (omega (arith, ints, h, k.0))
  never (suc (suc (suc (suc s)))) low high h k = absurd k

  single_lengths_right : FirstWrong changed_all the.SingleLengths None
  single_lengths_right = rights changed_all the.SingleLengths 4 refl refl (
    record { positive = omega (arith, ints); error = λ e. refl; closed = λ k. refl },
    (
      record { positive = omega (arith, ints); error = λ e. absurd (omega arith); closed = λ k. never 1 4 4 (omega arith) k },
      (
        record { positive = omega (arith, ints); error = λ e. absurd (omega arith); closed = λ k. never 2 4 4 (omega arith) k },
        (
          record { positive = omega (arith, ints); error = λ e. refl; closed = λ k. refl },
          tt,
        ),
      ),
    ),
  )

  no_ranges : (s : ℕ) → LengthSays changed_all s (pos 0)
  no_ranges s = record { positive = omega (arith, ints); error = λ e. refl; closed = λ k. refl }

  range_lengths_right : FirstWrong changed_all the.RangeLengths None
  range_lengths_right = rights changed_all the.RangeLengths 4 refl refl (no_ranges 0, (no_ranges 1, (no_ranges 2, (no_ranges 3, tt))))

  -- no state has a second single key, and none has a range
  no_second : (s p place : ℕ) {P : Type 0} → IsSingle changed_all s (p + 1) place → P
  no_second s p place k = few s k.within
    where
      few : (s : ℕ) {P : Type 0} → IsSomeAnd (slice_get one.single_lengths s) (λ singles. pos (p + 1) <ℤ singles) → P
      few zero k = absurd (omega (arith, ints, k))
      few (suc zero) k = absurd (omega (arith, ints, k))
      few (suc (suc zero)) k = absurd (omega (arith, ints, k))
      few (suc (suc (suc zero))) k = absurd (omega (arith, ints, k))
      few (suc (suc (suc (suc s)))) k = absurd k

  no_end : (s p place : ℕ) {P : Type 0} → IsEnd changed_all s p place → P
  no_end s p place k = few s k.within
    where
      few : (s : ℕ) {P : Type 0} → IsSomeAnd (slice_get one.range_lengths s) (λ ranges. pos p <ℤ (ranges +ℤ ranges)) → P
      few zero k = absurd (omega (arith, ints, k))
      few (suc zero) k = absurd (omega (arith, ints, k))
      few (suc (suc zero)) k = absurd (omega (arith, ints, k))
      few (suc (suc (suc zero))) k = absurd (omega (arith, ints, k))
      few (suc (suc (suc (suc s)))) k = absurd k

-- ---- keys

first_key : (f : Head) (second : ℤ) (asks targs lists froms : List ℤ) → KeySays (changed f (pos 97 ∷ second ∷ pos 0 ∷ []) asks targs lists froms) 0 (pos 97)
unfolding sum_before
first_key f second asks targs lists froms = record {
  closing = λ e. apart 2 0 (omega arith) e;
  single = λ s p k. refl;
  ascends = λ s p k. no_second f (pos 97 ∷ second ∷ pos 0 ∷ []) asks targs lists froms s p 0 k;
  end = λ s p k. refl;
  disjoint = λ s p k. no_end f (pos 97 ∷ second ∷ pos 0 ∷ []) asks targs lists froms s (p + 1) 0 k;
  apart = λ s q r other k. no_end f (pos 97 ∷ second ∷ pos 0 ∷ []) asks targs lists froms s (2 * q) 0 k;
}

module _ (f : Head) (asks targs lists froms : List ℤ) where
  abbrev changed_behind_keys : Arrays
  changed_behind_keys = changed f keys asks targs lists froms

  trans_keys_right : FirstWrong changed_behind_keys the.TransKeys None
  unfolding sum_before
  trans_keys_right = rights changed_behind_keys the.TransKeys 3 refl refl (
    first_key f (pos 98) asks targs lists froms,
    (
      record {
        closing = λ e. apart 2 1 (omega arith) e;
        single = λ s p k. refl;
        ascends = λ s p k. no_second f keys asks targs lists froms s p 1 k;
        end = λ s p k. refl;
        disjoint = λ s p k. no_end f keys asks targs lists froms s (p + 1) 1 k;
        apart = λ s q r other k. no_end f keys asks targs lists froms s (2 * q) 1 k;
      },
      (
        record {
          closing = λ e. refl;
          single = λ s p k. refl;
          ascends = λ s p k. no_second f keys asks targs lists froms s p 2 k;
          end = λ s p k. refl;
          disjoint = λ s p k. no_end f keys asks targs lists froms s (p + 1) 2 k;
          apart = λ s q r other k. no_end f keys asks targs lists froms s (2 * q) 2 k;
        },
        tt,
      ),
    ),
  )

-- ---- cells

no_uses_right : (f : ℤ) (asks targs lists froms : List ℤ) → FirstWrong (changed (head_one f) keys asks targs lists froms) the.CellUses None
no_uses_right f asks targs lists froms = rights (changed (head_one f) keys asks targs lists froms) the.CellUses 0 refl refl tt

module _ (f : ℤ) (targs lists froms : List ℤ) where
  abbrev changed_behind_cells : Arrays
  changed_behind_cells = changed (head_one f) keys asks targs lists froms

  nothing_asked : (c : ℕ) → AskSays changed_behind_cells c (pos 0)
  nothing_asked c = record { closing = λ e. refl; positive = omega (arith, ints); known = lit< tt }

  cell_asks_right : FirstWrong changed_behind_cells the.CellAsks None
  unfolding sum_before
  cell_asks_right = rights changed_behind_cells the.CellAsks 3 refl refl (nothing_asked 0, (nothing_asked 1, (nothing_asked 2, tt)))

  cell_entries_right : FirstWrong changed_behind_cells the.CellEntries None
  unfolding sum_before ones
  cell_entries_right = rights changed_behind_cells the.CellEntries 3 refl refl (
    record { closing = λ e. refl; sum = λ n. refl },
    (
      record { closing = λ e. apart 2 1 (omega arith) e; sum = λ n. refl },
      (
        record { closing = λ e. refl; sum = λ n. absurd (n refl) },
        tt,
      ),
    ),
  )

  plain_target : (s : ℕ) (target : ℤ) → IsSomeAnd (slice_get one.state_kinds (natural target)) (IsBetween 0 0) → TargetOf changed_behind_cells s target
  plain_target s target plain = record {
    plain = λ k. plain_one (natural target) plain;
    inner = λ k. never (head_one f) keys asks targs lists froms s 1 3 (omega arith) k;
    home = λ k. never (head_one f) keys asks targs lists froms s 1 3 (omega arith) k;
  }
    where
      plain_one : (t : ℕ) → IsSomeAnd (slice_get one.state_kinds t) (IsBetween 0 0) → IfSome (slice_get one.state_kinds t) (IsBetween 0 0)
      plain_one t p = elim (slice_get one.state_kinds t) as (λ o. IsSomeAnd o (IsBetween 0 0) → IfSome o (IsBetween 0 0)) [ None ↦ λ p. absurd p | Some x ↦ λ p. p ] p

first_target : (f : ℤ) (second : ℤ) (lists froms : List ℤ) → TargetSays (changed (head_one f) keys asks (pos 2 ∷ second ∷ pos 0 ∷ []) lists froms) 0 (pos 2)
unfolding sum_before ones
first_target f second lists froms = record {
  closing = λ e. apart 2 0 (omega arith) e;
  state = (omega (arith, ints), omega (arith, ints));
  kinds = λ s k. plain_target f (pos 2 ∷ second ∷ pos 0 ∷ []) lists froms s (pos 2) (omega (arith, ints), omega (arith, ints));
}

module _ (f : ℤ) (lists froms : List ℤ) where
  abbrev changed_behind_targets : Arrays
  changed_behind_targets = changed (head_one f) keys asks targs lists froms

  trans_targs_right : FirstWrong changed_behind_targets the.TransTargs None
  unfolding sum_before ones
  trans_targs_right = rights changed_behind_targets the.TransTargs 3 refl refl (
    first_target f (pos 3) lists froms,
    (
      record {
        closing = λ e. apart 2 1 (omega arith) e;
        state = (omega (arith, ints), omega (arith, ints));
        kinds = λ s k. plain_target f targs lists froms s (pos 3) (omega (arith, ints), omega (arith, ints));
      },
      (
        record {
          closing = λ e. refl;
          state = (omega (arith, ints), omega (arith, ints));
          kinds = λ s k. plain_target f targs lists froms s (pos 0) (omega (arith, ints), omega (arith, ints));
        },
        tt,
      ),
    ),
  )

-- ---- lists

empty_list : IsList one.actions (pos 0)
unfolding left_at
empty_list = record { positive = omega (arith, ints); within = lit< tt; begins = refl }

list_of_x : IsList one.actions (pos 1)
unfolding left_at
list_of_x = record { positive = omega (arith, ints); within = lit< tt; begins = refl }

first_list : (f : ℤ) (second : ℤ) (froms : List ℤ) → StepListSays (changed (head_one f) keys asks targs (pos 1 ∷ second ∷ pos 0 ∷ []) froms) 0 (pos 1)
unfolding sum_before ones
first_list f second froms = record { closing = λ e. apart 2 0 (omega arith) e; list = list_of_x; stays = λ e. apart 2 0 (omega arith) e }

module _ (f : ℤ) (froms : List ℤ) where
  abbrev changed_behind_steps : Arrays
  changed_behind_steps = changed (head_one f) keys asks targs lists froms

  trans_lists_right : FirstWrong changed_behind_steps the.TransLists None
  unfolding sum_before ones
  trans_lists_right = rights changed_behind_steps the.TransLists 3 refl refl (
    first_list f (pos 1) froms,
    (
      record { closing = λ e. apart 2 1 (omega arith) e; list = list_of_x; stays = λ e. apart 3 0 (omega arith) e },
      (
        record { closing = λ e. refl; list = empty_list; stays = λ e. refl },
        tt,
      ),
    ),
  )

no_list : (f : ℤ) (froms : List ℤ) (s : ℕ) → ListSays (changed (head_one f) keys asks targs lists froms) s (pos 0)
no_list f froms s = record { list = empty_list; error = λ e. refl }

-- ---- what does not depend on the least final state

module _ (f : ℤ) where
  abbrev other_final : Arrays
  other_final = changed (head_one f) keys asks targs lists zeros

  from_lists_right : FirstWrong other_final the.FromLists None
  from_lists_right = rights other_final the.FromLists 4 refl refl (no_list f zeros 0, (no_list f zeros 1, (no_list f zeros 2, (no_list f zeros 3, tt))))

  to_lists_right : FirstWrong other_final the.ToLists None
  to_lists_right = rights other_final the.ToLists 4 refl refl (no_list f zeros 0, (no_list f zeros 1, (no_list f zeros 2, (no_list f zeros 3, tt))))

  no_end_list : (s : ℕ) → EndListSays other_final s (pos 0)
  no_end_list s = record { list = empty_list; error = λ e. refl; scanner = λ k. refl }

  eof_lists_right : FirstWrong other_final the.EofLists None
  eof_lists_right = rights other_final the.EofLists 4 refl refl (no_end_list 0, (no_end_list 1, (no_end_list 2, (no_end_list 3, tt))))

  error_lists_right : FirstWrong other_final the.ErrorLists None
  error_lists_right = rights other_final the.ErrorLists 4 refl refl (no_end_list 0, (no_end_list 1, (no_end_list 2, (no_end_list 3, tt))))

  no_token : (s : ℕ) → TokenListSays other_final s (pos 0)
  no_token s = record { list = empty_list; error = λ e. refl; match = λ n. absurd (n refl) }

  accept_lists_right : FirstWrong other_final the.AcceptLists None
  accept_lists_right = rights other_final the.AcceptLists 4 refl refl (no_token 0, (no_token 1, (no_token 2, (no_token 3, tt))))

  plain_kind : (s : ℕ) → KindSays other_final s (pos 0)
  plain_kind s = record {
    known = (omega (arith, ints), omega (arith, ints));
    error = λ e. refl;
    start = λ e. absurd (omega (arith, ints, e));
    inner = λ h. absurd (omega (arith, ints, h));
  }

  state_kinds_right : FirstWrong other_final the.StateKinds None
  state_kinds_right = rights other_final the.StateKinds 4 refl refl (plain_kind 0, (plain_kind 1, (plain_kind 2, (plain_kind 3, tt))))

  no_home : (s : ℕ) → HomeSays other_final s (pos 0)
  no_home s = record { plain = λ k. refl; scanner = λ k. never (head_one f) keys asks targs lists zeros s 1 4 (omega arith) k }

  homes_right : FirstWrong other_final the.Homes None
  homes_right = rights other_final the.Homes 4 refl refl (no_home 0, (no_home 1, (no_home 2, (no_home 3, tt))))

  action_names_right : FirstWrong other_final the.ActionNames None
  action_names_right = rights other_final the.ActionNames 2 refl refl (
    record { empty = λ e. refl; formed = λ h. absurd (omega arith); new = λ k h. absurd (omega arith) },
    (
      record { empty = λ e. absurd (omega arith); formed = λ h. refl; new = λ k h e. new k h e },
      tt,
    ),
  )
    where
      new : (k : ℕ) → k < 1 → slice_get one.action_names k ≡ Some (codes "x") → ⊥
      new zero h e = cc
      new (suc k) h e = omega arith

  stmt_firsts_right : FirstWrong other_final the.StmtFirsts None
  unfolding sum_before
  stmt_firsts_right = rights other_final the.StmtFirsts 2 refl refl (
    record { none = λ e. refl; sum = λ h. absurd (omega arith) },
    (
      record { none = λ e. absurd (omega arith); sum = λ h. refl },
      tt,
    ),
  )

  no_statements : (k : ℕ) → CountSays other_final k (pos 0)
  no_statements k = record {
    positive = omega (arith, ints);
    none = λ e. refl;
    from = λ s m. refl;
    to = λ s m. refl;
    inner = λ s e m n l. refl;
    few = omega arith;
  }

  stmt_counts_right : FirstWrong other_final the.StmtCounts None
  stmt_counts_right = rights other_final the.StmtCounts 2 refl refl (no_statements 0, (no_statements 1, tt))

  stmt_kinds_right : FirstWrong other_final the.StmtKinds None
  unfolding sum_before
  stmt_kinds_right = rights other_final the.StmtKinds 1 refl refl (record { none = λ e. refl; known = λ h. absurd (omega arith) }, tt)

  stmt_outer_right : FirstWrong other_final the.StmtOuter None
  stmt_outer_right = rights other_final the.StmtOuter 1 refl refl (record { none = λ e. refl; known = (omega (arith, ints), omega (arith, ints)) }, tt)

  stmt_args_right : FirstWrong other_final the.StmtArgs None
  stmt_args_right = rights other_final the.StmtArgs 1 refl refl (record { none = λ e. refl; entry = tt }, tt)

  stmt_bases_right : FirstWrong other_final the.StmtBases None
  stmt_bases_right = rights other_final the.StmtBases 1 refl refl (record { none = λ e. refl; known = (omega (arith, ints), omega (arith, ints)) }, tt)

  cond_names_right : FirstWrong other_final the.CondNames None
  cond_names_right = rights other_final the.CondNames 1 refl refl (record { empty = λ e. refl; formed = λ h. absurd (omega arith); new = λ k h. absurd (omega arith) }, tt)

  entry_names_right : FirstWrong other_final the.EntryNames None
  entry_names_right = rights other_final the.EntryNames 2 refl refl (
    record { empty = λ e. refl; formed = λ h. absurd (omega arith); new = λ k h. absurd (omega arith) },
    (
      record { empty = λ e. absurd (omega arith); formed = λ h. refl; new = λ k h e. new k h e },
      tt,
    ),
  )
    where
      new : (k : ℕ) → k < 1 → slice_get one.entry_names k ≡ Some (codes "main") → ⊥
      new zero h e = cc
      new (suc k) h e = omega arith

-- ---- array by array

abbrev RightAt : Arrays → ℕ → Type 0
RightAt a place = IfSome (slice_get ORDER place) (λ array. FirstWrong a array None)

-- some more arrays are right
more : (a : Arrays) (m n : ℕ) → SoundBefore a m → AllFrom (RightAt a) m n → SoundBefore a (m + n)
more a m n before h k less = elim (cases_lt k m) [
  | inl l ↦ before k l
  | inr ge ↦ from (RightAt a) m n h k ge less
]

none_before : (a : Arrays) → SoundBefore a 0
none_before a k h = absurd (omega arith)

sound_offsets : (h : Head) (keys asks targs lists froms : List ℤ) → SoundBefore (changed h keys asks targs lists froms) 2
sound_offsets h keys asks targs lists froms = let a = changed h keys asks targs lists froms in
    more a 0 2 (none_before a) (actions_right h keys asks targs lists froms, (key_offsets_right h keys asks targs lists froms, tt))

sound_keys : (h : Head) (asks targs lists froms : List ℤ) → SoundBefore (changed h keys asks targs lists froms) 6
sound_keys h asks targs lists froms = more (changed h keys asks targs lists froms) 2 4 (sound_offsets h keys asks targs lists froms)
    (trans_keys_right h asks targs lists froms, (single_lengths_right h keys asks targs lists froms, (range_lengths_right h keys asks targs lists froms, (cell_offsets_right h keys asks targs lists froms, tt))))

sound_uses : (f : ℤ) (asks targs lists froms : List ℤ) → SoundBefore (changed (head_one f) keys asks targs lists froms) 7
sound_uses f asks targs lists froms = more (changed (head_one f) keys asks targs lists froms) 6 1 (sound_keys (head_one f) asks targs lists froms) (no_uses_right f asks targs lists froms, tt)

sound_entries : (f : ℤ) (targs lists froms : List ℤ) → SoundBefore (changed (head_one f) keys asks targs lists froms) 9
sound_entries f targs lists froms = more (changed (head_one f) keys asks targs lists froms) 7 2 (sound_uses f asks targs lists froms)
    (cell_asks_right f targs lists froms, (cell_entries_right f targs lists froms, tt))

sound_cells : (f : ℤ) (lists froms : List ℤ) → SoundBefore (changed (head_one f) keys asks targs lists froms) 10
sound_cells f lists froms = more (changed (head_one f) keys asks targs lists froms) 9 1 (sound_entries f targs lists froms) (trans_targs_right f lists froms, tt)

sound_steps : (f : ℤ) (froms : List ℤ) → SoundBefore (changed (head_one f) keys asks targs lists froms) 11
sound_steps f froms = more (changed (head_one f) keys asks targs lists froms) 10 1 (sound_cells f lists froms) (trans_lists_right f froms, tt)

sound_states : (f : ℤ) → SoundBefore (changed (head_one f) keys asks targs lists zeros) 18
sound_states f = more (changed (head_one f) keys asks targs lists zeros) 11 7 (sound_steps f zeros)
    (from_lists_right f, (to_lists_right f, (eof_lists_right f, (error_lists_right f, (accept_lists_right f, (state_kinds_right f, (homes_right f, tt)))))))

sound_names : (f : ℤ) → SoundBefore (changed (head_one f) keys asks targs lists zeros) 27
sound_names f = more (changed (head_one f) keys asks targs lists zeros) 18 9 (sound_states f)
    (action_names_right f, (stmt_firsts_right f, (stmt_counts_right f, (stmt_kinds_right f, (stmt_outer_right f, (stmt_args_right f, (stmt_bases_right f, (cond_names_right f, (entry_names_right f, tt)))))))))

entry_states_right : FirstWrong one the.EntryStates None
entry_states_right = rights one the.EntryStates 2 refl refl (
  record {
    none = λ e. refl;
    head = λ e. record { name = refl; start = refl; alphabet = (omega (arith, ints), omega (arith, ints)); first_final = (omega (arith, ints), omega (arith, ints)) };
    state_is = λ h. absurd (omega arith);
    alive = λ h. absurd (omega arith);
    kind = λ h. absurd (omega arith);
  },
  (
    record {
      none = λ e. absurd (omega arith);
      head = λ e. absurd (omega arith);
      state_is = λ h. (omega (arith, ints), omega (arith, ints));
      alive = λ h e. omega (arith, ints, e);
      kind = λ h. (omega (arith, ints), omega (arith, ints));
    },
    tt,
  ),
)

-- ---- the rows

is_one : IsBetween 1 2 (pos 1)
is_one = (omega (arith, ints), omega (arith, ints))

pub one_is_valid : OneIsValid
one_is_valid = all_sound one is_one (more one 27 1 (sound_names (pos 3)) (entry_states_right, tt))

-- of an index that is wrong, where those before it are right
wrong : (a : Arrays) (place : ℕ) (array : ArrayName) (i : ℕ) → IsBetween 1 2 a.version → slice_get ORDER place ≡ Some array → i < span a array → (Right a array i → ⊥) → AllFrom (Right a array) 0 i → SoundBefore a place → IsBad a (record { array = array; index = i })
wrong a place array i version e less not_right h before = inr (record { version = version; place = place; array = e; index = (less, not_right, below (Right a array) i h); before = before })

abbrev other_keys : List ℤ
other_keys = pos 97 ∷ pos 200 ∷ pos 0 ∷ []

pub no_such_key : NoSuchKey
unfolding sum_before
no_such_key = wrong (changed (head_one (pos 3)) other_keys asks targs lists zeros) 2 the.TransKeys 1 is_one refl (lit< tt)
    (λ r. not_key (r.says.single 2 0 (record { state = lit< tt; place_is = refl; within = omega (arith, ints) })))
    (record { there = lit< tt; due = lit< tt; says = first_key (head_one (pos 3)) (pos 200) asks targs lists zeros }, tt)
    (sound_offsets (head_one (pos 3)) other_keys asks targs lists zeros)
  where
    not_key : false ≡ true → ⊥
    not_key e = cc

abbrev other_asks : List ℤ
other_asks = pos 1 ∷ pos 0 ∷ pos 0 ∷ []

pub no_such_condition : NoSuchCondition
unfolding sum_before
no_such_condition = wrong (changed (head_one (pos 3)) keys other_asks targs lists zeros) 7 the.CellAsks 0 is_one refl (lit< tt)
    (λ r. let known : 1 < 1 = r.says.known in omega arith) tt (sound_uses (pos 3) other_asks targs lists zeros)

abbrev other_targs : List ℤ
other_targs = pos 2 ∷ pos 4 ∷ pos 0 ∷ []

pub no_such_state : NoSuchState
unfolding sum_before ones
no_such_state = wrong (changed (head_one (pos 3)) keys asks other_targs lists zeros) 9 the.TransTargs 1 is_one refl (lit< tt)
    (λ r. let state = r.says.state.1 in omega (arith, ints, state))
    (record { there = lit< tt; due = lit< tt; says = first_target (pos 3) (pos 4) lists zeros }, tt)
    (sound_entries (pos 3) other_targs lists zeros)

abbrev other_lists : List ℤ
other_lists = pos 1 ∷ pos 2 ∷ pos 0 ∷ []

pub no_list_begins : NoListBegins
unfolding sum_before left_at
no_list_begins = wrong (changed (head_one (pos 3)) keys asks targs other_lists zeros) 10 the.TransLists 1 is_one refl (lit< tt)
    (λ r. let begins : 1 ≡ 0 = r.says.list.begins in omega arith)
    (record { there = lit< tt; due = lit< tt; says = first_list (pos 3) (pos 2) zeros }, tt)
    (sound_cells (pos 3) other_lists zeros)

abbrev three_zeros : List ℤ
three_zeros = pos 0 ∷ pos 0 ∷ pos 0 ∷ []

pub too_few_lists : TooFewLists
too_few_lists = wrong (changed (head_one (pos 3)) keys asks targs lists three_zeros) 11 the.FromLists 3 is_one refl (lit< tt)
    (λ r. let there : 3 < 3 = r.there in omega arith)
    (is_right 0 (lit< tt) (lit< tt), (is_right 1 (lit< tt) (lit< tt), (is_right 2 (lit< tt) (lit< tt), tt)))
    (sound_steps (pos 3) three_zeros)
  where
    is_right : (s : ℕ) → s < 3 → s < 4 → Right (changed (head_one (pos 3)) keys asks targs lists three_zeros) the.FromLists s
    is_right s there due = record {
      there = there;
      due = due;
      says = below (Says (changed (head_one (pos 3)) keys asks targs lists three_zeros) the.FromLists) 3
          (no_list (pos 3) three_zeros 0, (no_list (pos 3) three_zeros 1, (no_list (pos 3) three_zeros 2, tt))) s there;
    }

abbrev other_actions : Arrays
other_actions = record one { actions = pos 0 ∷ pos 1 ∷ pos 2 ∷ [] }

pub no_such_action : NoSuchAction
unfolding left_at
no_such_action = wrong other_actions 0 the.Actions 2 is_one refl (lit< tt)
    (λ r. let member = (r.says.member (lit< tt)).1 in omega (arith, ints, member)) (
      record { there = lit< tt; due = lit< tt; says = record { empty = λ e. refl; count = λ e. omega (arith, ints); member = λ h. absurd (omega arith) } },
      (record { there = lit< tt; due = lit< tt; says = record { empty = λ e. absurd (omega arith); count = λ e. omega (arith, ints); member = λ h. absurd (omega arith) } }, tt),
    )
    (none_before other_actions)

pub final_behind_all : FinalBehindAll
final_behind_all = wrong (changed (head_one (pos 5)) keys asks targs lists zeros) 27 the.EntryStates 0 is_one refl (lit< tt)
    (λ r. let first_final = (r.says.head refl).first_final.1 in omega (arith, ints, first_final)) tt (sound_names (pos 5))

-- ---- versions and uses

pub no_such_version : NoSuchVersion
no_such_version = inl (record { version = λ v. (let high = v.1 in omega (arith, ints, high)); told = refl })

abbrev old : Head
old = record { version = pos 1; uses = pos 0 ∷ pos 1 ∷ pos 0 ∷ []; first_final = pos 3 }

pub uses_in_version_one : UsesInVersionOne
uses_in_version_one = wrong (changed old keys asks targs lists zeros) 6 the.CellUses 0 is_one refl (lit< tt)
    (λ r. let due : 0 < 0 = r.due in omega arith) tt (sound_keys old asks targs lists zeros)

is_two : IsBetween 1 2 (pos 2)
is_two = (omega (arith, ints), omega (arith, ints))

abbrev new : Head
new = record { version = pos 2; uses = pos 0 ∷ pos 2 ∷ pos 0 ∷ []; first_final = pos 3 }

pub no_such_cell : NoSuchCell
unfolding sum_before
no_such_cell = wrong (changed new keys asks targs lists zeros) 6 the.CellUses 1 is_two refl (lit< tt)
    (λ r. let known = r.says.known (λ e. apart 2 1 (omega arith) e) in omega (arith, ints, known))
    (record { there = lit< tt; due = lit< tt; says = record { closing = λ e. apart 2 0 (omega arith) e; positive = omega (arith, ints); known = λ n. omega (arith, ints) } }, tt)
    (sound_keys new asks targs lists zeros)
