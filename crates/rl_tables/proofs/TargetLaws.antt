-- First wrong targets, cell by cell, use by use and state by state.
use Rattle.std.proofs.Common.{◌≡◌, ℕ, ◌+◌, ◌<◌, ◌≤◌, List, length, Option, Some, None, sym, ap, ◌∙◌, inl, inr, arith}
use Rattle.std.specs.Prelude.{ℤ, pos, ◌↔◌, IfSome, slice_get}
use Rattle.std.proofs.lemmas.Bool.{cases_lt}
use Rattle.rl_arrays.specs.declared.arrays.Arrays.{Arrays}
use Rattle.rl_arrays.specs.declared.arrays.ArrayName.TheVariants as the
use Rattle.rl_arrays.specs.Words.{natural, IfAt, IsFirstWrong}
use Rattle.rl_arrays.specs.Sizes.{states, uses_of, entries_of, used_cell, entries_end, IsClosing, IsIn, IsEntryOf}
use Rattle.rl_arrays.specs.Rules.{IsState, TargetOf, TargetSays}
use Rattle.rl_arrays.specs.Valid.{Right, span}
use Rattle.rl_tables.specs.KeyParts.{lesser}
use Rattle.rl_tables.specs.TargetParts.{IsTarget, CellFits, UsesFit, StateFits, StatesFit}
use Rattle.rl_tables.proofs.KeyLaws.{both_wrong, same_wrong, more_wrong, if_past}

some_pos : (m n : ℕ) → Some (pos m) ≡ Some (pos n) → m ≡ n
some_pos m n e = ap natural same
  where
    same : pos m ≡ pos n
    same = cc

-- of an entry that is none of the cell, or that is not there, nothing is said
pub cell_fits_past : (a : Arrays) (s cell e : ℕ) → length a.trans_targs ≤ e → CellFits a s cell e
cell_fits_past a s cell e le = record { fits = λ k. if_past a.trans_targs e (TargetOf a s) le }

-- no use
pub no_uses : (a : Arrays) (s from : ℕ) → IsFirstWrong (length a.trans_targs) (UsesFit a s from from) None
no_uses a s from = λ e lt. record { each = λ place cell low high at'. absurd (omega arith) }

more_uses : (a : Arrays) (s from place cell e : ℕ) → used_cell a place ≡ Some (pos cell) → UsesFit a s from place e → CellFits a s cell e → UsesFit a s from (place + 1) e
more_uses a s from place cell e is all here = record {
  each = λ p c low high at'. elim (cases_lt p place) [
    | inl less ↦ all.each p c low less at'
    | inr ge ↦
        let same : p ≡ place = omega arith in
        let at'' : used_cell a place ≡ Some (pos c) = rw same at at' in
        let one : Some (pos c) ≡ Some (pos cell) = sym at'' ∙ is in
        let number : c ≡ cell = some_pos c cell one in
        rw number here
  ];
}

-- one more use
pub uses_wrong : (a : Arrays) (s from place cell : ℕ) (x y : Option ℕ) → from ≤ place → used_cell a place ≡ Some (pos cell)
    → IsFirstWrong (length a.trans_targs) (UsesFit a s from place) x → IsFirstWrong (length a.trans_targs) (CellFits a s cell) y
    → IsFirstWrong (length a.trans_targs) (UsesFit a s from (place + 1)) (lesser x y)
uses_wrong a s from place cell x y le is p q =
    same_wrong (length a.trans_targs) (λ e. UsesFit a s from place e × CellFits a s cell e) (UsesFit a s from (place + 1)) (lesser x y)
    (λ e h. more_uses a s from place cell e is h.0 h.1)
    (λ e h. (record { each = λ p c low high at'. h.each p c low (omega arith) at' }, h.each place cell le (omega arith) is))
    (both_wrong (length a.trans_targs) (UsesFit a s from place) (CellFits a s cell) x y p q)

-- all uses of a state
pub state_wrong : (a : Arrays) (s from to : ℕ) (x : Option ℕ) → ((place : ℕ) → IsIn (uses_of a) s place ↔ ((from ≤ place) × (place < to)))
    → IsFirstWrong (length a.trans_targs) (UsesFit a s from to) x → IsFirstWrong (length a.trans_targs) (StateFits a s) x
state_wrong a s from to x of_state p =
    same_wrong (length a.trans_targs) (UsesFit a s from to) (StateFits a s) x
    (λ e h. record { each = λ place cell k at'. (let range = (of_state place).0 k in h.each place cell range.0 range.1 at') })
    (λ e h. record { each = λ place cell low high at'. h.each place cell ((of_state place).1 (low, high)) at' })
    p

-- no state, and one more
pub no_states_fit : (a : Arrays) → IsFirstWrong (length a.trans_targs) (StatesFit a 0) None
no_states_fit a = λ e lt. record { each = λ s bad. absurd (omega arith) }

pub states_fit : (a : Arrays) (n : ℕ) (x y : Option ℕ) → IsFirstWrong (length a.trans_targs) (StatesFit a n) x → IsFirstWrong (length a.trans_targs) (StateFits a n) y
    → IsFirstWrong (length a.trans_targs) (StatesFit a (n + 1)) (lesser x y)
states_fit a n x y p q =
    same_wrong (length a.trans_targs) (λ e. StatesFit a n e × StateFits a n e) (StatesFit a (n + 1)) (lesser x y)
    (λ e h. record { each = λ s lt. elim (cases_lt s n) [ inl less ↦ h.0.each s less | inr ge ↦ let same : s ≡ n = omega arith in rw same h.1 ] })
    (λ e h. (record { each = λ s lt. h.each s (omega arith) }, h.each n (omega arith)))
    (both_wrong (length a.trans_targs) (StatesFit a n) (StateFits a n) x y p q)

target_says : (a : Arrays) (e : ℕ) (o : Option ℤ) → IfSome o (IsState a) → IfSome o (λ target. IsClosing (entries_end a) e → target ≡ pos 0) → ((s : ℕ) → IsEntryOf a s e → IfSome o (TargetOf a s))
    → IfSome o (TargetSays a e)
target_says a e None state closing kinds = tt
target_says a e (Some target) state closing kinds = record { closing = closing; state = state; kinds = kinds }

says_target : (a : Arrays) (e : ℕ) (o : Option ℤ) → IfSome o (TargetSays a e) → IfSome o (IsState a) × IfSome o (λ target. IsClosing (entries_end a) e → target ≡ pos 0) × ((s : ℕ) → IsEntryOf a s e → IfSome o (TargetOf a s))
says_target a e None h = (tt, tt, λ s k. tt)
says_target a e (Some target) h = (h.state, h.closing, λ s k. h.kinds s k)

-- the states and what is said of a target alone together
pub targets_wrong : (a : Arrays) (x y : Option ℕ) → IsFirstWrong (length a.trans_targs) (StatesFit a (states a)) x → IsFirstWrong (span a the.TransTargs) (IsTarget a) y
    → IsFirstWrong (span a the.TransTargs) (Right a the.TransTargs) (lesser x y)
targets_wrong a x y p q =
    let past : (e : ℕ) → length a.trans_targs ≤ e → StatesFit a (states a) e = λ e le. record { each = λ s lt. record { each = λ place cell k at'. cell_fits_past a s cell e le } } in
    let more : IsFirstWrong (span a the.TransTargs) (StatesFit a (states a)) x = more_wrong (length a.trans_targs) (span a the.TransTargs) (StatesFit a (states a)) x (omega arith) past p in
    same_wrong (span a the.TransTargs) (λ e. StatesFit a (states a) e × IsTarget a e) (Right a the.TransTargs) (lesser x y)
    (λ e h. record {
      there = h.1.there;
      due = h.1.due;
      says = target_says a e (slice_get a.trans_targs e) h.1.state h.1.closing (λ s k. ((h.0.each s k.state).each k.place k.cell k.of_state k.of_use).fits k.of_cell);
    })
    (λ e h. (let says = says_target a e (slice_get a.trans_targs e) h.says in (
      record {
        each = λ s lt. record {
          each = λ place cell k at'. record { fits = λ of_cell. says.2 s (record { place = place; cell = cell; state = lt; of_state = k; of_use = at'; of_cell = of_cell }) };
        };
      },
      record { there = h.there; due = h.due; state = says.0; closing = says.1 },
    )))
    (both_wrong (span a the.TransTargs) (StatesFit a (states a)) (IsTarget a) x y more q)

-- what is known of the entries of a cell below a place, and of the one there
pub cell_from : (a : Arrays) (s cell from to : ℕ) → ((e : ℕ) → e < length a.trans_targs → IsIn (entries_of a) cell e ↔ ((from ≤ e) × (e < to))) → from ≤ length a.trans_targs
    → (e : ℕ) → e < from → CellFits a s cell e
cell_from a s cell from to entries few e lt = record { fits = λ k. (let r = (entries e (omega arith)).0 k in absurd (omega (arith, r))) }

pub cell_behind : (a : Arrays) (s cell from to : ℕ) → ((e : ℕ) → e < length a.trans_targs → IsIn (entries_of a) cell e ↔ ((from ≤ e) × (e < to)))
    → (e : ℕ) → to ≤ e → CellFits a s cell e
cell_behind a s cell from to entries e le = elim (cases_lt e (length a.trans_targs)) [
  | inl less ↦ record { fits = λ k. (let r = (entries e less).0 k in absurd (omega (arith, r))) }
  | inr ge ↦ cell_fits_past a s cell e ge
]
