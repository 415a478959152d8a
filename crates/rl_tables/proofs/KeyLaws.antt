-- First wrong indexes of two rules, and what is said of the places of a state's keys.
use Rattle.std.proofs.Common.{◌≡◌, ℕ, suc, ◌+◌, ◌-◌, ◌*◌, ◌/◌, ◌%◌, ◌<◌, ◌≤◌, List, length, Option, Some, None, inl, inr, arith}
use Rattle.std.specs.Prelude.{ℤ, pos, negsuc, ◌+ℤ◌, ◌≤ℤ◌, ◌<ℤ◌, IsSomeAnd, IfSome, slice_get, min}
use Rattle.std.proofs.lemmas.Bool.{cases_lt}
use Rattle.std.proofs.lemmas.Int.{ints}
use Rattle.std.proofs.lemmas.Option.{slice_get_past}
use Rattle.rl_arrays.specs.declared.arrays.Arrays.{Arrays}
use Rattle.rl_arrays.specs.declared.arrays.ArrayName.TheVariants as the
use Rattle.rl_arrays.specs.Words.{sum_before, IfAt, IsFirstWrong}
use Rattle.rl_arrays.specs.Sizes.{states, keys_of, keys_end, IsClosing}
use Rattle.rl_arrays.specs.KeyRules.{IsSingle, IsEnd, IsKey, IsAbove, IsOutside, KeySays}
use Rattle.rl_arrays.specs.Valid.{Right, span}
use Rattle.rl_tables.specs.KeyParts.{lesser, SingleSays, EndSays, StateSays, StatesSay, IsClosed}

-- the first index that is wrong by one of two rules
pub both_wrong : (n : ℕ) (P Q : ℕ → Type 0) (x y : Option ℕ) → IsFirstWrong n P x → IsFirstWrong n Q y → IsFirstWrong n (λ k. P k × Q k) (lesser x y)
both_wrong n P Q None None p q = λ k lt. (p k lt, q k lt)
both_wrong n P Q None (Some j) p q = (q.0, λ r. q.1 r.1, λ k lt. (p k (omega (arith, q.0)), q.2 k lt))
both_wrong n P Q (Some i) None p q = (p.0, λ r. p.1 r.0, λ k lt. (p.2 k lt, q k (omega (arith, p.0))))
both_wrong n P Q (Some i) (Some j) p q = elim (cases_lt i j) [
  | inl less ↦ let least : min i j ≡ i = omega arith in rw least (p.0, λ r. p.1 r.0, λ k lt. (p.2 k lt, q.2 k (omega arith)))
  | inr le ↦ let least : min i j ≡ j = omega arith in rw least (q.0, λ r. q.1 r.1, λ k lt. (p.2 k (omega arith), q.2 k lt))
]

-- the same rule in other words
pub same_wrong : (n : ℕ) (P Q : ℕ → Type 0) (x : Option ℕ) → ((k : ℕ) → P k → Q k) → ((k : ℕ) → Q k → P k) → IsFirstWrong n P x → IsFirstWrong n Q x
same_wrong n P Q None to from p = λ k lt. to k (p k lt)
same_wrong n P Q (Some i) to from p = (p.0, λ q. p.1 (from i q), λ k lt. to k (p.2 k lt))

-- more indexes, of which nothing is said
pub more_wrong : (n m : ℕ) (P : ℕ → Type 0) (x : Option ℕ) → n ≤ m → ((k : ℕ) → n ≤ k → P k) → IsFirstWrong n P x → IsFirstWrong m P x
more_wrong n m P None le past p = λ k lt. elim (cases_lt k n) [ inl less ↦ p k less | inr ge ↦ past k ge ]
more_wrong n m P (Some i) le past p = (omega (arith, p.0), p.1, p.2)

pub if_any : {X : Type 0} (x : Option X) (P : X → Type 0) → ((y : X) → P y) → IfSome x P
if_any None P h = tt
if_any (Some y) P h = h y

pub if_past : (xs : List ℤ) (k : ℕ) (P : ℤ → Type 0) → length xs ≤ k → IfAt xs k P
if_past xs k P le = rw (slice_get_past xs k le) tt

and_map : (x : Option ℤ) (P Q : ℤ → Type 0) → IsSomeAnd x P → ((z : ℤ) → P z → Q z) → IsSomeAnd x Q
and_map None P Q h f = h
and_map (Some z) P Q h f = f z h

if_both : (x : Option ℤ) (P Q R : ℤ → Type 0) → ((z : ℤ) → P z → Q z → R z) → IfSome x P → IfSome x Q → IfSome x R
if_both None P Q R f h k = tt
if_both (Some z) P Q R f h k = f z h k

if_map : (x : Option ℤ) (P Q : ℤ → Type 0) → ((z : ℤ) → P z → Q z) → IfSome x P → IfSome x Q
if_map None P Q f h = tt
if_map (Some z) P Q f h = f z h

pub record Gap (x : ℤ) (place : ℕ) : Type 0 where
  pub by : ℕ
  pub is : pos place ≡ x +ℤ pos by

pub gap : (x : ℤ) (place : ℕ) → x ≤ℤ pos place → Gap x place
gap (pos n) place h = record { by = place - n; is = omega (arith, ints, h) }
gap (negsuc n) place h = record { by = place + suc n; is = omega (arith, ints, h) }

-- a state's single keys

single_at : (a : Arrays) (s p place : ℕ) (first : ℤ) → sum_before (keys_of a) s ≡ Some first → IsSingle a s p place → pos place ≡ first +ℤ pos p
single_at a s p place first e k = rw e at k.place_is

pub single_from : (a : Arrays) (s p place : ℕ) (first : ℤ) → s < states a → sum_before (keys_of a) s ≡ Some first → IsSomeAnd (slice_get a.single_lengths s) (λ singles. pos place <ℤ (first +ℤ singles))
    → pos place ≡ first +ℤ pos p → IsSingle a s p place
single_from a s p place first lt e to at' = record {
  state = lt;
  place_is = rw e at';
  within = and_map (slice_get a.single_lengths s) (λ singles. pos place <ℤ (first +ℤ singles)) (λ singles. pos p <ℤ singles) to (λ z h. omega (arith, ints, h, at'));
}

pub says_single : (a : Arrays) (s place p : ℕ) (key first : ℤ) → sum_before (keys_of a) s ≡ Some first → pos place ≡ first +ℤ pos p → IsKey a key → (0 < p → IsAbove a.trans_keys place key) → SingleSays a s place key
says_single a s place p key first e here is above = record {
  single = λ n k. is;
  ascends = λ n k. above (let at' = single_at a s (n + 1) place first e k in omega (arith, ints, at', here));
}

pub single_key : (a : Arrays) (s place p : ℕ) (key first : ℤ) → s < states a → sum_before (keys_of a) s ≡ Some first → pos place ≡ first +ℤ pos p
    → IsSomeAnd (slice_get a.single_lengths s) (λ singles. pos place <ℤ (first +ℤ singles)) → SingleSays a s place key → IsKey a key
single_key a s place p key first lt e here to said = said.single p (single_from a s p place first lt e to here)

pub single_above : (a : Arrays) (s place p : ℕ) (key first : ℤ) → s < states a → sum_before (keys_of a) s ≡ Some first → pos place ≡ first +ℤ pos p
    → IsSomeAnd (slice_get a.single_lengths s) (λ singles. pos place <ℤ (first +ℤ singles)) → SingleSays a s place key → 0 < p → IsAbove a.trans_keys place key
single_above a s place p key first lt e here to said some = said.ascends (p - 1) (single_from a s ((p - 1) + 1) place first lt e to (omega (arith, ints, here)))

-- no single key is before the first of the state, or behind the last
pub no_single : (a : Arrays) (s place : ℕ) (first singles : ℤ) → sum_before (keys_of a) s ≡ Some first → slice_get a.single_lengths s ≡ Some singles
    → (first ≤ℤ pos place → (first +ℤ singles) ≤ℤ pos place) → (p : ℕ) → IsSingle a s p place → ⊥
no_single a s place first singles e f out p k =
    let at' = single_at a s p place first e k in
    let within : pos p <ℤ singles = rw f at k.within in
    let high = out (omega (arith, ints, at')) in
    absurd (omega (arith, ints, at', within, high))

pub no_single_says : (a : Arrays) (s place : ℕ) (key : ℤ) → ((p : ℕ) → IsSingle a s p place → ⊥) → SingleSays a s place key
no_single_says a s place key never = record { single = λ p k. absurd (never p k); ascends = λ p k. absurd (never (p + 1) k) }

-- the ends of a state's ranges

end_at : (a : Arrays) (s p place : ℕ) (first singles : ℤ) → sum_before (keys_of a) s ≡ Some first → slice_get a.single_lengths s ≡ Some singles → IsEnd a s p place → pos place ≡ (first +ℤ singles) +ℤ pos p
end_at a s p place first singles e f k = rw (e, f) at k.place_is

end_from : (a : Arrays) (s p place : ℕ) (first singles : ℤ) → s < states a → sum_before (keys_of a) s ≡ Some first → slice_get a.single_lengths s ≡ Some singles
    → IsSomeAnd (slice_get a.range_lengths s) (λ ranges. pos place <ℤ ((first +ℤ singles) +ℤ (ranges +ℤ ranges))) → pos place ≡ (first +ℤ singles) +ℤ pos p → IsEnd a s p place
end_from a s p place first singles lt e f to at' = record {
  state = lt;
  place_is = rw (e, f) at';
  within = and_map (slice_get a.range_lengths s) (λ ranges. pos place <ℤ ((first +ℤ singles) +ℤ (ranges +ℤ ranges))) (λ ranges. pos p <ℤ (ranges +ℤ ranges)) to (λ z h. omega (arith, ints, h, at'));
}

pub says_end : (a : Arrays) (s place p : ℕ) (key first singles : ℤ) → sum_before (keys_of a) s ≡ Some first → slice_get a.single_lengths s ≡ Some singles → pos place ≡ (first +ℤ singles) +ℤ pos p
    → IsKey a key → (0 < p → IsAbove a.trans_keys place key) → (p % 2 ≡ 0 → (r other : ℕ) → IsSingle a s r other → IsOutside a.trans_keys place key other) → EndSays a s place key
says_end a s place p key first singles e f at' is above apart = record {
  end = λ n k. is;
  disjoint = λ n k. above (let h = end_at a s (n + 1) place first singles e f k in omega (arith, ints, at', h));
  apart = λ q r other k. apart (let h = end_at a s (2 * q) place first singles e f k in omega (arith, ints, at', h)) r other;
}

pub end_key : (a : Arrays) (s place p : ℕ) (key first singles : ℤ) → s < states a → sum_before (keys_of a) s ≡ Some first → slice_get a.single_lengths s ≡ Some singles → pos place ≡ (first +ℤ singles) +ℤ pos p
    → IsSomeAnd (slice_get a.range_lengths s) (λ ranges. pos place <ℤ ((first +ℤ singles) +ℤ (ranges +ℤ ranges))) → EndSays a s place key → IsKey a key
end_key a s place p key first singles lt e f at' to said = said.end p (end_from a s p place first singles lt e f to at')

pub end_above : (a : Arrays) (s place p : ℕ) (key first singles : ℤ) → s < states a → sum_before (keys_of a) s ≡ Some first → slice_get a.single_lengths s ≡ Some singles → pos place ≡ (first +ℤ singles) +ℤ pos p
    → IsSomeAnd (slice_get a.range_lengths s) (λ ranges. pos place <ℤ ((first +ℤ singles) +ℤ (ranges +ℤ ranges))) → EndSays a s place key → 0 < p → IsAbove a.trans_keys place key
end_above a s place p key first singles lt e f at' to said some = said.disjoint (p - 1) (end_from a s ((p - 1) + 1) place first singles lt e f to (omega (arith, ints, at')))

pub end_apart : (a : Arrays) (s place p : ℕ) (key first singles : ℤ) → s < states a → sum_before (keys_of a) s ≡ Some first → slice_get a.single_lengths s ≡ Some singles → pos place ≡ (first +ℤ singles) +ℤ pos p
    → IsSomeAnd (slice_get a.range_lengths s) (λ ranges. pos place <ℤ ((first +ℤ singles) +ℤ (ranges +ℤ ranges))) → EndSays a s place key → p % 2 ≡ 0
    → (r other : ℕ) → IsSingle a s r other → IsOutside a.trans_keys place key other
end_apart a s place p key first singles lt e f at' to said even r other k = said.apart (p / 2) r other (end_from a s (2 * (p / 2)) place first singles lt e f to (omega (arith, ints, at'))) k

pub no_end : (a : Arrays) (s place : ℕ) (first singles ranges : ℤ) → sum_before (keys_of a) s ≡ Some first → slice_get a.single_lengths s ≡ Some singles → slice_get a.range_lengths s ≡ Some ranges
    → ((first +ℤ singles) ≤ℤ pos place → ((first +ℤ singles) +ℤ (ranges +ℤ ranges)) ≤ℤ pos place) → (p : ℕ) → IsEnd a s p place → ⊥
no_end a s place first singles ranges e f g out p k =
    let at' = end_at a s p place first singles e f k in
    let within : pos p <ℤ (ranges +ℤ ranges) = rw g at k.within in
    let high = out (omega (arith, ints, at')) in
    absurd (omega (arith, ints, at', within, high))

pub no_end_says : (a : Arrays) (s place : ℕ) (key : ℤ) → ((p : ℕ) → IsEnd a s p place → ⊥) → EndSays a s place key
no_end_says a s place key never = record { end = λ p k. absurd (never p k); disjoint = λ p k. absurd (never (p + 1) k); apart = λ q r other k. absurd (never (2 * q) k) }

-- a state, or a length of it, that is missing says nothing
pub none_first : (a : Arrays) (s place : ℕ) (key : ℤ) → sum_before (keys_of a) s ≡ None → StateSays a s place key
none_first a s place key e = record {
  singles = no_single_says a s place key (λ p k. rw e at k.place_is);
  ends = no_end_says a s place key (λ p k. rw e at k.place_is);
}

pub none_singles : (a : Arrays) (s place : ℕ) (key first : ℤ) → sum_before (keys_of a) s ≡ Some first → slice_get a.single_lengths s ≡ None → StateSays a s place key
none_singles a s place key first e f = record {
  singles = no_single_says a s place key (λ p k. rw f at k.within);
  ends = no_end_says a s place key (λ p k. rw (e, f) at k.place_is);
}

pub none_ranges : (a : Arrays) (s place : ℕ) (key : ℤ) → slice_get a.range_lengths s ≡ None → EndSays a s place key
none_ranges a s place key e = no_end_says a s place key (λ p k. rw e at k.within)

-- single keys and ends together
pub state_wrong : (a : Arrays) (s : ℕ) (x y : Option ℕ) → IsFirstWrong (length a.trans_keys) (λ place. IfAt a.trans_keys place (SingleSays a s place)) x
    → IsFirstWrong (length a.trans_keys) (λ place. IfAt a.trans_keys place (EndSays a s place)) y → IsFirstWrong (length a.trans_keys) (λ place. IfAt a.trans_keys place (StateSays a s place)) (lesser x y)
state_wrong a s x y p q =
    same_wrong (length a.trans_keys) (λ place. IfAt a.trans_keys place (SingleSays a s place) × IfAt a.trans_keys place (EndSays a s place)) (λ place. IfAt a.trans_keys place (StateSays a s place)) (lesser x y)
    (λ k h. if_both (slice_get a.trans_keys k) (SingleSays a s k) (EndSays a s k) (StateSays a s k) (λ z m n. record { singles = m; ends = n }) h.0 h.1)
    (λ k h. (if_map (slice_get a.trans_keys k) (StateSays a s k) (SingleSays a s k) (λ z m. m.singles) h, if_map (slice_get a.trans_keys k) (StateSays a s k) (EndSays a s k) (λ z m. m.ends) h))
    (both_wrong (length a.trans_keys) (λ place. IfAt a.trans_keys place (SingleSays a s place)) (λ place. IfAt a.trans_keys place (EndSays a s place)) x y p q)

pub single_alone : (a : Arrays) (s : ℕ) (x : Option ℕ) → slice_get a.range_lengths s ≡ None → IsFirstWrong (length a.trans_keys) (λ place. IfAt a.trans_keys place (SingleSays a s place)) x
    → IsFirstWrong (length a.trans_keys) (λ place. IfAt a.trans_keys place (StateSays a s place)) x
single_alone a s x e p =
    same_wrong (length a.trans_keys) (λ place. IfAt a.trans_keys place (SingleSays a s place)) (λ place. IfAt a.trans_keys place (StateSays a s place)) x
    (λ k h. if_map (slice_get a.trans_keys k) (SingleSays a s k) (StateSays a s k) (λ z m. record { singles = m; ends = none_ranges a s k z e }) h)
    (λ k h. if_map (slice_get a.trans_keys k) (StateSays a s k) (SingleSays a s k) (λ z m. m.singles) h) p

-- no state
pub no_states : (a : Arrays) → IsFirstWrong (length a.trans_keys) (λ place. IfAt a.trans_keys place (StatesSay a 0 place)) None
no_states a = λ k lt. if_any (slice_get a.trans_keys k) (StatesSay a 0 k) (λ z. record { each = λ s bad. absurd (omega arith) })

one_more : (a : Arrays) (n place : ℕ) (key : ℤ) → StatesSay a n place key → StateSays a n place key → StatesSay a (n + 1) place key
one_more a n place key all here = record { each = λ s lt. elim (cases_lt s n) [ inl less ↦ all.each s less | inr ge ↦ let same : s ≡ n = omega arith in rw same here ] }

-- one more state
pub states_wrong : (a : Arrays) (n : ℕ) (x y : Option ℕ) → IsFirstWrong (length a.trans_keys) (λ place. IfAt a.trans_keys place (StatesSay a n place)) x
    → IsFirstWrong (length a.trans_keys) (λ place. IfAt a.trans_keys place (StateSays a n place)) y → IsFirstWrong (length a.trans_keys) (λ place. IfAt a.trans_keys place (StatesSay a (n + 1) place)) (lesser x y)
states_wrong a n x y p q =
    same_wrong (length a.trans_keys) (λ place. IfAt a.trans_keys place (StatesSay a n place) × IfAt a.trans_keys place (StateSays a n place)) (λ place. IfAt a.trans_keys place (StatesSay a (n + 1) place)) (lesser x y)
    (λ k h. if_both (slice_get a.trans_keys k) (StatesSay a n k) (StateSays a n k) (StatesSay a (n + 1) k) (λ z m s. one_more a n k z m s) h.0 h.1)
    (λ k h. (
      if_map (slice_get a.trans_keys k) (StatesSay a (n + 1) k) (StatesSay a n k) (λ z m. record { each = λ s lt. m.each s (omega arith) }) h,
      if_map (slice_get a.trans_keys k) (StatesSay a (n + 1) k) (StateSays a n k) (λ z m. m.each n (omega arith)) h,
    ))
    (both_wrong (length a.trans_keys) (λ place. IfAt a.trans_keys place (StatesSay a n place)) (λ place. IfAt a.trans_keys place (StateSays a n place)) x y p q)

says_key : (a : Arrays) (place : ℕ) (key : ℤ) → StatesSay a (states a) place key → (IsClosing (keys_end a) place → key ≡ pos 0) → KeySays a place key
says_key a place key all closing = record {
  closing = closing;
  single = λ s p k. (all.each s k.state).singles.single p k;
  ascends = λ s p k. (all.each s k.state).singles.ascends p k;
  end = λ s p k. (all.each s k.state).ends.end p k;
  disjoint = λ s p k. (all.each s k.state).ends.disjoint p k;
  apart = λ s q r other k m. (all.each s k.state).ends.apart q r other k m;
}

key_says : (a : Arrays) (place : ℕ) (key : ℤ) → KeySays a place key → StatesSay a (states a) place key
key_says a place key h = record {
  each = λ s lt. record {
    singles = record { single = λ p k. h.single s p k; ascends = λ p k. h.ascends s p k };
    ends = record { end = λ p k. h.end s p k; disjoint = λ p k. h.disjoint s p k; apart = λ q r other k m. h.apart s q r other k m };
  };
}

-- the states and the closing element together
pub keys_wrong : (a : Arrays) (x y : Option ℕ) → IsFirstWrong (length a.trans_keys) (λ place. IfAt a.trans_keys place (StatesSay a (states a) place)) x
    → IsFirstWrong (span a the.TransKeys) (IsClosed a) y → IsFirstWrong (span a the.TransKeys) (Right a the.TransKeys) (lesser x y)
keys_wrong a x y p q =
    let P : ℕ → Type 0 = λ place. IfAt a.trans_keys place (StatesSay a (states a) place) in
    let more : IsFirstWrong (span a the.TransKeys) P x = more_wrong (length a.trans_keys) (span a the.TransKeys) P x (omega arith) (λ k le. if_past a.trans_keys k (StatesSay a (states a) k) le) p in
    same_wrong (span a the.TransKeys) (λ place. P place × IsClosed a place) (Right a the.TransKeys) (lesser x y)
    (λ k h. record { there = h.1.there; due = h.1.due; says = if_both (slice_get a.trans_keys k) (StatesSay a (states a) k) (λ key. IsClosing (keys_end a) k → key ≡ pos 0) (KeySays a k) (λ z m n. says_key a k z m n) h.0 h.1.closing })
    (λ k h. (
      if_map (slice_get a.trans_keys k) (KeySays a k) (StatesSay a (states a) k) (λ z m. key_says a k z m) h.says,
      record { there = h.there; due = h.due; closing = if_map (slice_get a.trans_keys k) (KeySays a k) (λ key. IsClosing (keys_end a) k → key ≡ pos 0) (λ z m. m.closing) h.says },
    ))
    (both_wrong (span a the.TransKeys) P (IsClosed a) x y more q)

pub outside_past : (keys : List ℤ) (place other : ℕ) (low : ℤ) → length keys ≤ other → IsOutside keys place low other
outside_past keys place other low le = if_any (slice_get keys (place + 1)) (λ high. IfAt keys other (λ key. low ≤ℤ key → key ≤ℤ high → ⊥)) (λ high. if_past keys other (λ key. low ≤ℤ key → key ≤ℤ high → ⊥) le)
