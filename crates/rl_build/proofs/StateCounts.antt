-- A machine that is built reaches as many configurations as it has states.
use Rattle.std.proofs.Common.{◌≡◌, ℕ, zero, suc, ◌<◌, ◌≤◌, List, [], ◌∷◌, length, refl, sym, subst, inl, inr, ◌↔◌, arith}
use native.Mathlib.Decide.{dec_lt}
use Rattle.rl_sets.specs.Sets.{In}
use Rattle.rl_automata.specs.Auto.{Auto}
use Rattle.rl_automata.specs.Refused.{AreDifferent, HasMore}
use Rattle.rl_automata.proofs.CountLaws.{more_along}
use Rattle.rl_fsm.specs.Graphs.{Graph}
use Rattle.rl_fsm.specs.Builds.{Builds}
use Rattle.rl_fsm.proofs.Walks.{reaches_each}
use Rattle.rl_explore.proofs.ExploredLaws.{different_within}
use Rattle.rl_embed.proofs.StatesLaws.{reached_within}

-- the numbers below n, the greatest first
numbers_below : ℕ → List ℕ
numbers_below zero = []
numbers_below (suc n) = n ∷ numbers_below n

in_numbers : (n i : ℕ) → i < n → In i (numbers_below n)
unfolding numbers_below
in_numbers zero i h = absurd (omega arith)
in_numbers (suc n) i h = elim (dec_lt i n) [ yes l ↦ inr (in_numbers n i l) | no k ↦ inl (omega arith) ]

from_numbers : (n i : ℕ) → In i (numbers_below n) → i < n
unfolding numbers_below
from_numbers zero i h = absurd h
from_numbers (suc n) i (inl e) = omega arith
from_numbers (suc n) i (inr h) = let l : i < n = from_numbers n i h in omega arith

numbers_differ : (n : ℕ) → AreDifferent (numbers_below n)
unfolding numbers_below
numbers_differ zero = tt
numbers_differ (suc n) = ((λ i. let l : n < n = from_numbers n n i in absurd (omega arith)), numbers_differ n)

numbers_length : (n : ℕ) → length (numbers_below n) ≡ n
unfolding numbers_below
numbers_length zero = refl
numbers_length (suc n) = let e : length (numbers_below n) ≡ n = numbers_length n in omega arith

pub states_counted : {S : Type 0} (A : Auto S) (m : Graph) (n : ℕ) → Builds A m → HasMore A n ↔ (n < length m.states)
states_counted A m n z =
    let N = length m.states in (
      (λ h.
          let g = (more_along z.follows n).1 h in
          let most : length g.0 ≤ length (numbers_below N) = different_within g.0 (numbers_below N) g.1.0 (λ i j. in_numbers N i (reached_within m z.sound i (g.1.1 i j))) in
          let all : length (numbers_below N) ≡ N = numbers_length N in
          let more : n < length g.0 = g.2 in
          omega arith),
      (λ lt.
          (more_along z.follows n).0 (
            numbers_below N,
            (numbers_differ N, (λ i j. reaches_each m z.sound z.numbered i (from_numbers N i j))),
            subst (λ w. n < w) (sym (numbers_length N)) lt,
          )),
    )
