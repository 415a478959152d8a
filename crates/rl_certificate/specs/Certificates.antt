-- When a certificate is right.
use Rattle.std.specs.Prelude.{◌≡◌, ℕ, suc, ◌-◌, ◌<◌, Bool, not, ◌&&◌, ◌==◌, List, map, length, Option, Some, None, All}
use Rattle.std.specs.List.{flat_map, range_with_len}
use Rattle.rl_minimal.specs.Minimal.{Minimal, kind_at}
use Rattle.rl_certificate.specs.declared.certificate.Access.{Access}
use Rattle.rl_certificate.specs.declared.certificate.Apart.{Apart}
use Rattle.rl_certificate.specs.declared.certificate.Certificate.{Certificate}
use Rattle.rl_certificate.specs.Walks.{walk, LeadsTo}
use Rattle.rl_certificate.specs.Views.{ShowSame}

-- the states of n but Error, ascending
abbrev pub states_of : ℕ → List ℕ
states_of n = range_with_len 1 (n - 1)

-- the pairs of a state of n with each above it, ascending
abbrev pub pairs_with : ℕ → ℕ → List (ℕ × ℕ)
pairs_with n low = map (λ high. (low, high)) (range_with_len (suc low) (n - suc low))

-- the pairs of such states, ascending by the first and then the second
abbrev pub pairs_of : ℕ → List (ℕ × ℕ)
pairs_of n = flat_map (pairs_with n) (states_of n)

-- homes count between two states unless both are scanner starts; so two homes are told apart without homes
abbrev pub do_homes_count : Minimal → ℕ → ℕ → Bool
do_homes_count m low high = not (kind_at m.states low == 1 && kind_at m.states high == 1)

-- there are such states, and they show different things
abbrev pub Differ : Minimal → Bool → Option ℕ → Option ℕ → Type 0
Differ m homes (Some i) (Some j) = ShowSame m homes i j → ⊥
Differ m homes (Some i) None = ⊥
Differ m homes None j = ⊥

-- the word leads from the two states to two that show different things
pub record IsApart (m : Minimal) (p : Apart) : Type 0 where
  pub ordered : p.low < p.high
  pub there : p.high < length m.states
  pub differ : Differ m (do_homes_count m p.low p.high) (walk m p.word.items p.low) (walk m p.word.items p.high)

abbrev pub IsAccess : Minimal → Access → Type 0
IsAccess m a = LeadsTo m a.entry.0 a.word.items a.state

-- Each state but Error stands there once, and each pair of such states, in order; and all words are right.
pub record IsRight (m : Minimal) (c : Certificate) : Type 0 where
  pub states : map (λ (a : Access). a.state) c.access.items ≡ states_of (length m.states)
  pub pairs : map (λ (p : Apart). (p.low, p.high)) c.apart.items ≡ pairs_of (length m.states)
  pub access : All (IsAccess m) c.access.items
  pub apart : All (IsApart m) c.apart.items
