-- A scanner's start is its own home.
use Rattle.std.proofs.Common.{◌≡◌, ℕ, Bool, true, false, cond, List, Option, Some, None, slice_get, refl, ap, sym, ◌∙◌, ◌<◌, arith}
use Rattle.std.specs.Option.{option_map_or}
use Rattle.rl_sets.proofs.OrderLaws.{nat_order, eq_by_cmp-same}
use Rattle.rl_fsm.specs.declared.root.EntryFsm.{EntryFsm}
use Rattle.rl_explore.proofs.NumberLaws.{get_below}
use Rattle.rl_root.specs.Roots.{RootState, IsBuilt, auto_at, scans_at}
use Rattle.rl_minimal.specs.declared.state.MinState.{MinState}
use Rattle.rl_minimal.specs.Minimal.{Minimal, kind_at, home_at}
use Rattle.rl_reach.specs.Canonical.{IsMachineOf}
use Rattle.rl_min.proofs.SoundLaws.{no_context}

not_more : (n : ℕ) → n ≡ 1 → 1 < n → ⊥
not_more n e h = omega arith

not_less : (n : ℕ) → n ≡ 1 → n < 1 → ⊥
not_less n e h = omega arith

-- where a kind is 1, there is a state
there_by : (o : Option MinState) → option_map_or (λ (s : MinState). s.kind) o 0 ≡ 1 → (s : MinState) × (o ≡ Some s)
there_by None e = absurd (not_less 0 e (omega arith))
there_by (Some s) e = (s, refl)

abbrev kind_by : Bool → Bool → Bool → Bool → ℕ
kind_by a b c d = cond a (cond b 1 (cond c (cond d 4 3) 2)) 0

-- which of the tests of a kind hold where it is 1
kind_one : (a b c d : Bool) → kind_by a b c d ≡ 1 → (a ≡ true) × (b ≡ true)
kind_one true true c d e = (refl, refl)
kind_one true false true true e = absurd (not_more 4 e (omega arith))
kind_one true false true false e = absurd (not_more 3 e (omega arith))
kind_one true false false d e = absurd (not_more 2 e (omega arith))
kind_one false b c d e = absurd (not_less 0 e (omega arith))

pub own_home : (entries : List EntryFsm) (m : Minimal) → IsMachineOf entries m → (i : ℕ) → kind_at m.states i ≡ 1 → home_at m.states i ≡ i
own_home entries m is i k =
    let t = there_by (slice_get m.states i) k in
    let u = is.used i (get_below m.states i t.0 t.1) in
    by u.0 u.1 u.2
  where
    by : (q : RootState) → IsBuilt entries q → is.class q ≡ i → home_at m.states i ≡ i
    by None b c =
        let e = (is.twin no_context).kind None i (sym c, b) in
        absurd (not_less 0 (sym e ∙ k) (omega arith))
    by (Some (n, s)) b c =
        let w = is.twin no_context in
        let p = kind_one (scans_at entries n) _ _ _ (sym (w.kind (Some (n, s)) i (sym c, b)) ∙ k) in
        let x : s ≡ (auto_at entries n).start = eq_by_cmp-same nat_order s (auto_at entries n).start p.1 in
        (w.home (Some (n, s)) i (sym c, b)).0
        ∙ ap (λ (z : Bool). is.class (cond z (Some (n, (auto_at entries n).start)) None)) p.0
        ∙ ap (λ (z : ℕ). is.class (Some (n, z))) (sym x)
        ∙ c
