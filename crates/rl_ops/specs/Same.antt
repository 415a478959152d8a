-- Configurations that compare equal are the same.
use Rattle.std.specs.Prelude.{◌≡◌, ◌↔◌, ℕ, Bool, true, false, ◌&&◌, List, Option, Some, None, nat_eq, IsTrue, refl}
use Rattle.std.proofs.Common.{ap, sym, subst, true≢false}
use Rattle.std.specs.Option.{option_eq}
use Rattle.std.specs.Cmp.{unsigned_Decides}
use Rattle.std.specs.Cmp.Lexicographic.{pointwise, bytes_decides}

never : {P : Type 0} → IsTrue false → P
never h = absurd (true≢false (sym h))

some_none : {P : Type 0} (x : ℕ) → ◌≡◌ {A = Option ℕ} (Some x) None → P
some_none {P} x e = let Q : Option ℕ → Type 0 = λ o. elim o as (λ _. Type 0) [ None ↦ P | Some y ↦ Unit {0} ] in subst Q e tt

pub state_same : (x y : Option ℕ) → IsTrue (option_eq nat_eq x y) ↔ (x ≡ y)
state_same None None = ((λ h. refl), (λ e. refl))
state_same None (Some y) = ((λ h. never h), (λ e. some_none y (sym e)))
state_same (Some x) None = ((λ h. never h), (λ e. some_none x e))
state_same (Some x) (Some y) = ((λ h. ap Some ((unsigned_Decides x y).0 h)), (λ e. (unsigned_Decides x y).1 (ap (λ o. elim o as (λ _. ℕ) [ None ↦ x | Some z ↦ z ]) e)))

both_so : (a b : Bool) → IsTrue (a && b) → IsTrue a × IsTrue b
both_so true b h = (refl, h)
both_so false b h = never h

so_both : (a b : Bool) → IsTrue a → IsTrue b → IsTrue (a && b)
so_both true b h k = k
so_both false b h k = h

pub pair_same : (c d : Option ℕ × Option ℕ) → IsTrue (option_eq nat_eq c.0 d.0 && option_eq nat_eq c.1 d.1) ↔ (c ≡ d)
pair_same c d = (
  (λ h. let p = both_so (option_eq nat_eq c.0 d.0) (option_eq nat_eq c.1 d.1) h in λ i. ((state_same c.0 d.0).0 p.0 i, (state_same c.1 d.1).0 p.1 i)),
  (λ e. so_both (option_eq nat_eq c.0 d.0) (option_eq nat_eq c.1 d.1) ((state_same c.0 d.0).1 (λ i. (e i).0)) ((state_same c.1 d.1).1 (λ i. (e i).1))),
)

pub chain_same : (c d : Option ℕ × List ℕ) → IsTrue (option_eq nat_eq c.0 d.0 && pointwise nat_eq c.1 d.1) ↔ (c ≡ d)
chain_same c d = (
  (λ h. let p = both_so (option_eq nat_eq c.0 d.0) (pointwise nat_eq c.1 d.1) h in λ i. ((state_same c.0 d.0).0 p.0 i, (bytes_decides c.1 d.1).0 p.1 i)),
  (λ e. so_both (option_eq nat_eq c.0 d.0) (pointwise nat_eq c.1 d.1) ((state_same c.0 d.0).1 (λ i. (e i).0)) ((bytes_decides c.1 d.1).1 (λ i. (e i).1))),
)

pub members_same : (c d : List ℕ) → IsTrue (pointwise nat_eq c d) ↔ (c ≡ d)
members_same c d = bytes_decides c d
