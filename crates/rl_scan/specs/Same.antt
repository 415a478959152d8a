-- Configurations that compare equal are the same.
use Rattle.std.specs.Prelude.{◌≡◌, ◌↔◌, ℕ, false, List, Option, Some, None, nat_eq, IsTrue, refl}
use Rattle.std.proofs.Common.{ap, sym, subst, true≢false}
use Rattle.std.specs.Option.{option_eq}
use Rattle.std.specs.Cmp.{unsigned_Decides, IsEquivalence, nat_eq_equiv}
use Rattle.std.specs.Cmp.Lexicographic.{pointwise, pointwise_decides, lists_equiv, options_equiv}

never : {P : Type 0} → IsTrue false → P
never h = absurd (true≢false (sym h))

some_none : {P : Type 0} (x : ℕ) → ◌≡◌ {A = Option ℕ} (Some x) None → P
some_none {P} x e = let Q : Option ℕ → Type 0 = λ o. elim o as (λ _. Type 0) [ None ↦ P | Some y ↦ Unit {0} ] in subst Q e tt

pub part_same : (x y : Option ℕ) → IsTrue (option_eq nat_eq x y) ↔ (x ≡ y)
part_same None None = ((λ h. refl), (λ e. refl))
part_same None (Some y) = ((λ h. never h), (λ e. some_none y (sym e)))
part_same (Some x) None = ((λ h. never h), (λ e. some_none x e))
part_same (Some x) (Some y) = ((λ h. ap Some ((unsigned_Decides x y).0 h)), (λ e. (unsigned_Decides x y).1 (ap (λ o. elim o as (λ _. ℕ) [ None ↦ x | Some z ↦ z ]) e)))

pub parts_same : (c d : List (Option ℕ)) → IsTrue (pointwise (option_eq nat_eq) c d) ↔ (c ≡ d)
parts_same c d = pointwise_decides part_same c d

pub parts_equiv : IsEquivalence (pointwise (option_eq nat_eq))
parts_equiv = lists_equiv (options_equiv nat_eq_equiv)
