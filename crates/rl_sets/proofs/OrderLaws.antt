-- Orders of parts make orders of wholes.
use Rattle.std.proofs.Common.{◌≡◌, Bool, true, false, List, [], ◌∷◌, refl, sym, ◌∙◌, ap, subst, Ordering, Option, Some, None}
use Rattle.std.specs.declared.cmp.Ordering.TheVariants.{Less, Equal, Greater}
use Rattle.std.specs.Ordering.{ordering_then, ordering_reverse, is_eq, nat_cmp, int_cmp, bool_cmp, eq_by_cmp}
use Rattle.std.specs.Cmp.{nat_cmp_total, int_cmp_total, bool_cmp_total, tied_itself}
use Rattle.std.specs.Option.{option_cmp}
use Rattle.std.specs.Cmp.Lexicographic.{slice_cmp}
use Rattle.rl_sets.specs.Order.{IsOrder, pair_order}
use Rattle.std.specs.FinMap.{nat_cmp-IsAntisymmetric, int_cmp-IsAntisymmetric, slice_cmp-IsAntisymmetric}

-- an order whose answers can be told apart
abbrev Code : Ordering → Type 0
Code Less = ⊥
Code Equal = Unit {0}
Code Greater = ⊥

not_Less : {P : Type 0} → Less ≡ Equal → P
not_Less e = absurd (subst Code (sym e) tt)

never_turned : {P : Type 0} → Greater ≡ Less → P
never_turned e = absurd (subst (λ w. elim w as (λ _. Type 0) [ Less ↦ ⊥ | Equal ↦ ⊥ | Greater ↦ Unit {0} ]) e tt)

not_Greater : {P : Type 0} → Greater ≡ Equal → P
not_Greater e = absurd (subst Code (sym e) tt)

first_equal : (r s : Ordering) → ordering_then r s ≡ Equal → (r ≡ Equal) × (s ≡ Equal)
first_equal Less s e = not_Less e
first_equal Equal s e = (refl, e)
first_equal Greater s e = not_Greater e

reverse_then : (r s : Ordering) → ordering_reverse (ordering_then r s) ≡ ordering_then (ordering_reverse r) (ordering_reverse s)
reverse_then Less s = refl
reverse_then Equal s = refl
reverse_then Greater s = refl

pub nat_order : IsOrder nat_cmp
nat_order = record { total = nat_cmp_total; same = nat_cmp-IsAntisymmetric }

pub int_order : IsOrder int_cmp
int_order = record { total = int_cmp_total; same = int_cmp-IsAntisymmetric }

bool_same : (x y : Bool) → bool_cmp x y ≡ Equal → x ≡ y
bool_same false false e = refl
bool_same false true e = not_Less e
bool_same true false e = not_Greater e
bool_same true true e = refl

pub bool_order : IsOrder bool_cmp
bool_order = record { total = bool_cmp_total; same = bool_same }

pub point_order : IsOrder {K = Unit {0}} (λ x y. Equal)
point_order = record {
  total = record { antisymm = λ x y. refl; trans = λ x y z p q. not_Less (sym p); congr = λ x y z p. refl };
  same = λ x y e. refl;
}

-- of the answers of two orders in turn
then_trans : (r s r' s' r'' s'' : Ordering) → (r ≡ Less → r' ≡ Less → r'' ≡ Less) → (r ≡ Equal → r'' ≡ r') → (r' ≡ Equal → r'' ≡ r)
    → (r ≡ Equal → r' ≡ Equal → s ≡ Less → s' ≡ Less → s'' ≡ Less)
    → ordering_then r s ≡ Less → ordering_then r' s' ≡ Less → ordering_then r'' s'' ≡ Less
then_trans Less s Less s' r'' s'' a b c d p q = subst (λ w. ordering_then w s'' ≡ Less) (sym (a refl refl)) refl
then_trans Less s Equal s' r'' s'' a b c d p q = subst (λ w. ordering_then w s'' ≡ Less) (sym (c refl)) refl
then_trans Less s Greater s' r'' s'' a b c d p q = never_turned q
then_trans Equal s r' s' r'' s'' a b c d p q =
    (elim r' as (λ w. r' ≡ w → ordering_then w s' ≡ Less → ordering_then r'' s'' ≡ Less) [
      | Less ↦ λ e g. subst (λ w. ordering_then w s'' ≡ Less) (sym (b refl ∙ e)) refl
      | Equal ↦ λ e g. subst (λ w. ordering_then w s'' ≡ Less) (sym (b refl ∙ e)) (d refl e p g)
      | Greater ↦ λ e g. never_turned g
    ]) refl q
then_trans Greater s r' s' r'' s'' a b c d p q = never_turned p

module _ {K : Type 0} {R : K → K → Ordering} (o : IsOrder R) where
  pub ties : (x : K) → R x x ≡ Equal
  ties x = tied_itself o.total x

  congr_right : (x y z : K) → R x y ≡ Equal → R z x ≡ R z y
  congr_right x y z e = ap (R z) (o.same x y e)

-- the order by one part, and then by another
pub by_parts : {K J L : Type 0} {R : J → J → Ordering} {Q : L → L → Ordering} (f : K → J) (g : K → L) → IsOrder R → IsOrder Q
    → ((x y : K) → f x ≡ f y → g x ≡ g y → x ≡ y) → IsOrder (λ (x y : K). ordering_then (R (f x) (f y)) (Q (g x) (g y)))
by_parts {R = R} {Q = Q} f g o q whole = record {
  total = record {
    antisymm = λ x y. (λ i. ordering_then (o.total.antisymm (f x) (f y) i) (q.total.antisymm (g x) (g y) i)) ∙ sym (reverse_then (R (f y) (f x)) (Q (g y) (g x)));
    trans = λ x y z a b. then_trans _ _ _ _ _ _ (o.total.trans (f x) (f y) (f z)) (o.total.congr (f x) (f y) (f z)) (λ e. sym (congr_right o (f y) (f z) (f x) e)) (λ _ _. q.total.trans (g x) (g y) (g z)) a b;
    congr = λ x y z e. let p = first_equal _ _ e in λ i. ordering_then (o.total.congr (f x) (f y) (f z) p.0 i) (q.total.congr (g x) (g y) (g z) p.1 i);
  };
  same = λ x y e. let p = first_equal _ _ e in whole x y (o.same _ _ p.0) (q.same _ _ p.1);
}

pub pair_is_order : {S T : Type 0} {R : S → S → Ordering} {Q : T → T → Ordering} → IsOrder R → IsOrder Q → IsOrder (pair_order R Q)
pair_is_order o q = by_parts (λ p. p.0) (λ p. p.1) o q (λ x y e f. λ i. (e i, f i))

module _ {K : Type 0} {R : K → K → Ordering} (o : IsOrder R) where
  option_same : (x y : Option K) → option_cmp R x y ≡ Equal → x ≡ y
  option_same None None e = refl
  option_same None (Some y) e = not_Less e
  option_same (Some x) None e = not_Greater e
  option_same (Some x) (Some y) e = ap Some (o.same x y e)

  option_anti : (x y : Option K) → option_cmp R x y ≡ ordering_reverse (option_cmp R y x)
  option_anti None None = refl
  option_anti None (Some y) = refl
  option_anti (Some x) None = refl
  option_anti (Some x) (Some y) = o.total.antisymm x y

  option_trans : (x y z : Option K) → option_cmp R x y ≡ Less → option_cmp R y z ≡ Less → option_cmp R x z ≡ Less
  option_trans None None z a b = b
  option_trans None (Some y) None a b = never_turned b
  option_trans None (Some y) (Some z) a b = refl
  option_trans (Some x) None z a b = never_turned a
  option_trans (Some x) (Some y) None a b = b
  option_trans (Some x) (Some y) (Some z) a b = o.total.trans x y z a b

  option_congr : (x y z : Option K) → option_cmp R x y ≡ Equal → option_cmp R x z ≡ option_cmp R y z
  option_congr x y z e = ap (λ w. option_cmp R w z) (option_same x y e)

  pub option_is_order : IsOrder (option_cmp R)
  option_is_order = record { total = record { antisymm = option_anti; trans = option_trans; congr = option_congr }; same = option_same }

  list_anti : (x y : List K) → slice_cmp R x y ≡ ordering_reverse (slice_cmp R y x)
  list_anti [] [] = refl
  list_anti [] (y ∷ ys) = refl
  list_anti (x ∷ xs) [] = refl
  list_anti (x ∷ xs) (y ∷ ys) = (λ i. ordering_then (o.total.antisymm x y i) (list_anti xs ys i)) ∙ sym (reverse_then (R y x) (slice_cmp R ys xs))

  list_trans : (x y z : List K) → slice_cmp R x y ≡ Less → slice_cmp R y z ≡ Less → slice_cmp R x z ≡ Less
  list_trans [] [] z a b = b
  list_trans [] (y ∷ ys) [] a b = never_turned b
  list_trans [] (y ∷ ys) (z ∷ zs) a b = refl
  list_trans (x ∷ xs) [] z a b = never_turned a
  list_trans (x ∷ xs) (y ∷ ys) [] a b = b
  list_trans (x ∷ xs) (y ∷ ys) (z ∷ zs) a b =
      then_trans _ _ _ _ _ _ (o.total.trans x y z) (o.total.congr x y z) (λ e. sym (congr_right o y z x e)) (λ _ _. list_trans xs ys zs) a b

  pub list_is_order : IsOrder (slice_cmp R)
  list_is_order = record {
    total = record { antisymm = list_anti; trans = list_trans; congr = λ x y z e. ap (λ w. slice_cmp R w z) (slice_cmp-IsAntisymmetric o.same x y e) };
    same = slice_cmp-IsAntisymmetric o.same;
  }

-- the test of an order decides equality
pub eq_by_cmp-itself : {K : Type 0} {R : K → K → Ordering} → IsOrder R → (x : K) → eq_by_cmp R x x ≡ true
eq_by_cmp-itself o x = ap is_eq (ties o x)

eq_of : (r : Ordering) → is_eq r ≡ true → r ≡ Equal
eq_of Less e = absurd (subst (λ b. elim b as (λ _. Type 0) [ true ↦ ⊥ | false ↦ Unit {0} ]) e tt)
eq_of Equal e = refl
eq_of Greater e = absurd (subst (λ b. elim b as (λ _. Type 0) [ true ↦ ⊥ | false ↦ Unit {0} ]) e tt)

pub eq_by_cmp-same : {K : Type 0} {R : K → K → Ordering} → IsOrder R → (x y : K) → eq_by_cmp R x y ≡ true → x ≡ y
eq_by_cmp-same {R = R} o x y e = o.same x y (eq_of (R x y) e)
