-- Tables that bear the names of different machines.
use Rattle.std.proofs.Common.{◌≡◌, ℕ, zero, suc, ◌<◌, ◌≤◌, List, [], ◌∷◌, map, length, Option, Some, None, refl, sym, ap, ◌∙◌, subst, arith, inl, inr}
use Rattle.std.specs.Prelude.{slice_get}
use Rattle.std.proofs.lemmas.Option.{slice_get_within}
use Rattle.rl_arrays.specs.declared.arrays.Arrays.{Arrays}
use Rattle.rl_cread.specs.Sections.{IsRead}
use Rattle.rl_sets.specs.Sets.{In}
use Rattle.rl_automata.specs.Refused.{AreDifferent}
use Rattle.rl_lexical.specs.declared.part.Part.{Part}
use Rattle.rl_model.specs.declared.spec.Spec.{Spec}
use Rattle.rl_printed.specs.Printed.{printed}
use Rattle.rl_printed.specs.Reading.{AreHosts, AreSound, AreNamed, AreWithin, HaveOwnNames, IsReadByMachine}
use Rattle.rl_printed.proofs.PieceLaws.{each_read_back}

in_at : {A : Type 0} (xs : List A) (i : ℕ) (x : A) → slice_get xs i ≡ Some x → In x xs
in_at [] i x e = absurd (let no : None ≡ Some x = e in cc)
in_at (y ∷ ys) zero x e = inl (let same : y ≡ x = cc in same)
in_at (y ∷ ys) (suc i) x e = inr (in_at ys i x e)

some_of : {A : Type 0} (x y : A) → Some x ≡ Some y → x ≡ y
some_of x y e = cc

-- of different things one stands in one place
one_place : {A : Type 0} (xs : List A) (i j : ℕ) (x : A) → AreDifferent xs → slice_get xs i ≡ Some x → slice_get xs j ≡ Some x → i ≡ j
one_place [] i j x d e f = absurd (let no : None ≡ Some x = e in cc)
one_place (y ∷ ys) zero zero x d e f = refl
one_place (y ∷ ys) zero (suc j) x d e f = absurd (d.0 (subst (λ z. In z ys) (sym (some_of y x e)) (in_at ys j x f)))
one_place (y ∷ ys) (suc i) zero x d e f = absurd (d.0 (subst (λ z. In z ys) (sym (some_of y x f)) (in_at ys i x e)))
one_place (y ∷ ys) (suc i) (suc j) x d e f = ap suc (one_place ys i j x d.1 e f)

map_at : {A B : Type 0} (f : A → B) (xs : List A) (i : ℕ) (x : A) → slice_get xs i ≡ Some x → slice_get (map f xs) i ≡ Some (f x)
map_at f [] i x e = absurd (let no : None ≡ Some x = e in cc)
map_at f (y ∷ ys) zero x e = ap (λ z. Some (f z)) (some_of y x e)
map_at f (y ∷ ys) (suc i) x e = map_at f ys i x e

is_there : {A : Type 0} (xs : List A) (i : ℕ) → i < length xs → (x : A) × (slice_get xs i ≡ Some x)
is_there [] i l = absurd (omega arith)
is_there (y ∷ ys) zero l = (y, refl)
is_there (y ∷ ys) (suc i) l = is_there ys i (omega (arith, l))

named : (specs : List Spec) (tables : List (Option Arrays)) → AreSound specs tables → length tables ≤ length specs → HaveOwnNames specs → AreNamed tables
named specs tables machines few own i j a b e f same =
    let s = is_there specs i (let k = slice_get_within tables i (Some a) e in omega (arith, k, few)) in
    let t = is_there specs j (let k = slice_get_within tables j (Some b) f in omega (arith, k, few)) in
    let names : s.0.machine ≡ t.0.machine = sym (machines i s.0 s.1 a e).name ∙ same ∙ (machines j t.0 t.1 b f).name in
    let first = map_at (λ (spec : Spec). spec.machine) specs i s.0 s.1 in
    let second = map_at (λ (spec : Spec). spec.machine) specs j t.0 t.1 in
    let one : i ≡ j = one_place (map (λ (spec : Spec). spec.machine) specs) i j s.0.machine own first (second ∙ ap Some (sym names)) in
    let it : Some (Some a) ≡ Some (Some b) = sym e ∙ ap (slice_get tables) one ∙ f in
    some_of a b (some_of (Some a) (Some b) it)

pub machines_read_back : (parts : List Part) (specs : List Spec) (tables : List (Option Arrays)) → AreHosts parts → AreSound specs tables
    → AreWithin parts specs
    → length tables ≤ length specs → HaveOwnNames specs → IsReadByMachine specs tables (printed parts specs tables)
machines_read_back parts specs tables hosts machines within few own i spec a e f writes =
    subst (λ n. IsRead (Some n) (printed parts specs tables) a) (machines i spec e a f).name
    (each_read_back parts specs tables hosts machines within (named specs tables machines few own) i spec a e f writes)
