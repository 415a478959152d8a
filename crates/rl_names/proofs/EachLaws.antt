-- What holds of each of a list, and values that are read one after another.
use Rattle.std.proofs.Common.{◌≡◌, Bool, true, false, List, [], ◌∷◌, ◌++◌, map, Option, Some, None, Result, Ok, Err, refl}
use Rattle.std.specs.Prelude.{if◌then◌else◌}
use Rattle.std.specs.List.{AllByRecursion, flat_map}
use Rattle.rl_grammar.specs.declared.read_fault.ReadFault.{ReadFault}
use Rattle.rl_names.specs.Answers.{and_then, or_else}

abbrev pub Each : {X : Type 0} → (X → Type 0) → List X → Type 0
Each P xs = AllByRecursion P xs

pub each_front : {X : Type 0} → (P : X → Type 0) (xs ys : List X) → Each P (xs ++ ys) → Each P xs
each_front P [] ys a = tt
each_front P (x ∷ xs) ys a = (a.0, each_front P xs ys a.1)

pub each_behind : {X : Type 0} → (P : X → Type 0) (xs ys : List X) → Each P (xs ++ ys) → Each P ys
each_behind P [] ys a = a
each_behind P (x ∷ xs) ys a = each_behind P xs ys a.1

pub each_map : {X Y : Type 0} → (P : Y → Type 0) (f : X → Y) (xs : List X) → Each (λ x. P (f x)) xs → Each P (map f xs)
each_map P f [] a = tt
each_map P f (x ∷ xs) a = (a.0, each_map P f xs a.1)

pub each_of_flat : {X Y : Type 0} → (P : Y → Type 0) (f : X → List Y) (xs : List X) → Each P (flat_map f xs) → Each (λ x. Each P (f x)) xs
each_of_flat P f [] a = tt
each_of_flat P f (x ∷ xs) a = (each_front P (f x) (flat_map f xs) a, each_of_flat P f xs (each_behind P (f x) (flat_map f xs) a))

pub both_each : {X : Type 0} (P Q R : X → Type 0) (xs : List X) → ((x : X) → P x → Q x → R x) → Each P xs → Each Q xs → Each R xs
both_each P Q R [] f h g = tt
both_each P Q R (x ∷ xs) f h g = (f x h.0 g.0, both_each P Q R xs f h.1 g.1)

-- ---- answers

pub same_ok : {X : Type 0} (x y : X) → ◌≡◌ {A = Result X ReadFault} (Ok x) (Ok y) → x ≡ y
same_ok x y h = cc

pub err_or_ok : {X : Type 0} (e : ReadFault) (x : X) → ◌≡◌ {A = Result X ReadFault} (Err e) (Ok x) → ⊥
err_or_ok e x h = cc

pub some_or_none : {X : Type 0} (x : X) → Some x ≡ None → ⊥
some_or_none x h = cc

pub same_some : {X : Type 0} (x y : X) → Some x ≡ Some y → x ≡ y
same_some x y h = cc

-- what is read on from a value
pub ok_then : {A B : Type 0} (read : Result A ReadFault) (next : A → Result B ReadFault) (y : B) → and_then read next ≡ Ok y → (x : A) × (read ≡ Ok x) × (next x ≡ Ok y)
ok_then (Ok x) next y h = (x, refl, h)
ok_then (Err e) next y h = absurd (err_or_ok e y h)

pub not_refused : {X : Type 0} (b : Bool) (e : ReadFault) (read : Result X ReadFault) (y : X) → (if b then Err e else read) ≡ Ok y → read ≡ Ok y
not_refused true e read y h = absurd (err_or_ok e y h)
not_refused false e read y h = h

-- no test finds anything
pub or_none : {X : Type 0} (a b : Option X) → or_else a b ≡ None → (a ≡ None) × (b ≡ None)
or_none None b h = (refl, h)
or_none (Some x) b h = absurd (some_or_none x h)
