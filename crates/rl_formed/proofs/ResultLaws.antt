-- Values that are read one after another.
use Rattle.std.proofs.Common.{◌≡◌, Bool, true, false, List, [], ◌∷◌, Option, None, Some, Result, Ok, Err, refl, subst}
use Rattle.std.specs.Prelude.{if◌then◌else◌}
use Rattle.rl_grammar.specs.declared.read_fault.ReadFault.{ReadFault}
use Rattle.rl_names.specs.Answers.{and_then, each, along, or_else}
use Rattle.rl_form.proofs.Lists.{Each}

pub some_or_none : {X : Type 0} (x : X) → Some x ≡ None → ⊥
some_or_none x h = cc

pub same_some : {X : Type 0} (x y : X) → Some x ≡ Some y → x ≡ y
same_some x y h = cc

pub same_ok : {X : Type 0} (x y : X) → ◌≡◌ {A = Result X ReadFault} (Ok x) (Ok y) → x ≡ y
same_ok x y h = cc

pub err_or_ok : {X : Type 0} (e : ReadFault) (x : X) → ◌≡◌ {A = Result X ReadFault} (Err e) (Ok x) → ⊥
err_or_ok e x h = cc

-- what is read on from a value
pub ok_then : {A B : Type 0} (read : Result A ReadFault) (next : A → Result B ReadFault) (y : B) → and_then read next ≡ Ok y → (x : A) × (read ≡ Ok x) × (next x ≡ Ok y)
ok_then (Ok x) next y h = (x, refl, h)
ok_then (Err e) next y h = absurd (err_or_ok e y h)

pub not_refused : {X : Type 0} (b : Bool) (e : ReadFault) (read : Result X ReadFault) (y : X) → (if b then Err e else read) ≡ Ok y → (b ≡ false) × (read ≡ Ok y)
not_refused true e read y h = absurd (err_or_ok e y h)
not_refused false e read y h = (refl, h)

-- what every item keeps of a state, all keep
pub along_keeps : {S A : Type 0} (P : S → Type 0) (Q : A → Type 0) (step : S → A → Result S ReadFault) → ((s : S) (x : A) (t : S) → Q x → step s x ≡ Ok t → P s → P t)
    → (s : S) (xs : List A) (t : S) → Each Q xs → along step s xs ≡ Ok t → P s → P t
along_keeps P Q step keep s [] t q e h = subst P (same_ok s t e) h
along_keeps P Q step keep s (x ∷ xs) t q e h =
    let i = ok_then (step s x) (λ u. along step u xs) t e in
    along_keeps P Q step keep i.0 xs t q.1 i.2 (keep s x i.0 q.0 i.1 h)

-- each is what its item is read as
pub each_read : {A B : Type 0} (P : B → Type 0) (read : A → Result B ReadFault) → ((x : A) (y : B) → read x ≡ Ok y → P y) → (xs : List A) (ys : List B) → each read xs ≡ Ok ys → Each P ys
each_read P read holds [] ys e = subst (Each P) (same_ok [] ys e) tt
each_read P read holds (x ∷ xs) ys e =
    let i = ok_then (read x) (λ y. and_then (each read xs) (λ zs. Ok (y ∷ zs))) ys e in
    let j = ok_then (each read xs) (λ zs. Ok (i.0 ∷ zs)) ys i.2 in
    subst (Each P) (same_ok (i.0 ∷ j.0) ys j.2) (holds x i.0 i.1, each_read P read holds xs j.0 j.1)

-- no test finds anything
pub or_none : {X : Type 0} (a b : Option X) → or_else a b ≡ None → (a ≡ None) × (b ≡ None)
or_none None b h = (refl, h)
or_none (Some x) b h = absurd (some_or_none x h)

pub always : {X : Type 0} (xs : List X) → Each (λ (x : X). Unit {0}) xs
always [] = tt
always (x ∷ xs) = (tt, always xs)
