-- What the number of a definition stands for.
use Rattle.std.proofs.Common.{◌≡◌, ℕ, zero, suc, ◌+◌, ◌<◌, ◌≤◌, List, [], ◌∷◌, ◌++◌, length, take, drop, Option, Some, None, refl, ap, sym, ◌∙◌, append_assoc, arith}
use Rattle.std.specs.Prelude.{slice_get}
use Rattle.std.proofs.Math.Seq.{take-append_seam}
use Rattle.std.proofs.lemmas.List.{take-append-drop, length-take-le}
use Rattle.rl_types.specs.declared.alphabet.Alphabet.{Alphabet}
use Rattle.rl_draft.specs.declared.draft.Definition.{Definition}
use Rattle.rl_rewrite.specs.Plain.{Plain, value_plain, plains_behind, plains, named}

get_front : {X : Type 0} (xs ys : List X) (i : ℕ) → i < length xs → slice_get (xs ++ ys) i ≡ slice_get xs i
get_front [] ys i h = absurd (omega arith)
get_front (x ∷ xs) ys zero h = refl
get_front (x ∷ xs) ys (suc i) h = get_front xs ys i (omega arith)

get_last : {X : Type 0} (xs : List X) (y : X) → slice_get (xs ++ y ∷ []) (length xs) ≡ Some y
get_last [] y = refl
get_last (x ∷ xs) y = get_last xs y

longer : {X : Type 0} (xs : List X) (y : X) → length (xs ++ y ∷ []) ≡ suc (length xs)
longer [] y = refl
longer (x ∷ xs) y = ap suc (longer xs y)

front_stays : (alphabet : Alphabet) (known : List Plain) (ds : List Definition) (i : ℕ) → i < length known
    → slice_get (plains_behind alphabet known ds) i ≡ slice_get known i
front_stays alphabet known [] i h = refl
front_stays alphabet known (d ∷ ds) i h =
    let v = value_plain alphabet known d.value in
    front_stays alphabet (known ++ v ∷ []) ds i (omega (arith, longer known v)) ∙ get_front known (v ∷ []) i h

abbrev given : Definition → Option Definition → Definition
given d None = d
given d (Some x) = x

the_same : (x d : Definition) → Some x ≡ Some d → x ≡ d
the_same x d e = ap (given x) e

at_behind : (alphabet : Alphabet) (known : List Plain) (ds : List Definition) (i : ℕ) (d : Definition) → slice_get ds i ≡ Some d
    → slice_get (plains_behind alphabet known ds) (length known + i) ≡ Some (value_plain alphabet (plains_behind alphabet known (take i ds)) d.value)
at_behind alphabet known [] i d e = absurd (cc)
at_behind alphabet known (x ∷ ds) zero d e =
    let v = value_plain alphabet known x.value in
    let n : length known + 0 ≡ length known = omega arith in
    ap (λ z. slice_get (plains_behind alphabet (known ++ v ∷ []) ds) z) n
    ∙ front_stays alphabet (known ++ v ∷ []) ds (length known) (omega (arith, longer known v)) ∙ get_last known v
    ∙ ap (λ z. Some (value_plain alphabet known z.value)) (the_same x d e)
at_behind alphabet known (x ∷ ds) (suc i) d e =
    let v = value_plain alphabet known x.value in
    let n : length known + suc i ≡ length (known ++ v ∷ []) + i = omega (arith, longer known v) in
    ap (λ z. slice_get (plains_behind alphabet (known ++ v ∷ []) ds) z) n ∙ at_behind alphabet (known ++ v ∷ []) ds i d e

plains_length : (alphabet : Alphabet) (known : List Plain) (ds : List Definition) → length (plains_behind alphabet known ds) ≡ length known + length ds
plains_length alphabet known [] = omega arith
plains_length alphabet known (d ∷ ds) = let v = value_plain alphabet known d.value in
    omega (arith, plains_length alphabet (known ++ v ∷ []) ds, longer known v)

pub plains_count : (alphabet : Alphabet) (ds : List Definition) → length (plains alphabet ds) ≡ length ds
plains_count alphabet ds = omega (arith, plains_length alphabet [] ds)

pub plains_at : (alphabet : Alphabet) (ds : List Definition) (i : ℕ) (d : Definition) → slice_get ds i ≡ Some d
    → slice_get (plains alphabet ds) i ≡ Some (value_plain alphabet (plains alphabet (take i ds)) d.value)
plains_at alphabet ds i d e =
    let z : i ≡ 0 + i = omega arith in
    ap (λ k. slice_get (plains alphabet ds) k) z ∙ at_behind alphabet [] ds i d e

get_past : {X : Type 0} (xs : List X) (i : ℕ) → length xs ≤ i → slice_get xs i ≡ None
get_past [] i h = refl
get_past (x ∷ xs) zero h = absurd (omega arith)
get_past (x ∷ xs) (suc i) h = get_past xs i (omega arith)

pub plains_past : (alphabet : Alphabet) (ds : List Definition) (i : ℕ) → length ds ≤ i → slice_get (plains alphabet ds) i ≡ None
plains_past alphabet ds i h = get_past (plains alphabet ds) i (omega (arith, plains_length alphabet [] ds))

-- the definition with a number, and its share of the walk
pub named_at : (alphabet : Alphabet) (ds : List Definition) (i : ℕ) (d : Definition) → slice_get ds i ≡ Some d
    → named (slice_get (plains alphabet ds) i) ≡ value_plain alphabet (plains alphabet (take i ds)) d.value
named_at alphabet ds i d e = ap named (plains_at alphabet ds i d e)

pub named_past : (alphabet : Alphabet) (ds : List Definition) (i : ℕ) → length ds ≤ i → named (slice_get (plains alphabet ds) i) ≡ named None
named_past alphabet ds i h = ap named (plains_past alphabet ds i h)

behind_append : (alphabet : Alphabet) (known : List Plain) (xs ys : List Definition) → plains_behind alphabet known (xs ++ ys) ≡ plains_behind alphabet (plains_behind alphabet known xs) ys
behind_append alphabet known [] ys = refl
behind_append alphabet known (x ∷ xs) ys = behind_append alphabet (known ++ value_plain alphabet known x.value ∷ []) xs ys

take_next : (ds : List Definition) (i : ℕ) (d : Definition) → slice_get ds i ≡ Some d → take (suc i) ds ≡ take i ds ++ d ∷ []
take_next [] i d e = absurd (cc)
take_next (x ∷ ds) zero d e = ap (λ z. z ∷ []) (the_same x d e)
take_next (x ∷ ds) (suc i) d e = ap (λ z. x ∷ z) (take_next ds i d e)

pub plains_more : (alphabet : Alphabet) (ds : List Definition) (i : ℕ) (d : Definition) → slice_get ds i ≡ Some d
    → plains alphabet (take (i + 1) ds) ≡ plains alphabet (take i ds) ++ value_plain alphabet (plains alphabet (take i ds)) d.value ∷ []
plains_more alphabet ds i d e =
    let n : i + 1 ≡ suc i = omega arith in
    ap (λ z. plains alphabet (take z ds)) n ∙ ap (λ z. plains alphabet z) (take_next ds i d e) ∙ behind_append alphabet [] (take i ds) (d ∷ [])

-- ---- the definitions before one

append_none : {X : Type 0} (xs : List X) → xs ++ [] ≡ xs
append_none [] = refl
append_none (x ∷ xs) = ap (λ z. x ∷ z) (append_none xs)

rest_behind : Alphabet → List Plain → List Definition → List Plain
rest_behind alphabet known [] = []
rest_behind alphabet known (d ∷ ds) = let v = value_plain alphabet known d.value in v ∷ rest_behind alphabet (known ++ v ∷ []) ds

behind_rest : (alphabet : Alphabet) (known : List Plain) (ds : List Definition) → plains_behind alphabet known ds ≡ known ++ rest_behind alphabet known ds
unfolding rest_behind
behind_rest alphabet known [] = sym (append_none known)
behind_rest alphabet known (d ∷ ds) =
    let v = value_plain alphabet known d.value in
    behind_rest alphabet (known ++ v ∷ []) ds ∙ append_assoc known (v ∷ []) (rest_behind alphabet (known ++ v ∷ []) ds)

pub plains_front : (alphabet : Alphabet) (ds : List Definition) (i : ℕ) → i ≤ length ds → take i (plains alphabet ds) ≡ plains alphabet (take i ds)
plains_front alphabet ds i h =
    let front = plains alphabet (take i ds) in
    let n : length front ≡ i = plains_count alphabet (take i ds) ∙ length-take-le i ds h in
    ap (λ z. take i (plains alphabet z)) (sym (take-append-drop i ds)) ∙ ap (take i) (behind_append alphabet [] (take i ds) (drop i ds) ∙ behind_rest alphabet front (drop i ds))
    ∙ ap (λ z. take z (front ++ rest_behind alphabet front (drop i ds))) (sym n) ∙ take-append_seam front (rest_behind alphabet front (drop i ds))
