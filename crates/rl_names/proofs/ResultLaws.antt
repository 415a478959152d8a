-- Values that are read one after another: a loop's turns, and its first refusal.
use Rattle.std.proofs.Common.{◌≡◌, ℕ, ◌+◌, ◌<◌, ◌≤◌, List, [], ◌∷◌, ◌++◌, length, drop, get_or, Result, Ok, Err, refl, sym, ap, ◌∙◌, subst, append_assoc, drop-cons, add-one}
use Rattle.std.proofs.lemmas.List.{append-nil, drop_all}
use Rattle.rl_grammar.specs.declared.read_fault.ReadFault.{ReadFault}
use Rattle.rl_grammar.specs.declared.read_fault.ReadFault.TheVariants as reason
use Rattle.rl_names.specs.Answers.{and_then, each, Explains, Gives}

-- a refusal stays
pub explains_then : {A B : Type 0} (e : ReadFault) (r : Result A ReadFault) (next : A → Result B ReadFault) → Explains r e → Explains (and_then r next) e
explains_then (reason.Fault f) r next h = ap (λ z. and_then z next) h
explains_then (reason.Limit l) r next h = ap (λ z. and_then z next) h
explains_then reason.Memory r next h = tt

pub explains_along : {A : Type 0} (e : ReadFault) (r s : Result A ReadFault) → r ≡ s → Explains r e → Explains s e
explains_along e r s same h = subst (λ z. Explains z e) same h

pub gives_then : {A B : Type 0} (r : Result A ReadFault) (next : A → Result B ReadFault) (x : A) (answer : Result B ReadFault) → r ≡ Ok x → Gives (next x) answer → Gives (and_then r next) answer
gives_then r next x answer e h = subst (λ z. Gives (and_then z next) answer) (sym e) h

-- values before those that are read on
abbrev pub behind : {B : Type 0} → List B → Result (List B) ReadFault → Result (List B) ReadFault
behind found read = and_then read (λ ys. Ok (found ++ ys))

pub nothing_before : {B : Type 0} (r : Result (List B) ReadFault) → behind [] r ≡ r
nothing_before (Ok ys) = refl
nothing_before (Err e) = refl

pub one_before : {B : Type 0} (found : List B) (y : B) (r : Result (List B) ReadFault) → behind found (and_then r (λ ys. Ok (y ∷ ys))) ≡ behind (found ++ y ∷ []) r
one_before found y (Ok ys) = ap (λ z. Ok z) (sym (append_assoc found (y ∷ []) ys))
one_before found y (Err e) = refl

module _ {A B : Type 0} (read : A → Result B ReadFault) (xs : List A) where
  pub starts : behind [] (each read (drop 0 xs)) ≡ each read xs
  starts = nothing_before (each read xs)

  next_is : (found : List B) (i : ℕ) (x : A) → i < length xs → x ≡ get_or xs i x
      → behind found (each read (drop i xs)) ≡ behind found (and_then (read x) (λ y. and_then (each read (drop (i + 1) xs)) (λ ys. Ok (y ∷ ys))))
  next_is found i x less item =
      let here : drop i xs ≡ get_or xs i x ∷ drop (i + 1) xs = rw (add-one, drop-cons xs i x) refl in
      ap (λ z. behind found (each read z)) (here ∙ ap (λ z. z ∷ drop (i + 1) xs) (sym item))

  -- a turn of the loop
  pub goes_on : (whole : Result (List B) ReadFault) (found : List B) (i : ℕ) (x : A) (y : B) → i < length xs → x ≡ get_or xs i x → read x ≡ Ok y
      → behind found (each read (drop i xs)) ≡ whole → behind (found ++ y ∷ []) (each read (drop (i + 1) xs)) ≡ whole
  goes_on whole found i x y less item one e =
      sym (one_before found y (each read (drop (i + 1) xs)))
      ∙ (ap (λ z. behind found (and_then z (λ y. and_then (each read (drop (i + 1) xs)) (λ ys. Ok (y ∷ ys))))) (sym one)
      ∙ (sym (next_is found i x less item) ∙ e))

  -- a turn that stops
  pub stops : (whole : Result (List B) ReadFault) (found : List B) (i : ℕ) (x : A) (e : ReadFault) → i < length xs → x ≡ get_or xs i x → Explains (read x) e
      → behind found (each read (drop i xs)) ≡ whole → Explains whole e
  stops whole found i x e less item h same =
      let rest = λ (y : B). and_then (each read (drop (i + 1) xs)) (λ ys. Ok (y ∷ ys)) in
      explains_along e (behind found (and_then (read x) rest)) whole (sym (next_is found i x less item) ∙ same)
      (explains_then e (and_then (read x) rest) (λ ys. Ok (found ++ ys)) (explains_then e (read x) rest h))

  -- the end of the loop
  pub ends : (whole : Result (List B) ReadFault) (found : List B) (i : ℕ) → length xs ≤ i → behind found (each read (drop i xs)) ≡ whole → whole ≡ Ok found
  ends whole found i over e =
      let none : drop i xs ≡ [] = drop_all i xs over in
      sym e ∙ (ap (λ z. behind found (each read z)) none ∙ ap (λ z. Ok z) (append-nil found))
