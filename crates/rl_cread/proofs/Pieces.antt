-- Elements behind blanks, with commas between them.
use Rattle.std.proofs.Common.{◌≡◌, ◌<◌, ◌==◌, ℕ, zero, suc, List, [], ◌∷◌, ◌++◌, length, map, get_or, Option, Some, None, sym, ap, ◌∙◌, refl, arith}
use Rattle.std.specs.Prelude.{Result, Ok, Err, IfOk, MatchOption, slice_get}
use Rattle.std.specs.List.{AllByRecursion, slice_split, join_with_byte}
use Rattle.std.proofs.lemmas.List.Splits.{slice_split_none, slice_split_at, length-slice_split, join_with_byte-slice_split}
use denote.Ref.{Bor}
use Rattle.rl_arrays.specs.Section.{joined}
use Rattle.rl_cread.proofs.Lacking.{Lacks, Lacks-cons, every_lacks}

-- the parts between commas
abbrev pub cut : List ℕ → List (List ℕ)
cut text = slice_split (λ b. b == 44) text

abbrev spaced : List ℕ → List ℕ
spaced text = 32 ∷ text

append_nil : (xs : List ℕ) → xs ++ [] ≡ xs
append_nil [] = refl
append_nil (x ∷ xs) = ap (λ t. x ∷ t) (append_nil xs)

-- elements without commas are the parts of what they are joined to
pub cut_joined : (w : List ℕ) (ws : List (List ℕ)) → AllByRecursion (Lacks 44) (w ∷ ws) → cut (32 ∷ joined (w ∷ ws)) ≡ map spaced (w ∷ ws)
cut_joined w [] h = ap (λ t. cut (32 ∷ t)) (append_nil w) ∙ slice_split_none (λ b. b == 44) (32 ∷ w) (every_lacks 44 (32 ∷ w) (Lacks-cons 44 32 w refl h.0))
cut_joined w (v ∷ vs) h =
    slice_split_at (λ b. b == 44) (32 ∷ w) 44 (32 ∷ joined (v ∷ vs)) (every_lacks 44 (32 ∷ w) (Lacks-cons 44 32 w refl h.0)) refl ∙ ap (λ ps. (32 ∷ w) ∷ ps) (cut_joined v vs h.1)

join_spaced : (w : List ℕ) (ws : List (List ℕ)) → join_with_byte 44 (map spaced (w ∷ ws)) ≡ 32 ∷ joined (w ∷ ws)
join_spaced w [] = ap (λ t. 32 ∷ t) (sym (append_nil w))
join_spaced w (v ∷ vs) = ap (λ t. (32 ∷ w) ++ (44 ∷ t)) (join_spaced v vs)

-- and what has such parts is they, joined
joined_cut : (text : List ℕ) (ws : List (List ℕ)) → cut (32 ∷ text) ≡ map spaced ws → text ≡ joined ws
joined_cut text [] e = absurd (omega (arith, ap length e, length-slice_split (λ b. b == 44) (32 ∷ text)))
joined_cut text (w ∷ ws) e =
    let all : 32 ∷ text ≡ 32 ∷ joined (w ∷ ws) = sym (join_with_byte-slice_split 44 (32 ∷ text)) ∙ ap (join_with_byte 44) e ∙ join_spaced w ws in
    cc

map_spaced : {A : Type 0} (f : A → List ℕ) (xs : List A) → map (λ x. 32 ∷ f x) xs ≡ map spaced (map f xs)
map_spaced f [] = refl
map_spaced f (x ∷ xs) = ap (λ t. (32 ∷ f x) ∷ t) (map_spaced f xs)

pub all_map : {A : Type 0} (f : A → List ℕ) (P : A → Type 0) → ((x : A) → P x → Lacks 44 (f x)) → (xs : List A) → AllByRecursion P xs
    → AllByRecursion (Lacks 44) (map f xs)
all_map f P h [] a = tt
all_map f P h (x ∷ xs) a = (h x a.0, all_map f P h xs a.1)

none_read : {A : Type 0} (f : A → List ℕ) (P : A → Type 0) (text : List ℕ) → 0 < length text → ((x : A) → P x → Lacks 44 (f x))
    → ((xs : List A) → AllByRecursion P xs → cut (32 ∷ text) ≡ map (λ x. 32 ∷ f x) xs → ⊥) → (xs : List A) → AllByRecursion P xs → text ≡ joined (map f xs) → ⊥
none_read f P text some lacks none [] a e = absurd (omega (arith, ap length e))
none_read f P text some lacks none (x ∷ xs) a e = none (x ∷ xs) a (ap (λ t. cut (32 ∷ t)) e ∙ cut_joined (f x) (map f xs) (all_map f P lacks (x ∷ xs) a) ∙ sym (map_spaced f (x ∷ xs)))

-- what is read of the parts is read of the text
read_option : {A : Type 0} (f : A → List ℕ) (P : A → Type 0) (text : List ℕ) (ps : List (List ℕ)) (o : Option (List A)) → ps ≡ cut (32 ∷ text)
    → 0 < length text → ((x : A) → P x → Lacks 44 (f x))
    → MatchOption o ((xs : List A) → AllByRecursion P xs → ps ≡ map (λ x. 32 ∷ f x) xs → ⊥) (λ xs. AllByRecursion P xs × (ps ≡ map (λ x. 32 ∷ f x) xs))
    → MatchOption o ((xs : List A) → AllByRecursion P xs → text ≡ joined (map f xs) → ⊥) (λ xs. AllByRecursion P xs × (text ≡ joined (map f xs)))
read_option f P text ps None e some lacks h = none_read f P text some lacks (λ xs a k. h xs a (e ∙ k))
read_option f P text ps (Some xs) e some lacks h = (h.0, joined_cut text (map f xs) (sym e ∙ h.1 ∙ map_spaced f xs))

pub read_result : {A E : Type 0} (f : A → List ℕ) (P : A → Type 0) (text : List ℕ) (ps : List (List ℕ)) (r : Result (Option (List A)) E)
    → ps ≡ cut (32 ∷ text) → 0 < length text → ((x : A) → P x → Lacks 44 (f x))
    → IfOk r (λ o. MatchOption o ((xs : List A) → AllByRecursion P xs → ps ≡ map (λ x. 32 ∷ f x) xs → ⊥) (λ xs. AllByRecursion P xs × (ps ≡ map (λ x. 32 ∷ f x) xs)))
    → IfOk r (λ o. MatchOption o ((xs : List A) → AllByRecursion P xs → text ≡ joined (map f xs) → ⊥) (λ xs. AllByRecursion P xs × (text ≡ joined (map f xs))))
read_result f P text ps (Ok o) e some lacks h = read_option f P text ps o e some lacks h
read_result f P text ps (Err x) e some lacks h = tt

-- where an element is none, the parts are no list of elements
pub stuck_part : {A : Type 0} (f : A → List ℕ) (P : A → Type 0) (xs : List A) (i : ℕ) (t : List ℕ) → AllByRecursion P xs
    → slice_get (map f xs) i ≡ Some t → ((x : A) → P x → t ≡ f x → ⊥) → ⊥
stuck_part f P [] i t h e none = absurd cc
stuck_part f P (x ∷ xs) zero t h e none = none x h.0 cc
stuck_part f P (x ∷ xs) (suc i) t h e none = stuck_part f P xs i t h.1 e none

pub part_at : (ps : List (Bor (List ℕ))) (i : ℕ) (d : Bor (List ℕ)) → i < length ps → slice_get (map (λ p. p.now) ps) i ≡ Some (get_or ps i d).now
part_at [] i d lt = absurd (omega arith)
part_at (p ∷ ps) zero d lt = refl
part_at (p ∷ ps) (suc i) d lt = part_at ps i d (omega arith)
