-- Lines that begin a section.
use Rattle.std.proofs.Common.{◌≡◌, ◌<◌, ℕ, Bool, List, ◌∷◌, ◌++◌, arith, refl, Option, Some, None, true, false, sym, ap, ◌∙◌, subst}
use Rattle.std.specs.Prelude.{MatchOption, IsTrue, IfSome, IsSomeAnd, slice_get, codes}
use Rattle.std.proofs.lemmas.List.{append_cancel_left, append_cancel_right}
use denote.Ref.{Bor}
use Rattle.rl_arrays.specs.Names.{is_name}
use Rattle.rl_arrays.specs.Section.{first_line}
use Rattle.rl_cread.specs.Sections.{version_text, Marks, IsFirst}
use Rattle.rl_cread.specs.Found.{front_text, IsFound}

pub same_mid : (front a b back : List ℕ) → front ++ (a ++ back) ≡ front ++ (b ++ back) → a ≡ b
same_mid front a b back e = append_cancel_right a b back (append_cancel_left front (a ++ back) (b ++ back) e)

-- a line begins sections of one version and one name alone
two_one : (r s : List ℕ) → 50 ∷ r ≡ 49 ∷ s → ⊥
two_one r s e = let h : ◌≡◌ {A = ℕ} 50 49 = cc in absurd (omega (arith, h))

pub one_mark : (v w : Bool) (a b : List ℕ) → first_line (version_text v) a ≡ first_line (version_text w) b → (v ≡ w) × (a ≡ b)
one_mark true true a b e = (refl, same_mid (codes "/* rl-data 2 ") a b (codes " */") e)
one_mark false false a b e = (refl, same_mid (codes "/* rl-data 1 ") a b (codes " */") e)
one_mark true false a b e = absurd (two_one _ _ (append_cancel_left (codes "/* rl-data ") (50 ∷ 32 ∷ (a ++ codes " */")) (49 ∷ 32 ∷ (b ++ codes " */")) e))
one_mark false true a b e = absurd (two_one _ _ (sym (append_cancel_left (codes "/* rl-data ") (49 ∷ 32 ∷ (a ++ codes " */")) (50 ∷ 32 ∷ (b ++ codes " */")) e)))

pub front_is : (shared : Bool) (name : List ℕ) → front_text shared ++ (name ++ codes " */") ≡ first_line (version_text shared) name
front_is true name = refl
front_is false name = refl

pub marked : (shared : Bool) (line front name : List ℕ) → front ≡ front_text shared → line ≡ front ++ (name ++ codes " */") → line ≡ first_line (version_text shared) name
marked shared line front name f e = e ∙ ap (λ t. t ++ (name ++ codes " */")) f ∙ front_is shared name

pub unmarked : (shared : Bool) (line front : List ℕ) → front ≡ front_text shared → ((mid : List ℕ) → line ≡ front ++ (mid ++ codes " */") → ⊥) → (name : List ℕ) → Marks None line shared name → ⊥
unmarked shared line front f h name m = h name (m.is ∙ sym (front_is shared name) ∙ ap (λ t. t ++ (name ++ codes " */")) (sym f))

pub unformed : (machine : Option (List ℕ)) (line : List ℕ) (v : Bool) (other : List ℕ) (w : Bool) (name : List ℕ)
    → line ≡ first_line (version_text v) other → is_name other ≡ false → Marks machine line w name → ⊥
unformed machine line v other w name e f m = let t : false ≡ true = sym (ap is_name (one_mark w v name other (sym m.is ∙ e)).1 ∙ f) ∙ m.formed in absurd cc

pub no_mark : (line : List ℕ) → ((name : List ℕ) → Marks None line true name → ⊥) → ((name : List ℕ) → Marks None line false name → ⊥)
    → (shared : Bool) (name : List ℕ) → Marks None line shared name → ⊥
no_mark line h k true name m = h name m
no_mark line h k false name m = k name m

pub unsought : (machine : Option (List ℕ)) (line : List ℕ) (v : Bool) (other word : List ℕ) → machine ≡ Some word → Marks None line v other
    → (word ≡ other → ⊥) → (shared : Bool) (name : List ℕ) → Marks machine line shared name → ⊥
unsought machine line v other word e o ne shared name m = ne (subst (λ x. IfSome x (λ w. w ≡ name)) e m.sought ∙ (one_mark shared v name other (sym m.is ∙ o.is)).1)

no_first_at : (machine : Option (List ℕ)) (o : Option (List ℕ)) (line : List ℕ) → o ≡ Some line
    → ((shared : Bool) (name : List ℕ) → Marks machine line shared name → ⊥) → IfSome o (λ l. IsFirst machine l → ⊥)
no_first_at machine None line e h = tt
no_first_at machine (Some l) line e h = let a : line ≡ l = cc in λ f. h f.shared f.name (subst (λ x. Marks machine x f.shared f.name) (sym a) f.marks)

pub none_at : (machine : Option (List ℕ)) (lines : List (List ℕ)) (i : ℕ) → slice_get lines i ≡ None → IfSome (slice_get lines i) (λ l. IsFirst machine l → ⊥)
none_at machine lines i e = subst (λ o. IfSome o (λ l. IsFirst machine l → ⊥)) (sym e) tt

pub no_first : (machine : Option (List ℕ)) (lines : List (List ℕ)) (i : ℕ) (line : List ℕ) → slice_get lines i ≡ Some line
    → ((shared : Bool) (name : List ℕ) → Marks machine line shared name → ⊥)
    → IfSome (slice_get lines i) (λ l. IsFirst machine l → ⊥)
no_first machine lines i line e h = no_first_at machine (slice_get lines i) line e h

pub one_first : (machine : Option (List ℕ)) (lines : List (List ℕ)) (i : ℕ) (line : List ℕ) (shared : Bool) (name : List ℕ)
    → slice_get lines i ≡ Some line → Marks machine line shared name
    → IsSomeAnd (slice_get lines i) (λ l. Marks machine l shared name)
one_first machine lines i line shared name e m = subst (λ o. IsSomeAnd o (λ l. Marks machine l shared name)) (sym e) m

pub section_option : (machine : Option (List ℕ)) (lines : List (List ℕ)) (i : ℕ) (line : List ℕ) (r : Option (Bool × Bor (List ℕ)))
    → slice_get lines i ≡ Some line
    → MatchOption r ((shared : Bool) (name : List ℕ) → Marks machine line shared name → ⊥) (λ m. Marks machine line m.0 m.1.now)
    → MatchOption r (IfSome (slice_get lines i) (λ l. IsFirst machine l → ⊥)) (λ m. IsSomeAnd (slice_get lines i) (λ l. Marks machine l m.0 m.1.now))
section_option machine lines i line None e h = no_first machine lines i line e h
section_option machine lines i line (Some m) e h = one_first machine lines i line m.0 m.1.now e h

first_of_marks : (machine : Option (List ℕ)) (shared : Bool) (name : List ℕ) (o : Option (List ℕ))
    → IsSomeAnd o (λ l. Marks machine l shared name) → IsSomeAnd o (IsFirst machine)
first_of_marks machine shared name None h = h
first_of_marks machine shared name (Some l) h = record { shared = shared; name = name; marks = h }

line_of_marks : (machine : Option (List ℕ)) (shared : Bool) (name : List ℕ) (o : Option (List ℕ))
    → IsSomeAnd o (λ l. Marks machine l shared name) → IsTrue (is_name name) × (o ≡ Some (first_line (version_text shared) name))
line_of_marks machine shared name None h = absurd h
line_of_marks machine shared name (Some l) h = (h.formed, ap Some h.is)

pub is_found : (machine : Option (List ℕ)) (lines : List (List ℕ)) (i : ℕ) (shared : Bool) (name : List ℕ)
    → IsSomeAnd (slice_get lines i) (λ l. Marks machine l shared name)
    → ((k : ℕ) → k < i → IfSome (slice_get lines k) (λ l. IsFirst machine l → ⊥)) → IsFound machine lines i shared name
is_found machine lines i shared name h before =
    let l = line_of_marks machine shared name (slice_get lines i) h in
    record { begins = record { first = first_of_marks machine shared name (slice_get lines i) h; before = before }; formed = l.0; is = l.1 }
