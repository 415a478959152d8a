-- Machines that are made from the end.
use Rattle.std.proofs.Common.{◌≡◌, ℕ, List, [], ◌∷◌, ◌++◌, Option, None, Some, refl, sym, ap, ◌∙◌, subst, append_assoc}
use Rattle.std.specs.Prelude.{map, reverse}
use Rattle.std.specs.List.{flat_map}
use Rattle.std.proofs.lemmas.List.{append-nil, reverse-append}
use Rattle.rl_types.specs.declared.faults.Limit.{Limit}
use Rattle.rl_draft.specs.declared.draft.Draft.{Draft}
use Rattle.rl_model.specs.declared.spec.Spec.{Spec}
use Rattle.rl_rewrite.specs.Entries.{meanings, first_limit}
use Rattle.rl_resolve.specs.Descriptions.{Description, description, described}
use Rattle.rl_resolve.specs.Limits.{passed_as, passed_by, passed}
use Rattle.rl_resolve.specs.Machines.{kept_as, kept_by, kept, IsNext, AreBehind, AreAll}
use Rattle.rl_resolve.specs.declared.limits.Passed.{Passed}
use Rattle.rl_resolve.specs.declared.machines.Machines.{Machines}

-- ---- a list from its end

pub reversed_more : {X : Type 0} (taken rest found more : List X) (x : X) (whole : List X) → taken ≡ rest ++ x ∷ [] → more ≡ found ++ x ∷ [] → found ++ reverse taken ≡ whole → more ++ reverse rest ≡ whole
reversed_more taken rest found more x whole is put h =
    ap (λ z. z ++ reverse rest) put
    ∙ (append_assoc found (x ∷ []) (reverse rest)
    ∙ (ap (λ z. found ++ z) (sym (ap reverse is ∙ reverse-append rest (x ∷ []))) ∙ h))

pub reversed_all : {X : Type 0} (rest found whole : List X) → rest ≡ [] → found ++ reverse rest ≡ whole → found ≡ whole
reversed_all rest found whole none h = sym (append-nil found) ∙ (ap (λ z. found ++ reverse z) (sym none) ∙ h)

map_append : {X Y : Type 0} (f : X → Y) (xs ys : List X) → map f (xs ++ ys) ≡ map f xs ++ map f ys
map_append f [] ys = refl
map_append f (x ∷ xs) ys = ap (λ z. f x ∷ z) (map_append f xs ys)

map_reverse : {X Y : Type 0} (f : X → Y) (xs : List X) → map f (reverse xs) ≡ reverse (map f xs)
map_reverse f [] = refl
map_reverse f (x ∷ xs) =
    ap (map f) (reverse-append (x ∷ []) xs)
    ∙ (map_append f (reverse xs) (x ∷ [])
    ∙ (ap (λ z. z ++ f x ∷ []) (map_reverse f xs) ∙ sym (reverse-append (f x ∷ []) (map f xs))))

flat_map_last : {X Y : Type 0} (f : X → List Y) (xs : List X) (x : X) → flat_map f (xs ++ x ∷ []) ≡ flat_map f xs ++ f x
flat_map_last f [] x = append-nil (f x)
flat_map_last f (y ∷ ys) x = ap (λ z. f y ++ z) (flat_map_last f ys x) ∙ sym (append_assoc (f y) (flat_map f ys) (f x))

-- one more in front of those behind it
popped : {X Y : Type 0} (f : X → List Y) (taken rest : List X) (x : X) (old new whole : List Y) → taken ≡ rest ++ x ∷ [] → new ≡ f x ++ old → flat_map f taken ++ old ≡ whole → flat_map f rest ++ new ≡ whole
popped f taken rest x old new whole is put h =
    ap (λ z. flat_map f rest ++ z) put
    ∙ (sym (append_assoc (flat_map f rest) (f x) old)
    ∙ (ap (λ z. z ++ old) (sym (ap (flat_map f) is ∙ flat_map_last f rest x)) ∙ h))

-- ---- machines

put_last : (xs ys : List Description) (d : Description) → ys ≡ xs ++ d ∷ [] → reverse ys ≡ d ∷ reverse xs
put_last xs ys d h = ap reverse h ∙ reverse-append xs (d ∷ [])

-- a Spec more
pub keeps : (files : List (List ℕ)) (draft : Draft) (spec : Spec) (old new : Machines) → first_limit [] (meanings draft) ≡ None → description spec ≡ described files draft
    → new.specs ≡ old.specs ++ spec ∷ [] → new.passed ≡ old.passed → IsNext files draft old new
keeps files draft spec old new within is put same = record {
  specs =
      put_last (map description old.specs) (map description new.specs) (described files draft)
      (ap (map description) put ∙ (map_append description old.specs (spec ∷ []) ∙ ap (λ z. map description old.specs ++ z ∷ []) is))
      ∙ ap (λ z. kept_as (described files draft) z ++ reverse (map description old.specs)) (sym within);
  passed = ap reverse same ∙ ap (λ z. passed_as draft.machine z ++ reverse old.passed) (sym within);
}

-- a machine more that passes a limit
pub passes : (files : List (List ℕ)) (draft : Draft) (limit : Limit) (old new : Machines) → first_limit [] (meanings draft) ≡ Some limit
    → new.specs ≡ old.specs → new.passed ≡ old.passed ++ record { machine = draft.machine; limit = limit } ∷ [] → IsNext files draft old new
passes files draft limit old new beyond same put = record {
  specs = ap (λ z. reverse (map description z)) same ∙ ap (λ z. kept_as (described files draft) z ++ reverse (map description old.specs)) (sym beyond);
  passed =
      ap reverse put ∙ reverse-append old.passed (record { machine = draft.machine; limit = limit } ∷ [])
      ∙ ap (λ z. passed_as draft.machine z ++ reverse old.passed) (sym beyond);
}

pub behind_next : (files : List (List ℕ)) (taken rest all : List Draft) (draft : Draft) (old new : Machines) → taken ≡ rest ++ draft ∷ [] → AreBehind files taken all old → IsNext files draft old new → AreBehind files rest all new
behind_next files taken rest all draft old new is h next = record {
  specs = popped (kept_by files) taken rest draft (reverse (map description old.specs)) (reverse (map description new.specs)) (kept files all) is next.specs h.specs;
  passed = popped passed_by taken rest draft (reverse old.passed) (reverse new.passed) (passed all) is next.passed h.passed;
}

pub behind_none : (files : List (List ℕ)) (all : List Draft) (m : Machines) → m.specs ≡ [] → m.passed ≡ [] → AreBehind files all all m
behind_none files all m none empty = record {
  specs = ap (λ z. kept files all ++ reverse (map description z)) none ∙ append-nil (kept files all);
  passed = ap (λ z. passed all ++ reverse z) empty ∙ append-nil (passed all);
}

pub behind_all : (files : List (List ℕ)) (first all : List Draft) (m : Machines) → first ≡ [] → AreBehind files first all m → AreBehind files [] all m
behind_all files first all m none h = subst (λ z. AreBehind files z all m) none h

pub all_in_order : (files : List (List ℕ)) (all : List Draft) (old new : Machines) → AreBehind files [] all old → new.specs ≡ reverse old.specs → new.passed ≡ reverse old.passed → AreAll files all new
all_in_order files all old new h specs passed = record {
  specs = ap (map description) specs ∙ (map_reverse description old.specs ∙ h.specs);
  passed = passed ∙ h.passed;
}

-- ---- no limit is passed

no_item : {X : Type 0} (x : X) (xs : List X) → x ∷ xs ≡ [] → ⊥
no_item x xs h = cc

abbrev Keeps : Description → Option Limit → List Passed → Type 0
Keeps d o rest = (kept_as d o ≡ d ∷ []) × (rest ≡ [])

keeps_one : (machine : List ℕ) (d : Description) (o : Option Limit) (rest : List Passed) → passed_as machine o ++ rest ≡ [] → Keeps d o rest
keeps_one machine d None rest h = (refl, h)
keeps_one machine d (Some limit) rest h = absurd (no_item (record { machine = machine; limit = limit }) rest h)

pub kept_all : (files : List (List ℕ)) (drafts : List Draft) → passed drafts ≡ [] → kept files drafts ≡ map (described files) drafts
kept_all files [] h = refl
kept_all files (d ∷ ds) h =
    let k = keeps_one d.machine (described files d) (first_limit [] (meanings d)) (passed ds) h in
    ap (λ z. z ++ kept files ds) k.0 ∙ ap (λ z. described files d ∷ z) (kept_all files ds k.1)
