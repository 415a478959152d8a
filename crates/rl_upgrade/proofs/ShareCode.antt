-- Cells in code are equal where their values are.
use Rattle.std.proofs.Common.{◌≡◌, ◌<◌, suc, length, drop, get_or, append_assoc, add-one, drop-cons, ℕ, Bool, true, false, cond, ◌&&◌, ◌||◌, nat_eq, ◌+◌, List, [], ◌∷◌, ◌++◌, map, Some, refl, sym, ap, ◌∙◌}
use Rattle.std.specs.Prelude.{position, unwrap_or}
use Rattle.std.specs.List.{flat_map, list_any}
use Rattle.std.specs.Option.{option_map}
use Rattle.std.specs.Cmp.Lexicographic.{pointwise}
use Rattle.std.proofs.lemmas.List.{map-append}
use denote.Ref.{Bor}
use Rattle.rl_arrays.specs.Shared.{same_entries, same_cell, with_cell, cell_number}
use Rattle.rl_upgrade.specs.declared.cells.Leads.{Leads}
use Rattle.rl_upgrade.specs.declared.cells.Cell.{Cell}
use Rattle.rl_upgrade.specs.Values.{pair_of, value_of, values}
use Rattle.rl_upgrade.proofs.ListLaws.{position-cons}

abbrev pub same_leads : Leads → Leads → Bool
same_leads e f = nat_eq e.target f.target && nat_eq e.list f.list

abbrev pub same : Cell → Cell → Bool
same c d = nat_eq c.asks d.asks && pointwise same_leads c.entries.items d.entries.items

entries_are : (xs ys : List Leads) → same_entries (map pair_of xs) (map pair_of ys) ≡ pointwise same_leads xs ys
entries_are [] [] = refl
entries_are [] (y ∷ ys) = refl
entries_are (x ∷ xs) [] = refl
entries_are (x ∷ xs) (y ∷ ys) = ap (λ b. same_leads x y && b) (entries_are xs ys)

cells_are : (c d : Cell) → same_cell (value_of c) (value_of d) ≡ same c d
cells_are c d = ap (λ b. nat_eq c.asks d.asks && b) (entries_are c.entries.items d.entries.items)

any_is : (c : Cell) (keys : List (Bor Cell)) → list_any (same_cell (value_of c)) (values keys) ≡ list_any (λ (k : Bor Cell). same c k.now) keys
any_is c [] = refl
any_is c (k ∷ keys) = λ i. cells_are c k.now i || any_is c keys i

-- a cell that is put among others
pub inserted : (keys : List (Bor Cell)) (c : Bor Cell)
    → values (cond (list_any (λ (k : Bor Cell). same c.now k.now) keys) keys (keys ++ c ∷ [])) ≡ with_cell (values keys) (value_of c.now)
inserted keys c =
    by (list_any (λ (k : Bor Cell). same c.now k.now) keys)
    ∙ sym (λ i. cond (any_is c.now keys i) (values keys) (values keys ++ value_of c.now ∷ []))
  where
    by : (b : Bool) → values (cond b keys (keys ++ c ∷ [])) ≡ cond b (values keys) (values keys ++ value_of c.now ∷ [])
    by true = refl
    by false = map-append (λ (k : Bor Cell). value_of k.now) keys (c ∷ [])

place_is : (c : Cell) (keys : List (Bor Cell)) → position (λ (k : Bor Cell). same c k.now) keys ≡ position (same_cell (value_of c)) (values keys)
place_is c [] = refl
place_is c (k ∷ keys) =
    position-cons (λ (k : Bor Cell). same c k.now) k keys
    ∙ (λ i. cond (sym (cells_are c k.now) i) (Some 0) (option_map (λ n. n + 1) (place_is c keys i)))
    ∙ sym (position-cons (same_cell (value_of c)) (value_of k.now) (values keys))

-- its number among them
pub numbered : (keys : List (Bor Cell)) (c : Cell) → unwrap_or (position (λ (k : Bor Cell). same c k.now) keys) 0 ≡ cell_number (values keys) (value_of c)
numbered keys c = ap (λ o. unwrap_or o 0) (place_is c keys)

-- ---- what is made of each of several cells, one list behind another

pub flat_more : {X Y Z : Type 0} → (f : Y → List Z) (g : X → Y) (whole now more zs : List Z) (xs : List X) (i : ℕ) (x : X) → i < length xs → x ≡ get_or xs i x
    → whole ≡ now ++ flat_map f (map g (drop i xs)) → more ≡ now ++ zs → zs ≡ f (g x) → whole ≡ more ++ flat_map f (map g (drop (i + 1) xs))
flat_more {X = X} f g whole now more zs xs i x l is before pushed at =
    before ∙ ap (λ w. now ++ flat_map f (map g w)) cut
    ∙ sym (append_assoc now (f (g x)) (flat_map f (map g (drop (i + 1) xs))))
    ∙ sym (λ j. (pushed ∙ ap (λ w. now ++ w) at) j ++ flat_map f (map g (drop (i + 1) xs)))
  where
    cut : drop i xs ≡ x ∷ drop (i + 1) xs
    cut = drop-cons xs i x l ∙ ap (λ (w : X). w ∷ drop (suc i) xs) (sym is) ∙ ap (λ k. x ∷ drop k xs) (sym (add-one i))
