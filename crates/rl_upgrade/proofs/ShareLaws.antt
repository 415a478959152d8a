-- Shared cells: each that is used has a number there, and what holds of all that are used holds of them.
use Rattle.std.proofs.Common.{◌≡◌, ℕ, zero, suc, ◌+◌, Bool, true, false, true≢false, cond, ◌||◌, nat_eq, pos, List, [], ◌∷◌, ◌++◌, length, Some, refl, sym, ap, ◌∙◌, subst, arith}
use Rattle.std.specs.Prelude.{slice_get, position, unwrap_or}
use Rattle.std.specs.List.{AllByRecursion, list_any}
use Rattle.std.specs.Option.{option_map}
use Rattle.std.proofs.lemmas.Bool.{eqb-true, eq-eqb, and_from, and_parts}
use Rattle.rl_arrays.specs.Shared.{Cell, same_entry, same_entries, same_cell, with_cell, with_cells, shared, cell_number, places_from}
use Rattle.rl_upgrade.proofs.ListLaws.{all_append, position-cons, next_get, any_append, any_last}
use Rattle.rl_upgrade.proofs.Segments.{begins}

-- ---- equal cells

entries_self : (es : List (ℕ × ℕ)) → same_entries es es ≡ true
entries_self [] = refl
entries_self (e ∷ es) =
    and_from (same_entry e e) (same_entries es es) (and_from (nat_eq e.0 e.0) (nat_eq e.1 e.1) (eq-eqb e.0 e.0 refl) (eq-eqb e.1 e.1 refl)) (entries_self es)

entries_same : (es fs : List (ℕ × ℕ)) → same_entries es fs ≡ true → es ≡ fs
entries_same [] [] h = refl
entries_same [] (f ∷ fs) h = absurd (true≢false (sym h))
entries_same (e ∷ es) [] h = absurd (true≢false (sym h))
entries_same (e ∷ es) (f ∷ fs) h =
    let p = and_parts (same_entry e f) (same_entries es fs) h in
    let q = and_parts (nat_eq e.0 f.0) (nat_eq e.1 f.1) p.0 in
    let a : e.0 ≡ f.0 = eqb-true e.0 f.0 q.0 in
    let b : e.1 ≡ f.1 = eqb-true e.1 f.1 q.1 in
    let rest : es ≡ fs = entries_same es fs p.1 in
    λ i. (a i, b i) ∷ rest i

cell_self : (c : Cell) → same_cell c c ≡ true
cell_self c = and_from (nat_eq c.asks c.asks) (same_entries c.entries c.entries) (eq-eqb c.asks c.asks refl) (entries_self c.entries)

cell_same : (c d : Cell) → same_cell c d ≡ true → c ≡ d
cell_same c d h =
    let p = and_parts (nat_eq c.asks d.asks) (same_entries c.entries d.entries) h in
    let a : c.asks ≡ d.asks = eqb-true c.asks d.asks p.0 in
    let b : c.entries ≡ d.entries = entries_same c.entries d.entries p.1 in
    λ i. record { asks = a i; entries = b i }

-- ---- each cell that is used is there

abbrev is_in : List Cell → Cell → Bool
is_in cells c = list_any (same_cell c) cells

one_stays : (cells : List Cell) (d c : Cell) → is_in cells c ≡ true → is_in (with_cell cells d) c ≡ true
one_stays cells d c e = by (list_any (same_cell d) cells)
  where
    by : (b : Bool) → is_in (cond b cells (cells ++ d ∷ [])) c ≡ true
    by true = e
    by false = any_append (same_cell c) cells (d ∷ []) e

one_there : (cells : List Cell) (c : Cell) → is_in (with_cell cells c) c ≡ true
one_there cells c = by (list_any (same_cell c) cells) refl
  where
    by : (b : Bool) → list_any (same_cell c) cells ≡ b → is_in (cond b cells (cells ++ c ∷ [])) c ≡ true
    by true e = e
    by false e = any_last (same_cell c) cells c (cell_self c)

all_stay : (more cells : List Cell) (c : Cell) → is_in cells c ≡ true → is_in (with_cells cells more) c ≡ true
all_stay [] cells c e = e
all_stay (d ∷ more) cells c e = all_stay more (with_cell cells d) c (one_stays cells d c e)

each_there : (more cells : List Cell) (i : ℕ) (c : Cell) → slice_get more i ≡ Some c → is_in (with_cells cells more) c ≡ true
each_there [] cells i c e = absurd cc
each_there (d ∷ more) cells zero c e =
    let same : d ≡ c = cc in
    subst (λ z. is_in (with_cells cells (d ∷ more)) z ≡ true) same (all_stay more (with_cell cells d) d (one_there cells d))
each_there (d ∷ more) cells (suc i) c e = each_there more (with_cell cells d) i c e

-- a cell that is there stands at its number
place : (cells : List Cell) (c : Cell) → is_in cells c ≡ true → (i : ℕ) × (position (same_cell c) cells ≡ Some i) × (slice_get cells i ≡ Some c)
place [] c e = absurd (true≢false (sym e))
place (d ∷ cells) c e = by (same_cell c d) refl e (place cells c)
  where
    by : (b : Bool) → same_cell c d ≡ b → (b || is_in cells c) ≡ true
        → (is_in cells c ≡ true → (i : ℕ) × (position (same_cell c) cells ≡ Some i) × (slice_get cells i ≡ Some c))
        → (i : ℕ) × (position (same_cell c) (d ∷ cells) ≡ Some i) × (slice_get (d ∷ cells) i ≡ Some c)
    by true s h f = (
      0,
      position-cons (same_cell c) d cells ∙ (λ i. cond (s i) (Some 0) (option_map (λ n. n + 1) (position (same_cell c) cells))),
      ap (λ z. Some z) (sym (cell_same c d s)),
    )
    by false s h f =
        let p = f h in
        (p.0 + 1, position-cons (same_cell c) d cells ∙ (λ i. cond (s i) (Some 0) (option_map (λ n. n + 1) (p.1 i))), next_get d cells p.0 ∙ p.2)

pub shared_there : (used : List Cell) (i : ℕ) (c : Cell) → slice_get used i ≡ Some c → slice_get (shared used) (cell_number (shared used) c) ≡ Some c
unfolding shared
shared_there used i c e =
    let p = place (with_cells [] used) c (each_there used [] i c e) in
    ap (λ o. slice_get (with_cells [] used) (unwrap_or o 0)) p.1 ∙ p.2

-- ---- what holds of all that are used

one_more : (P : Cell → Type 0) (cells : List Cell) (c : Cell) → AllByRecursion P cells → P c → AllByRecursion P (with_cell cells c)
one_more P cells c a p = by (list_any (same_cell c) cells)
  where
    by : (b : Bool) → AllByRecursion P (cond b cells (cells ++ c ∷ []))
    by true = a
    by false = all_append P cells (c ∷ []) a (p, tt)

all_more : (P : Cell → Type 0) (cells more : List Cell) → AllByRecursion P cells → AllByRecursion P more → AllByRecursion P (with_cells cells more)
all_more P cells [] a b = a
all_more P cells (c ∷ more) a b = all_more P (with_cell cells c) more (one_more P cells c a b.0) b.1

pub shared_all : (P : Cell → Type 0) (used : List Cell) → AllByRecursion P used → AllByRecursion P (shared used)
unfolding shared
shared_all P used a = all_more P [] used tt a

-- ---- where the entries of a cell begin

abbrev pub entries_in : Cell → List (ℕ × ℕ)
entries_in c = c.entries

pub place_at : (cells : List Cell) (p i : ℕ) (c : Cell) → slice_get cells i ≡ Some c → slice_get (places_from p cells) i ≡ Some (pos (p + begins entries_in cells i))
place_at [] p i c e = absurd cc
place_at (d ∷ cells) p zero c e = let same : p ≡ p + 0 = omega arith in ap (λ (n : ℕ). Some (pos n)) same
place_at (d ∷ cells) p (suc i) c e =
    let same : (p + length d.entries) + begins entries_in cells i ≡ p + (length d.entries + begins entries_in cells i) = omega arith in
    place_at cells (p + length d.entries) i c e ∙ ap (λ (n : ℕ). Some (pos n)) same

pub places_length : (cells : List Cell) (p : ℕ) → length (places_from p cells) ≡ length cells
places_length [] p = refl
places_length (c ∷ cells) p = ap suc (places_length cells (p + length c.entries))
