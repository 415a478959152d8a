-- The cell that look-ups find for a key is that of a run which has it; where none is found no run has it.
use Rattle.std.proofs.Common.{◌≡◌, ℕ, ◌+◌, Bool, true, false, cond, not, ℤ, ◌≤ℤ◌, List, [], ◌∷◌, ◌++◌, length, map, Option, Some, None, refl, sym, ◌∙◌, subst, arith}
use Rattle.std.specs.Prelude.{slice_get, position}
use Rattle.std.specs.List.{AllByRecursion, filter, flat_map}
use Rattle.std.specs.Ordering.{int_eq}
use Rattle.std.specs.Option.{option_map, option_or}
use Rattle.std.proofs.lemmas.Bool.{or_parts, or_from}
use Rattle.std.proofs.lemmas.Bool.Decides.{same_from_decides, Decides-int_eq}
use Rattle.std.proofs.lemmas.Int.{ints}
use Rattle.rl_fsm.proofs.PieceLaws.{range_low, range_high, range_is}
use Rattle.rl_arrays.specs.TableMachine.{range_of}
use Rattle.rl_layout.specs.declared.runs.Run.{Run}
use Rattle.rl_layout.specs.Runs.{is_single}
use Rattle.rl_layout.proofs.ListLaws.{position-cons, front_get, behind_get, next_get}
use Rattle.rl_layout.proofs.GroupLaws.{in_run, held}

abbrev pub ends_of : Run → List ℤ
ends_of r = r.lo ∷ r.hi ∷ []

abbrev pub low_of : Run → ℤ
low_of r = r.lo

-- the run at the place has the key; without a place no run has it
abbrev pub Finds : ℤ → List Run → Option ℕ → Type 0
Finds key runs None = held key runs ≡ false
Finds key runs (Some i) = (r : Run) × (slice_get runs i ≡ Some r) × (in_run key r ≡ true)

one_more : (key : ℤ) (r : Run) (runs : List Run) (b : Bool) (o : Option ℕ) → in_run key r ≡ b → Finds key runs o → Finds key (r ∷ runs) (cond b (Some 0) (option_map (λ i. i + 1) o))
one_more key r runs true o e f = (r, refl, e)
one_more key r runs false None e f = or_from (in_run key r) (held key runs) e f
one_more key r runs false (Some i) e f = (f.0, next_get r runs i ∙ f.1, f.2)

-- a run of one key has that key alone
point : (key : ℤ) (r : Run) → is_single r ≡ true → int_eq key r.lo ≡ in_run key r
point key r e = same_from_decides (int_eq key r.lo) (in_run key r) (Decides-int_eq key r.lo) (
  λ h. between r.lo r.hi key (range_low key (record { lo = r.lo; hi = r.hi }) h) (range_high key (record { lo = r.lo; hi = r.hi }) h) one,
  λ q. range_is key (record { lo = r.lo; hi = r.hi }) (self r.lo key q) (last r.lo r.hi key q one),
)
  where
    one : r.lo ≡ r.hi
    one = (Decides-int_eq r.lo r.hi).0 e

    between : (x y k : ℤ) → x ≤ℤ k → k ≤ℤ y → x ≡ y → k ≡ x
    between x y k a b c = omega (arith, ints)

    self : (x k : ℤ) → k ≡ x → x ≤ℤ k
    self x k a = omega (arith, ints)

    last : (x y k : ℤ) → k ≡ x → x ≡ y → k ≤ℤ y
    last x y k a b = omega (arith, ints)

pub finds_single : (key : ℤ) (runs : List Run) → AllByRecursion (λ r. is_single r ≡ true) runs → Finds key runs (position (int_eq key) (map low_of runs))
finds_single key [] a = refl
finds_single key (r ∷ runs) a =
    subst (Finds key (r ∷ runs)) (sym (position-cons (int_eq key) r.lo (map low_of runs)))
    (one_more key r runs (int_eq key r.lo) (position (int_eq key) (map low_of runs)) (sym (point key r a.0)) (finds_single key runs a.1))

pub finds_range : (key : ℤ) (runs : List Run) → Finds key runs (range_of key (flat_map ends_of runs))
finds_range key [] = refl
finds_range key (r ∷ runs) = one_more key r runs (in_run key r) (range_of key (flat_map ends_of runs)) refl (finds_range key runs)

held_append : (key : ℤ) (xs ys : List Run) → held key xs ≡ false → held key ys ≡ false → held key (xs ++ ys) ≡ false
held_append key [] ys a b = b
held_append key (x ∷ xs) ys a b = let p = or_parts (in_run key x) (held key xs) a in or_from (in_run key x) (held key (xs ++ ys)) p.0 (held_append key xs ys p.1 b)

-- the first list has the first places
pub finds_either : (key : ℤ) (xs ys : List Run) (o p : Option ℕ) → Finds key xs o → Finds key ys p → Finds key (xs ++ ys) (option_or o (option_map (λ r. length xs + r) p))
finds_either key xs ys None None a b = held_append key xs ys a b
finds_either key xs ys None (Some j) a b = (b.0, behind_get xs ys j ∙ b.1, b.2)
finds_either key xs ys (Some i) p a b = (a.0, front_get xs ys i a.0 a.1, a.2)

-- what neither half has the whole has not
pub held_halves : (p : Run → Bool) (key : ℤ) (runs : List Run) → held key (filter p runs ++ filter (λ r. not (p r)) runs) ≡ false → held key runs ≡ false
held_halves p key runs h = let q = parts (filter p runs) (filter (λ r. not (p r)) runs) h in halves runs q.0 q.1
  where
    parts : (xs ys : List Run) → held key (xs ++ ys) ≡ false → (held key xs ≡ false) × (held key ys ≡ false)
    parts [] ys h = (refl, h)
    parts (x ∷ xs) ys h = let q = or_parts (in_run key x) (held key (xs ++ ys)) h in let r = parts xs ys q.1 in (or_from (in_run key x) (held key xs) q.0 r.0, r.1)

    by : (b : Bool) (r : Run) (rest ys zs : List Run) → held key (cond b (r ∷ ys) ys) ≡ false → held key (cond (not b) (r ∷ zs) zs) ≡ false → (held key ys ≡ false → held key zs ≡ false → held key rest ≡ false) → held key (r ∷ rest) ≡ false
    by true r rest ys zs a b f = let q = or_parts (in_run key r) (held key ys) a in or_from (in_run key r) (held key rest) q.0 (f q.1 b)
    by false r rest ys zs a b f = let q = or_parts (in_run key r) (held key zs) b in or_from (in_run key r) (held key rest) q.0 (f a q.1)

    halves : (runs : List Run) → held key (filter p runs) ≡ false → held key (filter (λ r. not (p r)) runs) ≡ false → held key runs ≡ false
    halves [] a b = refl
    halves (r ∷ runs) a b = by (p r) r runs (filter p runs) (filter (λ r. not (p r)) runs) a b (halves runs)

-- a run whose ends are one is of one key
pub same_ends_of_single : (r : Run) → r.lo ≡ r.hi → is_single r ≡ true
same_ends_of_single r e = (Decides-int_eq r.lo r.hi).1 e
