-- The entries of arrays by their names, as a script names them.
use Rattle.std.proofs.Common.{◌≡◌, ◌≢◌, ◌∙◌, ℕ, zero, suc, ◌+◌, ◌≤◌, ◌<◌, Bool, true, false, cond, not, nat_lt, List, [], ◌∷◌, drop, length, Option, Some, None, slice_get, IfSome, refl, sym, ap, arith, add-one}
use Rattle.std.proofs.lemmas.Slice.Eq.{bytes_eq-Decides}
use Rattle.std.proofs.lemmas.Bool.Decides.{nat_tests}
use Rattle.std.specs.Prelude.{codes, unwrap_or}
use Rattle.std.specs.List.{position, position_or_len}
use Rattle.std.specs.Option.{option_map}
use Rattle.std.specs.Str.{bytes_eq}
use Rattle.rl_arrays.specs.declared.arrays.Arrays.{Arrays}
use Rattle.rl_arrays.specs.declared.arrays.ArrayName.TheVariants as the
use Rattle.rl_arrays.specs.Names.{is_name}
use Rattle.rl_arrays.specs.Rules.{NameSays, start_entry}
use Rattle.rl_arrays.specs.Valid.{Valid}
use Rattle.rl_tables.proofs.Elements.{right, has-due, if_at}
use Rattle.rl_types.specs.declared.numbers.EntryId.{EntryId}
use Rattle.rl_tables.specs.Steps.{IsEntryNumber}
use Rattle.rl_replay.specs.Sessions.{entry_or_start}
use Rattle.rl_script.specs.TableNames.{names_in}
use Rattle.rl_playback.proofs.Answered.{bytes_turned}

-- the start entry of these names, which stand without the empty one
abbrev start_of : List (List ℕ) → ℕ
start_of names = unwrap_or (option_map (λ i. i + 1) (position (λ other. bytes_eq other (codes "main")) names)) 1

place_same : (xs : List (List ℕ)) → position_or_len (bytes_eq (codes "main")) xs ≡ position_or_len (λ other. bytes_eq other (codes "main")) xs
place_same [] = refl
place_same (x ∷ xs) =
    ap (λ b. cond (not b) (1 + position_or_len (bytes_eq (codes "main")) xs) 0) (bytes_turned (codes "main") x)
    ∙ ap (λ n. cond (not (bytes_eq x (codes "main"))) (1 + n) 0) (place_same xs)

shifted : (n len : ℕ) → nat_lt (1 + n) (suc len) ≡ nat_lt n len
shifted n len = grind (arith, nat_tests)

one_more : (n len : ℕ) → unwrap_or (cond (nat_lt (1 + n) (suc len)) (Some (1 + n)) None) 1 ≡ unwrap_or (option_map (λ i. i + 1) (cond (nat_lt n len) (Some n) None)) 1
one_more n len = ap (λ b. unwrap_or (cond b (Some (1 + n)) None) 1) (shifted n len) ∙ go (nat_lt n len)
  where
    go : (b : Bool) → unwrap_or (cond b (Some (1 + n)) None) 1 ≡ unwrap_or (option_map (λ i. i + 1) (cond b (Some n) None)) 1
    go true = omega arith
    go false = refl

-- the empty name stands in front
behind_empty : (names : List (List ℕ)) → ((name : List ℕ) → slice_get names 0 ≡ Some name → name ≡ []) → unwrap_or (position (bytes_eq (codes "main")) names) 1 ≡ start_of (drop 1 names)
behind_empty [] h = refl
behind_empty (x ∷ xs) h =
    ap (λ y. unwrap_or (position (bytes_eq (codes "main")) (y ∷ xs)) 1) (h x refl)
    ∙ one_more (position_or_len (bytes_eq (codes "main")) xs) (length xs)
    ∙ ap (λ n. unwrap_or (option_map (λ i. i + 1) (cond (nat_lt n (length xs)) (Some n) None)) 1) (place_same xs)

pub starts : (a : Arrays) → Valid a → start_entry a ≡ start_of (drop 1 a.entry_names)
starts a valid = behind_empty a.entry_names λ name at.
    let r = right a valid the.EntryNames 0 (omega arith) in
    (if_at a.entry_names 0 name (NameSays is_name a.entry_names 0) at r.says).empty refl

-- ---- an entry with a name

at_place : (xs : List (List ℕ)) (name : List ℕ) (k : ℕ) → slice_get xs k ≡ Some name → ((i : ℕ) → i < k → slice_get xs i ≢ Some name) →
    (position_or_len (λ other. bytes_eq other name) xs ≡ k) × (k < length xs)
at_place [] name k at new = absurd (cc at)
at_place (x ∷ xs) name zero at new =
    (ap (λ b. cond (not b) (1 + position_or_len (λ other. bytes_eq other name) xs) 0) ((bytes_eq-Decides x name).1 (same x name at)), omega arith)
  where
    same : (u v : List ℕ) → Some u ≡ Some v → u ≡ v
    same u v e = cc
at_place (x ∷ xs) name (suc k) at new =
    let (place, within) = at_place xs name k at (λ i h. new (suc i) (omega arith)) in
    (go (bytes_eq x name) refl place, omega arith)
  where
    go : (b : Bool) → bytes_eq x name ≡ b → position_or_len (λ other. bytes_eq other name) xs ≡ k →
        cond (not b) (1 + position_or_len (λ other. bytes_eq other name) xs) 0 ≡ suc k
    go true e place = absurd (new 0 (omega arith) (ap (λ u. Some u) ((bytes_eq-Decides x name).0 e)))
    go false e place = ap (λ n. 1 + n) place ∙ omega arith

number_behind : (names : List (List ℕ)) (name : List ℕ) (k : ℕ) → slice_get names (suc k) ≡ Some name → ((i : ℕ) → i < suc k → slice_get names i ≢ Some name) →
    unwrap_or (option_map (λ i. i + 1) (position (λ other. bytes_eq other name) (drop 1 names))) 0 ≡ suc k
number_behind [] name k at new = absurd (cc at)
number_behind (z ∷ zs) name k at new =
    let (place, within) = at_place zs name k at (λ i h. new (suc i) (omega arith)) in
    let less : nat_lt k (length zs) ≡ true = grind (arith, nat_tests) in
    ap (λ n. unwrap_or (option_map (λ i. i + 1) (cond (nat_lt n (length zs)) (Some n) None)) 0) place
    ∙ ap (λ b. unwrap_or (option_map (λ i. i + 1) (cond b (Some k) None)) 0) less
    ∙ add-one k

pub named_entry : (a : Arrays) → Valid a → (e : ℕ) (name : List ℕ) → 1 ≤ e → e < length a.entry_names → slice_get a.entry_names e ≡ Some name →
    e ≡ unwrap_or (option_map (λ i. i + 1) (position (λ other. bytes_eq other name) (drop 1 a.entry_names))) 0
named_entry a valid zero name low high at = absurd (omega arith)
named_entry a valid (suc k) name low high at =
    let all = has-due a valid the.EntryNames in
    let r = right a valid the.EntryNames (suc k) (omega (arith, all)) in
    sym (number_behind a.entry_names name k at (if_at a.entry_names (suc k) name (NameSays is_name a.entry_names (suc k)) at r.says).new)

-- the entry that was found is the one that a script means
pub entry_is : (a : Arrays) → Valid a → (found : Option EntryId) (entry : Option (List ℕ)) (name text : List ℕ) → entry ≡ Some name → text ≡ name →
    IfSome found (λ e. slice_get a.entry_names e.0 ≡ Some text) → IfSome found (λ e. IsEntryNumber a e.0) → IfSome found (λ e. e.0 ≡ entry_or_start (names_in a) entry)
entry_is a valid None entry name text e f at exists = tt
entry_is a valid (Some id) entry name text e f at exists =
    named_entry a valid id.0 name exists.0 exists.1 (at ∙ ap (λ u. Some u) f) ∙ sym (ap (λ o. entry_or_start (names_in a) o) e)

absent : (xs : List (List ℕ)) (name : List ℕ) → ((i : ℕ) → slice_get xs i ≢ Some name) → position_or_len (λ other. bytes_eq other name) xs ≡ length xs
absent [] name none = refl
absent (x ∷ xs) name none = go (bytes_eq x name) refl (absent xs name (λ i. none (suc i)))
  where
    go : (b : Bool) → bytes_eq x name ≡ b → position_or_len (λ other. bytes_eq other name) xs ≡ length xs →
        cond (not b) (1 + position_or_len (λ other. bytes_eq other name) xs) 0 ≡ suc (length xs)
    go true e ih = absurd (none 0 (ap (λ u. Some u) ((bytes_eq-Decides x name).0 e)))
    go false e ih = ap (λ n. 1 + n) ih ∙ omega arith

not_less : (n : ℕ) → nat_lt n n ≡ false
not_less n = grind (arith, nat_tests)

none_behind : (names : List (List ℕ)) (name : List ℕ) → ((k : ℕ) → 1 ≤ k → slice_get names k ≢ Some name) →
    unwrap_or (option_map (λ i. i + 1) (position (λ other. bytes_eq other name) (drop 1 names))) 0 ≡ 0
none_behind [] name none = refl
none_behind (z ∷ zs) name none =
    ap (λ n. unwrap_or (option_map (λ i. i + 1) (cond (nat_lt n (length zs)) (Some n) None)) 0) (absent zs name (λ i. none (suc i) (omega arith)))
    ∙ ap (λ b. unwrap_or (option_map (λ i. i + 1) (cond b (Some (length zs)) None)) 0) (not_less (length zs))

-- where no entry has the name, the script's entry is none
pub no_entry : (a : Arrays) (entry : Option (List ℕ)) (name text : List ℕ) → entry ≡ Some name → text ≡ name →
    ((k : ℕ) → 1 ≤ k → slice_get a.entry_names k ≢ Some text) → entry_or_start (names_in a) entry ≡ 0
no_entry a entry name text e f none =
    ap (λ o. entry_or_start (names_in a) o) e ∙ none_behind a.entry_names name (λ k low at. none k low (at ∙ ap (λ u. Some u) (sym f)))

-- a machine has an entry
pub some_names : (a : Arrays) → Valid a → a.entry_names ≡ [] → ⊥
some_names a valid e = let h = has-due a valid the.EntryNames in let none : length a.entry_names ≡ 0 = ap length e in omega arith
