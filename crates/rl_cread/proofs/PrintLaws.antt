-- What is valid, and has numbers that fit their type, can be printed.
use Rattle.std.proofs.Common.{◌≡◌, ◌<◌, ◌+◌, ℕ, zero, suc, Bool, true, false, List, [], ◌∷◌, length, drop, Option, Some, None, sym, ap, ◌∙◌, subst, refl, arith}
use Rattle.std.specs.Prelude.{ℤ, IsTrue, ◌||◌, slice_get, IfSome, if◌then◌else◌}
use Rattle.std.specs.List.{AllByRecursion, zip}
use Rattle.rl_arrays.specs.declared.arrays.Arrays.{Arrays}
use Rattle.rl_arrays.specs.declared.arrays.ArrayName.{ArrayName}
use Rattle.rl_arrays.specs.declared.arrays.ArrayName.TheVariants as array
use Rattle.rl_arrays.specs.Names.{is_name, is_action_name, is_place}
use Rattle.rl_arrays.specs.Rules.{Says, NameSays, EntrySays}
use Rattle.rl_arrays.specs.Section.{entries}
use Rattle.rl_arrays.specs.Sizes.{shares, has, due, uses_end, one_more}
use Rattle.rl_arrays.specs.Valid.{Valid}
use Rattle.rl_cread.specs.Contents.{content, Fits, HasNumbers, IsPrintable, IsPrintedName, IsPrintedNumber, IsPrintedEntry}
use Rattle.rl_cread.proofs.ValueLaws.{get_one, has_due}

all_by : {A : Type 0} (P : A → Type 0) (xs : List A) → ((i : ℕ) → i < length xs → IfSome (slice_get xs i) P) → AllByRecursion P xs
all_by P [] h = tt
all_by P (x ∷ xs) h = (h 0 (omega arith), all_by P xs (λ i lt. h (suc i) (omega (arith, lt))))

if_map : {A : Type 0} (P Q : A → Type 0) → ((x : A) → P x → Q x) → (o : Option A) → IfSome o P → IfSome o Q
if_map P Q f None h = tt
if_map P Q f (Some x) h = f x h

all_drop : {A : Type 0} (P : A → Type 0) (xs : List A) → AllByRecursion P xs → AllByRecursion P (drop 1 xs)
all_drop P [] h = tt
all_drop P (x ∷ xs) h = h.1

or_left : (p q : Bool) → p ≡ true → (p || q) ≡ true
or_left true q e = refl
or_left false q e = absurd cc

-- a name of an action, and one of a machine or an entry, can be printed
action_prints : (name : List ℕ) → IsTrue (is_action_name name) → IsPrintedName name
action_prints [] h = refl
action_prints (b ∷ bs) h = h

name_prints : (name : List ℕ) → IsTrue (is_name name) → IsPrintedName name
name_prints name h = action_prints name (or_left (is_name name) (is_place name) h)

empty_prints : (name : List ℕ) → name ≡ [] → IsPrintedName name
empty_prints [] e = refl
empty_prints (b ∷ bs) e = absurd cc

says_prints : (is_formed : List ℕ → Bool) → ((name : List ℕ) → IsTrue (is_formed name) → IsPrintedName name)
    → (names : List (List ℕ)) (i : ℕ) (name : List ℕ) → NameSays is_formed names i name → IsPrintedName name
says_prints f lift names zero name h = empty_prints name (h.empty refl)
says_prints f lift names (suc i) name h = lift name (h.formed (omega arith))

says_at : (a : Arrays) (x : ArrayName) (i : ℕ) → Valid a → i < has a x → Says a x i
says_at a x i v lt = let r = v.each x i (omega (arith, lt)) in r.says

actions_print : (a : Arrays) → Valid a → AllByRecursion IsPrintedName a.action_names
actions_print a v = all_by IsPrintedName a.action_names (λ i lt.
    if_map (NameSays is_action_name a.action_names i) IsPrintedName (says_prints is_action_name action_prints a.action_names i) (slice_get a.action_names i) (says_at a array.ActionNames i v lt))

conditions_print : (a : Arrays) → Valid a → AllByRecursion IsPrintedName a.cond_names
conditions_print a v = all_by IsPrintedName a.cond_names (λ i lt.
    if_map (NameSays is_action_name a.cond_names i) IsPrintedName (says_prints is_action_name action_prints a.cond_names i) (slice_get a.cond_names i) (says_at a array.CondNames i v lt))

entries_print : (a : Arrays) → Valid a → AllByRecursion IsPrintedName a.entry_names
entries_print a v = all_by IsPrintedName a.entry_names (λ i lt.
    if_map (NameSays is_name a.entry_names i) IsPrintedName (says_prints is_name name_prints a.entry_names i) (slice_get a.entry_names i) (says_at a array.EntryNames i v lt))

-- each array can
array_prints : (a : Arrays) → Valid a → HasNumbers a → (x : ArrayName) → Fits (content a x)
array_prints a v h array.Actions = h.arrays array.Actions
array_prints a v h array.KeyOffsets = h.arrays array.KeyOffsets
array_prints a v h array.TransKeys = h.arrays array.TransKeys
array_prints a v h array.SingleLengths = h.arrays array.SingleLengths
array_prints a v h array.RangeLengths = h.arrays array.RangeLengths
array_prints a v h array.CellOffsets = h.arrays array.CellOffsets
array_prints a v h array.CellUses = h.arrays array.CellUses
array_prints a v h array.CellAsks = h.arrays array.CellAsks
array_prints a v h array.CellEntries = h.arrays array.CellEntries
array_prints a v h array.TransTargs = h.arrays array.TransTargs
array_prints a v h array.TransLists = h.arrays array.TransLists
array_prints a v h array.FromLists = h.arrays array.FromLists
array_prints a v h array.ToLists = h.arrays array.ToLists
array_prints a v h array.EofLists = h.arrays array.EofLists
array_prints a v h array.ErrorLists = h.arrays array.ErrorLists
array_prints a v h array.AcceptLists = h.arrays array.AcceptLists
array_prints a v h array.StateKinds = h.arrays array.StateKinds
array_prints a v h array.Homes = h.arrays array.Homes
array_prints a v h array.ActionNames = actions_print a v
array_prints a v h array.StmtFirsts = h.arrays array.StmtFirsts
array_prints a v h array.StmtCounts = h.arrays array.StmtCounts
array_prints a v h array.StmtKinds = h.arrays array.StmtKinds
array_prints a v h array.StmtOuter = h.arrays array.StmtOuter
array_prints a v h array.StmtArgs = h.arrays array.StmtArgs
array_prints a v h array.StmtBases = h.arrays array.StmtBases
array_prints a v h array.CondNames = conditions_print a v
array_prints a v h array.EntryNames = entries_print a v
array_prints a v h array.EntryStates = h.arrays array.EntryStates

-- and each line of an entry
words_formed : (a : Arrays) → Valid a → AllByRecursion (λ name. IsTrue (is_name name)) (drop 1 a.entry_names)
words_formed a v = all_by (λ name. IsTrue (is_name name)) (drop 1 a.entry_names) (λ i lt.
    subst (λ o. IfSome o (λ name. IsTrue (is_name name))) (sym (get_one a.entry_names i))
    (if_map (NameSays is_name a.entry_names (i + 1)) (λ name. IsTrue (is_name name)) (λ name h. h.formed (omega arith)) (slice_get a.entry_names (i + 1)) (says_at a array.EntryNames (i + 1) v (within a.entry_names i lt))))
  where
    within : {A : Type 0} (xs : List A) (i : ℕ) → i < length (drop 1 xs) → i + 1 < length xs
    within [] i lt = absurd (omega (arith, lt))
    within (x ∷ xs) i lt = omega (arith, lt)

lines_print : (names : List (List ℕ)) (states : List ℤ) → AllByRecursion (λ name. IsTrue (is_name name)) names
    → AllByRecursion IsPrintedNumber states → AllByRecursion IsPrintedEntry (zip names states)
lines_print [] states h k = tt
lines_print (n ∷ names) [] h k = tt
lines_print (n ∷ names) (s ∷ states) h k = ((h.0, k.0), lines_print names states h.1 k.1)

-- the name of the machine is one
first_of : {A : Type 0} (P : A → Type 0) (xs : List A) → 0 < length xs → IfSome (slice_get xs 0) P → (x : A) × P x
first_of P [] lt h = absurd (omega arith)
first_of P (x ∷ xs) lt h = (x, h)

some_entries : (a : Arrays) → Valid a → 0 < length a.entry_states
some_entries a v =
    let n : length a.entry_names ≡ due a array.EntryNames = has_due a array.EntryNames v in
    let s : length a.entry_states ≡ length a.entry_names = has_due a array.EntryStates v in
    omega (arith, n, s)

named : (a : Arrays) → Valid a → IsTrue (is_name a.name)
named a v =
    let some = some_entries a v in
    let first = first_of (EntrySays a 0) a.entry_states some (says_at a array.EntryStates 0 v some) in
    (first.1.head refl).name

-- without shared cells there are no uses
none_left : {A : Type 0} (xs : List A) → length xs ≡ 0 → xs ≡ []
none_left [] e = refl
none_left (x ∷ xs) e = absurd (omega (arith, e))

unused : (a : Arrays) → Valid a → shares a ≡ false → a.cell_uses ≡ []
unused a v e = none_left a.cell_uses (has_due a array.CellUses v ∙ ap (λ b. if b then one_more (uses_end a) (length a.cell_uses) else 0) e)

pub valid_prints : (a : Arrays) → Valid a → HasNumbers a → IsPrintable a (entries a)
valid_prints a v h = record {
  version = v.version;
  uses = unused a v;
  name = named a v;
  start = h.start;
  first_final = h.first_final;
  alphabet = h.alphabet;
  entries = lines_print (drop 1 a.entry_names) (drop 1 a.entry_states) (words_formed a v) (all_drop IsPrintedNumber a.entry_states (h.arrays array.EntryStates));
  arrays = array_prints a v h;
}
