-- What putting a file changes: new bytes at its place, or a new file at the end.
use Rattle.std.proofs.Common.{◌≡◌, ◌≢◌, ℕ, zero, suc, ◌<◌, ◌≤◌, List, [], ◌∷◌, ◌++◌, length, Some, None, Bool, true, false, Vec, Global, refl, sym, arith, slice_index_or, slice_set, position, ◌∙◌, subst, cond, nat_lt}
use Rattle.std.specs.Str.{bytes_eq}
use Rattle.std.specs.List.{position_or_len}
use Rattle.std.proofs.lemmas.Slice.Eq.{bytes_eq-Decides}
use Rattle.std.proofs.lemmas.Bool.{ltb-false}
use Rattle.std.proofs.lemmas.List.Quantifiers.{position-Some}
use Rattle.std.proofs.lemmas.List.Sums.{fails_before_first}
use Rattle.rl_io.specs.Memory.{files_of, find_bytes, PutsFile}

-- unequal names are told apart
pub bytes_eq-unequal : (a b : List ℕ) → a ≢ b → bytes_eq a b ≡ false
bytes_eq-unequal a b differ =
    elim (bytes_eq a b) as (λ v. bytes_eq a b ≡ v → v ≡ false) [
      | true ↦ λ e. absurd (differ ((bytes_eq-Decides a b).0 e))
      | false ↦ λ _. refl
    ] refl

-- new bytes at the first place of the name are found
find_bytes-set : (files : List (List ℕ × Vec ℕ Global)) (at : ℕ) (d : List ℕ × Vec ℕ Global) (name : List ℕ) (bytes : Vec ℕ Global) →
    at < length files → bytes_eq (slice_index_or files at d).0 name ≡ true →
    ((k : ℕ) → k < at → bytes_eq (slice_index_or files k d).0 name ≡ false) →
    find_bytes (files_of (slice_set files at ((slice_index_or files at d).0, bytes))) name ≡ Some bytes.items
find_bytes-set [] at d name bytes inside found first = absurd (omega (arith, inside))
find_bytes-set (file ∷ files) zero d name bytes inside found first = rw found refl
find_bytes-set (file ∷ files) (suc at) d name bytes inside found first =
    rw (first 0 (omega arith)) (find_bytes-set files at d name bytes (omega arith) found (λ k below. first (suc k) (omega arith)))

-- new bytes of one name leave the others
find_bytes-set_other : (files : List (List ℕ × Vec ℕ Global)) (at : ℕ) (d : List ℕ × Vec ℕ Global) (name : List ℕ) (bytes : Vec ℕ Global) (other : List ℕ) →
    (slice_index_or files at d).0 ≡ name → other ≢ name →
    find_bytes (files_of (slice_set files at ((slice_index_or files at d).0, bytes))) other ≡ find_bytes (files_of files) other
find_bytes-set_other [] at d name bytes other found differ = refl
find_bytes-set_other (file ∷ files) zero d name bytes other found differ =
    rw (bytes_eq-unequal file.0 other (λ same. differ (sym same ∙ found))) refl
find_bytes-set_other (file ∷ files) (suc at) d name bytes other found differ =
    rw (find_bytes-set_other files at d name bytes other found differ) refl

-- the bytes at the first place of the name are found
find_bytes-at : (files : List (List ℕ × Vec ℕ Global)) (at : ℕ) (d : List ℕ × Vec ℕ Global) (name : List ℕ) →
    at < length files → bytes_eq (slice_index_or files at d).0 name ≡ true →
    ((k : ℕ) → k < at → bytes_eq (slice_index_or files k d).0 name ≡ false) →
    find_bytes (files_of files) name ≡ Some (slice_index_or files at d).1.items
find_bytes-at [] at d name inside found first = absurd (omega (arith, inside))
find_bytes-at (file ∷ files) zero d name inside found first = rw found refl
find_bytes-at (file ∷ files) (suc at) d name inside found first =
    rw (first 0 (omega arith)) (find_bytes-at files at d name (omega arith) found (λ k below. first (suc k) (omega arith)))

-- a name that no file has
find_bytes-none : (files : List (List ℕ × Vec ℕ Global)) (d : List ℕ × Vec ℕ Global) (name : List ℕ) →
    ((k : ℕ) → k < length files → bytes_eq (slice_index_or files k d).0 name ≡ false) → find_bytes (files_of files) name ≡ None
find_bytes-none [] d name none = refl
find_bytes-none (file ∷ files) d name none = rw (none 0 (omega arith)) (find_bytes-none files d name (λ k below. none (suc k) (omega arith)))

-- a name that was absent is found at the end
find_bytes-append : (files : List (List ℕ × Vec ℕ Global)) (name : List ℕ) (bytes : Vec ℕ Global) → find_bytes (files_of files) name ≡ None →
    find_bytes (files_of (files ++ (name, bytes) ∷ [])) name ≡ Some bytes.items
find_bytes-append [] name bytes absent = rw ((bytes_eq-Decides name name).1 refl) refl
find_bytes-append (file ∷ files) name bytes absent =
    elim (bytes_eq file.0 name) as (λ v. cond v (Some file.1.items) (find_bytes (files_of files) name) ≡ None →
    cond v (Some file.1.items) (find_bytes (files_of (files ++ (name, bytes) ∷ [])) name) ≡ Some bytes.items) [
      | true ↦ λ e. cc
      | false ↦ λ e. find_bytes-append files name bytes e
    ] absent

-- a file at the end leaves the other names
find_bytes-append_other : (files : List (List ℕ × Vec ℕ Global)) (name : List ℕ) (bytes : Vec ℕ Global) (other : List ℕ) → other ≢ name →
    find_bytes (files_of (files ++ (name, bytes) ∷ [])) other ≡ find_bytes (files_of files) other
find_bytes-append_other [] name bytes other differ = rw (bytes_eq-unequal name other (λ same. differ (sym same))) refl
find_bytes-append_other (file ∷ files) name bytes other differ = rw (find_bytes-append_other files name bytes other differ) refl

-- where no place passes, each fails
fails_everywhere : {X : Type 0} (p : X → Bool) (xs : List X) (d : X) → position p xs ≡ None →
    (k : ℕ) → k < length xs → p (slice_index_or xs k d) ≡ false
fails_everywhere p xs d absent k below =
    let none : nat_lt (position_or_len p xs) (length xs) ≡ false =
    elim (nat_lt (position_or_len p xs) (length xs)) as (λ b. cond b (Some (position_or_len p xs)) None ≡ None → b ≡ false) [
      | true ↦ λ e. cc
      | false ↦ λ _. refl
    ] absent
    in
    let past : length xs ≤ position_or_len p xs = ltb-false _ _ none in
    fails_before_first p xs k d (omega arith)

-- what is found at the first place of a name
pub find_bytes-Some : (files : List (List ℕ × Vec ℕ Global)) (at : ℕ) (d : List ℕ × Vec ℕ Global) (name : List ℕ) →
    position (λ file. bytes_eq file.0 name) files ≡ Some at → find_bytes (files_of files) name ≡ Some (slice_index_or files at d).1.items
find_bytes-Some files at d name first =
    let place = position-Some (λ (f : List ℕ × Vec ℕ Global). bytes_eq f.0 name) files at d first in
    find_bytes-at files at d name place.0 place.1 place.2

-- nothing is found where no file has the name
pub find_bytes-None : (files : List (List ℕ × Vec ℕ Global)) (name : List ℕ) →
    position (λ file. bytes_eq file.0 name) files ≡ None → find_bytes (files_of files) name ≡ None
find_bytes-None [] name absent = refl
find_bytes-None (file ∷ files) name absent =
    find_bytes-none (file ∷ files) file name (fails_everywhere (λ (f : List ℕ × Vec ℕ Global). bytes_eq f.0 name) (file ∷ files) file absent)

-- new bytes at the place of a name put its file
pub PutsFile-set : (files : List (List ℕ × Vec ℕ Global)) (at : ℕ) (file : List ℕ × Vec ℕ Global) (name text : List ℕ) (bytes : Vec ℕ Global) →
    position (λ file. bytes_eq file.0 name) files ≡ Some at → file ≡ slice_index_or files at file → bytes.items ≡ text →
    PutsFile (files_of files) (files_of (slice_set files at (file.0, bytes))) name text
PutsFile-set files at file name text bytes first same copied =
    let place = position-Some (λ (f : List ℕ × Vec ℕ Global). bytes_eq f.0 name) files at file first in
    rw (← copied) (subst (λ (f : List ℕ × Vec ℕ Global). PutsFile (files_of files) (files_of (slice_set files at (f.0, bytes))) name bytes.items) (sym same)
    (record {
      put = find_bytes-set files at file name bytes place.0 place.1 place.2;
      others = λ other differ. find_bytes-set_other files at file name bytes other ((bytes_eq-Decides _ _).0 place.1) differ;
    }))

-- a file at the end puts an absent name
pub PutsFile-append : (files new : List (List ℕ × Vec ℕ Global)) (copy name text : List ℕ) (bytes : Vec ℕ Global) →
    position (λ file. bytes_eq file.0 name) files ≡ None → new ≡ files ++ (copy, bytes) ∷ [] → copy ≡ name → bytes.items ≡ text →
    PutsFile (files_of files) (files_of new) name text
PutsFile-append files new copy name text bytes absent added same copied =
    let none = fails_everywhere (λ (f : List ℕ × Vec ℕ Global). bytes_eq f.0 name) files (copy, bytes) absent in
    rw (added, same, ← copied) (record {
      put = find_bytes-append files name bytes (find_bytes-none files (copy, bytes) name none);
      others = λ other differ. find_bytes-append_other files name bytes other differ;
    })
