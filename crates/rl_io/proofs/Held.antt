-- What a store in memory holds under its names.
use Rattle.std.proofs.Common.{◌≡◌, ℕ, zero, suc, ◌<◌, List, [], ◌∷◌, length, Some, None, true, false, refl, sym, ap, arith, slice_index_or, ◌∙◌, subst, cond, Contains}
use Rattle.std.specs.Str.{bytes_eq, is_utf8, IsUtf8}
use Rattle.std.proofs.lemmas.Str.{is_utf8-from_IsUtf8}
use Rattle.std.proofs.lemmas.Option.{none-some}
use Rattle.std.proofs.lemmas.Slice.Eq.{bytes_eq-Decides}
use Rattle.rl_io.specs.Memory.{StoredFile, find_bytes, held_by, PutsFile, NamesDiffer, NamesAreText, HoldsFiles}
use Rattle.rl_io.proofs.Files.{bytes_eq-unequal}

-- a text is held as it is found
pub held_by-text : (files : List StoredFile) (name : List ℕ) → IsUtf8 name → held_by files name ≡ find_bytes files name
held_by-text files name text = rw (is_utf8-from_IsUtf8 name text) refl

-- a file that was put is held
pub held_by-put : (old new : List StoredFile) (name bytes : List ℕ) → IsUtf8 name → PutsFile old new name bytes → held_by new name ≡ Some bytes
held_by-put old new name bytes text puts = held_by-text new name text ∙ puts.put

-- what was found is a file
find_bytes-Contains : (files : List StoredFile) (name bytes : List ℕ) → find_bytes files name ≡ Some bytes → Contains files (record { name = name; bytes = bytes })
find_bytes-Contains [] name bytes found = absurd (none-some bytes found)
find_bytes-Contains (file ∷ files) name bytes found =
    elim (bytes_eq file.name name) as (λ v. bytes_eq file.name name ≡ v → cond v (Some file.bytes) (find_bytes files name) ≡ Some bytes →
    Contains (file ∷ files) (record { name = name; bytes = bytes })) [
      | true ↦ λ same here. (0, omega arith, one_file file name bytes ((bytes_eq-Decides _ _).0 same) here)
      | false ↦ λ _ later. let there = find_bytes-Contains files name bytes later in (suc there.0, omega (arith, there.1), there.2)
    ] refl found
  where
    one_file : (file : StoredFile) (name bytes : List ℕ) → file.name ≡ name → Some file.bytes ≡ Some bytes → file ≡ record { name = name; bytes = bytes }
    one_file file name bytes same here =
        let make : List ℕ → List ℕ → StoredFile = λ n b. record { name = n; bytes = b } in
        ap (λ n. make n file.bytes) same ∙ ap (λ b. make name b) (let e : file.bytes ≡ bytes = cc in e)

-- each file of a list without doubles is found
find_bytes-each : (files : List StoredFile) (k : ℕ) (file : StoredFile) → NamesDiffer files → k < length files → slice_index_or files k file ≡ file →
    find_bytes files file.name ≡ Some file.bytes
find_bytes-each [] k file differ inside same = absurd (omega (arith, inside))
find_bytes-each (first ∷ files) zero file differ inside same =
    subst (λ (f : StoredFile). cond (bytes_eq f.name file.name) (Some f.bytes) (find_bytes files file.name) ≡ Some file.bytes) (sym same)
    (rw ((bytes_eq-Decides file.name file.name).1 refl) refl)
find_bytes-each (first ∷ files) (suc k) file differ inside same =
    rw (bytes_eq-unequal first.name file.name (λ e. differ 0 (suc k) file (omega arith) inside (e ∙ ap (λ (f : StoredFile). f.name) (sym same))))
    (find_bytes-each files k file (λ i j d below end. differ (suc i) (suc j) d (omega arith) (omega arith)) (omega arith) same)

-- what is held is found
find_bytes-held : (files : List StoredFile) (name bytes : List ℕ) → held_by files name ≡ Some bytes → find_bytes files name ≡ Some bytes
find_bytes-held files name bytes held =
    elim (is_utf8 name) as (λ v. cond v (find_bytes files name) None ≡ Some bytes → find_bytes files name ≡ Some bytes) [
      | true ↦ λ e. e
      | false ↦ λ e. absurd (none-some bytes e)
    ] held

-- a list without doubles whose names are texts is held whole
pub holds_files : (files : List StoredFile) → NamesDiffer files → NamesAreText files → HoldsFiles files (held_by files)
holds_files files differ texts = record {
  each = λ name bytes there.
      held_by-text files name (subst (λ (f : StoredFile). IsUtf8 f.name) there.2 (texts there.0 _ there.1)) ∙ find_bytes-each files there.0 _ differ there.1 there.2;
  only = λ name bytes held. find_bytes-Contains files name bytes (find_bytes-held files name bytes held);
}
