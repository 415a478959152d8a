-- What stands in a text is what is read of it.
use Rattle.std.proofs.Common.{◌≡◌, ◌<◌, ◌+◌, ℕ, zero, suc, Bool, List, [], ◌∷◌, ◌++◌, length, map, drop, Option, Some, None, sym, ap, ◌∙◌, subst, refl, inl, inr, arith}
use Rattle.std.specs.Prelude.{IsTrue, slice_get, Result, Ok, Err, IfOk, IfErr, IfSome, IsSomeAnd, MatchResult}
use Rattle.std.proofs.lemmas.Bool.{cases_lt}
use Rattle.rl_arrays.specs.declared.arrays.Arrays.{Arrays}
use Rattle.rl_arrays.specs.declared.arrays.BadValue.{BadValue}
use Rattle.rl_arrays.specs.Names.{is_name}
use Rattle.rl_arrays.specs.Sizes.{shares}
use Rattle.rl_arrays.specs.Section.{first_line, entries}
use Rattle.rl_arrays.specs.Valid.{Valid, IsBad}
use Rattle.rl_cread.specs.declared.fault.TableFault.{TableFault}
use Rattle.rl_cread.specs.declared.fault.TableFault.TheVariants as the
use Rattle.rl_cread.specs.declared.raw.Raw.{Raw}
use Rattle.rl_cread.specs.Contents.{HasNumbers, IsPrintable}
use Rattle.rl_cread.specs.Sections.{version_text, lines_of, lines_with, IsFirst, BeginsAt, IsRead, IsFirstBad, HasNone}
use Rattle.rl_cread.specs.Found.{IsFound}
use Rattle.rl_cread.specs.Lines.{line, shape, said_of, Agrees, EntriesEnd}
use Rattle.rl_cread.specs.Gathering.{empty, filled}
use Rattle.rl_cread.specs.Reading.{ReadsAs, StopsAt}
use Rattle.rl_cread.specs.Outcome.{IsReadAt, IsRefusedAt}
use Rattle.rl_cread.proofs.Marking.{one_mark}
use Rattle.rl_cread.proofs.SectionLaws.{filled_said, said_fits}
use Rattle.rl_cread.proofs.ReadingLaws.{StandsAt, Goes, section_lines_are, too_many, too_few, fit_length, map_length, shape_length}
use Rattle.rl_cread.proofs.Injective.{agrees_once, bad_agrees}
use Rattle.rl_cread.proofs.ValueLaws.{theirs}
use Rattle.rl_cread.proofs.PrintLaws.{valid_prints}
use Rattle.rl_cread.proofs.Outcomes.{drop_at, section_is}

pub get_front : {A : Type 0} (xs ys : List A) (j : ℕ) → j < length xs → slice_get (xs ++ ys) j ≡ slice_get xs j
get_front [] ys j lt = absurd (omega arith)
get_front (x ∷ xs) ys zero lt = refl
get_front (x ∷ xs) ys (suc j) lt = get_front xs ys j (omega arith)

pub stands_goes : (v : Bool) (name : List ℕ) (lines : List (List ℕ)) (raw : Raw) → IsTrue (is_name name) → StandsAt v name lines raw
    → Goes name lines (length (said_of raw.arrays raw.entries)) raw.arrays raw.entries
stands_goes v name lines raw formed s =
    let ls : List (List ℕ) = map (line name) (said_of raw.arrays raw.entries) in
    let all : first_line (version_text v) name ∷ lines ≡ first_line (version_text v) name ∷ (ls ++ s.behind) = s.is ∙ ap (λ t. t ++ s.behind) (section_lines_are v name raw.arrays raw.entries s.shared s.named) in
    let are : lines ≡ ls ++ s.behind = cc in
    let size = map_length (line name) (said_of raw.arrays raw.entries) in
    record {
      formed = formed;
      fits = s.fits;
      within = omega arith;
      same = λ j lt. ap (λ t. slice_get t j) are ∙ get_front ls s.behind j (omega (arith, lt, size));
    }

same_count : (name : List ℕ) (lines : List (List ℕ)) (count : ℕ) (raw : Raw) → EntriesEnd name (drop 4 lines) count
    → Goes name lines (length (said_of raw.arrays raw.entries)) raw.arrays raw.entries
    → count ≡ length raw.entries
same_count name lines count raw ends g =
    let v : Bool = shares raw.arrays in
    let len = fit_length (shape v (length raw.entries)) (said_of raw.arrays raw.entries) (said_fits raw.arrays raw.entries g.fits) in
    let all = shape_length v (length raw.entries) in
    elim (cases_lt (length raw.entries) count) [
      | inl few ↦ absurd (too_many name lines count (length (said_of raw.arrays raw.entries)) raw.arrays raw.entries ends g few (omega (arith, len, all)))
      | inr most ↦ elim (cases_lt count (length raw.entries)) [
        | inl more ↦ absurd (too_few name lines count (length (said_of raw.arrays raw.entries)) raw.arrays raw.entries ends g more (omega (arith, len, all, more)))
        | inr least ↦ omega (arith, most, least)
      ]
    ]

pub stands_agrees : (v : Bool) (name : List ℕ) (lines : List (List ℕ)) (count : ℕ) (raw : Raw) → IsTrue (is_name name)
    → EntriesEnd name (drop 4 lines) count → StandsAt v name lines raw
    → Agrees name (shape v count) lines (length (shape v count)) (said_of raw.arrays raw.entries)
stands_agrees v name lines count raw formed ends s =
    let w : Bool = shares raw.arrays in
    let g = stands_goes v name lines raw formed s in
    let e = same_count name lines count raw ends g in
    let len = fit_length (shape w (length raw.entries)) (said_of raw.arrays raw.entries) (said_fits raw.arrays raw.entries s.fits) in
    subst (λ x. Agrees name (shape x count) lines (length (shape x count)) (said_of raw.arrays raw.entries)) s.shared
    (subst (λ n. Agrees name (shape w n) lines (length (shape w n)) (said_of raw.arrays raw.entries)) (sym e)
    (record { fits = said_fits raw.arrays raw.entries s.fits; same = λ j lt. g.same j (omega (arith, lt, len)) }))

pub reads_it : (v : Bool) (name : List ℕ) (lines : List (List ℕ)) (raw other : Raw) → IsTrue (is_name name) → ReadsAs v name lines raw
    → StandsAt v name lines other → raw ≡ other
reads_it v name lines raw other formed r s =
    let said = agrees_once name (shape v r.count) lines r.said (said_of other.arrays other.entries) r.agrees (stands_agrees v name lines r.count other formed r.ends s) in
    r.is ∙ ap (λ t. filled t (record { arrays = empty v name; entries = [] })) said
    ∙ ap (λ w. filled (said_of other.arrays other.entries) (record { arrays = empty w name; entries = [] })) (sym s.shared)
    ∙ ap (λ n. filled (said_of other.arrays other.entries) (record { arrays = empty (shares other.arrays) n; entries = [] })) (sym s.named) ∙ filled_said other.arrays other.entries s.fits

never_stops : (v : Bool) (name : List ℕ) (lines : List (List ℕ)) (k : ℕ) (other : Raw) → IsTrue (is_name name) → StopsAt v name lines k
    → StandsAt v name lines other → ⊥
never_stops v name lines k other formed t s = bad_agrees name (shape v t.count) lines k (said_of other.arrays other.entries) t.bad (stands_agrees v name lines t.count other formed t.ends s)

-- the first section is one
no_earlier : (machine : Option (List ℕ)) (o : Option (List ℕ)) → IsSomeAnd o (IsFirst machine) → IfSome o (λ l. IsFirst machine l → ⊥) → ⊥
no_earlier machine None h k = h
no_earlier machine (Some l) h k = k h

pub one_begin : (machine : Option (List ℕ)) (lines : List (List ℕ)) (i j : ℕ) → BeginsAt machine lines i → BeginsAt machine lines j → i ≡ j
one_begin machine lines i j a b =
    elim (cases_lt i j) [
      | inl lt ↦ absurd (no_earlier machine (slice_get lines i) a.first (b.before i lt))
      | inr le ↦ elim (cases_lt j i) [
        | inl gt ↦ absurd (no_earlier machine (slice_get lines j) b.first (a.before j gt))
        | inr ge ↦ omega (arith, le, ge)
      ]
    ]

read_stands : (machine : Option (List ℕ)) (text : List ℕ) (v : Bool) (name : List ℕ) (at : ℕ) (a : Arrays)
    → IsFound machine (lines_of text) at v name → IsRead machine text a → IsPrintable a (entries a)
    → StandsAt v name (drop (at + 1) (lines_of text)) (record { arrays = a; entries = entries a })
read_stands machine text v name at a f r fits =
    let same : r.at ≡ at = one_begin machine (lines_of text) r.at at r.begins f.begins in
    let are : drop at (lines_of text) ≡ lines_with a (entries a) ++ r.behind = ap (λ n. drop n (lines_of text)) (sym same) ∙ r.lines ∙ ap (λ t. t ++ r.behind) (section_is a) in
    let all : first_line (version_text v) name ∷ drop (at + 1) (lines_of text) ≡ lines_with a (entries a) ++ r.behind = sym (drop_at (lines_of text) at (first_line (version_text v) name) f.is) ∙ are in
    let first : first_line (version_text v) name ≡ first_line (version_text (shares a)) a.name = ap (first_or name) all in
    let mark = one_mark v (shares a) name a.name first in
    record { fits = fits; shared = sym mark.0; named = sym mark.1; behind = r.behind; is = all }
  where
    first_or : List ℕ → List (List ℕ) → List ℕ
    first_or n [] = n
    first_or n (l ∷ ls) = l

never_bad : (a : Arrays) (value : BadValue) → Valid a → IsBad a value → ⊥
never_bad a value v (inl b) = b.version v.version
never_bad a value v (inr b) = b.index.1 (v.each value.array value.index b.index.0)

pub never_first_bad : (a : Arrays) (value : BadValue) → Valid a → IsFirstBad a (entries a) value → ⊥
never_first_bad a value v (inl b) = never_bad a value v b.0
never_first_bad a value v (inr b) = b.0 (theirs a v)

only_fault : (machine : Option (List ℕ)) (text : List ℕ) (v : Bool) (name : List ℕ) (at : ℕ) (a : Arrays) (fault : TableFault)
    → IsFound machine (lines_of text) at v name
    → StandsAt v name (drop (at + 1) (lines_of text)) (record { arrays = a; entries = entries a }) → Valid a → IsRefusedAt v name (lines_of text) at fault → fault ≡ the.Memory
only_fault machine text v name at a the.NoSection f s k r = absurd r
only_fault machine text v name at a (the.BadText l) f s k r = absurd (never_stops v name (drop (at + 1) (lines_of text)) r.place (record { arrays = a; entries = entries a }) f.formed r.stops s)
only_fault machine text v name at a (the.BadValue value) f s k r =
    let e = reads_it v name (drop (at + 1) (lines_of text)) r.raw (record { arrays = a; entries = entries a }) f.formed r.reads s in
    absurd (never_first_bad a value k (subst (λ w. IsFirstBad w.arrays w.entries value) e r.unsound))
only_fault machine text v name at a the.Memory f s k r = refl

pub only_result : (machine : Option (List ℕ)) (text : List ℕ) (v : Bool) (name : List ℕ) (at : ℕ) (r : Result Arrays TableFault)
    → IsFound machine (lines_of text) at v name
    → IfOk r (IsReadAt v name (lines_of text) at) → IfErr r (IsRefusedAt v name (lines_of text) at)
    → (a : Arrays) → IsRead machine text a → HasNumbers a → Valid a → MatchResult r (λ t. t ≡ a) (λ e. e ≡ the.Memory)
only_result machine text v name at (Ok t) f read told a r fits k =
    let e = reads_it v name (drop (at + 1) (lines_of text)) read.raw (record { arrays = a; entries = entries a }) f.formed read.reads (read_stands machine text v name at a f r (valid_prints a k fits)) in
    read.sound.same ∙ ap (λ w. w.arrays) e
only_result machine text v name at (Err fault) f read told a r fits k = only_fault machine text v name at a fault f (read_stands machine text v name at a f r (valid_prints a k fits)) k told

pub only_none : (machine : Option (List ℕ)) (text : List ℕ) (a : Arrays) → HasNone machine text → IsRead machine text a → ⊥
only_none machine text a h r = no_earlier machine (slice_get (lines_of text) r.at) r.begins.first (h r.at)
