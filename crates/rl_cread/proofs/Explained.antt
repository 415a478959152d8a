-- A text has one explanation, and none where its section is read.
use Rattle.std.proofs.Common.{◌≡◌, ◌<◌, ◌≤◌, ◌+◌, ℕ, suc, Bool, List, [], ◌∷◌, ◌++◌, length, map, drop, Option, Some, None, sym, ap, ◌∙◌, subst, refl, inl, inr, arith}
use Rattle.std.specs.Prelude.{ℤ, slice_get, IfSome, IsSomeAnd, Result, Ok, Err, IfOk}
use Rattle.std.specs.Fmt.{signed_decimal}
use Rattle.std.proofs.lemmas.Bool.{cases_lt}
use Rattle.std.proofs.lemmas.Option.{slice_get_within}
use Rattle.rl_arrays.specs.declared.arrays.Arrays.{Arrays}
use Rattle.rl_arrays.specs.declared.arrays.ArrayName.{ArrayName}
use Rattle.rl_arrays.specs.declared.arrays.ArrayName.TheVariants as array
use Rattle.rl_arrays.specs.declared.arrays.BadValue.{BadValue}
use Rattle.rl_arrays.specs.declared.arrays.TheConstants.{ORDER}
use Rattle.rl_arrays.specs.Sizes.{shares}
use Rattle.rl_arrays.specs.Section.{first_line, array_line, entries}
use Rattle.rl_arrays.specs.Valid.{Valid, IsBad, FirstWrong, SoundBefore}
use Rattle.rl_cread.specs.declared.fault.TableFault.{TableFault}
use Rattle.rl_cread.specs.declared.fault.TableFault.TheVariants as the
use Rattle.rl_cread.specs.declared.raw.Raw.{Raw}
use Rattle.rl_cread.specs.Contents.{Content, Numbers, Names, content, Fits, AreNumbers, HasNumbers, IsPrintable}
use Rattle.rl_cread.specs.Sections.{version_text, lines_of, lines_with, IsFirst, BeginsAt, IsRead, Begins, IsBadLine, IsBadText, IsBadSection, IsFirstBad, HasNone, Explains}
use Rattle.rl_cread.specs.Lines.{line, shape, said_entry, said_of, IsEntryLine, EntriesEnd}
use Rattle.rl_cread.specs.Reading.{ReadsAs}
use Rattle.rl_cread.specs.Found.{IsFound}
use Rattle.rl_cread.specs.Outcome.{IsReadAt}
use Rattle.rl_cread.proofs.Marking.{one_mark}
use Rattle.rl_cread.proofs.BracketLaws.{no_both}
use Rattle.rl_cread.proofs.SectionLaws.{filled_said, tail_rest, tail_begins, said_fits}
use Rattle.rl_cread.proofs.ReadingLaws.{StandsAt, section_lines_are, reads_stands, get_drop, entry_said_at, tail_said_at, goes_on, too_many, too_few, fit_length, map_length, shape_length}
use Rattle.rl_cread.proofs.PrintLaws.{valid_prints}
use Rattle.rl_cread.proofs.Outcomes.{section_is}
use Rattle.rl_cread.proofs.OnlyLaws.{get_front, stands_goes, stands_agrees, reads_it, one_begin, only_none, never_first_bad}

-- ---- what can be printed has numbers

are_numbers : (c : Content) → Fits c → AreNumbers c
are_numbers (Numbers ns) h = h
are_numbers (Names names) h = tt

has_numbers : (a : Arrays) (lines : List (List ℕ × ℤ)) → IsPrintable a lines → HasNumbers a
has_numbers a lines h = record { start = h.start; first_final = h.first_final; alphabet = h.alphabet; arrays = λ x. are_numbers (content a x) (h.arrays x) }

pub read_numbers : (machine : Option (List ℕ)) (text : List ℕ) (v : Bool) (name : List ℕ) (at : ℕ) (r : Result Arrays TableFault)
    → IsFound machine (lines_of text) at v name
    → IfOk r (IsReadAt v name (lines_of text) at) → IfOk r HasNumbers
read_numbers machine text v name at (Ok a) f h =
    let s = reads_stands v name (drop (at + 1) (lines_of text)) h.raw f.formed h.reads in
    subst HasNumbers (sym h.sound.same) (has_numbers h.raw.arrays h.raw.entries s.fits)
read_numbers machine text v name at (Err e) f h = tt

-- ---- a section that stands in lines

abbrev head : Arrays → List ℕ
head a = first_line (version_text (shares a)) a.name

abbrev behind_head : Arrays → List (List ℕ × ℤ) → List (List ℕ) → List (List ℕ)
behind_head a es behind = map (line a.name) (said_of a es) ++ behind

abbrev raw_of : Arrays → List (List ℕ × ℤ) → Raw
raw_of a es = record { arrays = a; entries = es }

section_at : (a : Arrays) (es : List (List ℕ × ℤ)) (behind : List (List ℕ)) → lines_with a es ++ behind ≡ head a ∷ behind_head a es behind
section_at a es behind = ap (λ t. t ++ behind) (section_lines_are (shares a) a.name a es refl refl)

stands : (a : Arrays) (es : List (List ℕ × ℤ)) (behind : List (List ℕ)) → IsPrintable a es → StandsAt (shares a) a.name (behind_head a es behind) (raw_of a es)
stands a es behind fits = record { fits = fits; shared = refl; named = refl; behind = behind; is = sym (section_at a es behind) }

-- its entry lines end where they do
ends : (a : Arrays) (es : List (List ℕ × ℤ)) (behind : List (List ℕ)) → IsPrintable a es → EntriesEnd a.name (drop 4 (behind_head a es behind)) (length es)
ends a es behind fits =
    let ls : List (List ℕ) = behind_head a es behind in
    let g = stands_goes (shares a) a.name ls (raw_of a es) fits.name (stands a es behind fits) in
    let len = fit_length (shape (shares a) (length es)) (said_of a es) (said_fits a es fits) in
    let long = shape_length (shares a) (length es) in
    let last : slice_get (drop 4 ls) (length es) ≡ Some (array_line a.name array.Actions (map signed_decimal a.actions)) =
    get_drop ls (length es) ∙ g.same (suc (suc (suc (suc (length es))))) (omega (arith, len, long))
    ∙ ap (λ t. slice_get (map (line a.name) (map said_entry es ++ t)) (length es)) (tail_begins (shares a) a) ∙ tail_said_at a.name es _ (tail_rest (shares a) a) in
    record {
      each = λ k lt. subst (λ o. IsSomeAnd o (IsEntryLine a.name)) (sym (get_drop ls k ∙ g.same (suc (suc (suc (suc k)))) (omega (arith, len, long, lt)))) (entry_said_at a.name es _ k fits.entries lt);
      next = λ h. no_entry (subst (λ o. IsSomeAnd o (IsEntryLine a.name)) last h);
    }
  where
    no_entry : IsEntryLine a.name (array_line a.name array.Actions (map signed_decimal a.actions)) → ⊥
    no_entry e = no_both a.name e.word e.number (map signed_decimal a.actions) fits.name e.fits.0 e.fits.1 (sym e.is)

size : (a : Arrays) (es : List (List ℕ × ℤ)) → IsPrintable a es → length (lines_with a es) ≡ length (shape (shares a) (length es)) + 1
size a es fits =
    let is = section_lines_are (shares a) a.name a es refl refl in
    let m = map_length (line a.name) (said_of a es) in
    let f = fit_length (shape (shares a) (length es)) (said_of a es) (said_fits a es fits) in
    omega (arith, ap length is, m, f)

-- ---- where a section stands no line is bad

abbrev begins_less : (lines : List (List ℕ)) (k j : ℕ) → j ≤ k → Begins lines k → Begins lines j
begins_less lines k j le b =
    let w = b.within in
    record { arrays = b.arrays; entries = b.entries; fits = b.fits; within = omega (arith, w, le); same = λ i lt. b.same i (omega (arith, lt, le)) }

whole : (a : Arrays) (es : List (List ℕ × ℤ)) (behind : List (List ℕ)) (k : ℕ) → IsPrintable a es → k ≤ length (lines_with a es)
    → Begins (lines_with a es ++ behind) k
whole a es behind k fits le = record { arrays = a; entries = es; fits = fits; within = omega (arith, le); same = λ j lt. get_front (lines_with a es) behind j (omega (arith, lt, le)) }

-- what goes on as far as a section does has as many lines
same_size : (a : Arrays) (es : List (List ℕ × ℤ)) (behind : List (List ℕ)) → IsPrintable a es
    → (b : Begins (head a ∷ behind_head a es behind) (length (said_of a es) + 1))
    → length (lines_with b.arrays b.entries) ≡ length (lines_with a es)
same_size a es behind fits b =
    let n : ℕ = length (said_of a es) in
    let ls : List (List ℕ) = behind_head a es behind in
    let first : Some (head a) ≡ Some (head b.arrays) = b.same 0 (omega arith) in
    let mark : (shares b.arrays ≡ shares a) × (b.arrays.name ≡ a.name) = one_mark (shares b.arrays) (shares a) b.arrays.name a.name cc in
    let g = goes_on (shares a) a.name ls n fits.name b mark.0 mark.1 in
    let e = ends a es behind fits in
    let len = fit_length (shape (shares a) (length es)) (said_of a es) (said_fits a es fits) in
    let long = shape_length (shares a) (length es) in
    let count : length b.entries ≡ length es = elim (cases_lt (length b.entries) (length es)) [
      | inl few ↦ absurd (too_many a.name ls (length es) n b.arrays b.entries e g few (omega (arith, len, long, few)))
      | inr most ↦ elim (cases_lt (length es) (length b.entries)) [
        | inl more ↦ absurd (too_few a.name ls (length es) n b.arrays b.entries e g more (omega (arith, len, long)))
        | inr least ↦ omega (arith, most, least)
      ]
    ] in
    size b.arrays b.entries b.fits ∙ ap (λ v. length (shape v (length b.entries)) + 1) mark.0 ∙ ap (λ c. length (shape (shares a) c) + 1) count ∙ sym (size a es fits)

too_long : (a : Arrays) (es : List (List ℕ × ℤ)) (behind : List (List ℕ)) (k : ℕ) → IsPrintable a es → length (lines_with a es) ≤ k
    → (b : Begins (head a ∷ behind_head a es behind) k)
    → k < length (lines_with b.arrays b.entries) → ⊥
too_long a es behind k fits le b due =
    let is = section_lines_are (shares a) a.name a es refl refl in
    let m = map_length (line a.name) (said_of a es) in
    let long : length (lines_with a es) ≡ length (said_of a es) + 1 = omega (arith, ap length is, m) in
    let s : length (lines_with b.arrays b.entries) ≡ length (lines_with a es) = same_size a es behind fits (begins_less (head a ∷ behind_head a es behind) k (length (said_of a es) + 1) (omega (arith, long, le)) b) in
    omega (arith, s, le, due)

never_line : (a : Arrays) (es : List (List ℕ × ℤ)) (behind : List (List ℕ)) (k : ℕ) → IsPrintable a es → IsBadLine (lines_with a es ++ behind) k → ⊥
never_line a es behind k fits bad =
    elim (cases_lt k (length (lines_with a es))) [
      | inl lt ↦ bad.none (whole a es behind (k + 1) fits (omega (arith, lt)))
      | inr le ↦ let moved = subst (λ ls. IsBadLine ls k) (section_at a es behind) bad in too_long a es behind k fits le moved.before moved.due
    ]

never_text : (machine : Option (List ℕ)) (text : List ℕ) (l at : ℕ) (a : Arrays) (es : List (List ℕ × ℤ)) (behind : List (List ℕ))
    → IsPrintable a es → BeginsAt machine (lines_of text) at
    → drop at (lines_of text) ≡ lines_with a es ++ behind → IsBadText machine text l → ⊥
never_text machine text l at a es behind fits begins is t =
    let same = one_begin machine (lines_of text) t.at at t.begins begins in
    never_line a es behind t.place fits (subst (λ ls. IsBadLine ls t.place) (ap (λ n. drop n (lines_of text)) same ∙ is) t.bad)

-- ---- one section stands there

reads_section : (a : Arrays) (es : List (List ℕ × ℤ)) (behind : List (List ℕ)) → IsPrintable a es
    → ReadsAs (shares a) a.name (behind_head a es behind) (raw_of a es)
reads_section a es behind fits = record {
  count = length es;
  ends = ends a es behind fits;
  said = said_of a es;
  agrees = stands_agrees (shares a) a.name (behind_head a es behind) (length es) (raw_of a es) fits.name (ends a es behind fits) (stands a es behind fits);
  is = sym (filled_said a es fits);
}

abbrev first_or : List ℕ → List (List ℕ) → List ℕ
first_or n [] = n
first_or n (l ∷ ls) = l

one_section : (a b : Arrays) (es fs : List (List ℕ × ℤ)) (before behind : List (List ℕ)) → IsPrintable a es → IsPrintable b fs
    → lines_with a es ++ before ≡ lines_with b fs ++ behind → raw_of a es ≡ raw_of b fs
one_section a b es fs before behind fits other same =
    let all : head a ∷ behind_head a es before ≡ lines_with b fs ++ behind = sym (section_at a es before) ∙ same in
    let mark = one_mark (shares a) (shares b) a.name b.name (ap (first_or a.name) (all ∙ section_at b fs behind)) in
    let there : StandsAt (shares a) a.name (behind_head a es before) (raw_of b fs) = record { fits = other; shared = sym mark.0; named = sym mark.1; behind = behind; is = all } in
    reads_it (shares a) a.name (behind_head a es before) (raw_of a es) (raw_of b fs) fits.name (reads_section a es before fits) there

-- ---- it has one first wrong element

index_once : (n : ℕ) (P : ℕ → Type 0) (i j : ℕ) → (i < n) × (P i → ⊥) × ((k : ℕ) → k < i → P k) → (j < n) × (P j → ⊥) × ((k : ℕ) → k < j → P k) → i ≡ j
index_once n P i j a b =
    elim (cases_lt i j) [
      | inl lt ↦ absurd (a.1 (b.2 i lt))
      | inr le ↦ elim (cases_lt j i) [ inl gt ↦ absurd (b.1 (a.2 j gt)) | inr ge ↦ omega (arith, le, ge) ]
    ]

sound_at : (a : Arrays) (place k : ℕ) (x : ArrayName) → SoundBefore a place → k < place → slice_get ORDER k ≡ Some x → FirstWrong a x None
sound_at a place k x h lt e = subst (λ o. IfSome o (λ y. FirstWrong a y None)) e (h k lt)

some_same : (x y : ArrayName) → Some x ≡ Some y → x ≡ y
some_same x y e = cc

bad_once : (a : Arrays) (x y : BadValue) → IsBad a x → IsBad a y → x ≡ y
bad_once a x y (inl p) (inl q) = p.told ∙ sym q.told
bad_once a x y (inl p) (inr q) = absurd (p.version q.version)
bad_once a x y (inr p) (inl q) = absurd (q.version p.version)
bad_once a x y (inr p) (inr q) =
    let place : p.place ≡ q.place = elim (cases_lt p.place q.place) [
      | inl lt ↦ absurd (p.index.1 (sound_at a q.place p.place x.array q.before lt p.array x.index p.index.0))
      | inr le ↦ elim (cases_lt q.place p.place) [
        | inl gt ↦ absurd (q.index.1 (sound_at a p.place q.place y.array p.before gt q.array y.index q.index.0))
        | inr ge ↦ omega (arith, le, ge)
      ]
    ] in
    let same : x.array ≡ y.array = some_same x.array y.array (sym p.array ∙ ap (slice_get ORDER) place ∙ q.array) in
    let index : x.index ≡ y.index = index_once _ _ x.index y.index (subst (λ z. FirstWrong a z (Some x.index)) same p.index) q.index in
    let array_first : x ≡ record { array = y.array; index = x.index } = ap (λ z. record { array = z; index = x.index }) same in
    array_first ∙ ap (λ i. record { array = y.array; index = i }) index

-- a wrong element of another array than the last comes before the entry lines
not_last : (a : Arrays) (x : BadValue) → IsBad a x → (x.array ≡ array.EntryStates → ⊥) → SoundBefore a 27 → ⊥
not_last a x (inl p) ne sound = ne (ap (λ (b : BadValue). b.array) p.told)
not_last a x (inr p) ne sound =
    let w : p.place < 28 = slice_get_within ORDER p.place x.array p.array in
    elim (cases_lt p.place 27) [
      | inl lt ↦ p.index.1 (sound_at a 27 p.place x.array sound lt p.array x.index p.index.0)
      | inr le ↦ let last : p.place ≡ 27 = omega (arith, w, le) in ne (some_same x.array array.EntryStates (sym p.array ∙ ap (slice_get ORDER) last))
    ]

first_bad_once : (a : Arrays) (es : List (List ℕ × ℤ)) (x y : BadValue) → IsFirstBad a es x → IsFirstBad a es y → x ≡ y
first_bad_once a es x y (inl p) (inl q) = bad_once a x y p.0 q.0
first_bad_once a es x y (inl (p, inl agree)) (inr q) = absurd (q.0 agree)
first_bad_once a es x y (inl (p, inr ne)) (inr q) = absurd (not_last a x p ne q.1)
first_bad_once a es x y (inr p) (inl (q, inl agree)) = absurd (p.0 agree)
first_bad_once a es x y (inr p) (inl (q, inr ne)) = absurd (not_last a y q ne p.1)
first_bad_once a es x y (inr p) (inr q) = p.2 ∙ sym q.2

-- ---- one explanation

one_bad : (lines : List (List ℕ)) (k j : ℕ) → IsBadLine lines k → IsBadLine lines j → k ≡ j
one_bad lines k j a b =
    elim (cases_lt k j) [
      | inl lt ↦ absurd (a.none (begins_less lines j (k + 1) (omega (arith, lt)) b.before))
      | inr le ↦ elim (cases_lt j k) [
        | inl gt ↦ absurd (b.none (begins_less lines k (j + 1) (omega (arith, gt)) a.before))
        | inr ge ↦ omega (arith, le, ge)
      ]
    ]

text_once : (machine : Option (List ℕ)) (text : List ℕ) (l m : ℕ) → IsBadText machine text l → IsBadText machine text m → l ≡ m
text_once machine text l m a b =
    let same = one_begin machine (lines_of text) a.at b.at a.begins b.begins in
    let place = one_bad (drop b.at (lines_of text)) a.place b.place (subst (λ n. IsBadLine (drop n (lines_of text)) a.place) same a.bad) b.bad in
    let x = a.is in
    let y = b.is in
    omega (arith, same, place, x, y)

value_once : (machine : Option (List ℕ)) (text : List ℕ) (x y : BadValue) → IsBadSection machine text x → IsBadSection machine text y → x ≡ y
value_once machine text x y a b =
    let same = one_begin machine (lines_of text) a.at b.at a.begins b.begins in
    let raw = one_section a.arrays b.arrays a.entries b.entries a.behind b.behind a.fits b.fits (sym a.lines ∙ ap (λ n. drop n (lines_of text)) same ∙ b.lines) in
    first_bad_once b.arrays b.entries x y (subst (λ (w : Raw). IsFirstBad w.arrays w.entries x) raw a.bad) b.bad

begins_or_none : (machine : Option (List ℕ)) (text : List ℕ) (at : ℕ) → BeginsAt machine (lines_of text) at → HasNone machine text → ⊥
begins_or_none machine text at begins none = of_line (slice_get (lines_of text) at) begins.first (none at)
  where
    of_line : (o : Option (List ℕ)) → IsSomeAnd o (IsFirst machine) → IfSome o (λ line. IsFirst machine line → ⊥) → ⊥
    of_line (Some line) p q = q p
    of_line None p q = p

-- a text that gives no tables has one explanation
pub explained_once : (machine : Option (List ℕ)) (text : List ℕ) (f g : TableFault) → (f ≡ the.Memory → ⊥) → (g ≡ the.Memory → ⊥)
    → Explains machine text f → Explains machine text g → f ≡ g
explained_once machine text the.Memory g nf ng p q = absurd (nf refl)
explained_once machine text the.NoSection the.NoSection nf ng p q = refl
explained_once machine text the.NoSection (the.BadText m) nf ng p q = absurd (begins_or_none machine text q.at q.begins p)
explained_once machine text the.NoSection (the.BadValue y) nf ng p q = absurd (begins_or_none machine text q.at q.begins p)
explained_once machine text the.NoSection the.Memory nf ng p q = absurd (ng refl)
explained_once machine text (the.BadText l) the.NoSection nf ng p q = absurd (begins_or_none machine text p.at p.begins q)
explained_once machine text (the.BadText l) (the.BadText m) nf ng p q = ap the.BadText (text_once machine text l m p q)
explained_once machine text (the.BadText l) (the.BadValue y) nf ng p q = absurd (never_text machine text l q.at q.arrays q.entries q.behind q.fits q.begins q.lines p)
explained_once machine text (the.BadText l) the.Memory nf ng p q = absurd (ng refl)
explained_once machine text (the.BadValue x) the.NoSection nf ng p q = absurd (begins_or_none machine text p.at p.begins q)
explained_once machine text (the.BadValue x) (the.BadText m) nf ng p q = absurd (never_text machine text m p.at p.arrays p.entries p.behind p.fits p.begins p.lines q)
explained_once machine text (the.BadValue x) (the.BadValue y) nf ng p q = ap the.BadValue (value_once machine text x y p q)
explained_once machine text (the.BadValue x) the.Memory nf ng p q = absurd (ng refl)

-- and one whose section is read has none
pub explained_unread : (machine : Option (List ℕ)) (text : List ℕ) (f : TableFault) (a : Arrays) → (f ≡ the.Memory → ⊥) → Explains machine text f
    → IsRead machine text a → HasNumbers a → Valid a → ⊥
explained_unread machine text the.NoSection a nf p r n v = only_none machine text a p r
explained_unread machine text (the.BadText l) a nf p r n v =
    never_text machine text l r.at a (entries a) r.behind (valid_prints a v n) r.begins (r.lines ∙ ap (λ t. t ++ r.behind) (section_is a)) p
explained_unread machine text (the.BadValue x) a nf p r n v =
    let same = one_begin machine (lines_of text) p.at r.at p.begins r.begins in
    let lines : lines_with p.arrays p.entries ++ p.behind ≡ lines_with a (entries a) ++ r.behind =
    sym p.lines ∙ ap (λ n. drop n (lines_of text)) same ∙ r.lines ∙ ap (λ t. t ++ r.behind) (section_is a) in
    let raw = one_section p.arrays a p.entries (entries a) p.behind r.behind p.fits (valid_prints a v n) lines in
    never_first_bad a x v (subst (λ (w : Raw). IsFirstBad w.arrays w.entries x) raw p.bad)
explained_unread machine text the.Memory a nf p r n v = nf refl
