-- A section that was read, and the line at which no section goes on.
use Rattle.std.proofs.Common.{◌≡◌, ◌<◌, ◌≤◌, ◌+◌, ℕ, zero, suc, Bool, true, false, List, [], ◌∷◌, ◌++◌, length, map, replicate, take, drop, Option, Some, None, sym, ap, ◌∙◌, subst, refl, inl, inr, arith, length-append}
use Rattle.std.specs.Prelude.{IsTrue, ℤ, slice_get, IsSomeAnd}
use Rattle.std.specs.List.{AllByRecursion}
use Rattle.std.specs.Fmt.{signed_decimal}
use Rattle.std.proofs.lemmas.Bool.{cases_lt}
use Rattle.std.proofs.lemmas.Option.{slice_get_within}
use Rattle.rl_arrays.specs.declared.arrays.Arrays.{Arrays}
use Rattle.rl_arrays.specs.declared.arrays.ArrayName.TheVariants as array
use Rattle.rl_arrays.specs.Names.{is_name}
use Rattle.rl_arrays.specs.Sizes.{shares}
use Rattle.rl_arrays.specs.Section.{first_line, array_line}
use Rattle.rl_cread.specs.declared.said.Form.{Form}
use Rattle.rl_cread.specs.declared.said.Form.TheVariants as form
use Rattle.rl_cread.specs.declared.said.Said.{Said}
use Rattle.rl_cread.specs.declared.raw.Raw.{Raw}
use Rattle.rl_cread.specs.Contents.{IsPrintedEntry, IsPrintable}
use Rattle.rl_cread.specs.Sections.{version_text, lines_with, Begins, IsBadLine}
use Rattle.rl_cread.specs.Lines.{line, FitsForm, AllFit, tail, shape, said_entry, said_of, SoFar, BeginsSo, IsBadAt, Agrees, IsEntryLine, EntriesEnd}
use Rattle.rl_cread.specs.Reading.{ReadsAs, StopsAt}
use Rattle.rl_cread.specs.Gathering.{empty, filled}
use Rattle.rl_cread.proofs.Marking.{one_mark}
use Rattle.rl_cread.proofs.Slots.{begins}
use Rattle.rl_cread.proofs.SectionLaws.{SectionSaid, section_said, filled_said, said_lines, tail_rest, tail_begins, said_fits}
use Rattle.rl_cread.proofs.BracketLaws.{no_both}

-- lists by their elements
prefix_is : {A : Type 0} (xs ys : List A) → ((j : ℕ) → j < length ys → slice_get xs j ≡ slice_get ys j) → xs ≡ ys ++ drop (length ys) xs
prefix_is xs [] h = refl
prefix_is [] (y ∷ ys) h = let e : None ≡ Some y = h 0 (omega arith) in absurd cc
prefix_is (x ∷ xs) (y ∷ ys) h =
    let e : Some x ≡ Some y = h 0 (omega arith) in
    let a : x ≡ y = cc in
    let r = prefix_is xs ys (λ j lt. h (suc j) (omega arith)) in
    ap (λ t. t ∷ xs) a ∙ ap (λ t. y ∷ t) r

cons_same : {A : Type 0} (x : A) (xs ys : List A) (k : ℕ) → ((j : ℕ) → j < k → slice_get xs j ≡ slice_get ys j) → (j : ℕ) → j < k + 1
    → slice_get (x ∷ xs) j ≡ slice_get (x ∷ ys) j
cons_same x xs ys k h zero lt = refl
cons_same x xs ys k h (suc j) lt = h j (omega arith)

pub fit_length : (fs : List Form) (ss : List Said) → AllFit fs ss → length ss ≡ length fs
fit_length [] [] h = refl
fit_length [] (s ∷ ss) h = absurd h
fit_length (f ∷ fs) [] h = absurd h
fit_length (f ∷ fs) (s ∷ ss) h = let r = fit_length fs ss h.1 in omega (arith, r)

pub map_length : {A B : Type 0} (f : A → B) (xs : List A) → length (map f xs) ≡ length xs
map_length f [] = refl
map_length f (x ∷ xs) = let r = map_length f xs in omega (arith, r)

replicate_length : {A : Type 0} (n : ℕ) (x : A) → length (replicate n x) ≡ n
replicate_length zero x = refl
replicate_length (suc n) x = let r = replicate_length n x in omega (arith, r)

tail_length : (shared : Bool) → 0 < length (tail shared)
tail_length true = omega arith
tail_length false = omega arith

pub shape_length : (shared : Bool) (n : ℕ) → n + 4 < length (shape shared n)
shape_length shared n =
    let r = replicate_length n form.Entry in
    let s = length-append (replicate n form.Entry) (tail shared) in
    let t = tail_length shared in
    omega (arith, r, s, t)

-- a section's lines, behind its name
pub section_lines_are : (shared : Bool) (name : List ℕ) (a : Arrays) (es : List (List ℕ × ℤ)) → shares a ≡ shared → a.name ≡ name
    → lines_with a es ≡ first_line (version_text shared) name ∷ map (line name) (said_of a es)
section_lines_are shared name a es v e =
    sym (said_lines a es) ∙ ap (λ n. first_line (version_text (shares a)) n ∷ map (line n) (said_of a es)) e ∙ ap (λ w. first_line (version_text w) name ∷ map (line name) (said_of a es)) v

-- what was read stands there
pub record StandsAt (v : Bool) (name : List ℕ) (lines : List (List ℕ)) (raw : Raw) : Type 0 where
  pub fits : IsPrintable raw.arrays raw.entries
  pub shared : shares raw.arrays ≡ v
  pub named : raw.arrays.name ≡ name
  pub behind : List (List ℕ)
  pub is : first_line (version_text v) name ∷ lines ≡ lines_with raw.arrays raw.entries ++ behind

stands_said : (v : Bool) (name : List ℕ) (lines : List (List ℕ)) (count : ℕ) (ss : List Said)
    → Agrees name (shape v count) lines (length (shape v count)) ss → SectionSaid v name count ss
    → StandsAt v name lines (filled ss (record { arrays = empty v name; entries = [] }))
stands_said v name lines count ss h s =
    let raw : Raw = record { arrays = s.arrays; entries = s.entries } in
    let len = fit_length (shape v count) ss h.fits in
    let size = map_length (line name) ss in
    let same : lines ≡ map (line name) ss ++ drop (length (map (line name) ss)) lines = prefix_is lines (map (line name) ss) (λ j lt. h.same j (omega (arith, len, size))) in
    let all : first_line (version_text v) name ∷ map (line name) ss ≡ lines_with s.arrays s.entries =
    ap (λ t. first_line (version_text v) name ∷ map (line name) t) s.is ∙ sym (section_lines_are v name s.arrays s.entries s.shares s.named) in
    let stands : StandsAt v name lines raw = record {
      fits = s.fits;
      shared = s.shares;
      named = s.named;
      behind = drop (length (map (line name) ss)) lines;
      is = ap (λ t. first_line (version_text v) name ∷ t) same ∙ ap (λ t. t ++ drop (length (map (line name) ss)) lines) all;
    } in
    subst (StandsAt v name lines) (sym (
    ap (λ n. filled ss (record { arrays = empty v n; entries = [] })) (sym s.named)
    ∙ ap (λ w. filled ss (record { arrays = empty w (s.arrays.name); entries = [] })) (sym s.shares)
    ∙ ap (λ t. filled t (record { arrays = empty (shares s.arrays) (s.arrays.name); entries = [] })) s.is
    ∙ filled_said s.arrays s.entries s.fits)) stands

pub reads_stands : (v : Bool) (name : List ℕ) (lines : List (List ℕ)) (raw : Raw) → IsTrue (is_name name) → ReadsAs v name lines raw → StandsAt v name lines raw
reads_stands v name lines raw formed r =
    subst (StandsAt v name lines) (sym r.is) (stands_said v name lines r.count r.said r.agrees (section_said v name r.count r.said formed r.agrees.fits))

-- a section that agrees on the first lines, behind its name
pub record Goes (name : List ℕ) (lines : List (List ℕ)) (n : ℕ) (a : Arrays) (es : List (List ℕ × ℤ)) : Type 0 where
  pub formed : IsTrue (is_name name)
  pub fits : IsPrintable a es
  pub within : n < length (said_of a es) + 1
  pub same : (j : ℕ) → j < n → slice_get lines j ≡ slice_get (map (line name) (said_of a es)) j

pub get_drop : {A : Type 0} (xs : List A) (k : ℕ) → slice_get (drop 4 xs) k ≡ slice_get xs (suc (suc (suc (suc k))))
get_drop [] k = refl
get_drop (a ∷ []) k = refl
get_drop (a ∷ b ∷ []) k = refl
get_drop (a ∷ b ∷ c ∷ []) k = refl
get_drop (a ∷ b ∷ c ∷ d ∷ xs) k = refl

pub entry_said_at : (name : List ℕ) (es : List (List ℕ × ℤ)) (rest : List Said) (k : ℕ) → AllByRecursion IsPrintedEntry es → k < length es
    → IsSomeAnd (slice_get (map (line name) (map said_entry es ++ rest)) k) (IsEntryLine name)
entry_said_at name [] rest k h lt = absurd (omega arith)
entry_said_at name (e ∷ es) rest zero h lt = record { word = e.0; number = e.1; fits = h.0; is = refl }
entry_said_at name (e ∷ es) rest (suc k) h lt = entry_said_at name es rest k h.1 (omega arith)

pub tail_said_at : (name : List ℕ) (es : List (List ℕ × ℤ)) (s : Said) (rest : List Said)
    → slice_get (map (line name) (map said_entry es ++ (s ∷ rest))) (length es) ≡ Some (line name s)
tail_said_at name [] s rest = refl
tail_said_at name (e ∷ es) s rest = tail_said_at name es s rest

-- where it goes on behind the entry lines of both, it has as many entry lines
some_is : {A : Type 0} (P : A → Type 0) (o : Option A) (x : A) → o ≡ Some x → IsSomeAnd o P → P x
some_is P None x e h = absurd h
some_is P (Some y) x e h = let a : y ≡ x = cc in subst P a h

pub too_many : (name : List ℕ) (lines : List (List ℕ)) (count n : ℕ) (a : Arrays) (es : List (List ℕ × ℤ)) → EntriesEnd name (drop 4 lines) count
    → Goes name lines n a es → length es < count → length es + 4 < n → ⊥
too_many name lines count n a es ends g few far =
    let at : slice_get (drop 4 lines) (length es) ≡ Some (array_line name array.Actions (map signed_decimal a.actions)) =
    get_drop lines (length es) ∙ g.same (suc (suc (suc (suc (length es))))) (omega (arith, far))
    ∙ ap (λ t. slice_get (map (line name) (map said_entry es ++ t)) (length es)) (tail_begins (shares a) a) ∙ tail_said_at name es _ (tail_rest (shares a) a) in
    let entry = some_is (IsEntryLine name) (slice_get (drop 4 lines) (length es)) _ at (ends.each (length es) few) in
    no_both name entry.word entry.number (map signed_decimal a.actions) g.formed entry.fits.0 entry.fits.1 (sym entry.is)

pub too_few : (name : List ℕ) (lines : List (List ℕ)) (count n : ℕ) (a : Arrays) (es : List (List ℕ × ℤ)) → EntriesEnd name (drop 4 lines) count
    → Goes name lines n a es → count < length es → count + 4 < n → ⊥
too_few name lines count n a es ends g more far =
    let at : slice_get (drop 4 lines) count ≡ slice_get (map (line name) (said_of a es)) (suc (suc (suc (suc count)))) = get_drop lines count ∙ g.same (suc (suc (suc (suc count)))) (omega (arith, far)) in
    ends.next (subst (λ o. IsSomeAnd o (IsEntryLine name)) (sym at) (entry_said_at name es _ count g.fits.entries more))

-- else the forms are the same on the lines on which it agrees
get_replicate : (n : ℕ) (f : Form) (rest : List Form) (i : ℕ) → i < n → slice_get (replicate n f ++ rest) i ≡ Some f
get_replicate zero f rest i lt = absurd (omega arith)
get_replicate (suc n) f rest zero lt = refl
get_replicate (suc n) f rest (suc i) lt = get_replicate n f rest i (omega arith)

shape_same : (v : Bool) (m n k : ℕ) → k ≤ m + 4 → k ≤ n + 4 → (j : ℕ) → j < k → slice_get (shape v m) j ≡ slice_get (shape v n) j
shape_same v m n k p q zero lt = refl
shape_same v m n k p q (suc zero) lt = refl
shape_same v m n k p q (suc (suc zero)) lt = refl
shape_same v m n k p q (suc (suc (suc zero))) lt = refl
shape_same v m n k p q (suc (suc (suc (suc i)))) lt = get_replicate m form.Entry (tail v) i (omega (arith, lt, p)) ∙ sym (get_replicate n form.Entry (tail v) i (omega (arith, lt, q)))

so_far : (name : List ℕ) (fs gs : List Form) (lines : List (List ℕ)) (ss : List Said) (n : ℕ) → AllFit gs ss → n < length ss + 1
    → ((j : ℕ) → j < n → slice_get fs j ≡ slice_get gs j) → ((j : ℕ) → j < n → slice_get lines j ≡ slice_get (map (line name) ss) j)
    → SoFar name fs lines (take n ss)
so_far name fs gs lines ss zero h w e s = tt
so_far name fs gs lines [] (suc n) h w e s = absurd (omega arith)
so_far name fs [] lines (c ∷ ss) (suc n) h w e s = absurd h
so_far name [] (g ∷ gs) lines (c ∷ ss) (suc n) h w e s = let bad : None ≡ Some g = e 0 (omega arith) in absurd cc
so_far name (f ∷ fs) (g ∷ gs) [] (c ∷ ss) (suc n) h w e s = let bad : None ≡ Some (line name c) = s 0 (omega arith) in absurd cc
so_far name (f ∷ fs) (g ∷ gs) (l ∷ lines) (c ∷ ss) (suc n) h w e s =
    let a : Some f ≡ Some g = e 0 (omega arith) in
    let b : Some l ≡ Some (line name c) = s 0 (omega arith) in
    let fg : g ≡ f = cc in
    let lc : l ≡ line name c = cc in
    (subst (λ x. FitsForm x c) fg h.0, lc, so_far name fs gs lines ss n h.1 (omega arith) (λ j lt. e (suc j) (omega arith)) (λ j lt. s (suc j) (omega arith)))

take_length : {A : Type 0} (xs : List A) (n : ℕ) → n < length xs + 1 → length (take n xs) ≡ n
take_length xs zero w = refl
take_length [] (suc n) w = absurd (omega arith)
take_length (x ∷ xs) (suc n) w = let r = take_length xs n (omega arith) in omega (arith, r)

alike : (name : List ℕ) (lines : List (List ℕ)) (count n : ℕ) (a : Arrays) (es : List (List ℕ × ℤ)) → Goes name lines n a es
    → ((j : ℕ) → j < n → slice_get (shape (shares a) count) j ≡ slice_get (shape (shares a) (length es)) j) → BeginsSo name (shape (shares a) count) lines n
alike name lines count n a es g e =
    subst (BeginsSo name (shape (shares a) count) lines) (take_length (said_of a es) n g.within)
    (begins name (shape (shares a) count) lines (take n (said_of a es)) (so_far name (shape (shares a) count) (shape (shares a) (length es)) lines (said_of a es) n (said_fits a es g.fits) g.within e g.same))

-- so what any section begins, the forms that were looked for begin
goes_so : (name : List ℕ) (lines : List (List ℕ)) (count n : ℕ) (a : Arrays) (es : List (List ℕ × ℤ)) → EntriesEnd name (drop 4 lines) count
    → Goes name lines n a es → BeginsSo name (shape (shares a) count) lines n
goes_so name lines count n a es ends g =
    elim (cases_lt (length es) count) [
      | inl few ↦ elim (cases_lt (length es + 4) n) [
        | inl far ↦ absurd (too_many name lines count n a es ends g few far)
        | inr near ↦ alike name lines count n a es g (shape_same (shares a) count (length es) n (omega (arith, near, few)) (omega (arith, near)))
      ]
      | inr most ↦ elim (cases_lt count (length es)) [
        | inl more ↦ elim (cases_lt (count + 4) n) [
          | inl far ↦ absurd (too_few name lines count n a es ends g more far)
          | inr near ↦ alike name lines count n a es g (shape_same (shares a) count (length es) n (omega (arith, near)) (omega (arith, near, more)))
        ]
        | inr least ↦ let e : count ≡ length es = omega (arith, most, least) in alike name lines count n a es g (λ j lt. ap (λ m. slice_get (shape (shares a) m) j) e)
      ]
    ]

pub goes_on : (v : Bool) (name : List ℕ) (lines : List (List ℕ)) (n : ℕ) → IsTrue (is_name name)
    → (b : Begins (first_line (version_text v) name ∷ lines) (n + 1)) → shares b.arrays ≡ v → b.arrays.name ≡ name
    → Goes name lines n b.arrays b.entries
goes_on v name lines n formed b shared named =
    let are = section_lines_are v name b.arrays b.entries shared named in
    let size = map_length (line name) (said_of b.arrays b.entries) in
    let w = b.within in
    record {
      formed = formed;
      fits = b.fits;
      within = (let s = ap length are in omega (arith, s, size, w));
      same = λ j lt. b.same (suc j) (omega (arith, lt)) ∙ ap (λ t. slice_get t (suc j)) are;
    }

begins_so : (v : Bool) (name : List ℕ) (lines : List (List ℕ)) (count n : ℕ) → IsTrue (is_name name) → EntriesEnd name (drop 4 lines) count
    → Begins (first_line (version_text v) name ∷ lines) (n + 1)
    → BeginsSo name (shape v count) lines n
begins_so v name lines count n formed ends b =
    let first : Some (first_line (version_text v) name) ≡ Some (first_line (version_text (shares b.arrays)) b.arrays.name) = b.same 0 (omega arith) in
    let mark : (shares b.arrays ≡ v) × (b.arrays.name ≡ name) = one_mark (shares b.arrays) v b.arrays.name name cc in
    subst (λ w. BeginsSo name (shape w count) lines n) mark.0 (goes_so name lines count n b.arrays b.entries ends (goes_on v name lines n formed b mark.0 mark.1))

bad_said : (v : Bool) (name : List ℕ) (lines : List (List ℕ)) (count k : ℕ) → IsTrue (is_name name) → EntriesEnd name (drop 4 lines) count
    → (bad : IsBadAt name (shape v count) lines k)
    → SectionSaid v name count bad.before.said → IsBadLine (first_line (version_text v) name ∷ lines) (k + 1)
bad_said v name lines count k formed ends bad s =
    let ss : List Said = bad.before.said in
    let whole : lines_with s.arrays s.entries ≡ first_line (version_text v) name ∷ map (line name) ss =
    section_lines_are v name s.arrays s.entries s.shares s.named ∙ ap (λ t. first_line (version_text v) name ∷ map (line name) t) (sym s.is) in
    let len = fit_length (shape v count) ss bad.before.agrees.fits in
    let size = map_length (line name) ss in
    let w = bad.within in
    let long = ap length whole in
    record {
      before = record {
        arrays = s.arrays;
        entries = s.entries;
        fits = s.fits;
        within = omega (arith, len, size, w, long);
        same = λ j lt. cons_same (first_line (version_text v) name) lines (map (line name) ss) k bad.before.agrees.same j lt ∙ ap (λ t. slice_get t j) (sym whole);
      };
      due = omega (arith, len, size, w, long);
      none = λ b. bad.none (begins_so v name lines count (k + 1) formed ends b);
    }

pub stops_bad : (v : Bool) (name : List ℕ) (lines : List (List ℕ)) (k : ℕ) → IsTrue (is_name name) → StopsAt v name lines k
    → IsBadLine (first_line (version_text v) name ∷ lines) (k + 1)
stops_bad v name lines k formed s = bad_said v name lines s.count k formed s.ends s.bad (section_said v name s.count s.bad.before.said formed s.bad.before.agrees.fits)

-- it stops at a line that is there, or behind the last one
get_some : {A : Type 0} (xs : List A) (j : ℕ) → j < length xs → (x : A) × (slice_get xs j ≡ Some x)
get_some [] j lt = absurd (omega arith)
get_some (x ∷ xs) zero lt = (x, refl)
get_some (x ∷ xs) (suc j) lt = get_some xs j (omega arith)

pub stops_within : (v : Bool) (name : List ℕ) (lines : List (List ℕ)) (k : ℕ) → StopsAt v name lines k → k ≤ length lines
stops_within v name lines zero s = omega arith
stops_within v name lines (suc k) s =
    let b = s.bad.before in
    let len = fit_length (shape v s.count) b.said b.agrees.fits in
    let size = map_length (line name) b.said in
    let w = s.bad.within in
    let g = get_some (map (line name) b.said) k (omega (arith, len, size, w)) in
    let t = slice_get_within lines k g.0 (b.agrees.same k (omega arith) ∙ g.1) in
    omega (arith, t)
