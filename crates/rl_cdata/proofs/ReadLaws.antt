-- What is printed is read: the lines of a section are found in a text that holds it.
use Rattle.std.proofs.Common.{◌≡◌, ◌<◌, ◌≤◌, ◌==◌, ◌+◌, ◌-◌, ℕ, zero, suc, List, [], ◌∷◌, ◌++◌, length, map, take, drop, Bool, true, false, sym, ap, ◌∙◌, refl, subst, arith, append_assoc, append-nil, length-append, Option, Some, None, inl, inr, ◌⊎◌}
use Rattle.std.specs.Prelude.{IfSome, IsSomeAnd, slice_get, cond, IsTrue}
use Rattle.std.specs.List.{AllByRecursion, slice_split, onto_first, flat_map}
use Rattle.std.proofs.lemmas.List.Splits.{slice_split-cons_yes, slice_split-cons_no, slice_split_none, length-slice_split}
use Rattle.std.proofs.lemmas.Option.{slice_get_within}
use Rattle.rl_arrays.specs.declared.arrays.Arrays.{Arrays}
use Rattle.rl_arrays.specs.Sizes.{shares}
use Rattle.rl_arrays.specs.Section.{line_text, first_line, version_word, section_lines, section, entries}
use Rattle.rl_arrays.specs.Valid.{Valid}
use Rattle.rl_cread.specs.Contents.{HasNumbers, IsPrintable}
use Rattle.rl_cread.specs.Sections.{lines_of, lines_with, version_text, Marks, IsFirst, BeginsAt, HasNone, IsRead}
use Rattle.rl_cread.proofs.Lacking.{Lacks, every_lacks}
use Rattle.rl_cread.proofs.PrintLaws.{valid_prints}
use Rattle.rl_cdata.specs.Printed.{EndsLine, IsReadBack}
use Rattle.rl_cdata.proofs.Newlines.{lines_lack}

-- ---- the lines of a text that is cut at a newline

abbrev is_newline : ℕ → Bool
is_newline b = b == 10

abbrev split : List ℕ → List (List ℕ)
split text = slice_split is_newline text

-- a list of parts has one at least
some_part : (text : List ℕ) → 0 < length (split text)
some_part text = let n = length-slice_split is_newline text in omega (arith, n)

onto_parts : (b : ℕ) (ps qs : List (List ℕ)) → 0 < length ps → onto_first b (ps ++ qs) ≡ onto_first b ps ++ qs
onto_parts b [] qs h = absurd (omega arith)
onto_parts b (p ∷ ps) qs h = refl

split_at : (xs ys : List ℕ) → split (xs ++ 10 ∷ ys) ≡ split xs ++ split ys
split_at [] ys = refl
split_at (x ∷ xs) ys = by (x == 10) refl (split_at xs ys)
  where
    by : (t : Bool) → (x == 10) ≡ t → split (xs ++ 10 ∷ ys) ≡ split xs ++ split ys → split (x ∷ (xs ++ 10 ∷ ys)) ≡ split (x ∷ xs) ++ split ys
    by true e h =
        slice_split-cons_yes is_newline x (xs ++ 10 ∷ ys) e ∙ ap (λ ps. [] ∷ ps) h
        ∙ sym (ap (λ ps. ps ++ split ys) (slice_split-cons_yes is_newline x xs e))
    by false e h =
        slice_split-cons_no is_newline x (xs ++ 10 ∷ ys) e ∙ ap (onto_first x) h ∙ onto_parts x (split xs) (split ys) (some_part xs)
        ∙ sym (ap (λ ps. ps ++ split ys) (slice_split-cons_no is_newline x xs e))

take_behind : (xs ys : List (List ℕ)) (k : ℕ) → take (length xs + k) (xs ++ ys) ≡ xs ++ take k ys
take_behind [] ys k = let none : 0 + k ≡ k = omega arith in ap (λ n. take n ys) none
take_behind (x ∷ xs) ys k = let next : suc (length xs) + k ≡ suc (length xs + k) = omega arith in ap (λ n. take n (x ∷ (xs ++ ys))) next ∙ ap (λ ps. x ∷ ps) (take_behind xs ys k)

lines_at : (xs ys : List ℕ) → lines_of (xs ++ 10 ∷ ys) ≡ split xs ++ lines_of ys
lines_at xs ys =
    let some = some_part ys in
    let n = length-append (split xs) (split ys) in
    let count : length (split xs ++ split ys) - 1 ≡ length (split xs) + (length (split ys) - 1) = omega (arith, some, n) in
    ap (λ ps. take (length ps - 1) ps) (split_at xs ys)
    ∙ ap (λ k. take k (split xs ++ split ys)) count
    ∙ take_behind (split xs) (split ys) (length (split ys) - 1)

-- lines in front of a text are its first ones
pub lines_front : (ls : List (List ℕ)) (rest : List ℕ) → AllByRecursion (Lacks 10) ls → lines_of (flat_map line_text ls ++ rest) ≡ ls ++ lines_of rest
lines_front [] rest h = refl
lines_front (l ∷ ls) rest h =
    ap lines_of (append_assoc (line_text l) (flat_map line_text ls) rest ∙ append_assoc l (10 ∷ []) (flat_map line_text ls ++ rest))
    ∙ lines_at l (flat_map line_text ls ++ rest)
    ∙ ap (λ ps. ps ++ lines_of (flat_map line_text ls ++ rest)) (slice_split_none is_newline l (every_lacks 10 l h.0))
    ∙ ap (λ ps. l ∷ ps) (lines_front ls rest h.1)

-- text that ends with a line has its own lines, whatever stands behind it
pub lines_behind : (before rest : List ℕ) → EndsLine before → lines_of (before ++ rest) ≡ lines_of before ++ lines_of rest
lines_behind before rest (inl e) = ap (λ t. lines_of (t ++ rest)) e ∙ sym (ap (λ t. lines_of t ++ lines_of rest) e)
lines_behind before rest (inr h) =
    ap (λ t. lines_of (t ++ rest)) h.1
    ∙ ap lines_of (append_assoc h.0 (10 ∷ []) rest)
    ∙ lines_at h.0 rest
    ∙ ap (λ ps. ps ++ lines_of rest) (sym (append-nil (split h.0)) ∙ sym (lines_at h.0 []))
    ∙ sym (ap (λ t. lines_of t ++ lines_of rest) h.1)

-- ---- elements in front and behind

get_first : (ls : List (List ℕ)) (l : List ℕ) (more : List (List ℕ)) → slice_get (ls ++ (l ∷ more)) (length ls) ≡ Some l
get_first [] l more = refl
get_first (x ∷ ls) l more = get_first ls l more

get_front : (ls more : List (List ℕ)) (k : ℕ) → k < length ls → slice_get (ls ++ more) k ≡ slice_get ls k
get_front [] more k h = absurd (omega arith)
get_front (l ∷ ls) more zero h = refl
get_front (l ∷ ls) more (suc k) h = get_front ls more k (omega arith)

drop_front : (ls more : List (List ℕ)) → drop (length ls) (ls ++ more) ≡ more
drop_front [] more = refl
drop_front (l ∷ ls) more = drop_front ls more

-- ---- the section

pub lines_are : (a : Arrays) → section_lines a ≡ lines_with a (entries a)
unfolding section_lines
lines_are a = refl

first_is : (a : Arrays) → (more : List (List ℕ)) × (section_lines a ≡ first_line (version_text (shares a)) a.name ∷ more)
unfolding section_lines
first_is a = (_, refl)

text_lines : (before behind : List ℕ) (a : Arrays) → IsPrintable a (entries a) → EndsLine before
    → lines_of (before ++ (section a ++ behind)) ≡ lines_of before ++ (section_lines a ++ lines_of behind)
text_lines before behind a p e =
    lines_behind before (section a ++ behind) e
    ∙ ap (λ ps. lines_of before ++ ps) (lines_front (section_lines a) behind (subst (AllByRecursion (Lacks 10)) (sym (lines_are a)) (lines_lack a (entries a) p)))

-- between host texts the section is read, where the text before it has none
pub is_read : (machine : Option (List ℕ)) (before behind : List ℕ) (a : Arrays) → Valid a → HasNumbers a → EndsLine before → HasNone machine before
    → IfSome machine (λ name. name ≡ a.name) → IsRead machine (before ++ (section a ++ behind)) a
is_read machine before behind a valid numbers ends none sought =
    let printable = valid_prints a valid numbers in
    let lines = text_lines before behind a printable ends in
    let at = length (lines_of before) in
    let f = first_is a in
    let rest = section_lines a ++ lines_of behind in
    let first : slice_get (lines_of (before ++ (section a ++ behind))) at ≡ Some (first_line (version_text (shares a)) a.name) =
    ap (λ ls. slice_get ls at) (lines ∙ ap (λ s. lines_of before ++ (s ++ lines_of behind)) f.1) ∙ get_first (lines_of before) (first_line (version_text (shares a)) a.name) (f.0 ++ lines_of behind) in
    record {
      at = at;
      begins = record {
        first = subst (λ o. IsSomeAnd o (IsFirst machine)) (sym first) (record {
          shared = shares a;
          name = a.name;
          marks = record { formed = printable.name; sought = sought; is = refl };
        });
        before = λ k lt. subst (λ o. IfSome o (λ line. IsFirst machine line → ⊥)) (sym (ap (λ ls. slice_get ls k) lines ∙ get_front (lines_of before) rest k lt)) (none k);
      };
      behind = lines_of behind;
      lines = ap (λ ls. drop at ls) lines ∙ drop_front (lines_of before) rest;
    }

pub read_back : (a : Arrays) (text : List ℕ) → Valid a → HasNumbers a → text ≡ section a → IsReadBack text a
read_back a text valid numbers e = record {
  between = λ machine before behind ends none sought.
      subst (λ t. IsRead machine (before ++ (t ++ behind)) a) (sym e) (is_read machine before behind a valid numbers ends none sought);
}
