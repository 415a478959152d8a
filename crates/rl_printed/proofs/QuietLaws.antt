-- Lines that begin no section.
use Rattle.std.proofs.Common.{◌≡◌, ℕ, zero, suc, List, [], ◌∷◌, ◌++◌, map, get_or, Option, Some, None, refl, sym, ap, ◌∙◌, subst, arith, append_assoc, append-nil, inl, inr}
use Rattle.std.specs.Prelude.{IfSome, slice_get, ℤ}
use Rattle.std.specs.List.{AllByRecursion, flat_map}
use Rattle.rl_arrays.specs.declared.arrays.Arrays.{Arrays}
use Rattle.rl_arrays.specs.declared.arrays.ArrayName.{ArrayName}
use Rattle.rl_arrays.specs.Sizes.{shares}
use Rattle.rl_arrays.specs.Section.{line_text, last_line, head_lines, entry_line, array_line, elements, printed, entries, section_lines, section}
use Rattle.rl_arrays.specs.Valid.{Valid}
use Rattle.rl_cread.specs.Contents.{HasNumbers}
use Rattle.rl_cread.specs.Sections.{lines_of, IsFirst}
use Rattle.rl_cread.proofs.Lacking.{Lacks}
use Rattle.rl_cread.proofs.Marking.{one_mark}
use Rattle.rl_cread.proofs.PrintLaws.{valid_prints}
use Rattle.rl_cdata.specs.Printed.{EndsLine}
use Rattle.rl_cdata.proofs.Newlines.{lines_lack}
use Rattle.rl_cdata.proofs.ReadLaws.{lines_front, lines_behind, lines_are}

-- no line begins a section that is sought
abbrev pub NoneIn : Option (List ℕ) → List (List ℕ) → Type 0
NoneIn machine lines = AllByRecursion (λ line. IsFirst machine line → ⊥) lines

pub none_at : (machine : Option (List ℕ)) (lines : List (List ℕ)) → NoneIn machine lines → (k : ℕ)
    → IfSome (slice_get lines k) (λ line. IsFirst machine line → ⊥)
none_at machine [] h k = tt
none_at machine (l ∷ lines) h zero = h.0
none_at machine (l ∷ lines) h (suc k) = none_at machine lines h.1 k

pub none_from : (machine : Option (List ℕ)) (lines : List (List ℕ)) → ((k : ℕ) → IfSome (slice_get lines k) (λ line. IsFirst machine line → ⊥))
    → NoneIn machine lines
none_from machine [] h = tt
none_from machine (l ∷ lines) h = (h 0, none_from machine lines (λ k. h (suc k)))

none_append : (machine : Option (List ℕ)) (xs ys : List (List ℕ)) → NoneIn machine xs → NoneIn machine ys → NoneIn machine (xs ++ ys)
none_append machine [] ys h k = k
none_append machine (x ∷ xs) ys h k = (h.0, none_append machine xs ys h.1 k)

-- what begins no section at all begins none that is sought
any_first : (machine : Option (List ℕ)) (line : List ℕ) → IsFirst machine line → IsFirst None line
any_first machine line h = record { shared = h.shared; name = h.name; marks = record { formed = h.marks.formed; sought = tt; is = h.marks.is } }

pub none_any : (machine : Option (List ℕ)) (lines : List (List ℕ)) → NoneIn None lines → NoneIn machine lines
none_any machine [] h = tt
none_any machine (l ∷ lines) h = (λ f. h.0 (any_first machine l f), none_any machine lines h.1)

-- ---- texts one behind the other

pub none_behind : (machine : Option (List ℕ)) (before text : List ℕ) → EndsLine before → NoneIn machine (lines_of before) → NoneIn machine (lines_of text)
    → NoneIn machine (lines_of (before ++ text))
none_behind machine before text ends h k = subst (NoneIn machine) (sym (lines_behind before text ends)) (none_append machine (lines_of before) (lines_of text) h k)

pub ends_behind : (before text : List ℕ) → EndsLine before → EndsLine text → EndsLine (before ++ text)
ends_behind before text h (inl e) = subst EndsLine (sym (append-nil before) ∙ sym (ap (λ t. before ++ t) e)) h
ends_behind before text h (inr k) = inr (before ++ k.0, ap (λ t. before ++ t) k.1 ∙ sym (append_assoc before k.0 (10 ∷ [])))

ends_lines : (lines : List (List ℕ)) → EndsLine (flat_map line_text lines)
ends_lines [] = inl refl
ends_lines (l ∷ lines) = ends_behind (line_text l) (flat_map line_text lines) (inr (l, refl)) (ends_lines lines)

pub section_ends : (a : Arrays) → EndsLine (section a)
section_ends a = ends_lines (section_lines a)

-- ---- the lines of a section

-- a line that begins with another byte begins no section
other_byte : (machine : Option (List ℕ)) (line : List ℕ) → get_or line 0 0 ≡ 115 → IsFirst machine line → ⊥
other_byte machine line e f = (let no : 115 ≡ 47 = sym e ∙ ap (λ l. get_or l 0 0) f.marks.is in omega (arith, no))

last_is_none : (machine : Option (List ℕ)) (name : List ℕ) → IsFirst machine (last_line name) → ⊥
last_is_none machine name f = (let no : 101 ≡ 100 = ap (λ l. get_or l 6 0) f.marks.is in omega (arith, no))

entries_none : (machine : Option (List ℕ)) (name : List ℕ) (lines : List (List ℕ × ℤ)) → NoneIn machine (map (entry_line name) lines)
entries_none machine name [] = tt
entries_none machine name (e ∷ lines) = (other_byte machine (entry_line name e) refl, entries_none machine name lines)

arrays_none : (machine : Option (List ℕ)) (a : Arrays) (arrays : List ArrayName)
    → NoneIn machine (map (λ array. array_line a.name array (elements a array)) arrays)
arrays_none machine a [] = tt
arrays_none machine a (x ∷ arrays) = (other_byte machine (array_line a.name x (elements a x)) refl, arrays_none machine a arrays)

-- a section of another machine has no line that begins the one sought
own_lines : (name : List ℕ) (a : Arrays) → (name ≡ a.name → ⊥) → NoneIn (Some name) (section_lines a)
own_lines name a other =
    subst (NoneIn (Some name)) (sym (lines_are a))
    (none_append (Some name) (head_lines a) _ (
      λ f. other (f.marks.sought ∙ sym (one_mark (shares a) f.shared a.name f.name f.marks.is).1),
      (
        other_byte (Some name) _ refl,
        (other_byte (Some name) _ refl, (other_byte (Some name) _ refl, (other_byte (Some name) _ refl, tt))),
      ),
    )
    (none_append (Some name) (map (entry_line a.name) (entries a)) _ (entries_none (Some name) a.name (entries a))
    (none_append (Some name) (map (λ array. array_line a.name array (elements a array)) (printed (shares a))) _ (arrays_none (Some name) a (printed (shares a)))
    (last_is_none (Some name) a.name, tt))))

pub other_section : (name : List ℕ) (a : Arrays) → Valid a → HasNumbers a → (name ≡ a.name → ⊥) → NoneIn (Some name) (lines_of (section a))
other_section name a valid numbers other =
    let lack = subst (AllByRecursion (Lacks 10)) (sym (lines_are a)) (lines_lack a (entries a) (valid_prints a valid numbers)) in
    let is : lines_of (section a) ≡ section_lines a =
    ap lines_of (sym (append-nil (section a))) ∙ lines_front (section_lines a) [] lack ∙ append-nil (section_lines a) in
    subst (NoneIn (Some name)) (sym is) (own_lines name a other)
