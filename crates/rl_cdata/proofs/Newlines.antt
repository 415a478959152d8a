-- No line of a section has a newline in it.
use Rattle.std.proofs.Common.{◌≡◌, ◌≢◌, ◌<◌, ◌==◌, ◌||◌, ◌&&◌, ◌^◌, ◌+◌, ◌*◌, ◌-◌, length, get_or, ℕ, suc, List, [], ◌∷◌, ◌++◌, map, Bool, true, false, sym, ap, ◌∙◌, refl, arith, rules}
use Rattle.std.specs.Prelude.{IsTrue, ℤ, pos, negsuc, cond, not, codes}
use Rattle.std.specs.List.{AllByRecursion, slice_split, onto_first, list_all, flat_map}
use Rattle.std.specs.Fmt.{decimal, signed_decimal}
use Rattle.std.specs.Str.{all_ascii_digits}
use Rattle.std.proofs.lemmas.Str.Parse.{IsNumeralModel, numerals_by_fold, not_in_digits}
use Rattle.std.proofs.lemmas.Fmt.{digits_decimal}
use borrow.Author.Tests.{ne_eqb}
use Rattle.rl_arrays.specs.declared.arrays.Arrays.{Arrays}
use Rattle.rl_arrays.specs.declared.arrays.ArrayName.{ArrayName}
use Rattle.rl_arrays.specs.declared.arrays.ArrayName.TheVariants as the
use Rattle.rl_arrays.specs.Names.{is_digit, is_name, is_number, is_place, parts, are_numbers}
use Rattle.rl_arrays.specs.Sizes.{shares}
use Rattle.rl_arrays.specs.Section.{quoted, comma, joined, word, ctype, elements, first_line, last_line, number_front, number_back, number_line, entry_line, array_front, array_back, array_line, version_word, head_lines, printed}
use Rattle.rl_cread.specs.Contents.{content, Fits, IsPrintable, IsPrintedNumber, IsPrintedName, IsPrintedEntry}
use Rattle.rl_cread.specs.Sections.{lines_with}
use Rattle.rl_cread.proofs.Lacking.{Lacks, Lacks-nil, Lacks-cons, Lacks-append, lacks_tested, name_lacks}

literal : (text : List ℕ) → list_all (λ b. not (b == 10)) text ≡ true → Lacks 10 text
literal text h = lacks_tested 10 (λ b. not (b == 10)) refl text h

-- ---- numbers

abbrev read_on : ℕ → List ℕ → ℕ
read_on n [] = n
read_on n (c ∷ cs) = read_on (10 * n + (c - 48)) cs

own : IsNumeralModel (λ ds. all_ascii_digits ds ≡ true) (read_on 0)
own = numerals_by_fold _ (search rules) read_on (search rules)

lacks_each : (c : ℕ) (bs : List ℕ) → ((i : ℕ) → i < length bs → get_or bs i 0 ≢ c) → Lacks c bs
lacks_each c [] h = Lacks-nil c
lacks_each c (b ∷ bs) h = Lacks-cons c b bs (ne_eqb b c (h 0 (omega arith))) (lacks_each c bs (λ i lt. h (suc i) (omega arith)))

decimal_lacks : (n : ℕ) → n < 2 ^ 64 → Lacks 10 (decimal n)
decimal_lacks n lt = lacks_each 10 (decimal n) (not_in_digits own (decimal n) 10 (digits_decimal own n lt) (λ r. omega (arith, r)))

number_lacks : (z : ℤ) → IsPrintedNumber z → Lacks 10 (signed_decimal z)
number_lacks (pos n) h = let k = h.sfits in decimal_lacks n (omega (arith, k))
number_lacks (negsuc n) h = let k = h.sfits in Lacks-cons 10 45 (decimal (suc n)) refl (decimal_lacks (suc n) (omega (arith, k)))

-- ---- names

and_both : (a b : Bool) → (a && b) ≡ true → (a ≡ true) × (b ≡ true)
and_both true b e = (refl, e)
and_both false b e = absurd cc

numeral_lacks : (bs : List ℕ) → is_number bs ≡ true → Lacks 10 bs
numeral_lacks [] h = Lacks-nil 10
numeral_lacks (b ∷ []) h = Lacks-cons 10 b [] (ne_eqb b 10 (λ e. let t : false ≡ true = sym (ap is_digit e) ∙ h in absurd cc)) (Lacks-nil 10)
numeral_lacks (b ∷ c ∷ bs) h =
    let k = and_both (is_digit b && not (b == 48)) (list_all is_digit (c ∷ bs)) h in
    let j = and_both (is_digit b) (not (b == 48)) k.0 in
    Lacks-cons 10 b (c ∷ bs) (ne_eqb b 10 (λ e. let t : false ≡ true = sym (ap is_digit e) ∙ j.0 in absurd cc)) (lacks_tested 10 is_digit refl (c ∷ bs) k.1)

numerals_lack : (ps : List (List ℕ)) → list_all is_number ps ≡ true → AllByRecursion (Lacks 10) ps
numerals_lack [] h = tt
numerals_lack (p ∷ ps) h = let k = and_both (is_number p) (list_all is_number ps) h in (numeral_lacks p k.0, numerals_lack ps k.1)

onto_lacks : (b : ℕ) (ps : List (List ℕ)) → AllByRecursion (Lacks 10) (onto_first b ps) → ((b == 10) ≡ false) × AllByRecursion (Lacks 10) ps
onto_lacks b [] h = (h.0.each.0, tt)
onto_lacks b (p ∷ ps) h = (h.0.each.0, (record { each = h.0.each.1 }, h.1))

part_lacks : (b : ℕ) (bs : List ℕ) (t : Bool) → (b == 58) ≡ t → (AllByRecursion (Lacks 10) (slice_split (λ c. c == 58) bs) → Lacks 10 bs)
    → AllByRecursion (Lacks 10) (cond t ([] ∷ slice_split (λ c. c == 58) bs) (onto_first b (slice_split (λ c. c == 58) bs))) → Lacks 10 (b ∷ bs)
part_lacks b bs true e rest h = Lacks-cons 10 b bs (ne_eqb b 10 (λ f. let t : false ≡ true = ap (λ x. x == 58) (sym f) ∙ e in absurd cc)) (rest h.1)
part_lacks b bs false e rest h = let k = onto_lacks b (slice_split (λ c. c == 58) bs) h in Lacks-cons 10 b bs k.0 (rest k.1)

whole_lacks : (bs : List ℕ) → AllByRecursion (Lacks 10) (slice_split (λ c. c == 58) bs) → Lacks 10 bs
whole_lacks [] h = Lacks-nil 10
whole_lacks (b ∷ bs) h = part_lacks b bs (b == 58) refl (whole_lacks bs) h

place_lacks : (bs : List ℕ) → is_place bs ≡ true → Lacks 10 bs
place_lacks [] h = Lacks-nil 10
place_lacks (b ∷ bs) h =
    let k = and_both (b == 64) (are_numbers (parts bs)) h in
    let j = and_both _ (list_all is_number (parts bs)) k.1 in
    Lacks-cons 10 b bs (ne_eqb b 10 (λ f. let t : false ≡ true = sym (ap (λ x. x == 64) f) ∙ k.0 in absurd cc)) (whole_lacks bs (numerals_lack (parts bs) j.1))

word_has_none : (name : List ℕ) → IsTrue (is_name name) → Lacks 10 name
word_has_none name h = name_lacks 10 refl refl name h

action_name_lacks : (bs : List ℕ) (n : Bool) → is_name bs ≡ n → (n || is_place bs) ≡ true → Lacks 10 bs
action_name_lacks bs true e h = word_has_none bs e
action_name_lacks bs false e h = place_lacks bs h

printed_lacks : (bs : List ℕ) → IsPrintedName bs → Lacks 10 bs
printed_lacks [] h = Lacks-nil 10
printed_lacks (b ∷ bs) h = action_name_lacks (b ∷ bs) (is_name (b ∷ bs)) refl h

quoted_lacks : (name : List ℕ) → IsPrintedName name → Lacks 10 (quoted name)
quoted_lacks name h = Lacks-cons 10 34 _ refl (Lacks-append 10 name (34 ∷ []) (printed_lacks name h) (Lacks-cons 10 34 [] refl (Lacks-nil 10)))

-- ---- lines

first_lacks : (version name : List ℕ) → Lacks 10 version → Lacks 10 name → Lacks 10 (first_line version name)
first_lacks version name v n =
    Lacks-append 10 (codes "/* rl-data ") _ (literal (codes "/* rl-data ") refl)
    (Lacks-append 10 version _ v (Lacks-append 10 (codes " ") _ (literal (codes " ") refl) (Lacks-append 10 name _ n (literal (codes " */") refl))))

last_lacks : (name : List ℕ) → Lacks 10 name → Lacks 10 (last_line name)
last_lacks name n = Lacks-append 10 (codes "/* rl-end ") _ (literal (codes "/* rl-end ") refl) (Lacks-append 10 name _ n (literal (codes " */") refl))

number_line_lacks : (name label : List ℕ) (z : ℤ) → Lacks 10 name → Lacks 10 label → IsPrintedNumber z → Lacks 10 (number_line name label z)
number_line_lacks name label z n l h =
    Lacks-append 10 (number_front name label) _
    (Lacks-append 10 (codes "static const int ") _ (literal (codes "static const int ") refl)
    (Lacks-append 10 name _ n (Lacks-append 10 (codes "_") _ (literal (codes "_") refl) (Lacks-append 10 label _ l (literal (codes " = ") refl)))))
    (Lacks-append 10 (signed_decimal z) _ (number_lacks z h) (literal number_back refl))

entries_lack : (name : List ℕ) → Lacks 10 name → (lines : List (List ℕ × ℤ)) → AllByRecursion IsPrintedEntry lines → AllByRecursion (Lacks 10) (map (entry_line name) lines)
entries_lack name n [] h = tt
entries_lack name n (e ∷ lines) h = (
  number_line_lacks name (codes "en_" ++ e.0) e.1 n (Lacks-append 10 (codes "en_") e.0 (literal (codes "en_") refl) (word_has_none e.0 h.0.0)) h.0.1,
  entries_lack name n lines h.1,
)

more_lack : (texts : List (List ℕ)) → AllByRecursion (Lacks 10) texts → Lacks 10 (flat_map comma texts)
more_lack [] h = Lacks-nil 10
more_lack (t ∷ texts) h = Lacks-append 10 (comma t) _ (Lacks-append 10 (codes ", ") t (literal (codes ", ") refl) h.0) (more_lack texts h.1)

joined_lacks : (texts : List (List ℕ)) → AllByRecursion (Lacks 10) texts → Lacks 10 (joined texts)
joined_lacks [] h = Lacks-nil 10
joined_lacks (t ∷ texts) h = Lacks-append 10 t _ h.0 (more_lack texts h.1)

numbers_lack : (ns : List ℤ) → AllByRecursion IsPrintedNumber ns → AllByRecursion (Lacks 10) (map signed_decimal ns)
numbers_lack [] h = tt
numbers_lack (n ∷ ns) h = (number_lacks n h.0, numbers_lack ns h.1)

names_lack : (names : List (List ℕ)) → AllByRecursion IsPrintedName names → AllByRecursion (Lacks 10) (map quoted names)
names_lack [] h = tt
names_lack (n ∷ names) h = (quoted_lacks n h.0, names_lack names h.1)

elements_lack : (a : Arrays) (array : ArrayName) → Fits (content a array) → AllByRecursion (Lacks 10) (elements a array)
elements_lack a the.Actions h = numbers_lack a.actions h
elements_lack a the.KeyOffsets h = numbers_lack a.key_offsets h
elements_lack a the.TransKeys h = numbers_lack a.trans_keys h
elements_lack a the.SingleLengths h = numbers_lack a.single_lengths h
elements_lack a the.RangeLengths h = numbers_lack a.range_lengths h
elements_lack a the.CellOffsets h = numbers_lack a.cell_offsets h
elements_lack a the.CellUses h = numbers_lack a.cell_uses h
elements_lack a the.CellAsks h = numbers_lack a.cell_asks h
elements_lack a the.CellEntries h = numbers_lack a.cell_entries h
elements_lack a the.TransTargs h = numbers_lack a.trans_targs h
elements_lack a the.TransLists h = numbers_lack a.trans_lists h
elements_lack a the.FromLists h = numbers_lack a.from_lists h
elements_lack a the.ToLists h = numbers_lack a.to_lists h
elements_lack a the.EofLists h = numbers_lack a.eof_lists h
elements_lack a the.ErrorLists h = numbers_lack a.error_lists h
elements_lack a the.AcceptLists h = numbers_lack a.accept_lists h
elements_lack a the.StateKinds h = numbers_lack a.state_kinds h
elements_lack a the.Homes h = numbers_lack a.homes h
elements_lack a the.ActionNames h = names_lack a.action_names h
elements_lack a the.StmtFirsts h = numbers_lack a.stmt_firsts h
elements_lack a the.StmtCounts h = numbers_lack a.stmt_counts h
elements_lack a the.StmtKinds h = numbers_lack a.stmt_kinds h
elements_lack a the.StmtOuter h = numbers_lack a.stmt_outer h
elements_lack a the.StmtArgs h = numbers_lack a.stmt_args h
elements_lack a the.StmtBases h = numbers_lack a.stmt_bases h
elements_lack a the.CondNames h = names_lack a.cond_names h
elements_lack a the.EntryNames h = names_lack a.entry_names h
elements_lack a the.EntryStates h = numbers_lack a.entry_states h

ctype_lacks : (array : ArrayName) → list_all (λ b. not (b == 10)) (ctype array) ≡ true
ctype_lacks the.Actions = refl
ctype_lacks _ = refl

word_lacks : (array : ArrayName) → list_all (λ b. not (b == 10)) (word array) ≡ true
word_lacks the.Actions = refl
word_lacks _ = refl

array_lacks : (name : List ℕ) (array : ArrayName) (texts : List (List ℕ)) → Lacks 10 name → AllByRecursion (Lacks 10) texts → Lacks 10 (array_line name array texts)
array_lacks name array texts n h =
    Lacks-append 10 (array_front name array) _
    (Lacks-append 10 (codes "static ") _ (literal (codes "static ") refl)
    (Lacks-append 10 (ctype array) _ (literal (ctype array) (ctype_lacks array))
    (Lacks-append 10 (codes " _") _ (literal (codes " _") refl)
    (Lacks-append 10 name _ n
    (Lacks-append 10 (codes "_") _ (literal (codes "_") refl)
    (Lacks-append 10 (word array) _ (literal (word array) (word_lacks array)) (literal (codes "[] = { ") refl)))))))
    (Lacks-append 10 (joined texts) _ (joined_lacks texts h) (literal array_back refl))

arrays_lack : (a : Arrays) → Lacks 10 a.name → ((array : ArrayName) → Fits (content a array)) → (arrays : List ArrayName)
    → AllByRecursion (Lacks 10) (map (λ array. array_line a.name array (elements a array)) arrays)
arrays_lack a n fits [] = tt
arrays_lack a n fits (x ∷ arrays) = (array_lacks a.name x (elements a x) n (elements_lack a x (fits x)), arrays_lack a n fits arrays)

version_lacks : (shared : Bool) → Lacks 10 (cond shared (codes "2") (codes "1"))
version_lacks true = literal (codes "2") refl
version_lacks false = literal (codes "1") refl

all_behind : (xs ys : List (List ℕ)) → AllByRecursion (Lacks 10) xs → AllByRecursion (Lacks 10) ys → AllByRecursion (Lacks 10) (xs ++ ys)
all_behind [] ys h k = k
all_behind (x ∷ xs) ys h k = (h.0, all_behind xs ys h.1 k)

head_lacks : (a : Arrays) (lines : List (List ℕ × ℤ)) → IsPrintable a lines → AllByRecursion (Lacks 10) (head_lines a)
head_lacks a lines p =
    let n = word_has_none a.name p.name in (
      first_lacks (version_word a) a.name (version_lacks (shares a)) n,
      (
        number_line_lacks a.name (codes "start") a.start n (literal (codes "start") refl) p.start,
        (
          number_line_lacks a.name (codes "first_final") a.first_final n (literal (codes "first_final") refl) p.first_final,
          (
            number_line_lacks a.name (codes "error") (pos 0) n (literal (codes "error") refl) (record { sfits = omega arith }),
            (number_line_lacks a.name (codes "alphabet") a.alphabet n (literal (codes "alphabet") refl) p.alphabet, tt),
          ),
        ),
      ),
    )

-- each line of a section that can be printed
pub lines_lack : (a : Arrays) (lines : List (List ℕ × ℤ)) → IsPrintable a lines → AllByRecursion (Lacks 10) (lines_with a lines)
lines_lack a lines p =
    let n = word_has_none a.name p.name in
    all_behind (head_lines a) _ (head_lacks a lines p)
    (all_behind (map (entry_line a.name) lines) _ (entries_lack a.name n lines p.entries)
    (all_behind (map (λ array. array_line a.name array (elements a array)) (printed (shares a))) _ (arrays_lack a n p.arrays (printed (shares a))) (last_lacks a.name n, tt)))
