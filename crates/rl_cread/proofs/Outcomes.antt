-- From the lines of a section to what is said of the text.
use Rattle.std.proofs.Common.{◌≡◌, ◌+◌, ℕ, Bool, zero, suc, List, [], ◌∷◌, ◌++◌, drop, Option, Some, sym, ap, ◌∙◌, subst, refl, arith}
use Rattle.std.specs.Prelude.{slice_get, Result, Ok, Err, IfOk, IfErr}
use Rattle.rl_arrays.specs.declared.arrays.Arrays.{Arrays}
use Rattle.rl_arrays.specs.declared.arrays.BadValue.{BadValue}
use Rattle.rl_arrays.specs.Section.{first_line, entries, section_lines}
use Rattle.rl_arrays.specs.Valid.{Valid}
use Rattle.rl_cread.specs.declared.fault.TableFault.{TableFault}
use Rattle.rl_cread.specs.declared.fault.TableFault.TheVariants as the
use Rattle.rl_cread.specs.Sections.{version_text, lines_of, lines_with, IsRead, IsBadLine, IsBadText, IsBadSection, Explains}
use Rattle.rl_cread.specs.Found.{IsFound}
use Rattle.rl_cread.specs.Outcome.{IsStopped, IsReadAt, IsBadAtValue, IsRefusedAt}
use Rattle.rl_cread.proofs.ValueLaws.{entries_are}
use Rattle.rl_cread.proofs.ReadingLaws.{reads_stands, stops_bad}

pub drop_at : (lines : List (List ℕ)) (at : ℕ) (line : List ℕ) → slice_get lines at ≡ Some line → drop at lines ≡ line ∷ drop (at + 1) lines
drop_at [] at line e = absurd cc
drop_at (l ∷ lines) zero line e = let a : l ≡ line = cc in ap (λ t. t ∷ lines) a
drop_at (l ∷ lines) (suc at) line e = let n : suc (at + 1) ≡ suc at + 1 = omega arith in drop_at lines at line e ∙ ap (λ m. line ∷ drop m (l ∷ lines)) n

pub section_is : (a : Arrays) → section_lines a ≡ lines_with a (entries a)
unfolding section_lines
section_is a = refl

pub read_is : (machine : Option (List ℕ)) (text : List ℕ) (v : Bool) (name : List ℕ) (at : ℕ) (a : Arrays)
    → IsFound machine (lines_of text) at v name → IsReadAt v name (lines_of text) at a → IsRead machine text a
read_is machine text v name at a f r =
    let s = reads_stands v name (drop (at + 1) (lines_of text)) r.raw f.formed r.reads in
    record {
      at = at;
      begins = f.begins;
      behind = s.behind;
      lines = drop_at (lines_of text) at (first_line (version_text v) name) f.is ∙ s.is
          ∙ ap (λ es. lines_with r.raw.arrays es ++ s.behind) (entries_are r.raw.arrays r.raw.entries (subst Valid r.sound.same r.sound.valid) r.sound.agree)
          ∙ ap (λ b. lines_with b (entries b) ++ s.behind) (sym r.sound.same) ∙ ap (λ t. t ++ s.behind) (sym (section_is a));
    }

text_is : (machine : Option (List ℕ)) (text : List ℕ) (v : Bool) (name : List ℕ) (at line : ℕ) → IsFound machine (lines_of text) at v name
    → IsStopped v name (lines_of text) at line → IsBadText machine text line
text_is machine text v name at line f s =
    let e = s.is in
    record {
      at = at;
      begins = f.begins;
      place = s.place + 1;
      bad = subst (λ ls. IsBadLine ls (s.place + 1)) (sym (drop_at (lines_of text) at (first_line (version_text v) name) f.is)) (stops_bad v name (drop (at + 1) (lines_of text)) s.place f.formed s.stops);
      is = omega (arith, e);
    }

value_is : (machine : Option (List ℕ)) (text : List ℕ) (v : Bool) (name : List ℕ) (at : ℕ) (value : BadValue)
    → IsFound machine (lines_of text) at v name → IsBadAtValue v name (lines_of text) at value → IsBadSection machine text value
value_is machine text v name at value f b =
    let s = reads_stands v name (drop (at + 1) (lines_of text)) b.raw f.formed b.reads in
    record {
      at = at;
      begins = f.begins;
      arrays = b.raw.arrays;
      entries = b.raw.entries;
      fits = s.fits;
      behind = s.behind;
      lines = drop_at (lines_of text) at (first_line (version_text v) name) f.is ∙ s.is;
      bad = b.unsound;
    }

fault_is : (machine : Option (List ℕ)) (text : List ℕ) (v : Bool) (name : List ℕ) (at : ℕ) (fault : TableFault)
    → IsFound machine (lines_of text) at v name → IsRefusedAt v name (lines_of text) at fault → Explains machine text fault
fault_is machine text v name at the.NoSection f r = absurd r
fault_is machine text v name at (the.BadText line) f r = text_is machine text v name at line f r
fault_is machine text v name at (the.BadValue value) f r = value_is machine text v name at value f r
fault_is machine text v name at the.Memory f r = tt

pub read_result : (machine : Option (List ℕ)) (text : List ℕ) (v : Bool) (name : List ℕ) (at : ℕ) (r : Result Arrays TableFault)
    → IsFound machine (lines_of text) at v name → IfOk r (IsReadAt v name (lines_of text) at) → IfOk r (IsRead machine text)
read_result machine text v name at (Ok a) f h = read_is machine text v name at a f h
read_result machine text v name at (Err e) f h = tt

pub told_result : (machine : Option (List ℕ)) (text : List ℕ) (v : Bool) (name : List ℕ) (at : ℕ) (r : Result Arrays TableFault)
    → IsFound machine (lines_of text) at v name → IfErr r (IsRefusedAt v name (lines_of text) at) → IfErr r (Explains machine text)
told_result machine text v name at (Ok a) f h = tt
told_result machine text v name at (Err e) f h = fault_is machine text v name at e f h
