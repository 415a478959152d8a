-- What is printed with the tables that are made, and read back from it.
use Rattle.std.proofs.Common.{◌≡◌, ◌≤◌, ℕ, zero, suc, Bool, List, [], ◌∷◌, map, length, Option, Some, None, Ok, sym, ap, subst, arith}
use Rattle.std.specs.Prelude.{slice_get, IfSome}
use Rattle.std.proofs.lemmas.List.{length-map}
use Rattle.rl_arrays.specs.declared.arrays.Arrays.{Arrays}
use Rattle.rl_lexical.specs.Parts.{file_parts}
use Rattle.rl_lexical.specs.declared.part.Part.{Part}
use Rattle.rl_model.specs.declared.spec.Spec.{Spec}
use Rattle.rl_printed.specs.Printed.{printed, marking}
use Rattle.rl_printed.specs.Reading.{HaveOwnNames, IsReadByMachine, first_tables}
use Rattle.rl_cread.specs.Sections.{IsRead}
use Rattle.rl_printed.proofs.NameLaws.{machines_read_back}
use Rattle.rl_printed.proofs.PieceLaws.{first_read_back}
use Rattle.rl_compile.specs.Printing.{AreTables, IsPrintedOf}
use Rattle.rl_compile.specs.Reads.{PrintsWhole, PrintsParts}
use Rattle.rl_compile.proofs.NameLaws.{marked_own}

-- each machine has one place among the tables
tables_few : (specs : List Spec) (tables : List (Option Arrays)) → AreTables specs tables → length tables ≤ length specs
tables_few [] [] h = omega arith
tables_few [] (t ∷ tables) h = absurd h
tables_few (spec ∷ specs) [] h = absurd h
tables_few (spec ∷ specs) (Some a ∷ tables) h = let k = tables_few specs tables h.3 in omega arith
tables_few (spec ∷ specs) (None ∷ tables) h = let k = tables_few specs tables h.1 in omega arith

marked_at : (marked : Bool) (specs : List Spec) (i : ℕ) (spec : Spec) → slice_get specs i ≡ Some spec →
    slice_get (map (marking marked) specs) i ≡ Some (marking marked spec)
marked_at marked [] i spec e = absurd (let no : None ≡ Some spec = e in cc)
marked_at marked (s ∷ specs) zero spec e = let same : s ≡ spec = cc in ap (λ x. Some (marking marked x)) same
marked_at marked (s ∷ specs) (suc i) spec e = marked_at marked specs i spec e

-- what is read back by marked Specs is read back by the Specs
read_unmarked : (marked : Bool) (specs : List Spec) (tables : List (Option Arrays)) (text : List ℕ) →
    IsReadByMachine (map (marking marked) specs) tables text → IsReadByMachine specs tables text
read_unmarked marked specs tables text h i spec a e f writes = h i (marking marked spec) a (marked_at marked specs i spec e) f writes

-- the parts that a slice shows, and the Specs that a list holds
pub parts_printed : (marked : Bool) (text : List ℕ) (specs shown : List Spec) (tables : List (Option Arrays)) (bytes : List ℕ) (parts seen : List Part) →
    seen ≡ parts → shown ≡ map (marking marked) specs →
    file_parts 0 text ≡ Ok parts → PrintsWhole seen shown tables bytes → PrintsParts marked text specs tables bytes
parts_printed marked text specs shown tables bytes parts seen same is parted p = record {
  parts = parts;
  parted = parted;
  whole = subst (λ z. PrintsWhole z (map (marking marked) specs) tables bytes) same (subst (λ z. PrintsWhole seen z tables bytes) is p);
}

-- read back
module _ (marked : Bool) (text : List ℕ) (specs : List Spec) (tables : List (Option Arrays)) (bytes : List ℕ) (own : HaveOwnNames specs)
    (made : AreTables specs tables) (p : PrintsParts marked text specs tables bytes) where
  abbrev shown : List Spec
  shown = map (marking marked) specs

  few : length tables ≤ length shown
  few = let k = tables_few specs tables made in rw length-map k

  by_machine : IsReadByMachine specs tables bytes
  by_machine =
      subst (λ t. IsReadByMachine specs tables t) (sym p.whole.is)
      (read_unmarked marked specs tables (printed p.parts shown tables)
      (machines_read_back p.parts shown tables p.whole.hosts p.whole.sound p.whole.within few (marked_own marked specs own)))

  by_place : IfSome (first_tables p.parts shown tables) (IsRead None bytes)
  by_place =
      subst (λ t. IfSome (first_tables p.parts shown tables) (IsRead None t)) (sym p.whole.is) (first_read_back p.parts shown tables p.whole.hosts p.whole.sound)

  printed_made : IsPrintedOf marked text specs bytes
  printed_made = record {
    parts = p.parts;
    parted = p.parted;
    tables = tables;
    made = made;
    is = p.whole.is;
    hosts = p.whole.hosts;
    machines = p.whole.sound;
    read = by_machine;
    first = by_place;
  }

pub printed_seen : (marked : Bool) (text : List ℕ) (specs seen : List Spec) (tables shown_tables : List (Option Arrays)) (bytes : List ℕ) →
    seen ≡ specs → shown_tables ≡ tables → HaveOwnNames specs →
    AreTables seen tables → PrintsParts marked text specs shown_tables bytes → IsPrintedOf marked text specs bytes
printed_seen marked text specs seen tables shown_tables bytes same is own made p =
    printed_made marked text specs tables bytes own (subst (λ z. AreTables z tables) same made) (subst (λ z. PrintsParts marked text specs z bytes) is p)
