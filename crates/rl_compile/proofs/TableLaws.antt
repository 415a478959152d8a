-- The tables of machines, one machine after another.
use Rattle.std.proofs.Common.{◌≡◌, ◌∙◌, ◌<◌, inl, inr, suc, Bool, true, false, List, [], ◌∷◌, ◌++◌, map, length, reverse, All, Option, Some, None, sym, ap, subst, arith, append_assoc, append-nil}
use Rattle.std.proofs.lemmas.List.{map-append, reverse-reverse}
use Rattle.rl_arrays.specs.declared.arrays.Arrays.{Arrays}
use Rattle.rl_model.specs.declared.spec.Spec.{Spec}
use Rattle.rl_model.specs.RefusedNode.{IsBuildable}
use Rattle.rl_includes.specs.declared.unrolled.Stop.{Stop}
use Rattle.rl_printed.specs.Printed.{marking}
use Rattle.rl_resolve.specs.Answers.{IsFormed}
use Rattle.rl_resolve.proofs.MachineLaws.{reversed_more}
use Rattle.rl_compile.specs.declared.fault.CompileFault.{CompileFault}
use Rattle.rl_compile.specs.Sources.{IsUnbuilt}
use Rattle.rl_compile.specs.Sections.{Because}
use Rattle.rl_compile.specs.Printing.{AreTables, FirstUnbuilt, is_built}
use Rattle.rl_compile.specs.Reads.{HasTablesAlone, IsUnbuiltAlone}
use Rattle.rl_compile.proofs.ReadLaws.{because}

-- these tables are made for the first machines, and these are the machines behind them
pub record AreBefore (specs rest : List Spec) (found : List (Option Arrays)) : Type 0 where
  pub formed : All IsFormed rest
  pub made : (ts : List (Option Arrays)) → AreTables rest ts → AreTables specs (found ++ ts)
  pub refused : (s : Stop) → FirstUnbuilt rest s → FirstUnbuilt specs s

pub at_start : (specs : List Spec) → All IsFormed specs → AreBefore specs specs []
at_start specs formed = record { formed = formed; made = λ ts h. h; refused = λ s h. h }

formed_first : (x : Spec) (xs : List Spec) → All IsFormed (x ∷ xs) → IsFormed x
formed_first x xs formed = formed 0 x (let some : 0 < length (x ∷ xs) = omega arith in some)

formed_behind : (x : Spec) (xs : List Spec) → All IsFormed (x ∷ xs) → All IsFormed xs
formed_behind x xs formed i d b = formed (suc i) d (omega (arith, b))

pub next_formed : (specs rest xs : List Spec) (x : Spec) (found : List (Option Arrays)) → rest ≡ x ∷ xs → AreBefore specs rest found → IsFormed x
next_formed specs rest xs x found is h = formed_first x xs (subst (All IsFormed) is h.formed)

-- tables more
one_more : (x : Spec) (xs : List Spec) (t : Option Arrays) (ts : List (Option Arrays)) → HasTablesAlone x t → AreTables xs ts → AreTables (x ∷ xs) (t ∷ ts)
one_more x xs (Some a) ts h k = (h.0, h.1, h.2, k)
one_more x xs None ts h k = (h, k)

not_both : (b : Bool) → b ≡ true → b ≡ false → ⊥
not_both b e f = cc

none_unbuilt : (x : Spec) (t : Option Arrays) → HasTablesAlone x t → is_built x ≡ true → IsBuildable x
none_unbuilt x (Some a) h e = h.1
none_unbuilt x None h e = absurd (not_both (is_built x) e h)

pub next_made : (specs rest xs : List Spec) (x : Spec) (found more : List (Option Arrays)) (t : Option Arrays) → rest ≡ x ∷ xs → more ≡ found ++ t ∷ [] →
    HasTablesAlone x t →
    AreBefore specs rest found → AreBefore specs xs more
next_made specs rest xs x found more t is put here h = record {
  formed = formed_behind x xs (subst (All IsFormed) is h.formed);
  made = λ ts k.
      subst (AreTables specs) (sym (ap (λ z. z ++ ts) put ∙ append_assoc found (t ∷ []) ts))
      (h.made (t ∷ ts) (subst (λ z. AreTables z (t ∷ ts)) (sym is) (one_more x xs t ts here k)));
  refused = λ s k. h.refused s (subst (λ z. FirstUnbuilt z s) (sym is) (inr (none_unbuilt x t here, k)));
}

-- all of them
pub all_made : (specs rest : List Spec) (found : List (Option Arrays)) → length rest ≡ 0 → AreBefore specs rest found → AreTables specs found
all_made specs [] found is h = subst (AreTables specs) (append-nil found) (h.made [] tt)
all_made specs (x ∷ xs) found is h = absurd (omega (arith, is))

-- a machine that is refused
pub next_refused : (specs rest xs : List Spec) (x : Spec) (found : List (Option Arrays)) (e : CompileFault) → rest ≡ x ∷ xs →
    Because (IsUnbuiltAlone x) e → AreBefore specs rest found →
    Because (FirstUnbuilt specs) e
next_refused specs rest xs x found e is p h =
    because (IsUnbuiltAlone x) (FirstUnbuilt specs) (λ s k. h.refused s (subst (λ z. FirstUnbuilt z s) (sym is) (inl k))) e p

-- ---- Specs whose frames are marked, from the last on

pub marked_more : (marked : Bool) (taken rest found more whole : List Spec) (x : Spec) → taken ≡ rest ++ x ∷ [] → more ≡ found ++ marking marked x ∷ [] →
    found ++ reverse (map (marking marked) taken) ≡ whole → more ++ reverse (map (marking marked) rest) ≡ whole
marked_more marked taken rest found more whole x is put h =
    reversed_more (map (marking marked) taken) (map (marking marked) rest) found more (marking marked x) whole (ap (map (marking marked)) is ∙ map-append (marking marked) rest (x ∷ [])) put h

pub marked_all : (marked : Bool) (specs rest found seen : List Spec) → rest ≡ [] →
    found ++ reverse (map (marking marked) rest) ≡ reverse (map (marking marked) specs) → seen ≡ reverse found →
    seen ≡ map (marking marked) specs
marked_all marked specs rest found seen none h is =
    is ∙ (ap reverse (sym (append-nil found) ∙ (ap (λ z. found ++ reverse (map (marking marked) z)) (sym none) ∙ h)) ∙ reverse-reverse (map (marking marked) specs))

-- ---- one machine

pub alone_refused : (spec : Spec) (e : CompileFault) → is_built spec ≡ true → Because (IsUnbuilt spec) e → Because (IsUnbuiltAlone spec) e
alone_refused spec e b p = because (IsUnbuilt spec) (IsUnbuiltAlone spec) (λ s h. (b, h)) e p
