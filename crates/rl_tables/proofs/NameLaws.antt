-- How many names there are, and the start entry.
use Rattle.std.proofs.Common.{◌≡◌, ℕ, zero, suc, ◌<◌, ◌≤◌, ◌^◌, true, List, [], length, get_or, Option, Some, None, refl, sym, ◌∙◌, subst, arith}
use Rattle.std.proofs.lemmas.List.Quantifiers.{position-Some}
use Rattle.std.proofs.lemmas.Option.{slice_get-get_or}
use Rattle.std.specs.Prelude.{codes, unwrap_or}
use Rattle.std.specs.List.{position}
use Rattle.std.specs.Str.{bytes_eq}
use Rattle.rl_arrays.specs.declared.arrays.Arrays.{Arrays}
use Rattle.rl_arrays.specs.declared.arrays.ArrayName.TheVariants as the
use Rattle.rl_arrays.specs.Names.{is_name}
use Rattle.rl_arrays.specs.Rules.{NameSays, start_entry}
use Rattle.rl_arrays.specs.Valid.{Valid}
use Rattle.rl_tables.specs.Steps.{IsEntryNumber}
use Rattle.rl_tables.proofs.Elements.{right, has-due, element, if_at}

module _ (a : Arrays) (valid : Valid a) where
  pub entries_few : length a.entry_names < 2 ^ 32
  entries_few = let e = has-due a valid the.EntryNames in omega arith

  pub conditions_few : length a.cond_names < 2 ^ 8
  conditions_few = let e = has-due a valid the.CondNames in omega arith

  pub start_exists : IsEntryNumber a (start_entry a)
  start_exists = go (position (bytes_eq (codes "main")) a.entry_names) refl
    where
      some_entry : 2 ≤ length a.entry_names
      some_entry = let e = has-due a valid the.EntryNames in omega arith

      first_empty : get_or a.entry_names 0 [] ≡ []
      first_empty =
          let x = element a.entry_names 0 (omega (arith, some_entry)) in
          let r = right a valid the.EntryNames 0 (omega (arith, some_entry)) in
          let empty = (if_at a.entry_names 0 x.0 (NameSays is_name a.entry_names 0) x.1 r.says).empty refl in
          let at = slice_get-get_or a.entry_names 0 [] (omega (arith, some_entry)) in
          inside (get_or a.entry_names 0 []) x.0 (sym at ∙ x.1) ∙ empty
        where
          inside : (u v : List ℕ) → Some u ≡ Some v → u ≡ v
          inside u v e = cc

      go : (o : Option ℕ) → position (bytes_eq (codes "main")) a.entry_names ≡ o → IsEntryNumber a (unwrap_or o 1)
      go None e = (omega arith, some_entry)
      go (Some zero) e =
          let w = position-Some (bytes_eq (codes "main")) a.entry_names 0 [] e in
          absurd (no (subst (λ name. bytes_eq (codes "main") name ≡ true) first_empty w.1))
        where
          no : bytes_eq (codes "main") [] ≡ true → ⊥
          no e = cc
      go (Some (suc i)) e =
          let w = position-Some (bytes_eq (codes "main")) a.entry_names (suc i) [] e in
          (omega arith, w.0)
