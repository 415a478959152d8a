-- The entries that statements name in valid arrays.
use Rattle.std.proofs.Common.{◌≡◌, ℕ, Bool, true, false, Some, None, refl, sym, subst, arith}
use Rattle.std.proofs.lemmas.Int.{ints}
use Rattle.std.proofs.lemmas.Option.{slice_get_within}
use Rattle.std.specs.Prelude.{ℤ, pos, slice_get, unwrap_or, option_and_then, IfSome, IsTrue, if◌then◌else◌}
use Rattle.rl_types.specs.declared.numbers.EntryId.{EntryId}
use Rattle.rl_run.specs.declared.statements.StatementKind.{StatementKind}
use Rattle.rl_arrays.specs.declared.arrays.Arrays.{Arrays}
use Rattle.rl_arrays.specs.declared.arrays.ArrayName.TheVariants as the
use Rattle.rl_arrays.specs.Words.{natural}
use Rattle.rl_arrays.specs.Statements.{kind_of, names_entry, statement_of}
use Rattle.rl_arrays.specs.Rules.{ArgumentSays, IsEntry}
use Rattle.rl_arrays.specs.Valid.{Valid}
use Rattle.rl_tables.specs.Steps.{IsId, IsEntryNumber}
use Rattle.rl_tables.proofs.Elements.{right, has-due, element, if_at, nonneg}
use Rattle.rl_tables.proofs.Places.{then_some}

module _ (a : Arrays) (valid : Valid a) where
  -- a statement that names an entry has the entry's number as its argument
  pub argument_is : (place : ℕ) (kind : StatementKind) → option_and_then kind_of (slice_get a.stmt_kinds place) ≡ Some kind → IsTrue (names_entry kind) →
      IsEntry a (unwrap_or (slice_get a.stmt_args place) (pos 0))
  argument_is place kind e names =
      let k = then_some kind_of (slice_get a.stmt_kinds place) kind e in
      let within = slice_get_within a.stmt_kinds place k.0 k.1 in
      let due = has-due a valid the.StmtArgs in
      let r = right a valid the.StmtArgs place within in
      let x = element a.stmt_args place r.there in
      let says = (if_at a.stmt_args place x.0 (ArgumentSays a place) x.1 r.says).entry in
      let here : IsEntry a x.0 = subst (λ o. IfSome o (λ kind. IsTrue (names_entry kind) → IsEntry a x.0)) e says names in
      subst (λ o. IsEntry a (unwrap_or o (pos 0))) (sym x.1) here

  pub argument_fits : (z : ℤ) → IsEntry a z → IsId z
  argument_fits z h =
      let few = has-due a valid the.EntryNames in
      let low = h.0 in
      let high = h.1 in
      (omega (arith, ints), omega (arith, ints, few))

  entry_number_is : (z : ℤ) → IsEntry a z → IsEntryNumber a (natural z)
  entry_number_is z h =
      let low = h.0 in
      let high = h.1 in
      let e = nonneg z (omega (arith, ints)) in
      (omega (arith, ints), omega (arith, ints))

  pub named_entry : (mark z base : ℤ) (kind : StatementKind) → (IsTrue (names_entry kind) → IsEntry a z) → IfSome (statement_of mark z base kind).entry (λ e. IsEntryNumber a e.0)
  named_entry mark z base kind h = go (names_entry kind) h
    where
      go : (b : Bool) → (IsTrue b → IsEntry a z) → IfSome (if b then Some (record { 0 = natural z }) else None) (λ (e : EntryId). IsEntryNumber a e.0)
      go false h = tt
      go true h = entry_number_is z (h refl)
