-- The new arrays have the look-ups of the old ones.
use Rattle.std.proofs.Common.{◌≡◌, ℕ, ◌+◌, ◌<◌, ℤ, List, [], ◌∷◌, Option, Some, None, refl, sym, ap, ◌∙◌, subst, arith, nat_eq}
use Rattle.std.specs.Prelude.{option_and_then, int_le, pos}
use Rattle.std.specs.List.{AllByRecursion}
use Rattle.std.specs.Option.{option_map, option_map_or}
use Rattle.std.proofs.lemmas.List.{map-id}
use Rattle.rl_run.specs.Machine.{Go}
use Rattle.rl_run.specs.Twin.{Agrees, ListR, GoR}
use Rattle.rl_arrays.specs.declared.arrays.Arrays.{Arrays}
use Rattle.rl_arrays.specs.Words.{number_at}
use Rattle.rl_arrays.specs.Valid.{Valid}
use Rattle.rl_arrays.specs.Shared.{upgraded}
use Rattle.rl_arrays.specs.TableMachine.{machine, asked, find, cell_within, cell_used, step_of, asked_bits, entry_number, list_of}
use Rattle.rl_tables.proofs.Asked.{entry_within}
use Rattle.rl_tables.proofs.Places.{asks_byte}
use Rattle.rl_upgrade.specs.Shows.{ShowsSame}
use Rattle.rl_upgrade.proofs.OldLaws.{places, use_within}
use Rattle.rl_upgrade.proofs.NewLaws.{b, asks_same, step_same}

module _ (a : Arrays) (valid : Valid a) where
  abbrev new : Arrays
  new = b a valid

  abbrev Same : ℕ → ℕ → Type 0
  Same state other = other ≡ state

  abbrev itself : ℕ → ℕ
  itself action = action

  asked_same : (s : ℕ) (key : ℤ) → asked new s key ≡ asked a s key
  asked_same s key = by (cell_within a s key) refl
    where
      of : Arrays → Option ℕ → ℕ
      of x o = option_map_or (λ c. number_at x.cell_asks c) (option_map (λ c. cell_used x (number_at a.cell_offsets s + c)) o) 0

      by : (o : Option ℕ) → cell_within a s key ≡ o → asked new s key ≡ asked a s key
      by None e = ap (of new) e ∙ sym (ap (of a) e)
      by (Some i) e = ap (of new) e ∙ asks_same a valid (number_at a.cell_offsets s + i) (use_within a valid s key i e) ∙ sym (ap (of a) e)

  find_same : (s : ℕ) (key : ℤ) (hold : ℕ) → find new s key hold ≡ find a s key hold
  find_same s key hold = by (cell_within a s key) refl
    where
      entry : Arrays → ℕ → ℕ
      entry x c = number_at x.cell_entries c + entry_number (asked_bits (number_at x.cell_asks c)) hold

      of : Arrays → Option ℕ → Option (Go ℕ)
      of x o = option_and_then (step_of x) (option_map (entry x) (option_map (λ c. cell_used x (number_at a.cell_offsets s + c)) o))

      at_use : (p : ℕ) → p < (places a valid).uses → step_of new (entry new (cell_used new p)) ≡ step_of a (entry a (cell_used a p))
      at_use p lt =
          let cell = cell_used a p in
          let less = (places a valid).within p lt in
          let len = (places a valid).asks in
          let few = asks_byte a valid cell (omega (arith, less, len)) in
          let within = entry_within (number_at a.cell_asks cell) hold few in
          ap (λ asks. step_of new (number_at new.cell_entries (cell_used new p) + entry_number (asked_bits asks) hold)) (asks_same a valid p lt)
          ∙ step_same a valid p (entry_number (asked_bits (number_at a.cell_asks cell)) hold) lt within

      by : (o : Option ℕ) → cell_within a s key ≡ o → find new s key hold ≡ find a s key hold
      by None e = ap (of new) e ∙ sym (ap (of a) e)
      by (Some i) e = ap (of new) e ∙ at_use (number_at a.cell_offsets s + i) (use_within a valid s key i e) ∙ sym (ap (of a) e)

  all_agree : (xs : List ℕ) → AllByRecursion (Agrees (machine a) (machine new) itself Same) xs
  unfolding machine
  all_agree [] = tt
  all_agree (x ∷ xs) = ((λ n. refl, refl), all_agree xs)

  list_twin : (xs : List ℕ) → ListR (machine a) (machine new) itself Same xs xs
  list_twin xs = (sym (map-id xs), all_agree xs)

  go_twin : (o : Option (Go ℕ)) → GoR (machine a) (machine new) itself Same o o
  go_twin None = tt
  go_twin (Some g) = (refl, list_twin g.list)

  find_twin : (s : ℕ) (key : ℤ) (hold : ℕ) → GoR (machine a) (machine new) itself Same (find a s key hold) (find new s key hold)
  find_twin s key hold = subst (λ o. GoR (machine a) (machine new) itself Same (find a s key hold) o) (sym (find_same s key hold)) (go_twin (find a s key hold))

  list_at : (numbers : List ℤ) (q p : ℕ) → p ≡ q → ListR (machine a) (machine new) itself Same (list_of a numbers q) (list_of a numbers p)
  list_at numbers q p e = subst (λ k. ListR (machine a) (machine new) itself Same (list_of a numbers q) (list_of a numbers k)) (sym e) (list_twin (list_of a numbers q))

  pub new_twin : ShowsSame a new
  unfolding machine
  new_twin = record {
    width = refl;
    key_of = λ character. refl;
    asked = λ q p key e. ap (λ n. asked new n key.0) e ∙ asked_same q key.0;
    find = λ q p key hold e. subst (λ n. GoR (machine a) (machine new) itself Same (find a q key.0 hold) (find new n key.0 hold)) (sym e) (find_twin q key.0 hold);
    from = list_at a.from_lists;
    to = list_at a.to_lists;
    error = list_at a.error_lists;
    eof = list_at a.eof_lists;
    token = list_at a.accept_lists;
    kind = λ q p e. ap (number_at a.state_kinds) e;
    final = λ q p e. ap (λ n. int_le a.first_final (pos n)) e;
    home = λ q p e. ap (number_at a.homes) e;
    failed = refl;
    is_failed = λ q p e. ap (λ n. nat_eq n 0) e;
    condition_name = λ c. refl;
    entry_name = λ e. refl;
    entry = λ e. refl;
  }

  pub upgraded_twin : ShowsSame a (upgraded a)
  unfolding upgraded
  upgraded_twin = new_twin
