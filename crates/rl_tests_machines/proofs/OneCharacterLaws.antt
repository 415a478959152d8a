-- The Spec of `main := 'a';` is well-formed.
use Rattle.std.proofs.Common.{◌<◌, ◌≤◌, ◌↔◌, IsTrue, IsSome, IfSome, List, [], ◌∷◌, length, pos, refl, arith}
use Rattle.std.specs.List.{All}
use Rattle.std.proofs.lemmas.List.Elements.{All-from_recursion}
use Rattle.rl_types.specs.declared.alphabet.Alphabet.TheVariants.{Char}
use Rattle.rl_types.specs.declared.numbers.Place.{Place}
use Rattle.rl_types.specs.KeyRange.{Range}
use Rattle.rl_run.specs.declared.statements.Statement.{Statement}
use Rattle.rl_arrays.specs.Names.{is_name, is_action_name}
use Rattle.rl_arrays.specs.Statements.{names_entry}
use Rattle.rl_model.specs.declared.spec.ActionDef.{ActionDef}
use Rattle.rl_model.specs.declared.spec.Entry as rust_entry
use Rattle.rl_model.specs.Counts.{root_size, root_depth}
use Rattle.rl_model.specs.Specification.{Root, root_of}
use Rattle.rl_model.specs.WellFormed.{IsNumber, HasNoStatement, HasPatterns, HasPlaces, IsCodeRead, IsInAlphabet, IsWellFormed, outer_statements}
use Rattle.rl_tests_machines.specs.OneCharacter.{main_entry, one_character}

none : {A : Type 0} (P : A → Type 0) → All P []
none P = All-from_recursion P [] tt

one : {A : Type 0} (P : A → Type 0) (x : A) → P x → All P (x ∷ [])
one P x h = All-from_recursion P (x ∷ []) (h, tt)

abbrev small_a : Range
small_a = record { lo = pos 97; hi = pos 97 }

abbrev place : Place
place = record { file = 0; line = 1; col = 9 }

pub well_formed : IsWellFormed one_character
well_formed = record {
  some_entry = omega arith;
  few_entries = omega arith;
  few_actions = omega arith;
  few_conditions = omega arith;
  entries_differ = (λ i. i, tt);
  actions_differ = tt;
  conditions_differ = tt;
  machine_name = refl;
  entry_names = one (λ (e : rust_entry.Entry). IsTrue (is_name e.name)) main_entry refl;
  action_names = none (λ (a : ActionDef). IsTrue (is_action_name a.name));
  actions_exist = none (IsNumber 0);
  condition_actions_exist = none (IsNumber 0);
  conditions_exist = none (IsNumber 0);
  entries_exist = none (λ (s : Statement). IfSome s.entry (λ e. IsNumber 1 e.0));
  files_exist = one (λ (p : Place). p.file < 1) place (omega arith);
  keys_in_alphabet = one (All (IsInAlphabet Char)) (small_a ∷ []) (one (IsInAlphabet Char) small_a refl);
  few_ranges = one (λ (ranges : List Range). length ranges ≤ 256) (small_a ∷ []) (omega arith);
  few_nodes = one (λ (x : Root). root_size x ≤ 100000) (root_of main_entry.root) (omega arith);
  not_deep = one (λ (x : Root). root_depth x ≤ 2000) (root_of main_entry.root) (omega arith);
  stamps = none (IsNumber 100000);
  places = one HasPlaces main_entry refl;
  patterns = one HasPatterns (root_of main_entry.root) tt;
  codes = none (IsCodeRead one_character);
  statement_entries = none (λ (s : Statement). IsSome s.entry ↔ IsTrue (names_entry s.kind));
  few_outer = none (λ (a : ActionDef). outer_statements a.statements ≤ 4);
  quiet = none (HasNoStatement []);
}
