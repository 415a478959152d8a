-- Specs that say the same have the same names, and scripts are the same by them.
use Rattle.std.proofs.Common.{◌≡◌, ◌∙◌, ℕ, List, [], ◌∷◌, map, length, Option, refl, sym, ap, subst}
use Rattle.std.specs.Prelude.{◌↔◌}
use Rattle.std.proofs.lemmas.List.{length-map}
use Rattle.rl_types.specs.declared.alphabet.Alphabet.{Alphabet}
use Rattle.rl_types.specs.declared.numbers.ActionId.{ActionId}
use Rattle.rl_sets.specs.Sets.{In}
use Rattle.rl_io.specs.Outside.{Held}
use Rattle.rl_arrays.specs.declared.arrays.Arrays.{Arrays}
use Rattle.rl_run.specs.Machine.{Machine}
use Rattle.rl_run.specs.Numbers.{letters_of, IsKnown}
use Rattle.rl_model.specs.declared.spec.ActionDef.{ActionDef}
use Rattle.rl_model.specs.declared.spec.Entry as rust_entry
use Rattle.rl_model.specs.declared.spec.Spec.{Spec}
use Rattle.rl_model.specs.Specification.{Specification, specification_of}
use Rattle.rl_model.specs.Trees.{TestsOf, AreTestsHonest, HasHonestTests, tree_machine}
use Rattle.rl_replay.specs.Sessions.{Names, script_of}
use Rattle.rl_layout.specs.SpecArrays.{name_of}
use Rattle.rl_make.specs.Named.{Has}
use Rattle.rl_make.specs.Writes.{entry_names}
use Rattle.rl_resolve.specs.Descriptions.{Description, description}
use Rattle.rl_resolve.proofs.ResolveLaws.{same_specification}
use Rattle.rl_rewrite.specs.Entries.{Made, made_of}
use Rattle.rl_script.specs.TableNames.{names_in}
use Rattle.ragel_run.specs.Files.{AreUsed, AreNamesOf, IsMade, HasNames}
use Rattle.ragel_run.proofs.NameLaws.{has_same, script_alike}

-- the names of tables are those of the source that they are made for
abbrev pub made_names : (held : Held) (machine : Option (List ℕ)) (name : List ℕ) (a : Arrays) → IsMade held machine name a → HasNames held machine name (names_in a)
made_names held machine name a m = record {
  source = m.source;
  has = m.has;
  tests = m.made.tests;
  named = record { entries = m.made.entries; actions = m.made.actions; conditions = m.made.conditions };
}

-- ---- what a Spec says of names

abbrev UsedIn : {S : Type 0} → Alphabet → ℕ → Machine S → ℕ → Type 0
UsedIn {S} alphabet count m x = (q : S) × IsKnown m (letters_of alphabet) count q × Has m q x

-- the same of a specification, with an alphabet, a number of entries and actions
abbrev UsedBy : List (List ℕ) → Specification → Alphabet → ℕ → List ActionDef → Type 0
UsedBy names spec alphabet count actions = (tests : TestsOf spec) → AreTestsHonest spec tests → (name : List ℕ) →
    In name names ↔ ((x : ℕ) × UsedIn alphabet count (tree_machine spec tests) x × (name ≡ name_of actions x))

names_told : (es : List rust_entry.Entry) → map (λ (e : rust_entry.Entry). e.name) es ≡ map (λ (m : Made). m.name) (map made_of es)
names_told [] = refl
names_told (e ∷ es) = ap (λ names. e.name ∷ names) (names_told es)

module _ (a b : Spec) (same : description a ≡ description b) where
  same_count : length a.entries ≡ length b.entries
  same_count = sym (length-map a.entries made_of) ∙ ap (λ (d : Description). length d.entries) same ∙ length-map b.entries made_of

  -- they have the same entries
  pub same_entries : entry_names a ≡ entry_names b
  same_entries = names_told a.entries ∙ ap (λ (d : Description). map (λ (m : Made). m.name) d.entries) same ∙ sym (names_told b.entries)

  same_used : (names : List (List ℕ)) → AreUsed a names → AreUsed b names
  same_used names used =
      let one : UsedBy names (specification_of b) a.alphabet (length a.entries) a.actions =
      subst (λ s. UsedBy names s a.alphabet (length a.entries) a.actions) (same_specification a b same) used in
      let two : UsedBy names (specification_of b) b.alphabet (length a.entries) a.actions =
      subst (λ x. UsedBy names (specification_of b) x (length a.entries) a.actions) (ap (λ (d : Description). d.alphabet) same) one in
      let three : UsedBy names (specification_of b) b.alphabet (length b.entries) a.actions =
      subst (λ n. UsedBy names (specification_of b) b.alphabet n a.actions) same_count two in
      subst (λ given. UsedBy names (specification_of b) b.alphabet (length b.entries) given) (ap (λ (d : Description). d.actions) same) three

  pub same_names : (names : Names) → AreNamesOf a names → AreNamesOf b names
  same_names names n = record {
    entries =
        n.entries ∙ names_told a.entries
        ∙ ap (λ (d : Description). map (λ (m : Made). m.name) d.entries) same
        ∙ sym (names_told b.entries);
    actions = same_used names.actions n.actions;
    conditions = n.conditions ∙ ap (λ (d : Description). map (λ (x : ActionId). name_of d.actions x.0) d.conditions) same;
  }

-- by any two lists of a Spec's names a script is the same
pub names_alike : (spec : Spec) (names other : Names) → HasHonestTests (specification_of spec) → AreNamesOf spec names → AreNamesOf spec other
    → (text : List ℕ) → script_of names text ≡ script_of other text
names_alike spec names other tests n o =
    script_alike names other (n.entries ∙ sym o.entries)
    (has_same names.actions other.actions (λ x i. (o.actions tests.0 tests.1 x).1 ((n.actions tests.0 tests.1 x).0 i)) (λ x i. (n.actions tests.0 tests.1 x).1 ((o.actions tests.0 tests.1 x).0 i)))
    (n.conditions ∙ sym o.conditions)
