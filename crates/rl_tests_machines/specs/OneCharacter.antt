-- The Spec of a machine `m` with the one statement `main := 'a';`.
use Rattle.std.specs.Prelude.{false, pos, [], ◌∷◌, codes}
use Rattle.rl_types.specs.declared.alphabet.Alphabet.TheVariants.{Char}
use Rattle.rl_automata.specs.declared.tree.Tree as tree
use Rattle.rl_model.specs.declared.spec.Entry as rust_entry
use Rattle.rl_model.specs.declared.spec.Root.TheVariants.{Plain}
use Rattle.rl_model.specs.declared.spec.Spec.{Spec}

abbrev pub main_entry : rust_entry.Entry
main_entry = record {
  name = codes "main";
  root = Plain (tree.Set (record { lo = pos 97; hi = pos 97 } ∷ []));
  places = record { file = 0; line = 1; col = 9 } ∷ [];
}

abbrev pub one_character : Spec
one_character = record {
  machine = codes "m";
  alphabet = Char;
  entries = main_entry ∷ [];
  actions = [];
  conds = [];
  frame = record { access = []; variables = []; marked = false };
  writes = [];
  files = codes "m.rl" ∷ [];
}
