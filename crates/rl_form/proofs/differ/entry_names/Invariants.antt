use Rattle.std.proofs.Common.{◌≡◌, ◌++◌, drop, map}
use Rattle.rl_model.specs.declared.spec.Entry as rust_entry
use Rattle.rl_form.specs.Texts.{texts}
use Rattle.rl_form.proofs.differ.entry_names.Given as goal

abbrev pub invariant-loop-e : goal.invariant-loop-e
invariant-loop-e l = texts l.names ++ map (λ (e : rust_entry.Entry). e.name) (drop l.e-index l.entries) ≡ map (λ (e : rust_entry.Entry). e.name) l.entries
