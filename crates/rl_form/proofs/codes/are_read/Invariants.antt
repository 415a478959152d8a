use Rattle.std.proofs.Common.{take}
use Rattle.std.specs.Prelude.{All}
use Rattle.rl_code.specs.Reading.{IsReadAs}
use Rattle.rl_model.specs.declared.spec.ActionDef as rust
use Rattle.rl_form.specs.Texts.{texts}
use Rattle.rl_form.proofs.codes.are_read.Given as goal

abbrev pub invariant-loop-a : goal.invariant-loop-a
invariant-loop-a l = All (λ (a : rust.ActionDef). IsReadAs (texts l.names) a.code a.statements) (take l.a-index l.actions)
