-- A refusal that is told stands before all that is read.
use Rattle.std.proofs.Common.{◌≡◌, Option, None, Result, sym, ap, subst}
use Rattle.rl_grammar.specs.declared.read_fault.ReadFault.{ReadFault}
use Rattle.rl_grammar.specs.declared.read_fault.ReadFault.TheVariants as reason
use Rattle.rl_names.specs.Answers.{refused, Explains, Told}

pub told_refused : {A : Type 0} (e : ReadFault) (due : Option ReadFault) (read : Result A ReadFault) → Told due e → Explains (refused due read) e
told_refused (reason.Fault f) due read h = ap (λ z. refused z read) h
told_refused (reason.Limit l) due read h = ap (λ z. refused z read) h
told_refused reason.Memory due read h = tt

pub explains_behind : {A : Type 0} (e : ReadFault) (due : Option ReadFault) (read : Result A ReadFault) → due ≡ None → Explains read e → Explains (refused due read) e
explains_behind e due read none h = subst (λ z. Explains (refused z read) e) (sym none) h
