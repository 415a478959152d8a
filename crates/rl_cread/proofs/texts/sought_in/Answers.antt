use Rattle.std.proofs.Common.{◌≡◌, ◌∙◌, sym, ap, true, false}
use Rattle.std.specs.Option.{option_copied}
use Rattle.rl_cread.proofs.Marking.{unsought}
use Rattle.rl_cread.proofs.texts.sought_in.Goals as goal

pub returns-in-None : goal.returns-in-None
returns-in-None c = λ shared name m. c.in-None.ensures shared name (record { formed = m.formed; sought = tt; is = m.is })

pub returns-else-is_same : goal.returns-else-is_same
returns-else-is_same c =
    unsought _ c.args.line.now c.in-Some.shared c.in-Some.name.now c.in-Some-machine.word.now (ap option_copied c.in-Some-machine.is) c.in-Some.ensures
    (λ e. let t : false ≡ true = sym c.if-is_same.false ∙ c.is_same.ensures.1 e in absurd cc)
