use Rattle.std.proofs.Common.{◌≡◌, ◌∙◌, sym, true, false}
use Rattle.rl_cread.proofs.Rests.{not_false}
use Rattle.rl_cread.proofs.ValueLaws.{valid_disagrees, last_disagrees}
use Rattle.rl_cread.proofs.values.tables_of.Goals as goal
use Rattle.rl_cread.proofs.values.tables_of.Goals.{then-agree-2, else-agree-2}

pub returns-in-Ok : goal.returns-in-Ok
returns-in-Ok c =
    rw c.disagreement.ensures (valid_disagrees c.args.raw.arrays c.args.raw.entries c.in-Ok.ensures.1 (λ e. let f : false ≡ true = sym c.if-agree.false ∙ c.agree-agree.ensures.1 e in absurd cc))

pub returns : goal.returns
returns c =
    rw c.disagreement-else-not-is_last_array.ensures (elim c.if-agree-2.branch [
      | then-agree-2 w ↦ let f : true ≡ false = sym w.if-agree-2.true ∙ sym w.value-is ∙ c.if-not-is_last_array.false in absurd cc
      | else-agree-2 w ↦
          last_disagrees c.args.raw.arrays c.args.raw.entries c.in-Err.bad c.requires c.in-Err.ensures (w.is_last_array.ensures.0 (not_false w.is_last_array.result (sym w.value-is ∙ c.if-not-is_last_array.false)))
          (λ e. let f : false ≡ true = sym w.if-agree-2.false ∙ c.agree-agree.ensures.1 e in absurd cc)
    ])
