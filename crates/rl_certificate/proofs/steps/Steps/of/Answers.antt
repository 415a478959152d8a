use Rattle.std.proofs.Common.{◌<◌, ◌∙◌, length, get_or, ap, sym, subst}
use Rattle.rl_certificate.specs.Steps.{row_of}
use Rattle.rl_certificate.proofs.SearchLetters.{rows_count, row_at}
use Rattle.rl_certificate.proofs.steps.Steps.of.Goals as goal

pub bounds-rows-state : goal.bounds-rows-state
bounds-rows-state c =
    subst (λ n. c.args.state < n)
    (sym (ap length c.as_slice-rows.ensures.value
    ∙ rows_count (λ row. row.items) (row_of c.args.min.now c.args.self.now.letters.items) c.args.self.now.targets.items
    (length c.args.min.now.states) c.requires.steps.rows))
    c.requires.there

pub returns : goal.returns
returns c =
    c.as_slice.ensures.value
    ∙ ap (λ row. row.items) (c.index-rows-state.is ∙ ap (λ rows. get_or rows c.args.state c.index-rows-state.result) c.as_slice-rows.ensures.value)
    ∙ row_at (λ row. row.items) (row_of c.args.min.now c.args.self.now.letters.items) c.args.self.now.targets.items
    (length c.args.min.now.states) c.args.state c.index-rows-state.result
    c.requires.steps.rows c.requires.there
