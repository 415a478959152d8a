use Rattle.std.proofs.Common.{◌≡◌, ◌∙◌, ◌++◌, sym, ap, List, ℕ}
use Rattle.std.specs.Prelude.{codes, pos}
use Rattle.rl_arrays.specs.Section.{number_line}
use Rattle.rl_cread.proofs.Zero.{zero_line}
use Rattle.rl_cread.proofs.lines.is_error.Goals as goal

pub returns : goal.returns
returns c =
    let due : c.as_slice.result.now ≡ number_line c.args.name.now (codes "error") (pos 0) = c.as_slice.ensures.value ∙ c.in_ok-extend_from_slice.ensures.items ∙ ap (λ (t : List ℕ). t ++ codes "0;") c.in_ok-due.ensures ∙ sym (zero_line c.args.name.now) in
    (λ t. c.is_same.ensures.0 t ∙ due, λ e. c.is_same.ensures.1 (e ∙ sym due))
