use Rattle.std.proofs.Common.{◌≡◌, ◌∙◌, ◌++◌, ap, List, ℕ}
use Rattle.std.specs.Prelude.{codes}
use Rattle.std.specs.Fmt.{signed_decimal}
use Rattle.rl_arrays.specs.Section.{number_front}
use Rattle.rl_cread.specs.Contents.{IsPrintedNumber}
use Rattle.rl_cread.specs.Lines.{label_word}
use Rattle.rl_cread.proofs.Between.{line_result}
use Rattle.rl_cread.proofs.lines.number_in.Goals as goal

pub returns-in-Some : goal.returns-in-Some
returns-in-Some c =
    let front : c.as_slice.result.now ≡ number_front c.args.name.now (label_word c.args.label) = c.as_slice.ensures.value ∙ c.in_ok-front.ensures ∙ ap (number_front c.args.name.now) c.label_text.ensures in
    line_result (number_front c.args.name.now (label_word c.args.label)) (codes ";") signed_decimal IsPrintedNumber c.args.line.now c.in-Some.text.now c.number.result (c.in-Some.ensures ∙ ap (λ (t : List ℕ). t ++ (c.in-Some.text.now ++ codes ";")) front) c.number.ensures
