-- The texts that set a session to its start and that run a machine end with a line.
use Rattle.std.proofs.Common.{◌≡◌, ℕ, List, [], ◌∷◌, ◌++◌, take, refl, sym, ap, ◌∙◌, append_assoc, inr}
use Rattle.std.specs.Prelude.{codes, flat_map}
use Rattle.rl_arrays.specs.declared.arrays.Arrays.{Arrays}
use Rattle.rl_cdata.specs.Printed.{EndsLine}
use Rattle.rl_cexec.specs.Lines.{Line, Always, init_lines, exec_lines}
use Rattle.rl_cexec.specs.Names.{filled_from}
use Rattle.rl_cexec.specs.Texts.{line_text, init_text, exec_text}
use Rattle.rl_model.specs.declared.spec.Frame.{Frame}
use Rattle.rl_model.specs.declared.spec.Spec.{Spec}

abbrev last : Line
last = Always (codes "\t}")

ends : (spec : Spec) (a : Arrays) (frame : Frame) (lines : List Line)
    → (front : List ℕ) × (flat_map (line_text spec a frame) (lines ++ last ∷ []) ≡ front ++ 10 ∷ [])
unfolding filled_from
ends spec a frame [] = (codes "\t}", refl)
ends spec a frame (l ∷ lines) =
    let more = ends spec a frame lines in (
      line_text spec a frame l ++ more.0,
      ap (λ t. line_text spec a frame l ++ t) more.1 ∙ sym (append_assoc (line_text spec a frame l) more.0 (10 ∷ [])),
    )

pub init_ends : (spec : Spec) (a : Arrays) (frame : Frame) → EndsLine (init_text spec a frame)
unfolding init_text filled_from
init_ends spec a frame = inr (ends spec a frame (take 4 init_lines))

pub exec_ends : (spec : Spec) (a : Arrays) (frame : Frame) → EndsLine (exec_text spec a frame)
unfolding exec_text filled_from
exec_ends spec a frame = inr (ends spec a frame (take 67 exec_lines))
