use Rattle.std.proofs.Common.{◌≡◌, ◌+◌, ℕ, map, ap, ◌∙◌, arith}
use Rattle.rl_certificate.specs.Steps.{row_of}
use Rattle.rl_certificate.proofs.SearchLetters.{mapped_more}
use Rattle.rl_certificate.proofs.steps.all_targets.Goals as goal

pub loop-state-preserved : goal.loop-state-preserved
loop-state-preserved c =
    ap (map (λ row. row.items)) c.in_ok-push.ensures
    ∙ mapped_more (λ row. row.items) (λ
    (i : ℕ). row_of c.args.min.now c.args.letters.now i) c.loop-state.targets.items c.in_ok-row.row 0 c.loop-state.state c.loop-state.invariant
    (c.in_ok-row.ensures ∙ ap (row_of c.args.min.now c.args.letters.now) (let e : c.loop-state.state ≡ 0 + c.loop-state.state = omega arith in e))
