use Rattle.std.proofs.Common.{◌≡◌, ◌∙◌, ℕ, List, Option, nat_cmp}
use Rattle.rl_sets.specs.Sets.{set_of}
use Rattle.rl_automata.specs.Auto.{first, settle, jams, part_moves, right_moves}
use Rattle.rl_fsm.specs.Graphs.{fsm_auto}
use Rattle.rl_ops.specs.Settled.{Sides}
use Rattle.rl_ops.proofs.Keeping.{settled-map}
use Rattle.rl_ops.proofs.chain.ChainedOperator.step.Goals as goal

pub returns : goal.returns
returns c =
    let A = fsm_auto c.args.self.now.a.now in
    let B = fsm_auto c.args.self.now.b.now in
    let l = c.args.letter in
    let ls = part_moves A l c.args.c.now.0 in
    let whole : ◌≡◌ {A = Option ℕ × List ℕ} (c.args.c.now.0, c.states.result.now) c.args.c.now = λ i. (c.args.c.now.0, c.states.ensures i) in (
      c.in_ok-step.ensures.step
          ∙ settled-map (λ (p : Sides). (first p.0, set_of nat_cmp p.1)) ls (right_moves A B (c.args.c.now.0, c.states.result.now) l)
          ∙ (λ i. settle (λ (ss : List ℕ) (ts : List ℕ). (first ss, set_of nat_cmp ts)) ls (right_moves A B (whole i) l)),
      c.in_ok-step.ensures.cycle ∙ (λ i. jams ls (right_moves A B (whole i) l)),
    )
