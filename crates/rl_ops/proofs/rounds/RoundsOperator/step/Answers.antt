use Rattle.std.proofs.Common.{◌∙◌, ℕ, [], nat_cmp}
use Rattle.std.specs.List.{flat_map}
use Rattle.rl_sets.specs.Sets.{set_of}
use Rattle.rl_automata.specs.Auto.{settle, jams, member_steps}
use Rattle.rl_fsm.specs.Graphs.{fsm_auto}
use Rattle.rl_ops.specs.Settled.{Sides}
use Rattle.rl_ops.proofs.Keeping.{settled-map}
use Rattle.rl_ops.proofs.rounds.RoundsOperator.step.Goals as goal

pub returns : goal.returns
returns c =
    let A = fsm_auto c.args.self.now.a.now in
    let base = c.args.self.now.base in
    let l = c.args.letter in (
      c.in_ok-step.ensures.step
          ∙ settled-map (λ (p : Sides). set_of nat_cmp p.1) [] (flat_map (member_steps A base l) c.states.result.now)
          ∙ (λ i. settle {S = ℕ} {T = ℕ} (λ ss ts. set_of nat_cmp ts) [] (flat_map (member_steps A base l) (c.states.ensures i))),
      c.in_ok-step.ensures.cycle ∙ (λ i. jams {S = ℕ} [] (flat_map (member_steps A base l) (c.states.ensures i))),
    )
