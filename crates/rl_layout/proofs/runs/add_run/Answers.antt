use Rattle.std.proofs.Common.{◌≡◌, ◌∷◌, ◌++◌, [], true, false, rules}
use Rattle.rl_layout.specs.Runs.{continues}
use Rattle.rl_layout.proofs.RunLaws.{run_joins, run_alone}
use Rattle.rl_layout.proofs.runs.add_run.Goals as goal

pub returns-then-continues : goal.returns-then-continues
returns-then-continues c =
    let last = c.in-Some.last in
    let was : c.args.runs.now.items ≡ c.pop.new.self.items ++ last ∷ [] = search rules in
    let same : continues c.args.edges.now last c.args.next ≡ true = search rules in
    let is : c.push.new.items.items ≡ c.pop.new.self.items ++ (record last { hi = c.args.next.hi }) ∷ [] = search rules in
    run_joins c.args.edges.now c.args.next _ _ _ last was same is

pub returns-in_ok-push-in-Some-3 : goal.returns-in_ok-push-in-Some-3
returns-in_ok-push-in-Some-3 c =
    let last = c.in-Some.last in
    let was : c.args.runs.now.items ≡ c.pop.new.self.items ++ last ∷ [] = search rules in
    let other : continues c.args.edges.now last c.args.next ≡ false = search rules in
    let put : c.push-in-Some.new.items.items ≡ c.pop.new.self.items ++ last ∷ [] = search rules in
    let is : c.push-in-Some-2.new.items.items ≡ c.push-in-Some.new.items.items ++ c.args.next ∷ [] = search rules in
    run_alone c.args.edges.now c.args.next _ _ _ _ last was other put is
