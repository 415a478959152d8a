use Rattle.std.proofs.Common.{◌≡◌, ◌+◌, ◌∷◌, ◌++◌, [], true, false, rules}
use Rattle.rl_layout.specs.Runs.{has_ends}
use Rattle.rl_layout.proofs.RunLaws.{alone, edge_joins, edge_alone}
use Rattle.rl_layout.proofs.runs.add_edge.Goals as goal

pub returns-then-has_ends : goal.returns-then-has_ends
returns-then-has_ends c =
    let last = c.in-Some.last in
    let was : c.args.runs.now.items ≡ c.pop.new.self.items ++ last ∷ [] = search rules in
    let same : has_ends c.args.range last ≡ true = search rules in
    let is : c.push.new.items.items ≡ c.pop.new.self.items ++ (record last { end = c.args.place + 1 }) ∷ [] = search rules in
    edge_joins c.args.place c.args.range _ _ _ last was same is

pub returns-in_ok-push-in-Some-3 : goal.returns-in_ok-push-in-Some-3
returns-in_ok-push-in-Some-3 c =
    let last = c.in-Some.last in
    let was : c.args.runs.now.items ≡ c.pop.new.self.items ++ last ∷ [] = search rules in
    let other : has_ends c.args.range last ≡ false = search rules in
    let put : c.push-in-Some.new.items.items ≡ c.pop.new.self.items ++ last ∷ [] = search rules in
    let is : c.push-in-Some-2.new.items.items ≡ c.push-in-Some.new.items.items ++ alone c.args.place c.args.range ∷ [] = search rules in
    edge_alone c.args.place c.args.range _ _ _ _ last was other put is
