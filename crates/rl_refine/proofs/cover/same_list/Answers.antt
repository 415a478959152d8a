use Rattle.std.proofs.Common.{ap}
use borrow.Author.Tests.{eqb-true, eq-eqb}
use Rattle.std.proofs.lemmas.Slice.Eq.{slice_eq-Decides}
use Rattle.rl_types.specs.declared.numbers.ActionId.{ActionId}
use Rattle.rl_refine.proofs.cover.same_list.Goals as goal

pub returns : goal.returns
returns c = slice_eq-Decides (λ (a b : ActionId). (λ e. λ i. record { 0 = eqb-true a.0 b.0 e i }, λ e. eq-eqb a.0 b.0 (ap (λ (x : ActionId). x.0) e))) _ _ _ c.eq.ensures
