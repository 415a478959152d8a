use Rattle.std.proofs.Common.{◌≡◌, sym, ◌∙◌, map, rules}
use Rattle.std.proofs.lemmas.Int.{to_z-of_z}
use mir.Syntax.{w64}
use mir.Val.{SFits}
use Rattle.rl_arrays.specs.Words.{natural}
use Rattle.rl_arrays.specs.Lists.{members}
use Rattle.rl_tables.proofs.CountLaws.{listed, any_listed}
use Rattle.rl_tables.proofs.counts.is_listed.Goals as goal

pub returns-in-Some : goal.returns-in-Some
returns-in-Some c =
    let a = c.args.a.now in
    let fits : SFits w64 c.in-Some.number = search rules in
    let value : c.count_of.result ≡ natural c.in-Some.number = simp to_z-of_z at c.count_of.ensures.value in
    let is : map natural c.members_of.result.now ≡ members a.actions (natural c.in-Some.number) = rw value at c.members_of.ensures in (
      λ t. listed a c.args.numbers.now c.args.i c.args.k c.in-Some.number c.members_of.result.now (sym c.in-Some.ensures) is (sym c.is_among.ensures ∙ t),
      λ h. c.is_among.ensures ∙ any_listed a c.args.numbers.now c.args.i c.args.k c.in-Some.number c.members_of.result.now (sym c.in-Some.ensures) is h,
    )
