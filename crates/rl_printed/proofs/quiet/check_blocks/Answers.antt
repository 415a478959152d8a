use Rattle.std.proofs.Common.{◌≡◌, ◌<◌, length, Some, true, rules, arith}
use Rattle.std.specs.Prelude.{slice_get}
use Rattle.std.proofs.lemmas.Option.{slice_get_within}
use Rattle.rl_printed.specs.Reading.{blocks_in, are_within}
use Rattle.rl_printed.proofs.SoundLaws.{all_more, read_at}
use Rattle.rl_printed.proofs.quiet.check_blocks.Goals as goal

pub loop-i-preserved : goal.loop-i-preserved
loop-i-preserved c =
    let there : c.loop-i.i < length c.args.specs.now = search rules in
    let at : slice_get c.args.specs.now c.loop-i.i ≡ Some c.index-specs-i.result = read_at c.args.specs.now c.loop-i.i c.index-specs-i.result there (search rules) in
    all_more (λ k spec. are_within (blocks_in c.args.parts.now) spec.writes ≡ true) c.args.specs.now c.loop-i.i c.index-specs-i.result at c.loop-i.invariant (search rules)

pub returns : goal.returns
returns c = λ i spec e.
    let there = slice_get_within c.args.specs.now i spec e in
    c.loop-i.invariant i spec (omega (arith, there, c.loop-i-test.false)) e
