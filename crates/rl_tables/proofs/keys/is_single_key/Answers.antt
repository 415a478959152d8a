use Rattle.std.proofs.Common.{◌≡◌, ◌<◌, ◌∙◌, sym, arith, pos}
use Rattle.std.specs.Prelude.{◌+ℤ◌, ◌↔◌, IsTrue}
use Rattle.std.proofs.lemmas.Int.{ints, to_z-of_z}
use Rattle.rl_arrays.specs.KeyRules.{IsKey, IsAbove}
use Rattle.rl_tables.proofs.KeyLaws.{says_single, single_key, single_above}
use Rattle.rl_tables.proofs.keys.is_single_key.Goals as goal

pub returns-then-not-is_key : goal.returns-then-not-is_key
returns-then-not-is_key c =
    let fits = c.ranges.key in
    let fits' = c.ranges.first in
    let here : pos c.args.place ≡ c.args.first +ℤ pos c.offset-p.result = omega (arith, ints, c.offset-p.ensures) in
    let is : IsTrue c.is_key.result ↔ IsKey c.args.a.now c.args.key = simp to_z-of_z at c.is_key.ensures in
    (λ t. absurd cc, λ said. sym c.if-not-is_key.true ∙ is.1 (single_key c.args.a.now c.args.s c.args.place c.offset-p.result c.args.key c.args.first c.requires.state c.requires.first_is here c.requires.to said))

pub returns : goal.returns
returns c =
    let fits = c.ranges.key in
    let fits' = c.ranges.first in
    let here : pos c.args.place ≡ c.args.first +ℤ pos c.offset-p.result = omega (arith, ints, c.offset-p.ensures) in
    let is : IsTrue c.is_key.result ↔ IsKey c.args.a.now c.args.key = simp to_z-of_z at c.is_key.ensures in
    let above : IsTrue c.ascends.result ↔ (0 < c.offset-p.result → IsAbove c.args.a.now.trans_keys c.args.place c.args.key) = simp to_z-of_z at c.ascends.ensures in (
      λ t. says_single c.args.a.now c.args.s c.args.place c.offset-p.result c.args.key c.args.first c.requires.first_is here (is.0 c.if-not-is_key.false) (above.0 t),
      λ said. above.1 (single_above c.args.a.now c.args.s c.args.place c.offset-p.result c.args.key c.args.first c.requires.state c.requires.first_is here c.requires.to said),
    )
