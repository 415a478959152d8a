use Rattle.std.proofs.Common.{◌≡◌, ℕ, ◌<◌, ◌%◌, ◌∙◌, sym, arith, pos}
use Rattle.std.specs.Prelude.{◌+ℤ◌, ◌↔◌, IsTrue}
use Rattle.std.proofs.lemmas.Int.{ints, to_z-of_z}
use Rattle.rl_arrays.specs.KeyRules.{IsKey, IsAbove, IsSingle, IsOutside}
use Rattle.rl_tables.proofs.KeyLaws.{says_end, end_key, end_above, end_apart}
use Rattle.rl_tables.proofs.keys.is_end_key.Goals as goal

pub returns-then-not-is_key : goal.returns-then-not-is_key
returns-then-not-is_key c =
    let fits = c.ranges.key in
    let fits' = c.ranges.first in
    let fits'' = c.ranges.singles in
    let here : pos c.args.place ≡ (c.args.first +ℤ c.args.singles) +ℤ pos c.offset-p.result = omega (arith, ints, c.offset-p.ensures) in
    let is : IsTrue c.is_key.result ↔ IsKey c.args.a.now c.args.key = simp to_z-of_z at c.is_key.ensures in
    (λ t. absurd cc, λ said. sym c.if-not-is_key.true ∙ is.1 (end_key c.args.a.now c.args.s c.args.place c.offset-p.result c.args.key c.args.first c.args.singles c.requires.state c.requires.first_is c.requires.singles_are here c.requires.to said))

pub returns-then-not-ascends : goal.returns-then-not-ascends
returns-then-not-ascends c =
    let fits = c.ranges.key in
    let fits' = c.ranges.first in
    let fits'' = c.ranges.singles in
    let here : pos c.args.place ≡ (c.args.first +ℤ c.args.singles) +ℤ pos c.offset-p.result = omega (arith, ints, c.offset-p.ensures) in
    let above : IsTrue c.ascends.result ↔ (0 < c.offset-p.result → IsAbove c.args.a.now.trans_keys c.args.place c.args.key) = simp to_z-of_z at c.ascends.ensures in
    (λ t. absurd cc, λ said. sym c.if-not-ascends.true ∙ above.1 (end_above c.args.a.now c.args.s c.args.place c.offset-p.result c.args.key c.args.first c.args.singles c.requires.state c.requires.first_is c.requires.singles_are here c.requires.to said))

pub returns : goal.returns
returns c =
    let fits = c.ranges.key in
    let fits' = c.ranges.first in
    let fits'' = c.ranges.singles in
    let here : pos c.args.place ≡ (c.args.first +ℤ c.args.singles) +ℤ pos c.offset-p.result = omega (arith, ints, c.offset-p.ensures) in
    let is : IsTrue c.is_key.result ↔ IsKey c.args.a.now c.args.key = simp to_z-of_z at c.is_key.ensures in
    let above : IsTrue c.ascends.result ↔ (0 < c.offset-p.result → IsAbove c.args.a.now.trans_keys c.args.place c.args.key) = simp to_z-of_z at c.ascends.ensures in
    let apart : IsTrue c.is_low_apart.result ↔ (c.offset-p.result % 2 ≡ 0 → (r other : ℕ) → IsSingle c.args.a.now c.args.s r other → IsOutside c.args.a.now.trans_keys c.args.place c.args.key other) = simp to_z-of_z at c.is_low_apart.ensures in (
      λ t. says_end c.args.a.now c.args.s c.args.place c.offset-p.result c.args.key c.args.first c.args.singles c.requires.first_is c.requires.singles_are here (is.0 c.if-not-is_key.false) (above.0 c.if-not-ascends.false) (apart.0 t),
      λ said. apart.1 (end_apart c.args.a.now c.args.s c.args.place c.offset-p.result c.args.key c.args.first c.args.singles c.requires.state c.requires.first_is c.requires.singles_are here c.requires.to said),
    )
