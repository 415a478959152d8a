use Rattle.std.proofs.Common.{ℕ, None, Vec, Global, map, option_map, ap, ◌∙◌, refl}
use Rattle.rl_types.specs.declared.numbers.Letter.{Letter}
use Rattle.rl_certificate.proofs.SearchLetters.{mapped_more}
use Rattle.rl_certificate.proofs.table.empty_row.Goals as goal

pub loop-place-preserved : goal.loop-place-preserved
loop-place-preserved c =
    ap (map (option_map (λ (word : Vec Letter Global). word.items))) c.in_ok-push.ensures
    ∙ mapped_more (option_map (λ (word : Vec Letter Global). word.items)) (λ
    (i : ℕ). None) c.loop-place.row.items None 0 c.loop-place._place c.loop-place.invariant refl
