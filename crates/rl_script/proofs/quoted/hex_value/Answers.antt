use Rattle.std.proofs.Common.{◌≡◌, ◌-◌, ℕ, Bool, false, cond, ◌&&◌, nat_le, Some, None, sym, ◌∙◌, ap}
use Rattle.std.specs.Bool.{then_some}
use Rattle.rl_replay.specs.Script.{hex_of}
use Rattle.rl_script.proofs.quoted.hex_value.Goals as goal

no_digit : (b : ℕ) (d u l : Bool) → d ≡ (nat_le 48 b && nat_le b 57) → u ≡ (nat_le 65 b && nat_le b 70) → l ≡ (nat_le 97 b && nat_le b 102) →
    d ≡ false → u ≡ false → l ≡ false → None ≡ hex_of b
no_digit b d u l e f g h i j =
    sym (ap (λ c. cond c (Some (b - 48)) (cond (nat_le 65 b && nat_le b 70) (Some (b - 55)) (then_some (nat_le 97 b && nat_le b 102) (b - 87)))) (sym e ∙ h)
    ∙ ap (λ c. cond c (Some (b - 55)) (then_some (nat_le 97 b && nat_le b 102) (b - 87))) (sym f ∙ i)
    ∙ ap (λ c. then_some c (b - 87)) (sym g ∙ j))

pub returns-else-is_between-3-clause-value : goal.returns-else-is_between-3-clause-value
returns-else-is_between-3-clause-value c =
    no_digit c.args.b _ _ _ c.is_between.ensures.value c.is_between-else-is_between.ensures.value c.is_between-else-is_between-2.ensures.value
    c.if-is_between.false c.if-is_between-2.false c.if-is_between-3.false
