use Rattle.std.proofs.Common.{ℕ, ◌∙◌, length, map, ap, sym, subst}
use Rattle.std.specs.List.{range_with_len}
use Rattle.rl_sets.specs.Sets.{In}
use Rattle.rl_certificate.specs.Steps.{AreRising, row_of}
use Rattle.rl_certificate.proofs.SearchLetters.{all_rising, all_there}
use Rattle.rl_certificate.proofs.steps.Steps.new.Goals as goal

pub returns : goal.returns
returns c = record {
  rising = subst AreRising (sym c.in_ok-letters.ensures) (all_rising c.args.min.now.states);
  own = λ i l j. subst (In l) (sym c.in_ok-letters.ensures) (all_there c.args.min.now i l j);
  rows = c.in_ok-targets.ensures ∙ ap (λ letters. map (λ (i : ℕ). row_of c.args.min.now letters i) (range_with_len 0
      (length c.args.min.now.states))) c.deref.ensures.value;
}
