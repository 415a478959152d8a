-- One step more of a walk.
use Rattle.std.proofs.Common.{◌≡◌, ℕ, zero, suc, ◌+◌, ◌<◌, Some, None, Result, Ok, Err, refl, sym, ap, ◌∙◌, subst, arith}
use Rattle.rl_types.specs.declared.faults.Fault.{Fault}
use Rattle.rl_types.specs.declared.numbers.Place.{Place}
use Rattle.rl_grammar.specs.declared.read_fault.ReadFault.{ReadFault}
use Rattle.rl_grammar.specs.declared.read_fault.ReadFault.TheVariants as r
use Rattle.rl_lexical.specs.declared.context.Shape.{Shape}
use Rattle.rl_lexical.specs.declared.position.Position.{Position}
use Rattle.rl_lexical.specs.Answers.{Explains, Gives}
use Rattle.rl_lexical.specs.Parts.{Walk, at_next, step, at_end, go_on, end_from}

end_step : (n : ℕ) (shape : Shape) (opening : Place) (w : Walk)
    → end_from (suc n) shape opening w ≡ go_on (step shape opening (at_next w)) (at_next w).at (λ next. end_from n shape opening next)
unfolding end_from
end_step n shape opening w = refl

end_none : (shape : Shape) (opening : Place) (w : Walk) → end_from 0 shape opening w ≡ at_end shape opening w.at
unfolding end_from
end_none shape opening w = refl

-- what is left of a walk
module _ (whole : Result Position Fault) (shape : Shape) (opening : Place) (w : Walk) where
  pub end_found : (n : ℕ) → 0 < n → end_from n shape opening w ≡ whole → (here : Walk) → here ≡ at_next w → step shape opening here ≡ Ok None → whole ≡ Ok here.at
  end_found zero l h here at none = absurd (omega arith)
  end_found (suc n) l h here at none =
      let next : step shape opening (at_next w) ≡ Ok None = ap (step shape opening) (sym at) ∙ none in
      sym h ∙ (end_step n shape opening w ∙ (ap (λ z. go_on z (at_next w).at (λ next. end_from n shape opening next)) next ∙ ap (λ z. Ok z.at) (sym at)))

  pub more_left : (n left : ℕ) → n ≡ left + 1 → end_from n shape opening w ≡ whole → (here next : Walk) → here ≡ at_next w → step shape opening here ≡ Ok (Some next)
      → end_from left shape opening next ≡ whole
  more_left n left e h here next at some =
      let one : n ≡ suc left = omega arith in
      let told : step shape opening (at_next w) ≡ Ok (Some next) = ap (step shape opening) (sym at) ∙ some in
      sym (ap (λ m. end_from m shape opening w) one
      ∙ (end_step left shape opening w ∙ ap (λ z. go_on z (at_next w).at (λ next. end_from left shape opening next)) told)) ∙ h

  pub end_refused : (n : ℕ) → 0 < n → end_from n shape opening w ≡ whole → (here : Walk) → here ≡ at_next w → (e : ReadFault) → Explains (step shape opening here) e → Explains whole e
  end_refused zero l h here at e x = absurd (omega arith)
  end_refused (suc n) l h here at (r.Fault fault) x =
      let told : step shape opening (at_next w) ≡ Err fault = ap (step shape opening) (sym at) ∙ x in
      sym h ∙ (end_step n shape opening w ∙ ap (λ z. go_on z (at_next w).at (λ next. end_from n shape opening next)) told)
  end_refused (suc n) l h here at (r.Limit limit) x = x
  end_refused (suc n) l h here at r.Memory x = tt

  pub nothing_more : (n : ℕ) → n ≡ 0 → end_from n shape opening w ≡ whole → (answer : Result Position ReadFault) → Gives (at_end shape opening w.at) answer → Gives whole answer
  nothing_more n z h answer g =
      let P : Result Position Fault → Type 0 = λ x. Gives x answer in
      subst P (sym (end_none shape opening w) ∙ (ap (λ m. end_from m shape opening w) (sym z) ∙ h)) g
