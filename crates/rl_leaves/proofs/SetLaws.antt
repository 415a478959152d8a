-- The spans of a set, one by one.
use Rattle.std.proofs.Common.{◌≡◌, ◌≤◌, Bool, true, false, cond, List, [], ◌∷◌, ◌++◌, length, drop, ap, sym, ◌∙◌, append_assoc, append-nil, arith, length-drop}
use Rattle.std.specs.Prelude.{is_some}
use Rattle.rl_leaves.specs.declared.text.Character.{Character}
use Rattle.rl_leaves.specs.declared.character_set.Span.{Span}
use Rattle.rl_leaves.specs.CharacterSets.{upper_end, span_at, behind_span, spans}
use Rattle.rl_leaves.proofs.CutLaws.{cut_more, cut_none}

shorter : (b : Bool) (cs : List Character) → length (cond b (drop 2 cs) cs) ≤ length cs
shorter true cs = omega (arith, length-drop 2 cs)
shorter false cs = omega arith

pub behind_shrinks : (x : Character) (cs : List Character) → length (behind_span cs) ≤ length cs
behind_shrinks x cs = shorter (is_some (upper_end cs)) cs

pub spans_more : (x : Character) (cs : List Character) → spans (x ∷ cs) ≡ span_at x cs ∷ spans (behind_span cs)
spans_more x cs = cut_more span_at (λ x. behind_span) behind_shrinks x cs

-- a turn of the loop
pub spans_step : (whole found found' : List Span) (xs rest : List Character) (x : Character) (cs : List Character) (span : Span)
    → xs ≡ x ∷ cs → span ≡ span_at x cs → rest ≡ behind_span cs → found' ≡ found ++ span ∷ [] → found ++ spans xs ≡ whole → found' ++ spans rest ≡ whole
spans_step whole found found' xs rest x cs span here value behind more e =
    let start : found ++ spans (x ∷ cs) ≡ whole = ap (λ z. found ++ spans z) (sym here) ∙ e in
    rw (more, value, behind)
    (append_assoc found (span_at x cs ∷ []) (spans (behind_span cs)) ∙ (ap (λ z. found ++ z) (sym (spans_more x cs)) ∙ start))

pub spans_end : (whole found : List Span) (xs : List Character) → length xs ≡ 0 → found ++ spans xs ≡ whole → found ≡ whole
spans_end whole found [] z e = sym (append-nil found) ∙ (ap (λ z. found ++ z) (sym (cut_none span_at (λ x. behind_span) behind_shrinks)) ∙ e)
spans_end whole found (x ∷ xs) z e = absurd (omega arith)
