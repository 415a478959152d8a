-- The longest token is the one that is found by trying fronts from the longest on.
use Rattle.std.proofs.Common.{◌≡◌, ℕ, zero, suc, ◌<◌, ◌≤◌, List, length, Option, Some, None, inl, inr, refl, sym, ap, ◌∙◌, arith}
use Rattle.std.proofs.lemmas.Bool.{cases_order}
use Rattle.rl_grammar.specs.declared.token.TokenKind.{TokenKind}
use Rattle.rl_lexical.specs.declared.context.Context.{Context}
use Rattle.rl_lexical.specs.Fronts.{front_kind, or_shorter, longest_within}
use Rattle.rl_lex.specs.Longest.{IsLongest, NoToken, Finds}

more : (m : ℕ) (context : Context) (text : List ℕ) → longest_within (suc m) context text ≡ or_shorter (front_kind context text (suc m)) (suc m) (longest_within m context text)
unfolding longest_within
more m context text = refl

none_within : (m : ℕ) (context : Context) (text : List ℕ) → m ≤ length text → NoToken context text → longest_within m context text ≡ None
unfolding longest_within
none_within zero context text l h = refl
none_within (suc m) context text l h =
    ap (λ z. or_shorter z (suc m) (longest_within m context text)) (h (suc m) l) ∙ none_within m context text (omega arith) h

found_within : (m : ℕ) (context : Context) (text : List ℕ) (kind : TokenKind) (n : ℕ) → n ≤ m → m ≤ length text → IsLongest context text kind n
    → longest_within m context text ≡ Some (kind, n)
found_within zero context text kind n l w h = let some : 0 < n = h.some in absurd (omega arith)
found_within (suc m) context text kind n l w h = elim (cases_order n (suc m)) [
  | inl e ↦
      let here : front_kind context text (suc m) ≡ Some kind = ap (front_kind context text) (sym e) ∙ h.is_token in
      more m context text ∙ (ap (λ z. or_shorter z (suc m) (longest_within m context text)) here ∙ ap (λ z. Some (kind, z)) (sym e))
  | inr o ↦ elim o [
    | inl less ↦
        more m context text ∙ (ap (λ z. or_shorter z (suc m) (longest_within m context text)) (h.longest (suc m) less w)
        ∙ found_within m context text kind n (omega arith) (omega arith) h)
    | inr above ↦ absurd (omega arith)
  ]
]

pub found_is : (context : Context) (text : List ℕ) (found : Option (TokenKind × ℕ)) → Finds context text found → found ≡ longest_within (length text) context text
found_is context text None h = sym (none_within (length text) context text (omega arith) h)
found_is context text (Some x) h = sym (found_within (length text) context text x.0 x.1 h.within (omega arith) h)
