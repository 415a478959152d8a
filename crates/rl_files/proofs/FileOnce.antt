-- A text reads as one list of trees, or has one first refusal, and never both.
use Rattle.std.proofs.Common.{◌≡◌, ℕ, ◌<◌, ◌≤◌, List, length, Result, Ok, Err, inl, inr, sym, ap, ◌∙◌, subst, arith}
use Rattle.rl_types.specs.Limits.{most_source_bytes}
use Rattle.rl_types.specs.declared.faults.Fault.{Fault}
use Rattle.rl_grammar.specs.declared.read_fault.ReadFault.{ReadFault}
use Rattle.rl_grammar.specs.declared.read_fault.ReadFault.TheVariants as reason
use Rattle.rl_grammar.specs.declared.syntax.Syntax.{Syntax}
use Rattle.rl_grammar.specs.declared.token.Token.{Token}
use Rattle.rl_files.proofs.TokenForms.{same_ok, err_ok}
use Rattle.rl_files.proofs.TreeLaws.{same_trees, same_refusal, trees_or_refusal}
use Rattle.rl_files.specs.Files.{file_tokens, AreTrees, FirstRefused, ReadsAs, IsRefusal}

same_err : {A : Type 0} (e f : Fault) → ◌≡◌ {A = Result A Fault} (Err e) (Err f) → e ≡ f
same_err e f h = cc

too_long_or_not : (text : List ℕ) → most_source_bytes < length text → length text ≤ most_source_bytes → ⊥
too_long_or_not text beyond within = omega arith

module _ (number : ℕ) (text : List ℕ) where
  same_blocks : (xs ys : List (List Token)) → file_tokens number text ≡ Ok xs → file_tokens number text ≡ Ok ys → xs ≡ ys
  same_blocks xs ys h k = same_ok xs ys (sym h ∙ k)

  no_blocks : (fault : Fault) (xs : List (List Token)) → file_tokens number text ≡ Err fault → file_tokens number text ≡ Ok xs → ⊥
  no_blocks fault xs h k = err_ok fault xs (sym h ∙ k)

  pub reads_once : (a b : List Syntax) → ReadsAs number text a → ReadsAs number text b → a ≡ b
  reads_once a b h k = same_trees h.blocks a b h.derived (subst (λ z. AreTrees z b) (sym (same_blocks h.blocks k.blocks h.tokens k.tokens)) k.derived)

  pub refusals_once : (a b : ReadFault) → IsRefusal number text a → IsRefusal number text b → a ≡ b
  refusals_once a b (inl x) (inl y) = x.is ∙ sym y.is
  refusals_once a b (inl x) (inr (inl y)) = absurd (too_long_or_not text x.beyond y.within)
  refusals_once a b (inl x) (inr (inr y)) = absurd (too_long_or_not text x.beyond y.within)
  refusals_once a b (inr (inl x)) (inl y) = absurd (too_long_or_not text y.beyond x.within)
  refusals_once a b (inr (inl x)) (inr (inl y)) = x.is ∙ (ap (λ z. reason.Fault z) (same_err x.fault y.fault (sym x.tokens ∙ y.tokens)) ∙ sym y.is)
  refusals_once a b (inr (inl x)) (inr (inr y)) = absurd (no_blocks x.fault y.blocks x.tokens y.tokens)
  refusals_once a b (inr (inr x)) (inl y) = absurd (too_long_or_not text y.beyond x.within)
  refusals_once a b (inr (inr x)) (inr (inl y)) = absurd (no_blocks y.fault x.blocks y.tokens x.tokens)
  refusals_once a b (inr (inr x)) (inr (inr y)) = same_refusal x.blocks a b x.refused (subst (FirstRefused b) (sym (same_blocks x.blocks y.blocks x.tokens y.tokens)) y.refused)

  pub read_or_refused : (trees : List Syntax) (e : ReadFault) → ReadsAs number text trees → IsRefusal number text e → ⊥
  read_or_refused trees e h (inl x) = too_long_or_not text x.beyond h.within
  read_or_refused trees e h (inr (inl x)) = no_blocks x.fault h.blocks x.tokens h.tokens
  read_or_refused trees e h (inr (inr x)) = trees_or_refusal x.blocks trees e (subst (λ z. AreTrees z trees) (sym (same_blocks x.blocks h.blocks x.tokens h.tokens)) h.derived) x.refused
