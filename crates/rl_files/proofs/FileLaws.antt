-- What the steps of the reader say of a file.
use Rattle.std.proofs.Common.{◌≡◌, ℕ, ◌≤◌, List, length, Ok, inl, inr, refl, sym, ap, ◌∙◌, subst}
use Rattle.rl_types.specs.Limits.{most_source_bytes}
use Rattle.rl_grammar.specs.declared.read_fault.ReadFault.{ReadFault}
use Rattle.rl_grammar.specs.declared.read_fault.ReadFault.TheVariants as reason
use Rattle.rl_grammar.specs.declared.syntax.Syntax.{Syntax}
use Rattle.rl_grammar.specs.declared.token.Token.{Token}
use Rattle.rl_lexical.specs.Answers as answers
use Rattle.rl_lexical.specs.Parts.{file_parts}
use Rattle.rl_files.specs.Blocks.{AllTokens, TellsFirst}
use Rattle.rl_files.specs.Files.{tokens_of, file_tokens, AreTrees, FirstRefused, ReadsAs, Explains}
use Rattle.rl_files.specs.Results.{and_then}
use Rattle.rl_files.proofs.TokenForms.{result_cases, err_ok}
use Rattle.rl_files.proofs.TokenLists.{parts_hold}

pub file_holds : (number : ℕ) (text : List ℕ) (blocks : List (List Token)) → file_tokens number text ≡ Ok blocks → AllTokens blocks
file_holds number text blocks e = elim (result_cases (file_parts number text)) [
  | inl parts ↦ parts_hold parts.0 blocks (ap (λ z. and_then z tokens_of) (sym parts.1) ∙ e)
  | inr fault ↦ absurd (err_ok fault.0 blocks (ap (λ z. and_then z tokens_of) (sym fault.1) ∙ e))
]

pub no_tokens : (number : ℕ) (text : List ℕ) (e : ReadFault) → length text ≤ most_source_bytes → answers.Explains (file_tokens number text) e → Explains number text e
no_tokens number text (reason.Fault f) within h = inr (inl (record { within = within; fault = f; tokens = h; is = refl }))
no_tokens number text (reason.Limit l) within h = absurd h
no_tokens number text reason.Memory within h = tt

pub no_trees : (number : ℕ) (text : List ℕ) (blocks view : List (List Token)) (e : ReadFault) → length text ≤ most_source_bytes → file_tokens number text ≡ Ok blocks → view ≡ blocks → TellsFirst e view
    → Explains number text e
no_trees number text blocks view (reason.Fault f) within h same k =
    inr (inr (record { within = within; blocks = blocks; tokens = h; refused = subst (FirstRefused (reason.Fault f)) same k }))
no_trees number text blocks view (reason.Limit l) within h same k =
    inr (inr (record { within = within; blocks = blocks; tokens = h; refused = subst (FirstRefused (reason.Limit l)) same k }))
no_trees number text blocks view reason.Memory within h same k = tt

pub has_trees : (number : ℕ) (text : List ℕ) (blocks view : List (List Token)) (trees : List Syntax) → length text ≤ most_source_bytes → file_tokens number text ≡ Ok blocks → view ≡ blocks → AreTrees view trees
    → ReadsAs number text trees
has_trees number text blocks view trees within h same k = record { within = within; blocks = blocks; tokens = h; derived = subst (λ z. AreTrees z trees) same k }
