-- The tokens of parts, one part more.
use Rattle.std.proofs.Common.{◌≡◌, ℕ, ◌+◌, ◌<◌, ◌≤◌, List, ◌∷◌, ◌++◌, length, drop, get_or, Result, Ok, Err, refl, sym, ap, ◌∙◌, drop-cons, add-one}
use Rattle.std.proofs.lemmas.List.{append-nil, drop_all}
use Rattle.rl_types.specs.declared.faults.Fault.{Fault}
use Rattle.rl_grammar.specs.declared.read_fault.ReadFault.{ReadFault}
use Rattle.rl_grammar.specs.declared.token.Token.{Token}
use Rattle.rl_lexical.specs.Answers as answers
use Rattle.rl_lexical.specs.Tokens.{block_tokens}
use Rattle.rl_lexical.specs.declared.part.Part.{Part}
use Rattle.rl_lexical.specs.declared.part.Part.TheVariants as part
use Rattle.rl_files.specs.Blocks.{Puts}
use Rattle.rl_files.specs.Files.{tokens_of}
use Rattle.rl_files.specs.Results.{and_then}
use Rattle.rl_files.proofs.ResultLaws.{behind, one_before, explains_then, explains_along}

put_one : (p : Part) (rest : List Part) (found behind_it : List (List Token)) → Puts p found (Ok tt) behind_it → behind behind_it (tokens_of rest) ≡ behind found (tokens_of (p ∷ rest))
put_one (part.Host text) rest found new h = ap (λ z. behind z (tokens_of rest)) h
put_one (part.Block b) rest found new h =
    ap (λ z. behind z (tokens_of rest)) h.2
    ∙ (sym (one_before found h.0 (tokens_of rest)) ∙ ap (λ z. behind found (and_then z (λ tokens. and_then (tokens_of rest) (λ others. Ok (tokens ∷ others))))) (sym h.1))

put_none : (p : Part) (rest : List Part) (found new : List (List Token)) (e : ReadFault) → Puts p found (Err e) new → answers.Explains (tokens_of (p ∷ rest)) e
put_none (part.Host text) rest found new e h = absurd h
put_none (part.Block b) rest found new e h = explains_then e (block_tokens b) (λ tokens. and_then (tokens_of rest) (λ others. Ok (tokens ∷ others))) h

module _ (parts : List Part) (whole : Result (List (List Token)) Fault) where
  here_is : (i : ℕ) (p : Part) → i < length parts → p ≡ get_or parts i p → drop i parts ≡ p ∷ drop (i + 1) parts
  here_is i p less item =
      let here : drop i parts ≡ get_or parts i p ∷ drop (i + 1) parts = rw (add-one, drop-cons parts i p) refl in
      here ∙ ap (λ z. z ∷ drop (i + 1) parts) (sym item)

  pub puts_more : (found new : List (List Token)) (i : ℕ) (p : Part) → i < length parts → p ≡ get_or parts i p → Puts p found (Ok tt) new
      → behind found (tokens_of (drop i parts)) ≡ whole → behind new (tokens_of (drop (i + 1) parts)) ≡ whole
  puts_more found new i p less item h e =
      put_one p (drop (i + 1) parts) found new h ∙ (ap (λ z. behind found (tokens_of z)) (sym (here_is i p less item)) ∙ e)

  pub puts_none : (found new : List (List Token)) (i : ℕ) (p : Part) (e : ReadFault) → i < length parts → p ≡ get_or parts i p → Puts p found (Err e) new
      → behind found (tokens_of (drop i parts)) ≡ whole → answers.Explains whole e
  puts_none found new i p e less item h same =
      explains_along e (behind found (tokens_of (p ∷ drop (i + 1) parts))) whole (ap (λ z. behind found (tokens_of z)) (sym (here_is i p less item)) ∙ same)
      (explains_then e (tokens_of (p ∷ drop (i + 1) parts)) (λ ys. Ok (found ++ ys)) (put_none p (drop (i + 1) parts) found new e h))

  pub puts_end : (found : List (List Token)) (i : ℕ) → length parts ≤ i → behind found (tokens_of (drop i parts)) ≡ whole → whole ≡ Ok found
  puts_end found i over e = sym e ∙ (ap (λ z. behind found (tokens_of z)) (drop_all i parts over) ∙ ap (λ z. Ok z) (append-nil found))
