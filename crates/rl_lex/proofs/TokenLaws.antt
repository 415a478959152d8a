-- One token more.
use Rattle.std.proofs.Common.{◌≡◌, ℕ, zero, suc, ◌+◌, ◌<◌, cond, List, [], ◌∷◌, ◌++◌, length, drop, Result, Ok, Err, refl, sym, ap, ◌∙◌, arith, append_assoc}
use Rattle.std.specs.Prelude.{MatchResult, IfOk}
use Rattle.rl_types.specs.declared.faults.Fault.{Fault}
use Rattle.rl_grammar.specs.declared.read_fault.ReadFault.{ReadFault}
use Rattle.rl_grammar.specs.declared.read_fault.ReadFault.TheVariants as r
use Rattle.rl_grammar.specs.declared.token.Token.{Token}
use Rattle.rl_lexical.specs.declared.context.Context.{Context}
use Rattle.rl_lexical.specs.declared.position.Position.{Position}
use Rattle.rl_lexical.specs.Answers.{Explains, Gives}
use Rattle.rl_lexical.specs.Bytes.{is_empty}
use Rattle.rl_lexical.specs.Contexts.{context_behind, first_context}
use Rattle.rl_lexical.specs.Places.{position_behind}
use Rattle.rl_lexical.specs.Tokens.{next_position, next_text, end_token, token_at, before_others, then_others, tokens_from, AreSlices, EndsAt}
use Rattle.rl_lexical.proofs.EndLaws.{end_is_last}
use Rattle.rl_lexical.proofs.TokenLaws.{tokens_are_slices}
use Rattle.rl_lex.specs.declared.reader.After.{After}
use Rattle.rl_lex.specs.declared.reader.Next.TheVariants as t
use Rattle.rl_lex.specs.Steps.{IsNext, joined}

pub joined_none : (answer : Result (List Token) Fault) → joined [] answer ≡ answer
joined_none (Ok tokens) = refl
joined_none (Err fault) = refl

joined_more : (found : List Token) (token : Token) (answer : Result (List Token) Fault) → joined found (before_others token answer) ≡ joined (found ++ token ∷ []) answer
joined_more found token (Ok tokens) = ap (λ z. Ok z) (sym (append_assoc found (token ∷ []) tokens))
joined_more found token (Err fault) = refl

none_left : (context : Context) (at : Position) (text : List ℕ) → tokens_from 0 context at text ≡ Ok (end_token at ∷ [])
unfolding tokens_from
none_left context at text = refl

step : (n : ℕ) (context : Context) (at : Position) (text : List ℕ) → tokens_from (suc n) context at text
    ≡ cond (is_empty (next_text context text)) (Ok (end_token (next_position context at text) ∷ []))
    (then_others (token_at context (next_position context at text) (next_text context text))
    (λ token. tokens_from n (context_behind context token.kind token.text) (position_behind (next_position context at text) token.text)
    (drop (length token.text) (next_text context text))))
unfolding tokens_from
step n context at text = refl

-- the block ends
pub ends_here : (n : ℕ) (context : Context) (at here : Position) (text : List ℕ) → IsNext context at text (Ok (t.End here)) → tokens_from (suc n) context at text ≡ Ok (end_token here ∷ [])
ends_here n context at here text h = step n context at text ∙ rw h.1 (ap (λ z. Ok (end_token z ∷ [])) (sym h.0))

-- a token stands here
pub goes_on : (n : ℕ) (context : Context) (at : Position) (text : List ℕ) (x : After) → IsNext context at text (Ok (t.Token x))
    → tokens_from (suc n) context at text ≡ before_others x.token (tokens_from n x.context x.at x.rest.now)
goes_on n context at text x h = step n context at text ∙ rw h.0 (rw h.1 (rw (h.2.context_is, h.2.position, h.2.rest_is) refl))

-- no token stands here
pub stops : (n : ℕ) (context : Context) (at : Position) (text : List ℕ) (e : ReadFault) → IsNext context at text (Err e) → Explains (tokens_from (suc n) context at text) e
stops n context at text (r.Fault fault) h = step n context at text ∙ rw h.0 (rw h.1 refl)
stops n context at text (r.Limit limit) h = h.1
stops n context at text r.Memory h = h.1

-- what is found so far, and what is left to find
module _ (whole : Result (List Token) Fault) (found : List Token) (context : Context) (at : Position) (text : List ℕ) where
  pub found_all : (n : ℕ) → n ≡ 0 → joined found (tokens_from n context at text) ≡ whole → (answer : Result (List Token) ReadFault)
      → MatchResult answer (λ tokens. tokens ≡ found ++ end_token at ∷ []) (λ e. e ≡ r.Memory) → Gives whole answer
  found_all n z h (Ok tokens) e =
      let last : tokens_from n context at text ≡ Ok (end_token at ∷ []) = ap (λ m. tokens_from m context at text) z ∙ none_left context at text in
      sym h ∙ (ap (joined found) last ∙ ap (λ z. Ok z) (sym e))
  found_all n z h (Err e) m = rw m tt

  pub found_end : (n : ℕ) → 0 < n → joined found (tokens_from n context at text) ≡ whole → (here : Position) → IsNext context at text (Ok (t.End here))
      → (answer : Result (List Token) ReadFault) → MatchResult answer (λ tokens. tokens ≡ found ++ end_token here ∷ []) (λ e. e ≡ r.Memory) → Gives whole answer
  found_end zero l h here next answer m = absurd (omega arith)
  found_end (suc n) l h here next (Ok tokens) e = sym h ∙ (ap (joined found) (ends_here n context at here text next) ∙ ap (λ z. Ok z) (sym e))
  found_end (suc n) l h here next (Err e) m = rw m tt

  pub found_more : (n left : ℕ) → n ≡ left + 1 → joined found (tokens_from n context at text) ≡ whole → (x : After) → IsNext context at text (Ok (t.Token x))
      → joined (found ++ x.token ∷ []) (tokens_from left x.context x.at x.rest.now) ≡ whole
  found_more n left e h x next =
      let one : n ≡ suc left = omega arith in
      sym (joined_more found x.token (tokens_from left x.context x.at x.rest.now))
      ∙ (ap (joined found) (sym (ap (λ m. tokens_from m context at text) one ∙ goes_on left context at text x next)) ∙ h)

  pub found_refusal : (n : ℕ) → 0 < n → joined found (tokens_from n context at text) ≡ whole → (e : ReadFault) → IsNext context at text (Err e) → Explains whole e
  found_refusal zero l h e next = absurd (omega arith)
  found_refusal (suc n) l h (r.Fault fault) next = sym h ∙ ap (joined found) (stops n context at text (r.Fault fault) next)
  found_refusal (suc n) l h (r.Limit limit) next = stops n context at text (r.Limit limit) next
  found_refusal (suc n) l h r.Memory next = tt

-- the tokens that are read are slices of the block
pub of_the_block : (at : Position) (text : List ℕ) (answer : Result (List Token) ReadFault) → Gives (tokens_from (length text) first_context at text) answer
    → IfOk answer (λ tokens. AreSlices at text tokens)
of_the_block at text (Ok tokens) g = tokens_are_slices at text tokens g
of_the_block at text (Err e) g = tt

-- the last of the tokens that are read is the end of the block
pub at_the_end : (at : Position) (text : List ℕ) (answer : Result (List Token) ReadFault) → Gives (tokens_from (length text) first_context at text) answer
    → IfOk answer (λ tokens. EndsAt (position_behind at text) tokens)
at_the_end at text (Ok tokens) g = end_is_last at text tokens g
at_the_end at text (Err e) g = tt
