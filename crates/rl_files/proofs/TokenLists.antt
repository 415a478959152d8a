-- The tokens of a block end once, and each is what its kind says.
use Rattle.std.proofs.Common.{◌≡◌, ℕ, zero, suc, ◌^◌, ◌<◌, true, false, List, [], ◌∷◌, length, drop, Ok, inl, inr, refl, sym, ap, ◌∙◌, subst, arith}
use Rattle.std.specs.Prelude.{◌&&◌, not}
use Rattle.std.specs.List.{All}
use Rattle.std.proofs.lemmas.Bool.{cases_Bool, false≢true}
use Rattle.rl_arrays.specs.Names.{is_name}
use Rattle.rl_grammar.specs.Lexeme.{same_kind}
use Rattle.rl_grammar.specs.Literals.{number}
use Rattle.rl_grammar.specs.Refusals.{ends_once}
use Rattle.rl_grammar.specs.declared.token.Token.{Token}
use Rattle.rl_grammar.specs.declared.token.TokenKind.TheVariants as k
use Rattle.rl_lexical.specs.Blocks.{SourceBlock, body_text}
use Rattle.rl_lexical.specs.Bytes.{is_empty}
use Rattle.rl_lexical.specs.Contexts.{context_behind, first_context}
use Rattle.rl_lexical.specs.Places.{position_behind}
use Rattle.rl_lexical.specs.Tokens.{next_position, next_text, end_token, token_at, tokens_from, block_tokens}
use Rattle.rl_lexical.specs.declared.context.Context.{Context}
use Rattle.rl_lexical.specs.declared.part.Part.{Part}
use Rattle.rl_lexical.specs.declared.part.Part.TheVariants as part
use Rattle.rl_lexical.specs.declared.position.Position.{Position}
use Rattle.rl_files.specs.Blocks.{AreTokens, AllTokens}
use Rattle.rl_files.specs.Files.{tokens_of}
use Rattle.rl_files.specs.Results.{and_then}
use Rattle.rl_files.proofs.TokenForms.{IsToken, token_holds, result_cases, same_ok, err_ok}

-- what holds of an item and of all others holds of all
pub all_more : {X : Type 0} (P : X → Type 0) (x : X) (xs : List X) → P x → All P xs → All P (x ∷ xs)
all_more P x xs p ps zero d l = p
all_more P x xs p ps (suc i) d l = ps i d (omega arith)

pub all_none : {X : Type 0} (P : X → Type 0) → All P []
all_none P i d l = absurd (omega arith)

abbrev NumberFits : Token → Type 0
NumberFits t = t.kind ≡ k.Integer → number t.text < 2 ^ 63

abbrev NameHolds : Token → Type 0
NameHolds t = t.kind ≡ k.Name → is_name t.text ≡ true

end_alone : (at : Position) → AreTokens (end_token at ∷ [])
unfolding same_kind
end_alone at = record {
  ended = refl;
  numbers = all_more NumberFits (end_token at) [] (λ e. absurd (end_no_integer e)) (all_none NumberFits);
  names = all_more NameHolds (end_token at) [] (λ e. absurd (end_no_name e)) (all_none NameHolds);
}
  where
    end_no_integer : k.End ≡ k.Integer → ⊥
    end_no_integer e = cc

    end_no_name : k.End ≡ k.Name → ⊥
    end_no_name e = cc

ended_more : (t : Token) (ts : List Token) → same_kind t.kind k.End ≡ false → ends_once ts ≡ true → ends_once (t ∷ ts) ≡ true
ended_more t [] other h = absurd (false≢true h)
ended_more t (u ∷ us) other h = ap (λ z. not z && ends_once (u ∷ us)) other ∙ h

token_more : (t : Token) (ts : List Token) → IsToken t → AreTokens ts → AreTokens (t ∷ ts)
token_more t ts h hs = record {
  ended = ended_more t ts h.no_end hs.ended;
  numbers = all_more NumberFits t ts h.integer hs.numbers;
  names = all_more NameHolds t ts h.name hs.names;
}

from_here : (n : ℕ) (context : Context) (at : Position) (text : List ℕ) (ts : List Token) → tokens_from n context at text ≡ Ok ts → AreTokens ts
unfolding tokens_from
from_here zero context at text ts e = subst AreTokens (same_ok (end_token at ∷ []) ts e) (end_alone at)
from_here (suc n) context at text ts e =
    let here = next_position context at text in
    let rest = next_text context text in
    elim (cases_Bool (is_empty rest)) [
      | inl none ↦ subst AreTokens (same_ok (end_token here ∷ []) ts (rw none at e)) (end_alone here)
      | inr some ↦
          let all = rw some at e in
          elim (result_cases (token_at context here rest)) [
            | inl one ↦
                let token = one.0 in
                let more = rw one.1 at all in
                elim (result_cases (tokens_from n (context_behind context token.kind token.text) (position_behind here token.text) (drop (length token.text) rest))) [
                  | inl others ↦
                      let same : token ∷ others.0 ≡ ts = same_ok (token ∷ others.0) ts (rw others.1 at more) in
                      subst AreTokens same (token_more token others.0 (token_holds context here rest token one.1)
                      (from_here n (context_behind context token.kind token.text) (position_behind here token.text) (drop (length token.text) rest) others.0 others.1))
                  | inr fault ↦ let failed = rw fault.1 at more in absurd (err_ok _ ts failed)
                ]
            | inr fault ↦ let failed = rw fault.1 at all in absurd (err_ok _ ts failed)
          ]
    ]

pub block_holds : (block : SourceBlock) (ts : List Token) → block_tokens block ≡ Ok ts → AreTokens ts
block_holds block ts e = from_here (length (body_text block)) first_context block.body.at (body_text block) ts e

pub parts_hold : (parts : List Part) (blocks : List (List Token)) → tokens_of parts ≡ Ok blocks → AllTokens blocks
parts_hold [] blocks e = subst AllTokens (same_ok [] blocks e) tt
parts_hold (part.Host text ∷ parts) blocks e = parts_hold parts blocks e
parts_hold (part.Block block ∷ parts) blocks e = elim (result_cases (block_tokens block)) [
  | inl one ↦
      let more : and_then (tokens_of parts) (λ others. Ok (one.0 ∷ others)) ≡ Ok blocks =
      ap (λ z. and_then z (λ tokens. and_then (tokens_of parts) (λ others. Ok (tokens ∷ others)))) (sym one.1) ∙ e in
      elim (result_cases (tokens_of parts)) [
        | inl others ↦
            let same : one.0 ∷ others.0 ≡ blocks = same_ok (one.0 ∷ others.0) blocks (ap (λ z. and_then z (λ others. Ok (one.0 ∷ others))) (sym others.1) ∙ more) in
            subst AllTokens same (block_holds block one.0 one.1, parts_hold parts others.0 others.1)
        | inr fault ↦ absurd (err_ok fault.0 blocks (ap (λ z. and_then z (λ others. Ok (one.0 ∷ others))) (sym fault.1) ∙ more))
      ]
  | inr fault ↦ absurd (err_ok fault.0 blocks (ap (λ z. and_then z (λ tokens. and_then (tokens_of parts) (λ others. Ok (tokens ∷ others)))) (sym fault.1) ∙ e))
]
