use Rattle.std.proofs.Common.{ℕ, sym, subst, take}
use Rattle.rl_grammar.specs.declared.token.TokenKind.{TokenKind}
use Rattle.rl_lexical.specs.Words.{word_kind}
use Rattle.rl_lex.specs.Longest.{IsLongest}
use Rattle.rl_lex.proofs.WordLaws.{longest_word}
use Rattle.rl_lex.proofs.front.word.Goals as goal

pub returns : goal.returns
returns c = λ context.
    let text = c.args.text.now in
    let P : ℕ → Type 0 = λ n. IsLongest context text (word_kind (take n text)) n in
    let Q : TokenKind → Type 0 = λ kind. IsLongest context text kind c.word_len-len.result in
    subst Q (sym c.word_kind.ensures) (subst P (sym c.word_len-len.ensures.value) (longest_word context text c.requires))
