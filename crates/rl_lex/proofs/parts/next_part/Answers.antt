use Rattle.std.proofs.Common.{◌≡◌, ◌∙◌, eqb, false, sym}
use Rattle.std.proofs.lemmas.Bool.{ne_eqb}
use Rattle.rl_lexical.specs.Parts.{host_len}
use Rattle.rl_lex.proofs.PartLaws.{host_here, block_here}
use Rattle.rl_lex.proofs.parts.next_part.Goals as goal

pub returns-then-len-eq0 : goal.returns-then-len-eq0
returns-then-len-eq0 c =
    let none : host_len c.args.fresh c.args.text.now ≡ 0 = sym c.host_len-len.ensures.value ∙ c.if-len-eq0.true in
    block_here c.args.fresh c.args.at c.args.text.now c.requires.some none c.block_part.result c.block_part.ensures

pub returns-else-len-eq0 : goal.returns-else-len-eq0
returns-else-len-eq0 c =
    let more : eqb c.host_len-len.result 0 ≡ false = ne_eqb c.host_len-len.result 0 c.if-len-eq0.false in
    host_here c.args.fresh c.args.at c.args.text.now c.requires.some c.host_len-len.result c.host_len-len.ensures.value more c.host_part.result c.host_part.ensures
