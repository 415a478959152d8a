use Rattle.std.proofs.Common.{◌∙◌, ◌≤◌, sym, ap, take, drop, length, subst}
use Rattle.std.proofs.lemmas.List.Sums.{prefix_len-le-length}
use Rattle.rl_arrays.specs.Names.{is_name}
use Rattle.rl_cread.proofs.EntryLaws.{in_word, entry_cut, unnamed}
use Rattle.rl_cread.proofs.entry.entry_of.Goals as goal

pub split_at-requires : goal.split_at-requires
split_at-requires c = subst (λ n. n ≤ length c.args.text.now) (sym c.word_len.ensures) (prefix_len-le-length in_word c.args.text.now)

pub returns-then-not-is_name : goal.returns-then-not-is_name
returns-then-not-is_name c = λ word n f p e.
    unnamed c.args.text.now word n (ap is_name (ap (λ m. take m c.args.text.now) (sym c.word_len.ensures) ∙ sym c.split_at.ensures.front) ∙ sym c.is_name.ensures ∙ c.if-not-is_name.true) f e

pub returns-in-None : goal.returns-in-None
returns-in-None c = λ word n f p e.
    let k = entry_cut c.args.text.now word n f e in
    let none = rw c.in-None.is at c.in_ok-n.ensures in
    none n p (c.split_at.ensures.back ∙ ap (λ m. drop m c.args.text.now) c.word_len.ensures ∙ k.back)
