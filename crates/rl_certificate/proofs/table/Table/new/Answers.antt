use Rattle.std.proofs.Common.{◌≡◌, ℕ, Option, Vec, Global, List, map, option_map, ap, sym, ◌∙◌, subst, rules}
use Rattle.std.specs.List.{range_with_len}
use Rattle.rl_types.specs.declared.numbers.Letter.{Letter}
use Rattle.rl_certificate.specs.Tables.{word_in, IsSquare}
use Rattle.rl_certificate.proofs.SearchLetters.{mapped_more}
use Rattle.rl_certificate.proofs.TableLaws.{blank, blank_none, blank_square}
use Rattle.rl_certificate.proofs.table.Table.new.Goals as goal

abbrev words : Vec (Option (Vec Letter Global)) Global → List (Option (List Letter))
words row = map (option_map (λ (word : Vec Letter Global). word.items)) row.items

pub loop-state-preserved : goal.loop-state-preserved
loop-state-preserved c =
    ap (map words) c.in_ok-push.ensures
    ∙ mapped_more words (λ (i : ℕ). blank
    (range_with_len 0 c.args.states)) c.loop-state.rows.items c.in_ok-row.row 0 c.loop-state._state c.loop-state.invariant c.in_ok-row.ensures

pub returns-clause-square : goal.returns-clause-square
returns-clause-square c =
    let last : c.loop-state._state ≡ c.args.states = search rules in
    subst (IsSquare c.args.states) (sym (c.loop-state.invariant ∙ ap (λ n. map (λ (i : ℕ). blank (range_with_len 0 c.args.states))
    (range_with_len 0 n)) last)) (blank_square c.args.states)

pub returns-clause-none : goal.returns-clause-none
returns-clause-none c = λ i j.
    ap (λ w. word_in w i j) c.loop-state.invariant ∙ blank_none (range_with_len 0 c.loop-state._state) (range_with_len 0 c.args.states) i j
