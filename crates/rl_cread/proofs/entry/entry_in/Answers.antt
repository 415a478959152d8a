use Rattle.std.proofs.Common.{◌≡◌, ◌∙◌, ◌++◌, sym, ap, List, ℕ}
use Rattle.rl_cread.specs.Elements.{entry_front}
use Rattle.rl_cread.proofs.EntryLaws.{entry_result, no_entry}
use Rattle.rl_cread.proofs.entry.entry_in.Goals as goal

pub returns-in-Some : goal.returns-in-Some
returns-in-Some c =
    let front : c.as_slice.result.now ≡ entry_front c.args.name.now = c.as_slice.ensures.value ∙ c.in_ok-front.ensures in
    entry_result c.args.name.now c.args.line.now c.in-Some.text.now c.entry_of.result (c.in-Some.ensures ∙ ap (λ (t : List ℕ). t ++ c.in-Some.text.now) front) c.entry_of.ensures

pub returns : goal.returns
returns c =
    let front : c.as_slice.result.now ≡ entry_front c.args.name.now = c.as_slice.ensures.value ∙ c.in_ok-front.ensures in
    λ word n f p e. no_entry c.args.name.now c.args.line.now (λ text k. c.in-None.ensures text (k ∙ ap (λ (t : List ℕ). t ++ text) (sym front))) word n e
