use Rattle.std.proofs.Common.{◌≤◌, ◌+◌, ◌-◌, length, drop, take, arith, sym, ◌∙◌, ap, ◌∷◌}
use Rattle.std.proofs.lemmas.Bool.Decides.{nat_tests}
use Rattle.std.proofs.lemmas.List.{take_all, length-drop}
use Rattle.rl_replay.specs.Script.{lines_of}
use Rattle.rl_replay.proofs.LineTexts.{lines_at, lines_all}
use Rattle.rl_script.proofs.parts.next_line.Goals as goal

pub returns-in-Some-clause-lines : goal.returns-in-Some-clause-lines
returns-in-Some-clause-lines c =
    let text = c.args.text.now in
    let end = c.in-Some.end in
    let long : length (drop (end + 1) text) ≤ length text - (end + 1) = omega (arith, length-drop (end + 1) text) in
    (lines_at text end (sym c.place_of.ensures ∙ c.in-Some.is)).1 ∙ ap (λ rest. take end text ∷ lines_of rest) (sym (take_all (length text - (end + 1)) (drop (end + 1) text) long))

pub returns-in-None-clause-lines : goal.returns-in-None-clause-lines
returns-in-None-clause-lines c = lines_all c.args.text.now (sym c.place_of.ensures ∙ c.in-None.is) (grind (arith, nat_tests))
