use Rattle.std.proofs.Common.{◌≤◌, ◌+◌, ◌-◌, length, drop, take, arith, sym, ◌∙◌, ap, ◌∷◌}
use Rattle.std.proofs.lemmas.List.{take_all, length-drop}
use Rattle.rl_script.specs.Parts.{parts_at}
use Rattle.rl_script.proofs.PartLaws.{parts_cut, parts_whole}
use Rattle.rl_script.proofs.parts.cut_at.Goals as goal

pub returns-in-Some-clause-parts : goal.returns-in-Some-clause-parts
returns-in-Some-clause-parts c =
    let text = c.args.text.now in
    let place = c.in-Some.place in
    let long : length (drop (place + 1) text) ≤ length text - (place + 1) = omega (arith, length-drop (place + 1) text) in
    parts_cut c.args.separator text place (sym c.place_of.ensures ∙ c.in-Some.is)
    ∙ ap (λ rest. take place text ∷ parts_at c.args.separator rest) (sym (take_all (length text - (place + 1)) (drop (place + 1) text) long))

pub returns-in-None-clause-parts : goal.returns-in-None-clause-parts
returns-in-None-clause-parts c = parts_whole c.args.separator c.args.text.now (sym c.place_of.ensures ∙ c.in-None.is)
