use Rattle.std.proofs.Common.{◌≡◌, ◌<◌, ◌≤◌, length, MatchResult, subst, ap, ◌∙◌, arith}
use Rattle.rl_grammar.specs.declared.read_fault.ReadFault.TheVariants as reason
use Rattle.rl_names.specs.Frames.{variable_place}
use Rattle.rl_names.proofs.FrameLaws.{set_there, set_absent}
use Rattle.rl_names.proofs.frames.set_variable.Goals as goal

pub returns-then-at-len : goal.returns-then-at-len
returns-then-at-len c =
    let place : c.place_of-at.result ≡ variable_place c.args.name.now c.args.variables.now = c.place_of-at.ensures ∙ ap (variable_place c.args.name.now) c.as_slice.ensures in
    let less : c.place_of-at.result < length c.args.variables.now = omega arith in
    c.set.ensures
    ∙ set_there c.args.name.now c.args.text.now c.args.variables.now c.place_of-at.result (c.in_ok-name_of.field-0, c.in_ok-code_of.field-0) place less c.in_ok-name_of.ensures c.in_ok-code_of.ensures

pub returns-else-at-len : goal.returns-else-at-len
returns-else-at-len c =
    let place : c.place_of-at.result ≡ variable_place c.args.name.now c.args.variables.now = c.place_of-at.ensures ∙ ap (variable_place c.args.name.now) c.as_slice.ensures in
    let over : length c.args.variables.now ≤ variable_place c.args.name.now c.args.variables.now = omega (arith, place) in
    subst (λ z. MatchResult c.push.result (λ x. c.push.new.list ≡ z) (λ e. e ≡ reason.Memory))
    (set_absent c.args.name.now c.args.text.now c.args.variables.now (c.in_ok-name_of.field-0, c.in_ok-code_of.field-0) over c.in_ok-name_of.ensures c.in_ok-code_of.ensures) c.push.ensures
