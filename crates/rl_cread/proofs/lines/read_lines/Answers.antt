use Rattle.std.proofs.Common.{arith, ◌≡◌, ◌++◌, ◌∷◌, [], ◌+◌, length, map, sym, ap, ◌∙◌, subst}
use Rattle.rl_cread.specs.Lines.{SoFar}
use Rattle.rl_cread.proofs.Slots.{bad_end, bad_line, one_more, agrees_all, length_push, read_some, read_none}
use Rattle.rl_cread.proofs.lines.read_lines.Goals as goal

pub returns-in_default-clause-bad : goal.returns-in_default-clause-bad
returns-in_default-clause-bad c =
    bad_end c.args.name.now c.args.forms.now (map (λ line. line.now) c.args.lines.now) c.loop-i.found.items c.loop-i.i c.form_at-form.result c.loop-i.invariant.1 c.loop-i.invariant.0 c.form_at-form.ensures c.in_default.ensures

pub returns-in_default-2-clause-bad : goal.returns-in_default-2-clause-bad
returns-in_default-2-clause-bad c =
    bad_line c.args.name.now c.args.forms.now (map (λ line. line.now) c.args.lines.now) c.loop-i.found.items c.loop-i.i c.form_at-form.result c.in-Some.line.now c.loop-i.invariant.1 c.loop-i.invariant.0 c.form_at-form.ensures c.in-Some.ensures
    (read_none c.args.name.now c.form_at-form.result c.in-Some.line.now c.in_ok-said.field-0 c.in_default-2.is c.in_ok-said.ensures)

pub loop-i-preserved : goal.loop-i-preserved
loop-i-preserved c =
    let grown : c.push.new.self.items ≡ c.loop-i.found.items ++ (c.in-Some-2.said ∷ []) = c.in_ok-push.ensures.items in (
      ap length grown ∙ length_push c.loop-i.found.items c.in-Some-2.said ∙ ap (λ n. n + 1) c.loop-i.invariant.0,
      subst (SoFar c.args.name.now c.args.forms.now (map (λ line. line.now) c.args.lines.now)) (sym grown) (one_more c.args.name.now c.args.forms.now (map (λ line. line.now) c.args.lines.now) c.loop-i.found.items c.loop-i.i c.form_at-form.result c.in-Some.line.now c.in-Some-2.said
          c.loop-i.invariant.1 c.loop-i.invariant.0 c.form_at-form.ensures c.in-Some.ensures (read_some c.args.name.now c.form_at-form.result c.in-Some.line.now c.in_ok-said.field-0 c.in-Some-2.said c.in-Some-2.is c.in_ok-said.ensures)),
    )

pub returns-clause-found : goal.returns-clause-found
returns-clause-found c =
    let len : length c.loop-i.found.items ≡ length c.args.forms.now = omega (arith, c.loop-i.invariant.0) in
    agrees_all c.args.name.now c.args.forms.now (map (λ line. line.now) c.args.lines.now) c.loop-i.found.items c.loop-i.invariant.1 len
