use Rattle.std.proofs.Common.{◌≡◌, ◌∙◌, ap, map, subst, ℕ}
use Rattle.std.specs.Prelude.{IfOk, IfErr, IfSome, slice_get}
use Rattle.std.specs.Option.{option_copied}
use Rattle.rl_cread.specs.Sections.{lines_of, IsFirst}
use Rattle.rl_cread.specs.Found.{IsFound}
use Rattle.rl_cread.specs.Outcome.{IsReadAt, IsRefusedAt}
use Rattle.rl_cread.proofs.Outcomes.{read_result, told_result}
use Rattle.rl_cread.proofs.OnlyLaws.{only_result, only_none}
use Rattle.rl_cread.proofs.Explained.{read_numbers}
use Rattle.rl_cread.proofs.read.tables_in.Goals as goal

pub returns-in-Some-clause-read : goal.returns-in-Some-clause-read
returns-in-Some-clause-read c =
    let same : map (λ l. l.now) c.deref.result.now ≡ lines_of c.args.text.now = ap (map (λ l. l.now)) c.deref.ensures.value ∙ c.in_ok-lines.ensures in
    let also : map (λ l. l.now) c.deref-in-Some.result.now ≡ lines_of c.args.text.now = ap (map (λ l. l.now)) c.deref-in-Some.ensures.value ∙ c.in_ok-lines.ensures in
    read_result (option_copied c.args.machine) c.args.text.now c.in-Some.shared c.in-Some.name.now c.in-Some.at c.tables_at.result
    (subst (λ ls. IsFound (option_copied c.args.machine) ls c.in-Some.at c.in-Some.shared c.in-Some.name.now) same c.in-Some.ensures)
    (subst (λ ls. IfOk c.tables_at.result (IsReadAt c.in-Some.shared c.in-Some.name.now ls c.in-Some.at)) also c.tables_at.ensures.read)

pub returns-in-Some-clause-numbers : goal.returns-in-Some-clause-numbers
returns-in-Some-clause-numbers c =
    let same : map (λ l. l.now) c.deref.result.now ≡ lines_of c.args.text.now = ap (map (λ l. l.now)) c.deref.ensures.value ∙ c.in_ok-lines.ensures in
    let also : map (λ l. l.now) c.deref-in-Some.result.now ≡ lines_of c.args.text.now = ap (map (λ l. l.now)) c.deref-in-Some.ensures.value ∙ c.in_ok-lines.ensures in
    read_numbers (option_copied c.args.machine) c.args.text.now c.in-Some.shared c.in-Some.name.now c.in-Some.at c.tables_at.result
    (subst (λ ls. IsFound (option_copied c.args.machine) ls c.in-Some.at c.in-Some.shared c.in-Some.name.now) same c.in-Some.ensures)
    (subst (λ ls. IfOk c.tables_at.result (IsReadAt c.in-Some.shared c.in-Some.name.now ls c.in-Some.at)) also c.tables_at.ensures.read)

pub returns-in-Some-clause-told : goal.returns-in-Some-clause-told
returns-in-Some-clause-told c =
    let same : map (λ l. l.now) c.deref.result.now ≡ lines_of c.args.text.now = ap (map (λ l. l.now)) c.deref.ensures.value ∙ c.in_ok-lines.ensures in
    let also : map (λ l. l.now) c.deref-in-Some.result.now ≡ lines_of c.args.text.now = ap (map (λ l. l.now)) c.deref-in-Some.ensures.value ∙ c.in_ok-lines.ensures in
    told_result (option_copied c.args.machine) c.args.text.now c.in-Some.shared c.in-Some.name.now c.in-Some.at c.tables_at.result
    (subst (λ ls. IsFound (option_copied c.args.machine) ls c.in-Some.at c.in-Some.shared c.in-Some.name.now) same c.in-Some.ensures)
    (subst (λ ls. IfErr c.tables_at.result (IsRefusedAt c.in-Some.shared c.in-Some.name.now ls c.in-Some.at)) also c.tables_at.ensures.told)

pub returns-in-Some-clause-only : goal.returns-in-Some-clause-only
returns-in-Some-clause-only c =
    let same : map (λ l. l.now) c.deref.result.now ≡ lines_of c.args.text.now = ap (map (λ l. l.now)) c.deref.ensures.value ∙ c.in_ok-lines.ensures in
    let also : map (λ l. l.now) c.deref-in-Some.result.now ≡ lines_of c.args.text.now = ap (map (λ l. l.now)) c.deref-in-Some.ensures.value ∙ c.in_ok-lines.ensures in
    only_result (option_copied c.args.machine) c.args.text.now c.in-Some.shared c.in-Some.name.now c.in-Some.at c.tables_at.result
    (subst (λ ls. IsFound (option_copied c.args.machine) ls c.in-Some.at c.in-Some.shared c.in-Some.name.now) same c.in-Some.ensures)
    (subst (λ ls. IfOk c.tables_at.result (IsReadAt c.in-Some.shared c.in-Some.name.now ls c.in-Some.at)) also c.tables_at.ensures.read)
    (subst (λ ls. IfErr c.tables_at.result (IsRefusedAt c.in-Some.shared c.in-Some.name.now ls c.in-Some.at)) also c.tables_at.ensures.told)

pub returns-clause-only : goal.returns-clause-only
returns-clause-only c = λ a r fits v.
    let same : map (λ l. l.now) c.deref.result.now ≡ lines_of c.args.text.now = ap (map (λ l. l.now)) c.deref.ensures.value ∙ c.in_ok-lines.ensures in
    absurd (only_none (option_copied c.args.machine) c.args.text.now a (subst (λ ls. (k : ℕ) → IfSome (slice_get ls k) (λ line. IsFirst (option_copied c.args.machine) line → ⊥)) same c.in-None.ensures) r)
