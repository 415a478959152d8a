use Rattle.std.proofs.Common.{◌≡◌, false, Ok, sym, ap, ◌∙◌}
use Rattle.std.specs.List.{list_any}
use Rattle.std.specs.Str.{bytes_eq}
use Rattle.rl_names.specs.Bases.{kept_base}
use Rattle.rl_names.specs.Drafts.{names_of, scope_behind, definition_read, definition_behind}
use Rattle.rl_names.specs.Frames.{with_name}
use Rattle.rl_names.specs.TableForms.{texts}
use Rattle.rl_names.proofs.AddLaws.{added, names_added, pushed}
use Rattle.rl_names.proofs.definitions.add.Goals as goal

pub returns : goal.returns
returns c =
    let k = kept_base c.args.base.now in
    let earlier = c.args.list.now in
    let d = c.args.one.now in
    let x = c.in_ok-read.read in
    let miss : list_any (bytes_eq d.name.text) (names_of earlier) ≡ false =
    ap (list_any (bytes_eq d.name.text)) (sym c.requires) ∙ (ap (λ z. list_any (bytes_eq z) (texts c.args.names.now)) (sym c.as_slice-name.ensures) ∙ (sym c.has.ensures ∙ c.if-has.false)) in
    let read : definition_read (scope_behind k (names_of earlier) earlier d.name.text) d ≡ Ok x =
    ap (λ z. definition_read (scope_behind k z earlier d.name.text) d) (sym c.requires)
    ∙ (ap (λ z. definition_read (scope_behind k (texts c.args.names.now) z d.name.text) d) (sym c.as_slice.ensures) ∙ c.in_ok-read.ensures) in
    let names : texts c.put.new.table ≡ with_name (names_of earlier) d.name.text =
    c.in_ok-put.ensures.1 ∙ (ap (λ z. with_name z c.as_slice-name.result.now) c.requires ∙ ap (with_name (names_of earlier)) c.as_slice-name.ensures) in
    let named = names ∙ names_added (scope_behind k (names_of earlier) earlier d.name.text) earlier d x miss read in
    pushed (definition_behind k earlier d) c.push.result c.push.ensures
    (λ e. (added k earlier d x miss read ∙ ap (λ z. Ok z) (sym e), named ∙ ap names_of (sym e)))
