use Rattle.std.proofs.Common.{◌++◌, Some, option_map, sym, ◌∙◌, ap}
use Rattle.std.specs.Bool.{then_some}
use Rattle.rl_replay.specs.declared.script.Event.TheVariants.{Piece}
use Rattle.rl_replay.specs.Script.{bytes_of}
use Rattle.rl_script.proofs.EventLaws.{feeds}
use Rattle.rl_script.proofs.events.feed.Goals as goal

pub returns-then-not-is_quoted : goal.returns-then-not-is_quoted
returns-then-not-is_quoted c =
    let s = c.args.session.now in
    let quoted = c.args.quoted.now in
    let new = c.push_bytes.new.bytes.items in
    ap (λ b. then_some b (Piece s new)) (sym c.if-not-is_quoted.true)
    ∙ feeds s quoted new c.in_ok-is_quoted.is_quoted
    (sym c.is_session.ensures ∙ c.if-not-is_session.false)
    (ap (λ old. option_map (λ bytes. old ++ bytes) (bytes_of quoted)) (sym c.new-bytes.ensures.items) ∙ c.in_ok-is_quoted.ensures)

pub returns : goal.returns
returns c =
    let s = c.args.session.now in
    let quoted = c.args.quoted.now in
    let new = c.push_bytes.new.bytes.items in
    ap (λ session. Some (Piece session c.from_vec.result)) c.in_ok-session.ensures
    ∙ ap (λ bytes. Some (Piece s bytes)) c.from_vec.ensures
    ∙ ap (λ b. then_some b (Piece s new)) (sym c.if-not-is_quoted.false)
    ∙ feeds s quoted new c.in_ok-is_quoted.is_quoted
    (sym c.is_session.ensures ∙ c.if-not-is_session.false)
    (ap (λ old. option_map (λ bytes. old ++ bytes) (bytes_of quoted)) (sym c.new-bytes.ensures.items) ∙ c.in_ok-is_quoted.ensures)
