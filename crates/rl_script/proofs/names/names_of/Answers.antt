use Rattle.std.proofs.Common.{ap, ◌∙◌, ◌||◌, take}
use Rattle.std.specs.Str.{bytes_eq}
use Rattle.rl_replay.specs.Sessions.{has_name}
use Rattle.rl_script.proofs.NameLaws.{names_taken}
use Rattle.rl_script.proofs.names.names_of.Goals as goal

pub loop-name-preserved : goal.loop-name-preserved
loop-name-preserved c = λ name.
    let items = c.behind_first-name-items.result.now in
    let i = c.loop-name.name-index in
    c.in_ok-put.ensures.1 name
    ∙ ap (λ b. b || bytes_eq name c.bytes.result.now) (c.loop-name.invariant name)
    ∙ ap (λ item. has_name (take i items) name || bytes_eq name item) c.bytes.ensures
    ∙ names_taken items i c.name-item.result name c.loop-name-test.true c.name-item.is
