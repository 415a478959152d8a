use Rattle.std.proofs.Common.{◌<◌, ◌^◌, List, length, refl, ap, sym, subst, ◌∙◌}
use Rattle.rl_replay.specs.declared.script.Line.{Line}
use Rattle.rl_replay.specs.Sessions.{fed, first_fault}
use Rattle.rl_arrays.specs.declared.arrays.Arrays.{Arrays}
use Rattle.rl_arrays.specs.TableMachine.{machine}
use Rattle.rl_replay.specs.Written.{written}
use Rattle.rl_script.specs.TableNames.{names_in}
use Rattle.rl_playback.proofs.Entries.{some_names}
use Rattle.rl_playback.proofs.Starting.{stands_before}
use Rattle.rl_playback.proofs.Lefts.{whole_text}
use Rattle.rl_playback.proofs.playback.lines_of_script.Goals as goal

pub play-requires : goal.play-requires
play-requires c =
    let P : List Line → Type 0 = λ lines. length (fed lines) < 2 ^ 63 in
    stands_before c.args.settings c.as_slice-lines.result.now c.args.tables.now _ _ c.arrays.ensures.valid
    (ap (λ lines. first_fault (names_in c.args.tables.now) lines) c.as_slice-lines.ensures ∙ c.requires.admitted)
    (subst P (sym c.as_slice-lines.ensures) c.requires.small)
    refl c.new-sessions.ensures refl c.new.ensures.items c.in_ok-books.ensures.answers c.in_ok-books.ensures.calls

pub returns : goal.returns
returns c =
    c.in_ok-push_all_left.ensures
    ∙ whole_text c.args.settings c.as_slice-lines.result.now c.args.tables.now _ _ c.in_ok-play.ensures
    ∙ ap (λ lines. written (names_in c.args.tables.now) (machine c.args.tables.now) c.args.settings lines) c.as_slice-lines.ensures

pub prove-unreachable-requires : goal.prove-unreachable-requires
prove-unreachable-requires c =
    some_names c.args.tables.now c.arrays.ensures.valid
    (sym (ap (λ (a : Arrays). a.entry_names) c.arrays.ensures.same) ∙ c.is_empty.ensures.0 c.if-prove.true)
