use Rattle.std.proofs.Common.{refl}
use Rattle.ragel_run.proofs.Steps.{said_here, nothing_here, no_words, no_memory}
use Rattle.ragel_run.proofs.WordLaws.{is_counted}
use Rattle.rl_words.specs.Told.{run_told, texts}
use Rattle.ragel_run.specs.Ends.{outside}
use Rattle.ragel_run.specs.Streamed.{input_of}
use Rattle.ragel_run.proofs.replay.run.Goals as goal

pub returns-in-Ok-run_words : goal.returns-in-Ok-run_words
returns-in-Ok-run_words g c =
    let o = outside (g.S.Store.held c.args.store.now) (g.S.Store.held c.run_form.new.store) (g.S.Store.faults c.args.store.now) (g.S.Store.faults c.run_form.new.store)
    (g.O.Sink.written c.args.out.now) (g.O.Sink.written c.run_form.new.out) (g.O.Sink.faults c.args.out.now) (g.O.Sink.faults c.run_form.new.out) in
    let i = input_of (g.I.Source.left c.args.input.now) (g.I.Source.left c.run_form.new.input) (g.I.Source.faults c.args.input.now) (g.I.Source.faults c.run_form.new.input) in
    said_here o i _ c.as_slice.result.now c.in-Ok.words.items _ c.run_form.result c.as_slice.ensures.value c.in-Ok.ensures c.in-Ok-run_words.ensures.said c.run_form.ensures

pub returns-in-Err-Usage : goal.returns-in-Err-Usage
returns-in-Err-Usage g c =
    let none = nothing_here c.args.words.now c.as_slice.result.now c.in-Ok.words.items _ c.as_slice.ensures.value c.in-Ok.ensures c.in-Err-Usage.field-0-is c.in-Err-Usage.ensures.refused in
    no_words _ _ _ none (refl, refl) refl refl (refl, refl)

pub returns : goal.returns
returns g c = no_memory _ _ _ (refl, refl) refl refl (refl, refl)

pub run_form-requires : goal.run_form-requires
run_form-requires g c = record { counted = is_counted (texts c.as_slice.result.now) (run_told c.in-Ok-run_words.form) c.in-Ok-run_words.ensures.said }
