use Rattle.rl_model.specs.Specification.{specification_of}
use Rattle.rl_build.proofs.EntryLaws.{entries_ready, machines_of, entries_tests, entries_accepted}
use Rattle.rl_build.proofs.TwinLaws.{machines_twin}
use Rattle.rl_build.proofs.AnswerLaws.{ok_of, on_ok_of, err_of}
use Rattle.rl_build.proofs.entries.build.Goals as goal

pub machines-requires-clause-ready : goal.machines-requires-clause-ready
machines-requires-clause-ready c = entries_ready c.args.spec.now c.requires

pub machines-requires-clause-few : goal.machines-requires-clause-few
machines-requires-clause-few c = c.requires.few_entries

pub returns-clause-follows : goal.returns-clause-follows
returns-clause-follows c = ok_of _ _ _ c.machines.result (λ root h. machines_of c.args.spec.now.alphabet c.args.spec.now.entries root h) c.machines.ensures

pub returns-clause-tests : goal.returns-clause-tests
returns-clause-tests c = on_ok_of _ _ _ c.machines.result (λ root h. entries_tests c.args.spec.now.alphabet c.args.spec.now.entries root h) c.machines.ensures

pub returns-clause-twin : goal.returns-clause-twin
returns-clause-twin c = ok_of _ _ _ c.machines.result (λ root h. machines_twin (specification_of c.args.spec.now) root (machines_of c.args.spec.now.alphabet c.args.spec.now.entries root h)) c.machines.ensures

pub returns-clause-accepted : goal.returns-clause-accepted
returns-clause-accepted c = on_ok_of _ _ _ c.machines.result (λ root h. entries_accepted c.args.spec.now.alphabet c.args.spec.now.entries root h) c.machines.ensures

pub returns-clause-refused : goal.returns-clause-refused
returns-clause-refused c = err_of _ _ c.machines.result c.machines.ensures
