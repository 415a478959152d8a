use Rattle.std.proofs.Common.{List, subst}
use Rattle.std.specs.Prelude.{IfOk, OnOk}
use Rattle.rl_automata.specs.Auto.{quiet}
use Rattle.rl_fsm.specs.Graphs.{Graph}
use Rattle.rl_scan.specs.Beside.{side_auto, tokens_of}
use Rattle.rl_fsm.specs.Scanned.{Scanned}
use Rattle.rl_scan.specs.Scanners.{BuildsScanner, HasNoScanCause}
use Rattle.rl_scan.proofs.FaultLaws.{if_ok_to}
use Rattle.rl_scan.proofs.SideLaws.{scanner_stands}
use Rattle.rl_scan.proofs.patterns.scanner.Goals as goal

pub returns-clause-builds : goal.returns-clause-builds
returns-clause-builds c =
    subst (λ (ms : List Graph). IfOk c.scanned.result (λ (s : Scanned). BuildsScanner (quiet (side_auto ms)) (tokens_of ms c.args.tokens.now) s)) c.as_slice.ensures.value c.scanned.ensures.builds

pub returns-clause-stands : goal.returns-clause-stands
returns-clause-stands c =
    let ts = c.args.tokens.now in
    let builds = subst (λ (ms : List Graph). IfOk c.scanned.result (λ (s : Scanned). BuildsScanner (quiet (side_auto ms)) (tokens_of ms ts) s)) c.as_slice.ensures.value c.scanned.ensures.builds in
    if_ok_to _ _ c.scanned.result (λ s z. scanner_stands c.args.patterns.items ts s z) builds

pub returns-clause-accepted : goal.returns-clause-accepted
returns-clause-accepted c = subst (λ (ms : List Graph). OnOk c.scanned.result (HasNoScanCause ms c.args.most)) c.as_slice.ensures.value c.scanned.ensures.accepted
