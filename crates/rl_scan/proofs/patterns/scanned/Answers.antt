use Rattle.std.proofs.Common.{sym, subst}
use Rattle.rl_automata.specs.Auto.{quiet}
use Rattle.rl_scan.specs.Beside.{side_auto, tokens_of}
use Rattle.rl_fsm.specs.Scanned.{Scanned}
use Rattle.rl_scan.specs.Scanners.{BuildsScanner}
use Rattle.rl_scan.proofs.WalkLaws.{built}
use Rattle.rl_scan.proofs.patterns.scanned.Goals as goal

pub returns-clause-builds : goal.returns-clause-builds
returns-clause-builds c =
    let ms = c.args.machines.now in
    let ts = c.args.tokens.now in
    subst (λ (s : Scanned). BuildsScanner (quiet (side_auto ms)) (tokens_of ms ts) s) (sym c.in_ok-scanner.ensures) (built ms ts _ _ c.in_ok-machine.ensures.builds c.in_ok-lists.ensures)
