use Rattle.std.proofs.Common.{ap, sym, subst}
use Rattle.std.specs.Prelude.{MatchResult}
use Rattle.rl_model.specs.Specification.{root_of}
use Rattle.rl_build.specs.Entries.{IsFitRoot, IsEntryBuilt, IsRootRefused}
use Rattle.rl_build.proofs.entries.machine_of.Goals as goal

pub plain-requires : goal.plain-requires
plain-requires c = subst IsFitRoot (ap root_of c.in-Plain.is) c.requires

pub scanned-requires : goal.scanned-requires
scanned-requires c = rw c.as_slice.ensures (subst IsFitRoot (ap root_of c.in-Scanner.is) c.requires)

pub returns-in-Plain : goal.returns-in-Plain
returns-in-Plain c = subst (λ x. MatchResult c.plain.result (IsEntryBuilt c.args.alphabet x) (IsRootRefused c.args.alphabet x)) (ap root_of (sym c.in-Plain.is)) c.plain.ensures

pub returns-in-Scanner : goal.returns-in-Scanner
returns-in-Scanner c =
    subst (λ x. MatchResult c.scanned.result (IsEntryBuilt c.args.alphabet x) (IsRootRefused c.args.alphabet x)) (ap root_of (sym c.in-Scanner.is)) (rw c.as_slice.ensures at c.scanned.ensures)
