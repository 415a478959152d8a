-- Causes of faults go along with names.
use Rattle.std.proofs.Common.{◌≡◌, ℕ, ◌+◌, Bool, true, false, cond, List, [], ◌∷◌, Option, Some, None, option_map, ◌↔◌, refl, sym, ◌∙◌, ap, arith}
use Rattle.rl_types.specs.declared.numbers.Letter.{Letter}
use Rattle.rl_automata.specs.Auto.{Auto}
use Rattle.rl_automata.specs.Follows.{Reach, begun, Follows}
use Rattle.rl_automata.specs.Marks.{auto}
use Rattle.rl_automata.specs.Refused.{first_empty, or_later}
use Rattle.rl_automata.specs.Scans.{Pattern, PatternMarks, scan_jams}
use Rattle.rl_automata.proofs.CountLaws.{more_along}
use Rattle.rl_automata.proofs.JamLaws.{jams_along}
use Rattle.rl_fsm.specs.Graphs.{Graph, fsm_auto}
use Rattle.rl_explore.specs.declared.fault.BuildFault.TheVariants.{L6, L8, F12, F15, Memory}
use Rattle.rl_explore.specs.Numbers.{IsCause, HasNoCause}
use Rattle.rl_scan.specs.Beside.{side_jams, first_empty_from}
use Rattle.rl_scan.specs.Scanners.{AreBuiltOf, ScannerCauses}
use Rattle.rl_scan.proofs.SideLaws.{side_follows, side_jams_named}

-- what the number is where it is found among the later ones
later_moved : (i : ℕ) (o : Option ℕ) → option_map (λ j. j + (i + 1)) o ≡ option_map (λ j. j + i) (option_map (λ j. j + 1) o)
later_moved i None = refl
later_moved i (Some j) = ap Some (omega arith)

empty_along : (i : ℕ) (ps : List Pattern) (k : PatternMarks ps) (ms : List Graph) → AreBuiltOf ps k ms → first_empty_from i ms ≡ option_map (λ j. j + i) (first_empty ps k)
empty_along i [] k [] b = refl
empty_along i [] k (m ∷ ms) b = absurd b
empty_along i (p ∷ ps) k [] b = absurd b
empty_along i (p ∷ ps) k (m ∷ ms) b =
    let A = auto p.tree k.0 in
    let F = b.0.follows in
    let same : (fsm_auto m).final m.start ≡ A.final A.start = F.final m.start begun ∙ ap A.final F.start in
    ap (λ w. cond w (Some i) (first_empty_from (i + 1) ms)) same
    ∙ ap (cond (A.final A.start) (Some i)) (empty_along (i + 1) ps k.1 ms b.1 ∙ later_moved i (first_empty ps k.1))
    ∙ by (A.final A.start)
  where
    by : (b : Bool) → cond b (Some i) (option_map (λ j. j + i) (option_map (λ j. j + 1) (first_empty ps k.1))) ≡ option_map (λ j. j + i) (or_later b (first_empty ps k.1))
    by true = ap Some (omega arith)
    by false = refl

from_none : (o : Option ℕ) → option_map (λ j. j + 0) o ≡ o
from_none None = refl
from_none (Some j) = ap Some (omega arith)

module _ {S T : Type 0} {A : Auto S} {B : Auto T} {f : S → T} (F : Follows A B f) (jam : S → Letter → Bool) (jam' : T → Letter → Bool) (same : (c : S) → Reach A c → (l : Letter) → jam c l ≡ jam' (f c) l) (most : ℕ) where
  none_along : HasNoCause A jam most ↔ HasNoCause B jam' most
  none_along = (
    (λ h. ((λ q. h.0 ((more_along F 32767).1 q)), (λ q. h.1 ((more_along F most).1 q)), (λ q. h.2 ((jams_along F jam jam' same).1 q)))),
    (λ h. ((λ q. h.0 ((more_along F 32767).0 q)), (λ q. h.1 ((more_along F most).0 q)), (λ q. h.2 ((jams_along F jam jam' same).0 q)))),
  )

  cells_along : IsCause A jam most L8 ↔ IsCause B jam' most L8
  cells_along = (
    (λ h. ((λ q. h.0 ((more_along F 32767).1 q)), (more_along F most).0 h.1)),
    (λ h. ((λ q. h.0 ((more_along F 32767).0 q)), (more_along F most).1 h.1)),
  )

  cycle_along : IsCause A jam most F15 ↔ IsCause B jam' most F15
  cycle_along = (
    (λ h. ((λ q. h.0 ((more_along F 32767).1 q)), (λ q. h.1 ((more_along F most).1 q)), (jams_along F jam jam' same).0 h.2)),
    (λ h. ((λ q. h.0 ((more_along F 32767).0 q)), (λ q. h.1 ((more_along F most).0 q)), (jams_along F jam jam' same).1 h.2)),
  )

pub scanner_causes : ScannerCauses
scanner_causes ps k ms b most L6 = more_along (side_follows ps k ms b) 32767
scanner_causes ps k ms b most L8 = cells_along (side_follows ps k ms b) (side_jams ms) (scan_jams ps k) (side_jams_named ps k ms b) most
scanner_causes ps k ms b most F15 = cycle_along (side_follows ps k ms b) (side_jams ms) (scan_jams ps k) (side_jams_named ps k ms b) most
scanner_causes ps k ms b most (F12 i) =
    let n = none_along (side_follows ps k ms b) (side_jams ms) (scan_jams ps k) (side_jams_named ps k ms b) most in
    let e : first_empty_from 0 ms ≡ first_empty ps k = empty_along 0 ps k ms b ∙ from_none (first_empty ps k) in (
      (λ h. (n.0 h.0, sym e ∙ h.1)),
      (λ h. (n.1 h.0, e ∙ h.1)),
    )
scanner_causes ps k ms b most Memory = ((λ h. h), (λ h. h))
