-- Causes of faults go along with names.
use Rattle.std.proofs.Common.{◌≡◌, ℕ, Bool, ◌||◌, ◌&&◌, not, ◌↔◌}
use Rattle.rl_types.specs.declared.numbers.Letter.{Letter}
use Rattle.rl_sets.proofs.OrderLaws.{nat_order}
use Rattle.rl_automata.specs.Auto.{Auto}
use Rattle.rl_automata.specs.Follows.{Reach, Follows}
use Rattle.rl_automata.proofs.Congruence.{both_follows, pair_name, cat_follows, chain_name}
use Rattle.rl_automata.proofs.Congruence1.{star_follows, set_name}
use Rattle.rl_automata.proofs.CountLaws.{more_along}
use Rattle.rl_automata.proofs.JamLaws.{both_jams_named, cat_jams_named, star_jams_named, jams_along}
use Rattle.rl_automata.proofs.MarksLaws.{auto_order}
use Rattle.rl_explore.specs.declared.fault.BuildFault.{BuildFault}
use Rattle.rl_explore.specs.declared.fault.BuildFault.TheVariants.{L6, L8, F12, F15, Memory}
use Rattle.rl_explore.specs.Numbers.{IsCause}
use Rattle.rl_ops.specs.Causes.{UnionCauses, AndCauses, MinusCauses, CatCauses, StarCauses}

module _ {S T : Type 0} {A : Auto S} {B : Auto T} {f : S → T} (F : Follows A B f) (jam : S → Letter → Bool) (jam' : T → Letter → Bool) (same : (c : S) → Reach A c → (l : Letter) → jam c l ≡ jam' (f c) l) (most : ℕ) where
  pub cause_along : (e : BuildFault) → IsCause A jam most e ↔ IsCause B jam' most e
  cause_along L6 = more_along F 32767
  cause_along L8 = (
    (λ h. ((λ q. h.0 ((more_along F 32767).1 q)), (more_along F most).0 h.1)),
    (λ h. ((λ q. h.0 ((more_along F 32767).0 q)), (more_along F most).1 h.1)),
  )
  cause_along (F12 i) = ((λ h. h), (λ h. h))
  cause_along F15 = (
    (λ h. ((λ q. h.0 ((more_along F 32767).1 q)), (λ q. h.1 ((more_along F most).1 q)), (jams_along F jam jam' same).0 h.2)),
    (λ h. ((λ q. h.0 ((more_along F 32767).0 q)), (λ q. h.1 ((more_along F most).0 q)), (jams_along F jam jam' same).1 h.2)),
  )
  cause_along Memory = ((λ h. h), (λ h. h))

pub union_causes : UnionCauses
union_causes s t k h a b x y most e =
    let test = λ (p : Bool) (q : Bool). p || q in
    cause_along (both_follows x.follows y.follows test) _ _ (both_jams_named x.follows y.follows test) most e

pub and_causes : AndCauses
and_causes s t k h a b x y most e =
    let test = λ (p : Bool) (q : Bool). p && q in
    cause_along (both_follows x.follows y.follows test) _ _ (both_jams_named x.follows y.follows test) most e

pub minus_causes : MinusCauses
minus_causes s t k h a b x y most e =
    let test = λ (p : Bool) (q : Bool). p && not q in
    cause_along (both_follows x.follows y.follows test) _ _ (both_jams_named x.follows y.follows test) most e

pub cat_causes : CatCauses
cat_causes s t k h a b x y most e =
    let o = auto_order t h in
    cause_along (cat_follows nat_order o x.follows y.follows) _ _ (cat_jams_named x.follows y.follows nat_order o) most e

pub star_causes : StarCauses
star_causes s k a base x most e =
    let o = auto_order s k in
    cause_along (star_follows nat_order o x.follows base) _ _ (star_jams_named nat_order o x.follows base) most e
