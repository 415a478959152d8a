-- The tree machines of one specification under two honest tests are twins.
use Rattle.std.proofs.Common.{◌≡◌, ℕ, zero, suc, Bool, cond, List, [], ◌∷◌, length, refl, sym, ◌∙◌, ap, Option, Some, None, option_map}
use Rattle.rl_automata.specs.declared.moves.Move.{Move}
use Rattle.rl_automata.specs.Auto.{Auto}
use Rattle.rl_automata.specs.Follows.{Reach, renamed, Follows}
use Rattle.rl_automata.specs.Nodes.{Nothing}
use Rattle.rl_automata.specs.Scans.{Root, Plain, Scanner, scan_raw, TellsClosed}
use Rattle.rl_sets.proofs.SetLaws.{both_ways}
use Rattle.rl_automata.proofs.Congruence.{none_in, reach_along}
use Rattle.rl_automata.proofs.Congruence1.{start_same}
use Rattle.rl_automata.proofs.MarksLaws.{scan_order}
use Rattle.rl_automata.proofs.PruneLaws.{quiet_reach}
use Rattle.rl_automata.proofs.HonestLaws.{honest_agree}
use Rattle.rl_automata.proofs.ScanLaws.{scanners_agree, token_lists_agree}
use Rattle.rl_run.specs.Twin.{IsTwin}
use Rattle.rl_model.specs.Specification.{Specification, roots_of}
use Rattle.rl_model.specs.Parts.{PartFollows, StandsAt}
use Rattle.rl_model.specs.Trees.{Tests, IsHonest, list_or, root_part, root_at, AllTests, AreAllHonest, tests_at, ConfAt, TestsOf, AreTestsHonest, part_of, context_of, tree_machine}
use Rattle.rl_model.proofs.PartTwins.{part_twin}

-- two tests of which states no letter leaves agree
pub closed_same : {S T : Type 0} {A : Auto S} {B : Auto T} {f : S → T} (F : Follows A B f) (c : S → Bool) (d : T → Bool) → TellsClosed A c → TellsClosed B d → (s : S) → Reach A s → c s ≡ d (f s)
closed_same {S} {T} {A} {B} {f} F c d h k s r = both_ways _ _
    (λ e. (k (f s) (reach_along F s r)).1 (λ l. sym (F.step s r l) ∙ ap (option_map (renamed f)) ((h s r).0 e l)))
    (λ e. (h s r).1 (λ l. none_back (A.step s l) (F.step s r l ∙ (k (f s) (reach_along F s r)).0 e l)))
  where
    none_back : (o : Option (Move S)) → option_map (renamed f) o ≡ None → o ≡ None
    none_back None e = refl
    none_back (Some m) e = none_in (renamed f m) (sym e)

abbrev Followed : (x : Root) → Tests x → Tests x → Type 0
Followed x k k' = PartFollows (root_part x k) (root_part x k') (λ c. c)

root_follows : (x : Root) (k k' : Tests x) → IsHonest x k → IsHonest x k' → Followed x k k'
root_follows (Plain t) k k' h h' = record { auto = honest_agree t k k' h h'; is_scanner = refl; token = λ s r. refl; kind = λ s r. refl }
root_follows (Scanner ps) k k' h h' =
    let G = scanners_agree ps k.0 k'.0 h.0 h'.0 in
    record {
      auto = G;
      is_scanner = refl;
      token = λ c r. ap list_or (token_lists_agree ps k.0 k'.0 h.0 h'.0 c (quiet_reach (scan_raw ps k.0) c r));
      kind = λ c r i. cond (start_same (scan_order ps k.0) (scan_order ps k'.0) G c r i) 1
          (cond (G.final c r i) (cond (closed_same G k.1 k'.1 h.1 h'.1 c r i) 4 3) 2);
    }

all_follow : (xs : List Root) (k k' : AllTests xs) → AreAllHonest xs k → AreAllHonest xs k' → (e : ℕ) → Followed (root_at xs e) (tests_at xs k e) (tests_at xs k' e)
all_follow [] k k' h h' e = root_follows (Plain Nothing) tt tt tt tt
all_follow (x ∷ xs) k k' h h' zero = root_follows (Plain Nothing) tt tt tt tt
all_follow (x ∷ xs) k k' h h' (suc zero) = root_follows x k.0 k'.0 h.0 h'.0
all_follow (x ∷ xs) k k' h h' (suc (suc e)) = all_follow xs k.1 k'.1 h.1 h'.1 (suc e)

pub honest_twins : (spec : Specification) (k k' : TestsOf spec) → AreTestsHonest spec k → AreTestsHonest spec k' → IsTwin (tree_machine spec k) (tree_machine spec k') (λ a. a) (StandsAt (ConfAt spec) (ConfAt spec) (part_of spec k') (λ e c. c))
honest_twins spec k k' h h' =
    part_twin (ConfAt spec) (ConfAt spec) (part_of spec k) (part_of spec k') (λ e c. c) (all_follow (roots_of spec) k' k h' h) (length spec.entries) (context_of spec)
