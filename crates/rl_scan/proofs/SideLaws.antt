-- Machines side by side go along with the scanner of the patterns that they are built of.
use Rattle.std.proofs.Common.{◌≡◌, ℕ, ℤ, false, cond, not, ◌&&◌, ◌||◌, List, [], ◌∷◌, ◌++◌, map, refl, sym, ◌∙◌, ap, subst, Option, Some, None, option_map, bit_or}
use Rattle.rl_types.specs.declared.numbers.Letter.{Letter}
use Rattle.rl_types.specs.declared.numbers.ActionId.{ActionId}
use Rattle.rl_labels.specs.declared.carry.Carry.{Carry}
use Rattle.rl_labels.specs.Carries.{no_carry}
use Rattle.rl_labels.specs.Labels.{stamps_of, once}
use Rattle.rl_automata.specs.declared.moves.Move.{Move}
use Rattle.rl_automata.specs.declared.tree.Kind.{Kind}
use Rattle.rl_automata.specs.Auto.{Auto, on_part, first, listed, carries, targets, kept, step_to, part_moves, is_none_left, quiet}
use Rattle.rl_automata.specs.Follows.{Reach, begun, renamed, Follows}
use Rattle.rl_automata.specs.Marks.{auto}
use Rattle.rl_automata.specs.Scans.{Pattern, Confs, PatternMarks, ArePatternsHonest, scan_raw, scan_jams, starts, all_carried, kept_confs, kept_carries, ends_token, token_out, token_list, with_token, confs_marks, confs_asked}
use Rattle.rl_automata.proofs.Settle.{carries-renamed, targets-renamed, kept-renamed}
use Rattle.rl_automata.proofs.Congruence.{AllIn, PartReach, reach_all, reach_along, steps_reach, first_reach, kept_all, targets_all, step_to_to, part_steps, part_told, some_in, none_in, follows_on}
use Rattle.rl_automata.proofs.Congruence1.{quiet_follows}
use Rattle.rl_automata.proofs.PruneLaws.{quiet_reach}
use Rattle.rl_fsm.specs.Graphs.{Graph, fsm_auto}
use Rattle.rl_fsm.proofs.Walks.{reaches_each}
use Rattle.rl_scan.specs.Beside.{first_part, behind, steps_at, carried, kept_parts, kept_labels, any_final, first_out, first_token, tokens_of, all_marks, all_asked, all_starts, side_auto, side_jams}
use Rattle.rl_fsm.specs.Scanned.{Scanned}
use Rattle.rl_scan.specs.Scanners.{BuildsScanner, ScannerStandsFor, StandForPatterns, AreBuiltOf}

-- ---- one machine

first_mapped : {S T : Type 0} (f : S → T) (ss : List S) → option_map f (first ss) ≡ first (map f ss)
first_mapped f [] = refl
first_mapped f (s ∷ ss) = refl

abbrev part_step : {S : Type 0} → Auto S → Letter → Option S → Option (Move S)
part_step A l o = on_part None (λ s. A.step s l) o

part_reach : {S : Type 0} (A : Auto S) (l : Letter) (o : Option S) → PartReach A o → AllIn (λ n. Reach A n.to) (listed (part_step A l o))
part_reach A l None r n i = absurd i
part_reach A l (Some s) r n i = steps_reach s l r n i

module _ {S T : Type 0} {A : Auto S} {B : Auto T} {f : S → T} (F : Follows A B f) where
  step_named : (l : Letter) (o : Option S) → PartReach A o → map (renamed f) (listed (part_step A l o)) ≡ part_moves B l (option_map f o)
  step_named l None r = refl
  step_named l (Some s) r = part_steps F (Some s) l r

  carries_named : (l : Letter) (o : Option S) → PartReach A o → carries (listed (part_step A l o)) ≡ carries (part_moves B l (option_map f o))
  carries_named l o r = sym (carries-renamed f (listed (part_step A l o))) ∙ ap carries (step_named l o r)

  kept_named : (all : List Carry) (l : Letter) (o : Option S) → PartReach A o → map (renamed f) (kept all (listed (part_step A l o))) ≡ kept all (part_moves B l (option_map f o))
  kept_named all l o r = sym (kept-renamed f all (listed (part_step A l o))) ∙ ap (kept all) (step_named l o r)

  labels_named : (all : List Carry) (l : Letter) (o : Option S) → PartReach A o → carries (kept all (listed (part_step A l o))) ≡ carries (kept all (part_moves B l (option_map f o)))
  labels_named all l o r = sym (carries-renamed f (kept all (listed (part_step A l o)))) ∙ ap carries (kept_named all l o r)

  target_named : (all : List Carry) (l : Letter) (o : Option S) → PartReach A o → option_map f (first (targets (kept all (listed (part_step A l o))))) ≡ first (targets (kept all (part_moves B l (option_map f o))))
  target_named all l o r =
      first_mapped f (targets (kept all (listed (part_step A l o))))
      ∙ ap first (sym (targets-renamed f (kept all (listed (part_step A l o)))) ∙ ap targets (kept_named all l o r))

  apart_part : (o p : Option S) → PartReach A o → PartReach A p → option_map f o ≡ option_map f p → o ≡ p
  apart_part None None r q e = refl
  apart_part None (Some t) r q e = none_in (f t) e
  apart_part (Some s) None r q e = none_in (f s) (sym e)
  apart_part (Some s) (Some t) r q e = ap Some (F.apart s t r q (some_in (f s) (f t) e))

-- ---- what is reached

-- there is a part for each machine, which it reaches
abbrev pub SideReach : List Graph → List (Option ℕ) → Type 0
SideReach [] [] = Unit {0}
SideReach [] (o ∷ c) = ⊥
SideReach (m ∷ ms) [] = ⊥
SideReach (m ∷ ms) (o ∷ c) = PartReach (fsm_auto m) o × SideReach ms c

starts_reach : (ms : List Graph) → SideReach ms (all_starts ms)
starts_reach [] = tt
starts_reach (m ∷ ms) = (begun, starts_reach ms)

kept_reach : (ms : List Graph) (all : List Carry) (c : List (Option ℕ)) (l : Letter) → SideReach ms c → SideReach ms (kept_parts all (steps_at ms c l))
kept_reach [] all c l r = tt
kept_reach (m ∷ ms) all [] l r = absurd r
kept_reach (m ∷ ms) all (o ∷ c) l r =
    let A = fsm_auto m in
    let ns = listed (part_step A l o) in (
      first_reach (targets (kept all ns)) (targets_all (Reach A) (kept all ns) (kept_all (λ n. Reach A n.to) all ns (part_reach A l o r.0))),
      kept_reach ms all c l r.1,
    )

pub side_reach : (ms : List Graph) (c : List (Option ℕ)) → Reach (side_auto ms) c → SideReach ms c
side_reach ms = reach_all (SideReach ms) (starts_reach ms) (λ c r h l n e.
    let os = steps_at ms c l in
    subst (SideReach ms) (step_to_to (kept_parts (carried os) os) (kept_labels (carried os) os) n e) (kept_reach ms (carried os) c l h))

-- ---- names

abbrev pub side_name : (ps : List Pattern) (k : PatternMarks ps) (ms : List Graph) → AreBuiltOf ps k ms → List (Option ℕ) → Confs ps
side_name [] k ms b c = tt
side_name (p ∷ ps) k [] b c = absurd b
side_name (p ∷ ps) k (m ∷ ms) b c = (option_map b.0.name (first_part c), side_name ps k.1 ms b.1 (behind c))

starts_named : (ps : List Pattern) (k : PatternMarks ps) (ms : List Graph) (b : AreBuiltOf ps k ms) → side_name ps k ms b (all_starts ms) ≡ starts ps k
starts_named [] k ms b = refl
starts_named (p ∷ ps) k [] b = absurd b
starts_named (p ∷ ps) k (m ∷ ms) b = λ i. (Some (b.0.follows.start i), starts_named ps k.1 ms b.1 i)

carried_named : (ps : List Pattern) (k : PatternMarks ps) (ms : List Graph) (b : AreBuiltOf ps k ms) (c : List (Option ℕ)) → SideReach ms c → (l : Letter) → carried (steps_at ms c l) ≡ all_carried ps k (side_name ps k ms b c) l
carried_named [] k [] b c r l = refl
carried_named [] k (m ∷ ms) b c r l = absurd b
carried_named (p ∷ ps) k [] b c r l = absurd b
carried_named (p ∷ ps) k (m ∷ ms) b [] r l = absurd r
carried_named (p ∷ ps) k (m ∷ ms) b (o ∷ c) r l = λ i. carries_named b.0.follows l o r.0 i ++ carried_named ps k.1 ms b.1 c r.1 l i

parts_named : (ps : List Pattern) (k : PatternMarks ps) (ms : List Graph) (b : AreBuiltOf ps k ms) (all : List Carry) (c : List (Option ℕ)) → SideReach ms c → (l : Letter) → side_name ps k ms b (kept_parts all (steps_at ms c l)) ≡ kept_confs ps k all (side_name ps k ms b c) l
parts_named [] k ms b all c r l = refl
parts_named (p ∷ ps) k [] b all c r l = absurd b
parts_named (p ∷ ps) k (m ∷ ms) b all [] r l = absurd r
parts_named (p ∷ ps) k (m ∷ ms) b all (o ∷ c) r l = λ i. (target_named b.0.follows all l o r.0 i, parts_named ps k.1 ms b.1 all c r.1 l i)

kept_are_named : (ps : List Pattern) (k : PatternMarks ps) (ms : List Graph) (b : AreBuiltOf ps k ms) (all : List Carry) (c : List (Option ℕ)) → SideReach ms c → (l : Letter) → kept_labels all (steps_at ms c l) ≡ kept_carries ps k all (side_name ps k ms b c) l
kept_are_named [] k [] b all c r l = refl
kept_are_named [] k (m ∷ ms) b all c r l = absurd b
kept_are_named (p ∷ ps) k [] b all c r l = absurd b
kept_are_named (p ∷ ps) k (m ∷ ms) b all [] r l = absurd r
kept_are_named (p ∷ ps) k (m ∷ ms) b all (o ∷ c) r l = λ i. labels_named b.0.follows all l o r.0 i ++ kept_are_named ps k.1 ms b.1 all c r.1 l i

final_named : (ps : List Pattern) (k : PatternMarks ps) (ms : List Graph) (b : AreBuiltOf ps k ms) (c : List (Option ℕ)) → SideReach ms c → any_final ms c ≡ ends_token ps k (side_name ps k ms b c)
final_named [] k [] b c r = refl
final_named [] k (m ∷ ms) b c r = absurd b
final_named (p ∷ ps) k [] b c r = absurd b
final_named (p ∷ ps) k (m ∷ ms) b [] r = absurd r
final_named (p ∷ ps) k (m ∷ ms) b (o ∷ c) r =
    let F = b.0.follows in
    λ i. part_told F false (fsm_auto m).final (auto p.tree k.0).final F.final o r.0 i || final_named ps k.1 ms b.1 c r.1 i

out_named : (ps : List Pattern) (k : PatternMarks ps) (ms : List Graph) (b : AreBuiltOf ps k ms) (c : List (Option ℕ)) → SideReach ms c → first_out ms c ≡ token_out ps k (side_name ps k ms b c)
out_named [] k [] b c r = refl
out_named [] k (m ∷ ms) b c r = absurd b
out_named (p ∷ ps) k [] b c r = absurd b
out_named (p ∷ ps) k (m ∷ ms) b [] r = absurd r
out_named (p ∷ ps) k (m ∷ ms) b (o ∷ c) r =
    let F = b.0.follows in
    λ i. cond (part_told F false (fsm_auto m).final (auto p.tree k.0).final F.final o r.0 i) (part_told F no_carry (fsm_auto m).out (auto p.tree k.0).out F.out o r.0 i)
    (out_named ps k.1 ms b.1 c r.1 i)

-- each token has its pattern's action
abbrev pub HaveTokens : List Pattern → List (Option ActionId) → Type 0
HaveTokens [] ts = Unit {0}
HaveTokens (p ∷ ps) ts = (p.token ≡ first_token ts) × HaveTokens ps (behind ts)

pub tokens_named : (ps : List Pattern) (k : PatternMarks ps) (ms : List Graph) (b : AreBuiltOf ps k ms) (ts : List (Option ActionId)) → HaveTokens ps ts → (c : List (Option ℕ)) → SideReach ms c → tokens_of ms ts c ≡ token_list ps k (side_name ps k ms b c)
tokens_named [] k [] b ts h c r = refl
tokens_named [] k (m ∷ ms) b ts h c r = absurd b
tokens_named (p ∷ ps) k [] b ts h c r = absurd b
tokens_named (p ∷ ps) k (m ∷ ms) b ts h [] r = absurd r
tokens_named (p ∷ ps) k (m ∷ ms) b ts h (o ∷ c) r =
    let F = b.0.follows in
    λ i. cond (part_told F false (fsm_auto m).final (auto p.tree k.0).final F.final o r.0 i)
    (Some (with_token (sym h.0 i) (once (part_told F no_carry (fsm_auto m).out (auto p.tree k.0).out F.out o r.0 i).actions)))
    (tokens_named ps k.1 ms b.1 (behind ts) h.1 c r.1 i)

marks_named : (ps : List Pattern) (k : PatternMarks ps) (ms : List Graph) (b : AreBuiltOf ps k ms) (c : List (Option ℕ)) → SideReach ms c → (j : Kind) → all_marks ms c j ≡ confs_marks ps k (side_name ps k ms b c) j
marks_named [] k [] b c r j = refl
marks_named [] k (m ∷ ms) b c r j = absurd b
marks_named (p ∷ ps) k [] b c r j = absurd b
marks_named (p ∷ ps) k (m ∷ ms) b [] r j = absurd r
marks_named (p ∷ ps) k (m ∷ ms) b (o ∷ c) r j =
    let F = b.0.follows in
    λ i. part_told F [] (λ s. (fsm_auto m).marks s j) (λ s. (auto p.tree k.0).marks s j) (λ s q. F.marks s q j) o r.0 i ++ marks_named ps k.1 ms b.1 c r.1 j i

asked_named : (ps : List Pattern) (k : PatternMarks ps) (ms : List Graph) (b : AreBuiltOf ps k ms) (c : List (Option ℕ)) → SideReach ms c → (j : ℤ) → all_asked ms c j ≡ confs_asked ps k (side_name ps k ms b c) j
asked_named [] k [] b c r j = refl
asked_named [] k (m ∷ ms) b c r j = absurd b
asked_named (p ∷ ps) k [] b c r j = absurd b
asked_named (p ∷ ps) k (m ∷ ms) b [] r j = absurd r
asked_named (p ∷ ps) k (m ∷ ms) b (o ∷ c) r j =
    let F = b.0.follows in
    λ i. bit_or (part_told F 0 (λ s. (fsm_auto m).asked s j) (λ s. (auto p.tree k.0).asked s j) (λ s q. F.asked s q j) o r.0 i) (asked_named ps k.1 ms b.1 c r.1 j i)

apart_named : (ps : List Pattern) (k : PatternMarks ps) (ms : List Graph) (b : AreBuiltOf ps k ms) (c d : List (Option ℕ)) → SideReach ms c → SideReach ms d → side_name ps k ms b c ≡ side_name ps k ms b d → c ≡ d
apart_named [] k [] b [] [] r q e = refl
apart_named [] k [] b [] (o ∷ d) r q e = absurd q
apart_named [] k [] b (o ∷ c) d r q e = absurd r
apart_named [] k (m ∷ ms) b c d r q e = absurd b
apart_named (p ∷ ps) k [] b c d r q e = absurd b
apart_named (p ∷ ps) k (m ∷ ms) b [] d r q e = absurd r
apart_named (p ∷ ps) k (m ∷ ms) b (o ∷ c) [] r q e = absurd q
apart_named (p ∷ ps) k (m ∷ ms) b (o ∷ c) (n ∷ d) r q e =
    λ i. apart_part b.0.follows o n r.0 q.0 (ap (λ w. w.0) e) i ∷ apart_named ps k.1 ms b.1 c d r.1 q.1 (ap (λ w. w.1) e) i

-- ---- the laws

step_to-map : {C D : Type 0} (h : C → D) (c : C) (parts : List Carry) → option_map (renamed h) (step_to c parts) ≡ step_to (h c) parts
step_to-map h c [] = refl
step_to-map h c (x ∷ parts) = refl

module _ (ps : List Pattern) (k : PatternMarks ps) (ms : List Graph) (b : AreBuiltOf ps k ms) where
  abbrev named : List (Option ℕ) → Confs ps
  named c = side_name ps k ms b c

  pub side_follows : Follows (side_auto ms) (scan_raw ps k) (side_name ps k ms b)
  side_follows = record {
    start = starts_named ps k ms b;
    step = λ c r l. let q = side_reach ms c r in
        let os = steps_at ms c l in
        step_to-map (side_name ps k ms b) (kept_parts (carried os) os) (kept_labels (carried os) os)
        ∙ (λ i. step_to (parts_named ps k ms b (carried os) c q l i) (kept_are_named ps k ms b (carried os) c q l i))
        ∙ ap (λ all. step_to (kept_confs ps k all (named c) l) (kept_carries ps k all (named c) l)) (carried_named ps k ms b c q l);
    final = λ c r. final_named ps k ms b c (side_reach ms c r);
    out = λ c r. out_named ps k ms b c (side_reach ms c r);
    marks = λ c r j. ap stamps_of (marks_named ps k ms b c (side_reach ms c r) j);
    asked = λ c r j. asked_named ps k ms b c (side_reach ms c r) j;
    apart = λ c d r q e. apart_named ps k ms b c d (side_reach ms c r) (side_reach ms d q) e;
  }

  pub side_jams_named : (c : List (Option ℕ)) → Reach (side_auto ms) c → (l : Letter) → side_jams ms c l ≡ scan_jams ps k (side_name ps k ms b c) l
  side_jams_named c r l =
      let q = side_reach ms c r in
      let os = steps_at ms c l in
      ap (λ labels. not (is_none_left (carried os)) && is_none_left labels) (kept_are_named ps k ms b (carried os) c q l)
      ∙ ap (λ all. not (is_none_left all) && is_none_left (kept_carries ps k all (named c) l)) (carried_named ps k ms b c q l)

-- what stands for the patterns' expressions is built of them, and has their tokens
all_build : (ps : List Pattern) (k : PatternMarks ps) → ArePatternsHonest ps k → (ms : List Graph) (ts : List (Option ActionId)) → StandForPatterns ps ms ts → AreBuiltOf ps k ms
all_build [] k h [] [] s = tt
all_build [] k h [] (t ∷ ts) s = absurd s
all_build [] k h (m ∷ ms) ts s = absurd s
all_build (p ∷ ps) k h [] ts s = absurd s
all_build (p ∷ ps) k h (m ∷ ms) [] s = absurd s
all_build (p ∷ ps) k h (m ∷ ms) (t ∷ ts) s = (s.0 k.0 h.0, all_build ps k.1 h.1 ms ts s.2)

all_have : (ps : List Pattern) (ms : List Graph) (ts : List (Option ActionId)) → StandForPatterns ps ms ts → HaveTokens ps ts
all_have [] ms ts s = tt
all_have (p ∷ ps) [] ts s = absurd s
all_have (p ∷ ps) (m ∷ ms) [] s = absurd s
all_have (p ∷ ps) (m ∷ ms) (t ∷ ts) s = (s.1, all_have ps ms ts s.2)

pub scanner_stands : (ms : List Graph) (ts : List (Option ActionId)) (s : Scanned) → BuildsScanner (quiet (side_auto ms)) (tokens_of ms ts) s → (ps : List Pattern) → StandForPatterns ps ms ts → ScannerStandsFor ps s
scanner_stands ms ts s z ps x k h =
    let b = all_build ps k h ms ts x in
    let M = z.machine in
    record {
      machine = record {
        sound = M.sound;
        numbered = M.numbered;
        name = λ i. side_name ps k ms b (M.name i);
        follows = follows_on M.name (side_name ps k ms b) M.follows (quiet_follows (side_follows ps k ms b));
      };
      tokens = λ i lt.
          z.tokens i lt
          ∙ tokens_named ps k ms b ts (all_have ps ms ts x) (M.name i)
          (side_reach ms (M.name i) (quiet_reach (side_auto ms) (M.name i) (reach_along M.follows i (reaches_each s.machine M.sound M.numbered i lt))));
    }
