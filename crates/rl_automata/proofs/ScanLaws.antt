-- Two honest tests of a scanner's patterns tell the same of all that is reached.
use Rattle.std.proofs.Common.{◌≡◌, ℤ, false, cond, not, ◌&&◌, ◌||◌, List, [], ◌∷◌, ◌++◌, refl, sym, ◌∙◌, ap, subst, Option, Some, None, option_map, bit_or}
use Rattle.rl_types.specs.declared.numbers.Letter.{Letter}
use Rattle.rl_labels.specs.declared.carry.Carry.{Carry}
use Rattle.rl_labels.specs.Carries.{no_carry}
use Rattle.rl_labels.specs.Labels.{stamps_of, once}
use Rattle.rl_automata.specs.declared.moves.Move.{Move}
use Rattle.rl_automata.specs.declared.tree.Kind.{Kind}
use Rattle.rl_automata.specs.Auto.{Auto, on_part, first, listed, carries, targets, kept, step_to, part_moves, is_none_left}
use Rattle.rl_automata.specs.Follows.{Reach, begun, renamed, Follows}
use Rattle.rl_automata.specs.Marks.{auto}
use Rattle.rl_automata.specs.Scans.{Pattern, Confs, PatternMarks, ArePatternsHonest, scan_raw, scan_auto, scan_jams, starts, all_carried, kept_confs, kept_carries, ends_token, token_out, token_list, with_token, confs_marks, confs_asked}
use Rattle.rl_automata.proofs.Congruence.{PartReach, reach_all, part_steps_reach, first_reach, kept_all, targets_all, step_to_to}
use Rattle.rl_automata.proofs.Congruence1.{quiet_follows}
use Rattle.rl_automata.proofs.HonestLaws.{honest_agree}

-- ---- one part

module _ {S : Type 0} {A B : Auto S} (F : Follows A B (λ s. s)) where
  step_itself : (o : Option (Move S)) → option_map (renamed (λ (s : S). s)) o ≡ o
  step_itself None = refl
  step_itself (Some m) = refl

  moves_agree : (l : Letter) (o : Option S) → PartReach A o → part_moves A l o ≡ part_moves B l o
  moves_agree l None r = refl
  moves_agree l (Some s) r = ap listed (sym (step_itself (A.step s l)) ∙ F.step s r l)

  part_agrees : {X : Type 0} (d : X) (p q : S → X) → ((s : S) → Reach A s → p s ≡ q s) → (o : Option S) → PartReach A o → on_part d p o ≡ on_part d q o
  part_agrees d p q e None r = refl
  part_agrees d p q e (Some s) r = e s r

-- ---- what is reached

abbrev ScanReach : (ps : List Pattern) → PatternMarks ps → Confs ps → Type 0
ScanReach [] k c = Unit {0}
ScanReach (p ∷ ps) k c = PartReach (auto p.tree k.0) c.0 × ScanReach ps k.1 c.1

starts_reach : (ps : List Pattern) (k : PatternMarks ps) → ScanReach ps k (starts ps k)
starts_reach [] k = tt
starts_reach (p ∷ ps) k = (begun, starts_reach ps k.1)

kept_reach : (ps : List Pattern) (k : PatternMarks ps) (all : List Carry) (c : Confs ps) (l : Letter) → ScanReach ps k c → ScanReach ps k (kept_confs ps k all c l)
kept_reach [] k all c l r = tt
kept_reach (p ∷ ps) k all c l r =
    let A = auto p.tree k.0 in (
      first_reach (targets (kept all (part_moves A l c.0))) (targets_all (Reach A) (kept all (part_moves A l c.0)) (kept_all (λ m. Reach A m.to) all (part_moves A l c.0) (part_steps_reach c.0 l r.0))),
      kept_reach ps k.1 all c.1 l r.1,
    )

scan_reach : (ps : List Pattern) (k : PatternMarks ps) (c : Confs ps) → Reach (scan_raw ps k) c → ScanReach ps k c
scan_reach ps k = reach_all (ScanReach ps k) (starts_reach ps k) (λ c r h l m e.
    let all = all_carried ps k c l in
    subst (ScanReach ps k) (step_to_to (kept_confs ps k all c l) (kept_carries ps k all c l) m e) (kept_reach ps k all c l h))

-- ---- all patterns

starts_agree : (ps : List Pattern) (k h : PatternMarks ps) → ArePatternsHonest ps k → ArePatternsHonest ps h → starts ps k ≡ starts ps h
starts_agree [] k h x y = refl
starts_agree (p ∷ ps) k h x y = λ i. (Some ((honest_agree p.tree k.0 h.0 x.0 y.0).start i), starts_agree ps k.1 h.1 x.1 y.1 i)

carried_agree : (ps : List Pattern) (k h : PatternMarks ps) → ArePatternsHonest ps k → ArePatternsHonest ps h → (c : Confs ps) → ScanReach ps k c → (l : Letter) → all_carried ps k c l ≡ all_carried ps h c l
carried_agree [] k h x y c r l = refl
carried_agree (p ∷ ps) k h x y c r l = λ i. carries (moves_agree (honest_agree p.tree k.0 h.0 x.0 y.0) l c.0 r.0 i) ++ carried_agree ps k.1 h.1 x.1 y.1 c.1 r.1 l i

confs_agree : (ps : List Pattern) (k h : PatternMarks ps) → ArePatternsHonest ps k → ArePatternsHonest ps h → (all : List Carry) (c : Confs ps) → ScanReach ps k c → (l : Letter) → kept_confs ps k all c l ≡ kept_confs ps h all c l
confs_agree [] k h x y all c r l = refl
confs_agree (p ∷ ps) k h x y all c r l = λ i. (first (targets (kept all (moves_agree (honest_agree p.tree k.0 h.0 x.0 y.0) l c.0 r.0 i))), confs_agree ps k.1 h.1 x.1 y.1 all c.1 r.1 l i)

kept_agree : (ps : List Pattern) (k h : PatternMarks ps) → ArePatternsHonest ps k → ArePatternsHonest ps h → (all : List Carry) (c : Confs ps) → ScanReach ps k c → (l : Letter) → kept_carries ps k all c l ≡ kept_carries ps h all c l
kept_agree [] k h x y all c r l = refl
kept_agree (p ∷ ps) k h x y all c r l = λ i. carries (kept all (moves_agree (honest_agree p.tree k.0 h.0 x.0 y.0) l c.0 r.0 i)) ++ kept_agree ps k.1 h.1 x.1 y.1 all c.1 r.1 l i

ends_agree : (ps : List Pattern) (k h : PatternMarks ps) → ArePatternsHonest ps k → ArePatternsHonest ps h → (c : Confs ps) → ScanReach ps k c → ends_token ps k c ≡ ends_token ps h c
ends_agree [] k h x y c r = refl
ends_agree (p ∷ ps) k h x y c r =
    let F = honest_agree p.tree k.0 h.0 x.0 y.0 in
    λ i. part_agrees F false (auto p.tree k.0).final (auto p.tree h.0).final F.final c.0 r.0 i || ends_agree ps k.1 h.1 x.1 y.1 c.1 r.1 i

out_agrees : (ps : List Pattern) (k h : PatternMarks ps) → ArePatternsHonest ps k → ArePatternsHonest ps h → (c : Confs ps) → ScanReach ps k c → token_out ps k c ≡ token_out ps h c
out_agrees [] k h x y c r = refl
out_agrees (p ∷ ps) k h x y c r =
    let F = honest_agree p.tree k.0 h.0 x.0 y.0 in
    λ i. cond (part_agrees F false (auto p.tree k.0).final (auto p.tree h.0).final F.final c.0 r.0 i) (part_agrees F no_carry (auto p.tree k.0).out (auto p.tree h.0).out F.out c.0 r.0 i)
    (out_agrees ps k.1 h.1 x.1 y.1 c.1 r.1 i)

tokens_agree : (ps : List Pattern) (k h : PatternMarks ps) → ArePatternsHonest ps k → ArePatternsHonest ps h → (c : Confs ps) → ScanReach ps k c → token_list ps k c ≡ token_list ps h c
tokens_agree [] k h x y c r = refl
tokens_agree (p ∷ ps) k h x y c r =
    let F = honest_agree p.tree k.0 h.0 x.0 y.0 in
    λ i. cond (part_agrees F false (auto p.tree k.0).final (auto p.tree h.0).final F.final c.0 r.0 i)
    (Some (with_token p.token (once (part_agrees F no_carry (auto p.tree k.0).out (auto p.tree h.0).out F.out c.0 r.0 i).actions)))
    (tokens_agree ps k.1 h.1 x.1 y.1 c.1 r.1 i)

marks_agree : (ps : List Pattern) (k h : PatternMarks ps) → ArePatternsHonest ps k → ArePatternsHonest ps h → (c : Confs ps) → ScanReach ps k c → (j : Kind) → confs_marks ps k c j ≡ confs_marks ps h c j
marks_agree [] k h x y c r j = refl
marks_agree (p ∷ ps) k h x y c r j =
    let F = honest_agree p.tree k.0 h.0 x.0 y.0 in
    λ i. part_agrees F [] (λ s. (auto p.tree k.0).marks s j) (λ s. (auto p.tree h.0).marks s j) (λ s q. F.marks s q j) c.0 r.0 i ++ marks_agree ps k.1 h.1 x.1 y.1 c.1 r.1 j i

asks_agree : (ps : List Pattern) (k h : PatternMarks ps) → ArePatternsHonest ps k → ArePatternsHonest ps h → (c : Confs ps) → ScanReach ps k c → (j : ℤ) → confs_asked ps k c j ≡ confs_asked ps h c j
asks_agree [] k h x y c r j = refl
asks_agree (p ∷ ps) k h x y c r j =
    let F = honest_agree p.tree k.0 h.0 x.0 y.0 in
    λ i. bit_or (part_agrees F 0 (λ s. (auto p.tree k.0).asked s j) (λ s. (auto p.tree h.0).asked s j) (λ s q. F.asked s q j) c.0 r.0 i) (asks_agree ps k.1 h.1 x.1 y.1 c.1 r.1 j i)

-- ---- the laws

module _ (ps : List Pattern) (k h : PatternMarks ps) (x : ArePatternsHonest ps k) (y : ArePatternsHonest ps h) where
  pub scan_agrees : Follows (scan_raw ps k) (scan_raw ps h) (λ c. c)
  scan_agrees = record {
    start = starts_agree ps k h x y;
    step = λ c r l. let q = scan_reach ps k c r in
        itself (step_to (kept_confs ps k (all_carried ps k c l) c l) (kept_carries ps k (all_carried ps k c l) c l))
        ∙ ap (λ all. step_to (kept_confs ps k all c l) (kept_carries ps k all c l)) (carried_agree ps k h x y c q l)
        ∙ (λ i. step_to (confs_agree ps k h x y (all_carried ps h c l) c q l i) (kept_agree ps k h x y (all_carried ps h c l) c q l i));
    final = λ c r. ends_agree ps k h x y c (scan_reach ps k c r);
    out = λ c r. out_agrees ps k h x y c (scan_reach ps k c r);
    marks = λ c r j. ap stamps_of (marks_agree ps k h x y c (scan_reach ps k c r) j);
    asked = λ c r j. asks_agree ps k h x y c (scan_reach ps k c r) j;
    apart = λ c d r q e. e;
  }
    where
      itself : (o : Option (Move (Confs ps))) → option_map (renamed (λ (c : Confs ps). c)) o ≡ o
      itself None = refl
      itself (Some m) = refl

  pub scanners_agree : Follows (scan_auto ps k) (scan_auto ps h) (λ c. c)
  scanners_agree = quiet_follows scan_agrees

  pub token_lists_agree : (c : Confs ps) → Reach (scan_raw ps k) c → token_list ps k c ≡ token_list ps h c
  token_lists_agree c r = tokens_agree ps k h x y c (scan_reach ps k c r)

  pub scan_jams_agree : (c : Confs ps) → Reach (scan_raw ps k) c → (l : Letter) → scan_jams ps k c l ≡ scan_jams ps h c l
  scan_jams_agree c r l =
      let q = scan_reach ps k c r in
      ap (λ all. not (is_none_left all) && is_none_left (kept_carries ps k all c l)) (carried_agree ps k h x y c q l)
      ∙ (λ i. not (is_none_left (all_carried ps h c l)) && is_none_left (kept_agree ps k h x y (all_carried ps h c l) c q l i))
