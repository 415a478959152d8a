-- An expression's automaton asks only the expression's conditions, and steps only on keys of its sets.
use Rattle.std.proofs.Common.{◌≡◌, ℕ, ◌-◌, ◌^◌, ◌<◌, Bool, true, false, true≢false, cond, not, ◌&&◌, ◌||◌, ℤ, pos, negsuc, List, [], ◌∷◌, ◌++◌, ◌⊎◌, inl, inr, map, refl, sym, bit_or, int_le, Option, Some, None, option_map, arith}
use Rattle.std.specs.List.{list_any}
use Rattle.std.proofs.lemmas.Bool.{leb-true, le-leb}
use Rattle.std.proofs.lemmas.Nat.{or_lt, pow_pos}
use Rattle.rl_types.specs.declared.numbers.Letter.{Letter}
use Rattle.rl_types.specs.KeyRange.{Range, in_range}
use Rattle.rl_labels.specs.declared.carry.Carry.{Carry}
use Rattle.rl_labels.specs.Carries.{no_carry}
use Rattle.rl_sets.specs.Sets.{In, set_of}
use Rattle.rl_sets.proofs.SetLaws.{In-append_left, In-append_right, In-append_cases, In-map_from, In-filter_from, In-flat_map_from}
use Rattle.rl_automata.specs.declared.moves.Move.{Move}
use Rattle.rl_automata.specs.Auto.{Auto, set_auto, point_auto, both_auto, cat_auto, star_auto, enter_auto, finish_auto, every_auto, when_auto, quiet, pruned, steps_at, on_part, first, listed, carries, kept, carrying, restamped, step_to, settle, part_moves, right_moves, steps_of, round_step, member_steps, left_final, is_start, only_live, asked_of, holds}
use Rattle.rl_automata.specs.Nodes as N
use Rattle.rl_automata.specs.Nodes.{Node, carry_of}
use Rattle.rl_automata.specs.Marks.{Marks, auto}
use Rattle.rl_automata.specs.Refused.{sets_in, conditions_in, pattern_sets, pattern_conditions}
use Rattle.rl_automata.specs.Scans.{Pattern, Confs, PatternMarks, all_carried, kept_confs, kept_carries, confs_asked, scan_raw, scan_auto}
use Rattle.rl_automata.proofs.Congruence.{none_in}

pub le_trans : (a b c : ℤ) → int_le a b ≡ true → int_le b c ≡ true → int_le a c ≡ true
le_trans (pos a) (pos b) (pos c) e f = le-leb a c (omega (arith, leb-true a b e, leb-true b c f))
le_trans (pos a) (pos b) (negsuc c) e f = f
le_trans (pos a) (negsuc b) c e f = absurd (true≢false (sym e))
le_trans (negsuc a) b (pos c) e f = refl
le_trans (negsuc a) (pos b) (negsuc c) e f = absurd (true≢false (sym f))
le_trans (negsuc a) (negsuc b) (negsuc c) e f = le-leb c a (omega (arith, leb-true b a e, leb-true c b f))

-- the conditions below 2 to the n are asked, and `R` holds of the keys that have steps
module _ (n : ℕ) (R : ℤ → Type 0) where
  pub record IsBounded {S : Type 0} (A : Auto S) : Type 0 where
    pub asked : (c : S) (k : ℤ) → A.asked c k < 2 ^ n
    pub step : (c : S) (l : Letter) (m : Move S) → A.step c l ≡ Some m → R l.key

  both_below : (a b : ℕ) → a < 2 ^ n → b < 2 ^ n → bit_or a b < 2 ^ n
  both_below a b h k = or_lt n a b h k

  cond_below : (b : Bool) (x y : ℕ) → x < 2 ^ n → y < 2 ^ n → cond b x y < 2 ^ n
  cond_below true x y h k = h
  cond_below false x y h k = k

  -- ---- where there is a step, there was a candidate

  append_has : {X : Type 0} {P : Type 0} (xs ys : List X) → ((x : X) → In x xs → P) → ((x : X) → In x ys → P) → (x : X) → In x (xs ++ ys) → P
  append_has xs ys h k x i = let r : In x xs ⊎ In x ys = In-append_cases x xs ys i in elim r [ inl j ↦ h x j | inr j ↦ k x j ]

  cond_has : {X : Type 0} {P : Type 0} (b : Bool) (xs : List X) → ((x : X) → In x xs → P) → (x : X) → In x (cond b xs []) → P
  cond_has true xs h x i = h x i
  cond_has false xs h x i = absurd i

  map_has : {X Y : Type 0} {P : Type 0} (f : X → Y) (xs : List X) → ((x : X) → In x xs → P) → (y : Y) → In y (map f xs) → P
  map_has f xs h y i = let r = In-map_from f y xs i in h r.0 r.1

  kept_has : {S : Type 0} {P : Type 0} (all : List Carry) (ms : List (Move S)) → ((m : Move S) → In m ms → P) → (c : Carry) → In c (carries (kept all ms)) → P
  kept_has all ms h = map_has (λ m. m.carry) (kept all ms) (λ m i. h m (In-filter_from _ m ms i).0)

  step_has : {C : Type 0} {P : Type 0} (target : C) (cs : List Carry) (m : Move C) → ((c : Carry) → In c cs → P) → step_to target cs ≡ Some m → P
  step_has target [] m h e = none_in m e
  step_has target (c ∷ cs) m h e = h c (inl refl)

  settle_has : {S T C : Type 0} {P : Type 0} (make : List S → List T → C) (ls : List (Move S)) (rs : List (Move T)) (m : Move C) → ((n : Move S) → In n ls → P) → ((n : Move T) → In n rs → P) → settle make ls rs ≡ Some m → P
  settle_has make ls rs m h k e =
      let all = carries ls ++ carries rs in
      step_has _ (carries (kept all ls) ++ carries (kept all rs)) m (append_has (carries (kept all ls)) (carries (kept all rs)) (kept_has all ls h) (kept_has all rs k)) e

  mapped_has : {S : Type 0} {P : Type 0} (f : Move S → Move S) (o : Option (Move S)) → ((m : Move S) → o ≡ Some m → P) → (m : Move S) → option_map f o ≡ Some m → P
  mapped_has f None h m e = none_in m e
  mapped_has f (Some k) h m e = h k refl

  -- ---- operators

  module _ {S : Type 0} {A : Auto S} (F : IsBounded A) where
    listed_has : (c : S) (l : Letter) (m : Move S) → In m (listed (A.step c l)) → R l.key
    listed_has c l m i = by (A.step c l) refl i
      where
        by : (o : Option (Move S)) → A.step c l ≡ o → In m (listed o) → R l.key
        by None e i = absurd i
        by (Some k) e i = F.step c l k e

    part_has : (o : Option S) (l : Letter) (m : Move S) → In m (part_moves A l o) → R l.key
    part_has None l m i = absurd i
    part_has (Some c) l m i = listed_has c l m i

    part_below : (o : Option S) (k : ℤ) → on_part 0 (λ s. A.asked s k) o < 2 ^ n
    part_below None k = pow_pos n
    part_below (Some c) k = F.asked c k

    asked_below : (cs : List S) (k : ℤ) → asked_of A k cs < 2 ^ n
    asked_below [] k = pow_pos n
    asked_below (c ∷ cs) k = both_below (A.asked c k) (asked_of A k cs) (F.asked c k) (asked_below cs k)

    round_has : (base : ℕ) (c : S) (l : Letter) (m : Move S) → In m (round_step A base c l) → R l.key
    round_has base c l m i = by (is_start A c) i
      where
        by : (b : Bool) → In m (cond b (map (restamped base) (listed (A.step c l))) (listed (A.step c l))) → R l.key
        by true i = map_has (restamped base) (listed (A.step c l)) (listed_has c l) m i
        by false i = listed_has c l m i

    member_has : (base : ℕ) (l : Letter) (c : S) (m : Move S) → In m (member_steps A base l c) → R l.key
    member_has base l c = append_has (round_step A base c l) _ (round_has base c l)
        (cond_has (A.final c) _ (map_has (carrying (A.out c)) (round_step A base A.start l) (round_has base A.start l)))

    quiet_bounded : IsBounded (quiet A)
    quiet_bounded = record { asked = λ c k. cond_below (steps_at A c k) (A.asked c k) 0 (F.asked c k) (pow_pos n); step = F.step }

    live_bounded : (live : S → Bool) → IsBounded (pruned live A)
    live_bounded live = record { asked = λ c k. cond_below _ (A.asked c k) 0 (F.asked c k) (pow_pos n); step = λ c l m e. by c l (A.step c l) refl m e }
      where
        by : (c : S) (l : Letter) (o : Option (Move S)) → A.step c l ≡ o → (m : Move S) → only_live live o ≡ Some m → R l.key
        by c l None p m e = none_in m e
        by c l (Some k) p m e = F.step c l k p

    star_bounded : (base : ℕ) → IsBounded (star_auto A base)
    star_bounded base = record {
      asked = λ c k. both_below (asked_of A k c) _ (asked_below c k) (cond_below (list_any A.final c) (A.asked A.start k) 0 (F.asked A.start k) (pow_pos n));
      step = λ c l m e. settle_has {S = S} (λ ss ts. set_of A.order ts) [] _ m (λ k i. absurd i) (λ k i. let r = In-flat_map_from (member_steps A base l) k c i in member_has base l r.0 k r.2) e;
    }

    every_bounded : (x : Carry) → IsBounded (every_auto A x)
    every_bounded x = record { asked = F.asked; step = λ c l. mapped_has (carrying x) (A.step c l) (F.step c l) }

    enter_bounded : (x : Carry) → IsBounded (enter_auto A x)
    enter_bounded x = record { asked = F.asked; step = λ c l. by c l (is_start A c) }
      where
        by : (c : S) (l : Letter) (b : Bool) (m : Move S) → cond b (option_map (carrying x) (A.step c l)) (A.step c l) ≡ Some m → R l.key
        by c l true = mapped_has (carrying x) (A.step c l) (F.step c l)
        by c l false = F.step c l

    finish_bounded : (x : Carry) → IsBounded (finish_auto A x)
    finish_bounded x = record { asked = F.asked; step = λ c l. mapped_has (λ m. cond (A.final m.to) (carrying x m) m) (A.step c l) (F.step c l) }

    when_bounded : (condition : ℕ) → 2 ^ (condition - 1) < 2 ^ n → IsBounded (when_auto condition A)
    when_bounded condition h = record {
      asked = λ c k. cond_below _ _ 0 (both_below (2 ^ (condition - 1)) (A.asked c k) h (F.asked c k)) (pow_pos n);
      step = λ c l. by c l (holds condition l.truths);
    }
      where
        by : (c : S) (l : Letter) (b : Bool) (m : Move S) → cond b (A.step c l) None ≡ Some m → R l.key
        by c l true m e = F.step c l m e
        by c l false m e = none_in m e

  module _ {S T : Type 0} {A : Auto S} {B : Auto T} (F : IsBounded A) (G : IsBounded B) where
    pair_bounded : (is_final : Bool → Bool → Bool) → IsBounded (both_auto A B is_final)
    pair_bounded is_final = record {
      asked = λ c k. both_below _ _ (part_below F c.0 k) (part_below G c.1 k);
      step = λ c l m e. settle_has (λ ss ts. (first ss, first ts)) (part_moves A l c.0) (part_moves B l c.1) m (part_has F c.0 l) (part_has G c.1 l) e;
    }

    right_has : (c : Option S × List T) (l : Letter) (m : Move T) → In m (right_moves A B c l) → R l.key
    right_has c l = append_has (steps_of B l c.1) _ (λ m i. let r = In-flat_map_from (λ t. listed (B.step t l)) m c.1 i in listed_has G r.0 l m r.2)
        (cond_has (left_final A B c) _ (map_has (carrying (on_part no_carry A.out c.0)) (listed (B.step B.start l)) (listed_has G B.start l)))

    chain_bounded : IsBounded (cat_auto A B)
    chain_bounded = record {
      asked = λ c k. both_below _ _ (part_below F c.0 k) (both_below _ _ (asked_below G c.1 k) (cond_below (left_final A B c) (B.asked B.start k) 0 (G.asked B.start k) (pow_pos n)));
      step = λ c l m e. settle_has (λ ss ts. (first ss, set_of B.order ts)) (part_moves A l c.0) (right_moves A B c l) m (part_has F c.0 l) (right_has c l) e;
    }

  abbrev pub OfSets : List (List Range) → Type 0
  OfSets sets = (ranges : List Range) → In ranges sets → (k : ℤ) → list_any (in_range k) ranges ≡ true → R k

  abbrev pub OfConditions : List ℕ → Type 0
  OfConditions conditions = (c : ℕ) → In c conditions → 2 ^ (c - 1) < 2 ^ n

  set_bounded : (ranges : List Range) → OfSets (ranges ∷ []) → IsBounded (set_auto ranges)
  set_bounded ranges h = record { asked = λ c k. pow_pos n; step = λ c l. by l.key (not c) (list_any (in_range l.key) ranges) refl }
    where
      by : (k : ℤ) (a b : Bool) → list_any (in_range k) ranges ≡ b → (m : Move Bool) → cond (a && b) (Some (record { to = true; carry = no_carry })) None ≡ Some m → R k
      by k true true p m e = h ranges (inl refl) k p
      by k true false p m e = none_in m e
      by k false b p m e = none_in m e

  point_bounded : (is_final : Bool) → IsBounded (point_auto is_final)
  point_bounded is_final = record { asked = λ c k. pow_pos n; step = λ c l m e. none_in m e }

  left_sets : (xs ys : List (List Range)) → OfSets (xs ++ ys) → OfSets xs
  left_sets xs ys h ranges i = h ranges (In-append_left ranges xs ys i)

  right_sets : (xs ys : List (List Range)) → OfSets (xs ++ ys) → OfSets ys
  right_sets xs ys h ranges i = h ranges (In-append_right ranges xs ys i)

  left_conditions : (xs ys : List ℕ) → OfConditions (xs ++ ys) → OfConditions xs
  left_conditions xs ys h c i = h c (In-append_left c xs ys i)

  right_conditions : (xs ys : List ℕ) → OfConditions (xs ++ ys) → OfConditions ys
  right_conditions xs ys h c i = h c (In-append_right c xs ys i)

  pub tree_bounded : (t : Node) (k : Marks t) → OfSets (sets_in t) → OfConditions (conditions_in t) → IsBounded (auto t k)
  tree_bounded (N.Set ranges) k h g = set_bounded ranges h
  tree_bounded N.Null k h g = point_bounded true
  tree_bounded N.Nothing k h g = point_bounded false
  tree_bounded (N.Union a b) k h g =
      let F = tree_bounded a k.0 (left_sets (sets_in a) (sets_in b) h) (left_conditions (conditions_in a) (conditions_in b) g) in
      let G = tree_bounded b k.1 (right_sets (sets_in a) (sets_in b) h) (right_conditions (conditions_in a) (conditions_in b) g) in
      quiet_bounded (pair_bounded F G (λ p q. p || q))
  tree_bounded (N.And a b) k h g =
      let F = tree_bounded a k.0 (left_sets (sets_in a) (sets_in b) h) (left_conditions (conditions_in a) (conditions_in b) g) in
      let G = tree_bounded b k.1 (right_sets (sets_in a) (sets_in b) h) (right_conditions (conditions_in a) (conditions_in b) g) in
      live_bounded (pair_bounded F G (λ p q. p && q)) k.2
  tree_bounded (N.Minus a b) k h g =
      let F = tree_bounded a k.0 (left_sets (sets_in a) (sets_in b) h) (left_conditions (conditions_in a) (conditions_in b) g) in
      let G = tree_bounded b k.1 (right_sets (sets_in a) (sets_in b) h) (right_conditions (conditions_in a) (conditions_in b) g) in
      live_bounded (pair_bounded F G (λ p q. p && not q)) k.2
  tree_bounded (N.Cat a b) k h g =
      let F = tree_bounded a k.0 (left_sets (sets_in a) (sets_in b) h) (left_conditions (conditions_in a) (conditions_in b) g) in
      let G = tree_bounded b k.1 (right_sets (sets_in a) (sets_in b) h) (right_conditions (conditions_in a) (conditions_in b) g) in
      quiet_bounded (chain_bounded F G)
  tree_bounded (N.Star a base) k h g = quiet_bounded (star_bounded (tree_bounded a k h g) base)
  tree_bounded (N.Enter a l) k h g = enter_bounded (tree_bounded a k h g) (carry_of l)
  tree_bounded (N.Finish a l) k h g = finish_bounded (tree_bounded a k h g) (carry_of l)
  tree_bounded (N.All a l) k h g = every_bounded (tree_bounded a k h g) (carry_of l)
  tree_bounded (N.Leave a l) k h g = let F = tree_bounded a k h g in record { asked = F.asked; step = F.step }
  tree_bounded (N.Mark a class kind s x) k h g = let F = tree_bounded a k h g in record { asked = F.asked; step = F.step }
  tree_bounded (N.When a c) k h g = when_bounded (tree_bounded a k h (λ d i. g d (inr i))) c (g c (inl refl))

  -- ---- scanners

  carried_has : (ps : List Pattern) (k : PatternMarks ps) (all : List Carry) (c : Confs ps) (l : Letter) → OfSets (pattern_sets ps) → OfConditions (pattern_conditions ps) → (d : Carry) → In d (kept_carries ps k all c l) → R l.key
  carried_has [] k all c l h g = λ d i. absurd i
  carried_has (p ∷ ps) k all c l h g =
      let F = tree_bounded p.tree k.0 (left_sets (sets_in p.tree) (pattern_sets ps) h) (left_conditions (conditions_in p.tree) (pattern_conditions ps) g) in
      append_has _ (kept_carries ps k.1 all c.1 l) (kept_has all (part_moves (auto p.tree k.0) l c.0) (part_has F c.0 l))
      (carried_has ps k.1 all c.1 l (right_sets (sets_in p.tree) (pattern_sets ps) h) (right_conditions (conditions_in p.tree) (pattern_conditions ps) g))

  confs_below : (ps : List Pattern) (k : PatternMarks ps) (c : Confs ps) (j : ℤ) → OfSets (pattern_sets ps) → OfConditions (pattern_conditions ps) → confs_asked ps k c j < 2 ^ n
  confs_below [] k c j h g = pow_pos n
  confs_below (p ∷ ps) k c j h g =
      let F = tree_bounded p.tree k.0 (left_sets (sets_in p.tree) (pattern_sets ps) h) (left_conditions (conditions_in p.tree) (pattern_conditions ps) g) in
      both_below _ (confs_asked ps k.1 c.1 j) (part_below F c.0 j)
      (confs_below ps k.1 c.1 j (right_sets (sets_in p.tree) (pattern_sets ps) h) (right_conditions (conditions_in p.tree) (pattern_conditions ps) g))

  pub scan_bounded : (ps : List Pattern) (k : PatternMarks ps) → OfSets (pattern_sets ps) → OfConditions (pattern_conditions ps) → IsBounded (scan_auto ps k)
  scan_bounded ps k h g = quiet_bounded {A = scan_raw ps k} (record {
    asked = λ c j. confs_below ps k c j h g;
    step = λ c l m e. let all = all_carried ps k c l in step_has (kept_confs ps k all c l) (kept_carries ps k all c l) m (carried_has ps k all c l h g) e;
  })
