-- What an expression's automaton calls is what the expression embeds.
use Rattle.std.proofs.Common.{◌≡◌, ℕ, ◌+◌, Bool, true, false, true≢false, cond, ◌&&◌, ◌||◌, not, List, [], ◌∷◌, ◌++◌, ◌⊎◌, inl, inr, map, flat_map, refl, sym, ap, subst, Option, Some, None, option_map}
use Rattle.rl_types.specs.declared.numbers.Letter.{Letter}
use Rattle.rl_types.specs.KeyRange.{Range}
use Rattle.rl_labels.specs.declared.stamped.Stamp.{Stamp}
use Rattle.rl_labels.specs.declared.carry.Carry.{Carry}
use Rattle.rl_labels.specs.Labels.{stamps_of, restamp_from}
use Rattle.rl_labels.specs.Carries.{no_carry, all_of, both_of}
use Rattle.rl_labels.proofs.LabelOrders.{stamp_order}
use Rattle.rl_sets.specs.Sets.{In, joined, set_of}
use Rattle.rl_sets.proofs.SetLaws.{In-append_left, In-append_right, In-append_cases, In-map_from, In-filter_from, In-joined_from, In-flat_map_from, In-set_of_from}
use Rattle.rl_automata.specs.declared.moves.Move.{Move}
use Rattle.rl_automata.specs.declared.tree.Kind.{Kind}
use Rattle.rl_automata.specs.declared.tree.Kind.TheVariants as K
use Rattle.rl_automata.specs.declared.tree.Class.{Class}
use Rattle.rl_automata.specs.declared.tree.Label.{Label}
use Rattle.rl_automata.specs.declared.tree.Label.TheVariants.{Action, Prior}
use Rattle.rl_automata.specs.Auto.{Auto, set_auto, point_auto, both_auto, cat_auto, star_auto, enter_auto, finish_auto, every_auto, leave_auto, mark_auto, when_auto, quiet, pruned, on_part, first, listed, carries, kept, carrying, restamped, step_to, settle, part_moves, right_moves, steps_of, round_step, member_steps, left_final, ends_at_once, is_start, only_live, same_kind, in_class, holds}
use Rattle.rl_automata.specs.Nodes as N
use Rattle.rl_automata.specs.Nodes.{Node, Conf, carry_of}
use Rattle.rl_automata.specs.Marks.{Marks, auto}
use Rattle.rl_automata.specs.Scans.{Pattern, Confs, PatternMarks, all_carried, kept_confs, kept_carries, token_out, confs_marks, scan_auto}
use Rattle.rl_automata.proofs.Congruence.{AllIn, some_in, none_in}
use Rattle.rl_model.specs.Counts.{actions_in, turn_action, turn_actions_in, label_actions}

-- `P` holds of what is carried and marked, and `Q` of what is marked in a kind
module _ (P : ℕ → Type 0) (Q : Kind → ℕ → Type 0) where
  abbrev Fine : Carry → Type 0
  Fine c = (x : Stamp) → In x c.actions → P x.action.0

  pub record IsFine {S : Type 0} (A : Auto S) : Type 0 where
    pub step : (c : S) (l : Letter) (m : Move S) → A.step c l ≡ Some m → Fine m.carry
    pub out : (c : S) → Fine (A.out c)
    pub marks : (c : S) (kind : Kind) (x : Stamp) → In x (A.marks c kind) → P x.action.0 × Q kind x.action.0

  -- ---- carries

  none_fine : Fine no_carry
  none_fine x i = absurd i

  all_fine : (cs : List Carry) → AllIn Fine cs → Fine (all_of cs)
  all_fine cs h x i =
      let j = In-joined_from x (map (λ c. c.actions) cs) (In-set_of_from stamp_order x (joined (map (λ c. c.actions) cs)) i) in
      let k = In-map_from (λ (c : Carry). c.actions) j.0 cs j.1 in
      h k.0 k.1 x (subst (In x) (sym k.2) j.2)

  two_fine : (c d : Carry) → Fine c → Fine d → AllIn Fine (c ∷ d ∷ [])
  two_fine c d h k e (inl p) = subst Fine p h
  two_fine c d h k e (inr (inl p)) = subst Fine p k
  two_fine c d h k e (inr (inr i)) = absurd i

  both_fine : (c d : Carry) → Fine c → Fine d → Fine (both_of c d)
  both_fine c d h k = all_fine (c ∷ d ∷ []) (two_fine c d h k)

  restamp_fine : (base i : ℕ) (xs : List Stamp) → ((x : Stamp) → In x xs → P x.action.0) → (x : Stamp) → In x (restamp_from base i xs) → P x.action.0
  restamp_fine base i [] h x j = absurd j
  restamp_fine base i (y ∷ ys) h x (inl p) = subst (λ (z : Stamp). P z.action.0) p (h y (inl refl))
  restamp_fine base i (y ∷ ys) h x (inr j) = restamp_fine base (i + 1) ys (λ z k. h z (inr k)) x j

  cond_fine : (b : Bool) (c d : Carry) → Fine c → Fine d → Fine (cond b c d)
  cond_fine true c d h k = h
  cond_fine false c d h k = k

  append_in : {X : Type 0} {R : X → Type 0} (xs ys : List X) → AllIn R xs → AllIn R ys → AllIn R (xs ++ ys)
  append_in xs ys h k x i = let r : In x xs ⊎ In x ys = In-append_cases x xs ys i in elim r [ inl j ↦ h x j | inr j ↦ k x j ]

  cond_in : {X : Type 0} {R : X → Type 0} (b : Bool) (xs ys : List X) → AllIn R xs → AllIn R ys → AllIn R (cond b xs ys)
  cond_in true xs ys h k = h
  cond_in false xs ys h k = k

  flat_in : {X Y : Type 0} {R : Y → Type 0} (f : X → List Y) (xs : List X) → ((x : X) → AllIn R (f x)) → AllIn R (flat_map f xs)
  flat_in f xs h y i = let r = In-flat_map_from f y xs i in h r.0 y r.2

  -- ---- moves

  abbrev FineMove : {S : Type 0} → Move S → Type 0
  FineMove m = Fine m.carry

  carries_fine : {S : Type 0} (ms : List (Move S)) → AllIn FineMove ms → AllIn Fine (carries ms)
  carries_fine ms h c i = let r = In-map_from (λ m. m.carry) c ms i in subst Fine r.2 (h r.0 r.1)

  kept_fine : {S : Type 0} (all : List Carry) (ms : List (Move S)) → AllIn FineMove ms → AllIn FineMove (kept all ms)
  kept_fine all ms h m i = h m (In-filter_from _ m ms i).0

  step_to_fine : {C : Type 0} (target : C) (cs : List Carry) (m : Move C) → AllIn Fine cs → step_to target cs ≡ Some m → Fine m.carry
  step_to_fine target [] m h e = none_in m e
  step_to_fine target (c ∷ cs) m h e = subst Fine (ap (λ w. w.carry) (some_in _ m e)) (all_fine (c ∷ cs) h)

  settle_fine : {S T C : Type 0} (make : List S → List T → C) (ls : List (Move S)) (rs : List (Move T)) (m : Move C) → AllIn FineMove ls → AllIn FineMove rs → settle make ls rs ≡ Some m → Fine m.carry
  settle_fine make ls rs m h k e =
      let all = carries ls ++ carries rs in
      step_to_fine _ (carries (kept all ls) ++ carries (kept all rs)) m
      (append_in (carries (kept all ls)) (carries (kept all rs)) (carries_fine (kept all ls) (kept_fine all ls h)) (carries_fine (kept all rs) (kept_fine all rs k))) e

  mapped_fine : {S : Type 0} (f : Move S → Move S) → ((m : Move S) → FineMove m → FineMove (f m)) → (ms : List (Move S)) → AllIn FineMove ms → AllIn FineMove (map f ms)
  mapped_fine f h ms k m i = let r = In-map_from f m ms i in subst FineMove r.2 (h r.0 (k r.0 r.1))

  option_fine : {S : Type 0} (f : Move S → Move S) → ((m : Move S) → FineMove m → FineMove (f m)) → (o : Option (Move S)) → ((m : Move S) → o ≡ Some m → FineMove m) → (m : Move S) → option_map f o ≡ Some m → FineMove m
  option_fine f h None k m e = none_in m e
  option_fine f h (Some n) k m e = subst FineMove (some_in (f n) m e) (h n (k n refl))

  carrying_fine : {S : Type 0} (x : Carry) → Fine x → (m : Move S) → FineMove m → FineMove (carrying x m)
  carrying_fine x h m k = both_fine x m.carry h k

  restamped_fine : {S : Type 0} (base : ℕ) (m : Move S) → FineMove m → FineMove (restamped base m)
  restamped_fine base m h = restamp_fine base 0 m.carry.actions h

  -- ---- operators

  abbrev FineStamp : Kind → Stamp → Type 0
  FineStamp kind x = P x.action.0 × Q kind x.action.0

  set_in : {kind : Kind} (xs : List Stamp) → AllIn (FineStamp kind) xs → AllIn (FineStamp kind) (stamps_of xs)
  set_in xs h x i = h x (In-set_of_from stamp_order x xs i)

  module _ {S : Type 0} {A : Auto S} (F : IsFine A) where
    listed_fine : (c : S) (l : Letter) → AllIn FineMove (listed (A.step c l))
    listed_fine c l m i = by (A.step c l) refl i
      where
        by : (o : Option (Move S)) → A.step c l ≡ o → In m (listed o) → FineMove m
        by None e i = absurd i
        by (Some n) e (inl p) = subst FineMove p (F.step c l n e)
        by (Some n) e (inr j) = absurd j

    part_fine : (o : Option S) (l : Letter) → AllIn FineMove (part_moves A l o)
    part_fine None l = λ m i. absurd i
    part_fine (Some c) l = listed_fine c l

    part_out : (o : Option S) → Fine (on_part no_carry A.out o)
    part_out None = none_fine
    part_out (Some c) = F.out c

    part_marks : (kind : Kind) (o : Option S) → AllIn (FineStamp kind) (on_part [] (λ s. A.marks s kind) o)
    part_marks kind None = λ x i. absurd i
    part_marks kind (Some c) = F.marks c kind

    outs_fine : (cs : List S) → AllIn Fine (map A.out cs)
    outs_fine cs d i = let r = In-map_from A.out d cs i in subst Fine r.2 (F.out r.0)

    round_fine : (base : ℕ) (c : S) (l : Letter) → AllIn FineMove (round_step A base c l)
    round_fine base c l = cond_in (is_start A c) _ _ (mapped_fine (restamped base) (restamped_fine base) (listed (A.step c l)) (listed_fine c l)) (listed_fine c l)

    member_fine : (base : ℕ) (l : Letter) (c : S) → AllIn FineMove (member_steps A base l c)
    member_fine base l c = append_in (round_step A base c l) _ (round_fine base c l)
        (cond_in (A.final c) _ [] (mapped_fine (carrying (A.out c)) (carrying_fine (A.out c) (F.out c)) (round_step A base A.start l) (round_fine base A.start l)) (λ m i. absurd i))

    quiet_fine : IsFine (quiet A)
    quiet_fine = record { step = F.step; out = F.out; marks = F.marks }

    live_fine : (live : S → Bool) → IsFine (pruned live A)
    live_fine live = record { step = λ c l m e. by (A.step c l) refl m e; out = F.out; marks = F.marks }
      where
        by : {c : S} {l : Letter} (o : Option (Move S)) → A.step c l ≡ o → (m : Move S) → only_live live o ≡ Some m → FineMove m
        by None p m e = none_in m e
        by {c} {l} (Some n) p m e = kept_one (live n.to) e
          where
            kept_one : (b : Bool) → cond b (Some n) None ≡ Some m → FineMove m
            kept_one true e = subst FineMove (some_in n m e) (F.step c l n p)
            kept_one false e = none_in m e

    star_fine : (base : ℕ) → IsFine (star_auto A base)
    star_fine base = record {
      step = λ c l m e. settle_fine {S = S} (λ ss ts. set_of A.order ts) [] (flat_map (member_steps A base l) c) m (λ m i. absurd i) (flat_in (member_steps A base l) c (member_fine base l)) e;
      out = λ c. cond_fine _ (all_of (map A.out c)) no_carry (all_fine (map A.out c) (outs_fine c)) none_fine;
      marks = λ c kind. set_in (flat_map (λ s. A.marks s kind ++ cond (A.final s) (A.marks A.start kind) []) c)
          (flat_in _ c (λ s. append_in (A.marks s kind) _ (F.marks s kind) (cond_in (A.final s) _ [] (F.marks A.start kind) (λ x i. absurd i))));
    }

    every_fine : (x : Carry) → Fine x → IsFine (every_auto A x)
    every_fine x h = record { step = λ c l. option_fine (carrying x) (carrying_fine x h) (A.step c l) (F.step c l); out = F.out; marks = F.marks }

    enter_fine : (x : Carry) → Fine x → IsFine (enter_auto A x)
    enter_fine x h = record { step = λ c l. by c l (is_start A c); out = λ c. cond_fine _ (both_of x (A.out c)) (A.out c) (both_fine x (A.out c) h (F.out c)) (F.out c); marks = F.marks }
      where
        by : (c : S) (l : Letter) (b : Bool) (m : Move S) → cond b (option_map (carrying x) (A.step c l)) (A.step c l) ≡ Some m → FineMove m
        by c l true = option_fine (carrying x) (carrying_fine x h) (A.step c l) (F.step c l)
        by c l false = F.step c l

    finish_fine : (x : Carry) → Fine x → IsFine (finish_auto A x)
    finish_fine x h = record { step = λ c l. option_fine (λ m. cond (A.final m.to) (carrying x m) m) each (A.step c l) (F.step c l); out = F.out; marks = F.marks }
      where
        each : (m : Move S) → FineMove m → FineMove (cond (A.final m.to) (carrying x m) m)
        each m k = elim (A.final m.to) as (λ b. FineMove (cond b (carrying x m) m)) [ true ↦ carrying_fine x h m k | false ↦ k ]

    leave_fine : (x : Carry) → Fine x → IsFine (leave_auto A x)
    leave_fine x h = record { step = F.step; out = λ c. cond_fine _ (both_of x (A.out c)) (A.out c) (both_fine x (A.out c) h (F.out c)) (F.out c); marks = F.marks }

    mark_fine : (class : Class) (kind : Kind) (x : Stamp) → FineStamp kind x → IsFine (mark_auto A class kind x)
    mark_fine class kind x h = record { step = F.step; out = F.out; marks = λ c j. by c j (same_kind kind j) (in_class A class c) (kinds_same kind j) }
      where
        kinds_same : (i j : Kind) → same_kind i j ≡ true → i ≡ j
        kinds_same K.To K.To e = refl
        kinds_same K.From K.From e = refl
        kinds_same K.Eof K.Eof e = refl
        kinds_same K.Error K.Error e = refl
        kinds_same _ _ e = absurd (true≢false (sym e))

        more : (c : S) (j : Kind) → kind ≡ j → AllIn (FineStamp j) (x ∷ A.marks c j)
        more c j p y (inl q) = subst (FineStamp j) q (subst (λ i. FineStamp i x) p h)
        more c j p y (inr i) = F.marks c j y i

        by : (c : S) (j : Kind) (a b : Bool) → (a ≡ true → kind ≡ j) → AllIn (FineStamp j) (cond (a && b) (stamps_of (x ∷ A.marks c j)) (A.marks c j))
        by c j true true p = set_in (x ∷ A.marks c j) (more c j (p refl))
        by c j true false p = F.marks c j
        by c j false b p = F.marks c j

    when_fine : (condition : ℕ) → IsFine (when_auto condition A)
    when_fine condition = record { step = λ c l. by c l (holds condition l.truths); out = F.out; marks = F.marks }
      where
        by : (c : S) (l : Letter) (b : Bool) (m : Move S) → cond b (A.step c l) None ≡ Some m → FineMove m
        by c l true m e = F.step c l m e
        by c l false m e = none_in m e

  module _ {S T : Type 0} {A : Auto S} {B : Auto T} (F : IsFine A) (G : IsFine B) where
    pair_fine : (is_final : Bool → Bool → Bool) → IsFine (both_auto A B is_final)
    pair_fine is_final = record {
      step = λ c l m e. settle_fine (λ ss ts. (first ss, first ts)) (part_moves A l c.0) (part_moves B l c.1) m (part_fine F c.0 l) (part_fine G c.1 l) e;
      out = λ c. cond_fine _ _ no_carry (both_fine (on_part no_carry A.out c.0) (on_part no_carry B.out c.1) (part_out F c.0) (part_out G c.1)) none_fine;
      marks = λ c kind. set_in _ (append_in _ _ (part_marks F kind c.0) (part_marks G kind c.1));
    }

    right_fine : (c : Option S × List T) (l : Letter) → AllIn FineMove (right_moves A B c l)
    right_fine c l = append_in (steps_of B l c.1) _ (flat_in (λ t. listed (B.step t l)) c.1 (λ t. listed_fine G t l))
        (cond_in (left_final A B c) _ [] (mapped_fine (carrying (on_part no_carry A.out c.0)) (carrying_fine (on_part no_carry A.out c.0) (part_out F c.0)) (listed (B.step B.start l)) (listed_fine G B.start l)) (λ m i. absurd i))

    chain_fine : IsFine (cat_auto A B)
    chain_fine = record {
      step = λ c l m e. settle_fine (λ ss ts. (first ss, set_of B.order ts)) (part_moves A l c.0) (right_moves A B c l) m (part_fine F c.0 l) (right_fine c l) e;
      out = λ c. cond_fine _ _ no_carry (all_fine _ (append_in (map B.out c.1) _ (outs_fine G c.1)
          (cond_in (ends_at_once A B c) _ [] (two_fine (on_part no_carry A.out c.0) (B.out B.start) (part_out F c.0) (G.out B.start)) (λ d i. absurd i)))) none_fine;
      marks = λ c kind. set_in _ (append_in _ _ (part_marks F kind c.0) (append_in (flat_map (λ t. B.marks t kind) c.1) _ (flat_in (λ t. B.marks t kind) c.1 (λ t. G.marks t kind))
          (cond_in (left_final A B c) _ [] (G.marks B.start kind) (λ x i. absurd i))));
    }

  set_fine : (ranges : List Range) → IsFine (set_auto ranges)
  set_fine ranges = record { step = λ c l. by _; out = λ c. none_fine; marks = λ c kind x i. absurd i }
    where
      by : (b : Bool) (m : Move Bool) → cond b (Some (record { to = true; carry = no_carry })) None ≡ Some m → FineMove m
      by true m e = subst FineMove (some_in _ m e) none_fine
      by false m e = none_in m e

  point_fine : (is_final : Bool) → IsFine (point_auto is_final)
  point_fine is_final = record { step = λ c l m e. none_in m e; out = λ c. none_fine; marks = λ c kind x i. absurd i }

  -- ---- expressions

  label_fine : (l : Label) → ((a : ℕ) → In a (label_actions l) → P a) → Fine (carry_of l)
  label_fine (Action s x) h y (inl p) = subst (λ (z : Stamp). P z.action.0) p (h x.0 (inl refl))
  label_fine (Action s x) h y (inr i) = absurd i
  label_fine (Prior s n v) h y i = absurd i

-- `P` holds of the actions that an expression embeds, and `T` of its to-state and from-state actions
module _ (P T : ℕ → Type 0) where
  abbrev pub InTurn : Kind → ℕ → Type 0
  InTurn kind a = (b : ℕ) → In b (turn_action kind a) → T b

  abbrev pub IsKept : {S : Type 0} → Auto S → Type 0
  IsKept A = IsFine P InTurn A

  abbrev All : (ℕ → Type 0) → List ℕ → Type 0
  All R xs = (a : ℕ) → In a xs → R a

  left_all : {R : ℕ → Type 0} (xs ys : List ℕ) → All R (xs ++ ys) → All R xs
  left_all xs ys h a i = h a (In-append_left a xs ys i)

  right_all : {R : ℕ → Type 0} (xs ys : List ℕ) → All R (xs ++ ys) → All R ys
  right_all xs ys h a i = h a (In-append_right a xs ys i)

  pub tree_kept : (t : Node) (k : Marks t) → All P (actions_in t) → All T (turn_actions_in t) → IsKept (auto t k)
  tree_kept (N.Set ranges) k h g = set_fine P InTurn ranges
  tree_kept N.Null k h g = point_fine P InTurn true
  tree_kept N.Nothing k h g = point_fine P InTurn false
  tree_kept (N.Union a b) k h g =
      let F = tree_kept a k.0 (left_all (actions_in a) (actions_in b) h) (left_all (turn_actions_in a) (turn_actions_in b) g) in
      let G = tree_kept b k.1 (right_all (actions_in a) (actions_in b) h) (right_all (turn_actions_in a) (turn_actions_in b) g) in
      quiet_fine P InTurn (pair_fine P InTurn F G (λ p q. p || q))
  tree_kept (N.And a b) k h g =
      let F = tree_kept a k.0 (left_all (actions_in a) (actions_in b) h) (left_all (turn_actions_in a) (turn_actions_in b) g) in
      let G = tree_kept b k.1 (right_all (actions_in a) (actions_in b) h) (right_all (turn_actions_in a) (turn_actions_in b) g) in
      live_fine P InTurn (pair_fine P InTurn F G (λ p q. p && q)) k.2
  tree_kept (N.Minus a b) k h g =
      let F = tree_kept a k.0 (left_all (actions_in a) (actions_in b) h) (left_all (turn_actions_in a) (turn_actions_in b) g) in
      let G = tree_kept b k.1 (right_all (actions_in a) (actions_in b) h) (right_all (turn_actions_in a) (turn_actions_in b) g) in
      live_fine P InTurn (pair_fine P InTurn F G (λ p q. p && not q)) k.2
  tree_kept (N.Cat a b) k h g =
      let F = tree_kept a k.0 (left_all (actions_in a) (actions_in b) h) (left_all (turn_actions_in a) (turn_actions_in b) g) in
      let G = tree_kept b k.1 (right_all (actions_in a) (actions_in b) h) (right_all (turn_actions_in a) (turn_actions_in b) g) in
      quiet_fine P InTurn (chain_fine P InTurn F G)
  tree_kept (N.Star a n) k h g = quiet_fine P InTurn (star_fine P InTurn (tree_kept a k h g) n)
  tree_kept (N.Enter a l) k h g = enter_fine P InTurn (tree_kept a k (right_all (label_actions l) (actions_in a) h) g) (carry_of l) (label_fine P InTurn l (left_all (label_actions l) (actions_in a) h))
  tree_kept (N.Finish a l) k h g = finish_fine P InTurn (tree_kept a k (right_all (label_actions l) (actions_in a) h) g) (carry_of l) (label_fine P InTurn l (left_all (label_actions l) (actions_in a) h))
  tree_kept (N.All a l) k h g = every_fine P InTurn (tree_kept a k (right_all (label_actions l) (actions_in a) h) g) (carry_of l) (label_fine P InTurn l (left_all (label_actions l) (actions_in a) h))
  tree_kept (N.Leave a l) k h g = leave_fine P InTurn (tree_kept a k (right_all (label_actions l) (actions_in a) h) g) (carry_of l) (label_fine P InTurn l (left_all (label_actions l) (actions_in a) h))
  tree_kept (N.Mark a class kind s x) k h g =
      mark_fine P InTurn (tree_kept a k (λ b i. h b (inr i)) (right_all (turn_action kind x) (turn_actions_in a) g)) class kind (record { major = s; minor = 0; action = record { 0 = x } })
      (h x (inl refl), left_all (turn_action kind x) (turn_actions_in a) g)
  tree_kept (N.When a c) k h g = when_fine P InTurn (tree_kept a k h g) c

  -- ---- scanners

  abbrev AllPatterns : List Pattern → Type 0
  AllPatterns ps = (p : Pattern) → In p ps → All P (actions_in p.tree) × All T (turn_actions_in p.tree)

  carried_kept : (ps : List Pattern) (k : PatternMarks ps) (all : List Carry) (c : Confs ps) (l : Letter) → AllPatterns ps → AllIn (Fine P InTurn) (kept_carries ps k all c l)
  carried_kept [] k all c l h = λ d i. absurd i
  carried_kept (p ∷ ps) k all c l h =
      let F = let x = h p (inl refl) in tree_kept p.tree k.0 x.0 x.1 in
      let ms = part_moves (auto p.tree k.0) l c.0 in
      append_in P InTurn (carries (kept all ms)) (kept_carries ps k.1 all c.1 l) (carries_fine P InTurn (kept all ms) (kept_fine P InTurn all ms (part_fine P InTurn F c.0 l)))
      (carried_kept ps k.1 all c.1 l (λ q i. h q (inr i)))

  outs_kept : (ps : List Pattern) (k : PatternMarks ps) (c : Confs ps) → AllPatterns ps → Fine P InTurn (token_out ps k c)
  outs_kept [] k c h = none_fine P InTurn
  outs_kept (p ∷ ps) k c h =
      let F = let x = h p (inl refl) in tree_kept p.tree k.0 x.0 x.1 in
      cond_fine P InTurn _ (on_part no_carry (auto p.tree k.0).out c.0) (token_out ps k.1 c.1) (part_out P InTurn F c.0) (outs_kept ps k.1 c.1 (λ q i. h q (inr i)))

  marks_kept : (ps : List Pattern) (k : PatternMarks ps) (c : Confs ps) (kind : Kind) → AllPatterns ps → AllIn (FineStamp P InTurn kind) (confs_marks ps k c kind)
  marks_kept [] k c kind h = λ x i. absurd i
  marks_kept (p ∷ ps) k c kind h =
      let F = let x = h p (inl refl) in tree_kept p.tree k.0 x.0 x.1 in
      append_in P InTurn _ (confs_marks ps k.1 c.1 kind) (part_marks P InTurn F kind c.0) (marks_kept ps k.1 c.1 kind (λ q i. h q (inr i)))

  pub scan_kept : (ps : List Pattern) (k : PatternMarks ps) → AllPatterns ps → IsKept (scan_auto ps k)
  scan_kept ps k h = record {
    step = λ c l m e. let all = all_carried ps k c l in step_to_fine P InTurn (kept_confs ps k all c l) (kept_carries ps k all c l) m (carried_kept ps k all c l h) e;
    out = λ c. outs_kept ps k c h;
    marks = λ c kind. set_in P InTurn (confs_marks ps k c kind) (marks_kept ps k c kind h);
  }
