-- The tables that an expression's automaton carries.
use Rattle.std.proofs.Common.{◌≡◌, ℕ, Bool, true, false, cond, ◌&&◌, ◌||◌, not, List, [], ◌∷◌, ◌++◌, ◌⊎◌, inl, inr, map, flat_map, refl, sym, ap, subst, Option, Some, None, option_map}
use Rattle.rl_types.specs.declared.numbers.Letter.{Letter}
use Rattle.rl_types.specs.KeyRange.{Range}
use Rattle.rl_labels.specs.declared.priors.Prior.{Prior}
use Rattle.rl_labels.specs.declared.carry.Carry.{Carry}
use Rattle.rl_labels.specs.Labels.{IsTable}
use Rattle.rl_labels.specs.Carries.{no_carry, all_of, both_of}
use Rattle.rl_labels.proofs.TableLaws.{IsTable-table_of}
use Rattle.rl_sets.specs.Sets.{In, joined, set_of}
use Rattle.rl_sets.proofs.SetLaws.{In-append_left, In-append_right, In-append_cases, In-map_from, In-filter_from, In-joined_from, In-flat_map_from}
use Rattle.rl_automata.specs.declared.moves.Move.{Move}
use Rattle.rl_automata.specs.declared.tree.Label.{Label}
use Rattle.rl_automata.specs.declared.tree.Label.TheVariants as label
use Rattle.rl_automata.specs.Auto.{Auto, set_auto, point_auto, both_auto, cat_auto, star_auto, enter_auto, finish_auto, every_auto, leave_auto, when_auto, quiet, pruned, on_part, first, listed, carries, kept, carrying, restamped, step_to, settle, part_moves, right_moves, steps_of, round_step, member_steps, left_final, ends_at_once, is_start, only_live, holds}
use Rattle.rl_automata.specs.Nodes as n
use Rattle.rl_automata.specs.Nodes.{Node, carry_of}
use Rattle.rl_automata.specs.Marks.{Marks, auto}
use Rattle.rl_automata.specs.Scans.{Pattern, PatternMarks, Confs, all_carried, kept_confs, kept_carries, token_out, scan_auto}
use Rattle.rl_automata.proofs.Congruence.{AllIn, some_in, none_in}
use Rattle.rl_laws.specs.Ties.{priors_in, AreAmong, IsTableOf, ExpressionsCarryTables, ScannersCarryTables}
use Rattle.rl_laws.proofs.Greatest.{from_table}

module _ (ps : List Prior) where
  abbrev Fine : Carry → Type 0
  Fine c = IsTableOf ps c.table

  pub record IsFine {S : Type 0} (A : Auto S) : Type 0 where
    pub step : (c : S) (l : Letter) (m : Move S) → A.step c l ≡ Some m → Fine m.carry
    pub out : (c : S) → Fine (A.out c)

  -- ---- carries

  none_fine : Fine no_carry
  none_fine = record { is_table = tt; among = λ p i. absurd i }

  all_fine : (cs : List Carry) → AllIn Fine cs → Fine (all_of cs)
  all_fine cs h = record {
    is_table = IsTable-table_of (joined (map (λ c. c.table) cs));
    among = λ p i.
        let j = In-joined_from p (map (λ c. c.table) cs) (from_table p (joined (map (λ c. c.table) cs)) i).0 in
        let k = In-map_from (λ (c : Carry). c.table) j.0 cs j.1 in
        (h k.0 k.1).among p (subst (In p) (sym k.2) j.2);
  }

  two_fine : (c d : Carry) → Fine c → Fine d → AllIn Fine (c ∷ d ∷ [])
  two_fine c d h k e (inl p) = subst Fine p h
  two_fine c d h k e (inr (inl p)) = subst Fine p k
  two_fine c d h k e (inr (inr i)) = absurd i

  both_fine : (c d : Carry) → Fine c → Fine d → Fine (both_of c d)
  both_fine c d h k = all_fine (c ∷ d ∷ []) (two_fine c d h k)

  cond_fine : (b : Bool) (c d : Carry) → Fine c → Fine d → Fine (cond b c d)
  cond_fine true c d h k = h
  cond_fine false c d h k = k

  append_in : {X : Type 0} {R : X → Type 0} (xs ys : List X) → AllIn R xs → AllIn R ys → AllIn R (xs ++ ys)
  append_in xs ys h k x i = let r : In x xs ⊎ In x ys = In-append_cases x xs ys i in elim r [ inl j ↦ h x j | inr j ↦ k x j ]

  cond_in : {X : Type 0} {R : X → Type 0} (b : Bool) (xs ys : List X) → AllIn R xs → AllIn R ys → AllIn R (cond b xs ys)
  cond_in true xs ys h k = h
  cond_in false xs ys h k = k

  flat_in : {X Y : Type 0} {R : Y → Type 0} (f : X → List Y) (xs : List X) → ((x : X) → AllIn R (f x)) → AllIn R (flat_map f xs)
  flat_in f xs h y i = let r = In-flat_map_from f y xs i in h r.0 y r.2

  -- ---- moves

  abbrev FineMove : {S : Type 0} → Move S → Type 0
  FineMove m = Fine m.carry

  carries_fine : {S : Type 0} (ms : List (Move S)) → AllIn FineMove ms → AllIn Fine (carries ms)
  carries_fine ms h c i = let r = In-map_from (λ m. m.carry) c ms i in subst Fine r.2 (h r.0 r.1)

  kept_fine : {S : Type 0} (all : List Carry) (ms : List (Move S)) → AllIn FineMove ms → AllIn FineMove (kept all ms)
  kept_fine all ms h m i = h m (In-filter_from _ m ms i).0

  step_to_fine : {C : Type 0} (target : C) (cs : List Carry) (m : Move C) → AllIn Fine cs → step_to target cs ≡ Some m → Fine m.carry
  step_to_fine target [] m h e = none_in m e
  step_to_fine target (c ∷ cs) m h e = subst Fine (ap (λ w. w.carry) (some_in _ m e)) (all_fine (c ∷ cs) h)

  settle_fine : {S T C : Type 0} (make : List S → List T → C) (ls : List (Move S)) (rs : List (Move T)) (m : Move C) → AllIn FineMove ls → AllIn FineMove rs → settle make ls rs ≡ Some m → Fine m.carry
  settle_fine make ls rs m h k e =
      let all = carries ls ++ carries rs in
      step_to_fine _ (carries (kept all ls) ++ carries (kept all rs)) m
      (append_in (carries (kept all ls)) (carries (kept all rs)) (carries_fine (kept all ls) (kept_fine all ls h)) (carries_fine (kept all rs) (kept_fine all rs k))) e

  mapped_fine : {S : Type 0} (f : Move S → Move S) → ((m : Move S) → FineMove m → FineMove (f m)) → (ms : List (Move S)) → AllIn FineMove ms → AllIn FineMove (map f ms)
  mapped_fine f h ms k m i = let r = In-map_from f m ms i in subst FineMove r.2 (h r.0 (k r.0 r.1))

  option_fine : {S : Type 0} (f : Move S → Move S) → ((m : Move S) → FineMove m → FineMove (f m)) → (o : Option (Move S)) → ((m : Move S) → o ≡ Some m → FineMove m) → (m : Move S) → option_map f o ≡ Some m → FineMove m
  option_fine f h None k m e = none_in m e
  option_fine f h (Some n) k m e = subst FineMove (some_in (f n) m e) (h n (k n refl))

  carrying_fine : {S : Type 0} (x : Carry) → Fine x → (m : Move S) → FineMove m → FineMove (carrying x m)
  carrying_fine x h m k = both_fine x m.carry h k

  restamped_fine : {S : Type 0} (base : ℕ) (m : Move S) → FineMove m → FineMove (restamped base m)
  restamped_fine base m h = h

  -- ---- operators

  module _ {S : Type 0} {A : Auto S} (F : IsFine A) where
    listed_fine : (c : S) (l : Letter) → AllIn FineMove (listed (A.step c l))
    listed_fine c l m i = by (A.step c l) refl i
      where
        by : (o : Option (Move S)) → A.step c l ≡ o → In m (listed o) → FineMove m
        by None e i = absurd i
        by (Some n) e (inl p) = subst FineMove p (F.step c l n e)
        by (Some n) e (inr j) = absurd j

    part_fine : (o : Option S) (l : Letter) → AllIn FineMove (part_moves A l o)
    part_fine None l = λ m i. absurd i
    part_fine (Some c) l = listed_fine c l

    part_out : (o : Option S) → Fine (on_part no_carry A.out o)
    part_out None = none_fine
    part_out (Some c) = F.out c

    outs_fine : (cs : List S) → AllIn Fine (map A.out cs)
    outs_fine cs d i = let r = In-map_from A.out d cs i in subst Fine r.2 (F.out r.0)

    round_fine : (base : ℕ) (c : S) (l : Letter) → AllIn FineMove (round_step A base c l)
    round_fine base c l = cond_in (is_start A c) _ _ (mapped_fine (restamped base) (restamped_fine base) (listed (A.step c l)) (listed_fine c l)) (listed_fine c l)

    member_fine : (base : ℕ) (l : Letter) (c : S) → AllIn FineMove (member_steps A base l c)
    member_fine base l c = append_in (round_step A base c l) _ (round_fine base c l)
        (cond_in (A.final c) _ [] (mapped_fine (carrying (A.out c)) (carrying_fine (A.out c) (F.out c)) (round_step A base A.start l) (round_fine base A.start l)) (λ m i. absurd i))

    quiet_fine : IsFine (quiet A)
    quiet_fine = record { step = F.step; out = F.out }

    live_fine : (live : S → Bool) → IsFine (pruned live A)
    live_fine live = record { step = λ c l m e. by (A.step c l) refl m e; out = F.out }
      where
        by : {c : S} {l : Letter} (o : Option (Move S)) → A.step c l ≡ o → (m : Move S) → only_live live o ≡ Some m → FineMove m
        by None p m e = none_in m e
        by {c} {l} (Some n) p m e = kept_one (live n.to) e
          where
            kept_one : (b : Bool) → cond b (Some n) None ≡ Some m → FineMove m
            kept_one true e = subst FineMove (some_in n m e) (F.step c l n p)
            kept_one false e = none_in m e

    star_fine : (base : ℕ) → IsFine (star_auto A base)
    star_fine base = record {
      step = λ c l m e. settle_fine {S = S} (λ ss ts. set_of A.order ts) [] (flat_map (member_steps A base l) c) m (λ m i. absurd i) (flat_in (member_steps A base l) c (member_fine base l)) e;
      out = λ c. cond_fine _ (all_of (map A.out c)) no_carry (all_fine (map A.out c) (outs_fine c)) none_fine;
    }

    every_fine : (x : Carry) → Fine x → IsFine (every_auto A x)
    every_fine x h = record { step = λ c l. option_fine (carrying x) (carrying_fine x h) (A.step c l) (F.step c l); out = F.out }

    enter_fine : (x : Carry) → Fine x → IsFine (enter_auto A x)
    enter_fine x h = record { step = λ c l. by c l (is_start A c); out = λ c. cond_fine _ (both_of x (A.out c)) (A.out c) (both_fine x (A.out c) h (F.out c)) (F.out c) }
      where
        by : (c : S) (l : Letter) (b : Bool) (m : Move S) → cond b (option_map (carrying x) (A.step c l)) (A.step c l) ≡ Some m → FineMove m
        by c l true = option_fine (carrying x) (carrying_fine x h) (A.step c l) (F.step c l)
        by c l false = F.step c l

    finish_fine : (x : Carry) → Fine x → IsFine (finish_auto A x)
    finish_fine x h = record { step = λ c l. option_fine (λ m. cond (A.final m.to) (carrying x m) m) each (A.step c l) (F.step c l); out = F.out }
      where
        each : (m : Move S) → FineMove m → FineMove (cond (A.final m.to) (carrying x m) m)
        each m k = elim (A.final m.to) as (λ b. FineMove (cond b (carrying x m) m)) [ true ↦ carrying_fine x h m k | false ↦ k ]

    leave_fine : (x : Carry) → Fine x → IsFine (leave_auto A x)
    leave_fine x h = record { step = F.step; out = λ c. cond_fine _ (both_of x (A.out c)) (A.out c) (both_fine x (A.out c) h (F.out c)) (F.out c) }

    when_fine : (condition : ℕ) → IsFine (when_auto condition A)
    when_fine condition = record { step = λ c l. by c l (holds condition l.truths); out = F.out }
      where
        by : (c : S) (l : Letter) (b : Bool) (m : Move S) → cond b (A.step c l) None ≡ Some m → FineMove m
        by c l true m e = F.step c l m e
        by c l false m e = none_in m e

  module _ {S T : Type 0} {A : Auto S} {B : Auto T} (F : IsFine A) (G : IsFine B) where
    pair_fine : (is_final : Bool → Bool → Bool) → IsFine (both_auto A B is_final)
    pair_fine is_final = record {
      step = λ c l m e. settle_fine (λ ss ts. (first ss, first ts)) (part_moves A l c.0) (part_moves B l c.1) m (part_fine F c.0 l) (part_fine G c.1 l) e;
      out = λ c. cond_fine _ _ no_carry (both_fine (on_part no_carry A.out c.0) (on_part no_carry B.out c.1) (part_out F c.0) (part_out G c.1)) none_fine;
    }

    right_fine : (c : Option S × List T) (l : Letter) → AllIn FineMove (right_moves A B c l)
    right_fine c l = append_in (steps_of B l c.1) _ (flat_in (λ t. listed (B.step t l)) c.1 (λ t. listed_fine G t l))
        (cond_in (left_final A B c) _ [] (mapped_fine (carrying (on_part no_carry A.out c.0)) (carrying_fine (on_part no_carry A.out c.0) (part_out F c.0)) (listed (B.step B.start l)) (listed_fine G B.start l)) (λ m i. absurd i))

    chain_fine : IsFine (cat_auto A B)
    chain_fine = record {
      step = λ c l m e. settle_fine (λ ss ts. (first ss, set_of B.order ts)) (part_moves A l c.0) (right_moves A B c l) m (part_fine F c.0 l) (right_fine c l) e;
      out = λ c. cond_fine _ _ no_carry (all_fine _ (append_in (map B.out c.1) _ (outs_fine G c.1)
          (cond_in (ends_at_once A B c) _ [] (two_fine (on_part no_carry A.out c.0) (B.out B.start) (part_out F c.0) (G.out B.start)) (λ d i. absurd i)))) none_fine;
    }

  set_fine : (ranges : List Range) → IsFine (set_auto ranges)
  set_fine ranges = record { step = λ c l. by _; out = λ c. none_fine }
    where
      by : (b : Bool) (m : Move Bool) → cond b (Some (record { to = true; carry = no_carry })) None ≡ Some m → FineMove m
      by true m e = subst FineMove (some_in _ m e) none_fine
      by false m e = none_in m e

  point_fine : (is_final : Bool) → IsFine (point_auto is_final)
  point_fine is_final = record { step = λ c l m e. none_in m e; out = λ c. none_fine }

  -- ---- expressions

  label_table : (l : Label) → IsTable (carry_of l).table
  label_table (label.Action s x) = tt
  label_table (label.Prior s m v) = (tt, tt)

  abbrev Embedded : List Prior → Type 0
  Embedded qs = AreAmong qs ps

  left_of : (qs rs : List Prior) → Embedded (qs ++ rs) → Embedded qs
  left_of qs rs h p i = h p (In-append_left p qs rs i)

  right_of : (qs rs : List Prior) → Embedded (qs ++ rs) → Embedded rs
  right_of qs rs h p i = h p (In-append_right p qs rs i)

  label_fine : (l : Label) (qs : List Prior) → Embedded ((carry_of l).table ++ qs) → Fine (carry_of l)
  label_fine l qs h = record { is_table = label_table l; among = left_of (carry_of l).table qs h }

  tree_fine : (t : Node) (k : Marks t) → Embedded (priors_in t) → IsFine (auto t k)
  tree_fine (n.Set ranges) k h = set_fine ranges
  tree_fine n.Null k h = point_fine true
  tree_fine n.Nothing k h = point_fine false
  tree_fine (n.Union a b) k h =
      quiet_fine (pair_fine (tree_fine a k.0 (left_of (priors_in a) (priors_in b) h)) (tree_fine b k.1 (right_of (priors_in a) (priors_in b) h)) (λ p q. p || q))
  tree_fine (n.And a b) k h =
      live_fine (pair_fine (tree_fine a k.0 (left_of (priors_in a) (priors_in b) h)) (tree_fine b k.1 (right_of (priors_in a) (priors_in b) h)) (λ p q. p && q)) k.2
  tree_fine (n.Minus a b) k h =
      live_fine (pair_fine (tree_fine a k.0 (left_of (priors_in a) (priors_in b) h)) (tree_fine b k.1 (right_of (priors_in a) (priors_in b) h)) (λ p q. p && not q)) k.2
  tree_fine (n.Cat a b) k h =
      quiet_fine (chain_fine (tree_fine a k.0 (left_of (priors_in a) (priors_in b) h)) (tree_fine b k.1 (right_of (priors_in a) (priors_in b) h)))
  tree_fine (n.Star a base) k h = quiet_fine (star_fine (tree_fine a k h) base)
  tree_fine (n.Enter a l) k h = enter_fine (tree_fine a k (right_of (carry_of l).table (priors_in a) h)) (carry_of l) (label_fine l (priors_in a) h)
  tree_fine (n.Finish a l) k h = finish_fine (tree_fine a k (right_of (carry_of l).table (priors_in a) h)) (carry_of l) (label_fine l (priors_in a) h)
  tree_fine (n.All a l) k h = every_fine (tree_fine a k (right_of (carry_of l).table (priors_in a) h)) (carry_of l) (label_fine l (priors_in a) h)
  tree_fine (n.Leave a l) k h = leave_fine (tree_fine a k (right_of (carry_of l).table (priors_in a) h)) (carry_of l) (label_fine l (priors_in a) h)
  tree_fine (n.Mark a class kind s x) k h = let F = tree_fine a k h in record { step = F.step; out = F.out }
  tree_fine (n.When a c) k h = when_fine (tree_fine a k h) c

  -- ---- scanners

  abbrev PatternsEmbedded : List Pattern → Type 0
  PatternsEmbedded qs = Embedded (flat_map priors_in (map (λ (q : Pattern). q.tree) qs))

  first_of : (q : Pattern) (qs : List Pattern) → PatternsEmbedded (q ∷ qs) → Embedded (priors_in q.tree)
  first_of q qs h = left_of (priors_in q.tree) (flat_map priors_in (map (λ (x : Pattern). x.tree) qs)) h

  others_of : (q : Pattern) (qs : List Pattern) → PatternsEmbedded (q ∷ qs) → PatternsEmbedded qs
  others_of q qs h = right_of (priors_in q.tree) (flat_map priors_in (map (λ (x : Pattern). x.tree) qs)) h

  kept_by : (qs : List Pattern) (k : PatternMarks qs) → PatternsEmbedded qs → (all : List Carry) (c : Confs qs) (l : Letter) → AllIn Fine (kept_carries qs k all c l)
  kept_by [] k h all c l = λ d i. absurd i
  kept_by (q ∷ qs) k h all c l =
      let ms = part_moves (auto q.tree k.0) l c.0 in
      append_in (carries (kept all ms)) (kept_carries qs k.1 all c.1 l)
      (carries_fine (kept all ms) (kept_fine all ms (part_fine (tree_fine q.tree k.0 (first_of q qs h)) c.0 l))) (kept_by qs k.1 (others_of q qs h) all c.1 l)

  token_fine : (qs : List Pattern) (k : PatternMarks qs) → PatternsEmbedded qs → (c : Confs qs) → Fine (token_out qs k c)
  token_fine [] k h c = none_fine
  token_fine (q ∷ qs) k h c =
      cond_fine (on_part false (auto q.tree k.0).final c.0) (on_part no_carry (auto q.tree k.0).out c.0) (token_out qs k.1 c.1)
      (part_out (tree_fine q.tree k.0 (first_of q qs h)) c.0) (token_fine qs k.1 (others_of q qs h) c.1)

  scan_fine : (qs : List Pattern) (k : PatternMarks qs) → PatternsEmbedded qs → IsFine (scan_auto qs k)
  scan_fine qs k h = record {
    step = λ c l m e. step_to_fine (kept_confs qs k (all_carried qs k c l) c l) (kept_carries qs k (all_carried qs k c l) c l) m (kept_by qs k h (all_carried qs k c l) c l) e;
    out = token_fine qs k h;
  }

pub carry_tables : ExpressionsCarryTables
carry_tables t k = let F = tree_fine (priors_in t) t k (λ p i. i) in record { step = F.step; out = F.out }

pub scanners_carry_tables : ScannersCarryTables
scanners_carry_tables qs k = let F = scan_fine (flat_map priors_in (map (λ (q : Pattern). q.tree) qs)) qs k (λ p i. i) in record { step = F.step; out = F.out }
