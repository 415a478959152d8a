-- Without priorities no table has an entry; and a configuration that is not final puts nothing on what leaves it.
use Rattle.std.proofs.Common.{◌≡◌, ℕ, Bool, true, false, cond, ◌&&◌, ◌||◌, not, List, [], ◌∷◌, ◌++◌, ◌⊎◌, inl, inr, map, flat_map, refl, ◌∙◌, ap, subst, Option, Some, None, option_map}
use Rattle.rl_types.specs.declared.numbers.Letter.{Letter}
use Rattle.rl_types.specs.KeyRange.{Range}
use Rattle.rl_labels.specs.declared.stamped.Stamp.{Stamp}
use Rattle.rl_labels.specs.declared.carry.Carry.{Carry}
use Rattle.rl_labels.specs.Labels.{table_of}
use Rattle.rl_labels.specs.Carries.{no_carry, all_of, both_of}
use Rattle.rl_sets.specs.Sets.{In, joined, set_of}
use Rattle.rl_sets.proofs.SetLaws.{In-append_cases, In-map_from, In-filter_from, In-flat_map_from}
use Rattle.rl_automata.specs.declared.moves.Move.{Move}
use Rattle.rl_automata.specs.declared.tree.Kind.{Kind}
use Rattle.rl_automata.specs.declared.tree.Class.{Class}
use Rattle.rl_automata.specs.declared.tree.Label.{Label}
use Rattle.rl_automata.specs.declared.tree.Label.TheVariants.{Action, Prior}
use Rattle.rl_automata.specs.Auto.{Auto, set_auto, point_auto, both_auto, cat_auto, star_auto, enter_auto, finish_auto, every_auto, leave_auto, mark_auto, when_auto, quiet, pruned, on_part, first, listed, carries, kept, carrying, restamped, step_to, settle, part_moves, right_moves, steps_of, round_step, member_steps, left_final, ends_at_once, is_start, only_live, holds}
use Rattle.rl_automata.specs.Nodes as N
use Rattle.rl_automata.specs.Nodes.{Node, carry_of}
use Rattle.rl_automata.specs.Marks.{Marks, auto}
use Rattle.rl_automata.proofs.Congruence.{AllIn, some_in, none_in}
use Rattle.rl_unions.specs.Unions.{IsAction, HasNoPriors}

abbrev pub IsBare : Carry → Type 0
IsBare c = c.table ≡ []

pub record IsCalm {S : Type 0} (A : Auto S) : Type 0 where
  pub step : (c : S) (l : Letter) (m : Move S) → A.step c l ≡ Some m → IsBare m.carry
  pub out : (c : S) → IsBare (A.out c)
  pub resting : (c : S) → A.final c ≡ false → A.out c ≡ no_carry

-- ---- carries

all_bare : (cs : List Carry) → AllIn IsBare cs → IsBare (all_of cs)
all_bare cs h = ap table_of (none cs h)
  where
    none : (cs : List Carry) → AllIn IsBare cs → joined (map (λ c. c.table) cs) ≡ []
    none [] h = refl
    none (c ∷ cs) h = λ i. h c (inl refl) i ++ none cs (λ d j. h d (inr j)) i

two_bare : (c d : Carry) → IsBare c → IsBare d → AllIn IsBare (c ∷ d ∷ [])
two_bare c d h k e (inl p) = subst IsBare p h
two_bare c d h k e (inr (inl p)) = subst IsBare p k
two_bare c d h k e (inr (inr i)) = absurd i

pub both_bare : (c d : Carry) → IsBare c → IsBare d → IsBare (both_of c d)
both_bare c d h k = all_bare (c ∷ d ∷ []) (two_bare c d h k)

cond_bare : (b : Bool) (c d : Carry) → IsBare c → IsBare d → IsBare (cond b c d)
cond_bare true c d h k = h
cond_bare false c d h k = k

append_in : {X : Type 0} {R : X → Type 0} (xs ys : List X) → AllIn R xs → AllIn R ys → AllIn R (xs ++ ys)
append_in xs ys h k x i = let r : In x xs ⊎ In x ys = In-append_cases x xs ys i in elim r [ inl j ↦ h x j | inr j ↦ k x j ]

cond_in : {X : Type 0} {R : X → Type 0} (b : Bool) (xs ys : List X) → AllIn R xs → AllIn R ys → AllIn R (cond b xs ys)
cond_in true xs ys h k = h
cond_in false xs ys h k = k

flat_in : {X Y : Type 0} {R : Y → Type 0} (f : X → List Y) (xs : List X) → ((x : X) → AllIn R (f x)) → AllIn R (flat_map f xs)
flat_in f xs h y i = let r = In-flat_map_from f y xs i in h r.0 y r.2

-- ---- moves

abbrev BareMove : {S : Type 0} → Move S → Type 0
BareMove m = IsBare m.carry

carries_bare : {S : Type 0} (ms : List (Move S)) → AllIn BareMove ms → AllIn IsBare (carries ms)
carries_bare ms h c i = let r = In-map_from (λ m. m.carry) c ms i in subst IsBare r.2 (h r.0 r.1)

kept_bare : {S : Type 0} (all : List Carry) (ms : List (Move S)) → AllIn BareMove ms → AllIn BareMove (kept all ms)
kept_bare all ms h m i = h m (In-filter_from _ m ms i).0

step_to_bare : {C : Type 0} (target : C) (cs : List Carry) (m : Move C) → AllIn IsBare cs → step_to target cs ≡ Some m → BareMove m
step_to_bare target [] m h e = none_in m e
step_to_bare target (c ∷ cs) m h e = subst IsBare (ap (λ w. w.carry) (some_in _ m e)) (all_bare (c ∷ cs) h)

settle_bare : {S T C : Type 0} (make : List S → List T → C) (ls : List (Move S)) (rs : List (Move T)) (m : Move C) → AllIn BareMove ls → AllIn BareMove rs → settle make ls rs ≡ Some m → BareMove m
settle_bare make ls rs m h k e =
    let all = carries ls ++ carries rs in
    step_to_bare _ (carries (kept all ls) ++ carries (kept all rs)) m
    (append_in (carries (kept all ls)) (carries (kept all rs)) (carries_bare (kept all ls) (kept_bare all ls h)) (carries_bare (kept all rs) (kept_bare all rs k))) e

mapped_bare : {S : Type 0} (f : Move S → Move S) → ((m : Move S) → BareMove m → BareMove (f m)) → (ms : List (Move S)) → AllIn BareMove ms → AllIn BareMove (map f ms)
mapped_bare f h ms k m i = let r = In-map_from f m ms i in subst BareMove r.2 (h r.0 (k r.0 r.1))

option_bare : {S : Type 0} (f : Move S → Move S) → ((m : Move S) → BareMove m → BareMove (f m)) → (o : Option (Move S)) → ((m : Move S) → o ≡ Some m → BareMove m) → (m : Move S) → option_map f o ≡ Some m → BareMove m
option_bare f h None k m e = none_in m e
option_bare f h (Some n) k m e = subst BareMove (some_in (f n) m e) (h n (k n refl))

carrying_bare : {S : Type 0} (x : Carry) → IsBare x → (m : Move S) → BareMove m → BareMove (carrying x m)
carrying_bare x h m k = both_bare x m.carry h k

-- ---- operators

and_false : (b : Bool) → (b && false) ≡ false
and_false true = refl
and_false false = refl

module _ {S : Type 0} {A : Auto S} (F : IsCalm A) where
  listed_bare : (c : S) (l : Letter) → AllIn BareMove (listed (A.step c l))
  listed_bare c l m i = by (A.step c l) refl i
    where
      by : (o : Option (Move S)) → A.step c l ≡ o → In m (listed o) → BareMove m
      by None e i = absurd i
      by (Some n) e (inl p) = subst BareMove p (F.step c l n e)
      by (Some n) e (inr j) = absurd j

  part_bare : (o : Option S) (l : Letter) → AllIn BareMove (part_moves A l o)
  part_bare None l = λ m i. absurd i
  part_bare (Some c) l = listed_bare c l

  pub part_out : (o : Option S) → IsBare (on_part no_carry A.out o)
  part_out None = refl
  part_out (Some c) = F.out c

  outs_bare : (cs : List S) → AllIn IsBare (map A.out cs)
  outs_bare cs d i = let r = In-map_from A.out d cs i in subst IsBare r.2 (F.out r.0)

  round_bare : (base : ℕ) (c : S) (l : Letter) → AllIn BareMove (round_step A base c l)
  round_bare base c l = cond_in (is_start A c) _ _ (mapped_bare (restamped base) (λ m h. h) (listed (A.step c l)) (listed_bare c l)) (listed_bare c l)

  member_bare : (base : ℕ) (l : Letter) (c : S) → AllIn BareMove (member_steps A base l c)
  member_bare base l c = append_in (round_step A base c l) _ (round_bare base c l)
      (cond_in (A.final c) _ [] (mapped_bare (carrying (A.out c)) (carrying_bare (A.out c) (F.out c)) (round_step A base A.start l) (round_bare base A.start l)) (λ m i. absurd i))

  quiet_calm : IsCalm (quiet A)
  quiet_calm = record { step = F.step; out = F.out; resting = F.resting }

  live_calm : (live : S → Bool) → IsCalm (pruned live A)
  live_calm live = record { step = λ c l m e. by (A.step c l) refl m e; out = F.out; resting = F.resting }
    where
      by : {c : S} {l : Letter} (o : Option (Move S)) → A.step c l ≡ o → (m : Move S) → only_live live o ≡ Some m → BareMove m
      by None p m e = none_in m e
      by {c} {l} (Some n) p m e = kept_one (live n.to) e
        where
          kept_one : (b : Bool) → cond b (Some n) None ≡ Some m → BareMove m
          kept_one true e = subst BareMove (some_in n m e) (F.step c l n p)
          kept_one false e = none_in m e

  star_calm : (base : ℕ) → IsCalm (star_auto A base)
  star_calm base = record {
    step = λ c l m e. settle_bare {S = S} (λ ss ts. set_of A.order ts) [] (flat_map (member_steps A base l) c) m (λ m i. absurd i) (flat_in (member_steps A base l) c (member_bare base l)) e;
    out = λ c. cond_bare _ (all_of (map A.out c)) no_carry (all_bare (map A.out c) (outs_bare c)) refl;
    resting = λ c e. ap (λ b. cond b (all_of (map A.out c)) no_carry) e;
  }

  every_calm : (x : Carry) → IsBare x → IsCalm (every_auto A x)
  every_calm x h = record { step = λ c l. option_bare (carrying x) (carrying_bare x h) (A.step c l) (F.step c l); out = F.out; resting = F.resting }

  enter_calm : (x : Carry) → IsBare x → IsCalm (enter_auto A x)
  enter_calm x h = record {
    step = λ c l. by c l (is_start A c);
    out = λ c. cond_bare _ (both_of x (A.out c)) (A.out c) (both_bare x (A.out c) h (F.out c)) (F.out c);
    resting = λ c e. ap (λ b. cond (is_start A c && b) (both_of x (A.out c)) (A.out c)) e ∙ ap (λ b. cond b (both_of x (A.out c)) (A.out c)) (and_false (is_start A c)) ∙ F.resting c e;
  }
    where
      by : (c : S) (l : Letter) (b : Bool) (m : Move S) → cond b (option_map (carrying x) (A.step c l)) (A.step c l) ≡ Some m → BareMove m
      by c l true = option_bare (carrying x) (carrying_bare x h) (A.step c l) (F.step c l)
      by c l false = F.step c l

  finish_calm : (x : Carry) → IsBare x → IsCalm (finish_auto A x)
  finish_calm x h = record { step = λ c l. option_bare (λ m. cond (A.final m.to) (carrying x m) m) each (A.step c l) (F.step c l); out = F.out; resting = F.resting }
    where
      each : (m : Move S) → BareMove m → BareMove (cond (A.final m.to) (carrying x m) m)
      each m k = elim (A.final m.to) as (λ b. BareMove (cond b (carrying x m) m)) [ true ↦ carrying_bare x h m k | false ↦ k ]

  leave_calm : (x : Carry) → IsBare x → IsCalm (leave_auto A x)
  leave_calm x h = record {
    step = F.step;
    out = λ c. cond_bare _ (both_of x (A.out c)) (A.out c) (both_bare x (A.out c) h (F.out c)) (F.out c);
    resting = λ c e. ap (λ b. cond b (both_of x (A.out c)) (A.out c)) e ∙ F.resting c e;
  }

  mark_calm : (class : Class) (kind : Kind) (x : Stamp) → IsCalm (mark_auto A class kind x)
  mark_calm class kind x = record { step = F.step; out = F.out; resting = F.resting }

  when_calm : (condition : ℕ) → IsCalm (when_auto condition A)
  when_calm condition = record { step = λ c l. by c l (holds condition l.truths); out = F.out; resting = F.resting }
    where
      by : (c : S) (l : Letter) (b : Bool) (m : Move S) → cond b (A.step c l) None ≡ Some m → BareMove m
      by c l true m e = F.step c l m e
      by c l false m e = none_in m e

module _ {S T : Type 0} {A : Auto S} {B : Auto T} (F : IsCalm A) (G : IsCalm B) where
  pub pair_calm : (is_final : Bool → Bool → Bool) → IsCalm (both_auto A B is_final)
  pair_calm is_final = record {
    step = λ c l m e. settle_bare (λ ss ts. (first ss, first ts)) (part_moves A l c.0) (part_moves B l c.1) m (part_bare F c.0 l) (part_bare G c.1 l) e;
    out = λ c. cond_bare _ _ no_carry (both_bare (on_part no_carry A.out c.0) (on_part no_carry B.out c.1) (part_out F c.0) (part_out G c.1)) refl;
    resting = λ c e. ap (λ b. cond b (both_of (on_part no_carry A.out c.0) (on_part no_carry B.out c.1)) no_carry) e;
  }

  right_bare : (c : Option S × List T) (l : Letter) → AllIn BareMove (right_moves A B c l)
  right_bare c l = append_in (steps_of B l c.1) _ (flat_in (λ t. listed (B.step t l)) c.1 (λ t. listed_bare G t l))
      (cond_in (left_final A B c) _ [] (mapped_bare (carrying (on_part no_carry A.out c.0)) (carrying_bare (on_part no_carry A.out c.0) (part_out F c.0)) (listed (B.step B.start l)) (listed_bare G B.start l)) (λ m i. absurd i))

  chain_calm : IsCalm (cat_auto A B)
  chain_calm = record {
    step = λ c l m e. settle_bare (λ ss ts. (first ss, set_of B.order ts)) (part_moves A l c.0) (right_moves A B c l) m (part_bare F c.0 l) (right_bare c l) e;
    out = λ c. cond_bare _ _ no_carry (all_bare _ (outs c)) refl;
    resting = λ c e. ap (λ b. cond b (all_of (map B.out c.1 ++ cond (ends_at_once A B c) (on_part no_carry A.out c.0 ∷ B.out B.start ∷ []) [])) no_carry) e;
  }
    where
      outs : (c : Option S × List T) → AllIn IsBare (map B.out c.1 ++ cond (ends_at_once A B c) (on_part no_carry A.out c.0 ∷ B.out B.start ∷ []) [])
      outs c = append_in (map B.out c.1) _ (outs_bare G c.1)
          (cond_in (ends_at_once A B c) _ [] (two_bare (on_part no_carry A.out c.0) (B.out B.start) (part_out F c.0) (G.out B.start)) (λ d i. absurd i))

set_calm : (ranges : List Range) → IsCalm (set_auto ranges)
set_calm ranges = record { step = λ c l. by _; out = λ c. refl; resting = λ c e. refl }
  where
    by : (b : Bool) (m : Move Bool) → cond b (Some (record { to = true; carry = no_carry })) None ≡ Some m → BareMove m
    by true m e = subst BareMove (some_in _ m e) refl
    by false m e = none_in m e

point_calm : (is_final : Bool) → IsCalm (point_auto is_final)
point_calm is_final = record { step = λ c l m e. none_in m e; out = λ c. refl; resting = λ c e. refl }

-- ---- expressions

label_bare : (l : Label) → IsAction l → IsBare (carry_of l)
label_bare (Action s x) h = refl
label_bare (Prior s n v) h = absurd h

pub tree_calm : (t : Node) (k : Marks t) → HasNoPriors t → IsCalm (auto t k)
tree_calm (N.Set ranges) k f = set_calm ranges
tree_calm N.Null k f = point_calm true
tree_calm N.Nothing k f = point_calm false
tree_calm (N.Union a b) k f = quiet_calm (pair_calm (tree_calm a k.0 f.0) (tree_calm b k.1 f.1) (λ p q. p || q))
tree_calm (N.And a b) k f = live_calm (pair_calm (tree_calm a k.0 f.0) (tree_calm b k.1 f.1) (λ p q. p && q)) k.2
tree_calm (N.Minus a b) k f = live_calm (pair_calm (tree_calm a k.0 f.0) (tree_calm b k.1 f.1) (λ p q. p && not q)) k.2
tree_calm (N.Cat a b) k f = quiet_calm (chain_calm (tree_calm a k.0 f.0) (tree_calm b k.1 f.1))
tree_calm (N.Star a n) k f = quiet_calm (star_calm (tree_calm a k f) n)
tree_calm (N.Enter a l) k f = enter_calm (tree_calm a k f.1) (carry_of l) (label_bare l f.0)
tree_calm (N.Finish a l) k f = finish_calm (tree_calm a k f.1) (carry_of l) (label_bare l f.0)
tree_calm (N.All a l) k f = every_calm (tree_calm a k f.1) (carry_of l) (label_bare l f.0)
tree_calm (N.Leave a l) k f = leave_calm (tree_calm a k f.1) (carry_of l) (label_bare l f.0)
tree_calm (N.Mark a class kind s x) k f = mark_calm (tree_calm a k f) class kind (record { major = s; minor = 0; action = record { 0 = x } })
tree_calm (N.When a c) k f = when_calm (tree_calm a k f) c
