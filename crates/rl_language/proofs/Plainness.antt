-- Without priorities no candidate is beaten: each step is there where some candidate is.
use Rattle.std.proofs.Common.{◌≡◌, ℕ, Bool, true, false, cond, not, ◌&&◌, ◌||◌, true≢false, List, [], ◌∷◌, ◌++◌, ◌⊎◌, map, refl, sym, ◌∙◌, ap, inl, inr, Option, Some, None, option_map}
use Rattle.std.specs.List.{list_any, flat_map}
use Rattle.rl_types.specs.declared.numbers.Letter.{Letter}
use Rattle.rl_types.specs.KeyRange.{Range, in_range}
use Rattle.rl_sets.specs.Sets.{In, joined, set_of}
use Rattle.rl_sets.proofs.SetLaws.{In-map_from, In-append_cases, In-flat_map_from}
use Rattle.rl_labels.specs.declared.priors.Prior.{Prior}
use Rattle.rl_labels.specs.declared.carry.Carry.{Carry}
use Rattle.rl_labels.specs.Labels.{beats, table_of}
use Rattle.rl_labels.specs.Carries.{no_carry, all_of, both_of}
use Rattle.rl_automata.specs.declared.moves.Move.{Move}
use Rattle.rl_automata.specs.declared.tree.Label.{Label}
use Rattle.rl_automata.specs.declared.tree.Label.TheVariants.{Action, Prior as Priority}
use Rattle.rl_automata.specs.Auto.{Auto, carries, targets, kept, settle, step_to, listed, first, on_part, part_moves, steps_of, carrying, restamped, is_start, next, left_final, right_moves, ends_at_once, chain_final, round_step, member_steps, only_start, only_live, holds, set_auto, both_auto, cat_auto, star_auto, enter_auto, finish_auto, every_auto, leave_auto, when_auto, pruned, quiet}
use Rattle.rl_automata.specs.Nodes as N
use Rattle.rl_automata.specs.Nodes.{Node, Conf, carry_of}
use Rattle.rl_automata.specs.Marks.{Marks, auto}
use Rattle.rl_automata.specs.Language.{has_priority, is_priority}
use Rattle.rl_automata.proofs.Congruence.{AllIn, some_in, none_in}

-- ---- carries without priorities

abbrev pub IsLight : Carry → Type 0
IsLight c = c.table ≡ []

abbrev pub AreLight : {S : Type 0} → List (Move S) → Type 0
AreLight ms = AllIn (λ m. IsLight m.carry) ms

none_beats : (u : List Prior) (all : List Carry) → AllIn IsLight all → list_any (λ c. beats c.table u) all ≡ false
none_beats u [] a = refl
none_beats u (c ∷ cs) a = λ i. beats (a c (inl refl) i) u || none_beats u cs (λ x h. a x (inr h)) i

pub kept_light : {S : Type 0} (all : List Carry) → AllIn IsLight all → (ms : List (Move S)) → kept all ms ≡ ms
kept_light all a [] = refl
kept_light all a (m ∷ ms) = (λ i. cond (not (none_beats m.carry.table all a i)) (m ∷ kept all ms) (kept all ms)) ∙ ap (λ w. m ∷ w) (kept_light all a ms)

pub carries_light : {S : Type 0} (ms : List (Move S)) → AreLight ms → AllIn IsLight (carries ms)
carries_light ms a c h = let r = In-map_from (λ m. m.carry) c ms h in ap (λ w. w.table) (sym r.2) ∙ a r.0 r.1

pub both_light : {X : Type 0} {P : X → Type 0} (xs ys : List X) → AllIn P xs → AllIn P ys → AllIn P (xs ++ ys)
both_light xs ys a b x h = let r : In x xs ⊎ In x ys = In-append_cases x xs ys h in elim r [ inl i ↦ a x i | inr j ↦ b x j ]

-- candidates without priorities are all kept
pub settled : {S T C : Type 0} (make : List S → List T → C) (ls : List (Move S)) (rs : List (Move T)) → AreLight ls → AreLight rs
    → settle make ls rs ≡ step_to (make (targets ls) (targets rs)) (carries ls ++ carries rs)
settled make ls rs a b =
    let all = carries ls ++ carries rs in
    let light : AllIn IsLight all = both_light (carries ls) (carries rs) (carries_light ls a) (carries_light rs b) in
    λ i. step_to (make (targets (kept_light all light ls i)) (targets (kept_light all light rs i))) (carries (kept_light all light ls i) ++ carries (kept_light all light rs i))

joined_light : (cs : List Carry) → AllIn IsLight cs → joined (map (λ c. c.table) cs) ≡ []
joined_light [] a = refl
joined_light (c ∷ cs) a = λ i. a c (inl refl) i ++ joined_light cs (λ x h. a x (inr h)) i

all_light : (cs : List Carry) → AllIn IsLight cs → IsLight (all_of cs)
all_light cs a = ap table_of (joined_light cs a)

two_light : (c d : Carry) → IsLight c → IsLight d → IsLight (both_of c d)
two_light c d a b = all_light (c ∷ d ∷ []) (λ x h. elim h [
  | inl e ↦ ap (λ w. w.table) (sym e) ∙ a
  | inr i ↦ elim i [ inl e ↦ ap (λ w. w.table) (sym e) ∙ b | inr j ↦ absurd j ]
])

step_to_light : {C : Type 0} (c : C) (cs : List Carry) (m : Move C) → AllIn IsLight cs → step_to c cs ≡ Some m → IsLight m.carry
step_to_light c [] m a e = none_in m e
step_to_light c (x ∷ cs) m a e = ap (λ w. w.carry.table) (sym (some_in _ m e)) ∙ all_light (x ∷ cs) a

settled_light : {S T C : Type 0} (make : List S → List T → C) (ls : List (Move S)) (rs : List (Move T)) (m : Move C) → AreLight ls → AreLight rs → settle make ls rs ≡ Some m → IsLight m.carry
settled_light make ls rs m a b e =
    step_to_light (make (targets ls) (targets rs)) (carries ls ++ carries rs) m
    (both_light (carries ls) (carries rs) (carries_light ls a) (carries_light rs b)) (sym (settled make ls rs a b) ∙ e)

cond_light : (b : Bool) (c d : Carry) → (b ≡ true → IsLight c) → IsLight d → IsLight (cond b c d)
cond_light true c d f g = f refl
cond_light false c d f g = g

-- ---- automata without priorities

pub record HasNone {S : Type 0} (A : Auto S) : Type 0 where
  pub steps : (s : S) (l : Letter) (m : Move S) → A.step s l ≡ Some m → IsLight m.carry
  pub outs : (s : S) → IsLight (A.out s)

module _ {S : Type 0} {A : Auto S} (n : HasNone A) where
  pub listed_none : (s : S) (l : Letter) → AreLight (listed (A.step s l))
  listed_none s l m h = by (A.step s l) refl h
    where
      by : (o : Option (Move S)) → A.step s l ≡ o → In m (listed o) → IsLight m.carry
      by None e i = absurd i
      by (Some x) e (inl p) = n.steps s l m (e ∙ ap Some p)
      by (Some x) e (inr j) = absurd j

  pub part_none : (o : Option S) (l : Letter) → AreLight (part_moves A l o)
  part_none None l m h = absurd h
  part_none (Some s) l m h = listed_none s l m h

  part_out : (o : Option S) → IsLight (on_part no_carry A.out o)
  part_out None = refl
  part_out (Some s) = n.outs s

  steps_none : (l : Letter) (ss : List S) → AreLight (steps_of A l ss)
  steps_none l ss m h = let r = In-flat_map_from (λ s. listed (A.step s l)) m ss h in listed_none r.0 l m r.2

  carried_none : (x : Carry) (ms : List (Move S)) → IsLight x → AreLight ms → AreLight (map (carrying x) ms)
  carried_none x ms light a m h =
      let r = In-map_from (carrying x) m ms h in
      ap (λ w. w.carry.table) (sym r.2) ∙ two_light x r.0.carry light (a r.0 r.1)

  restamped_none : (base : ℕ) (ms : List (Move S)) → AreLight ms → AreLight (map (restamped base) ms)
  restamped_none base ms a m h = let r = In-map_from (restamped base) m ms h in ap (λ w. w.carry.table) (sym r.2) ∙ a r.0 r.1

  round_none : (base : ℕ) (s : S) (l : Letter) → AreLight (round_step A base s l)
  round_none base s l =
      elim (is_start A s) as (λ b. AreLight (cond b (map (restamped base) (listed (A.step s l))) (listed (A.step s l)))) [
        | true ↦ restamped_none base (listed (A.step s l)) (listed_none s l)
        | false ↦ listed_none s l
      ]

  member_none : (base : ℕ) (l : Letter) (s : S) → AreLight (member_steps A base l s)
  member_none base l s = both_light (round_step A base s l) (cond (A.final s) (map (carrying (A.out s)) (round_step A base A.start l)) []) (round_none base s l)
      (elim (A.final s) as (λ b. AreLight (cond b (map (carrying (A.out s)) (round_step A base A.start l)) [])) [
        | true ↦ carried_none (A.out s) (round_step A base A.start l) (n.outs s) (round_none base A.start l)
        | false ↦ λ m h. absurd h
      ])

  pub members_none : (base : ℕ) (l : Letter) (c : List S) → AreLight (flat_map (member_steps A base l) c)
  members_none base l c m h = let r = In-flat_map_from (member_steps A base l) m c h in member_none base l r.0 m r.2

  mapped_none : (f : Move S → Move S) → ((m : Move S) → IsLight m.carry → IsLight (f m).carry) → (s : S) (l : Letter) (m : Move S) → option_map f (A.step s l) ≡ Some m → IsLight m.carry
  mapped_none f keeps s l m e = by (A.step s l) refl e
    where
      by : (o : Option (Move S)) → A.step s l ≡ o → option_map f o ≡ Some m → IsLight m.carry
      by None p e = none_in m e
      by (Some x) p e = ap (λ w. w.carry.table) (sym (some_in (f x) m e)) ∙ keeps x (n.steps s l x p)

  outs_none : (c : List S) → AllIn IsLight (map A.out c)
  outs_none c x h = let r = In-map_from A.out x c h in ap (λ w. w.table) (sym r.2) ∙ n.outs r.0

  -- ---- operators

  star_none : (base : ℕ) → HasNone (star_auto A base)
  star_none base = record {
    steps = λ c l m e. settled_light {S = S} (λ ss ts. set_of A.order ts) [] (flat_map (member_steps A base l) c) m (λ x h. absurd h) (members_none base l c) e;
    outs = λ c. cond_light (only_start A c || list_any A.final c) (all_of (map A.out c)) no_carry (λ e. all_light (map A.out c) (outs_none c)) refl;
  }

  enter_none : (x : Carry) → IsLight x → HasNone (enter_auto A x)
  enter_none x light = record {
    steps = λ s l m e.
        (elim (is_start A s) as (λ b. cond b (option_map (carrying x) (A.step s l)) (A.step s l) ≡ Some m → IsLight m.carry) [
          | true ↦ λ e. mapped_none (carrying x) (λ y h. two_light x y.carry light h) s l m e
          | false ↦ λ e. n.steps s l m e
        ]) e;
    outs = λ s. cond_light (is_start A s && A.final s) (both_of x (A.out s)) (A.out s) (λ e. two_light x (A.out s) light (n.outs s)) (n.outs s);
  }

  finish_none : (x : Carry) → IsLight x → HasNone (finish_auto A x)
  finish_none x light = record {
    steps = λ s l m e. mapped_none (λ y. cond (A.final y.to) (carrying x y) y)
        (λ y h. elim (A.final y.to) as (λ b. IsLight (cond b (carrying x y) y).carry) [ true ↦ two_light x y.carry light h | false ↦ h ]) s l m e;
    outs = n.outs;
  }

  every_none : (x : Carry) → IsLight x → HasNone (every_auto A x)
  every_none x light = record { steps = λ s l m e. mapped_none (carrying x) (λ y h. two_light x y.carry light h) s l m e; outs = n.outs }

  leave_none : (x : Carry) → IsLight x → HasNone (leave_auto A x)
  leave_none x light = record {
    steps = n.steps;
    outs = λ s. cond_light (A.final s) (both_of x (A.out s)) (A.out s) (λ e. two_light x (A.out s) light (n.outs s)) (n.outs s);
  }

  when_none : (c : ℕ) → HasNone (when_auto c A)
  when_none c = record {
    steps = λ s l m e.
        (elim (holds c l.truths) as (λ b. cond b (A.step s l) None ≡ Some m → IsLight m.carry) [
          | true ↦ λ e. n.steps s l m e
          | false ↦ λ e. none_in m e
        ]) e;
    outs = n.outs;
  }

  pruned_none : (live : S → Bool) → HasNone (pruned live A)
  pruned_none live = record { steps = λ s l m e. n.steps s l m (by (A.step s l) m e); outs = n.outs }
    where
      by : (o : Option (Move S)) (m : Move S) → only_live live o ≡ Some m → o ≡ Some m
      by None m e = e
      by (Some x) m e =
          (elim (live x.to) as (λ b. cond b (Some x) None ≡ Some m → Some x ≡ Some m) [
            | true ↦ λ e. e
            | false ↦ λ e. none_in m e
          ]) e

  quiet_none : HasNone (quiet A)
  quiet_none = record { steps = n.steps; outs = n.outs }

module _ {S T : Type 0} {A : Auto S} {B : Auto T} (n : HasNone A) (p : HasNone B) where
  both_none : (test : Bool → Bool → Bool) → HasNone (both_auto A B test)
  both_none test = record {
    steps = λ c l m e. settled_light (λ ss ts. (first ss, first ts)) (part_moves A l c.0) (part_moves B l c.1) m (part_none n c.0 l) (part_none p c.1 l) e;
    outs = λ c. cond_light (test (on_part false A.final c.0) (on_part false B.final c.1)) (both_of (on_part no_carry A.out c.0) (on_part no_carry B.out c.1)) no_carry
        (λ e. two_light (on_part no_carry A.out c.0) (on_part no_carry B.out c.1) (part_out n c.0) (part_out p c.1)) refl;
  }

  pub rights_none : (c : Option S × List T) (l : Letter) → AreLight (right_moves A B c l)
  rights_none c l = both_light (steps_of B l c.1) (next A B c (map (carrying (on_part no_carry A.out c.0)) (listed (B.step B.start l))) []) (steps_none p l c.1)
      (elim (left_final A B c) as (λ b. AreLight (cond b (map (carrying (on_part no_carry A.out c.0)) (listed (B.step B.start l))) [])) [
        | true ↦ carried_none p (on_part no_carry A.out c.0) (listed (B.step B.start l)) (part_out n c.0) (listed_none p B.start l)
        | false ↦ λ m h. absurd h
      ])

  ends_none : (c : Option S × List T) → AllIn IsLight (cond (ends_at_once A B c) (on_part no_carry A.out c.0 ∷ B.out B.start ∷ []) [])
  ends_none c =
      elim (ends_at_once A B c) as (λ b. AllIn IsLight (cond b (on_part no_carry A.out c.0 ∷ B.out B.start ∷ []) [])) [
        | true ↦ λ x h. elim h [
          | inl e ↦ ap (λ w. w.table) (sym e) ∙ part_out n c.0
          | inr i ↦ elim i [ inl e ↦ ap (λ w. w.table) (sym e) ∙ p.outs B.start | inr j ↦ absurd j ]
        ]
        | false ↦ λ x h. absurd h
      ]

  cat_none : HasNone (cat_auto A B)
  cat_none = record {
    steps = λ c l m e. settled_light (λ ss ts. (first ss, set_of B.order ts)) (part_moves A l c.0) (right_moves A B c l) m (part_none n c.0 l) (rights_none c l) e;
    outs = λ c.
        let xs = map B.out c.1 ++ cond (ends_at_once A B c) (on_part no_carry A.out c.0 ∷ B.out B.start ∷ []) [] in
        cond_light (chain_final A B c) (all_of xs) no_carry
        (λ e. all_light xs (both_light (map B.out c.1) (cond (ends_at_once A B c) (on_part no_carry A.out c.0 ∷ B.out B.start ∷ []) []) (outs_none p c.1) (ends_none c))) refl;
  }

-- ---- expressions

set_none : (ranges : List Range) → HasNone (set_auto ranges)
set_none ranges = record {
  steps = λ s l m e.
      (elim (not s && list_any (in_range l.key) ranges) as (λ b. cond b (Some (record { to = true; carry = no_carry })) None ≡ Some m → IsLight m.carry) [
        | true ↦ λ e. ap (λ w. w.carry.table) (sym (some_in (record { to = true; carry = no_carry }) m e))
        | false ↦ λ e. none_in m e
      ]) e;
  outs = λ s. refl;
}

pub left_of : (a b : Bool) → (a || b) ≡ false → a ≡ false
left_of true b e = e
left_of false b e = refl

pub right_of : (a b : Bool) → (a || b) ≡ false → b ≡ false
right_of true b e = absurd (true≢false e)
right_of false b e = e

label_none : (l : Label) → is_priority l ≡ false → IsLight (carry_of l)
label_none (Action s x) e = refl
label_none (Priority s x v) e = absurd (true≢false e)

-- the automaton of an expression without priorities has none
pub none_in_auto : (t : Node) (k : Marks t) → has_priority t ≡ false → HasNone (auto t k)
none_in_auto (N.Set ranges) k e = set_none ranges
none_in_auto N.Null k e = record { steps = λ s l m p. none_in m p; outs = λ s. refl }
none_in_auto N.Nothing k e = record { steps = λ s l m p. none_in m p; outs = λ s. refl }
none_in_auto (N.Union a b) k e = quiet_none (both_none (none_in_auto a k.0 (left_of _ _ e)) (none_in_auto b k.1 (right_of _ _ e)) (λ p q. p || q))
none_in_auto (N.And a b) k e = pruned_none (both_none (none_in_auto a k.0 (left_of _ _ e)) (none_in_auto b k.1 (right_of _ _ e)) (λ p q. p && q)) k.2
none_in_auto (N.Minus a b) k e = pruned_none (both_none (none_in_auto a k.0 (left_of _ _ e)) (none_in_auto b k.1 (right_of _ _ e)) (λ p q. p && not q)) k.2
none_in_auto (N.Cat a b) k e = quiet_none (cat_none (none_in_auto a k.0 (left_of _ _ e)) (none_in_auto b k.1 (right_of _ _ e)))
none_in_auto (N.Star a n) k e = quiet_none (star_none (none_in_auto a k e) n)
none_in_auto (N.Enter a l) k e = enter_none (none_in_auto a k (right_of _ _ e)) (carry_of l) (label_none l (left_of _ _ e))
none_in_auto (N.Finish a l) k e = finish_none (none_in_auto a k (right_of _ _ e)) (carry_of l) (label_none l (left_of _ _ e))
none_in_auto (N.All a l) k e = every_none (none_in_auto a k (right_of _ _ e)) (carry_of l) (label_none l (left_of _ _ e))
none_in_auto (N.Leave a l) k e = leave_none (none_in_auto a k (right_of _ _ e)) (carry_of l) (label_none l (left_of _ _ e))
none_in_auto (N.Mark a class kind s x) k e = let n = none_in_auto a k e in record { steps = n.steps; outs = n.outs }
none_in_auto (N.When a c) k e = when_none (none_in_auto a k e) c
