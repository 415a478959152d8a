-- The union of an expression and a union is, under other names, the union of a union and an expression.
use Rattle.std.proofs.Common.{◌≡◌, ℤ, Bool, true, false, true≢false, cond, ◌||◌, List, [], ◌∷◌, ◌++◌, inl, inr, refl, sym, ◌∙◌, ap, subst, Option, Some, None, option_map, bit_or}
use Rattle.rl_types.specs.declared.numbers.Letter.{Letter}
use Rattle.rl_labels.specs.Labels.{stamps_of}
use Rattle.rl_labels.specs.Carries.{no_carry, both_of}
use Rattle.rl_sets.specs.Sets.{In}
use Rattle.rl_automata.specs.declared.moves.Move.{Move}
use Rattle.rl_automata.specs.declared.tree.Kind.{Kind}
use Rattle.rl_automata.specs.Auto.{Auto, on_part, first, listed, targets, carries, kept, settle, step_to, union_auto, both_jams, part_moves}
use Rattle.rl_automata.specs.Follows.{Reach, Follows, renamed}
use Rattle.rl_automata.specs.Nodes as N
use Rattle.rl_automata.specs.Nodes.{Node, Conf}
use Rattle.rl_automata.specs.Marks.{Marks, auto}
use Rattle.rl_automata.proofs.Congruence.{AllIn, reach_all, none_in, named_reach, follows_on, step_to_to, settle_to, both_follows}
use Rattle.rl_automata.proofs.Congruence1.{quiet_follows}
use Rattle.rl_automata.proofs.PruneLaws.{quiet_reach}
use Rattle.rl_automata.proofs.HonestLaws.{itself}
use Rattle.rl_asks.specs.Asks.{AsksTheSameQuiet}
use Rattle.rl_asks.proofs.Asking.{asks_where_it_steps, both_same}
use Rattle.rl_unions.specs.Unions.{HasNoPriors, HaveNoPriors, union_of, MeansAs}
use Rattle.rl_unions.proofs.Calm.{IsCalm, part_out, pair_calm, tree_calm}
use Rattle.rl_unions.proofs.Joins.{part_step, part_bare_step, meet, union_step, calm_jams, pack, left_of, right_of, regroup, meets_grouped, marks_grouped, outs_grouped, asks_grouped, tests_grouped}

-- ---- parts of parts

told_packed : {S T X : Type 0} (d : X) (f : Option S × Option T → X) → f (None, None) ≡ d → (x : Option S) (y : Option T) → on_part d f (pack x y) ≡ f (x, y)
told_packed d f e None None = sym e
told_packed d f e None (Some y) = refl
told_packed d f e (Some x) y = refl

told_split : {S T X : Type 0} (d : X) (f : Option S × Option T → X) → f (None, None) ≡ d → (w : Option (Option S × Option T)) → on_part d f w ≡ f (left_of w, right_of w)
told_split d f e None = sym e
told_split d f e (Some c) = refl

left_packed : {S T : Type 0} (x : Option S) (y : Option T) → left_of (pack x y) ≡ x
left_packed None None = refl
left_packed None (Some y) = refl
left_packed (Some x) y = refl

right_packed : {S T : Type 0} (x : Option S) (y : Option T) → right_of (pack x y) ≡ y
right_packed None None = refl
right_packed None (Some y) = refl
right_packed (Some x) y = refl

-- one of the two is there
abbrev IsThere : {S T : Type 0} → Option S → Option T → Type 0
IsThere None None = ⊥
IsThere None (Some y) = Unit {0}
IsThere (Some x) y = Unit {0}

-- a part of two is there only where one of them is
abbrev IsProper : {S T : Type 0} → Option (Option S × Option T) → Type 0
IsProper None = Unit {0}
IsProper (Some c) = IsThere c.0 c.1

packed_again : {S T : Type 0} (w : Option (Option S × Option T)) → IsProper w → w ≡ pack (left_of w) (right_of w)
packed_again None h = refl
packed_again (Some c) h = by c.0 c.1 h
  where
    by : {S T : Type 0} (x : Option S) (y : Option T) → IsThere x y → Some (x, y) ≡ pack x y
    by None None h = absurd h
    by None (Some y) h = refl
    by (Some x) y h = refl

-- what settles leads to parts of which one is there
settled_there : {S T : Type 0} (ls : List (Move S)) (rs : List (Move T)) (m : Move (Option S × Option T)) → settle (λ ss ts. (first ss, first ts)) ls rs ≡ Some m → IsThere m.to.0 m.to.1
settled_there {S} {T} ls rs m e = by (kept (carries ls ++ carries rs) ls) (kept (carries ls ++ carries rs) rs) e
  where
    by : (xs : List (Move S)) (ys : List (Move T)) → step_to (first (targets xs), first (targets ys)) (carries xs ++ carries ys) ≡ Some m → IsThere m.to.0 m.to.1
    by [] [] p = none_in m p
    by [] (y ∷ ys) p = subst (λ c. IsThere c.0 c.1) (step_to_to _ (carries (y ∷ ys)) m p) tt
    by (x ∷ xs) ys p = subst (λ c. IsThere c.0 c.1) (step_to_to _ (carries (x ∷ xs) ++ carries ys) m p) tt

-- ---- three automata

module _ {S T U : Type 0} (A : Auto S) (B : Auto T) (C : Auto U) (F : IsCalm A) (G : IsCalm B) (H : IsCalm C) where
  abbrev right_nested : Auto (Option S × Option (Option T × Option U))
  right_nested = union_auto A (union_auto B C)

  abbrev left_nested : Auto (Option (Option S × Option T) × Option U)
  left_nested = union_auto (union_auto A B) C

  rights_there : (l : Letter) (w : Option (Option T × Option U)) → AllIn (λ n. IsThere n.to.0 n.to.1) (part_moves (union_auto B C) l w)
  rights_there l None n i = absurd i
  rights_there l (Some d) n i = by ((union_auto B C).step d l) refl i
    where
      by : (o : Option (Move (Option T × Option U))) → (union_auto B C).step d l ≡ o → In n (listed o) → IsThere n.to.0 n.to.1
      by None e i = absurd i
      by (Some v) e (inl p) = subst (λ z. IsThere z.to.0 z.to.1) p (settled_there (part_moves B l d.0) (part_moves C l d.1) v e)
      by (Some v) e (inr j) = absurd j

  proper : (c : Option S × Option (Option T × Option U)) → Reach right_nested c → IsProper c.1
  proper = reach_all (λ c. IsProper c.1) tt
      (λ c r h l m e. settle_to (λ _. Unit {0}) (λ d. IsThere d.0 d.1) (λ z. IsProper z.1) (λ ss ts. (first ss, first ts)) (part_moves A l c.0) (part_moves (union_auto B C) l c.1) m
      (λ ss ts a b. first_there ts b) (λ n i. tt) (rights_there l c.1) e)
    where
      first_there : (ts : List (Option T × Option U)) → AllIn (λ d. IsThere d.0 d.1) ts → IsProper (first ts)
      first_there [] b = tt
      first_there (t ∷ ts) b = b t (inl refl)

  -- a union puts on what leaves it what both parts do, also where it is not final
  union_out : {S T : Type 0} (A : Auto S) (B : Auto T) → IsCalm A → IsCalm B → (c : Option S × Option T) → (union_auto A B).out c ≡ both_of (on_part no_carry A.out c.0) (on_part no_carry B.out c.1)
  union_out A B F G c = by (on_part false A.final c.0) (on_part false B.final c.1) (resting A F c.0) (resting B G c.1)
    where
      resting : {S : Type 0} (A : Auto S) → IsCalm A → (o : Option S) → on_part false A.final o ≡ false → on_part no_carry A.out o ≡ no_carry
      resting A F None e = refl
      resting A F (Some s) e = F.resting s e

      by : (a b : Bool) → (a ≡ false → on_part no_carry A.out c.0 ≡ no_carry) → (b ≡ false → on_part no_carry B.out c.1 ≡ no_carry)
          → cond (a || b) (both_of (on_part no_carry A.out c.0) (on_part no_carry B.out c.1)) no_carry ≡ both_of (on_part no_carry A.out c.0) (on_part no_carry B.out c.1)
      by true b f g = refl
      by false true f g = refl
      by false false f g = λ i. both_of (sym (f refl) i) (sym (g refl) i)

  steps_grouped : (c : Option S × Option (Option T × Option U)) (l : Letter) → option_map (renamed regroup) (right_nested.step c l) ≡ left_nested.step (regroup c) l
  steps_grouped c l =
      let x = c.0 in
      let y = left_of c.1 in
      let z = right_of c.1 in
      let inner : part_step (union_auto B C) l c.1 ≡ meet (part_step B l y) (part_step C l z) = told_split None (λ d. (union_auto B C).step d l) refl c.1 ∙ union_step B C (y, z) l in
      let outer : part_step (union_auto A B) l (pack x y) ≡ meet (part_step A l x) (part_step B l y) = told_packed None (λ d. (union_auto A B).step d l) refl x y ∙ union_step A B (x, y) l in
      ap (option_map (renamed regroup)) (union_step A (union_auto B C) c l ∙ (λ i. meet (part_step A l x) (inner i)))
      ∙ meets_grouped (part_step A l x) (part_step B l y) (part_step C l z) (part_bare_step A F l x) (part_bare_step B G l y) (part_bare_step C H l z)
      ∙ (λ i. meet (sym outer i) (part_step C l z)) ∙ sym (union_step (union_auto A B) C (regroup c) l)

  finals_grouped : (c : Option S × Option (Option T × Option U)) → right_nested.final c ≡ left_nested.final (regroup c)
  finals_grouped c =
      let x = c.0 in
      let y = left_of c.1 in
      let z = right_of c.1 in
      ap (λ b. on_part false A.final x || b) (told_split false (union_auto B C).final refl c.1)
      ∙ tests_grouped (on_part false A.final x) (on_part false B.final y) (on_part false C.final z)
      ∙ ap (λ b. b || on_part false C.final z) (sym (told_packed false (union_auto A B).final refl x y))

  carries_grouped : (c : Option S × Option (Option T × Option U)) → right_nested.out c ≡ left_nested.out (regroup c)
  carries_grouped c =
      let x = c.0 in
      let y = left_of c.1 in
      let z = right_of c.1 in
      let a = on_part no_carry A.out x in
      let b = on_part no_carry B.out y in
      let d = on_part no_carry C.out z in
      let inner : on_part no_carry (union_auto B C).out c.1 ≡ both_of b d = told_split no_carry (union_auto B C).out refl c.1 ∙ union_out B C G H (y, z) in
      let outer : on_part no_carry (union_auto A B).out (pack x y) ≡ both_of a b = told_packed no_carry (union_auto A B).out refl x y ∙ union_out A B F G (x, y) in
      union_out A (union_auto B C) F (pair_calm G H (λ p q. p || q)) c
      ∙ ap (both_of a) inner
      ∙ outs_grouped a b d (part_out F x) (part_out G y) (part_out H z)
      ∙ ap (λ w. both_of w d) (sym outer)
      ∙ sym (union_out (union_auto A B) C (pair_calm F G (λ p q. p || q)) H (regroup c))

  stays_grouped : (c : Option S × Option (Option T × Option U)) (k : Kind) → right_nested.marks c k ≡ left_nested.marks (regroup c) k
  stays_grouped c k =
      let x = c.0 in
      let y = left_of c.1 in
      let z = right_of c.1 in
      ap (λ w. stamps_of (on_part [] (λ s. A.marks s k) x ++ w)) (told_split [] (λ d. (union_auto B C).marks d k) refl c.1)
      ∙ marks_grouped (on_part [] (λ s. A.marks s k) x) (on_part [] (λ s. B.marks s k) y) (on_part [] (λ s. C.marks s k) z)
      ∙ ap (λ w. stamps_of (w ++ on_part [] (λ s. C.marks s k) z)) (sym (told_packed [] (λ d. (union_auto A B).marks d k) refl x y))

  all_asks_grouped : (c : Option S × Option (Option T × Option U)) (k : ℤ) → right_nested.asked c k ≡ left_nested.asked (regroup c) k
  all_asks_grouped c k =
      let x = c.0 in
      let y = left_of c.1 in
      let z = right_of c.1 in
      ap (bit_or (on_part 0 (λ s. A.asked s k) x)) (told_split 0 (λ d. (union_auto B C).asked d k) refl c.1)
      ∙ asks_grouped (on_part 0 (λ s. A.asked s k) x) (on_part 0 (λ s. B.asked s k) y) (on_part 0 (λ s. C.asked s k) z)
      ∙ ap (λ w. bit_or w (on_part 0 (λ s. C.asked s k) z)) (sym (told_packed 0 (λ d. (union_auto A B).asked d k) refl x y))

  names_differ : (c d : Option S × Option (Option T × Option U)) → IsProper c.1 → IsProper d.1 → regroup c ≡ regroup d → c ≡ d
  names_differ c d p q e =
      let lefts : pack c.0 (left_of c.1) ≡ pack d.0 (left_of d.1) = ap (λ w. w.0) e in
      let x : c.0 ≡ d.0 = sym (left_packed c.0 (left_of c.1)) ∙ ap left_of lefts ∙ left_packed d.0 (left_of d.1) in
      let y : left_of c.1 ≡ left_of d.1 = sym (right_packed c.0 (left_of c.1)) ∙ ap right_of lefts ∙ right_packed d.0 (left_of d.1) in
      let z : right_of c.1 ≡ right_of d.1 = ap (λ w. w.1) e in
      let w : c.1 ≡ d.1 = packed_again c.1 p ∙ (λ i. pack (y i) (z i)) ∙ sym (packed_again d.1 q) in
      λ i. (x i, w i)

  pub regroup_follows : Follows right_nested left_nested regroup
  regroup_follows = record {
    start = refl;
    step = λ c r l. steps_grouped c l;
    final = λ c r. finals_grouped c;
    out = λ c r. carries_grouped c;
    marks = λ c r k. stays_grouped c k;
    asked = λ c r k. all_asks_grouped c k;
    apart = λ c d r q e. names_differ c d (proper c r) (proper d q) e;
  }

-- ---- expressions

-- names that are the same may be read in the other direction
turned : {S : Type 0} {A B : Auto S} → Follows A B (λ s. s) → Follows B A (λ s. s)
turned {S} {A} {B} F = record {
  start = sym F.start;
  step = λ s r l. same (B.step s l) ∙ sym (F.step s (back s r) l) ∙ same (A.step s l);
  final = λ s r. sym (F.final s (back s r));
  out = λ s r. sym (F.out s (back s r));
  marks = λ s r k. sym (F.marks s (back s r) k);
  asked = λ s r k. sym (F.asked s (back s r) k);
  apart = λ s t r q e. e;
}
  where
    back : (s : S) → Reach B s → Reach A s
    back s r = let p = named_reach F s r in subst (Reach A) p.2 p.1

    same : (o : Option (Move S)) → option_map (renamed (λ s. s)) o ≡ o
    same None = refl
    same (Some m) = refl

-- without priorities a union asks what its operands ask
unquiet : (a b : Node) (k : Marks a) (h : Marks b) → HasNoPriors a → HasNoPriors b → Follows (auto (N.Union a b) (k, h)) (union_auto (auto a k) (auto b h)) (λ c. c)
unquiet a b k h f g =
    let A = auto a k in
    let B = auto b h in
    let same : AsksTheSameQuiet (union_auto A B) (both_jams A B) = both_same A B (asks_where_it_steps a k) (asks_where_it_steps b h) (λ p q. p || q) in
    let F = itself (union_auto A B) in
    record {
      start = refl;
      step = λ s r l. F.step s (quiet_reach (union_auto A B) s r) l;
      final = λ s r. refl;
      out = λ s r. refl;
      marks = λ s r k. refl;
      asked = λ s r k. same s k (λ j. true≢false (sym j.2 ∙ calm_jams A B (tree_calm a _ f) (tree_calm b _ g) s (record { key = k; truths = j.0 })));
      apart = λ s t r q e. e;
    }

regrouped : (a b c : Node) → HasNoPriors a → HasNoPriors b → HasNoPriors c → MeansAs (N.Union a (N.Union b c)) (N.Union (N.Union a b) c)
regrouped a b c f g h k o =
    let A = auto a k.0.0 in
    let B = auto b k.0.1 in
    let C = auto c k.1 in
    let either = λ (p : Bool) (q : Bool). p || q in
    let one = unquiet a (N.Union b c) k.0.0 (k.0.1, k.1) f (g, h) in
    let two = both_follows (itself A) (unquiet b c k.0.1 k.1 g h) either in
    let three = regroup_follows A B C (tree_calm a k.0.0 f) (tree_calm b k.0.1 g) (tree_calm c k.1 h) in
    let four = both_follows (turned (unquiet a b k.0.0 k.0.1 f g)) (itself C) either in
    let five = turned (unquiet (N.Union a b) c k.0 k.1 (f, g) h) in (
      (k.0.0, (k.0.1, k.1)),
      (o.0.0, (o.0.1, o.1)),
      _,
      follows_on _ _ one (follows_on _ _ two (follows_on _ _ three (follows_on _ _ four five))),
    )

-- ---- unions of many

means_itself : (t : Node) → MeansAs t t
means_itself t k o = (k, o, (λ c. c), itself (auto t k))

means_on : (s t u : Node) → MeansAs s t → MeansAs t u → MeansAs s u
means_on s t u f g k o =
    let p = g k o in
    let q = f p.0 p.1 in
    (q.0, q.1, _, follows_on _ _ q.3 p.3)

joined_means : (s t u : Node) → MeansAs s t → MeansAs (N.Union s u) (N.Union t u)
joined_means s t u f k o =
    let p = f k.0 o.0 in
    ((p.0, k.1), (p.1, o.1), _, quiet_follows (both_follows p.3 (itself (auto u k.1)) (λ a b. a || b)))

all_means : (s t : Node) (us : List Node) → MeansAs s t → MeansAs (union_of s us) (union_of t us)
all_means s t [] f = f
all_means s t (u ∷ us) f = all_means (N.Union s u) (N.Union t u) us (joined_means s t u f)

grouped : (t v : Node) (vs : List Node) → HasNoPriors t → HasNoPriors v → HaveNoPriors vs → MeansAs (N.Union t (union_of v vs)) (union_of (N.Union t v) vs)
grouped t v [] f g h = means_itself (N.Union t v)
grouped t v (w ∷ vs) f g h =
    means_on (N.Union t (union_of (N.Union v w) vs)) (union_of (N.Union t (N.Union v w)) vs) (union_of (N.Union (N.Union t v) w) vs)
    (grouped t (N.Union v w) vs f (g, h.0) h.1) (all_means (N.Union t (N.Union v w)) (N.Union (N.Union t v) w) vs (regrouped t v w f g h.0))

pub union_append : (t : Node) (us : List Node) (v : Node) (vs : List Node) → union_of t (us ++ v ∷ vs) ≡ union_of (N.Union (union_of t us) v) vs
union_append t [] v vs = refl
union_append t (u ∷ us) v vs = union_append (N.Union t u) us v vs

pub union_free : (t : Node) (us : List Node) → HasNoPriors t → HaveNoPriors us → HasNoPriors (union_of t us)
union_free t [] f g = f
union_free t (u ∷ us) f g = union_free (N.Union t u) us (f, g.0) g.1

pub grouping : (t : Node) (us : List Node) (v : Node) (vs : List Node) → HaveNoPriors (t ∷ us) → HaveNoPriors (v ∷ vs) → MeansAs (N.Union (union_of t us) (union_of v vs)) (union_of t (us ++ v ∷ vs))
grouping t us v vs f g =
    subst (MeansAs (N.Union (union_of t us) (union_of v vs))) (sym (union_append t us v vs)) (grouped (union_of t us) v vs (union_free t us f.0 f.1) g.0 g.1)
