-- A step depends only on the key and on those truths that are asked.
use Rattle.std.proofs.Common.{◌≡◌, ℕ, zero, suc, ◌+◌, ◌-◌, ◌^◌, ◌<◌, ℤ, Bool, true, false, cond, not, ◌&&◌, ◌||◌, List, [], ◌∷◌, ◌++◌, map, refl, sym, ◌∙◌, ap, Option, Some, None, option_map, true≢false, is_some, bit_or, eq-eqb, eqb-true, arith}
use Rattle.std.specs.List.{list_any, flat_map, range_with_len}
use Rattle.std.specs.Int.{bit_at}
use Rattle.std.proofs.lemmas.Nat.Bits.{bit_at_or, bit_at-pow_same}
use Rattle.rl_types.specs.declared.numbers.Letter.{Letter}
use Rattle.rl_labels.specs.declared.carry.Carry.{Carry}
use Rattle.rl_labels.specs.Carries.{no_carry}
use Rattle.rl_sets.specs.Sets.{set_of}
use Rattle.rl_automata.specs.declared.moves.Move.{Move}
use Rattle.rl_automata.specs.Auto.{Auto, both_auto, cat_auto, star_auto, enter_auto, finish_auto, every_auto, when_auto, and_auto, minus_auto, union_auto, quiet, pruned, asking, steps_at, every_truths, live_step, only_live, guarded_step, holds, listed, first, on_part, part_moves, steps_of, asked_of, carrying, restamped, round_step, member_steps, is_start, next, left_final, settle, carries, kept, targets, step_to}
use Rattle.rl_automata.specs.Nodes as N
use Rattle.rl_automata.specs.Nodes.{Node, Conf, carry_of}
use Rattle.rl_automata.specs.Marks.{Marks, auto}
use Rattle.rl_automata.specs.Scans.{Pattern, Confs, PatternMarks, scan_auto, scan_raw, all_carried, kept_confs, kept_carries, confs_asked}
use Rattle.rl_automata.specs.Laws.{AgreeOn, NeedsOnly, StepsByAsked}

-- ---- conditions of several

or_left : (c a b : ℕ) → holds c a ≡ true → holds c (bit_or a b) ≡ true
or_left c a b h = eq-eqb _ 1 (omega (arith, bit_at_or a b (c - 1), eqb-true (bit_at a (c - 1)) 1 h))

or_right : (c a b : ℕ) → holds c b ≡ true → holds c (bit_or a b) ≡ true
or_right c a b h = eq-eqb _ 1 (omega (arith, bit_at_or a b (c - 1), eqb-true (bit_at b (c - 1)) 1 h))

agree_left : (a b t u : ℕ) → AgreeOn (bit_or a b) t u → AgreeOn a t u
agree_left a b t u f c h = f c (or_left c a b h)

agree_right : (a b t u : ℕ) → AgreeOn (bit_or a b) t u → AgreeOn b t u
agree_right a b t u f c h = f c (or_right c a b h)

holds-itself : (c : ℕ) → holds c (2 ^ (c - 1)) ≡ true
holds-itself c = eq-eqb _ 1 (bit_at-pow_same (c - 1))

-- ---- no step without truths that step

any_range_true : (p : ℕ → Bool) (a n t : ℕ) → t < n → p (a + t) ≡ true → list_any p (range_with_len a n) ≡ true
any_range_true p a zero t h e = absurd (omega arith)
any_range_true p a (suc n) zero h e = ap (λ b. b || list_any p (range_with_len (a + 1) n)) (ap p (sym (add-zero a)) ∙ e)
  where
    add-zero : (a : ℕ) → a + 0 ≡ a
    add-zero a = omega arith
any_range_true p a (suc n) (suc t) h e =
    ap (λ b. p a || b) (any_range_true p (a + 1) n t (omega arith) (ap p (next a t) ∙ e)) ∙ or_true (p a)
  where
    next : (a t : ℕ) → (a + 1) + t ≡ a + suc t
    next a t = omega arith

    or_true : (b : Bool) → (b || true) ≡ true
    or_true true = refl
    or_true false = refl

zero-add : (t : ℕ) → 0 + t ≡ t
zero-add t = omega arith

module _ {S : Type 0} (A : Auto S) where
  pub steps_at-some : (c : S) (key : ℤ) (t : ℕ) → t < 256 → is_some (A.step c (record { key = key; truths = t })) ≡ true → steps_at A c key ≡ true
  unfolding every_truths
  steps_at-some c key t h e = any_range_true (λ t. is_some (A.step c (record { key = key; truths = t }))) 0 256 t h (ap (λ t. is_some (A.step c (record { key = key; truths = t }))) (zero-add t) ∙ e)

  none_at : (c : S) (key : ℤ) (t : ℕ) → t < 256 → steps_at A c key ≡ false → A.step c (record { key = key; truths = t }) ≡ None
  none_at c key t h e = by (A.step c (record { key = key; truths = t })) refl
    where
      by : (o : Option (Move S)) → A.step c (record { key = key; truths = t }) ≡ o → o ≡ None
      by None p = refl
      by (Some m) p = absurd (true≢false (sym (steps_at-some c key t h (ap is_some p)) ∙ e))

  -- what asks nothing where nothing steps still asks enough
  asking_needs : (asks : S → ℤ → ℕ) → NeedsOnly A asks → NeedsOnly A (asking A asks)
  asking_needs asks n c key t u h h' f =
      (elim (steps_at A c key) as (λ b. steps_at A c key ≡ b → AgreeOn (cond b (asks c key) 0) t u → A.step c (record { key = key; truths = t }) ≡ A.step c (record { key = key; truths = u })) [
        | true ↦ λ e g. n c key t u h h' g
        | false ↦ λ e g. none_at c key t h e ∙ sym (none_at c key u h' e)
      ]) refl f

-- ---- what is listed of a step

module _ {S : Type 0} (A : Auto S) (n : StepsByAsked A) (key : ℤ) (t u : ℕ) (h : t < 256) (h' : u < 256) where
  abbrev at : ℕ → Letter
  at truths = record { key = key; truths = truths }

  part_same : (o : Option S) → AgreeOn (on_part 0 (λ s. A.asked s key) o) t u → part_moves A (at t) o ≡ part_moves A (at u) o
  part_same None f = refl
  part_same (Some s) f = ap listed (n s key t u h h' f)

  steps_same : (ss : List S) → AgreeOn (asked_of A key ss) t u → steps_of A (at t) ss ≡ steps_of A (at u) ss
  steps_same [] f = refl
  steps_same (s ∷ ss) f =
      λ i. listed (n s key t u h h' (agree_left (A.asked s key) (asked_of A key ss) t u f) i) ++ steps_same ss (agree_right (A.asked s key) (asked_of A key ss) t u f) i

  -- the first step of what follows, where it is reached
  begin_same : (b : Bool) (x : Carry) → AgreeOn (cond b (A.asked A.start key) 0) t u
      → cond b (map (carrying x) (listed (A.step A.start (at t)))) [] ≡ cond b (map (carrying x) (listed (A.step A.start (at u)))) []
  begin_same true x f = ap (λ o. map (carrying x) (listed o)) (n A.start key t u h h' f)
  begin_same false x f = refl

  round_same : (base : ℕ) (s : S) → AgreeOn (A.asked s key) t u → round_step A base s (at t) ≡ round_step A base s (at u)
  round_same base s f = ap (λ o. cond (is_start A s) (map (restamped base) (listed o)) (listed o)) (n s key t u h h' f)

  members_same : (base : ℕ) (ss : List S) → AgreeOn (asked_of A key ss) t u → (list_any A.final ss ≡ true → AgreeOn (A.asked A.start key) t u)
      → flat_map (member_steps A base (at t)) ss ≡ flat_map (member_steps A base (at u)) ss
  members_same base [] f g = refl
  members_same base (s ∷ ss) f g =
      λ i. (round_same base s (agree_left (A.asked s key) (asked_of A key ss) t u f) i ++ again (A.final s) refl i) ++
      members_same base ss (agree_right (A.asked s key) (asked_of A key ss) t u f) (λ e. g (ap (λ b. A.final s || b) e ∙ or_true (A.final s))) i
    where
      or_true : (b : Bool) → (b || true) ≡ true
      or_true true = refl
      or_true false = refl

      again : (b : Bool) → A.final s ≡ b → cond b (map (carrying (A.out s)) (round_step A base A.start (at t))) [] ≡ cond b (map (carrying (A.out s)) (round_step A base A.start (at u))) []
      again true e = ap (map (carrying (A.out s))) (round_same base A.start (g (ap (λ b. b || list_any A.final ss) e)))
      again false e = refl

-- ---- operators

module _ {S T : Type 0} (A : Auto S) (B : Auto T) (n : StepsByAsked A) (p : StepsByAsked B) where
  both_asked : (test : Bool → Bool → Bool) → StepsByAsked (both_auto A B test)
  both_asked test c key t u h h' f =
      let a = on_part 0 (λ s. A.asked s key) c.0 in
      let b = on_part 0 (λ s. B.asked s key) c.1 in
      λ i. settle (λ ss ts. (first ss, first ts)) (part_same A n key t u h h' c.0 (agree_left a b t u f) i) (part_same B p key t u h h' c.1 (agree_right a b t u f) i)

  cat_asked : StepsByAsked (cat_auto A B)
  cat_asked c key t u h h' f =
      let a = on_part 0 (λ s. A.asked s key) c.0 in
      let b = asked_of B key c.1 in
      let d = next A B c (B.asked B.start key) 0 in
      let rest = agree_right a (bit_or b d) t u f in
      λ i. settle (λ ss ts. (first ss, set_of B.order ts)) (part_same A n key t u h h' c.0 (agree_left a (bit_or b d) t u f) i)
      (steps_same B p key t u h h' c.1 (agree_left b d t u rest) i ++ begin_same B p key t u h h' (left_final A B c) (on_part no_carry A.out c.0) (agree_right b d t u rest) i)

module _ {S : Type 0} (A : Auto S) (n : StepsByAsked A) where
  star_asked : (base : ℕ) → StepsByAsked (star_auto A base)
  star_asked base c key t u h h' f =
      let b = asked_of A key c in
      let d = cond (list_any A.final c) (A.asked A.start key) 0 in
      let rest = agree_right b d t u f in
      λ i. settle {S = S} (λ ss ts. set_of A.order ts) []
      (members_same A n key t u h h' base c (agree_left b d t u f) (λ e k q. rest k (ap (λ b. holds k (cond b (A.asked A.start key) 0)) e ∙ q)) i)

  quiet_asked : StepsByAsked (quiet A)
  quiet_asked = asking_needs A A.asked n

  pruned_asked : (live : S → Bool) → StepsByAsked (pruned live A)
  pruned_asked live = asking_needs (record A { step = live_step A live }) A.asked (λ c key t u h h' f. ap (only_live live) (n c key t u h h' f))

  when_asked : (condition : ℕ) → StepsByAsked (when_auto condition A)
  when_asked condition = asking_needs (record A { step = guarded_step A condition }) (λ s k. bit_or (2 ^ (condition - 1)) (A.asked s k))
      (λ c key t u h h' f.
      let own = 2 ^ (condition - 1) in
      λ i. cond (f condition (or_left condition own (A.asked c key) (holds-itself condition)) i) (n c key t u h h' (agree_right own (A.asked c key) t u f) i) None)

  enter_asked : (x : Carry) → StepsByAsked (enter_auto A x)
  enter_asked x c key t u h h' f = ap (λ o. cond (is_start A c) (option_map (carrying x) o) o) (n c key t u h h' f)

  finish_asked : (x : Carry) → StepsByAsked (finish_auto A x)
  finish_asked x c key t u h h' f = ap (option_map (λ m. cond (A.final m.to) (carrying x m) m)) (n c key t u h h' f)

  every_asked : (x : Carry) → StepsByAsked (every_auto A x)
  every_asked x c key t u h h' f = ap (option_map (carrying x)) (n c key t u h h' f)

pub steps_by_asked : (t : Node) (k : Marks t) → StepsByAsked (auto t k)
steps_by_asked (N.Set ranges) k = λ c key t u h h' f. refl
steps_by_asked N.Null k = λ c key t u h h' f. refl
steps_by_asked N.Nothing k = λ c key t u h h' f. refl
steps_by_asked (N.Union a b) k = quiet_asked (union_auto (auto a k.0) (auto b k.1)) (both_asked (auto a k.0) (auto b k.1) (steps_by_asked a k.0) (steps_by_asked b k.1) (λ p q. p || q))
steps_by_asked (N.And a b) k = pruned_asked (and_auto (auto a k.0) (auto b k.1)) (both_asked (auto a k.0) (auto b k.1) (steps_by_asked a k.0) (steps_by_asked b k.1) (λ p q. p && q)) k.2
steps_by_asked (N.Minus a b) k = pruned_asked (minus_auto (auto a k.0) (auto b k.1)) (both_asked (auto a k.0) (auto b k.1) (steps_by_asked a k.0) (steps_by_asked b k.1) (λ p q. p && not q)) k.2
steps_by_asked (N.Cat a b) k = quiet_asked (cat_auto (auto a k.0) (auto b k.1)) (cat_asked (auto a k.0) (auto b k.1) (steps_by_asked a k.0) (steps_by_asked b k.1))
steps_by_asked (N.Star a n) k = quiet_asked (star_auto (auto a k) n) (star_asked (auto a k) (steps_by_asked a k) n)
steps_by_asked (N.Enter a l) k = enter_asked (auto a k) (steps_by_asked a k) (carry_of l)
steps_by_asked (N.Finish a l) k = finish_asked (auto a k) (steps_by_asked a k) (carry_of l)
steps_by_asked (N.All a l) k = every_asked (auto a k) (steps_by_asked a k) (carry_of l)
steps_by_asked (N.Leave a l) k = steps_by_asked a k
steps_by_asked (N.Mark a class kind s x) k = steps_by_asked a k
steps_by_asked (N.When a c) k = when_asked (auto a k) (steps_by_asked a k) c

-- ---- scanners

module _ (key : ℤ) (t u : ℕ) (h : t < 256) (h' : u < 256) where
  abbrev letter : ℕ → Letter
  letter truths = record { key = key; truths = truths }

  carried_same : (ps : List Pattern) (k : PatternMarks ps) (c : Confs ps) → AgreeOn (confs_asked ps k c key) t u → all_carried ps k c (letter t) ≡ all_carried ps k c (letter u)
  carried_same [] k c f = refl
  carried_same (p ∷ ps) k c f =
      let A = auto p.tree k.0 in
      let a = on_part 0 (λ s. A.asked s key) c.0 in
      let b = confs_asked ps k.1 c.1 key in
      λ i. carries (part_same A (steps_by_asked p.tree k.0) key t u h h' c.0 (agree_left a b t u f) i) ++ carried_same ps k.1 c.1 (agree_right a b t u f) i

  confs_same : (ps : List Pattern) (k : PatternMarks ps) (c : Confs ps) (all : List Carry) → AgreeOn (confs_asked ps k c key) t u → kept_confs ps k all c (letter t) ≡ kept_confs ps k all c (letter u)
  confs_same [] k c all f = refl
  confs_same (p ∷ ps) k c all f =
      let A = auto p.tree k.0 in
      let a = on_part 0 (λ s. A.asked s key) c.0 in
      let b = confs_asked ps k.1 c.1 key in
      λ i. (first (targets (kept all (part_same A (steps_by_asked p.tree k.0) key t u h h' c.0 (agree_left a b t u f) i))), confs_same ps k.1 c.1 all (agree_right a b t u f) i)

  kept_same : (ps : List Pattern) (k : PatternMarks ps) (c : Confs ps) (all : List Carry) → AgreeOn (confs_asked ps k c key) t u → kept_carries ps k all c (letter t) ≡ kept_carries ps k all c (letter u)
  kept_same [] k c all f = refl
  kept_same (p ∷ ps) k c all f =
      let A = auto p.tree k.0 in
      let a = on_part 0 (λ s. A.asked s key) c.0 in
      let b = confs_asked ps k.1 c.1 key in
      λ i. carries (kept all (part_same A (steps_by_asked p.tree k.0) key t u h h' c.0 (agree_left a b t u f) i)) ++ kept_same ps k.1 c.1 all (agree_right a b t u f) i

pub scan_by_asked : (ps : List Pattern) (k : PatternMarks ps) → StepsByAsked (scan_auto ps k)
scan_by_asked ps k = quiet_asked (scan_raw ps k) (λ c key t u h h' f.
    ap (λ all. step_to (kept_confs ps k all c (record { key = key; truths = t })) (kept_carries ps k all c (record { key = key; truths = t }))) (carried_same key t u h h' ps k c f)
    ∙ (λ i. let all = all_carried ps k c (record { key = key; truths = u }) in step_to (confs_same key t u h h' ps k c all f i) (kept_same key t u h h' ps k c all f i)))
