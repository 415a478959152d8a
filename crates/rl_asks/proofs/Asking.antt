-- Where an operator has no candidates its parts do not step, and so they ask nothing.
use Rattle.std.proofs.Common.{◌≡◌, ℕ, zero, suc, ◌+◌, ◌-◌, ◌^◌, ◌<◌, ℤ, Bool, true, false, cond, not, ◌&&◌, ◌||◌, List, [], ◌∷◌, ◌++◌, map, refl, sym, ◌∙◌, ap, Option, Some, None, option_map, true≢false, is_some, bit_or, arith}
use Rattle.std.specs.List.{list_any, flat_map, range_with_len}
use Rattle.rl_types.specs.declared.numbers.Letter.{Letter}
use Rattle.rl_labels.specs.declared.carry.Carry.{Carry}
use Rattle.rl_labels.specs.Carries.{no_carry}
use Rattle.rl_sets.specs.Sets.{set_of}
use Rattle.rl_automata.specs.declared.moves.Move.{Move}
use Rattle.rl_automata.specs.Auto.{Auto, both_auto, cat_auto, star_auto, enter_auto, finish_auto, every_auto, when_auto, union_auto, and_auto, minus_auto, quiet, pruned, asking, steps_at, every_truths, live_step, guarded_step, listed, first, on_part, part_moves, steps_of, asked_of, carrying, restamped, round_step, member_steps, right_moves, is_start, left_final, settle, carries, step_to, is_none_left, jams, both_jams, cat_jams, star_jams}
use Rattle.rl_automata.specs.Nodes as N
use Rattle.rl_automata.specs.Nodes.{Node, carry_of}
use Rattle.rl_automata.specs.Marks.{Marks, auto}
use Rattle.rl_automata.specs.Scans.{Pattern, Confs, PatternMarks, scan_raw, scan_jams, all_carried, confs_asked}
use Rattle.rl_automata.proofs.AskedLaws.{steps_at-some}
use Rattle.rl_automata.proofs.Congruence.{none_in}
use Rattle.rl_asks.specs.Asks.{StepsNowhere, AsksWhereItSteps, JamsAt, AsksTheSameQuiet}

-- ---- lists in which nothing is left

cons_none : {X P : Type 0} (x : X) (xs : List X) → x ∷ xs ≡ [] → P
cons_none x xs e = absurd (true≢false (sym (ap is_none_left e)))

front_none : {X : Type 0} (xs ys : List X) → xs ++ ys ≡ [] → xs ≡ []
front_none [] ys e = refl
front_none (x ∷ xs) ys e = cons_none x (xs ++ ys) e

back_none : {X : Type 0} (xs ys : List X) → xs ++ ys ≡ [] → ys ≡ []
back_none [] ys e = e
back_none (x ∷ xs) ys e = cons_none x (xs ++ ys) e

map_none : {X Y : Type 0} (f : X → Y) (xs : List X) → map f xs ≡ [] → xs ≡ []
map_none f [] e = refl
map_none f (x ∷ xs) e = cons_none (f x) (map f xs) e

listed_none : {X : Type 0} (o : Option X) → listed o ≡ [] → o ≡ None
listed_none None e = refl
listed_none (Some x) e = cons_none x [] e

mapped_none : {X Y : Type 0} (f : X → Y) (o : Option X) → option_map f o ≡ None → o ≡ None
mapped_none f None e = refl
mapped_none f (Some x) e = none_in (f x) (sym e)

either_none : {X : Type 0} (b : Bool) (f : X → X) (o : Option X) → cond b (option_map f o) o ≡ None → o ≡ None
either_none true f o e = mapped_none f o e
either_none false f o e = e

-- ---- no step, and nothing asked

any_none : (p : ℕ → Bool) (a n : ℕ) → ((t : ℕ) → t < n → p (a + t) ≡ false) → list_any p (range_with_len a n) ≡ false
any_none p a zero h = refl
any_none p a (suc n) h =
    ap (λ b. b || list_any p (range_with_len (a + 1) n)) (ap p (sym (add-zero a)) ∙ h zero (omega arith))
    ∙ any_none p (a + 1) n (λ t l. ap p (next a t) ∙ h (suc t) (omega arith))
  where
    add-zero : (a : ℕ) → a + 0 ≡ a
    add-zero a = omega arith

    next : (a t : ℕ) → (a + 1) + t ≡ a + suc t
    next a t = omega arith

zero-add : (t : ℕ) → 0 + t ≡ t
zero-add t = omega arith

or_none : (a b : ℕ) → a ≡ 0 → b ≡ 0 → bit_or a b ≡ 0
or_none a b e f = λ i. bit_or (e i) (f i)

module _ {S : Type 0} (A : Auto S) where
  nowhere_false : (c : S) (key : ℤ) → StepsNowhere A c key → steps_at A c key ≡ false
  unfolding every_truths
  nowhere_false c key h = any_none (λ t. is_some (A.step c (record { key = key; truths = t }))) 0 256
      (λ t l. ap (λ t. is_some (A.step c (record { key = key; truths = t }))) (zero-add t) ∙ ap is_some (h t l))

  false_nowhere : (c : S) (key : ℤ) → steps_at A c key ≡ false → StepsNowhere A c key
  false_nowhere c key e t h = by (A.step c (record { key = key; truths = t })) refl
    where
      by : (o : Option (Move S)) → A.step c (record { key = key; truths = t }) ≡ o → o ≡ None
      by None p = refl
      by (Some m) p = absurd (true≢false (sym (steps_at-some A c key t h (ap is_some p)) ∙ e))

  -- what asks by `asking` asks nothing where it can't step
  asking_none : (asks : S → ℤ → ℕ) (c : S) (key : ℤ) → StepsNowhere A c key → asking A asks c key ≡ 0
  asking_none asks c key h = ap (λ b. cond b (asks c key) 0) (nowhere_false c key h)

  -- and asks the same, where what can't step has nothing to ask
  asking_same : (c : S) (key : ℤ) → (StepsNowhere A c key → A.asked c key ≡ 0) → asking A A.asked c key ≡ A.asked c key
  asking_same c key h =
      (elim (steps_at A c key) as (λ b. steps_at A c key ≡ b → cond b (A.asked c key) 0 ≡ A.asked c key) [
        | true ↦ λ e. refl
        | false ↦ λ e. sym (h (false_nowhere c key e))
      ]) refl

-- ---- no step, and no candidates

-- where something is left of all that there is, nothing left means that there was nothing
none_all : {X : Type 0} (all left : List X) → left ≡ [] → (not (is_none_left all) && is_none_left left) ≡ false → all ≡ []
none_all [] left e h = refl
none_all (x ∷ all) left e h = absurd (true≢false (sym (ap is_none_left e) ∙ h))

step_none : {C : Type 0} (target : C) (cs : List Carry) → step_to target cs ≡ None → cs ≡ []
step_none target [] e = refl
step_none target (c ∷ cs) e = none_in _ (sym e)

settle_none : {S T C : Type 0} (make : List S → List T → C) (ls : List (Move S)) (rs : List (Move T)) → jams ls rs ≡ false → settle make ls rs ≡ None → carries ls ++ carries rs ≡ []
settle_none make ls rs j e = none_all _ _ (step_none _ _ e) j

left_none : {S T : Type 0} (ls : List (Move S)) (rs : List (Move T)) → carries ls ++ carries rs ≡ [] → ls ≡ []
left_none ls rs e = map_none (λ m. m.carry) ls (front_none (carries ls) (carries rs) e)

right_none : {S T : Type 0} (ls : List (Move S)) (rs : List (Move T)) → carries ls ++ carries rs ≡ [] → rs ≡ []
right_none ls rs e = map_none (λ m. m.carry) rs (back_none (carries ls) (carries rs) e)

no_jam : {S : Type 0} (jam : S → Letter → Bool) (c : S) (key : ℤ) → ¬ JamsAt jam c key → (t : ℕ) → t < 256 → jam c (record { key = key; truths = t }) ≡ false
no_jam jam c key n t h = by (jam c (record { key = key; truths = t })) refl
  where
    by : (b : Bool) → jam c (record { key = key; truths = t }) ≡ b → b ≡ false
    by true e = absurd (n (t, h, e))
    by false e = refl

-- ---- no candidates, and nothing asked

module _ {S : Type 0} (A : Auto S) (a : AsksWhereItSteps A) (key : ℤ) where
  abbrev at : ℕ → Letter
  at truths = record { key = key; truths = truths }

  part_none : (o : Option S) → ((t : ℕ) → t < 256 → part_moves A (at t) o ≡ []) → on_part 0 (λ s. A.asked s key) o ≡ 0
  part_none None h = refl
  part_none (Some s) h = a s key (λ t l. listed_none (A.step s (at t)) (h t l))

  steps_none : (ss : List S) → ((t : ℕ) → t < 256 → steps_of A (at t) ss ≡ []) → asked_of A key ss ≡ 0
  steps_none [] h = refl
  steps_none (s ∷ ss) h = or_none (A.asked s key) (asked_of A key ss)
      (a s key (λ t l. listed_none (A.step s (at t)) (front_none (listed (A.step s (at t))) (steps_of A (at t) ss) (h t l))))
      (steps_none ss (λ t l. back_none (listed (A.step s (at t))) (steps_of A (at t) ss) (h t l)))

  -- the first step of what follows, where it is reached
  begin_none : (b : Bool) (x : Carry) → ((t : ℕ) → t < 256 → cond b (map (carrying x) (listed (A.step A.start (at t)))) [] ≡ []) → cond b (A.asked A.start key) 0 ≡ 0
  begin_none true x h = a A.start key (λ t l. listed_none (A.step A.start (at t)) (map_none (carrying x) (listed (A.step A.start (at t))) (h t l)))
  begin_none false x h = refl

  round_none : (base : ℕ) (s : S) → ((t : ℕ) → t < 256 → round_step A base s (at t) ≡ []) → A.asked s key ≡ 0
  round_none base s h = a s key (λ t l. listed_none (A.step s (at t)) (by (is_start A s) (listed (A.step s (at t))) (h t l)))
    where
      by : (b : Bool) (ms : List (Move S)) → cond b (map (restamped base) ms) ms ≡ [] → ms ≡ []
      by true ms e = map_none (restamped base) ms e
      by false ms e = e

  member_none : (base : ℕ) (s : S) → ((t : ℕ) → t < 256 → member_steps A base (at t) s ≡ []) → A.asked s key ≡ 0
  member_none base s h = round_none base s (λ t l. front_none (round_step A base s (at t)) (cond (A.final s) (map (carrying (A.out s)) (round_step A base A.start (at t))) []) (h t l))

  again_none : (base : ℕ) (s : S) → A.final s ≡ true → ((t : ℕ) → t < 256 → member_steps A base (at t) s ≡ []) → A.asked A.start key ≡ 0
  again_none base s f h = round_none base A.start (λ t l.
      let again = map (carrying (A.out s)) (round_step A base A.start (at t)) in
      map_none (carrying (A.out s)) (round_step A base A.start (at t))
      (ap (λ b. cond b again []) (sym f) ∙ back_none (round_step A base s (at t)) (cond (A.final s) again []) (h t l)))

  members_none : (base : ℕ) (ss : List S) → ((t : ℕ) → t < 256 → flat_map (member_steps A base (at t)) ss ≡ []) → asked_of A key ss ≡ 0
  members_none base [] h = refl
  members_none base (s ∷ ss) h = or_none (A.asked s key) (asked_of A key ss)
      (member_none base s (λ t l. front_none (member_steps A base (at t) s) (flat_map (member_steps A base (at t)) ss) (h t l)))
      (members_none base ss (λ t l. back_none (member_steps A base (at t) s) (flat_map (member_steps A base (at t)) ss) (h t l)))

  rounds_none : (base : ℕ) (ss : List S) → ((t : ℕ) → t < 256 → flat_map (member_steps A base (at t)) ss ≡ []) → cond (list_any A.final ss) (A.asked A.start key) 0 ≡ 0
  rounds_none base [] h = refl
  rounds_none base (s ∷ ss) h =
      (elim (A.final s) as (λ b. A.final s ≡ b → cond (b || list_any A.final ss) (A.asked A.start key) 0 ≡ 0) [
        | true ↦ λ e. again_none base s e (λ t l. front_none (member_steps A base (at t) s) (flat_map (member_steps A base (at t)) ss) (h t l))
        | false ↦ λ e. rounds_none base ss (λ t l. back_none (member_steps A base (at t) s) (flat_map (member_steps A base (at t)) ss) (h t l))
      ]) refl

-- ---- operators

module _ {S T : Type 0} (A : Auto S) (B : Auto T) (a : AsksWhereItSteps A) (b : AsksWhereItSteps B) where
  pub both_same : (test : Bool → Bool → Bool) → AsksTheSameQuiet (both_auto A B test) (both_jams A B)
  both_same test c key n = asking_same (both_auto A B test) c key (λ h.
      let none : (t : ℕ) → t < 256 → carries (part_moves A (record { key = key; truths = t }) c.0) ++ carries (part_moves B (record { key = key; truths = t }) c.1) ≡ [] =
      λ t l. settle_none (λ ss ts. (first ss, first ts)) _ _ (no_jam (both_jams A B) c key n t l) (h t l) in
      or_none _ _
      (part_none A a key c.0 (λ t l. left_none _ _ (none t l)))
      (part_none B b key c.1 (λ t l. right_none _ _ (none t l))))

  pub cat_same : AsksTheSameQuiet (cat_auto A B) (cat_jams A B)
  cat_same c key n = asking_same (cat_auto A B) c key (λ h.
      let none : (t : ℕ) → t < 256 → carries (part_moves A (record { key = key; truths = t }) c.0) ++ carries (right_moves A B c (record { key = key; truths = t })) ≡ [] =
      λ t l. settle_none (λ ss ts. (first ss, set_of B.order ts)) _ _ (no_jam (cat_jams A B) c key n t l) (h t l) in
      let rights : (t : ℕ) → t < 256 → right_moves A B c (record { key = key; truths = t }) ≡ [] = λ t l. right_none _ _ (none t l) in
      or_none _ _
      (part_none A a key c.0 (λ t l. left_none _ _ (none t l)))
      (or_none _ _
      (steps_none B b key c.1 (λ t l. front_none _ _ (rights t l)))
      (begin_none B b key (left_final A B c) (on_part no_carry A.out c.0) (λ t l. back_none (steps_of B (record { key = key; truths = t }) c.1) _ (rights t l)))))

module _ {S : Type 0} (A : Auto S) (a : AsksWhereItSteps A) where
  pub star_same : (base : ℕ) → AsksTheSameQuiet (star_auto A base) (star_jams A base)
  star_same base c key n = asking_same (star_auto A base) c key (λ h.
      let none : (t : ℕ) → t < 256 → flat_map (member_steps A base (record { key = key; truths = t })) c ≡ [] =
      λ t l. right_none {S = S} [] _ (settle_none {S = S} (λ ss ts. set_of A.order ts) [] _ (no_jam (star_jams A base) c key n t l) (h t l)) in
      or_none _ _ (members_none A a key base c none) (rounds_none A a key base c none))

  enter_asks : (x : Carry) → AsksWhereItSteps (enter_auto A x)
  enter_asks x c key h = a c key (λ t l. either_none (is_start A c) (carrying x) (A.step c (record { key = key; truths = t })) (h t l))

  finish_asks : (x : Carry) → AsksWhereItSteps (finish_auto A x)
  finish_asks x c key h = a c key (λ t l. mapped_none (λ m. cond (A.final m.to) (carrying x m) m) (A.step c (record { key = key; truths = t })) (h t l))

  every_asks : (x : Carry) → AsksWhereItSteps (every_auto A x)
  every_asks x c key h = a c key (λ t l. mapped_none (carrying x) (A.step c (record { key = key; truths = t })) (h t l))

quiet_asks : {S : Type 0} (A : Auto S) → AsksWhereItSteps (quiet A)
quiet_asks A = asking_none A A.asked

pruned_asks : {S : Type 0} (A : Auto S) (live : S → Bool) → AsksWhereItSteps (pruned live A)
pruned_asks A live = asking_none (record A { step = live_step A live }) A.asked

when_asks : {S : Type 0} (A : Auto S) (condition : ℕ) → AsksWhereItSteps (when_auto condition A)
when_asks A condition = asking_none (record A { step = guarded_step A condition }) (λ s k. bit_or (2 ^ (condition - 1)) (A.asked s k))

-- each automaton of an expression asks nothing where it can't step
pub asks_where_it_steps : (t : Node) (k : Marks t) → AsksWhereItSteps (auto t k)
asks_where_it_steps (N.Set ranges) k = λ c key h. refl
asks_where_it_steps N.Null k = λ c key h. refl
asks_where_it_steps N.Nothing k = λ c key h. refl
asks_where_it_steps (N.Union a b) k = quiet_asks (union_auto (auto a k.0) (auto b k.1))
asks_where_it_steps (N.And a b) k = pruned_asks (and_auto (auto a k.0) (auto b k.1)) k.2
asks_where_it_steps (N.Minus a b) k = pruned_asks (minus_auto (auto a k.0) (auto b k.1)) k.2
asks_where_it_steps (N.Cat a b) k = quiet_asks (cat_auto (auto a k.0) (auto b k.1))
asks_where_it_steps (N.Star a n) k = quiet_asks (star_auto (auto a k) n)
asks_where_it_steps (N.Enter a l) k = enter_asks (auto a k) (asks_where_it_steps a k) (carry_of l)
asks_where_it_steps (N.Finish a l) k = finish_asks (auto a k) (asks_where_it_steps a k) (carry_of l)
asks_where_it_steps (N.All a l) k = every_asks (auto a k) (asks_where_it_steps a k) (carry_of l)
asks_where_it_steps (N.Leave a l) k = asks_where_it_steps a k
asks_where_it_steps (N.Mark a class kind s x) k = asks_where_it_steps a k
asks_where_it_steps (N.When a c) k = when_asks (auto a k) c

-- ---- scanners

confs_none : (key : ℤ) (ps : List Pattern) (k : PatternMarks ps) (c : Confs ps) → ((t : ℕ) → t < 256 → all_carried ps k c (record { key = key; truths = t }) ≡ []) → confs_asked ps k c key ≡ 0
confs_none key [] k c h = refl
confs_none key (p ∷ ps) k c h =
    let A = auto p.tree k.0 in
    or_none _ _
    (part_none A (asks_where_it_steps p.tree k.0) key c.0 (λ t l. map_none (λ m. m.carry) (part_moves A (record { key = key; truths = t }) c.0) (front_none _ _ (h t l))))
    (confs_none key ps k.1 c.1 (λ t l. back_none (carries (part_moves A (record { key = key; truths = t }) c.0)) _ (h t l)))

pub scan_same : (ps : List Pattern) (k : PatternMarks ps) → AsksTheSameQuiet (scan_raw ps k) (scan_jams ps k)
scan_same ps k c key n = asking_same (scan_raw ps k) c key (λ h. confs_none key ps k c (λ t l. none_all _ _ (step_none _ _ (h t l)) (no_jam (scan_jams ps k) c key n t l)))
