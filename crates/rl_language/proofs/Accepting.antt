-- Which words lead an operator's automaton to a final configuration: a test that follows the word.
use Rattle.std.proofs.Common.{◌≡◌, ℕ, Bool, true, false, cond, ◌&&◌, ◌||◌, true≢false, List, [], ◌∷◌, ◌++◌, map, refl, sym, ◌∙◌, ap, Option, Some, None, option_map}
use Rattle.std.specs.List.{list_any, flat_map}
use Rattle.rl_types.specs.declared.numbers.Letter.{Letter}
use Rattle.rl_sets.specs.Sets.{set_of}
use Rattle.rl_sets.specs.Order.{IsOrder}
use Rattle.rl_sets.proofs.SetLaws.{any-same, same_set_of}
use Rattle.rl_sets.proofs.OrderLaws.{list_is_order, eq_by_cmp-same}
use Rattle.rl_labels.specs.declared.carry.Carry.{Carry}
use Rattle.rl_labels.specs.Carries.{no_carry, all_of}
use Rattle.rl_automata.specs.declared.moves.Move.{Move}
use Rattle.rl_automata.specs.Auto.{Auto, carries, targets, step_to, listed, first, on_part, part_moves, steps_of, carrying, restamped, is_start, next, left_final, right_moves, round_step, member_steps, only_start, only_live, holds, both_auto, cat_auto, star_auto, enter_auto, finish_auto, every_auto, when_auto, pruned, quiet}
use Rattle.rl_automata.specs.Follows.{Reach, went}
use Rattle.rl_automata.specs.Nodes.{Ends, TellsLive}
use Rattle.rl_automata.specs.Laws.{NeverReturns}
use Rattle.rl_automata.proofs.StartLaws.{star_never}
use Rattle.rl_language.proofs.Plainness.{HasNone, settled, part_none, rights_none, members_none}

-- ---- tests

pub is_false : (b : Bool) → (b ≡ true → ⊥) → b ≡ false
is_false true h = absurd (h refl)
is_false false h = refl

pub or_false : (b : Bool) → (b || false) ≡ b
or_false true = refl
or_false false = refl

or_or : (a b c : Bool) → ((a || b) || c) ≡ (a || (b || c))
or_or true b c = refl
or_or false b c = refl

and_false : (b : Bool) → (b && false) ≡ false
and_false true = refl
and_false false = refl

-- the same of a part that may be absent
pub on_same : {S : Type 0} (f g : S → Bool) → ((s : S) → f s ≡ g s) → (o : Option S) → on_part false f o ≡ on_part false g o
on_same f g h None = refl
on_same f g h (Some s) = h s

abbrev pub to_of : {S : Type 0} → Option (Move S) → Option S
to_of o = option_map (λ m. m.to) o

moved : {S : Type 0} (f : S → Bool) (o : Option (Move S)) → on_part false (λ m. f m.to) o ≡ on_part false f (to_of o)
moved f None = refl
moved f (Some m) = refl

-- ---- words along an automaton

module _ {S : Type 0} (A : Auto S) where
  -- whether the word leads from s to a final configuration
  abbrev pub accepts : List Letter → S → Bool
  accepts [] s = A.final s
  accepts (l ∷ w) s = on_part false (λ m. accepts w m.to) (A.step s l)

  abbrev pub part_accepts : List Letter → Option S → Bool
  part_accepts w o = on_part false (accepts w) o

  pub ends_accepts : (w : List Letter) (s : S) → Ends A w s → accepts w s ≡ true
  ends_accepts [] s e = e
  ends_accepts (l ∷ w) s (m, p, e) = ap (on_part false (λ n. accepts w n.to)) p ∙ ends_accepts w m.to e

  pub accepts_ends : (w : List Letter) (s : S) → accepts w s ≡ true → Ends A w s
  accepts_ends [] s e = e
  accepts_ends (l ∷ w) s e = by (accepts_ends w) (A.step s l) refl e
    where
      by : ((t : S) → accepts w t ≡ true → Ends A w t) → (o : Option (Move S)) → A.step s l ≡ o → on_part false (λ m. accepts w m.to) o ≡ true → Ends A (l ∷ w) s
      by rest None p e = absurd (true≢false (sym e))
      by rest (Some m) p e = (m, p, rest m.to e)

  -- where the one step of a part leads
  pub part_step : (l : Letter) (w : List Letter) (o : Option S) → part_accepts (l ∷ w) o ≡ part_accepts w (first (targets (part_moves A l o)))
  part_step l w None = refl
  part_step l w (Some s) = by (A.step s l)
    where
      by : (o : Option (Move S)) → on_part false (λ m. accepts w m.to) o ≡ part_accepts w (first (targets (listed o)))
      by None = refl
      by (Some m) = refl

-- an automaton whose steps lead to the same configurations accepts the same
pub accepts_same : {S : Type 0} (A B : Auto S) → ((s : S) → B.final s ≡ A.final s) → ((s : S) (l : Letter) → to_of (B.step s l) ≡ to_of (A.step s l)) → (w : List Letter) (s : S) → accepts B w s ≡ accepts A w s
accepts_same A B fin same [] s = fin s
accepts_same A B fin same (l ∷ w) s =
    moved (accepts B w) (B.step s l) ∙ ap (on_part false (accepts B w)) (same s l)
    ∙ on_same (accepts B w) (accepts A w) (accepts_same A B fin same w) (to_of (A.step s l)) ∙ sym (moved (accepts A w) (A.step s l))

-- ---- embeddings

carried_to : {S : Type 0} (f : Move S → Move S) → ((m : Move S) → (f m).to ≡ m.to) → (o : Option (Move S)) → to_of (option_map f o) ≡ to_of o
carried_to f h None = refl
carried_to f h (Some m) = ap Some (h m)

-- the condition holds at each letter
abbrev pub holds_along : ℕ → List Letter → Bool
holds_along c [] = true
holds_along c (l ∷ w) = holds c l.truths && holds_along c w

module _ {S : Type 0} (A : Auto S) where
  pub enter_accepts : (x : Carry) (w : List Letter) (s : S) → accepts (enter_auto A x) w s ≡ accepts A w s
  enter_accepts x = accepts_same A (enter_auto A x) (λ s. refl) (λ s l.
      elim (is_start A s) as (λ b. to_of (cond b (option_map (carrying x) (A.step s l)) (A.step s l)) ≡ to_of (A.step s l)) [
        | true ↦ carried_to (carrying x) (λ m. refl) (A.step s l)
        | false ↦ refl
      ])

  pub finish_accepts : (x : Carry) (w : List Letter) (s : S) → accepts (finish_auto A x) w s ≡ accepts A w s
  finish_accepts x = accepts_same A (finish_auto A x) (λ s. refl) (λ s l.
      carried_to (λ m. cond (A.final m.to) (carrying x m) m) (λ m. elim (A.final m.to) as (λ b. (cond b (carrying x m) m).to ≡ m.to) [ true ↦ refl | false ↦ refl ]) (A.step s l))

  pub every_accepts : (x : Carry) (w : List Letter) (s : S) → accepts (every_auto A x) w s ≡ accepts A w s
  every_accepts x = accepts_same A (every_auto A x) (λ s. refl) (λ s l. carried_to (carrying x) (λ m. refl) (A.step s l))

  pub quiet_accepts : (w : List Letter) (s : S) → accepts (quiet A) w s ≡ accepts A w s
  quiet_accepts = accepts_same A (quiet A) (λ s. refl) (λ s l. refl)

  -- ---- conditions

  pub when_accepts : (c : ℕ) (w : List Letter) (s : S) → accepts (when_auto c A) w s ≡ (holds_along c w && accepts A w s)
  when_accepts c [] s = refl
  when_accepts c (l ∷ w) s =
      elim (holds c l.truths) as (λ b. on_part false (λ m. accepts (when_auto c A) w m.to) (cond b (A.step s l) None) ≡ ((b && holds_along c w) && on_part false (λ m. accepts A w m.to) (A.step s l))) [
        | true ↦ by (when_accepts c w) (A.step s l)
        | false ↦ refl
      ]
    where
      by : ((t : S) → accepts (when_auto c A) w t ≡ (holds_along c w && accepts A w t)) → (o : Option (Move S)) → on_part false (λ m. accepts (when_auto c A) w m.to) o ≡ (holds_along c w && on_part false (λ m. accepts A w m.to) o)
      by rest None = sym (and_false (holds_along c w))
      by rest (Some m) = rest m.to

  -- ---- pruning by a test that tells the truth

  pub pruned_accepts : (live : S → Bool) → TellsLive A live → (w : List Letter) (s : S) → Reach A s → accepts (pruned live A) w s ≡ accepts A w s
  pruned_accepts live h [] s r = refl
  pruned_accepts live h (l ∷ w) s r = by (pruned_accepts live h w) (A.step s l) refl
    where
      dead : ((t : S) → Reach A t → accepts (pruned live A) w t ≡ accepts A w t) → (m : Move S) → Reach A m.to → (b : Bool) → live m.to ≡ b → on_part false (λ n. accepts (pruned live A) w n.to) (cond b (Some m) None) ≡ accepts A w m.to
      dead rest m q true e = rest m.to q
      dead rest m q false e = sym (is_false (accepts A w m.to) (λ a. true≢false (sym ((h m.to q).1 (w, accepts_ends A w m.to a)) ∙ e)))

      by : ((t : S) → Reach A t → accepts (pruned live A) w t ≡ accepts A w t) → (o : Option (Move S)) → A.step s l ≡ o → on_part false (λ m. accepts (pruned live A) w m.to) (only_live live o) ≡ on_part false (λ m. accepts A w m.to) o
      by rest None e = refl
      by rest (Some m) e = dead rest m (went r l m e) (live m.to) refl

-- ---- two operands side by side

module _ {S T : Type 0} (A : Auto S) (B : Auto T) (n : HasNone A) (p : HasNone B) where
  both_moves : (f : Option S × Option T → Bool) → f (None, None) ≡ false → (ls : List (Move S)) (rs : List (Move T))
      → on_part false (λ m. f m.to) (step_to (first (targets ls), first (targets rs)) (carries ls ++ carries rs)) ≡ f (first (targets ls), first (targets rs))
  both_moves f e [] [] = sym e
  both_moves f e [] (r ∷ rs) = refl
  both_moves f e (l ∷ ls) rs = refl

  -- a union, an intersection and a difference accept by what the two operands do
  pub both_accepts : (test : Bool → Bool → Bool) → test false false ≡ false → (w : List Letter) (c : Option S × Option T)
      → accepts (both_auto A B test) w c ≡ test (part_accepts A w c.0) (part_accepts B w c.1)
  both_accepts test none [] c = refl
  both_accepts test none (l ∷ w) c =
      let ls = part_moves A l c.0 in
      let rs = part_moves B l c.1 in
      let f : Option S × Option T → Bool = accepts (both_auto A B test) w in
      ap (on_part false (λ m. f m.to)) (settled (λ ss ts. (first ss, first ts)) ls rs (part_none n c.0 l) (part_none p c.1 l))
      ∙ both_moves f (both_accepts test none w (None, None) ∙ none) ls rs
      ∙ both_accepts test none w (first (targets ls), first (targets rs))
      ∙ (λ i. test (sym (part_step A l w c.0) i) (sym (part_step B l w c.1) i))

-- ---- candidates, of which one leads to acceptance

any_append : {X : Type 0} (f : X → Bool) (xs ys : List X) → list_any f (xs ++ ys) ≡ (list_any f xs || list_any f ys)
any_append f [] ys = refl
any_append f (x ∷ xs) ys = ap (λ b. f x || b) (any_append f xs ys) ∙ sym (or_or (f x) (list_any f xs) (list_any f ys))

targets_append : {S : Type 0} (xs ys : List (Move S)) → targets (xs ++ ys) ≡ targets xs ++ targets ys
targets_append [] ys = refl
targets_append (x ∷ xs) ys = ap (λ w. x.to ∷ w) (targets_append xs ys)

-- whether one of the targets passes
abbrev any_to : {S : Type 0} → (S → Bool) → List (Move S) → Bool
any_to f ms = list_any f (targets ms)

to_append : {S : Type 0} (f : S → Bool) (xs ys : List (Move S)) → any_to f (xs ++ ys) ≡ (any_to f xs || any_to f ys)
to_append f xs ys = ap (list_any f) (targets_append xs ys) ∙ any_append f (targets xs) (targets ys)

to_mapped : {S : Type 0} (f : S → Bool) (h : Move S → Move S) → ((m : Move S) → (h m).to ≡ m.to) → (ms : List (Move S)) → any_to f (map h ms) ≡ any_to f ms
to_mapped f h same [] = refl
to_mapped f h same (m ∷ ms) = λ i. f (same m i) || to_mapped f h same ms i

to_listed : {S : Type 0} (f : S → Bool) (o : Option (Move S)) → any_to f (listed o) ≡ on_part false (λ m. f m.to) o
to_listed f None = refl
to_listed f (Some m) = or_false (f m.to)

to_cond : {S : Type 0} (f : S → Bool) (b : Bool) (ms : List (Move S)) → any_to f (cond b ms []) ≡ (b && any_to f ms)
to_cond f true ms = refl
to_cond f false ms = refl

to_flat : {S X : Type 0} (f : S → Bool) (g : X → Bool) (h : X → List (Move S)) → ((x : X) → any_to f (h x) ≡ g x) → (xs : List X) → any_to f (flat_map h xs) ≡ list_any g xs
to_flat f g h same [] = refl
to_flat f g h same (x ∷ xs) = to_append f (h x) (flat_map h xs) ∙ (λ i. same x i || to_flat f g h same xs i)

-- ---- one operand after the other

module _ {S T : Type 0} (A : Auto S) (B : Auto T) where
  -- whether the left part accepts a front of the word, and the right operand the rest
  abbrev pub chain_accepts : List Letter → Option S → Bool
  chain_accepts [] o = on_part false A.final o && B.final B.start
  chain_accepts (l ∷ w) o = (on_part false A.final o && accepts B (l ∷ w) B.start) || chain_accepts w (first (targets (part_moves A l o)))

  chain_none : (w : List Letter) → chain_accepts w None ≡ false
  chain_none [] = refl
  chain_none (l ∷ w) = chain_none w

  module _ (o : IsOrder B.order) (n : HasNone A) (p : HasNone B) where
    chain_moves : (f : Option S × List T → Bool) → f (None, []) ≡ false → (ls : List (Move S)) (rs : List (Move T))
        → on_part false (λ m. f m.to) (step_to (first (targets ls), set_of B.order (targets rs)) (carries ls ++ carries rs)) ≡ f (first (targets ls), set_of B.order (targets rs))
    chain_moves f e [] [] = sym e
    chain_moves f e [] (r ∷ rs) = refl
    chain_moves f e (l ∷ ls) rs = refl

    rights_to : (l : Letter) (w : List Letter) (c : Option S × List T) → any_to (accepts B w) (right_moves A B c l) ≡ (list_any (accepts B (l ∷ w)) c.1 || (left_final A B c && accepts B (l ∷ w) B.start))
    rights_to l w c =
        let x = on_part no_carry A.out c.0 in
        to_append (accepts B w) (steps_of B l c.1) (next A B c (map (carrying x) (listed (B.step B.start l))) [])
        ∙ (λ i. to_flat (accepts B w) (accepts B (l ∷ w)) (λ t. listed (B.step t l)) (λ t. to_listed (accepts B w) (B.step t l)) c.1 i
        || (to_cond (accepts B w) (left_final A B c) (map (carrying x) (listed (B.step B.start l)))
        ∙ ap (λ b. left_final A B c && b) (to_mapped (accepts B w) (carrying x) (λ m. refl) (listed (B.step B.start l)) ∙ to_listed (accepts B w) (B.step B.start l))) i)

    -- a concatenation accepts what a right part does, or what the left part and then the right operand do
    pub cat_accepts : (w : List Letter) (c : Option S × List T) → accepts (cat_auto A B) w c ≡ (list_any (accepts B w) c.1 || chain_accepts w c.0)
    cat_accepts [] c = refl
    cat_accepts (l ∷ w) c =
        let ls = part_moves A l c.0 in
        let rs = right_moves A B c l in
        let f : Option S × List T → Bool = accepts (cat_auto A B) w in
        ap (on_part false (λ m. f m.to)) (settled (λ ss ts. (first ss, set_of B.order ts)) ls rs (part_none n c.0 l) (rights_none n p c l))
        ∙ chain_moves f (cat_accepts w (None, []) ∙ chain_none w) ls rs
        ∙ cat_accepts w (first (targets ls), set_of B.order (targets rs))
        ∙ ap (λ b. b || chain_accepts w (first (targets ls))) (any-same (accepts B w) _ _ (same_set_of o (targets rs)) ∙ rights_to l w c)
        ∙ or_or (list_any (accepts B (l ∷ w)) c.1) (left_final A B c && accepts B (l ∷ w) B.start) (chain_accepts w (first (targets ls)))

-- ---- rounds of one operand

module _ {S : Type 0} (A : Auto S) where
  -- whether the word leads from s to a final configuration, and through any number of rounds
  abbrev pub rounds : List Letter → S → Bool
  rounds [] s = A.final s
  rounds (l ∷ w) s = on_part false (λ m. rounds w m.to) (A.step s l) || (A.final s && on_part false (λ m. rounds w m.to) (A.step A.start l))

  -- the empty word, where nothing was begun
  abbrev pub opens : List Letter → List S → Bool
  opens [] c = only_start A c
  opens (l ∷ w) c = false

  module _ (o : IsOrder A.order) (n : HasNone A) (never : NeverReturns A) (base : ℕ) where
    round_to : (f : S → Bool) (l : Letter) (s : S) → any_to f (round_step A base s l) ≡ on_part false (λ m. f m.to) (A.step s l)
    round_to f l s =
        elim (is_start A s) as (λ b. any_to f (cond b (map (restamped base) (listed (A.step s l))) (listed (A.step s l))) ≡ on_part false (λ m. f m.to) (A.step s l)) [
          | true ↦ to_mapped f (restamped base) (λ m. refl) (listed (A.step s l)) ∙ to_listed f (A.step s l)
          | false ↦ to_listed f (A.step s l)
        ]

    member_to : (l : Letter) (w : List Letter) (s : S) → any_to (rounds w) (member_steps A base l s) ≡ rounds (l ∷ w) s
    member_to l w s =
        to_append (rounds w) (round_step A base s l) (cond (A.final s) (map (carrying (A.out s)) (round_step A base A.start l)) [])
        ∙ (λ i. round_to (rounds w) l s i
        || (to_cond (rounds w) (A.final s) (map (carrying (A.out s)) (round_step A base A.start l))
        ∙ ap (λ b. A.final s && b) (to_mapped (rounds w) (carrying (A.out s)) (λ m. refl) (round_step A base A.start l) ∙ round_to (rounds w) l A.start)) i)

    star_moves : (f : List S → Bool) → f [] ≡ false → (rs : List (Move S)) → on_part false (λ m. f m.to) (step_to (set_of A.order (targets rs)) (carries rs)) ≡ f (set_of A.order (targets rs))
    star_moves f e [] = sym e
    star_moves f e (r ∷ rs) = refl

    -- no step leads to the start alone
    not_start : (l : Letter) (c : List S) → only_start A (set_of A.order (targets (flat_map (member_steps A base l) c))) ≡ false
    not_start l c = by (flat_map (member_steps A base l) c) (settled {S = S} (λ ss ts. set_of A.order ts) [] (flat_map (member_steps A base l) c) (λ x h. absurd h) (members_none n base l c))
      where
        by : (rs : List (Move S)) → (star_auto A base).step c l ≡ step_to (set_of A.order (targets rs)) (carries rs) → only_start A (set_of A.order (targets rs)) ≡ false
        by [] e = refl
        by (r ∷ rs) e = is_false (only_start A (set_of A.order (targets (r ∷ rs)))) (λ t.
            star_never A never o base c l (record { to = set_of A.order (targets (r ∷ rs)); carry = all_of (carries (r ∷ rs)) }) e
            (eq_by_cmp-same (list_is_order o) (set_of A.order (targets (r ∷ rs))) (A.start ∷ []) t))

    opens_not : (l : Letter) (c : List S) (w : List Letter) → opens w (set_of A.order (targets (flat_map (member_steps A base l) c))) ≡ false
    opens_not l c [] = not_start l c
    opens_not l c (x ∷ w) = refl

    opens_none : (w : List Letter) → opens w [] ≡ false
    opens_none [] = refl
    opens_none (l ∷ w) = refl

    -- a repetition accepts the empty word at its start, and what a member does in any number of rounds
    pub star_accepts : (w : List Letter) (c : List S) → accepts (star_auto A base) w c ≡ (opens w c || list_any (rounds w) c)
    star_accepts [] c = refl
    star_accepts (l ∷ w) c =
        let rs = flat_map (member_steps A base l) c in
        let f : List S → Bool = accepts (star_auto A base) w in
        ap (on_part false (λ m. f m.to)) (settled {S = S} (λ ss ts. set_of A.order ts) [] rs (λ x h. absurd h) (members_none n base l c))
        ∙ star_moves f (star_accepts w [] ∙ or_false (opens w []) ∙ opens_none w) rs
        ∙ star_accepts w (set_of A.order (targets rs))
        ∙ (λ i. opens_not l c w i || (any-same (rounds w) _ _ (same_set_of o (targets rs)) ∙ to_flat (rounds w) (rounds (l ∷ w)) (member_steps A base l) (member_to l w) c) i)
