-- No step leads to the start.
use Rattle.std.proofs.Common.{◌≡◌, ◌≢◌, ℕ, Bool, true, false, cond, not, ◌&&◌, ◌||◌, List, [], ◌∷◌, ◌++◌, ◌⊎◌, inl, inr, map, refl, sym, ◌∙◌, ap, subst, Option, Some, None, true≢false}
use Rattle.std.specs.List.{list_any, flat_map}
use Rattle.rl_types.specs.declared.numbers.Letter.{Letter}
use Rattle.rl_types.specs.KeyRange.{Range, in_range}
use Rattle.rl_labels.specs.declared.carry.Carry.{Carry}
use Rattle.rl_labels.specs.Carries.{no_carry}
use Rattle.rl_sets.specs.Sets.{In, set_of}
use Rattle.rl_sets.specs.Order.{IsOrder}
use Rattle.rl_sets.proofs.SetLaws.{In-map_from, In-append_cases, In-flat_map_from, In-set_of_from}
use Rattle.rl_automata.specs.declared.moves.Move.{Move}
use Rattle.rl_automata.specs.Auto.{Auto, set_auto, both_auto, and_auto, minus_auto, enter_auto, finish_auto, every_auto, when_auto, pruned, cat_auto, star_auto, listed, first, part_moves, carrying, restamped, round_step, member_steps, is_start, right_moves, kept, targets}
use Rattle.rl_automata.specs.Nodes as N
use Rattle.rl_automata.specs.Nodes.{Node, Conf, carry_of}
use Rattle.rl_automata.specs.Marks.{Marks, auto}
use Rattle.rl_automata.specs.Scans.{Pattern, PatternMarks, scan_auto, all_carried, kept_confs, kept_carries}
use Rattle.rl_automata.specs.Laws.{NeverReturns}
use Rattle.rl_automata.proofs.Congruence.{AllIn, some_in, none_in, settle_to, step_to_to, kept_all, targets_all}
use Rattle.rl_automata.proofs.Leads.{LeadsAs, every_leads, finish_leads, enter_leads, guard_leads, live_leads}
use Rattle.rl_automata.proofs.MarksLaws.{auto_order}

-- a step that leads where a step of the operand does
leads_on : {S : Type 0} (A A' : Auto S) → A.start ≡ A'.start → LeadsAs A' A → NeverReturns A → NeverReturns A'
leads_on A A' b w h c l m e same = let p = w c l m e in h c l p.0 p.1 (p.2 ∙ same ∙ sym b)

append_all : {X : Type 0} {P : X → Type 0} (xs ys : List X) → AllIn P xs → AllIn P ys → AllIn P (xs ++ ys)
append_all xs ys a b x h = let r : In x xs ⊎ In x ys = In-append_cases x xs ys h in elim r [ inl i ↦ a x i | inr j ↦ b x j ]

-- what holds of where a step leads holds of where the changed step does
mapped_all : {S : Type 0} (P : S → Type 0) (f : Move S → Move S) → ((m : Move S) → (f m).to ≡ m.to) → (ms : List (Move S)) → AllIn (λ m. P m.to) ms → AllIn (λ m. P m.to) (map f ms)
mapped_all P f same ms a m h = let r = In-map_from f m ms h in subst P (sym (same r.0) ∙ ap (λ w. w.to) r.2) (a r.0 r.1)

first_all : {X : Type 0} (P : X → Type 0) (x : X) (xs : List X) → AllIn P xs → first xs ≡ Some x → P x
first_all P x [] a e = none_in x e
first_all P x (y ∷ ys) a e = subst P (some_in y x e) (a y (inl refl))

cond_all : {X : Type 0} {P : X → Type 0} (b : Bool) (xs ys : List X) → AllIn P xs → AllIn P ys → AllIn P (cond b xs ys)
cond_all true xs ys a b = a
cond_all false xs ys a b = b

module _ {S : Type 0} (A : Auto S) (h : NeverReturns A) where
  abbrev Away : S → Type 0
  Away s = s ≢ A.start

  step_away : (s : S) (l : Letter) → AllIn (λ m. Away m.to) (listed (A.step s l))
  step_away s l m i = by (A.step s l) refl i
    where
      by : (o : Option (Move S)) → A.step s l ≡ o → In m (listed o) → Away m.to
      by None e i = absurd i
      by (Some n) e (inl p) = subst (λ w. Away w.to) p (h s l n e)
      by (Some n) e (inr j) = absurd j

  part_away : (o : Option S) (l : Letter) → AllIn (λ m. Away m.to) (part_moves A l o)
  part_away None l = λ m i. absurd i
  part_away (Some s) l = step_away s l

  round_away : (base : ℕ) (s : S) (l : Letter) → AllIn (λ m. Away m.to) (round_step A base s l)
  round_away base s l = cond_all (is_start A s) _ _ (mapped_all Away (restamped base) (λ m. refl) (listed (A.step s l)) (step_away s l)) (step_away s l)

  member_away : (base : ℕ) (l : Letter) (s : S) → AllIn (λ m. Away m.to) (member_steps A base l s)
  member_away base l s = append_all (round_step A base s l) _ (round_away base s l)
      (cond_all (A.final s) _ [] (mapped_all Away (carrying (A.out s)) (λ m. refl) (round_step A base A.start l) (round_away base A.start l)) (λ m i. absurd i))

  pub star_never : IsOrder A.order → (base : ℕ) → NeverReturns (star_auto A base)
  star_never o base c l m e = settle_to Away Away (λ d. d ≢ A.start ∷ []) (λ ss ts. set_of A.order ts) [] (flat_map (member_steps A base l) c) m
      (λ ss ts a b same. b A.start (In-set_of_from o A.start ts (subst (In A.start) (sym same) (inl refl))) refl)
      (λ n i. absurd i)
      (λ n i. let r = In-flat_map_from (member_steps A base l) n c i in member_away base l r.0 n r.2) e

  pub both_never : {T : Type 0} (B : Auto T) (test : Bool → Bool → Bool) → NeverReturns (both_auto A B test)
  both_never B test c l m e = settle_to Away (λ t. Unit {0}) (λ d. d ≢ (Some A.start, Some B.start)) (λ ss ts. (first ss, first ts)) (part_moves A l c.0) (part_moves B l c.1) m
      (λ ss ts a b same. first_all Away A.start ss a (ap (λ w. w.0) same) refl)
      (part_away c.0 l) (λ n i. tt) e

  pub cat_never : {T : Type 0} (B : Auto T) → NeverReturns (cat_auto A B)
  cat_never B c l m e = settle_to Away (λ t. Unit {0}) (λ d. d ≢ (Some A.start, [])) (λ ss ts. (first ss, set_of B.order ts)) (part_moves A l c.0) (right_moves A B c l) m
      (λ ss ts a b same. first_all Away A.start ss a (ap (λ w. w.0) same) refl)
      (part_away c.0 l) (λ n i. tt) e

  enter_never : (x : Carry) → NeverReturns (enter_auto A x)
  enter_never x = leads_on A (enter_auto A x) refl (enter_leads A x) h

  finish_never : (x : Carry) → NeverReturns (finish_auto A x)
  finish_never x = leads_on A (finish_auto A x) refl (finish_leads A x) h

  every_never : (x : Carry) → NeverReturns (every_auto A x)
  every_never x = leads_on A (every_auto A x) refl (every_leads A x) h

  pruned_never : (live : S → Bool) → NeverReturns (pruned live A)
  pruned_never live = leads_on A (pruned live A) refl (live_leads A live) h

  when_never : (c : ℕ) → NeverReturns (when_auto c A)
  when_never c = leads_on A (when_auto c A) refl (guard_leads A c) h

set_never : (ranges : List Range) → NeverReturns (set_auto ranges)
set_never ranges c l m e same = by (not c && list_any (in_range l.key) ranges) e
  where
    by : (b : Bool) → cond b (Some (record { to = true; carry = no_carry })) None ≡ Some m → ⊥
    by true e = true≢false (ap (λ w. w.to) (some_in (record { to = true; carry = no_carry }) m e) ∙ same)
    by false e = none_in m e

pub never_returns : (t : Node) (k : Marks t) → NeverReturns (auto t k)
never_returns (N.Set ranges) k = set_never ranges
never_returns N.Null k = λ c l m e. none_in m e
never_returns N.Nothing k = λ c l m e. none_in m e
never_returns (N.Union a b) k = both_never (auto a k.0) (never_returns a k.0) (auto b k.1) (λ p q. p || q)
never_returns (N.And a b) k = pruned_never (and_auto (auto a k.0) (auto b k.1)) (both_never (auto a k.0) (never_returns a k.0) (auto b k.1) (λ p q. p && q)) k.2
never_returns (N.Minus a b) k = pruned_never (minus_auto (auto a k.0) (auto b k.1)) (both_never (auto a k.0) (never_returns a k.0) (auto b k.1) (λ p q. p && not q)) k.2
never_returns (N.Cat a b) k = cat_never (auto a k.0) (never_returns a k.0) (auto b k.1)
never_returns (N.Star a n) k = star_never (auto a k) (never_returns a k) (auto_order a k) n
never_returns (N.Enter a l) k = enter_never (auto a k) (never_returns a k) (carry_of l)
never_returns (N.Finish a l) k = finish_never (auto a k) (never_returns a k) (carry_of l)
never_returns (N.All a l) k = every_never (auto a k) (never_returns a k) (carry_of l)
never_returns (N.Leave a l) k = never_returns a k
never_returns (N.Mark a class kind s x) k = never_returns a k
never_returns (N.When a c) k = when_never (auto a k) (never_returns a k) c

pub scan_never : (ps : List Pattern) (k : PatternMarks ps) → NeverReturns (scan_auto ps k)
scan_never [] k c l m e same = none_in m e
scan_never (p ∷ ps) k c l m e same =
    let A = auto p.tree k.0 in
    let all = all_carried (p ∷ ps) k c l in
    let to = step_to_to (kept_confs (p ∷ ps) k all c l) (kept_carries (p ∷ ps) k all c l) m e in
    first_all (λ s. s ≢ A.start) A.start (targets (kept all (part_moves A l c.0)))
    (targets_all (λ s. s ≢ A.start) (kept all (part_moves A l c.0)) (kept_all (λ n. n.to ≢ A.start) all (part_moves A l c.0) (part_away A (never_returns p.tree k.0) c.0 l)))
    (ap (λ w. w.0) (to ∙ same)) refl
