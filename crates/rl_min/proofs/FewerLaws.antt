-- No machine whose entries are alike has fewer states.
use Rattle.std.proofs.Common.{◌≡◌, ℕ, zero, suc, ◌==◌, ◌+◌, ◌<◌, ◌≤◌, Bool, true, false, cond, List, [], ◌∷◌, ◌⊎◌, length, Option, Some, None, option_map, IsTrue, refl, ap, sym, ◌∙◌, subst, inl, inr, arith, true≢false}
use Rattle.std.specs.List.{range_with_len}
use Rattle.std.proofs.lemmas.Bool.{cases_lt}
use Rattle.std.proofs.lemmas.List.FromFn.{length-range_with_len}
use borrow.Author.Tests.{eqb-true, ne_eqb}
use Rattle.rl_types.specs.declared.numbers.Letter.{Letter}
use Rattle.rl_types.specs.declared.numbers.Key.{Key}
use Rattle.rl_sets.specs.Sets.{In}
use Rattle.rl_automata.specs.declared.moves.Move.{Move}
use Rattle.rl_automata.specs.Follows.{Reach}
use Rattle.rl_automata.specs.Refused.{AreDifferent}
use Rattle.rl_automata.proofs.Congruence.{reach_all}
use Rattle.rl_explore.proofs.ExploredLaws.{different_within}
use Rattle.rl_fsm.specs.declared.root.EntryFsm.{EntryFsm}
use Rattle.rl_fsm.specs.Roots.{auto_at}
use Rattle.rl_run.specs.Machine.{Go, Machine}
use Rattle.rl_run.specs.Twin.{GoR}
use Rattle.rl_run.specs.Classes as C
use Rattle.rl_run.specs.Classes.{InClass}
use Rattle.rl_model.specs.Parts.{Context, go_at, start_at}
use Rattle.rl_root.specs.Roots.{RootState, part_at, root_machine, IsBuilt}
use Rattle.rl_minimal.specs.Minimal.{Minimal}
use Rattle.rl_minimal.specs.Machine.{min_machine}
use Rattle.rl_minimal.specs.Sound.{IsMinimal}
use Rattle.rl_reach.specs.Canonical.{IsMachineOf}
use Rattle.rl_reach.proofs.WalkLaws.{entry_from, in_range_to}
use Rattle.rl_min.specs.Least.{IsLeastOf}
use Rattle.rl_min.specs.Fewest.{ShowSame, BothStep, AgreeAlong, AreAlike, HaveAlikeEntries}
use Rattle.rl_min.proofs.ReachedLaws.{states_reached}

-- ---- one number for each of so many

module _ (P : ℕ → ℕ → Type 0) (apart : (k i j : ℕ) → P k j → P i j → k ≡ i) where
  record Chosen (n : ℕ) : Type 0 where
    numbers : List ℕ
    count : length numbers ≡ n
    differ : AreDifferent numbers
    of : (j : ℕ) → In j numbers → (k : ℕ) × (k < n) × P k j

  chosen : (n : ℕ) → ((k : ℕ) → k < n → (j : ℕ) × P k j) → Chosen n
  chosen zero h = record { numbers = []; count = refl; differ = tt; of = λ j i. absurd i }
  chosen (suc n) h = by (h n (omega arith)) (chosen n (λ k l. h k (omega arith)))
    where
      by : (j : ℕ) × P n j → Chosen n → Chosen (suc n)
      by x r = record {
        numbers = x.0 ∷ r.numbers;
        count = ap suc r.count;
        differ = ((λ i. let o = r.of x.0 i in let same : o.0 ≡ n = apart o.0 n x.0 o.2 x.1 in let l : o.0 < n = o.1 in absurd (omega arith)), r.differ);
        of = λ j i. elim i [
          | inl e ↦ (n, omega arith, subst (P n) e x.1)
          | inr q ↦ let o = r.of j q in let l : o.0 < n = o.1 in (o.0, omega arith, o.2)
        ];
      }

  pub no_fewer : (n most : ℕ) → ((k : ℕ) → k < n → (j : ℕ) × P k j) → ((k j : ℕ) → P k j → j < most) → n ≤ most
  no_fewer n most h low =
      let r = chosen n h in
      let le : length r.numbers ≤ length (range_with_len 0 most) = different_within r.numbers (range_with_len 0 most) r.differ (λ j i. let o = r.of j i in subst (λ k. In k (range_with_len 0 most)) (zero_plus j) (in_range_to 0 most j (low o.0 j o.2))) in
      let count : length r.numbers ≡ n = r.count in
      let all : length (range_with_len 0 most) ≡ most = length-range_with_len 0 most in
      omega arith
    where
      zero_plus : (j : ℕ) → 0 + j ≡ j
      zero_plus j = omega arith

-- ---- states that are alike to one state

module _ {S T : Type 0} (m : Machine S) (w : Machine T) where
  show_both : (q f : S) (p : T) → ShowSame m w q p → ShowSame m w f p → C.ShowSame m q f
  show_both q f p a b = record {
    asked = λ key. sym (b.asked key) ∙ a.asked key;
    from = sym b.from ∙ a.from;
    to = sym b.to ∙ a.to;
    error = sym b.error ∙ a.error;
    eof = sym b.eof ∙ a.eof;
    token = sym b.token ∙ a.token;
    kind = sym b.kind ∙ a.kind;
    final = sym b.final ∙ a.final;
    is_failed = sym b.is_failed ∙ a.is_failed;
  }

  agree_both : (word : List (Key × ℕ)) (q f : S) (p : T) → AgreeAlong m w word q p → AgreeAlong m w word f p → C.AgreeAlong m word q f
  agree_both [] q f p a b = show_both q f p a b
  agree_both (l ∷ word) q f p a b = go (λ x y u r s. agree_both word x y u r s) (m.find q l.0 l.1) (m.find f l.0 l.1) (w.find p l.0 l.1) a b
    where
      go : ((x y : S) (u : T) → AgreeAlong m w word x u → AgreeAlong m w word y u → C.AgreeAlong m word x y) → (x y : Option (Go S)) (u : Option (Go T)) → BothStep m w (AgreeAlong m w word) x u → BothStep m w (AgreeAlong m w word) y u → C.BothStep m (C.AgreeAlong m word) x y
      go on None None None a b = tt
      go on None None (Some u) a b = absurd a
      go on None (Some y) None a b = absurd b
      go on None (Some y) (Some u) a b = absurd a
      go on (Some x) None None a b = absurd a
      go on (Some x) None (Some u) a b = absurd b
      go on (Some x) (Some y) None a b = absurd a
      go on (Some x) (Some y) (Some u) a b = (sym b.0 ∙ a.0, on x.target y.target u.target a.1 b.1)

  alike_both : (q f : S) (p : T) → AreAlike m w q p → AreAlike m w f p → C.AreAlike m q f
  alike_both q f p a b = ((λ word. agree_both word q f p (a.0 word) (b.0 word)), (λ word. agree_both word (m.home q) (m.home f) (w.home p) (a.1 word) (b.1 word)))

module _ (entries : List EntryFsm) (m : Minimal) (least : IsLeastOf entries m) (minimal : IsMinimal m) (other : Minimal) (sound : IsMinimal other) (context : Context) (alike : HaveAlikeEntries (length entries) m other context) where
  abbrev is : IsMachineOf entries m
  is = least.machine

  abbrev M : Machine ℕ
  M = min_machine m context

  abbrev W : Machine ℕ
  W = min_machine other context

  abbrev root : Machine RootState
  root = root_machine entries context

  -- a state of the other machine that is alike
  abbrev HasLike : ℕ → Type 0
  HasLike i = (j : ℕ) × (j < length other.states) × AreAlike M W i j

  step_like : (i : ℕ) (l : Key × ℕ) (g : Go ℕ) → i < length m.states → M.find i l.0 l.1 ≡ Some g → HasLike i → HasLike g.target
  step_like i l g inside e h = by (W.find h.0 l.0 l.1) refl (λ word. subst (λ o. BothStep M W (AgreeAlong M W word) o (W.find h.0 l.0 l.1)) e (h.2.0 (l ∷ word)))
    where
      by : (o : Option (Go ℕ)) → W.find h.0 l.0 l.1 ≡ o → ((word : List (Key × ℕ)) → BothStep M W (AgreeAlong M W word) (Some g) o) → HasLike g.target
      by None f a = absurd (a [])
      by (Some x) f a =
          let s = (states_reached m minimal context).steps i l.0 l.1 g inside e in
          let t = (states_reached other sound context).steps h.0 l.0 l.1 x h.1 f in
          (x.target, t.0, ((λ word. (a word).1), (λ word. subst (λ k. AgreeAlong M W word k (W.home x.target)) (sym s.1) (subst (λ k. AgreeAlong M W word (M.home i) k) (sym t.1) (h.2.1 word)))))

  -- a state that is reached, and one that is alike to it
  abbrev Fine : ℕ → Type 0
  Fine i = (i < length m.states) × HasLike i

  next_fine : (i : ℕ) (l : Key × ℕ) (g : Go RootState) (o : Option (Go ℕ)) → M.find i l.0 l.1 ≡ o → Fine i → GoR root M (λ a. a) (InClass root is.class (IsBuilt entries)) (Some g) o → Fine (is.class g.target)
  next_fine i l g None e h r = absurd r
  next_fine i l g (Some x) e h r = subst Fine r.0.0 (((states_reached m minimal context).steps i l.0 l.1 x h.0 e).0, step_like i l x h.0 e h.1)

  built_fine : (e i : ℕ) → IsBuilt entries (Some (e, i)) → Fine (is.class (Some (e, i)))
  built_fine e i b = reach_all (λ j. Fine (is.class (Some (e, j)))) start further i b.1
    where
      start : Fine (is.class (Some (e, (auto_at entries e).start)))
      start =
          let n = entry_from (length entries) e b.0 in
          let entry_is : root.entry e ≡ Some (e, (auto_at entries e).start) = ap (λ t. cond t (start_at (λ e. ℕ) (part_at entries) e) None) b.0 in
          let here : Fine (M.entry e) = ((states_reached m minimal context).entries e, (W.entry e, (states_reached other sound context).entries e, alike e n.0 n.1)) in
          subst (λ q. Fine (is.class q)) entry_is (subst Fine ((is.twin context).entry e).0 here)

      further : (j : ℕ) → Reach (auto_at entries e) j → Fine (is.class (Some (e, j))) → (l : Letter) (v : Move ℕ) → (auto_at entries e).step j l ≡ Some v → Fine (is.class (Some (e, v.to)))
      further j r h l v s =
          let k : Key × ℕ = (record { 0 = l.key }, l.truths) in
          let g = go_at (λ e. ℕ) (part_at entries) e v in
          let found : root.find (Some (e, j)) k.0 k.1 ≡ Some g = ap (option_map (go_at (λ e. ℕ) (part_at entries) e)) s in
          let q : RootState = Some (e, j) in
          next_fine (is.class q) k g (M.find (is.class q) k.0 k.1) refl h (subst (λ o. GoR root M (λ a. a) (InClass root is.class (IsBuilt entries)) o (M.find (is.class q) k.0 k.1)) found ((is.twin context).find q (is.class q) k.0 k.1 (refl, (b.0, r))))

  -- ---- each state has one of its own

  pub record Stands (k j : ℕ) : Type 0 where
    pub there : j < length other.states
    pub inside : k < length m.states
    pub failed : (j == 0) ≡ (k == 0)
    pub like : 0 < k → AreAlike M W k j

  zero_stands : Stands 0 0
  zero_stands = record { there = (states_reached other sound context).failed; inside = (states_reached m minimal context).failed; failed = refl; like = λ l. absurd (omega arith) }

  fine_stands : (k : ℕ) → Fine k → (j : ℕ) × Stands k j
  fine_stands k h = (h.1.0, record { there = h.1.1; inside = h.0; failed = (h.1.2.0 []).is_failed; like = λ l. h.1.2 })

  built_stands : (q : RootState) → IsBuilt entries q → (j : ℕ) × Stands (is.class q) j
  built_stands None b = subst (λ k. (j : ℕ) × Stands k j) ((is.twin context).failed.0) (0, zero_stands)
  built_stands (Some (e, i)) b = fine_stands (is.class (Some (e, i))) (built_fine e i b)

  some_stands : (k : ℕ) → k < length m.states → (j : ℕ) × Stands k j
  some_stands k h = let u = is.used k h in subst (λ n. (j : ℕ) × Stands n j) u.2 (built_stands u.0 u.1)

  apart : (k i j : ℕ) → Stands k j → Stands i j → k ≡ i
  apart k i j a b = elim (cases_lt 0 k) [
    | inr z ↦ let zero_is : k ≡ 0 = omega arith in let other_zero : (i == 0) ≡ true = sym b.failed ∙ a.failed ∙ ap (λ n. n == 0) zero_is in zero_is ∙ sym (eqb-true i 0 other_zero)
    | inl some ↦ elim (cases_lt 0 i) [
      | inr z ↦ let zero_is : i ≡ 0 = omega arith in let other_zero : (k == 0) ≡ true = sym a.failed ∙ b.failed ∙ ap (λ n. n == 0) zero_is in eqb-true k 0 other_zero ∙ sym zero_is
      | inl more ↦ least.unlike context k i a.inside b.inside (alike_both M W k i j (a.like some) (b.like more))
    ]
  ]

  pub fewest : length m.states ≤ length other.states
  fewest = no_fewer Stands apart (length m.states) (length other.states) some_stands (λ k j s. s.there)
