-- The machine of valid arrays keeps the rules on kinds, and its look-ups lead to states and entries that exist.
use Rattle.std.proofs.Common.{◌≡◌, ◌≢◌, ℕ, zero, suc, ◌+◌, ◌<◌, ◌≤◌, Bool, true, false, List, [], ◌∷◌, length, Some, None, refl, sym, ◌∙◌, ap, subst, arith, nat_lt, nat_le, nat_eq}
use Rattle.std.proofs.lemmas.Bool.Decides.{nat_tests}
use Rattle.std.proofs.lemmas.Int.{ints}
use Rattle.std.proofs.lemmas.Option.{slice_get_past}
use Rattle.std.specs.Prelude.{ℤ, pos, ◌≤ℤ◌, ◌==◌, slice_get, if◌then◌else◌}
use Rattle.std.specs.List.{AllByRecursion, Contains}
use Rattle.rl_types.specs.declared.numbers.Key.{Key}
use Rattle.rl_run.specs.Machine.{Go}
use Rattle.rl_run.specs.Fine.{IsKinded}
use Rattle.rl_arrays.specs.declared.arrays.Arrays.{Arrays}
use Rattle.rl_arrays.specs.declared.arrays.ArrayName.TheVariants as the
use Rattle.rl_arrays.specs.Words.{natural, number_at, IsBetween}
use Rattle.rl_arrays.specs.Sizes.{states, IsEntryOf}
use Rattle.rl_arrays.specs.Lists.{members}
use Rattle.rl_arrays.specs.Statements.{statement}
use Rattle.rl_arrays.specs.Rules.{KindSays, HomeSays, IsHome, HasKind, MayHaveKind, TargetSays, EndListSays, EntrySays, LengthSays, ActionSays, CountSays, IsState}
use Rattle.rl_arrays.specs.Valid.{Valid}
use Rattle.rl_arrays.specs.TableMachine.{machine, find, step_of, entry_of, cell_of}
use Rattle.rl_tables.proofs.Elements.{right, has-due, element, if_at, is_at, number-at, number_none, nonneg, between, is_between}
use Rattle.rl_tables.proofs.Totals.{total, total-suc}
use Rattle.rl_tables.proofs.Places.{then_some, map_some, uses, cell_is, entry_is}

module _ (a : Arrays) (valid : Valid a) where
  -- what is said of a state's kind
  kind_says : (s : ℕ) → s < states a → (k : ℤ) × (slice_get a.state_kinds s ≡ Some k) × KindSays a s k
  kind_says s h =
      let r = right a valid the.StateKinds s h in
      let k = element a.state_kinds s r.there in
      (k.0, k.1, if_at a.state_kinds s k.0 (KindSays a s) k.1 r.says)

  -- a state that does not exist has kind 0
  kind_past : (s : ℕ) → states a ≤ s → number_at a.state_kinds s ≡ 0
  kind_past s h = let e = has-due a valid the.StateKinds in number_none a.state_kinds s (slice_get_past a.state_kinds s (omega arith))

  there : (s : ℕ) → 1 ≤ number_at a.state_kinds s → s < states a
  there s h = go (nat_lt s (states a)) refl
    where
      go : (b : Bool) → nat_lt s (states a) ≡ b → s < states a
      go true e = grind (arith, nat_tests)
      go false e = let past : states a ≤ s = grind (arith, nat_tests) in let none = kind_past s past in absurd (omega arith)

  has_kind : (s low high : ℕ) → s < states a → low ≤ number_at a.state_kinds s → number_at a.state_kinds s ≤ high → HasKind a s low high
  has_kind s low high h l u =
      let k = kind_says s h in
      let n = number-at a.state_kinds s k.0 k.1 in
      let positive : pos 0 ≤ℤ k.0 = k.2.known.0 in
      is_at a.state_kinds s k.0 (IsBetween low high) k.1 (is_between low high k.0 positive (omega (arith, n, l)) (omega (arith, n, u)))

  may_have : (s low high : ℕ) → s < states a → MayHaveKind a s low high → (low ≤ number_at a.state_kinds s) × (number_at a.state_kinds s ≤ high)
  may_have s low high h p =
      let k = kind_says s h in
      let n = number-at a.state_kinds s k.0 k.1 in
      let b = between low high k.0 (if_at a.state_kinds s k.0 (IsBetween low high) k.1 p) in
      (omega (arith, n, b.0), omega (arith, n, b.1))

  pub kind_most : (s : ℕ) → number_at a.state_kinds s ≤ 4
  kind_most s = go (nat_lt s (states a)) refl
    where
      go : (b : Bool) → nat_lt s (states a) ≡ b → number_at a.state_kinds s ≤ 4
      go true e =
          let k = kind_says s (grind (arith, nat_tests)) in
          let n = number-at a.state_kinds s k.0 k.1 in
          let b = between 0 4 k.0 k.2.known in
          omega (arith, n, b.1)
      go false e = let none = kind_past s (grind (arith, nat_tests)) in omega arith

  -- a number of a state
  pub state_is : (z : ℤ) → IsState a z → natural z < states a
  state_is z h =
      let e = nonneg z h.0 in
      let b = h.1 in
      omega (arith, ints)

  -- the entry of a step
  pub record IsStepOf (s e : ℕ) (g : Go ℕ) : Type 0 where
    pub entry : IsEntryOf a s e
    pub within : e < length a.trans_targs
    pub target : ℤ
    pub target_is : slice_get a.trans_targs e ≡ Some target
    pub same : g.target ≡ natural target
    pub moves : target ≢ pos 0
    pub says : TargetSays a e target
    pub list : g.list ≡ members a.actions (number_at a.trans_lists e)

  pub step_is : (s : ℕ) (key : ℤ) (hold : ℕ) (g : Go ℕ) → find a s key hold ≡ Some g → (e : ℕ) × IsStepOf s e g
  step_is s key hold g f =
      let x = then_some (step_of a) (entry_of a s key hold) g f in
      let i = entry_is a valid s key hold x.0 x.1 in
      let r = right a valid the.TransTargs x.0 (let w = has-due a valid the.TransTargs in omega (arith, w, i.1)) in
      let t = element a.trans_targs x.0 i.1 in
      let n = number-at a.trans_targs x.0 t.0 t.1 in
      (x.0, made x.0 i.0 i.1 t.0 t.1 n (if_at a.trans_targs x.0 t.0 (TargetSays a x.0) t.1 r.says) x.2)
    where
      inside : (u v : Go ℕ) → Some u ≡ Some v → u ≡ v
      inside u v e = cc

      made : (e : ℕ) → IsEntryOf a s e → e < length a.trans_targs → (t : ℤ) → slice_get a.trans_targs e ≡ Some t → number_at a.trans_targs e ≡ natural t → TargetSays a e t →
          step_of a e ≡ Some g → IsStepOf s e g
      made e entry within t at n says f = go (number_at a.trans_targs e == 0) refl f
        where
          go : (b : Bool) → (number_at a.trans_targs e == 0) ≡ b →
              (if b then None else Some (record { target = number_at a.trans_targs e; list = members a.actions (number_at a.trans_lists e) })) ≡ Some g → IsStepOf s e g
          go true c f = absurd (no f)
            where
              no : None ≡ Some g → ⊥
              no f = cc
          go false c f =
              let same = inside (record { target = number_at a.trans_targs e; list = members a.actions (number_at a.trans_lists e) }) g f in
              record {
                entry = entry;
                within = within;
                target = t;
                target_is = at;
                same = sym (ap (λ (v : Go ℕ). v.target) same) ∙ n;
                moves = λ z. let zero_target : number_at a.trans_targs e ≡ 0 = n ∙ ap natural z in grind (arith, nat_tests);
                says = says;
                list = sym (ap (λ (v : Go ℕ). v.list) same);
              }

  -- kind 4 has no keys
  kind_of_step : (s e : ℕ) (g : Go ℕ) (key : ℤ) (hold : ℕ) → find a s key hold ≡ Some g → 1 ≤ number_at a.state_kinds s → HasKind a s 1 3
  kind_of_step s e g key hold f h = go (nat_eq (number_at a.state_kinds s) 4) refl
    where
      most : number_at a.state_kinds s ≤ 4
      most = kind_most s

      go : (b : Bool) → nat_eq (number_at a.state_kinds s) 4 ≡ b → HasKind a s 1 3
      go false c = has_kind s 1 3 (there s h) h (let m = kind_most s in grind (arith, nat_tests))
      go true c =
          let four : number_at a.state_kinds s ≡ 4 = grind (arith, nat_tests) in
          let l = there s h in
          let closed : HasKind a s 4 4 = has_kind s 4 4 l (omega arith) (omega arith) in
          let r = right a valid the.SingleLengths s l in
          let x = element a.single_lengths s r.there in
          let no_single = (if_at a.single_lengths s x.0 (LengthSays a s) x.1 r.says).closed closed in
          let q = right a valid the.RangeLengths s l in
          let y = element a.range_lengths s q.there in
          let no_range = (if_at a.range_lengths s y.0 (LengthSays a s) y.1 q.says).closed closed in
          let m : number_at a.single_lengths s ≡ 0 = number-at a.single_lengths s x.0 x.1 ∙ ap natural no_single in
          let n : number_at a.range_lengths s ≡ 0 = number-at a.range_lengths s y.0 y.1 ∙ ap natural no_range in
          let found = then_some (step_of a) (entry_of a s key hold) g f in
          let c = map_some _ (cell_of a s key) found.0 found.1 in
          let within = cell_is a valid s key c.0 c.1 in
          absurd (none within.place m n within.from within.to)
        where
          none : (p : ℕ) → number_at a.single_lengths s ≡ 0 → number_at a.range_lengths s ≡ 0 → total (uses a valid) s ≤ p → p < total (uses a valid) (s + 1) → ⊥
          none p m n low high = let next = total-suc (uses a valid) s in omega arith

  target_there : (s e : ℕ) (g : Go ℕ) → IsStepOf s e g → g.target < states a
  target_there s e g x = let n = state_is x.target x.says.state in let same = x.same in omega arith

  pub plain : (s : ℕ) (key : ℤ) (hold : ℕ) (g : Go ℕ) → find a s key hold ≡ Some g → number_at a.state_kinds s ≡ 0 → number_at a.state_kinds g.target ≡ 0
  plain s key hold g f z =
      let x = step_is s key hold g f in
      let l = x.1.entry.state in
      let kinds = x.1.says.kinds s x.1.entry in
      let target = kinds.plain (has_kind s 0 0 l (omega arith) (omega arith)) in
      let here = target_there s x.0 g x.1 in
      let says : MayHaveKind a g.target 0 0 = subst (λ k. MayHaveKind a k 0 0) (sym x.1.same) target in
      let b = may_have g.target 0 0 here says in
      omega (arith, b.1)

  pub inner : (s : ℕ) (key : ℤ) (hold : ℕ) (g : Go ℕ) → find a s key hold ≡ Some g → 1 ≤ number_at a.state_kinds s → 2 ≤ number_at a.state_kinds g.target
  inner s key hold g f h =
      let x = step_is s key hold g f in
      let kinds = x.1.says.kinds s x.1.entry in
      let target = kinds.inner (kind_of_step s x.0 g key hold f h) x.1.moves in
      let here = target_there s x.0 g x.1 in
      let says : MayHaveKind a g.target 2 4 = subst (λ k. MayHaveKind a k 2 4) (sym x.1.same) target in
      (may_have g.target 2 4 here says).0

  -- an action without statements
  no_statement : (k n : ℕ) → number_at a.stmt_counts k ≡ 0 → statement a k n ≡ None
  no_statement k n z = go (nat_le 1 n) refl (nat_le n (number_at a.stmt_counts k)) refl
    where
      go : (b : Bool) → nat_le 1 n ≡ b → (c : Bool) → nat_le n (number_at a.stmt_counts k) ≡ c → statement a k n ≡ None
      go false e c f = rw e refl
      go true e false f = rw (e, f) refl
      go true e true f =
          let low : 1 ≤ n = grind (arith, nat_tests) in
          let high : n ≤ number_at a.stmt_counts k = grind (arith, nat_tests) in
          absurd (omega arith)

  -- what each action of a list has
  each : (P : ℕ → Type 0) (list : List ℕ) → ((k : ℕ) → Contains list k → P k) → AllByRecursion P list
  each P [] h = tt
  each P (x ∷ list) h = (h x (0, omega arith, refl), each P list (λ k c. h k (suc c.0, omega (arith, c.1), c.2)))

  -- the number of statements of an action that stands in a list inside a scanner
  no_count : (k : ℕ) → ((count : ℤ) → CountSays a k count → count ≡ pos 0) → number_at a.stmt_counts k ≡ 0
  no_count k says = go (nat_lt k (length a.stmt_counts)) refl
    where
      go : (b : Bool) → nat_lt k (length a.stmt_counts) ≡ b → number_at a.stmt_counts k ≡ 0
      go false e = number_none a.stmt_counts k (slice_get_past a.stmt_counts k (grind (arith, nat_tests)))
      go true e =
          let here : k < length a.stmt_counts = grind (arith, nat_tests) in
          let due = has-due a valid the.StmtCounts in
          let r = right a valid the.StmtCounts k (omega arith) in
          let x = element a.stmt_counts k here in
          number-at a.stmt_counts k x.0 x.1 ∙ ap natural (says x.0 (if_at a.stmt_counts k x.0 (CountSays a k) x.1 r.says))

  pub quiet : (s : ℕ) (key : ℤ) (hold : ℕ) (g : Go ℕ) → find a s key hold ≡ Some g → 1 ≤ number_at a.state_kinds s → AllByRecursion (λ k. (n : ℕ) → statement a k n ≡ None) g.list
  quiet s key hold g f h =
      let x = step_is s key hold g f in
      let kind = kind_of_step s x.0 g key hold f h in
      let due = has-due a valid the.TransLists in
      let whole = has-due a valid the.TransTargs in
      let l = element a.trans_lists x.0 (omega (arith, x.1.within)) in
      let n = number-at a.trans_lists x.0 l.0 l.1 in
      let list : g.list ≡ members a.actions (natural l.0) = x.1.list ∙ ap (members a.actions) n in
      subst (AllByRecursion (λ k. (n : ℕ) → statement a k n ≡ None)) (sym list)
      (each (λ k. (n : ℕ) → statement a k n ≡ None) (members a.actions (natural l.0))
      (λ k c n. no_statement k n (no_count k (λ count says. says.inner s x.0 x.1.entry kind (is_at a.trans_lists x.0 l.0 (λ number. Contains (members a.actions (natural number)) k) l.1 c)))))

  -- the empty list
  pub empty_list : members a.actions 0 ≡ []
  empty_list =
      let r = right a valid the.Actions 0 (omega arith) in
      let x = element a.actions 0 r.there in
      let zero_length = (if_at a.actions 0 x.0 (ActionSays a 0) x.1 r.says).empty refl in
      let n : number_at a.actions 0 ≡ 0 = number-at a.actions 0 x.0 x.1 ∙ ap natural zero_length in
      rw n refl

  pub no_error : (s : ℕ) → 1 ≤ number_at a.state_kinds s → members a.actions (number_at a.error_lists s) ≡ []
  no_error s h =
      let l = there s h in
      let r = right a valid the.ErrorLists s l in
      let x = element a.error_lists s r.there in
      let none = (if_at a.error_lists s x.0 (EndListSays a s) x.1 r.says).scanner (has_kind s 1 4 l h (kind_most s)) in
      let n : number_at a.error_lists s ≡ 0 = number-at a.error_lists s x.0 x.1 ∙ ap natural none in
      rw n empty_list

  pub home_says : (s : ℕ) → s < states a → 1 ≤ number_at a.state_kinds s → (z : ℤ) × (number_at a.homes s ≡ natural z) × IsHome a z
  home_says s l h =
      let r = right a valid the.Homes s l in
      let x = element a.homes s r.there in
      (x.0, number-at a.homes s x.0 x.1, (if_at a.homes s x.0 (HomeSays a s) x.1 r.says).scanner (has_kind s 1 4 l h (kind_most s)))

  pub home : (s : ℕ) → 1 ≤ number_at a.state_kinds s → number_at a.state_kinds (number_at a.homes s) ≡ 1
  home s h =
      let x = home_says s (there s h) h in
      let n = state_is x.0 x.2.state in
      let b = may_have (natural x.0) 1 1 n x.2.start in
      let one : number_at a.state_kinds (natural x.0) ≡ 1 = omega (arith, b.0, b.1) in
      subst (λ k. number_at a.state_kinds k ≡ 1) (sym x.1) one

  pub error_kind : number_at a.state_kinds 0 ≡ 0
  error_kind = go (nat_lt 0 (states a)) refl
    where
      go : (b : Bool) → nat_lt 0 (states a) ≡ b → number_at a.state_kinds 0 ≡ 0
      go true e =
          let k = kind_says 0 (grind (arith, nat_tests)) in
          number-at a.state_kinds 0 k.0 k.1 ∙ ap natural (k.2.error refl)
      go false e = kind_past 0 (grind (arith, nat_tests))

  pub no_entry : number_at a.entry_states 0 ≡ 0
  no_entry =
      let due = has-due a valid the.EntryStates in
      let names = has-due a valid the.EntryNames in
      let x = element a.entry_states 0 (omega arith) in
      let r = right a valid the.EntryStates 0 (omega arith) in
      number-at a.entry_states 0 x.0 x.1 ∙ ap natural ((if_at a.entry_states 0 x.0 (EntrySays a 0) x.1 r.says).none refl)

  pub entry_says : (e : ℕ) → 0 < e → e < length a.entry_states → (z : ℤ) × (number_at a.entry_states e ≡ natural z) × EntrySays a e z
  entry_says e h l =
      let due = has-due a valid the.EntryStates in
      let x = element a.entry_states e l in
      let r = right a valid the.EntryStates e (omega arith) in
      (x.0, number-at a.entry_states e x.0 x.1, if_at a.entry_states e x.0 (EntrySays a e) x.1 r.says)

  pub entry : (e : ℕ) → number_at a.state_kinds (number_at a.entry_states e) ≤ 1
  entry zero = subst (λ k. number_at a.state_kinds k ≤ 1) (sym no_entry) (omega (arith, error_kind))
  entry (suc e) = go (nat_lt (suc e) (length a.entry_states)) refl
    where
      go : (b : Bool) → nat_lt (suc e) (length a.entry_states) ≡ b → number_at a.state_kinds (number_at a.entry_states (suc e)) ≤ 1
      go true f =
          let x = entry_says (suc e) (omega arith) (grind (arith, nat_tests)) in
          let n = state_is x.0 (x.2.state_is (omega arith)) in
          let b = may_have (natural x.0) 0 1 n (x.2.kind (omega arith)) in
          subst (λ k. number_at a.state_kinds k ≤ 1) (sym x.1) b.1
      go false f =
          let none = number_none a.entry_states (suc e) (slice_get_past a.entry_states (suc e) (grind (arith, nat_tests))) in
          subst (λ k. number_at a.state_kinds k ≤ 1) (sym none) (omega (arith, error_kind))

  pub is_kinded : IsKinded (machine a)
  unfolding machine
  is_kinded = record {
    plain = λ s key hold g f z. plain s key.0 hold g f z;
    inner = λ s key hold g f h. inner s key.0 hold g f h;
    quiet = λ s key hold g f h. quiet s key.0 hold g f h;
    no_error = λ s h. no_error s h;
    home = λ s h. home s h;
    entry = λ e. entry e;
    failed = error_kind;
    is_failed = refl;
  }

  -- look-ups lead to states that exist
  pub target_exists : (s : ℕ) (key : Key) (hold : ℕ) (g : Go ℕ) → (machine a).find s key hold ≡ Some g → g.target < states a
  unfolding machine
  target_exists s key hold g f = let x = step_is s key.0 hold g f in target_there s x.0 g x.1

  pub some_states : 2 ≤ states a
  some_states = let e = has-due a valid the.KeyOffsets in omega arith
