-- What is left of a call's own picks, statement by statement and pick by pick.
use Rattle.std.proofs.Common.{◌≡◌, ℕ, zero, suc, ◌+◌, ◌-◌, ◌<◌, ◌^◌, Bool, true, false, cond, List, [], ◌∷◌, ◌++◌, filter, filter_map, Option, Some, None, option_to_list, SomeIff, MatchOption, refl, sym, ◌∙◌, ap, arith}
use Rattle.std.specs.List.{cons_option, last_or}
use Rattle.rl_run.specs.declared.calls.Answer.{Answer}
use Rattle.rl_run.specs.declared.calls.Answer.TheVariants.{Yes}
use Rattle.rl_run.specs.declared.calls.Call.{Call}
use Rattle.rl_run.specs.declared.calls.Pick.{Pick}
use Rattle.rl_run.specs.declared.statements.Statement.{Statement}
use Rattle.rl_run.specs.Machine.{Machine}
use Rattle.rl_replay.specs.Host.{Numbered, statements_from, statements_of, up_to, ends_list, own_pick, picks_among, own_picks, four, own_answer, answer_to, host}
use Rattle.rl_replay.specs.OwnPicks.{picks_left, IsNext}

consed : {A : Type 0} (o : Option A) (xs : List A) → cons_option o xs ≡ option_to_list o ++ xs
consed None xs = refl
consed (Some x) xs = refl

module _ {S : Type 0} (m : Machine S) (c : Call) where
  abbrev action : ℕ
  action = c.action.0

  abbrev later : ℕ → List Numbered
  later n = statements_from m action (4294967296 - (n + 1)) (n + 1)

  abbrev at_statement : ℕ → Option Statement → List Numbered
  at_statement n o = elim o as (λ _. List Numbered) [ None ↦ [] | Some statement ↦ (n, statement) ∷ later n ]

  pub over : picks_left m c None ≡ []
  unfolding picks_left
  over = refl

  left_at : (n : ℕ) → n < 2 ^ 32 → picks_left m c (Some n) ≡ picks_among c (at_statement n (m.statement action n))
  unfolding picks_left statements_from
  left_at n h =
      let fuel : 4294967296 - n ≡ suc (4294967296 - (n + 1)) = omega arith in
      ap (λ most. picks_among c (statements_from m action most n)) fuel

  left_after : (n : ℕ) (o : Option ℕ) → n < 2 ^ 32 → SomeIff o (n + 1 < 2 ^ 32) (n + 1) → picks_among c (later n) ≡ picks_left m c o
  unfolding picks_left statements_from
  left_after n (Some k) h e = ap (λ j. picks_among c (statements_from m action (4294967296 - j) j)) (sym e.1)
  left_after n None h e =
      let fuel : 4294967296 - (n + 1) ≡ 0 = omega (arith, e) in
      ap (λ most. picks_among c (statements_from m action most (n + 1))) fuel

  module _ (n : ℕ) (h : n < 2 ^ 32) where
    pub no_statement : m.statement action n ≡ None → picks_left m c (Some n) ≡ picks_left m c None
    no_statement e = left_at n h ∙ ap (λ o. picks_among c (at_statement n o)) e ∙ sym over

    module _ (statement : Statement) (e : m.statement action n ≡ Some statement) where
      abbrev among : Bool → List Pick
      among outer = filter_map (own_pick c) (up_to (λ x. ends_list x.1.kind) (cond outer ((n, statement) ∷ filter (λ x. x.1.outer) (later n)) (filter (λ x. x.1.outer) (later n))))

      pub inner_statement : (o : Option ℕ) → statement.outer ≡ false → SomeIff o (n + 1 < 2 ^ 32) (n + 1) → picks_left m c (Some n) ≡ picks_left m c o
      inner_statement o f after = left_at n h ∙ ap (λ p. picks_among c (at_statement n p)) e ∙ ap among f ∙ left_after n o h after

      outer_statement : statement.outer ≡ true →
          picks_left m c (Some n) ≡ option_to_list (own_pick c (n, statement)) ++ filter_map (own_pick c) (cond (ends_list statement.kind) [] (up_to (λ x. ends_list x.1.kind) (filter (λ x. x.1.outer) (later n))))
      outer_statement f =
          left_at n h ∙ ap (λ p. picks_among c (at_statement n p)) e ∙ ap among f
          ∙ consed (own_pick c (n, statement)) (filter_map (own_pick c) (cond (ends_list statement.kind) [] (up_to (λ x. ends_list x.1.kind) (filter (λ x. x.1.outer) (later n)))))

      abbrev rest_by : Bool → List Pick
      rest_by ends = option_to_list (own_pick c (n, statement)) ++ filter_map (own_pick c) (cond ends [] (up_to (λ x. ends_list x.1.kind) (filter (λ x. x.1.outer) (later n))))

      pub last_statement : statement.outer ≡ true → ends_list statement.kind ≡ true → picks_left m c (Some n) ≡ option_to_list (own_pick c (n, statement)) ++ picks_left m c None
      last_statement f k = outer_statement f ∙ ap rest_by k ∙ ap (λ xs. option_to_list (own_pick c (n, statement)) ++ xs) (sym over)

      pub next_statement : (o : Option ℕ) → statement.outer ≡ true → ends_list statement.kind ≡ false → SomeIff o (n + 1 < 2 ^ 32) (n + 1) →
          picks_left m c (Some n) ≡ option_to_list (own_pick c (n, statement)) ++ picks_left m c o
      next_statement o f k after = outer_statement f ∙ ap rest_by k ∙ ap (λ xs. option_to_list (own_pick c (n, statement)) ++ xs) (left_after n o h after)

  -- all own picks are left at first
  pub all_left : own_picks m c ≡ picks_left m c (Some 1)
  unfolding picks_left statements_of
  all_left = refl

-- a pick, and what is left behind it
abbrev Taken : Option Pick → List Pick → List Pick → Type 0
Taken o list rest = MatchOption o ((list ≡ []) × (rest ≡ [])) (λ pick. list ≡ pick ∷ rest)

padded : ℕ → List Pick → List (Option Pick)
padded zero list = []
padded (suc n) [] = None ∷ padded n []
padded (suc n) (pick ∷ list) = Some pick ∷ padded n list

padded_taken : (n : ℕ) (o : Option Pick) (list rest : List Pick) → Taken o list rest → o ∷ padded n rest ≡ padded (suc n) list
unfolding padded
padded_taken n None list rest h = ap (λ xs. None ∷ padded n xs) h.1 ∙ sym (ap (padded (suc n)) h.0)
padded_taken n (Some pick) list rest h = sym (ap (padded (suc n)) h)

padded_four : (list : List Pick) → padded 4 list ≡ four list
unfolding padded
padded_four [] = refl
padded_four (a ∷ []) = refl
padded_four (a ∷ b ∷ []) = refl
padded_four (a ∷ b ∷ d ∷ []) = refl
padded_four (a ∷ b ∷ d ∷ e ∷ list) = refl

module _ {S : Type 0} (m : Machine S) (c : Call) where
  taken : (from : Option ℕ) (r : Option Pick × Option ℕ) → IsNext m c from r → Taken r.0 (picks_left m c from) (picks_left m c r.1)
  taken from (None, next) h = (h.0, ap (picks_left m c) h.1 ∙ over m c)
  taken from (Some pick, next) h = h

  pub four_taken : (r s t u : Option Pick × Option ℕ) → IsNext m c (Some 1) r → IsNext m c r.1 s → IsNext m c s.1 t → IsNext m c t.1 u →
      r.0 ∷ s.0 ∷ t.0 ∷ u.0 ∷ [] ≡ four (own_picks m c)
  unfolding padded
  four_taken r s t u a b d e =
      ap (λ xs. r.0 ∷ s.0 ∷ t.0 ∷ xs) (padded_taken 0 u.0 (picks_left m c t.1) (picks_left m c u.1) (taken t.1 u e))
      ∙ ap (λ xs. r.0 ∷ s.0 ∷ xs) (padded_taken 1 t.0 (picks_left m c s.1) (picks_left m c t.1) (taken s.1 t d))
      ∙ ap (λ xs. r.0 ∷ xs) (padded_taken 2 s.0 (picks_left m c r.1) (picks_left m c s.1) (taken r.1 s b))
      ∙ padded_taken 3 r.0 (picks_left m c (Some 1)) (picks_left m c r.1) (taken (Some 1) r a)
      ∙ padded_four (picks_left m c (Some 1)) ∙ ap four (sym (all_left m c))

last_is : (o : Option Call) (past : List Call) (c : Call) → last_or o (past ++ c ∷ []) ≡ Some c
last_is o [] c = refl
last_is o (d ∷ past) c = last_is (Some d) past c

pub own_host : {S : Type 0} (m : Machine S) (past : List Call) (c : Call) → own_answer m c ≡ host m [] (past ++ c ∷ [])
own_host m past c = sym (ap (λ o. elim o as (λ _. Answer) [ None ↦ Yes | Some d ↦ answer_to m [] (past ++ c ∷ []) d ]) (last_is None past c))
