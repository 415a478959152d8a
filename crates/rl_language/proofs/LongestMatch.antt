-- The last match on the way along a word is at the longest front of it that some pattern has.
use Rattle.std.proofs.Common.{◌≡◌, ◌≢◌, ℕ, suc, ◌≤◌, Bool, true, false, cond, ◌||◌, true≢false, List, [], ◌∷◌, ◌++◌, ◌↔◌, refl, sym, ◌∙◌, ap, subst, append_assoc, append-nil, Option, Some, None, option_map, length, arith}
use Rattle.std.specs.Option.{option_or}
use Rattle.rl_types.specs.declared.numbers.Letter.{Letter}
use Rattle.rl_automata.specs.declared.moves.Move.{Move}
use Rattle.rl_automata.specs.Auto.{on_part}
use Rattle.rl_labels.specs.Labels.{once}
use Rattle.rl_labels.specs.Carries.{no_carry}
use Rattle.rl_automata.specs.Marks.{auto}
use Rattle.rl_automata.specs.Scans.{Pattern, Confs, PatternMarks, ArePatternsHonest, ends_token, token_list, with_token, scan_auto}
use Rattle.rl_model.specs.Parts.{Part}
use Rattle.rl_model.specs.Specification.{Scanner}
use Rattle.rl_model.specs.Trees.{list_or, root_part}
use Rattle.rl_language.specs.Scanners.{IsWordOfSome, ArePatternsWithoutPriorities, Leads, MakesToken, IsFront, IsMatch, match_in, last_match, FindsTokens}
use Rattle.rl_language.proofs.Accepting.{accepts}
use Rattle.rl_language.proofs.ScannerWords.{led_accepts, scan_says, scan_token, scan_stuck}

-- ---- fronts

nothing_before : (l : Letter) (w : List Letter) → l ∷ w ≢ []
nothing_before l w e = cc

front_of_none : {P : Type 0} (u : List Letter) → IsFront u [] → P
front_of_none [] (some, v, e) = absurd (some refl)
front_of_none (l ∷ u) (some, v, e) = absurd (nothing_before l (u ++ v) (sym e))

-- a front of a word begins with the word's letter
front_begins : (u : List Letter) (l : Letter) (w : List Letter) → IsFront u (l ∷ w) → (x : List Letter) × (u ≡ l ∷ x) × ((v : List Letter) × (w ≡ x ++ v))
front_begins [] l w (some, v, e) = absurd (some refl)
front_begins (j ∷ x) l w (some, v, e) = (x, ap (λ k. k ∷ x) (sym (head_is e)), (v, tail_is e))
  where
    head_is : l ∷ w ≡ j ∷ (x ++ v) → l ≡ j
    head_is e = cc

    tail_is : l ∷ w ≡ j ∷ (x ++ v) → w ≡ x ++ v
    tail_is e = cc

-- one more letter in front of what is found
abbrev with_letter : Letter → List Letter × List ℕ → List Letter × List ℕ
with_letter l found = (l ∷ found.0, found.1)

-- a token without letters
abbrev at_once : List ℕ → List Letter × List ℕ
at_once token = ([], token)

-- ---- one more letter

module _ {S : Type 0} (p : Part S) where
  pub leads_on : (w : List Letter) (c s : S) (l : Letter) (m : Move S) → Leads p.auto w c s → p.auto.step s l ≡ Some m → Leads p.auto (w ++ l ∷ []) c m.to
  leads_on [] c s l m e q = (m, ap (λ d. p.auto.step d l) e ∙ q, refl)
  leads_on (j ∷ w) c s l m (n, f, h) q = (n, f, leads_on w n.to s l m h q)

  abbrev found_on : Letter → List Letter → Move S → Option (List Letter × List ℕ)
  found_on j w n = option_map (with_letter j) (option_or (last_match p w n.to) (option_map at_once (match_in p n.to)))

  -- nothing is found behind a letter on which there is no step
  pub last_stuck : (w v : List Letter) (s c : S) (l : Letter) → Leads p.auto w s c → p.auto.step c l ≡ None → last_match p (w ++ l ∷ v) s ≡ last_match p w s
  last_stuck [] v s c l e q = ap (on_part None (found_on l v)) (ap (λ d. p.auto.step d l) e ∙ q)
  last_stuck (j ∷ w) v s c l (m, f, h) q =
      ap (on_part None (found_on j (w ++ l ∷ v))) f
      ∙ ap (λ o. option_map (with_letter j) (option_or o (option_map at_once (match_in p m.to)))) (last_stuck w v m.to c l h q)
      ∙ sym (ap (on_part None (found_on j w)) f)

  -- the state behind one more letter is the last match, where it is a match
  pub last_new : (w : List Letter) (s c : S) (l : Letter) (n : Move S) → Leads p.auto w s c → p.auto.step c l ≡ Some n
      → last_match p (w ++ l ∷ []) s ≡ cond (p.auto.final n.to) (Some (w ++ l ∷ [], p.token n.to)) (last_match p w s)
  last_new [] s c l n e q = ap (on_part None (found_on l [])) (ap (λ d. p.auto.step d l) e ∙ q) ∙ by (p.auto.final n.to)
    where
      by : (b : Bool) → option_map (with_letter l) (option_map at_once (cond b (Some (p.token n.to)) None)) ≡ cond b (Some (l ∷ [], p.token n.to)) None
      by true = refl
      by false = refl
  last_new (j ∷ w) s c l n (m, f, h) q =
      let x = option_map at_once (match_in p m.to) in
      ap (on_part None (found_on j (w ++ l ∷ []))) f
      ∙ ap (λ o. option_map (with_letter j) (option_or o x)) (last_new w m.to c l n h q)
      ∙ by (p.auto.final n.to) x (last_match p w m.to)
      ∙ ap (λ o. cond (p.auto.final n.to) (Some (j ∷ (w ++ l ∷ []), p.token n.to)) o) (sym (ap (on_part None (found_on j w)) f))
    where
      by : (b : Bool) (x o : Option (List Letter × List ℕ)) → option_map (with_letter j) (option_or (cond b (Some (w ++ l ∷ [], p.token n.to)) o) x)
          ≡ cond b (Some (j ∷ (w ++ l ∷ []), p.token n.to)) (option_map (with_letter j) (option_or o x))
      by true x o = refl
      by false x o = refl

  -- where no letter goes on from it, it is the last match of all that goes on
  last_here : (w : List Letter) (s c : S) (l : Letter) (n : Move S) → Leads p.auto w s c → p.auto.step c l ≡ Some n → p.auto.final n.to ≡ true → last_match p (w ++ l ∷ []) s ≡ Some (w ++ l ∷ [], p.token n.to)
  last_here w s c l n h q fin = last_new w s c l n h q ∙ ap (λ b. cond b (Some (w ++ l ∷ [], p.token n.to)) (last_match p w s)) fin

  pub last_closed : (w v : List Letter) (s c : S) (l : Letter) (n : Move S) → Leads p.auto w s c → p.auto.step c l ≡ Some n → p.auto.final n.to ≡ true → ((j : Letter) → p.auto.step n.to j ≡ None)
      → last_match p (w ++ l ∷ v) s ≡ Some (w ++ l ∷ [], p.token n.to)
  last_closed w [] s c l n h q fin none = last_here w s c l n h q fin
  last_closed w (j ∷ v) s c l n h q fin none =
      ap (λ y. last_match p y s) (sym (append_assoc w (l ∷ []) (j ∷ v)))
      ∙ last_stuck (w ++ l ∷ []) v s n.to j (leads_on w s c l n h q) (none j)
      ∙ last_here w s c l n h q fin

-- ---- from what is known of each state

module _ {S : Type 0} (ps : List Pattern) (k : PatternMarks ps) (p : Part S) where
  -- the states that words lead to are final where some pattern has the word, and have its token
  pub record Knows : Type 0 where
    pub has : (w : List Letter) (s : S) → Leads p.auto w p.auto.start s → (p.auto.final s ≡ true) ↔ IsWordOfSome ps w
    pub tokens : (w : List Letter) (s : S) → Leads p.auto w p.auto.start s → MakesToken ps k w (match_in p s)
    pub stuck : (w : List Letter) (s : S) → Leads p.auto w p.auto.start s → (l : Letter) → p.auto.step s l ≡ None → (v : List Letter) → ¬ IsWordOfSome ps (w ++ l ∷ v)

  -- what is found behind a word
  abbrev FoundBehind : List Letter → List Letter → Option (List Letter × List ℕ) → Type 0
  FoundBehind past w None = (u : List Letter) → IsFront u w → ¬ IsWordOfSome ps (past ++ u)
  FoundBehind past w (Some found) =
      IsFront found.0 w × IsWordOfSome ps (past ++ found.0) × MakesToken ps k (past ++ found.0) (Some found.1)
      × ((u : List Letter) → IsFront u w → IsWordOfSome ps (past ++ u) → length u ≤ length found.0)

  module _ (knows : Knows) where
    one_more : (past : List Letter) (l : Letter) (w : List Letter) (m : Move S) → Leads p.auto (past ++ l ∷ []) p.auto.start m.to → (o : Option (List Letter × List ℕ)) → FoundBehind (past ++ l ∷ []) w o
        → FoundBehind past (l ∷ w) (option_map (with_letter l) (option_or o (option_map at_once (match_in p m.to))))
    one_more past l w m led (Some found) (front, has, makes, longest) = (
      (nothing_before l found.0, front.1, ap (λ v. l ∷ v) front.2),
      subst (IsWordOfSome ps) (append_assoc past (l ∷ []) found.0) has,
      subst (λ v. MakesToken ps k v (Some found.1)) (append_assoc past (l ∷ []) found.0) makes,
      λ u f h. fits u f h (front_begins u l w f),
    )
      where
        fits : (u : List Letter) → IsFront u (l ∷ w) → IsWordOfSome ps (past ++ u) → (x : List Letter) × (u ≡ l ∷ x) × ((v : List Letter) × (w ≡ x ++ v)) → length u ≤ suc (length found.0)
        fits u f h (x, e, (v, g)) = subst (λ y. length y ≤ suc (length found.0)) (sym e) (by x v g (subst (λ y. IsWordOfSome ps (past ++ y)) e h))
          where
            by : (x v : List Letter) → w ≡ x ++ v → IsWordOfSome ps (past ++ l ∷ x) → suc (length x) ≤ suc (length found.0)
            by [] v g h = omega arith
            by (j ∷ x) v g h =
                let le : length (j ∷ x) ≤ length found.0 = longest (j ∷ x) (nothing_before j x, v, g) (subst (IsWordOfSome ps) (sym (append_assoc past (l ∷ []) (j ∷ x))) h) in
                omega arith
    one_more past l w m led None none = by (p.auto.final m.to) refl
      where
        later : (u : List Letter) → IsFront u (l ∷ w) → IsWordOfSome ps (past ++ u) → u ≡ l ∷ []
        later u f h = behind u h (front_begins u l w f)
          where
            behind : (u : List Letter) → IsWordOfSome ps (past ++ u) → (x : List Letter) × (u ≡ l ∷ x) × ((v : List Letter) × (w ≡ x ++ v)) → u ≡ l ∷ []
            behind u h ([], e, (v, g)) = e
            behind u h (j ∷ x, e, (v, g)) =
                absurd (none (j ∷ x) (nothing_before j x, v, g) (subst (IsWordOfSome ps) (ap (λ y. past ++ y) e ∙ sym (append_assoc past (l ∷ []) (j ∷ x))) h))

        token_here : (b : Bool) → p.auto.final m.to ≡ b → MakesToken ps k (past ++ l ∷ []) (cond b (Some (p.token m.to)) None)
        token_here b e = subst (λ c. MakesToken ps k (past ++ l ∷ []) (cond c (Some (p.token m.to)) None)) e (knows.tokens (past ++ l ∷ []) m.to led)

        one_letter : (u : List Letter) → u ≡ l ∷ [] → length u ≤ 1
        one_letter u e = subst (λ y. length y ≤ 1) (sym e) (omega arith)

        by : (b : Bool) → p.auto.final m.to ≡ b → FoundBehind past (l ∷ w) (option_map (with_letter l) (option_map at_once (cond (p.auto.final m.to) (Some (p.token m.to)) None)))
        by true e = subst (λ c. FoundBehind past (l ∷ w) (option_map (with_letter l) (option_map at_once (cond c (Some (p.token m.to)) None)))) (sym e) (
          (nothing_before l [], w, refl),
          (knows.has (past ++ l ∷ []) m.to led).0 e,
          token_here true e,
          λ u f h. one_letter u (later u f h),
        )
        by false e = subst (λ c. FoundBehind past (l ∷ w) (option_map (with_letter l) (option_map at_once (cond c (Some (p.token m.to)) None)))) (sym e)
            (λ u f h. true≢false (sym ((knows.has (past ++ l ∷ []) m.to led).1 (subst (λ y. IsWordOfSome ps (past ++ y)) (later u f h) h)) ∙ e))

    found : (past w : List Letter) (s : S) → Leads p.auto past p.auto.start s → FoundBehind past w (last_match p w s)
    found past [] s led = λ u f. front_of_none u f
    found past (l ∷ w) s led = by (λ m h. found (past ++ l ∷ []) w m.to h) (p.auto.step s l) refl
      where
        by : ((m : Move S) → Leads p.auto (past ++ l ∷ []) p.auto.start m.to → FoundBehind (past ++ l ∷ []) w (last_match p w m.to)) → (o : Option (Move S)) → p.auto.step s l ≡ o
            → FoundBehind past (l ∷ w) (on_part None (λ m. option_map (with_letter l) (option_or (last_match p w m.to) (option_map at_once (match_in p m.to)))) o)
        by later None e = λ u f h. stuck u h (front_begins u l w f)
          where
            stuck : (u : List Letter) → IsWordOfSome ps (past ++ u) → (x : List Letter) × (u ≡ l ∷ x) × ((v : List Letter) × (w ≡ x ++ v)) → ⊥
            stuck u h (x, g, (v, q)) = knows.stuck past s led l e x (subst (λ y. IsWordOfSome ps (past ++ y)) g h)
        by later (Some m) e = let led_on = leads_on p past p.auto.start s l m led e in one_more past l w m led_on (last_match p w m.to) (later m led_on)

    is_match : (w : List Letter) (o : Option (List Letter × List ℕ)) → FoundBehind [] w o → IsMatch ps k w o
    is_match w None h = h
    is_match w (Some x) (front, has, makes, longest) = (record { front = front; has = has; longest = longest }, makes)

    pub finds : FindsTokens ps k p
    finds = record {
      tokens = knows.tokens;
      last = λ w. is_match w (last_match p w p.auto.start) (found [] w p.auto.start refl);
      stuck = knows.stuck;
    }

-- ---- the trees

either_token : (b e : Bool) (x : List ℕ) (t : Option (List ℕ)) → cond e (Some (list_or t)) None ≡ t → cond (b || e) (Some (list_or (cond b (Some x) t))) None ≡ cond b (Some x) t
either_token true e x t h = refl
either_token false e x t h = h

-- the token list of a match is the scanner's
pub tree_match : (ps : List Pattern) (k : PatternMarks ps) (c : Confs ps) → cond (ends_token ps k c) (Some (list_or (token_list ps k c))) None ≡ token_list ps k c
tree_match [] k c = refl
tree_match (p ∷ ps) k c =
    either_token (on_part false (auto p.tree k.0).final c.0) (ends_token ps k.1 c.1) (with_token p.token (once (on_part no_carry (auto p.tree k.0).out c.0).actions))
    (token_list ps k.1 c.1) (tree_match ps k.1 c.1)

-- a word leads to a match exactly where some pattern has it
pub scan_has : (ps : List Pattern) (k : PatternMarks ps) → ArePatternsWithoutPriorities ps → ArePatternsHonest ps k → (w : List Letter) (c : Confs ps) → Leads (scan_auto ps k) w (scan_auto ps k).start c → (ends_token ps k c ≡ true) ↔ IsWordOfSome ps w
scan_has ps k e h w c led =
    let A = scan_auto ps k in
    let same : accepts A w A.start ≡ ends_token ps k c = ap (λ v. accepts A v A.start) (sym (append-nil w)) ∙ led_accepts A w [] A.start c led in
    let s = scan_says ps k e h w in
    ((λ x. s.0 (same ∙ x)), (λ p. sym same ∙ s.1 p))

pub scan_knows : (ps : List Pattern) (k : PatternMarks ps) → ArePatternsWithoutPriorities ps → ArePatternsHonest ps k → (closed : Confs ps → Bool) → Knows ps k (root_part (Scanner ps) (k, closed))
scan_knows ps k e h closed = record {
  has = scan_has ps k e h;
  tokens = λ w c led. subst (MakesToken ps k w) (sym (tree_match ps k c)) (scan_token ps k e h w c led);
  stuck = scan_stuck ps k e h;
}

pub scan_finds : (ps : List Pattern) (k : PatternMarks ps) → ArePatternsWithoutPriorities ps → ArePatternsHonest ps k → (closed : Confs ps → Bool) → FindsTokens ps k (root_part (Scanner ps) (k, closed))
scan_finds ps k e h closed = finds ps k (root_part (Scanner ps) (k, closed)) (scan_knows ps k e h closed)
