-- A scanner whose patterns have no priorities: it accepts what some pattern does, and tells the token of the first one.
use Rattle.std.proofs.Common.{◌≡◌, Bool, true, false, cond, ◌||◌, true≢false, List, [], ◌∷◌, ◌++◌, ◌↔◌, refl, sym, ◌∙◌, ap, subst, Option, Some, None}
use Rattle.rl_types.specs.declared.numbers.Letter.{Letter}
use Rattle.rl_labels.specs.declared.carry.Carry.{Carry}
use Rattle.rl_labels.specs.Labels.{once}
use Rattle.rl_labels.specs.Carries.{no_carry}
use Rattle.rl_automata.specs.declared.moves.Move.{Move}
use Rattle.rl_automata.specs.Auto.{Auto, on_part, first, carries, targets, step_to, listed, part_moves, is_none_left}
use Rattle.rl_automata.specs.Nodes.{Conf, Ends}
use Rattle.rl_automata.specs.Marks.{auto}
use Rattle.rl_automata.specs.Scans.{Pattern, Confs, PatternMarks, ArePatternsHonest, all_carried, kept_confs, kept_carries, starts, ends_token, token_list, with_token, scan_raw, scan_auto}
use Rattle.rl_automata.proofs.Congruence.{AllIn, step_to_to}
use Rattle.rl_language.specs.Scanners.{IsWordOfSome, ArePatternsWithoutPriorities, Leads, leaving, MakesToken}
use Rattle.rl_language.proofs.Plainness.{IsLight, kept_light, carries_light, both_light, part_none, none_in_auto}
use Rattle.rl_language.proofs.Accepting.{is_false, accepts, part_accepts, ends_accepts, accepts_ends, part_step, quiet_accepts}
use Rattle.rl_language.proofs.Matching.{Says, says_as, says_or, says_never, matches}

-- ---- a step

-- where the patterns' own steps lead
abbrev next_confs : (ps : List Pattern) → PatternMarks ps → Confs ps → Letter → Confs ps
next_confs [] k c l = tt
next_confs (p ∷ ps) k c l = (first (targets (part_moves (auto p.tree k.0) l c.0)), next_confs ps k.1 c.1 l)

carried_light : (ps : List Pattern) (k : PatternMarks ps) → ArePatternsWithoutPriorities ps → (c : Confs ps) (l : Letter) → AllIn IsLight (all_carried ps k c l)
carried_light [] k e c l = λ x h. absurd h
carried_light (p ∷ ps) k e c l =
    both_light (carries (part_moves (auto p.tree k.0) l c.0)) (all_carried ps k.1 c.1 l)
    (carries_light (part_moves (auto p.tree k.0) l c.0) (part_none (none_in_auto p.tree k.0 e.0) c.0 l)) (carried_light ps k.1 e.1 c.1 l)

all_confs : (all : List Carry) → AllIn IsLight all → (ps : List Pattern) (k : PatternMarks ps) (c : Confs ps) (l : Letter) → kept_confs ps k all c l ≡ next_confs ps k c l
all_confs all a [] k c l = refl
all_confs all a (p ∷ ps) k c l = λ i. (first (targets (kept_light all a (part_moves (auto p.tree k.0) l c.0) i)), all_confs all a ps k.1 c.1 l i)

all_carries : (all : List Carry) → AllIn IsLight all → (ps : List Pattern) (k : PatternMarks ps) (c : Confs ps) (l : Letter) → kept_carries ps k all c l ≡ all_carried ps k c l
all_carries all a [] k c l = refl
all_carries all a (p ∷ ps) k c l = λ i. carries (kept_light all a (part_moves (auto p.tree k.0) l c.0) i) ++ all_carries all a ps k.1 c.1 l i

-- each pattern makes its own step, and there is none where no pattern has one
scan_settled : (ps : List Pattern) (k : PatternMarks ps) → ArePatternsWithoutPriorities ps → (c : Confs ps) (l : Letter) → (scan_raw ps k).step c l ≡ step_to (next_confs ps k c l) (all_carried ps k c l)
scan_settled ps k e c l =
    let all = all_carried ps k c l in
    let a = carried_light ps k e c l in
    λ i. step_to (all_confs all a ps k c l i) (all_carries all a ps k c l i)

-- ---- words

abbrev some_accepts : (ps : List Pattern) → PatternMarks ps → List Letter → Confs ps → Bool
some_accepts [] k w c = false
some_accepts (p ∷ ps) k w c = part_accepts (auto p.tree k.0) w c.0 || some_accepts ps k.1 w c.1

some_final : (ps : List Pattern) (k : PatternMarks ps) (c : Confs ps) → ends_token ps k c ≡ some_accepts ps k [] c
some_final [] k c = refl
some_final (p ∷ ps) k c = ap (λ b. on_part false (auto p.tree k.0).final c.0 || b) (some_final ps k.1 c.1)

some_step : (ps : List Pattern) (k : PatternMarks ps) (l : Letter) (w : List Letter) (c : Confs ps) → some_accepts ps k w (next_confs ps k c l) ≡ some_accepts ps k (l ∷ w) c
some_step [] k l w c = refl
some_step (p ∷ ps) k l w c = λ i. sym (part_step (auto p.tree k.0) l w c.0) i || some_step ps k.1 l w c.1 i

-- without candidates every pattern has gone
none_left : (ps : List Pattern) (k : PatternMarks ps) (l : Letter) (w : List Letter) (c : Confs ps) → is_none_left (all_carried ps k c l) ≡ true → some_accepts ps k w (next_confs ps k c l) ≡ false
none_left [] k l w c e = refl
none_left (p ∷ ps) k l w c e = by (none_left ps k.1 l w c.1) (part_moves (auto p.tree k.0) l c.0) e
  where
    by : (is_none_left (all_carried ps k.1 c.1 l) ≡ true → some_accepts ps k.1 w (next_confs ps k.1 c.1 l) ≡ false) → (ms : List (Move (Conf p.tree))) → is_none_left (carries ms ++ all_carried ps k.1 c.1 l) ≡ true
        → (part_accepts (auto p.tree k.0) w (first (targets ms)) || some_accepts ps k.1 w (next_confs ps k.1 c.1 l)) ≡ false
    by rest [] e = rest e
    by rest (m ∷ ms) e = absurd (true≢false (sym e))

stepped_to : {C : Type 0} (f : C → Bool) (c : C) (cs : List Carry) → (is_none_left cs ≡ true → f c ≡ false) → on_part false (λ (m : Move C). f m.to) (step_to c cs) ≡ f c
stepped_to f c [] h = sym (h refl)
stepped_to f c (x ∷ cs) h = refl

scan_accepts : (ps : List Pattern) (k : PatternMarks ps) → ArePatternsWithoutPriorities ps → (w : List Letter) (c : Confs ps) → accepts (scan_raw ps k) w c ≡ some_accepts ps k w c
scan_accepts ps k e [] c = some_final ps k c
scan_accepts ps k e (l ∷ w) c =
    ap (on_part false (λ (m : Move (Confs ps)). accepts (scan_raw ps k) w m.to)) (scan_settled ps k e c l)
    ∙ stepped_to (accepts (scan_raw ps k) w) (next_confs ps k c l) (all_carried ps k c l) (λ h. scan_accepts ps k e w (next_confs ps k c l) ∙ none_left ps k l w c h)
    ∙ scan_accepts ps k e w (next_confs ps k c l) ∙ some_step ps k l w c

some_says : (ps : List Pattern) (k : PatternMarks ps) → ArePatternsWithoutPriorities ps → ArePatternsHonest ps k → (w : List Letter) → Says (some_accepts ps k w (starts ps k)) (IsWordOfSome ps w)
some_says [] k e h w = says_never (λ x. x)
some_says (p ∷ ps) k e h w = says_or (accepts (auto p.tree k.0) w (auto p.tree k.0).start) (some_accepts ps k.1 w (starts ps k.1)) (matches p.tree k.0 e.0 h.0 w) (some_says ps k.1 e.1 h.1 w)

pub scan_says : (ps : List Pattern) (k : PatternMarks ps) → ArePatternsWithoutPriorities ps → ArePatternsHonest ps k → (w : List Letter) → Says (accepts (scan_auto ps k) w (scan_auto ps k).start) (IsWordOfSome ps w)
scan_says ps k e h w = says_as (quiet_accepts (scan_raw ps k) w (starts ps k) ∙ scan_accepts ps k e w (starts ps k)) (some_says ps k e h w)

pub scan_match : (ps : List Pattern) (k : PatternMarks ps) → ArePatternsWithoutPriorities ps → ArePatternsHonest ps k → (w : List Letter) → Ends (scan_auto ps k) w (scan_auto ps k).start ↔ IsWordOfSome ps w
scan_match ps k e h w =
    let s = scan_says ps k e h w in let A = scan_auto ps k in
    ((λ x. s.0 (ends_accepts A w A.start x)), (λ p. accepts_ends A w A.start (s.1 p)))

-- ---- where no letter leads on

pub led_accepts : {S : Type 0} (A : Auto S) (w v : List Letter) (c d : S) → Leads A w c d → accepts A (w ++ v) c ≡ accepts A v d
led_accepts {S} A [] v c d e = ap (accepts A v) e
led_accepts {S} A (l ∷ w) v c d (m, p, h) = ap (on_part false (λ (n : Move S). accepts A (w ++ v) n.to)) p ∙ led_accepts A w v m.to d h

pub scan_stuck : (ps : List Pattern) (k : PatternMarks ps) → ArePatternsWithoutPriorities ps → ArePatternsHonest ps k → (w : List Letter) (c : Confs ps) → Leads (scan_auto ps k) w (scan_auto ps k).start c
    → (l : Letter) → (scan_auto ps k).step c l ≡ None → (v : List Letter) → ¬ IsWordOfSome ps (w ++ l ∷ v)
scan_stuck ps k e h w c led l none v word =
    let A = scan_auto ps k in
    true≢false (sym ((scan_says ps k e h (w ++ l ∷ v)).1 word) ∙ led_accepts A w (l ∷ v) A.start c led ∙ ap (on_part false (λ (n : Move (Confs ps)). accepts A v n.to)) none)

-- ---- tokens

module _ {S : Type 0} (A : Auto S) where
  -- where a part is after the word
  abbrev part_after : List Letter → Option S → Option S
  part_after [] o = o
  part_after (l ∷ w) o = part_after w (first (targets (part_moves A l o)))

  final_after : (w : List Letter) (o : Option S) → on_part false A.final (part_after w o) ≡ part_accepts A w o
  final_after [] o = refl
  final_after (l ∷ w) o = final_after w (first (targets (part_moves A l o))) ∙ sym (part_step A l w o)

  leaving_step : (l : Letter) (w : List Letter) (o : Option S) → on_part [] (leaving A w) (first (targets (part_moves A l o))) ≡ on_part [] (leaving A (l ∷ w)) o
  leaving_step l w None = refl
  leaving_step l w (Some s) = by (A.step s l)
    where
      by : (o : Option (Move S)) → on_part [] (leaving A w) (first (targets (listed o))) ≡ on_part [] (λ m. leaving A w m.to) o
      by None = refl
      by (Some m) = refl

  leaving_after : (w : List Letter) (o : Option S) → once (on_part no_carry A.out (part_after w o)).actions ≡ on_part [] (leaving A w) o
  leaving_after [] None = refl
  leaving_after [] (Some s) = refl
  leaving_after (l ∷ w) o = leaving_after w (first (targets (part_moves A l o))) ∙ leaving_step l w o

abbrev confs_after : (ps : List Pattern) → PatternMarks ps → List Letter → Confs ps → Confs ps
confs_after [] k w c = tt
confs_after (p ∷ ps) k w c = (part_after (auto p.tree k.0) w c.0, confs_after ps k.1 w c.1)

after_none : (ps : List Pattern) (k : PatternMarks ps) (c : Confs ps) → confs_after ps k [] c ≡ c
after_none [] k c = refl
after_none (p ∷ ps) k c = λ i. (c.0, after_none ps k.1 c.1 i)

after_next : (ps : List Pattern) (k : PatternMarks ps) (l : Letter) (w : List Letter) (c : Confs ps) → confs_after ps k (l ∷ w) c ≡ confs_after ps k w (next_confs ps k c l)
after_next [] k l w c = refl
after_next (p ∷ ps) k l w c = λ i. (part_after (auto p.tree k.0) w (first (targets (part_moves (auto p.tree k.0) l c.0))), after_next ps k.1 l w c.1 i)

leads_after : (ps : List Pattern) (k : PatternMarks ps) → ArePatternsWithoutPriorities ps → (w : List Letter) (c d : Confs ps) → Leads (scan_auto ps k) w c d → confs_after ps k w c ≡ d
leads_after ps k e [] c d h = after_none ps k c ∙ h
leads_after ps k e (l ∷ w) c d (m, p, h) =
    after_next ps k l w c
    ∙ ap (confs_after ps k w) (step_to_to (next_confs ps k c l) (all_carried ps k c l) m (sym (scan_settled ps k e c l) ∙ p))
    ∙ leads_after ps k e w m.to d h

token_made : (ps : List Pattern) (k : PatternMarks ps) → ArePatternsWithoutPriorities ps → ArePatternsHonest ps k → (w : List Letter) → MakesToken ps k w (token_list ps k (confs_after ps k w (starts ps k)))
token_made [] k e h w = refl
token_made (p ∷ ps) k e h w =
    let A = auto p.tree k.0 in
    let rest = token_list ps k.1 (confs_after ps k.1 w (starts ps k.1)) in
    let here = Some (with_token p.token (once (on_part no_carry A.out (part_after A w (Some A.start))).actions)) in
    let s = matches p.tree k.0 e.0 h.0 w in (
      (λ word. ap (λ b. cond b here rest) (final_after A w (Some A.start) ∙ s.1 word) ∙ ap (λ xs. Some (with_token p.token xs)) (leaving_after A w (Some A.start))),
      (λ n. subst (MakesToken ps k.1 w) (sym (ap (λ b. cond b here rest) (final_after A w (Some A.start) ∙ is_false (accepts A w A.start) (λ a. n (s.0 a))))) (token_made ps k.1 e.1 h.1 w)),
    )

pub scan_token : (ps : List Pattern) (k : PatternMarks ps) → ArePatternsWithoutPriorities ps → ArePatternsHonest ps k → (w : List Letter) (c : Confs ps) → Leads (scan_auto ps k) w (scan_auto ps k).start c → MakesToken ps k w (token_list ps k c)
scan_token ps k e h w c led = subst (λ d. MakesToken ps k w (token_list ps k d)) (leads_after ps k e w (starts ps k) c led) (token_made ps k e h w)
