-- Candidates that are renamed, or listed in another order, settle alike.
use Rattle.std.proofs.Common.{◌≡◌, true, false, cond, not, ◌&&◌, List, [], ◌∷◌, ◌++◌, map, refl, sym, ◌∙◌, ap, subst, inl, Some, option_map}
use Rattle.std.specs.List.{filter, list_any}
use Rattle.rl_labels.specs.declared.carry.Carry.{Carry}
use Rattle.rl_labels.specs.Labels.{beats}
use Rattle.rl_labels.specs.Carries.{all_of}
use Rattle.rl_automata.specs.declared.moves.Move.{Move}
use Rattle.rl_automata.specs.Auto.{carries, targets, kept, settle, step_to, jams, is_none_left}
use Rattle.rl_automata.specs.Follows.{renamed}
use Rattle.rl_sets.proofs.SetLaws.{Same, any-same, same_filter, same_refl, same_append, same_map, same_joined, set_of-same}
use Rattle.rl_labels.proofs.LabelOrders.{stamp_order}
use Rattle.rl_labels.proofs.TableLaws.{table_of-same}

-- ---- what is carried

pub all_of-same : (cs ds : List Carry) → Same cs ds → all_of cs ≡ all_of ds
all_of-same cs ds s = λ i. record {
  actions = set_of-same stamp_order _ _ (same_joined _ _ (same_map (λ c. c.actions) cs ds s)) i;
  table = table_of-same _ _ (same_joined _ _ (same_map (λ c. c.table) cs ds s)) i;
}

-- ---- candidates

module _ {S T : Type 0} (f : S → T) where
  pub carries-renamed : (ms : List (Move S)) → carries (map (renamed f) ms) ≡ carries ms
  carries-renamed [] = refl
  carries-renamed (m ∷ ms) = λ i. m.carry ∷ carries-renamed ms i

  pub targets-renamed : (ms : List (Move S)) → targets (map (renamed f) ms) ≡ map f (targets ms)
  targets-renamed [] = refl
  targets-renamed (m ∷ ms) = λ i. f m.to ∷ targets-renamed ms i

  pub kept-renamed : (all : List Carry) (ms : List (Move S)) → kept all (map (renamed f) ms) ≡ map (renamed f) (kept all ms)
  kept-renamed all [] = refl
  kept-renamed all (m ∷ ms) =
      elim (not (list_any (λ c. beats c.table m.carry.table) all)) as (λ b. cond b (renamed f m ∷ kept all (map (renamed f) ms)) (kept all (map (renamed f) ms)) ≡ map (renamed f) (cond b (m ∷ kept all ms) (kept all ms))) [
        | true ↦ λ i. renamed f m ∷ kept-renamed all ms i
        | false ↦ kept-renamed all ms
      ]

pub kept-same : {S : Type 0} (all all' : List Carry) (ms : List (Move S)) → Same all all' → kept all ms ≡ kept all' ms
kept-same all all' ms s = λ i. filter (λ m. not (any-same (λ c. beats c.table m.carry.table) all all' s i)) ms

pub step_to-same : {C D : Type 0} (h : C → D) (c : C) (d : D) (xs ys : List Carry) → h c ≡ d → Same xs ys → option_map (renamed h) (step_to c xs) ≡ step_to d ys
step_to-same h c d [] [] e s = refl
step_to-same h c d [] (y ∷ ys) e s = absurd (s.back y (inl refl))
step_to-same h c d (x ∷ xs) [] e s = absurd (s.to x (inl refl))
step_to-same h c d (x ∷ xs) (y ∷ ys) e s = λ i. Some (record { to = e i; carry = all_of-same (x ∷ xs) (y ∷ ys) s i })

module _ {S S' T T' C C' : Type 0} (f : S → S') (g : T → T') (h : C → C') (make : List S → List T → C) (make' : List S' → List T' → C') where
  pub settle-same : ((ss : List S) (ts : List T) (ts' : List T') → Same (map g ts) ts' → h (make ss ts) ≡ make' (map f ss) ts') → (ls : List (Move S)) (rs : List (Move T)) (rs' : List (Move T')) → Same (map (renamed g) rs) rs'
      → option_map (renamed h) (settle make ls rs) ≡ settle make' (map (renamed f) ls) rs'
  settle-same makes ls rs rs' s =
      let all = carries ls ++ carries rs in
      let all' = carries (map (renamed f) ls) ++ carries rs' in
      let carried : Same (carries rs) (carries rs') = subst (λ w. Same w (carries rs')) (carries-renamed g rs) (same_map (λ m. m.carry) _ _ s) in
      let alls : Same all all' = subst (λ w. Same all (w ++ carries rs')) (sym (carries-renamed f ls)) (same_append (carries ls) (carries ls) (carries rs) (carries rs') (same_refl _) carried) in
      let left : kept all' (map (renamed f) ls) ≡ map (renamed f) (kept all ls) = sym (kept-same all all' _ alls) ∙ kept-renamed f all ls in
      let right : Same (map (renamed g) (kept all rs)) (kept all' rs') =
      subst (λ w. Same w (kept all' rs')) (kept-renamed g all rs) (subst (λ w. Same (kept all (map (renamed g) rs)) w) (kept-same all all' rs' alls) (same_filter _ (map (renamed g) rs) rs' s)) in
      let lefts : targets (kept all' (map (renamed f) ls)) ≡ map f (targets (kept all ls)) = ap targets left ∙ targets-renamed f (kept all ls) in
      let rights : Same (map g (targets (kept all rs))) (targets (kept all' rs')) =
      subst (λ w. Same w (targets (kept all' rs'))) (targets-renamed g (kept all rs)) (same_map (λ m. m.to) _ _ right) in
      let made : h (make (targets (kept all ls)) (targets (kept all rs))) ≡ make' (targets (kept all' (map (renamed f) ls))) (targets (kept all' rs')) =
      makes _ _ _ rights ∙ ap (λ w. make' w (targets (kept all' rs'))) (sym lefts) in
      let carrieds : Same (carries (kept all ls) ++ carries (kept all rs)) (carries (kept all' (map (renamed f) ls)) ++ carries (kept all' rs')) =
      same_append _ _ _ _
      (subst (λ w. Same (carries (kept all ls)) w) (sym (ap carries left ∙ carries-renamed f (kept all ls))) (same_refl _))
      (subst (λ w. Same w (carries (kept all' rs'))) (carries-renamed g (kept all rs)) (same_map (λ m. m.carry) _ _ right)) in
      step_to-same h _ _ _ _ made carrieds

  -- where both sides are only renamed
  pub settle-renamed : ((ss : List S) (ts : List T) → h (make ss ts) ≡ make' (map f ss) (map g ts)) → (ls : List (Move S)) (rs : List (Move T))
      → option_map (renamed h) (settle make ls rs) ≡ settle make' (map (renamed f) ls) (map (renamed g) rs)
  settle-renamed made ls rs =
      let all = carries ls ++ carries rs in
      let all' = carries (map (renamed f) ls) ++ carries (map (renamed g) rs) in
      let alls : all' ≡ all = λ i. carries-renamed f ls i ++ carries-renamed g rs i in
      let left : kept all' (map (renamed f) ls) ≡ map (renamed f) (kept all ls) = ap (λ w. kept w (map (renamed f) ls)) alls ∙ kept-renamed f all ls in
      let right : kept all' (map (renamed g) rs) ≡ map (renamed g) (kept all rs) = ap (λ w. kept w (map (renamed g) rs)) alls ∙ kept-renamed g all rs in
      let lefts : targets (kept all' (map (renamed f) ls)) ≡ map f (targets (kept all ls)) = ap targets left ∙ targets-renamed f (kept all ls) in
      let rights : targets (kept all' (map (renamed g) rs)) ≡ map g (targets (kept all rs)) = ap targets right ∙ targets-renamed g (kept all rs) in
      let carried : carries (kept all' (map (renamed f) ls)) ++ carries (kept all' (map (renamed g) rs)) ≡ carries (kept all ls) ++ carries (kept all rs) =
      λ i. (ap carries left ∙ carries-renamed f (kept all ls)) i ++ (ap carries right ∙ carries-renamed g (kept all rs)) i in
      step_to-same h _ _ _ _ (made _ _ ∙ (λ i. make' (sym lefts i) (sym rights i)))
      (subst (λ w. Same (carries (kept all ls) ++ carries (kept all rs)) w) (sym carried) (same_refl _))

-- ---- priorities that all beat each other

left-same : {X : Type 0} (xs ys : List X) → Same xs ys → is_none_left xs ≡ is_none_left ys
left-same [] [] s = refl
left-same [] (y ∷ ys) s = absurd (s.back y (inl refl))
left-same (x ∷ xs) [] s = absurd (s.to x (inl refl))
left-same (x ∷ xs) (y ∷ ys) s = refl

-- candidates that are renamed, or listed in another order, jam alike
pub jams-same : {S S' T T' : Type 0} (f : S → S') (g : T → T') (ls : List (Move S)) (rs : List (Move T)) (rs' : List (Move T')) → Same (map (renamed g) rs) rs' → jams ls rs ≡ jams (map (renamed f) ls) rs'
jams-same f g ls rs rs' s =
    let all = carries ls ++ carries rs in
    let all' = carries (map (renamed f) ls) ++ carries rs' in
    let carried : Same (carries rs) (carries rs') = subst (λ w. Same w (carries rs')) (carries-renamed g rs) (same_map (λ m. m.carry) _ _ s) in
    let alls : Same all all' = subst (λ w. Same all (w ++ carries rs')) (sym (carries-renamed f ls)) (same_append (carries ls) (carries ls) (carries rs) (carries rs') (same_refl _) carried) in
    let left : kept all' (map (renamed f) ls) ≡ map (renamed f) (kept all ls) = sym (kept-same all all' _ alls) ∙ kept-renamed f all ls in
    let right : Same (map (renamed g) (kept all rs)) (kept all' rs') =
    subst (λ w. Same w (kept all' rs')) (kept-renamed g all rs) (subst (λ w. Same (kept all (map (renamed g) rs)) w) (kept-same all all' rs' alls) (same_filter _ (map (renamed g) rs) rs' s)) in
    let carrieds : Same (carries (kept all ls) ++ carries (kept all rs)) (carries (kept all' (map (renamed f) ls)) ++ carries (kept all' rs')) =
    same_append _ _ _ _
    (subst (λ w. Same (carries (kept all ls)) w) (sym (ap carries left ∙ carries-renamed f (kept all ls))) (same_refl _))
    (subst (λ w. Same w (carries (kept all' rs'))) (carries-renamed g (kept all rs)) (same_map (λ m. m.carry) _ _ right)) in
    λ i. not (left-same all all' alls i) && left-same _ _ carrieds i
