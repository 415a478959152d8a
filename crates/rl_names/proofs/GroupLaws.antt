-- The statements of one machine alone, and what is told of each machine as statements are read.
use Rattle.std.proofs.Common.{◌≡◌, ℕ, ◌+◌, ◌<◌, ◌≤◌, Bool, true, false, cond, List, [], ◌∷◌, ◌++◌, length, drop, get_or, fold, filter, Result, Ok, inl, inr, refl, sym, ap, ◌∙◌, append_assoc, drop-cons, add-one}
use Rattle.std.specs.Prelude.{not, ◌&&◌}
use Rattle.std.specs.Str.{bytes_eq}
use Rattle.std.proofs.lemmas.Bool.{cases_Bool}
use Rattle.std.proofs.lemmas.List.{append-nil, drop_all, map-append}
use Rattle.std.proofs.lemmas.Slice.Eq.{bytes_eq-Decides}
use Rattle.rl_names.specs.Actions.{actions_by, actions_behind, actions_of, action_names}
use Rattle.rl_names.specs.Answers.{and_then, each, along}
use Rattle.rl_names.specs.Drafts.{definitions_by, definitions_behind, definitions_of, draft_of}
use Rattle.rl_names.specs.Entries.{entries_by, entries_behind, entries_of}
use Rattle.rl_names.specs.Expressions.{Scope}
use Rattle.rl_names.specs.Frames.{is_of, alphabet_by, alphabet_behind, alphabet_of, frame_by, frame_behind, frame_of, write_by, write_behind, writes_of}
use Rattle.rl_names.specs.Priorities.{priorities_by, priorities_behind, priorities_of}
use Rattle.rl_names.specs.TableForms.{Pointer, pointed, instead}
use Rattle.rl_grammar.specs.Steps.{is_included}
use Rattle.rl_grammar.specs.declared.step.Step.{Step}

-- ---- one statement more

-- what is made anew of what was told of a machine
pub at_own : {A B : Type 0} (told : List ℕ → A) (new : A → B) (old : B) (x m : List ℕ) → cond (bytes_eq x m) (new (told m)) old ≡ cond (bytes_eq x m) (new (told x)) old
at_own told new old x m = elim (cases_Bool (bytes_eq x m)) [
  | inl hit ↦ (let same : x ≡ m = (bytes_eq-Decides x m).0 hit in ap (λ z. cond (bytes_eq x m) (new (told z)) old) (sym same))
  | inr miss ↦ ap (λ z. cond z (new (told m)) old) miss ∙ sym (ap (λ z. cond z (new (told x)) old) miss)
]

one_own : (b : Bool) (own : List Pointer) (p : Pointer) → pointed (cond b (own ++ p ∷ []) (cond b [] own)) ≡ pointed own ++ cond b (p.now ∷ []) []
one_own true own p = map-append (λ (s : Pointer). s.now) own (p ∷ [])
one_own false own p = sym (append-nil (pointed own))

-- a statement put behind those of its machine
pub own_more : (own : List ℕ → List Pointer) (x m : List ℕ) (p : Pointer) → m ≡ p.now.machine
    → pointed (cond (bytes_eq x m) (own m ++ p ∷ []) (cond (bytes_eq x m) [] (own x))) ≡ pointed (own x) ++ filter (is_of x) (p.now ∷ [])
own_more own x m p named =
    ap pointed (at_own own (λ z. z ++ p ∷ []) (cond (bytes_eq x m) [] (own x)) x m)
    ∙ (one_own (bytes_eq x m) (own x) p ∙ ap (λ z. pointed (own x) ++ cond (bytes_eq x z) (p.now ∷ []) []) named)

-- taken out, put behind them, and put back
pub added : (told left new : List ℕ → List Pointer) (own more : List Pointer) (m : List ℕ) (p : Pointer) → m ≡ p.now.machine → own ≡ told m → ((x : List ℕ) → left x ≡ instead x m [] (told x))
    → more ≡ own ++ p ∷ [] → ((x : List ℕ) → new x ≡ instead x m more (left x)) → (x : List ℕ) → pointed (new x) ≡ pointed (told x) ++ filter (is_of x) (p.now ∷ [])
added told left new own more m p named taken out pushed back x =
    ap pointed (back x ∙ (λ j. cond (bytes_eq x m) ((pushed ∙ ap (λ z. z ++ p ∷ []) taken) j) (out x j))) ∙ own_more told x m p named

-- ---- a loop's turns

pub at_head : {A : Type 0} (xs : List A) (i : ℕ) (x : A) → i < length xs → x ≡ get_or xs i x → drop i xs ≡ x ∷ drop (i + 1) xs
at_head xs i x less item =
    let here : drop i xs ≡ get_or xs i x ∷ drop (i + 1) xs = rw (add-one, drop-cons xs i x) refl in
    here ∙ ap (λ z. z ∷ drop (i + 1) xs) (sym item)

filter_one : {A : Type 0} (p : A → Bool) (x : A) (xs : List A) → filter p (x ∷ xs) ≡ filter p (x ∷ []) ++ filter p xs
filter_one p x xs = elim (cases_Bool (p x)) [
  | inl hit ↦ ap (λ z. cond z (x ∷ filter p xs) (filter p xs)) hit ∙ sym (ap (λ z. cond z (x ∷ []) [] ++ filter p xs) hit)
  | inr miss ↦ ap (λ z. cond z (x ∷ filter p xs) (filter p xs)) miss ∙ sym (ap (λ z. cond z (x ∷ []) [] ++ filter p xs) miss)
]

module _ (steps : List Step) (i : ℕ) (s : Step) (less : i < length steps) (item : s ≡ get_or steps i s) where
  -- the statements that are left, one less
  pub groups_go_on : (x : List ℕ) (old new : List Step) → new ≡ old ++ filter (is_of x) (s ∷ []) → old ++ filter (is_of x) (drop i steps) ≡ filter (is_of x) steps
      → new ++ filter (is_of x) (drop (i + 1) steps) ≡ filter (is_of x) steps
  groups_go_on x old new more all =
      ap (λ z. z ++ filter (is_of x) (drop (i + 1) steps)) more
      ∙ (append_assoc old (filter (is_of x) (s ∷ [])) (filter (is_of x) (drop (i + 1) steps))
      ∙ (ap (λ z. old ++ z) (sym (filter_one (is_of x) s (drop (i + 1) steps)) ∙ sym (ap (filter (is_of x)) (at_head steps i s less item))) ∙ all))

pub groups_end : (steps : List Step) (i : ℕ) (x : List ℕ) (own : List Step) → length steps ≤ i → own ++ filter (is_of x) (drop i steps) ≡ filter (is_of x) steps → own ≡ filter (is_of x) steps
groups_end steps i x own over all = sym (append-nil own) ∙ (ap (λ z. own ++ filter (is_of x) z) (sym (drop_all i steps over)) ∙ all)

-- ---- what reads one machine reads its statements alone

module _ (machine : List ℕ) where
  -- statements of other machines change nothing
  fold_own : {S : Type 0} (f : S → Step → S) → ((s : S) (x : Step) → is_of machine x ≡ false → f s x ≡ s) → (start : S) (steps : List Step)
      → fold f start (filter (is_of machine) steps) ≡ fold f start steps
  fold_own f skips start [] = refl
  fold_own f skips start (x ∷ xs) = elim (cases_Bool (is_of machine x)) [
    | inl hit ↦ ap (λ z. fold f start (cond z (x ∷ filter (is_of machine) xs) (filter (is_of machine) xs))) hit ∙ fold_own f skips (f start x) xs
    | inr miss ↦
        ap (λ z. fold f start (cond z (x ∷ filter (is_of machine) xs) (filter (is_of machine) xs))) miss
        ∙ (fold_own f skips start xs ∙ sym (ap (λ z. fold f z xs) (skips start x miss)))
  ]

  along_own : {E S : Type 0} (f : S → Step → Result S E) → ((s : S) (x : Step) → is_of machine x ≡ false → f s x ≡ Ok s) → (start : S) (steps : List Step)
      → along f start (filter (is_of machine) steps) ≡ along f start steps
  along_own f skips start [] = refl
  along_own f skips start (x ∷ xs) = elim (cases_Bool (is_of machine x)) [
    | inl hit ↦
        ap (λ z. along f start (cond z (x ∷ filter (is_of machine) xs) (filter (is_of machine) xs))) hit
        ∙ (λ j. and_then (f start x) (λ t. along_own f skips t xs j))
    | inr miss ↦
        ap (λ z. along f start (cond z (x ∷ filter (is_of machine) xs) (filter (is_of machine) xs))) miss
        ∙ (along_own f skips start xs ∙ sym (ap (λ z. and_then z (λ t. along f t xs)) (skips start x miss)))
  ]

  never : (b : Bool) → (b && false) ≡ false
  never true = refl
  never false = refl

  abbrev own : List Step → List Step
  own steps = filter (is_of machine) steps

  entries_own : (steps : List Step) → entries_of machine (own steps) ≡ entries_of machine steps
  entries_own steps = fold_own (entries_behind machine) (λ names s miss. ap (λ z. cond z (entries_by names s.statement) names) miss) [] steps

  actions_own : (steps : List Step) → actions_of machine (own steps) ≡ actions_of machine steps
  actions_own steps =
      ap (λ entries. fold (actions_behind entries machine) [] (own steps)) (entries_own steps)
      ∙ fold_own (actions_behind (entries_of machine steps) machine) (λ done s miss. ap (λ z. cond z (actions_by (entries_of machine steps) done s.statement) done) miss) [] steps

  alphabet_own : (steps : List Step) → alphabet_of machine (own steps) ≡ alphabet_of machine steps
  alphabet_own steps = fold_own (alphabet_behind machine) (λ a s miss. ap (λ z. cond z (alphabet_by a s.statement) a) miss) _ steps

  priorities_own : (steps : List Step) → priorities_of machine (own steps) ≡ priorities_of machine steps
  priorities_own steps = fold_own (priorities_behind machine) (λ ns s miss. ap (λ z. cond z (priorities_by ns s.statement) ns) miss) [] steps

  frame_own : (steps : List Step) → frame_of machine (own steps) ≡ frame_of machine steps
  frame_own steps = fold_own (frame_behind machine) (λ f s miss. ap (λ z. cond z (frame_by f s.statement) f) miss) _ steps

  writes_own : (steps : List Step) → writes_of machine (own steps) ≡ writes_of machine steps
  writes_own steps =
      fold_own (write_behind machine)
      (λ ws s miss.
      ap (λ z. cond (not (is_included s) && z) (write_by ws s.block s.statement) ws) miss
      ∙ ap (λ z. cond z (write_by ws s.block s.statement) ws) (never (not (is_included s)))) [] steps

  definitions_own : (k : Scope) (steps : List Step) → definitions_of k machine (own steps) ≡ definitions_of k machine steps
  definitions_own k steps =
      along_own (definitions_behind k machine) (λ ds s miss. ap (λ z. cond z (definitions_by k ds s.statement) (Ok ds)) miss) [] steps

  -- the draft of a machine is that of its statements alone
  pub draft_own : (steps : List Step) → draft_of (own steps) machine ≡ draft_of steps machine
  draft_own steps =
      (λ j. and_then (and_then (action_names (actions_own steps j)) (λ names. definitions_own (record {
        alphabet = alphabet_own steps j;
        actions = names;
        priorities = priorities_own steps j;
        earlier = [];
        names = [];
        owner = [];
      }) steps j)) (λ ds. Ok (record {
        machine = machine;
        alphabet = alphabet_own steps j;
        definitions = ds;
        actions = actions_own steps j;
        frame = frame_own steps j;
        writes = writes_own steps j;
      })))

-- the drafts of machines
pub drafts_own : (steps : List Step) (own : List ℕ → List Step) (machines names : List (List ℕ)) → machines ≡ names → ((x : List ℕ) → own x ≡ filter (is_of x) steps)
    → each (λ m. draft_of (own m) m) machines ≡ each (draft_of steps) names
drafts_own steps own machines names same all = (λ j. each (λ m. (ap (λ z. draft_of z m) (all m) ∙ draft_own m steps) j) (same j))
