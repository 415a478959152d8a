-- The names of steps that are checked one after another.
use Rattle.std.proofs.Common.{◌≡◌, ℕ, ◌+◌, ◌<◌, ◌≤◌, cond, List, [], ◌∷◌, ◌++◌, length, take, drop, fold, get_or, append_assoc, Option, None, refl, sym, ap, ◌∙◌, subst, arith, add-one, drop-cons}
use Rattle.std.specs.List.{flat_map}
use Rattle.std.specs.Str.{bytes_eq}
use Rattle.std.proofs.Math.Seq.{take-suc}
use Rattle.std.proofs.lemmas.List.{append-nil, drop_all}
use Rattle.rl_grammar.specs.declared.read_fault.ReadFault.{ReadFault}
use Rattle.rl_grammar.specs.declared.read_fault.ReadFault.TheVariants as reason
use Rattle.rl_names.specs.Answers.{or_else, Told}
use Rattle.rl_names.specs.Names.{Known, known, known_behind, behind, nothing, names_of, names_by, action_by, statement_fault, step_fault, faults_behind, names_fault}
use Rattle.rl_names.specs.TableForms.{count_in}
use Rattle.rl_names.specs.Tables.{seen, IsNoted}
use Rattle.rl_grammar.specs.declared.step.Step.{Step}
use Rattle.rl_names.specs.declared.tables.Tables.{Tables}

-- the steps before this place have no fault, and the tables have what they define
pub record AreChecked (steps : List Step) (at : ℕ) (t : Tables) : Type 0 where
  pub tables : seen t ≡ known (take at steps)
  pub counts : (x : List ℕ) → count_in x t.counts ≡ names_of x (take at steps)
  pub due : faults_behind (take at steps) (drop at steps) ≡ names_fault steps

pub fold_behind : {A B : Type 0} (f : B → A → B) (start : B) (xs : List A) (x : A) → fold f start (xs ++ x ∷ []) ≡ f (fold f start xs) x
fold_behind f start [] x = refl
fold_behind f start (y ∷ xs) x = fold_behind f (f start y) xs x

known_more : (ss : List Step) (s : Step) → known (ss ++ s ∷ []) ≡ behind (known ss) s.machine s.statement
known_more ss s = fold_behind known_behind nothing ss s

-- what is known of actions does not depend on expressions
pub actions_known : (ss : List Step) → (known ss).actions ≡ flat_map (λ s. action_by s.machine s.statement) ss
actions_known ss = from nothing ss
  where
    from : (k : Known) (ss : List Step) → (fold known_behind k ss).actions ≡ k.actions ++ flat_map (λ s. action_by s.machine s.statement) ss
    from k [] = sym (append-nil k.actions)
    from k (s ∷ ss) = from (known_behind k s) ss ∙ append_assoc k.actions (action_by s.machine s.statement) (flat_map (λ s. action_by s.machine s.statement) ss)

names_more : (x : List ℕ) (ss : List Step) (s : Step) → names_of x (ss ++ s ∷ []) ≡ cond (bytes_eq x s.machine) (names_by s.statement) 0 + names_of x ss
names_more x [] s = refl
names_more x (t ∷ ss) s = let more = names_more x ss s in omega (arith, more)

pub told_else : (e : ReadFault) (a b : Option ReadFault) → Told a e → Told (or_else a b) e
told_else (reason.Fault f) a b h = ap (λ z. or_else z b) h
told_else (reason.Limit l) a b h = ap (λ z. or_else z b) h
told_else reason.Memory a b h = tt

pub told_along : (e : ReadFault) (a b : Option ReadFault) → a ≡ b → Told a e → Told b e
told_along e a b same h = subst (λ z. Told z e) same h

module _ (steps : List Step) (i : ℕ) (s : Step) (old : Tables) (less : i < length steps) (item : s ≡ get_or steps i s) (h : AreChecked steps i old) where
  due_is : statement_fault (seen old) s.machine (count_in s.machine old.counts) s.statement ≡ step_fault (take i steps) s
  due_is = (λ j. statement_fault (h.tables j) s.machine (h.counts s.machine j) s.statement)

  front_is : take (i + 1) steps ≡ take i steps ++ s ∷ []
  front_is = rw (add-one, take-suc steps i s less) (ap (λ z. take i steps ++ z ∷ []) (sym item))

  rest_is : drop i steps ≡ s ∷ drop (i + 1) steps
  rest_is =
      let here : drop i steps ≡ get_or steps i s ∷ drop (i + 1) steps = rw (add-one, drop-cons steps i s) refl in
      here ∙ ap (λ z. z ∷ drop (i + 1) steps) (sym item)

  whole_is : or_else (step_fault (take i steps) s) (faults_behind (take i steps ++ s ∷ []) (drop (i + 1) steps)) ≡ names_fault steps
  whole_is = sym (ap (faults_behind (take i steps)) rest_is) ∙ h.due

  pub goes_on : (new : Tables) → IsNoted (statement_fault (seen old) s.machine (count_in s.machine old.counts) s.statement) s.machine s.statement old new → AreChecked steps (i + 1) new
  goes_on new n = record {
    tables = n.known ∙ (ap (λ z. behind z s.machine s.statement) h.tables ∙ (sym (known_more (take i steps) s) ∙ sym (ap known front_is)));
    counts = λ x.
        n.counted x ∙ (ap (λ z. cond (bytes_eq x s.machine) (names_by s.statement) 0 + z) (h.counts x)
        ∙ (sym (names_more x (take i steps) s) ∙ sym (ap (names_of x) front_is)));
    due =
        let right : step_fault (take i steps) s ≡ None = sym due_is ∙ n.right in
        ap (λ z. faults_behind z (drop (i + 1) steps)) front_is
        ∙ (sym (ap (λ z. or_else z (faults_behind (take i steps ++ s ∷ []) (drop (i + 1) steps))) right) ∙ whole_is);
  }

  pub stops : (e : ReadFault) → Told (statement_fault (seen old) s.machine (count_in s.machine old.counts) s.statement) e → Told (names_fault steps) e
  stops e t = told_along e _ _ whole_is (told_else e (step_fault (take i steps) s) _ (told_along e _ _ due_is t))

pub ends : (steps : List Step) (i : ℕ) (t : Tables) → length steps ≤ i → AreChecked steps i t → names_fault steps ≡ None
ends steps i t over h = sym h.due ∙ ap (faults_behind (take i steps)) (drop_all i steps over)
