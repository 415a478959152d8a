-- The entries of machines, and what is told of them as statements are read.
use Rattle.std.proofs.Common.{◌≡◌, ℕ, ◌+◌, ◌<◌, ◌≤◌, Bool, true, false, cond, List, [], ◌∷◌, ◌++◌, length, map, take, drop, get_or, fold, Option, Some, None, inl, inr, refl, sym, ap, ◌∙◌, append_assoc, add-one}
use Rattle.std.specs.Prelude.{◌||◌, ◌&&◌}
use Rattle.std.specs.List.{list_any, cons_option}
use Rattle.std.specs.Str.{bytes_eq}
use Rattle.std.proofs.Math.Seq.{take-suc}
use Rattle.std.proofs.lemmas.Bool.{cases_Bool}
use Rattle.std.proofs.lemmas.List.{map-append, take_all}
use Rattle.std.proofs.lemmas.Slice.Eq.{bytes_eq-Decides}
use Rattle.indexmap.specs.IndexSet.{insert_key}
use Rattle.rl_grammar.specs.declared.step.Step.{Step}
use Rattle.rl_grammar.specs.declared.syntax.Statement.{Statement}
use Rattle.rl_grammar.specs.declared.syntax.Statement.TheVariants as statement
use Rattle.rl_code.specs.declared.said.Control.{Control}
use Rattle.rl_code.specs.declared.said.Said.{Said}
use Rattle.rl_code.specs.Reading.{control_of, controls}
use Rattle.rl_names.specs.Entries.{instantiates, entries_with, entries_by, entries_behind, entries_of, is_entry, is_entered}
use Rattle.rl_names.specs.Frames.{with_name}
use Rattle.rl_names.specs.Names.{Named, same}
use Rattle.rl_names.specs.TableForms.{Text, named}
use Rattle.rl_names.proofs.GroupLaws.{at_head}
use Rattle.rl_names.proofs.TableLaws.{alike, any_named}

-- ---- what is put where it is not there

or_false : (b : Bool) → (b || false) ≡ b
or_false true = refl
or_false false = refl

or_or : (a b c : Bool) → (a || (b || c)) ≡ ((a || b) || c)
or_or true b c = refl
or_or false b c = refl

any_behind : {A : Type 0} (f : A → Bool) (xs : List A) (p : A) → list_any f (xs ++ p ∷ []) ≡ (list_any f xs || f p)
any_behind f [] p = or_false (f p)
any_behind f (x ∷ xs) p = ap (λ z. f x || z) (any_behind f xs p) ∙ or_or (f x) (list_any f xs) (f p)

any_put : {A : Type 0} (eq : A → A → Bool) (q p : A) (xs : List A) → (eq q p ≡ true → q ≡ p) → list_any (eq q) (cond (list_any (eq p) xs) xs (xs ++ p ∷ [])) ≡ (list_any (eq q) xs || eq q p)
any_put eq q p xs is = elim (cases_Bool (list_any (eq p) xs)) [
  | inr miss ↦ ap (λ z. list_any (eq q) (cond z xs (xs ++ p ∷ []))) miss ∙ any_behind (eq q) xs p
  | inl hit ↦ ap (λ z. list_any (eq q) (cond z xs (xs ++ p ∷ []))) hit ∙ there (eq q p) hit is
]
  where
    there : (b : Bool) → list_any (eq p) xs ≡ true → (b ≡ true → q ≡ p) → list_any (eq q) xs ≡ (list_any (eq q) xs || b)
    there false hit is = sym (or_false (list_any (eq q) xs))
    there true hit is = let known : list_any (eq q) xs ≡ true = ap (λ z. list_any (eq z) xs) (is refl) ∙ hit in known ∙ sym (ap (λ z. z || true) known)

-- a name of a machine
same_named : (q p : Named) → same q p ≡ true → q ≡ p
same_named q p e = elim (cases_Bool (bytes_eq q.0 p.0)) [
  | inl first ↦
      let second : bytes_eq q.1 p.1 ≡ true = sym (ap (λ z. z && bytes_eq q.1 p.1) first) ∙ e in
      (λ j. ((bytes_eq-Decides q.0 p.0).0 first j, (bytes_eq-Decides q.1 p.1).0 second j))
  | inr apart ↦ (let never : false ≡ true = sym (ap (λ z. z && bytes_eq q.1 p.1) apart) ∙ e in absurd (cc))
]

pub named_put : (q : Named) (p : Text × Text) (ks : List (Text × Text)) → list_any (same q) (map named (insert_key alike ks p)) ≡ (list_any (same q) (map named ks) || same q (named p))
named_put q p ks =
    shown (list_any (λ k. same (named p) (named k)) ks)
    ∙ (ap (λ z. list_any (same q) (cond z (map named ks) (map named ks ++ named p ∷ []))) (any_named (named p) ks)
    ∙ any_put same q (named p) (map named ks) (same_named q (named p)))
  where
    shown : (b : Bool) → list_any (same q) (map named (cond b ks (ks ++ p ∷ []))) ≡ list_any (same q) (cond b (map named ks) (map named ks ++ named p ∷ []))
    shown true = refl
    shown false = ap (list_any (same q)) (map-append named ks (p ∷ []))

-- ---- one statement more

module _ (m n : List ℕ) where
  abbrev has : List (List ℕ) → Bool
  has names = list_any (bytes_eq n) names

  name_more : (names : List (List ℕ)) (x : List ℕ) → has (with_name names x) ≡ (has names || bytes_eq n x)
  name_more names x = any_put bytes_eq n x names (λ e. (bytes_eq-Decides n x).0 e)

  with_more : (own makes : Bool) (names : List (List ℕ)) (x : List ℕ) → has (cond own (cond makes (with_name names x) names) names) ≡ (has names || (makes && (own && bytes_eq n x)))
  with_more true true names x = name_more names x
  with_more true false names x = sym (or_false (has names))
  with_more false true names x = sym (or_false (has names))
  with_more false false names x = sym (or_false (has names))

  kept : (own : Bool) (names : List (List ℕ)) → has (cond own names names) ≡ (has names || false)
  kept true names = sym (or_false (has names))
  kept false names = sym (or_false (has names))

  statement_more : (machine : List ℕ) (s : Statement) (names : List (List ℕ)) → has (cond (bytes_eq m machine) (entries_by names s) names) ≡ (has names || is_entered m n machine s)
  statement_more machine (statement.Definition d) names = with_more (bytes_eq m machine) (instantiates d.sign) names d.name.text
  statement_more machine (statement.Machine s) names = kept (bytes_eq m machine) names
  statement_more machine (statement.Include s) names = kept (bytes_eq m machine) names
  statement_more machine (statement.Alphtype s) names = kept (bytes_eq m machine) names
  statement_more machine (statement.Access s) names = kept (bytes_eq m machine) names
  statement_more machine (statement.Variable s) names = kept (bytes_eq m machine) names
  statement_more machine (statement.Write s) names = kept (bytes_eq m machine) names
  statement_more machine (statement.Action s) names = kept (bytes_eq m machine) names

  fold_more : (start : List (List ℕ)) (ss : List Step) (s : Step) → has (fold (entries_behind m) start (ss ++ s ∷ [])) ≡ (has (fold (entries_behind m) start ss) || is_entered m n s.machine s.statement)
  fold_more start [] s = statement_more s.machine s.statement start
  fold_more start (t ∷ ss) s = fold_more (entries_behind m start t) ss s

pub entries_go_on : (steps : List Step) (i : ℕ) (s : Step) (m n : List ℕ) (old new : Bool) → i < length steps → s ≡ get_or steps i s → new ≡ (old || is_entered m n s.machine s.statement)
    → old ≡ is_entry m (take i steps) n → new ≡ is_entry m (take (i + 1) steps) n
entries_go_on steps i s m n old new less item more h =
    let front : take (i + 1) steps ≡ take i steps ++ s ∷ [] = rw (add-one, take-suc steps i s less) (ap (λ z. take i steps ++ z ∷ []) (sym item)) in
    more
    ∙ (ap (λ z. z || is_entered m n s.machine s.statement) h
    ∙ (sym (fold_more m n [] (take i steps) s) ∙ ap (λ z. is_entry m z n) (sym front)))

pub entries_end : (steps : List Step) (i : ℕ) (m n : List ℕ) (told : Bool) → length steps ≤ i → told ≡ is_entry m (take i steps) n → told ≡ is_entry m steps n
entries_end steps i m n told over h = h ∙ ap (λ z. is_entry m z n) (take_all i steps over)

-- ---- one word more

cons_more : {B : Type 0} (f : Control → B) (o : Option Control) (cs : List Control) → map f (cons_option o []) ++ map f cs ≡ map f (cons_option o cs)
cons_more f None cs = refl
cons_more f (Some c) cs = refl

pub statements_go_on : {B : Type 0} (f : Control → B) (said : List Said) (i : ℕ) (s : Said) (whole old new : List B) → i < length said → s ≡ get_or said i s
    → new ≡ old ++ map f (controls (s ∷ [])) → old ++ map f (controls (drop i said)) ≡ whole → new ++ map f (controls (drop (i + 1) said)) ≡ whole
statements_go_on f said i s whole old new less item more h =
    ap (λ z. z ++ map f (controls (drop (i + 1) said))) more
    ∙ (append_assoc old (map f (controls (s ∷ []))) (map f (controls (drop (i + 1) said)))
    ∙ (ap (λ z. old ++ z) (cons_more f (control_of s) (controls (drop (i + 1) said)))
    ∙ (ap (λ z. old ++ map f (controls z)) (sym (at_head said i s less item)) ∙ h)))
