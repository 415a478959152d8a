-- The machine of stable classes is a twin.
use Rattle.std.proofs.Common.{◌≡◌, ℕ, List, [], ◌∷◌, refl, sym, ◌∙◌, ap, subst, Option, Some, None, option_map}
use Rattle.std.proofs.lemmas.List.{map-id}
use Rattle.std.specs.List.{AllByRecursion}
use Rattle.rl_types.specs.declared.numbers.Key.{Key}
use Rattle.rl_run.specs.Machine.{Go, Machine}
use Rattle.rl_run.specs.Twin.{Agrees, ListR, GoR, IsTwin}
use Rattle.rl_run.specs.Classes.{class_go, quotient, IsStable, InClass}

module _ {S : Type 0} (m : Machine S) (class : S → ℕ) (In : S → Type 0) (state : ℕ → S) (stable : IsStable m class In state) where
  abbrev small : Machine ℕ
  small = quotient m class state

  abbrev At : S → ℕ → Type 0
  At = InClass m class In

  all_agree : (xs : List ℕ) → AllByRecursion (Agrees m small (λ a. a) At) xs
  all_agree [] = tt
  all_agree (x ∷ xs) = ((λ n. refl, refl), all_agree xs)

  on_class : {X : Type 0} (f : S → X) → ((q : S) → In q → f (state (class q)) ≡ f q) → (q : S) (p : ℕ) → At q p → f (state p) ≡ f q
  on_class f h q p (e, r) = ap (λ c. f (state c)) e ∙ h q r

  list_on : (f : S → List ℕ) → ((q : S) → In q → f (state (class q)) ≡ f q) → (q : S) (p : ℕ) → At q p → ListR m small (λ a. a) At (f q) (f (state p))
  list_on f h q p r = (on_class f h q p r ∙ sym (map-id (f q)), all_agree (f q))

  gos : (q : S) (key : Key) (hold : ℕ) → In q → (g : Option (Go S)) → m.find q key hold ≡ g → GoR m small (λ a. a) At g (option_map (class_go m class) g)
  gos q key hold r None e = tt
  gos q key hold r (Some g) e = ((refl, stable.steps q key hold g r e), (sym (map-id g.list), all_agree g.list))

  finds : (q : S) (p : ℕ) (key : Key) (hold : ℕ) → At q p → GoR m small (λ a. a) At (m.find q key hold) (small.find p key hold)
  finds q p key hold (e, r) =
      subst (GoR m small (λ a. a) At (m.find q key hold)) (sym (ap (λ c. small.find c key hold) e ∙ (stable.alike q r).find key hold)) (gos q key hold r (m.find q key hold) refl)

  pub quotient_twin : IsTwin m small (λ a. a) At
  quotient_twin = record {
    width = refl;
    key_of = λ character. refl;
    asked = λ q p key r. on_class (λ q. m.asked q key) (λ q i. (stable.alike q i).asked key) q p r;
    find = finds;
    from = list_on m.from (λ q i. (stable.alike q i).from);
    to = list_on m.to (λ q i. (stable.alike q i).to);
    error = list_on m.error (λ q i. (stable.alike q i).error);
    eof = list_on m.eof (λ q i. (stable.alike q i).eof);
    token = list_on m.token (λ q i. (stable.alike q i).token);
    kind = on_class m.kind (λ q i. (stable.alike q i).kind);
    final = on_class m.final (λ q i. (stable.alike q i).final);
    home = λ q p r. (on_class (λ q. class (m.home q)) (λ q i. (stable.alike q i).home) q p r, stable.homes q r.1);
    failed = (refl, stable.failed);
    is_failed = on_class m.is_failed (λ q i. (stable.alike q i).is_failed);
    condition_name = λ c. refl;
    entry_name = λ e. refl;
    entry = λ e. (refl, stable.entries e);
  }
