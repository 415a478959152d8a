-- Classes of alike states are stable.
use Rattle.std.proofs.Common.{◌≡◌, ℕ, List, [], ◌∷◌, refl, sym, subst, Option, Some, None, option_map}
use Rattle.rl_types.specs.declared.numbers.Key.{Key}
use Rattle.rl_run.specs.Machine.{Go, Machine}
use Rattle.rl_run.specs.Twin.{IsTwin}
use Rattle.rl_run.proofs.Quotient.{quotient_twin}
use Rattle.rl_run.specs.Classes.{quotient, InClass, class_go, LooksAlike, IsStable, BothStep, AgreeAlong, Agree, AreAlike, AreClasses, AreReached}

module _ {S : Type 0} (m : Machine S) (In : S → Type 0) (class : S → ℕ) (state : ℕ → S) (reached : AreReached m In) (classes : AreClasses m In class state) where
  finds : (q p : S) (key : Key) (hold : ℕ) → In q → In p → AreAlike m q p → option_map (class_go m class) (m.find p key hold) ≡ option_map (class_go m class) (m.find q key hold)
  finds q p key hold r s (a, b) = go (m.find q key hold) (m.find p key hold) refl refl (λ word. a ((key, hold) ∷ word))
    where
      go : (g h : Option (Go S)) → m.find q key hold ≡ g → m.find p key hold ≡ h → ((word : List (Key × ℕ)) → BothStep m (AgreeAlong m word) g h)
          → option_map (class_go m class) h ≡ option_map (class_go m class) g
      go None None e f k = refl
      go None (Some h) e f k = absurd (k [])
      go (Some g) None e f k = absurd (k [])
      go (Some g) (Some h) e f k =
          let x = reached.steps q key hold g r e in
          let y = reached.steps p key hold h s f in
          let homes : Agree m (m.home g.target) (m.home h.target) = subst (λ z. Agree m z (m.home h.target)) (sym x.1) (subst (λ z. Agree m (m.home q) z) (sym y.1) b) in
          let same = classes.complete g.target h.target x.0 y.0 ((λ word. (k word).1), homes) in
          λ i. Some (record { target = sym same i; list = (k []).0 i })

  looks : (q p : S) → In q → In p → AreAlike m q p → LooksAlike m class q p
  looks q p r s a =
      let x = reached.homes q r in
      let y = reached.homes p s in
      let show = a.0 [] in record {
        asked = show.asked;
        find = λ key hold. finds q p key hold r s a;
        from = show.from;
        to = show.to;
        error = show.error;
        eof = show.eof;
        token = show.token;
        kind = show.kind;
        final = show.final;
        home = sym (classes.complete (m.home q) (m.home p) x.0 y.0 (a.1, subst (λ z. Agree m z (m.home (m.home p))) (sym x.1) (subst (λ z. Agree m (m.home q) z) (sym y.1) a.1)));
        is_failed = show.is_failed;
      }

  pub classes_stable : IsStable m class In state
  classes_stable = record {
    alike = λ q r. let p = classes.picks q r in looks q (state (class q)) r p.0 (classes.sound q (state (class q)) r p.0 (sym p.1));
    steps = λ q key hold g r e. (reached.steps q key hold g r e).0;
    homes = λ q r. (reached.homes q r).0;
    failed = reached.failed;
    entries = reached.entries;
  }

-- the machine of the classes of alike states is a twin
pub classes_twin : {S : Type 0} (m : Machine S) (In : S → Type 0) (class : S → ℕ) (state : ℕ → S) → AreReached m In → AreClasses m In class state
    → IsTwin m (quotient m class state) (λ a. a) (InClass m class In)
classes_twin m In class state reached classes = quotient_twin m class In state (classes_stable m In class state reached classes)
