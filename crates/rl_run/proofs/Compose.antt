-- Twins of twins.
use Rattle.std.proofs.Common.{◌≡◌, ℕ, List, [], ◌∷◌, map, refl, ◌∙◌, ap, subst, Option, Some, None}
use Rattle.std.specs.List.{AllByRecursion}
use Rattle.rl_run.specs.Machine.{Go, Machine}
use Rattle.rl_run.specs.Twin.{Agrees, ListR, GoR, IsTwin, After}

module _ {S T U : Type 0} (m : Machine S) (w : Machine T) (v : Machine U) (ρ σ : ℕ → ℕ) (R : S → T → Type 0) (Q : T → U → Type 0) (A : IsTwin m w ρ R) (B : IsTwin w v σ Q) where
  abbrev both : ℕ → ℕ
  both a = σ (ρ a)

  abbrev RQ : S → U → Type 0
  RQ = After R Q

  map_both : (xs : List ℕ) → map σ (map ρ xs) ≡ map both xs
  map_both [] = refl
  map_both (x ∷ xs) = ap (λ ys. both x ∷ ys) (map_both xs)

  agree_on : (xs : List ℕ) → AllByRecursion (Agrees m w ρ R) xs → AllByRecursion (Agrees w v σ Q) (map ρ xs) → AllByRecursion (Agrees m v both RQ) xs
  agree_on [] a b = tt
  agree_on (x ∷ xs) a b = ((λ n. b.0.0 n ∙ a.0.0 n, b.0.1 ∙ a.0.1), agree_on xs a.1 b.1)

  lists : (xs ys zs : List ℕ) → ListR m w ρ R xs ys → ListR w v σ Q ys zs → ListR m v both RQ xs zs
  lists xs ys zs (e, a) (f, b) = (f ∙ ap (map σ) e ∙ map_both xs, agree_on xs a (subst (AllByRecursion (Agrees w v σ Q)) e b))

  gos : (g : Option (Go S)) (h : Option (Go T)) (k : Option (Go U)) → GoR m w ρ R g h → GoR w v σ Q h k → GoR m v both RQ g k
  gos None None None a b = tt
  gos (Some g) (Some h) (Some k) a b = ((h.target, a.0, b.0), lists g.list h.list k.list a.1 b.1)
  gos None None (Some k) a b = absurd b
  gos None (Some h) k a b = absurd a
  gos (Some g) None k a b = absurd a
  gos (Some g) (Some h) None a b = absurd b

  pub twin_after : IsTwin m v both RQ
  twin_after = record {
    width = B.width ∙ A.width;
    key_of = λ character. B.key_of character ∙ A.key_of character;
    asked = λ q p key r. B.asked r.0 p key r.2 ∙ A.asked q r.0 key r.1;
    find = λ q p key hold r. gos (m.find q key hold) (w.find r.0 key hold) (v.find p key hold) (A.find q r.0 key hold r.1) (B.find r.0 p key hold r.2);
    from = λ q p r. lists (m.from q) (w.from r.0) (v.from p) (A.from q r.0 r.1) (B.from r.0 p r.2);
    to = λ q p r. lists (m.to q) (w.to r.0) (v.to p) (A.to q r.0 r.1) (B.to r.0 p r.2);
    error = λ q p r. lists (m.error q) (w.error r.0) (v.error p) (A.error q r.0 r.1) (B.error r.0 p r.2);
    eof = λ q p r. lists (m.eof q) (w.eof r.0) (v.eof p) (A.eof q r.0 r.1) (B.eof r.0 p r.2);
    token = λ q p r. lists (m.token q) (w.token r.0) (v.token p) (A.token q r.0 r.1) (B.token r.0 p r.2);
    kind = λ q p r. B.kind r.0 p r.2 ∙ A.kind q r.0 r.1;
    final = λ q p r. B.final r.0 p r.2 ∙ A.final q r.0 r.1;
    home = λ q p r. (w.home r.0, A.home q r.0 r.1, B.home r.0 p r.2);
    failed = (w.failed, A.failed, B.failed);
    is_failed = λ q p r. B.is_failed r.0 p r.2 ∙ A.is_failed q r.0 r.1;
    condition_name = λ c. B.condition_name c ∙ A.condition_name c;
    entry_name = λ e. B.entry_name e ∙ A.entry_name e;
    entry = λ e. (w.entry e, A.entry e, B.entry e);
  }
