-- In a machine without a state too many each pair is told apart by some word.
use Rattle.std.proofs.Common.{◌≡◌, ℕ, ◌<◌, Bool, true, false, not, ◌&&◌, ◌==◌, List, [], ◌∷◌, length, Option, Some, None, refl, ap, sym, subst, arith}
use native.Mathlib.Decide.{dec_lt}
use borrow.Author.Tests.{eqb-true}
use Rattle.rl_types.specs.declared.numbers.ActionId.{ActionId}
use Rattle.rl_types.specs.declared.numbers.Key.{Key}
use Rattle.rl_types.specs.declared.numbers.Letter.{Letter}
use Rattle.rl_run.specs.Machine.{Go, Machine}
use Rattle.rl_run.specs.Classes.{BothStep, AgreeAlong, Agree}
use Rattle.rl_model.specs.Parts.{Context}
use Rattle.rl_minimal.specs.Minimal.{Minimal, kind_at, home_at}
use Rattle.rl_minimal.specs.Machine.{min_machine}
use Rattle.rl_minimal.specs.Sound.{IsMinimal}
use Rattle.rl_certificate.specs.Walks.{walk}
use Rattle.rl_certificate.specs.Views.{ShowSame}
use Rattle.rl_certificate.specs.Certificates.{do_homes_count, Differ}
use Rattle.rl_certificate.specs.Firsts.{TellsApart, AreOwnHomes}
use Rattle.rl_certificate.specs.Reduced.{IsReduced}
use Rattle.rl_certificate.proofs.ApartLaws.{AreShown, shown_agree}

-- ---- what does not differ is the same

abbrev Not : Type 0 → Type 0
Not P = P → ⊥

nat_same : (a b : ℕ) → Not (Not (a ≡ b)) → a ≡ b
nat_same a b f = elim (dec_lt a b) [
  | yes l ↦ absurd (f (λ e. let q : a ≡ b = e in absurd (omega arith)))
  | no n ↦ elim (dec_lt b a) [
    | yes l ↦ absurd (f (λ e. let q : a ≡ b = e in absurd (omega arith)))
    | no o ↦ omega arith
  ]
]

bool_same : (a b : Bool) → Not (Not (a ≡ b)) → a ≡ b
bool_same true true f = refl
bool_same false false f = refl
bool_same true false f = absurd (f (λ e. cc))
bool_same false true f = absurd (f (λ e. cc))

action_same : (x y : ActionId) → x.0 ≡ y.0 → x ≡ y
action_same x y e = λ i. record { 0 = e i }

list_first : (x y : ActionId) (xs ys : List ActionId) → x ∷ xs ≡ y ∷ ys → x ≡ y
list_first x y xs ys e = cc

list_rest : (x y : ActionId) (xs ys : List ActionId) → x ∷ xs ≡ y ∷ ys → xs ≡ ys
list_rest x y xs ys e = cc

list_none : (y : ActionId) (ys : List ActionId) → [] ≡ y ∷ ys → ⊥
list_none y ys e = cc

list_same : (xs ys : List ActionId) → Not (Not (xs ≡ ys)) → xs ≡ ys
list_same [] [] f = refl
list_same [] (y ∷ ys) f = absurd (f (λ e. list_none y ys e))
list_same (x ∷ xs) [] f = absurd (f (λ e. list_none x xs (sym e)))
list_same (x ∷ xs) (y ∷ ys) f =
    let a : x ≡ y = action_same x y (nat_same x.0 y.0 (λ n. f (λ e. n (ap (λ (z : ActionId). z.0) (list_first x y xs ys e))))) in
    let b : xs ≡ ys = list_same xs ys (λ n. f (λ e. n (list_rest x y xs ys e))) in
    λ i. a i ∷ b i

some_list : (x y : List ActionId) → Some x ≡ Some y → x ≡ y
some_list x y e = cc

none_list : (y : List ActionId) → None ≡ Some y → ⊥
none_list y e = cc

option_same : (o p : Option (List ActionId)) → Not (Not (o ≡ p)) → o ≡ p
option_same None None f = refl
option_same None (Some y) f = absurd (f (λ e. none_list y e))
option_same (Some x) None f = absurd (f (λ e. none_list x (sym e)))
option_same (Some x) (Some y) f = ap Some (list_same x y (λ n. f (λ e. n (some_list x y e))))

pub shows_same : (m : Minimal) (homes : Bool) (i j : ℕ) → Not (Not (ShowSame m homes i j)) → ShowSame m homes i j
shows_same m homes i j f = record {
  from = list_same _ _ (λ n. f (λ s. n s.from));
  to = list_same _ _ (λ n. f (λ s. n s.to));
  eof = list_same _ _ (λ n. f (λ s. n s.eof));
  error = list_same _ _ (λ n. f (λ s. n s.error));
  token = list_same _ _ (λ n. f (λ s. n s.token));
  verdict = bool_same _ _ (λ n. f (λ s. n s.verdict));
  kind = nat_same _ _ (λ n. f (λ s. n s.kind));
  home = λ t. nat_same _ _ (λ n. f (λ s. n (s.home t)));
  steps = record {
    asked = λ k. nat_same _ _ (λ n. f (λ s. n (s.steps.asked k)));
    lists = λ l. option_same _ _ (λ n. f (λ s. n (s.steps.lists l)));
  };
}

-- ---- a state agrees with itself

module _ {S : Type 0} (M : Machine S) where
  both_self : (word : List (Key × ℕ)) → ((q : S) → AgreeAlong M word q q) → (g : Option (Go S)) → BothStep M (AgreeAlong M word) g g
  both_self word f None = tt
  both_self word f (Some g) = (refl, f g.target)

  along_self : (word : List (Key × ℕ)) (q : S) → AgreeAlong M word q q
  along_self [] q = record {
    asked = λ k. refl;
    from = refl;
    to = refl;
    error = refl;
    eof = refl;
    token = refl;
    kind = refl;
    final = refl;
    is_failed = refl;
  }
  along_self (l ∷ word) q = both_self word (along_self word) (M.find q l.0 l.1)

  pub agree_self : (q : S) → Agree M q q
  agree_self q word = along_self word q

-- ---- pairs that no word tells apart are alike

and_split : (a b : Bool) → not (a && b) ≡ false → (a ≡ true) × (b ≡ true)
and_split true true e = (refl, refl)
and_split true false e = absurd (never e)
  where
    never : true ≡ false → ⊥
    never q = cc
and_split false b e = absurd (never e)
  where
    never : true ≡ false → ⊥
    never q = cc

module _ (m : Minimal) (sound : IsMinimal m) (reduced : IsReduced m) (own : AreOwnHomes m) (context : Context) where
  abbrev M : Machine ℕ
  M = min_machine m context

  shown : (homes : Bool) (i j : ℕ) → ((w : List Letter) → TellsApart m homes w i j → ⊥) → AreShown m homes i j
  shown homes i j none = record {
    each = λ w q p a b. shows_same m homes q p (λ n. none w (subst (λ o. Differ m homes o (walk m w j)) (sym a) (subst (λ o. Differ m homes (Some q) o) (sym b) n)));
  }

  homes_agree : (homes : Bool) (i j : ℕ) → do_homes_count m i j ≡ homes → AreShown m homes i j → Agree M i j → Agree M (home_at m.states i) (home_at m.states j)
  homes_agree true i j h s a = subst (λ x. Agree M (home_at m.states i) x) ((s.each [] i j refl refl).home refl) (agree_self M (home_at m.states i))
  homes_agree false i j h s a =
      let k = and_split (kind_at m.states i == 1) (kind_at m.states j == 1) h in
      let x : home_at m.states i ≡ i = own.each i (eqb-true (kind_at m.states i) 1 k.0) in
      let y : home_at m.states j ≡ j = own.each j (eqb-true (kind_at m.states j) 1 k.1) in
      subst (λ z. Agree M z (home_at m.states j)) (sym x) (subst (λ z. Agree M i z) (sym y) a)

  -- so two different states are told apart by some word
  pub told_apart : (i j : ℕ) → 0 < i → i < j → j < length m.states → ((w : List Letter) → TellsApart m (do_homes_count m i j) w i j → ⊥) → ⊥
  told_apart i j z l h none =
      let s = shown (do_homes_count m i j) i j none in
      let a = shown_agree m sound context (do_homes_count m i j) i j z (omega arith) s in
      let e : i ≡ j = reduced.unlike context i j z (omega arith) (omega arith) h (a, homes_agree (do_homes_count m i j) i j refl s a) in
      absurd (omega arith)
