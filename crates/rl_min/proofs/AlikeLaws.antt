-- States of twins are alike exactly where those that they stand for are.
use Rattle.std.proofs.Common.{◌≡◌, ℕ, List, [], ◌∷◌, Option, Some, None, refl, sym, ◌∙◌}
use Rattle.std.proofs.lemmas.List.{map-id}
use Rattle.rl_types.specs.declared.numbers.Key.{Key}
use Rattle.rl_run.specs.Machine.{Go, Machine}
use Rattle.rl_run.specs.Twin.{ListR, GoR, IsTwin}
use Rattle.rl_run.specs.Classes.{ShowSame, BothStep, AgreeAlong, AreAlike}

module _ {S T : Type 0} (m : Machine S) (w : Machine T) (R : S → T → Type 0) (twin : IsTwin m w (λ a. a) R) where
  list_is : (xs ys : List ℕ) → ListR m w (λ a. a) R xs ys → ys ≡ xs
  list_is xs ys r = r.0 ∙ map-id xs

  show_from : (q f : S) (p g : T) → R q p → R f g → ShowSame w p g → ShowSame m q f
  show_from q f p g a b s = record {
    asked = λ key. sym (twin.asked f g key b) ∙ s.asked key ∙ twin.asked q p key a;
    from = sym (list_is (m.from f) (w.from g) (twin.from f g b)) ∙ s.from ∙ list_is (m.from q) (w.from p) (twin.from q p a);
    to = sym (list_is (m.to f) (w.to g) (twin.to f g b)) ∙ s.to ∙ list_is (m.to q) (w.to p) (twin.to q p a);
    error = sym (list_is (m.error f) (w.error g) (twin.error f g b)) ∙ s.error ∙ list_is (m.error q) (w.error p) (twin.error q p a);
    eof = sym (list_is (m.eof f) (w.eof g) (twin.eof f g b)) ∙ s.eof ∙ list_is (m.eof q) (w.eof p) (twin.eof q p a);
    token = sym (list_is (m.token f) (w.token g) (twin.token f g b)) ∙ s.token ∙ list_is (m.token q) (w.token p) (twin.token q p a);
    kind = sym (twin.kind f g b) ∙ s.kind ∙ twin.kind q p a;
    final = sym (twin.final f g b) ∙ s.final ∙ twin.final q p a;
    is_failed = sym (twin.is_failed f g b) ∙ s.is_failed ∙ twin.is_failed q p a;
  }

  show_to : (q f : S) (p g : T) → R q p → R f g → ShowSame m q f → ShowSame w p g
  show_to q f p g a b s = record {
    asked = λ key. twin.asked f g key b ∙ s.asked key ∙ sym (twin.asked q p key a);
    from = list_is (m.from f) (w.from g) (twin.from f g b) ∙ s.from ∙ sym (list_is (m.from q) (w.from p) (twin.from q p a));
    to = list_is (m.to f) (w.to g) (twin.to f g b) ∙ s.to ∙ sym (list_is (m.to q) (w.to p) (twin.to q p a));
    error = list_is (m.error f) (w.error g) (twin.error f g b) ∙ s.error ∙ sym (list_is (m.error q) (w.error p) (twin.error q p a));
    eof = list_is (m.eof f) (w.eof g) (twin.eof f g b) ∙ s.eof ∙ sym (list_is (m.eof q) (w.eof p) (twin.eof q p a));
    token = list_is (m.token f) (w.token g) (twin.token f g b) ∙ s.token ∙ sym (list_is (m.token q) (w.token p) (twin.token q p a));
    kind = twin.kind f g b ∙ s.kind ∙ sym (twin.kind q p a);
    final = twin.final f g b ∙ s.final ∙ sym (twin.final q p a);
    is_failed = twin.is_failed f g b ∙ s.is_failed ∙ sym (twin.is_failed q p a);
  }

  agree_from : (word : List (Key × ℕ)) (q f : S) (p g : T) → R q p → R f g → AgreeAlong w word p g → AgreeAlong m word q f
  agree_from [] q f p g a b s = show_from q f p g a b s
  agree_from (l ∷ word) q f p g a b s = go (λ x y u v r s a. agree_from word x y u v r s a) (m.find q l.0 l.1) (m.find f l.0 l.1) (w.find p l.0 l.1) (w.find g l.0 l.1) (twin.find q p l.0 l.1 a) (twin.find f g l.0 l.1 b) s
    where
      go : ((x y : S) (u v : T) → R x u → R y v → AgreeAlong w word u v → AgreeAlong m word x y) → (x y : Option (Go S)) (u v : Option (Go T)) → GoR m w (λ a. a) R x u → GoR m w (λ a. a) R y v → BothStep w (AgreeAlong w word) u v → BothStep m (AgreeAlong m word) x y
      go on None None None None r s a = tt
      go on None None None (Some v) r s a = absurd s
      go on None (Some y) None None r s a = absurd s
      go on None (Some y) None (Some v) r s a = absurd a
      go on None y (Some u) v r s a = absurd r
      go on (Some x) y None v r s a = absurd r
      go on (Some x) None (Some u) None r s a = absurd a
      go on (Some x) None (Some u) (Some v) r s a = absurd s
      go on (Some x) (Some y) (Some u) None r s a = absurd s
      go on (Some x) (Some y) (Some u) (Some v) r s a =
          (sym (list_is y.list v.list s.1) ∙ a.0 ∙ list_is x.list u.list r.1, on x.target y.target u.target v.target r.0 s.0 a.1)

  agree_to : (word : List (Key × ℕ)) (q f : S) (p g : T) → R q p → R f g → AgreeAlong m word q f → AgreeAlong w word p g
  agree_to [] q f p g a b s = show_to q f p g a b s
  agree_to (l ∷ word) q f p g a b s = go (λ x y u v r s a. agree_to word x y u v r s a) (m.find q l.0 l.1) (m.find f l.0 l.1) (w.find p l.0 l.1) (w.find g l.0 l.1) (twin.find q p l.0 l.1 a) (twin.find f g l.0 l.1 b) s
    where
      go : ((x y : S) (u v : T) → R x u → R y v → AgreeAlong m word x y → AgreeAlong w word u v) → (x y : Option (Go S)) (u v : Option (Go T)) → GoR m w (λ a. a) R x u → GoR m w (λ a. a) R y v → BothStep m (AgreeAlong m word) x y → BothStep w (AgreeAlong w word) u v
      go on None None None None r s a = tt
      go on None None None (Some v) r s a = absurd s
      go on None (Some y) None None r s a = absurd s
      go on None (Some y) None (Some v) r s a = absurd a
      go on None y (Some u) v r s a = absurd r
      go on (Some x) y None v r s a = absurd r
      go on (Some x) None (Some u) None r s a = absurd a
      go on (Some x) None (Some u) (Some v) r s a = absurd s
      go on (Some x) (Some y) (Some u) None r s a = absurd s
      go on (Some x) (Some y) (Some u) (Some v) r s a =
          (list_is y.list v.list s.1 ∙ a.0 ∙ sym (list_is x.list u.list r.1), on x.target y.target u.target v.target r.0 s.0 a.1)

  pub alike_from : (q f : S) (p g : T) → R q p → R f g → AreAlike w p g → AreAlike m q f
  alike_from q f p g a b s =
      ((λ word. agree_from word q f p g a b (s.0 word)), (λ word. agree_from word (m.home q) (m.home f) (w.home p) (w.home g) (twin.home q p a) (twin.home f g b) (s.1 word)))

  pub alike_to : (q f : S) (p g : T) → R q p → R f g → AreAlike m q f → AreAlike w p g
  alike_to q f p g a b s =
      ((λ word. agree_to word q f p g a b (s.0 word)), (λ word. agree_to word (m.home q) (m.home f) (w.home p) (w.home g) (twin.home q p a) (twin.home f g b) (s.1 word)))

-- ---- the same machines under another name of what stands for what

module _ {S T : Type 0} (m : Machine S) (w : Machine T) (R Q : S → T → Type 0) (to : (q : S) (p : T) → R q p → Q q p) (back : (q : S) (p : T) → Q q p → R q p) (twin : IsTwin m w (λ a. a) R) where
  gos : (g : Option (Go S)) (h : Option (Go T)) → GoR m w (λ a. a) R g h → GoR m w (λ a. a) Q g h
  gos None None r = tt
  gos None (Some h) r = absurd r
  gos (Some g) None r = absurd r
  gos (Some g) (Some h) r = (to g.target h.target r.0, r.1)

  pub twin_by : IsTwin m w (λ a. a) Q
  twin_by = record {
    width = twin.width;
    key_of = twin.key_of;
    asked = λ q p key r. twin.asked q p key (back q p r);
    find = λ q p key hold r. gos (m.find q key hold) (w.find p key hold) (twin.find q p key hold (back q p r));
    from = λ q p r. twin.from q p (back q p r);
    to = λ q p r. twin.to q p (back q p r);
    error = λ q p r. twin.error q p (back q p r);
    eof = λ q p r. twin.eof q p (back q p r);
    token = λ q p r. twin.token q p (back q p r);
    kind = λ q p r. twin.kind q p (back q p r);
    final = λ q p r. twin.final q p (back q p r);
    home = λ q p r. to (m.home q) (w.home p) (twin.home q p (back q p r));
    failed = to m.failed w.failed twin.failed;
    is_failed = λ q p r. twin.is_failed q p (back q p r);
    condition_name = twin.condition_name;
    entry_name = twin.entry_name;
    entry = λ e. to (m.entry e) (w.entry e) (twin.entry e);
  }
