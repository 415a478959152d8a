-- What a call on one session leaves of the others, for those who put calls together.
use Rattle.std.proofs.Common.{◌≡◌, ℕ, ◌+◌, ◌*◌, drop, Bool, true, false, cond, List, [], ◌∷◌, ◌++◌, map, length, Some, None, refl, sym, ◌∙◌, ap, subst, arith}
use Rattle.std.proofs.lemmas.List.{length-drop}
use Rattle.std.specs.Str.{bytes_eq}
use Rattle.std.proofs.lemmas.Slice.Eq.{bytes_eq-Decides}
use Rattle.rl_run.specs.declared.calls.Call.{Call}
use Rattle.rl_run.specs.declared.calls.Answer.{Answer}
use Rattle.rl_run.specs.declared.calls.Outcome.{Outcome}
use Rattle.rl_arrays.specs.TableMachine.{machine}
use Rattle.rl_sessions.specs.Runs.{TakesPiece}
use Rattle.rl_sessions.specs.SessionsValue.{SessionValue, SessionsValue, IsWindowOf, started, find, replaced}

abbrev names : List SessionValue → List (List ℕ)
names all = map (λ (x : SessionValue). x.name) all

found_here : (x y : SessionValue) → Some x ≡ Some y → x ≡ y
found_here x y e = cc

-- the session that is found has the name
pub found_name : (name : List ℕ) (all : List SessionValue) (x : SessionValue) → find name all ≡ Some x → x.name ≡ name
found_name name [] x e = absurd (no e)
  where
    no : None ≡ Some x → ⊥
    no e = cc
found_name name (z ∷ zs) x e = go (bytes_eq z.name name) refl e (found_name name zs x)
  where
    go : (b : Bool) → bytes_eq z.name name ≡ b → cond b (Some z) (find name zs) ≡ Some x → (find name zs ≡ Some x → x.name ≡ name) → x.name ≡ name
    go true t e rec = ap (λ (y : SessionValue). y.name) (sym (found_here z x e)) ∙ (bytes_eq-Decides z.name name).0 t
    go false t e rec = rec e

-- where a session is replaced by another of its name, that one is found
pub replaced_found : (name : List ℕ) (all : List SessionValue) (x y : SessionValue) → find name all ≡ Some x → y.name ≡ name → find name (replaced name y all) ≡ Some y
replaced_found name [] x y e n = absurd (no e)
  where
    no : None ≡ Some x → ⊥
    no e = cc
replaced_found name (z ∷ zs) x y e n = go (bytes_eq z.name name) refl e (λ f. replaced_found name zs x y f n)
  where
    here : bytes_eq y.name name ≡ true
    here = (bytes_eq-Decides y.name name).1 n

    go : (b : Bool) → bytes_eq z.name name ≡ b → cond b (Some z) (find name zs) ≡ Some x → (find name zs ≡ Some x → find name (replaced name y zs) ≡ Some y) →
        find name (cond b (y ∷ zs) (z ∷ replaced name y zs)) ≡ Some y
    go true t e rec = rw here refl
    go false t e rec = rw t (rec e)

-- every other name finds what it found
pub replaced_other : (name other : List ℕ) (all : List SessionValue) (y : SessionValue) → y.name ≡ name → bytes_eq name other ≡ false → find other (replaced name y all) ≡ find other all
replaced_other name other [] y n differs = refl
replaced_other name other (z ∷ zs) y n differs = go (bytes_eq z.name name) refl (replaced_other name other zs y n differs)
  where
    not_other : (x : SessionValue) → x.name ≡ name → bytes_eq x.name other ≡ false
    not_other x e = subst (λ w. bytes_eq w other ≡ false) (sym e) differs

    go : (b : Bool) → bytes_eq z.name name ≡ b → find other (replaced name y zs) ≡ find other zs →
        find other (cond b (y ∷ zs) (z ∷ replaced name y zs)) ≡ cond (bytes_eq z.name other) (Some z) (find other zs)
    go true t rec = rw (not_other y n, not_other z ((bytes_eq-Decides z.name name).0 t)) refl
    go false t rec = ap (λ o. cond (bytes_eq z.name other) (Some z) o) rec

-- names and their order stay
pub replaced_names : (name : List ℕ) (all : List SessionValue) (y : SessionValue) → y.name ≡ name → names (replaced name y all) ≡ names all
replaced_names name [] y n = refl
replaced_names name (z ∷ zs) y n = go (bytes_eq z.name name) refl (replaced_names name zs y n)
  where
    go : (b : Bool) → bytes_eq z.name name ≡ b → names (replaced name y zs) ≡ names zs → names (cond b (y ∷ zs) (z ∷ replaced name y zs)) ≡ z.name ∷ names zs
    go true t rec = ap (λ w. w ∷ names zs) (n ∙ sym ((bytes_eq-Decides z.name name).0 t))
    go false t rec = ap (λ ws. z.name ∷ ws) rec

-- a session behind all others
pub pushed_found : (name : List ℕ) (all : List SessionValue) (x : SessionValue) → find name all ≡ None → x.name ≡ name → find name (all ++ x ∷ []) ≡ Some x
pushed_found name [] x e n = let here : bytes_eq x.name name ≡ true = (bytes_eq-Decides x.name name).1 n in rw here refl
pushed_found name (z ∷ zs) x e n = go (bytes_eq z.name name) e (λ f. pushed_found name zs x f n)
  where
    go : (b : Bool) → cond b (Some z) (find name zs) ≡ None → (find name zs ≡ None → find name (zs ++ x ∷ []) ≡ Some x) → cond b (Some z) (find name (zs ++ x ∷ [])) ≡ Some x
    go true e rec = absurd (no e)
      where
        no : Some z ≡ None → ⊥
        no e = cc
    go false e rec = rec e

pub pushed_other : (other : List ℕ) (all : List SessionValue) (x : SessionValue) → bytes_eq x.name other ≡ false → find other (all ++ x ∷ []) ≡ find other all
pushed_other other [] x differs = rw differs refl
pushed_other other (z ∷ zs) x differs = ap (λ o. cond (bytes_eq z.name other) (Some z) o) (pushed_other other zs x differs)

-- ---- a session alone

none_one : (x : SessionValue) → None ≡ Some x → ⊥
none_one x e = cc

-- it has nothing yet
pub first_is : (name : List ℕ) (start : ℕ) (x : SessionValue) → find name (started name start ∷ []) ≡ Some x → x ≡ started name start
first_is name start x e =
    let here : bytes_eq name name ≡ true = (bytes_eq-Decides name name).1 refl in
    sym (found_here (started name start) x (rw here at e))

pub nothing_dropped : (n : ℕ) (xs : List ℕ) → n ≡ 0 → drop n xs ≡ xs
nothing_dropped n xs e = subst (λ k. drop k xs ≡ xs) (sym e) refl

-- behind a piece it has no more than the piece
pub next_is : {H : Type 0} (step : H → Call → Answer → H → Type 0) (h last : H) (name piece : List ℕ) (start : ℕ) (old new : SessionsValue) (o : Outcome) (x : SessionValue) →
    TakesPiece step h last name old new piece o → old.all ≡ started name start ∷ [] → find name new.all ≡ Some x → x.over ≡ None →
    (machine old.tables).width * x.base + length x.window ≡ length piece
next_is step h last name piece start old new o x taken alone e none =
    let width = (machine old.tables).width in
    let first : taken.earlier ≡ started name start = first_is name start taken.earlier (subst (λ all. find name all ≡ Some taken.earlier) alone taken.becomes.found) in
    let named : taken.later.name ≡ name = taken.takes.name ∙ ap (λ (y : SessionValue). y.name) first in
    let there : find name new.all ≡ Some taken.later =
    subst (λ (v : SessionsValue). find name v.all ≡ Some taken.later) (sym taken.becomes.others) (replaced_found name old.all taken.earlier taken.later taken.becomes.found named) in
    let same : taken.later ≡ x = found_here taken.later x (sym there ∙ e) in
    let going : taken.earlier.over ≡ None = ap (λ (y : SessionValue). y.over) first in
    let none_yet : width * 0 ≡ 0 = omega arith in
    let at_start : IsWindowOf width [] taken.earlier =
    subst (λ y. IsWindowOf width [] y) (sym first) (record { within = omega arith; same = nothing_dropped (width * 0) [] none_yet }) in
    let ends : IsWindowOf width piece taken.later = (taken.takes.going going).window (ap (λ (y : SessionValue). y.over) same ∙ none) [] at_start in
    let len = length-drop (width * taken.later.base) piece in
    let kept = ap length ends.same in
    let within = ends.within in
    subst (λ (y : SessionValue). width * y.base + length y.window ≡ length piece) same (omega arith)
