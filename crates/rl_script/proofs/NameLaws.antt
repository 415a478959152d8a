-- Tables of names and of calls: what one more makes of them.
use Rattle.std.proofs.Common.{◌≡◌, ℕ, ◌==◌, Bool, true, false, cond, ◌&&◌, ◌||◌, List, [], ◌∷◌, ◌++◌, refl, sym, ◌∙◌, ap, subst, ◌+◌, ◌<◌, length, take, get_or}
use Rattle.std.proofs.lemmas.Bool.Decides.{Decides-eqb}
use Rattle.std.proofs.lemmas.List.{take_more}
use Rattle.std.proofs.lemmas.List.Folds.{list_any-append}
use Rattle.std.proofs.lemmas.Slice.Eq.{bytes_eq-Decides}
use Rattle.std.specs.List.{list_any}
use Rattle.std.specs.Str.{bytes_eq}
use Rattle.indexmap.specs.IndexSet.{insert_key}
use Rattle.rl_replay.specs.Sessions.{has_name}
use Rattle.rl_script.specs.NameTables.{Text, Called}
use Rattle.rl_script.proofs.BooleanLaws.{and_left, and_right, or_false, or_true, bytes_swapped}

-- keys that are compared by what they show
module _ {K V : Type 0} (view : K → V) (same : V → V → Bool) (decides : (a b : V) → same a b ≡ true → a ≡ b) where
  abbrev inserted : List K → K → List K
  inserted keys key = insert_key (λ a b. same (view a) (view b)) keys key

  old_key : (keys : List K) (key : K) (v : V) (b : Bool) → same v (view key) ≡ b → list_any (λ k. same (view key) (view k)) keys ≡ true →
      list_any (λ k. same v (view k)) keys ≡ (list_any (λ k. same v (view k)) keys || b)
  old_key keys key v true e h =
      let there : list_any (λ k. same v (view k)) keys ≡ true = subst (λ w. list_any (λ k. same w (view k)) keys ≡ true) (sym (decides v (view key) e)) h in
      there ∙ sym (or_true (list_any (λ k. same v (view k)) keys))
  old_key keys key v false e h = sym (or_false (list_any (λ k. same v (view k)) keys))

  new_key : (keys : List K) (key : K) (v : V) →
      list_any (λ k. same v (view k)) (keys ++ key ∷ []) ≡ (list_any (λ k. same v (view k)) keys || same v (view key))
  new_key keys key v =
      list_any-append (λ k. same v (view k)) keys (key ∷ [])
      ∙ ap (λ b. list_any (λ k. same v (view k)) keys || b) (or_false (same v (view key)))

  one_more : (keys : List K) (key : K) (v : V) →
      list_any (λ k. same v (view k)) (inserted keys key) ≡ (list_any (λ k. same v (view k)) keys || same v (view key))
  one_more keys key v = go (list_any (λ k. same (view key) (view k)) keys) refl
    where
      go : (b : Bool) → list_any (λ k. same (view key) (view k)) keys ≡ b →
          list_any (λ k. same v (view k)) (cond b keys (keys ++ key ∷ [])) ≡ (list_any (λ k. same v (view k)) keys || same v (view key))
      go true e = old_key keys key v (same v (view key)) refl e
      go false e = new_key keys key v

-- ---- names
pub name_more : (keys : List Text) (name : Text) (other : List ℕ) →
    list_any (λ (k : Text). bytes_eq other k.now) (insert_key (λ (a : Text) (b : Text). bytes_eq a.now b.now) keys name)
    ≡ (list_any (λ (k : Text). bytes_eq other k.now) keys || bytes_eq other name.now)
name_more keys name other = one_more (λ (k : Text). k.now) bytes_eq (λ a b e. (bytes_eq-Decides a b).0 e) keys name other

-- ---- calls
abbrev pub Plain : Type 0
Plain = List ℕ × List ℕ × ℕ

abbrev pub plain_call : Called → Plain
plain_call k = (k.0.now, k.1.now, k.2)

abbrev pub same_call : Plain → Plain → Bool
same_call p q = bytes_eq p.0 q.0 && bytes_eq p.1 q.1 && p.2 == q.2

same_parts : (p q : Plain) → p.0 ≡ q.0 → p.1 ≡ q.1 → p.2 ≡ q.2 → p ≡ q
same_parts p q e f g =
    ap (λ x. let r : Plain = (x, p.1, p.2) in r) e ∙ ap (λ x. let r : Plain = (q.0, x, p.2) in r) f ∙ ap (λ n. let r : Plain = (q.0, q.1, n) in r) g

calls_decided : (p q : Plain) → same_call p q ≡ true → p ≡ q
calls_decided p q e =
    let names : (bytes_eq p.0 q.0 && bytes_eq p.1 q.1) ≡ true = and_left (bytes_eq p.0 q.0 && bytes_eq p.1 q.1) (p.2 == q.2) e in
    same_parts p q
    ((bytes_eq-Decides p.0 q.0).0 (and_left (bytes_eq p.0 q.0) (bytes_eq p.1 q.1) names))
    ((bytes_eq-Decides p.1 q.1).0 (and_right (bytes_eq p.0 q.0) (bytes_eq p.1 q.1) names))
    ((Decides-eqb p.2 q.2).0 (and_right (bytes_eq p.0 q.0 && bytes_eq p.1 q.1) (p.2 == q.2) e))

pub call_more : (keys : List Called) (key : Called) (s name : List ℕ) (n : ℕ) →
    list_any (λ (k : Called). bytes_eq s k.0.now && bytes_eq name k.1.now && n == k.2) (insert_key (λ (a : Called) (b : Called). bytes_eq a.0.now b.0.now && bytes_eq a.1.now b.1.now && a.2 == b.2) keys key)
    ≡ (list_any (λ (k : Called). bytes_eq s k.0.now && bytes_eq name k.1.now && n == k.2) keys || (bytes_eq s key.0.now && bytes_eq name key.1.now && n == key.2))
call_more keys key s name n = one_more plain_call same_call calls_decided keys key (s, name, n)

-- ---- the names of a list
pub name_behind : (names : List (List ℕ)) (last name : List ℕ) → has_name (names ++ last ∷ []) name ≡ (has_name names name || bytes_eq name last)
name_behind names last name =
    list_any-append (λ other. bytes_eq other name) names (last ∷ [])
    ∙ ap (λ b. has_name names name || b) (or_false (bytes_eq last name) ∙ bytes_swapped last name)

-- one more of a list
pub taken : {A : Type 0} (xs : List A) (i : ℕ) (x : A) → i < length xs → x ≡ get_or xs i x → take (i + 1) xs ≡ take i xs ++ x ∷ []
taken xs i x below is = take_more xs i x below ∙ ap (λ y. take i xs ++ y ∷ []) (sym is)

pub names_taken : (names : List (List ℕ)) (i : ℕ) (item name : List ℕ) → i < length names → item ≡ get_or names i item →
    (has_name (take i names) name || bytes_eq name item) ≡ has_name (take (i + 1) names) name
names_taken names i item name below is = sym (ap (λ list. has_name list name) (taken names i item below is) ∙ name_behind (take i names) item name)
