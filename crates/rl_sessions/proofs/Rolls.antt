-- The roll of names finds the sessions.
use Rattle.std.proofs.Common.{◌≡◌, ℕ, ◌+◌, ◌≤◌, Bool, true, false, not, ◌||◌, cond, List, [], ◌∷◌, ◌++◌, map, length, Some, None, Vec, Global, refl, sym, ◌∙◌, ap, arith, nat_lt}
use Rattle.std.specs.List.{position, position_or_len, prefix_len, list_any}
use Rattle.std.specs.Str.{bytes_eq}
use Rattle.std.proofs.lemmas.Bool.Decides.{nat_tests}
use Rattle.std.proofs.lemmas.List.{length-map, map-append}
use Rattle.std.proofs.lemmas.Slice.Eq.{bytes_eq-Decides}
use Rattle.indexmap.specs.IndexSet.{insert_key}
use Rattle.rl_sessions.specs.declared.one.One.{One}
use Rattle.rl_sessions.specs.OneSession.{name_of, has_name}

abbrev pub Key : Type 0
Key = Vec ℕ Global

abbrev pub keys_alike : Key → Key → Bool
keys_alike a b = bytes_eq a.items b.items

-- the same place among keys as among their names
front_key : (name : List ℕ) (keys : List Key) → position_or_len (λ (k : Key). bytes_eq name k.items) keys ≡ position_or_len (bytes_eq name) (map (λ (k : Key). k.items) keys)
front_key name [] = refl
front_key name (k ∷ keys) = ap (λ z. cond (not (bytes_eq name k.items)) (1 + z) 0) (front_key name keys)

pub position_key : (name : List ℕ) (keys : List Key) → position (λ (k : Key). bytes_eq name k.items) keys ≡ position (bytes_eq name) (map (λ (k : Key). k.items) keys)
position_key name keys =
    ap (λ z. cond (nat_lt z (length keys)) (Some z) None) (front_key name keys)
    ∙ ap (λ z. cond (nat_lt (position_or_len (bytes_eq name) (map (λ (k : Key). k.items) keys)) z) (Some (position_or_len (bytes_eq name) (map (λ (k : Key). k.items) keys))) None) (sym (length-map keys (λ (k : Key). k.items)))

-- where there is no place, nothing is alike
any_none : (name : List ℕ) (keys : List Key) → length keys ≤ prefix_len (λ n. not (bytes_eq name n)) (map (λ (k : Key). k.items) keys) → list_any (λ (k : Key). bytes_eq name k.items) keys ≡ false
any_none name [] h = refl
any_none name (k ∷ keys) h = go (bytes_eq name k.items) h (λ more. any_none name keys more)
  where
    go : (b : Bool) → length (k ∷ keys) ≤ cond (not b) (1 + prefix_len (λ n. not (bytes_eq name n)) (map (λ (j : Key). j.items) keys)) 0 →
        (length keys ≤ prefix_len (λ n. not (bytes_eq name n)) (map (λ (j : Key). j.items) keys) → list_any (λ (j : Key). bytes_eq name j.items) keys ≡ false) →
        b || list_any (λ (j : Key). bytes_eq name j.items) keys ≡ false
    go true h rec = absurd (omega arith)
    go false h rec = rec (omega arith)

none_any : (name : List ℕ) (keys : List Key) → position (bytes_eq name) (map (λ (k : Key). k.items) keys) ≡ None → list_any (λ (k : Key). bytes_eq name k.items) keys ≡ false
none_any name keys e = go (nat_lt (position_or_len (bytes_eq name) (map (λ (k : Key). k.items) keys)) (length (map (λ (k : Key). k.items) keys))) refl e
  where
    go : (b : Bool) → nat_lt (position_or_len (bytes_eq name) (map (λ (k : Key). k.items) keys)) (length (map (λ (k : Key). k.items) keys)) ≡ b →
        cond b (Some (position_or_len (bytes_eq name) (map (λ (k : Key). k.items) keys))) None ≡ None → list_any (λ (k : Key). bytes_eq name k.items) keys ≡ false
    go true f e = absurd (no e)
      where
        no : Some (position_or_len (bytes_eq name) (map (λ (k : Key). k.items) keys)) ≡ None → ⊥
        no e = cc
    go false f e =
        let len = length-map keys (λ (k : Key). k.items) in
        let past : length (map (λ (k : Key). k.items) keys) ≤ position_or_len (bytes_eq name) (map (λ (k : Key). k.items) keys) = grind (arith, nat_tests) in
        any_none name keys (omega arith)

-- a key that is not there goes behind all others
pub put_key : (key : Key) (keys : List Key) → position (bytes_eq key.items) (map (λ (k : Key). k.items) keys) ≡ None →
    map (λ (k : Key). k.items) (insert_key keys_alike keys key) ≡ map (λ (k : Key). k.items) keys ++ key.items ∷ []
put_key key keys e =
    ap (λ z. map (λ (k : Key). k.items) (cond z keys (keys ++ key ∷ []))) (none_any key.items keys e) ∙ map-append (λ (k : Key). k.items) keys (key ∷ [])

-- names are alike both ways
both_ways : (a b : List ℕ) → bytes_eq a b ≡ bytes_eq b a
both_ways a b = go (bytes_eq a b) refl (bytes_eq b a) refl
  where
    go : (x : Bool) → bytes_eq a b ≡ x → (y : Bool) → bytes_eq b a ≡ y → x ≡ y
    go true e true f = refl
    go false e false f = refl
    go true e false f = sym ((bytes_eq-Decides b a).1 (sym ((bytes_eq-Decides a b).0 e))) ∙ f
    go false e true f = sym e ∙ (bytes_eq-Decides a b).1 (sym ((bytes_eq-Decides b a).0 f))

front_name : (name : List ℕ) (all : List One) → position_or_len (bytes_eq name) (map name_of all) ≡ position_or_len (has_name name) all
front_name name [] = refl
front_name name (one ∷ all) =
    ap (λ z. cond (not (bytes_eq name one.name.items)) (1 + z) 0) (front_name name all)
    ∙ ap (λ b. cond (not b) (1 + position_or_len (has_name name) all) 0) (both_ways name one.name.items)

-- the place of a name is the place of its session
pub position_name : (name : List ℕ) (all : List One) → position (bytes_eq name) (map name_of all) ≡ position (has_name name) all
position_name name all =
    ap (λ z. cond (nat_lt z (length (map name_of all))) (Some z) None) (front_name name all)
    ∙ ap (λ z. cond (nat_lt (position_or_len (has_name name) all) z) (Some (position_or_len (has_name name) all)) None) (length-map all name_of)
