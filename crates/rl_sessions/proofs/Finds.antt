-- Sessions are found by their names.
use Rattle.std.proofs.Common.{◌≡◌, ℕ, zero, suc, ◌+◌, ◌-◌, ◌<◌, ◌≤◌, Bool, true, false, not, cond, List, [], ◌∷◌, ◌++◌, map, length, get_or, Some, None, refl, sym, ◌∙◌, ap, subst, arith, nat_lt, nat_le}
use Rattle.std.specs.Prelude.{count_by, slice_set}
use Rattle.std.specs.List.{position, position_or_len, prefix_len, fold, AllByRecursion}
use Rattle.std.specs.Str.{bytes_eq}
use Rattle.std.proofs.lemmas.Bool.Decides.{nat_tests}
use Rattle.std.proofs.lemmas.List.{get_or_default}
use Rattle.std.proofs.lemmas.List.Sums.{sum_by-set, sum_by-take-drop, count_by_more_yes}
use Rattle.std.proofs.lemmas.List.Quantifiers.{position-Some}
use Rattle.rl_sessions.specs.declared.fault.SessionFault.TheVariants.{Twice, Full}
use Rattle.rl_sessions.specs.declared.one.One.{One}
use Rattle.rl_sessions.specs.OneSession.{session_value, name_of, is_live, has_name, IsLivePlace}
use Rattle.rl_sessions.specs.SessionsValue.{SessionValue, find, replaced, live, refusal, HasNoLive}

-- at the first place with the name
record IsPlace (name : List ℕ) (xs : List One) (i : ℕ) (d : One) : Type 0 where
  found : find name (map session_value xs) ≡ Some (session_value (get_or xs i d))
  put : (y : One) → replaced name (session_value y) (map session_value xs) ≡ map session_value (slice_set xs i y)

find_some : (name : List ℕ) (xs : List One) (i : ℕ) (d : One) → i < length xs → has_name name (get_or xs i d) ≡ true → ((k : ℕ) → k < i → has_name name (get_or xs k d) ≡ false) → IsPlace name xs i d
find_some name [] i d within e f = absurd (omega arith)
find_some name (x ∷ xs) zero d within e f = record { found = rw e refl; put = λ y. rw e refl }
find_some name (x ∷ xs) (suc i) d within e f =
    let head : bytes_eq x.name.items name ≡ false = f 0 (omega arith) in
    let more = find_some name xs i d (omega arith) e (λ k below. f (suc k) (omega arith)) in
    record {
      found = rw head more.found;
      put = λ y. rw head (ap (λ zs. session_value x ∷ zs) (more.put y));
    }

find_none : (name : List ℕ) (xs : List One) → length xs ≤ prefix_len (λ one. not (has_name name one)) xs → find name (map session_value xs) ≡ None
find_none name [] h = refl
find_none name (x ∷ xs) h = go (bytes_eq x.name.items name) h (λ more. find_none name xs more)
  where
    go : (b : Bool) → suc (length xs) ≤ cond (not b) (1 + prefix_len (λ one. not (has_name name one)) xs) 0 → (length xs ≤ prefix_len (λ one. not (has_name name one)) xs → find name (map session_value xs) ≡ None) →
        cond b (Some (session_value x)) (find name (map session_value xs)) ≡ None
    go true h rec = absurd (omega arith)
    go false h rec = rec (omega arith)

-- none of the name
pub place_none : (name : List ℕ) (xs : List One) → position (has_name name) xs ≡ None → find name (map session_value xs) ≡ None
place_none name xs e = go (nat_lt (position_or_len (has_name name) xs) (length xs)) refl e
  where
    go : (b : Bool) → nat_lt (position_or_len (has_name name) xs) (length xs) ≡ b → cond b (Some (position_or_len (has_name name) xs)) None ≡ None → find name (map session_value xs) ≡ None
    go true f e = absurd (no e)
      where
        no : Some (position_or_len (has_name name) xs) ≡ None → ⊥
        no e = cc
    go false f e = let past : length xs ≤ position_or_len (has_name name) xs = grind (arith, nat_tests) in find_none name xs past

pub place_found : (name : List ℕ) (xs : List One) (i : ℕ) (d : One) → position (has_name name) xs ≡ Some i → find name (map session_value xs) ≡ Some (session_value (get_or xs i d))
place_found name xs i d e =
    let w = position-Some (has_name name) xs i d e in
    (find_some name xs i d w.0 w.1 w.2).found

pub place_put : (name : List ℕ) (xs : List One) (i : ℕ) (y : One) → position (has_name name) xs ≡ Some i → replaced name (session_value y) (map session_value xs) ≡ map session_value (slice_set xs i y)
place_put name xs i y e =
    let w = position-Some (has_name name) xs i y e in
    (find_some name xs i y w.0 w.1 w.2).put y

pub place_within : (name : List ℕ) (xs : List One) (i : ℕ) (d : One) → position (has_name name) xs ≡ Some i → i < length xs
place_within name xs i d e = (position-Some (has_name name) xs i d e).0

-- the session of the name was ended, or there is none
pub none_live : (name : List ℕ) (all : List SessionValue) → find name all ≡ None → HasNoLive name all
none_live name all e = λ x f. absurd (no x (sym e ∙ f))
  where
    no : (x : SessionValue) → None ≡ Some x → ⊥
    no x e = cc

pub closed_live : (name : List ℕ) (all : List SessionValue) (y : SessionValue) → find name all ≡ Some y → y.is_closed ≡ true → HasNoLive name all
closed_live name all y e closed = λ x f. subst (λ (z : SessionValue). z.is_closed ≡ true) (same x (sym e ∙ f)) closed
  where
    same : (x : SessionValue) → Some y ≡ Some x → y ≡ x
    same x e = cc

pub closed_place : (name : List ℕ) (xs : List One) (i : ℕ) (d : One) → position (has_name name) xs ≡ Some i → (get_or xs i d).is_closed ≡ true → HasNoLive name (map session_value xs)
closed_place name xs i d e closed = closed_live name (map session_value xs) (session_value (get_or xs i d)) (place_found name xs i d e) closed

-- what a session counts for
abbrev worth : One → ℕ
worth x = cond (not x.is_closed) 1 0

-- those that were not ended
counted_at : (xs : List One) (i : ℕ) (d : One) → i < length xs → (get_or xs i d).is_closed ≡ false → 0 < count_by is_live xs
counted_at xs i d within going =
    let same = sum_by-set worth xs i (get_or xs i d) d within in
    let more = count_by_more_yes is_live xs i d within (ap not going) in
    let parts = sum_by-take-drop worth xs (i + 1) in
    omega arith

-- one less where one is ended
pub ended_count : (xs : List One) (i : ℕ) (d y : One) → i < length xs → (get_or xs i d).is_closed ≡ false → y.is_closed ≡ true → count_by is_live (slice_set xs i y) ≡ count_by is_live xs - 1
ended_count xs i d y within going closed =
    let law = sum_by-set worth xs i y d within in
    let was : worth (get_or xs i d) ≡ 1 = rw going refl in
    let is : worth y ≡ 0 = rw closed refl in
    omega (arith, law, was, is)

-- as many where one goes on
pub same_count : (xs : List One) (i : ℕ) (d y : One) → i < length xs → y.is_closed ≡ (get_or xs i d).is_closed → count_by is_live (slice_set xs i y) ≡ count_by is_live xs
same_count xs i d y within same =
    let law = sum_by-set worth xs i y d within in
    let is : worth y ≡ worth (get_or xs i d) = rw same refl in
    omega (arith, law, is)

fold_push : {A : Type 0} (f : ℕ → A → ℕ) (b : ℕ) (xs : List A) (y : A) → fold f b (xs ++ y ∷ []) ≡ f (fold f b xs) y
fold_push f b [] y = refl
fold_push f b (x ∷ xs) y = fold_push f (f b x) xs y

-- one more where one is started
pub started_count : (xs : List One) (y : One) → y.is_closed ≡ false → count_by is_live (xs ++ y ∷ []) ≡ count_by is_live xs + 1
started_count xs y going =
    let is : worth y ≡ 1 = rw going refl in
    fold_push (λ (a : ℕ) (x : One). a + worth x) 0 xs y ∙ ap (λ n. count_by is_live xs + n) is

-- names stay in their order
pub set_names : (xs : List One) (i : ℕ) (d y : One) → i < length xs → name_of y ≡ name_of (get_or xs i d) → map name_of (slice_set xs i y) ≡ map name_of xs
set_names [] i d y within same = absurd (omega arith)
set_names (x ∷ xs) zero d y within same = ap (λ n. n ∷ map name_of xs) same
set_names (x ∷ xs) (suc i) d y within same = ap (λ ns. name_of x ∷ ns) (set_names xs i d y (omega arith) same)

pub push_names : (xs : List One) (y : One) → map name_of (xs ++ y ∷ []) ≡ map name_of xs ++ name_of y ∷ []
push_names [] y = refl
push_names (x ∷ xs) y = ap (λ ns. name_of x ∷ ns) (push_names xs y)

pub live_place : (name : List ℕ) (xs : List One) (i : ℕ) (d : One) → position (has_name name) xs ≡ Some i → (get_or xs i d).is_closed ≡ false → IsLivePlace name xs i
live_place name xs i d e live = record {
  within = place_within name xs i d e;
  found = λ b. place_found name xs i b e;
  put = λ y. place_put name xs i y e;
  live = λ b. ap (λ (one : One). one.is_closed) (get_or_default xs i b d (place_within name xs i d e)) ∙ live;
  counted = counted_at xs i d (place_within name xs i d e) live;
}

-- the counts of sessions and of their values
fold_map : (f : ℕ → SessionValue → ℕ) (b : ℕ) (xs : List One) → fold (λ a x. f a (session_value x)) b xs ≡ fold f b (map session_value xs)
fold_map f b [] = refl
fold_map f b (x ∷ xs) = fold_map f (f b (session_value x)) xs

live_map : (xs : List One) → count_by is_live xs ≡ live (map session_value xs)
live_map xs = fold_map (λ a x. a + cond (not x.is_closed) 1 0) 0 xs

-- refusals
pub refused_twice : (name : List ℕ) (xs : List One) (i : ℕ) → position (has_name name) xs ≡ Some i → Some Twice ≡ refusal name (map session_value xs)
refused_twice name xs i e = go xs refl
  where
    go : (ys : List One) → xs ≡ ys → Some Twice ≡ refusal name (map session_value xs)
    go [] f = absurd (no (subst (λ zs. position (has_name name) zs ≡ Some i) f e))
      where
        no : None ≡ Some i → ⊥
        no e = cc
    go (y ∷ ys) f = let found = place_found name xs i y e in rw found refl

pub refused_full : (name : List ℕ) (xs : List One) → position (has_name name) xs ≡ None → 1024 ≤ count_by is_live xs → Some Full ≡ refusal name (map session_value xs)
refused_full name xs e full =
    let none = place_none name xs e in
    let many : nat_le 1024 (live (map session_value xs)) ≡ true = let same = live_map xs in grind (arith, nat_tests) in
    rw (none, many) refl

pub refused_not : (name : List ℕ) (xs : List One) → position (has_name name) xs ≡ None → count_by is_live xs < 1024 → None ≡ refusal name (map session_value xs)
refused_not name xs e room =
    let none = place_none name xs e in
    let few : nat_le 1024 (live (map session_value xs)) ≡ false = let same = live_map xs in grind (arith, nat_tests) in
    rw (none, few) refl

-- a rule of each session
module _ {A : Type 0} (P : A → Type 0) where
  pub all_at : (xs : List A) (i : ℕ) (d : A) → AllByRecursion P xs → i < length xs → P (get_or xs i d)
  all_at [] i d all within = absurd (omega arith)
  all_at (x ∷ xs) zero d all within = all.0
  all_at (x ∷ xs) (suc i) d all within = all_at xs i d all.1 (omega arith)

  pub all_set : (xs : List A) (i : ℕ) (y : A) → AllByRecursion P xs → P y → AllByRecursion P (slice_set xs i y)
  all_set [] i y all p = tt
  all_set (x ∷ xs) zero y all p = (p, all.1)
  all_set (x ∷ xs) (suc i) y all p = (all.0, all_set xs i y all.1 p)

  pub all_push : (xs : List A) (y : A) → AllByRecursion P xs → P y → AllByRecursion P (xs ++ y ∷ [])
  all_push [] y all p = (p, tt)
  all_push (x ∷ xs) y all p = (all.0, all_push xs y all.1 p)

pub map_push : (xs : List One) (y : One) → map session_value (xs ++ y ∷ []) ≡ map session_value xs ++ session_value y ∷ []
map_push [] y = refl
map_push (x ∷ xs) y = ap (λ zs. session_value x ∷ zs) (map_push xs y)
