-- Code that is read as statements.
use Rattle.std.proofs.Common.{◌≡◌, ◌↔◌, ℕ, suc, ◌+◌, ◌<◌, Bool, true, false, IsTrue, List, [], ◌∷◌, length, drop, map, Option, Some, None, All, get_or, drop-cons, position, cond, ltb, refl, sym, ap, ◌∙◌, subst}
use Rattle.std.specs.Prelude.{not}
use Rattle.std.specs.List.{list_all, position_or_len}
use Rattle.std.specs.Str.{bytes_eq}
use Rattle.std.proofs.lemmas.Bool.{false≢true}
use Rattle.std.proofs.lemmas.List.{length-map}
use Rattle.std.proofs.lemmas.List.Sums.{list_all-from_AllPass}
use Rattle.rl_run.specs.declared.statements.Statement.{Statement}
use Rattle.rl_code.specs.declared.said.Said.{Said}
use Rattle.rl_code.specs.declared.said.Control.{Control}
use Rattle.rl_code.specs.Reading.{IsBlock, IsReadAs, is_misplaced, names_one_of, statement_of, control_of, controls}
use Rattle.rl_code.specs.Sayings.{sayings}
use Rattle.rl_statements.specs.Entries.{Text}
use Rattle.rl_statements.specs.Said.{IsSaid, AreSaid}

-- ---- names in tables

front_text : (name : List ℕ) (keys : List Text) → position_or_len (λ k. bytes_eq name k.now) keys ≡ position_or_len (bytes_eq name) (map (λ k. k.now) keys)
front_text name [] = refl
front_text name (k ∷ keys) = ap (λ z. cond (not (bytes_eq name k.now)) (1 + z) 0) (front_text name keys)

pub position_text : (name : List ℕ) (keys : List Text) → position (λ k. bytes_eq name k.now) keys ≡ position (bytes_eq name) (map (λ k. k.now) keys)
position_text name keys =
    let place : position_or_len (λ k. bytes_eq name k.now) keys ≡ position_or_len (bytes_eq name) (map (λ k. k.now) keys) = front_text name keys in
    ap (λ z. cond (ltb z (length keys)) (Some z) None) place
    ∙ ap (λ z. cond (ltb (position_or_len (bytes_eq name) (map (λ k. k.now) keys)) z) (Some (position_or_len (bytes_eq name) (map (λ k. k.now) keys))) None) (sym (length-map keys (λ (k : Text). k.now)))

-- ---- statements one by one

pub says_none : (entries : List (List ℕ)) (s : Said) (statements : List Statement) → control_of s ≡ None → (more : List Said)
    → IsSaid entries (s ∷ more) statements ↔ IsSaid entries more statements
says_none entries s statements e more = rw e ((λ h. h), (λ h. h))

heads : (a b : Statement) (xs ys : List Statement) → a ∷ xs ≡ b ∷ ys → a ≡ b
heads a b xs ys e = cc

tails : (a b : Statement) (xs ys : List Statement) → a ∷ xs ≡ b ∷ ys → xs ≡ ys
tails a b xs ys e = cc

pub says_one : (entries : List (List ℕ)) (s : Said) (c : Control) (first : Statement) (behind : List Statement) → control_of s ≡ Some c → first ≡ statement_of entries c
    → (more : List Said) → IsSaid entries (s ∷ more) (first ∷ behind) ↔ IsSaid entries more behind
says_one entries s c first behind e same more = rw e (
  (λ h. tails first (statement_of entries c) behind (map (statement_of entries) (controls more)) h),
  (λ h. ap (λ z. z ∷ behind) same ∙ ap (λ z. statement_of entries c ∷ z) h),
)

pub says_more : (entries : List (List ℕ)) (s : Said) (c : Control) → control_of s ≡ Some c → (more : List Said) → IsSaid entries (s ∷ more) [] → ⊥
says_more entries s c e more h = (let h' : [] ≡ statement_of entries c ∷ map (statement_of entries) (controls more) = rw e at h in absurd (cc))

pub says_other : (entries : List (List ℕ)) (s : Said) (c : Control) (first : Statement) (behind : List Statement) → control_of s ≡ Some c
    → (first ≡ statement_of entries c → ⊥) → (more : List Said) → IsSaid entries (s ∷ more) (first ∷ behind) → ⊥
says_other entries s c first behind e other more h =
    let h' : first ∷ behind ≡ statement_of entries c ∷ map (statement_of entries) (controls more) = rw e at h in
    other (heads first (statement_of entries c) behind (map (statement_of entries) (controls more)) h')

-- ---- all words

not_true : (b : Bool) → b ≡ false → not b ≡ true
not_true true e = absurd (cc)
not_true false e = refl

formed_all : (said : List Said) → All (λ (s : Said). is_misplaced s ≡ false) said → list_all (λ s. not (is_misplaced s)) said ≡ true
formed_all said h = list_all-from_AllPass (λ s. not (is_misplaced s)) said (λ k d l. not_true _ (h k d l))

-- where some word has not its form
pub not_formed : (entries : List (List ℕ)) (said : List Said) (statements : List Statement) (b : Bool) → b ≡ list_all (λ s. not (is_misplaced s)) said → b ≡ false
    → IsTrue false ↔ AreSaid entries said statements
not_formed entries said statements b e miss = (
  (λ h. absurd (false≢true h)),
  (λ s. sym miss ∙ (e ∙ formed_all said s.formed)),
)

-- where some word names no entry
pub not_named : (entries : List (List ℕ)) (said : List Said) (statements : List Statement) (b : Bool) → b ≡ list_all (λ s. names_one_of entries s) said → b ≡ false
    → IsTrue false ↔ AreSaid entries said statements
not_named entries said statements b e miss = (
  (λ h. absurd (false≢true h)),
  (λ s. sym miss ∙ (e ∙ list_all-from_AllPass (λ s. names_one_of entries s) said s.named)),
)
