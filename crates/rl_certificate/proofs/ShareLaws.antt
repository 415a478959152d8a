-- Which letters a round has to look at: the first ones of the edges.
use Rattle.std.proofs.Common.{◌≡◌, ℕ, Bool, List, Option, Some, None, option_map, refl, ap, sym, ◌∙◌, subst, inl, inr, ◌⊎◌}
use Rattle.rl_types.specs.declared.numbers.Letter.{Letter}
use Rattle.rl_sets.specs.Sets.{In}
use Rattle.rl_minimal.specs.declared.state.MinEdge.{MinEdge}
use Rattle.rl_minimal.specs.Minimal.{Minimal}
use Rattle.rl_minimal.specs.Machine.{edge_for, edges_at}
use Rattle.rl_certificate.specs.Views.{ShowSame}
use Rattle.rl_certificate.specs.Firsts.{LetterBefore}
use Rattle.rl_certificate.specs.Rounds.{own_letters, IsCandidate}
use Rattle.rl_certificate.proofs.EdgeLaws.{AreOrdered}
use Rattle.rl_certificate.proofs.WordLaws.{letter_trans}
use Rattle.rl_certificate.proofs.StepLaws.{NoLater, shared}

some_is : (x y : ℕ) → Some x ≡ Some y → x ≡ y
some_is x y e = cc

none_is : (y : ℕ) → None ≡ Some y → ⊥
none_is y e = cc

abbrev target_of : Option MinEdge → Option ℕ
target_of o = option_map (λ (e : MinEdge). e.target) o

-- a step is along an edge
edge_of : (m : Minimal) (i : ℕ) (l : Letter) (t : ℕ) (o : Option MinEdge) → edge_for l (edges_at m i) ≡ o → target_of o ≡ Some t → (e : MinEdge) × (edge_for l (edges_at m i) ≡ Some e) × (e.target ≡ t)
edge_of m i l t None q r = absurd (none_is t r)
edge_of m i l t (Some e) q r = (e, q, some_is e.target t r)

pub no_later_before : (k l n : Letter) → NoLater k l → LetterBefore l n → LetterBefore k n
no_later_before k l n (inl p) q = letter_trans k l n p q
no_later_before k l n (inr p) q = subst (λ x. LetterBefore x n) (sym p) q

module _ (m : Minimal) (homes : Bool) (n : ℕ) (told : ℕ → ℕ → Option (List Letter)) (i j : ℕ) (oi : AreOrdered (edges_at m i)) (oj : AreOrdered (edges_at m j))
    (same : ShowSame m homes i j) (letters : List Letter)
    (has : (l : Letter) → In l (own_letters (edges_at m i)) ⊎ In l (own_letters (edges_at m j)) → In l letters) where
  -- a candidate gives one among the letters that is no later
  pub record IsListed (k : Letter) (x y : ℕ) (v : List Letter) : Type 0 where
    pub letter : Letter
    pub there : In letter letters
    pub first : NoLater letter k
    pub candidate : IsCandidate m n told i j letter x y v

  pub listed : (k : Letter) (x y : ℕ) (v : List Letter) → IsCandidate m n told i j k x y v → IsListed k x y v
  listed k x y v c =
      let a = edge_of m i k x (edge_for k (edges_at m i)) refl c.one_is in
      let b = edge_of m j k y (edge_for k (edges_at m j)) refl c.other_is in
      let s = shared (edges_at m i) (edges_at m j) oi oj same.steps k a.0 b.0 a.1 b.1 in
      record {
        letter = s.letter;
        there = has s.letter s.own;
        first = s.first;
        candidate = record {
          one_is = ap target_of s.one ∙ ap Some a.2;
          other_is = ap target_of s.other ∙ ap Some b.2;
          rest_is = c.rest_is;
          count = c.count;
        };
      }

  -- where none of the letters before l is a candidate, no letter before l is
  pub least : (l : Letter) → ((k : Letter) (x y : ℕ) (v : List Letter) → In k letters → LetterBefore k l → IsCandidate m n told i j k x y v → ⊥)
      → (k : Letter) (x y : ℕ) (v : List Letter) → IsCandidate m n told i j k x y v → LetterBefore k l → ⊥
  least l none k x y v c b = let d = listed k x y v c in none d.letter x y v d.there (no_later_before d.letter k l d.first b) d.candidate

  -- where none of the letters is a candidate, none is
  pub no_candidate : ((k : Letter) (x y : ℕ) (v : List Letter) → In k letters → IsCandidate m n told i j k x y v → ⊥)
      → (k : Letter) (x y : ℕ) (v : List Letter) → IsCandidate m n told i j k x y v → ⊥
  no_candidate none k x y v c = let d = listed k x y v c in none d.letter x y v d.there d.candidate
