-- A search goes on from word to word.
use Rattle.std.proofs.Common.{◌≡◌, ℕ, List, [], ◌∷◌, ◌++◌, Option, Some, None, option_map, refl, ap, sym, ◌∙◌, subst, inl, inr, ◌⊎◌, arith}
use Rattle.rl_types.specs.declared.numbers.Letter.{Letter}
use Rattle.std.proofs.lemmas.Int.{ints}
use Rattle.rl_sets.specs.Sets.{In}
use Rattle.rl_sets.proofs.SetLaws.{In-append_left, In-append_cases}
use Rattle.rl_fsm.specs.Reads.{own_letter}
use Rattle.rl_fsm.proofs.PieceLaws.{range_is}
use Rattle.rl_minimal.specs.declared.state.MinEdge.{MinEdge}
use Rattle.rl_minimal.specs.Minimal.{Minimal, reads_of}
use Rattle.rl_minimal.specs.Machine.{edges_at, entry_at}
use Rattle.rl_certificate.specs.declared.certificate.Access.{Access}
use Rattle.rl_certificate.specs.Walks.{and_then, walk, target_on, LeadsTo}
use Rattle.rl_certificate.specs.Firsts.{AccessBefore}
use Rattle.rl_certificate.specs.Reaches.{IsMet, AreWords, AllBefore, AreSorted}
use Rattle.rl_certificate.proofs.EdgeLaws.{AreOrdered, takes_from, edge_found}

-- ---- words grow

walk_by : (m : Minimal) (w : List Letter) (l : Letter) (t : ℕ) (o : Option ℕ) (s : ℕ) → ((i : ℕ) → walk m w i ≡ Some s → walk m (w ++ l ∷ []) i ≡ Some t)
    → and_then o (walk m w) ≡ Some s → and_then o (walk m (w ++ l ∷ [])) ≡ Some t
walk_by m w l t (Some i) s f e = f i e
walk_by m w l t None s f e = cc

walk_behind : (m : Minimal) (w : List Letter) (i s : ℕ) (l : Letter) (t : ℕ) → walk m w i ≡ Some s → target_on m s l ≡ Some t
    → walk m (w ++ l ∷ []) i ≡ Some t
walk_behind m [] i s l t e g = ap (λ o. and_then o (walk m [])) (subst (λ x. target_on m x l ≡ Some t) (sym (some_is i s e)) g)
  where
    some_is : (x y : ℕ) → Some x ≡ Some y → x ≡ y
    some_is x y q = cc
walk_behind m (k ∷ w) i s l t e g = walk_by m w l t (target_on m i k) s (λ j q. walk_behind m w j s l t q g) e

-- the first letter of an edge leads along it
pub own_leads : (m : Minimal) (i : ℕ) → AreOrdered (edges_at m i) → (e : MinEdge) → In e (edges_at m i)
    → target_on m i (own_letter (reads_of e)) ≡ Some e.target
own_leads m i o e j =
    ap (λ x. option_map (λ (f : MinEdge). f.target) x)
    (edge_found (own_letter (reads_of e)) (edges_at m i) o e j
    (takes_from (own_letter (reads_of e)) e (range_is e.range.lo e.range (omega (arith, ints)) (o.each e j).keys) (o.each e j).truths))

pub leads_behind : (m : Minimal) (a : Access) → AreOrdered (edges_at m a.state) → LeadsTo m a.entry.0 a.word.items a.state → (e : MinEdge)
    → In e (edges_at m a.state)
    → LeadsTo m a.entry.0 (a.word.items ++ own_letter (reads_of e) ∷ []) e.target
leads_behind m a o h e j = record {
  known = h.known;
  end = walk_behind m a.word.items (entry_at m.entries a.entry.0) a.state (own_letter (reads_of e)) e.target h.end (own_leads m a.state o e j);
}

-- ---- one word more

-- a word that was met stays so
pub met_grown : (met new more : List Access) (s e : ℕ) (w : List Letter) → new ≡ met ++ more → IsMet met s e w → IsMet new s e w
met_grown met new more s e w q k = record {
  access = k.access;
  there = subst (In k.access) (sym q)
      (In-append_left k.access met more k.there);
  leads = k.leads;
  upto = k.upto;
}

pub sorted_more : (met : List Access) (x : Access) → AreSorted met → AllBefore met x.entry.0 x.word.items → AreSorted (met ++ x ∷ [])
sorted_more [] x s b = (λ c i. absurd i, tt)
sorted_more (a ∷ met) x s b = (λ c i. by c (In-append_cases c met (x ∷ []) i), sorted_more met x s.1 (λ c i. b c (inr i)))
  where
    by : (c : Access) → In c met ⊎ In c (x ∷ []) → AccessBefore a.entry.0 a.word.items c.entry.0 c.word.items
    by c (inl i) = s.0 c i
    by c (inr (inl e)) = subst (λ (y : Access). AccessBefore a.entry.0 a.word.items y.entry.0 y.word.items) e (b a (inl refl))
    by c (inr (inr n)) = absurd n

pub words_pushed : (m : Minimal) (met : List Access) (x : Access) → AreWords m met → LeadsTo m x.entry.0 x.word.items x.state
    → ((a : Access) → In a met → a.state ≡ x.state → ⊥) → AreWords m (met ++ x ∷ [])
words_pushed m met x k leads new = record {
  lead = λ a i. lead_by a (In-append_cases a met (x ∷ []) i);
  once = λ a b i j. once_by a b (In-append_cases a met (x ∷ []) i) (In-append_cases b met (x ∷ []) j);
}
  where
    lead_by : (a : Access) → In a met ⊎ In a (x ∷ []) → LeadsTo m a.entry.0 a.word.items a.state
    lead_by a (inl i) = k.lead a i
    lead_by a (inr (inl e)) = subst (λ (y : Access). LeadsTo m y.entry.0 y.word.items y.state) e leads
    lead_by a (inr (inr n)) = absurd n

    once_by : (a b : Access) → In a met ⊎ In a (x ∷ []) → In b met ⊎ In b (x ∷ []) → a.state ≡ b.state → a ≡ b
    once_by a b (inl i) (inl j) s = k.once a b i j s
    once_by a b (inl i) (inr (inl e)) s = absurd (new a i (s ∙ ap (λ (y : Access). y.state) (sym e)))
    once_by a b (inl i) (inr (inr n)) s = absurd n
    once_by a b (inr (inl d)) (inl j) s = absurd (new b j (sym s ∙ ap (λ (y : Access). y.state) (sym d)))
    once_by a b (inr (inl d)) (inr (inl e)) s = sym d ∙ e
    once_by a b (inr (inl d)) (inr (inr n)) s = absurd n
    once_by a b (inr (inr n)) j s = absurd n

-- a state that has a word has one up to each word that is behind all
pub found_is_met : (met : List Access) (a : Access) (e : ℕ) (w : List Letter) → In a met → AllBefore met e w → IsMet met a.state e w
found_is_met met a e w i b = record { access = a; there = i; leads = refl; upto = inl (b a i) }
