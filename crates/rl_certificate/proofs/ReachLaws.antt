-- A search that is done has the first word to each state.
use Rattle.std.proofs.Common.{◌≡◌, ℕ, ◌≤◌, true, List, [], ◌∷◌, ◌++◌, Option, Some, None, option_map, refl, sym, ◌∙◌, subst, inl, inr, append_assoc, append-nil}
use Rattle.std.proofs.lemmas.Nat.{and_le_l}
use Rattle.rl_types.specs.declared.numbers.Letter.{Letter}
use Rattle.rl_sets.specs.Sets.{In}
use Rattle.rl_fsm.specs.Reads.{takes, own_letter}
use Rattle.rl_fsm.proofs.PieceLaws.{range_low}
use Rattle.rl_minimal.specs.declared.state.MinEdge.{MinEdge}
use Rattle.rl_minimal.specs.Minimal.{Minimal, reads_of}
use Rattle.rl_minimal.specs.Machine.{edge_for, edges_at, entry_at}
use Rattle.rl_certificate.specs.declared.certificate.Access.{Access}
use Rattle.rl_certificate.specs.Walks.{and_then, walk, target_on, LeadsTo}
use Rattle.rl_certificate.specs.Firsts.{AccessBefore, IsFirstAccess}
use Rattle.rl_certificate.specs.Reaches.{UpTo, IsMet, IsClosed}
use Rattle.rl_certificate.proofs.EdgeLaws.{taken}
use Rattle.rl_certificate.proofs.WalkLaws.{edge_from}
use Rattle.rl_certificate.proofs.WordLaws.{access_trans, access_self, access_behind, access_last}
use Rattle.rl_certificate.proofs.StepLaws.{NoLater, no_later}

pub upto_trans : (e f g : ℕ) (u v w : List Letter) → UpTo e u f v → UpTo f v g w → UpTo e u g w
upto_trans e f g u v w (inl p) (inl q) = inl (access_trans e f g u v w p q)
upto_trans e f g u v w (inl p) (inr q) = inl (subst (λ x. AccessBefore e u x w) q.0 (subst (AccessBefore e u f) q.1 p))
upto_trans e f g u v w (inr p) (inl q) = inl (subst (λ x. AccessBefore x u g w) (sym p.0) (subst (λ x. AccessBefore f x g w) (sym p.1) q))
upto_trans e f g u v w (inr p) (inr q) = inr (p.0 ∙ q.0, p.1 ∙ q.1)

pub upto_behind : (e f : ℕ) (u v : List Letter) (l k : Letter) → UpTo e u f v → NoLater l k → UpTo e (u ++ l ∷ []) f (v ++ k ∷ [])
upto_behind e f u v l k (inl p) n = inl (access_behind e f u v l k p)
upto_behind e f u v l k (inr p) (inl q) = inl (subst (λ x. AccessBefore e (u ++ l ∷ []) x (v ++ k ∷ [])) p.0 (subst (λ x. AccessBefore e
    (u ++ l ∷ []) e (x ++ k ∷ [])) p.1 (access_last e u l k q)))
upto_behind e f u v l k (inr p) (inr q) = inr (p.0, λ i. p.1 i ++ q i ∷ [])

-- the first letter of an edge is no later than any that it takes
pub own_no_later : (e : MinEdge) (l : Letter) → takes l (reads_of e) ≡ true → NoLater (own_letter (reads_of e)) l
own_no_later e l t =
    no_later (own_letter (reads_of e)) l (range_low l.key e.range (taken l e t).0) (subst (λ n. n ≤ l.truths) (taken l e t).1 (and_le_l l.truths e.asks.0))

-- a letter leads along an edge
pub record Leads (m : Minimal) (i : ℕ) (l : Letter) (t : ℕ) : Type 0 where
  pub edge : MinEdge
  pub there : In edge (edges_at m i)
  pub takes_it : takes l (reads_of edge) ≡ true
  pub end : edge.target ≡ t

some_same : (x y : ℕ) → Some x ≡ Some y → x ≡ y
some_same x y e = cc

none_same : (y : ℕ) → None ≡ Some y → ⊥
none_same y e = cc

leads_by : (m : Minimal) (i : ℕ) (l : Letter) (t : ℕ) (o : Option MinEdge) → edge_for l (edges_at m i) ≡ o
    → option_map (λ (e : MinEdge). e.target) o ≡ Some t → Leads m i l t
leads_by m i l t None q r = absurd (none_same t r)
leads_by m i l t (Some e) q r = let p = edge_from l (edges_at m i) e q in record { edge = e; there = p.0; takes_it = p.1; end = some_same e.target t r }

pub leads_on : (m : Minimal) (i : ℕ) (l : Letter) (t : ℕ) → target_on m i l ≡ Some t → Leads m i l t
leads_on m i l t r = leads_by m i l t (edge_for l (edges_at m i)) refl r

module _ (m : Minimal) (met : List Access) (closed : IsClosed m met) where
  met_step : (i e : ℕ) (u : List Letter) (l : Letter) (t : ℕ) → IsMet met i e u → target_on m i l ≡ Some t → IsMet met t e (u ++ l ∷ [])
  met_step i e u l t k r =
      let s = leads_on m i l t r in
      let a = k.access in
      let b = (closed.steps a k.there).each s.edge (subst (λ x. In s.edge (edges_at m x)) (sym k.leads) s.there) in
      record {
        access = b.access;
        there = b.there;
        leads = b.leads ∙ s.end;
        upto = upto_trans b.access.entry.0 a.entry.0 e b.access.word.items (a.word.items ++ own_letter (reads_of s.edge) ∷ []) (u ++ l ∷ []) b.upto
            (upto_behind a.entry.0 e a.word.items u (own_letter (reads_of s.edge)) l k.upto (own_no_later s.edge l s.takes_it));
      }

  met_by : (w : List Letter) (s e : ℕ) (u : List Letter) (l : Letter) (o : Option ℕ) → ((t : ℕ) → o ≡ Some t → IsMet met t e (u ++ l ∷ []))
      → ((t : ℕ) → IsMet met t e (u ++ l ∷ []) → walk m w t ≡ Some s → IsMet met s e ((u ++ l ∷ []) ++ w)) → and_then o
      (walk m w) ≡ Some s → IsMet met s e ((u ++ l ∷ []) ++ w)
  met_by w s e u l None f later r = absurd (none_same s r)
  met_by w s e u l (Some t) f later r = later t (f t refl) r

  met_walk : (w : List Letter) (i s e : ℕ) (u : List Letter) → IsMet met i e u → walk m w i ≡ Some s → IsMet met s e (u ++ w)
  met_walk [] i s e u k r = subst (IsMet met s e) (sym (append-nil u)) (subst (λ x. IsMet met x e u) (some_same i s r) k)
  met_walk (l ∷ w) i s e u k r =
      subst (IsMet met s e) (append_assoc u (l ∷ []) w)
      (met_by w s e u l (target_on m i l) (λ t q. met_step i e u l t k q) (λ t j q. met_walk w t s e (u ++ l ∷ []) j q) r)

  -- whatever word leads to a state, one up to it was met
  pub all_met : (e : ℕ) (w : List Letter) (s : ℕ) → LeadsTo m e w s → IsMet met s e w
  all_met e w s h = met_walk w (entry_at m.entries e) s e [] (closed.starts e h.known) h.end

  not_before : (e f : ℕ) (u v : List Letter) → UpTo e u f v → AccessBefore f v e u → ⊥
  not_before e f u v (inl p) b = access_self e u (access_trans e f e u v u p b)
  not_before e f u v (inr p) b = access_self e u (subst (λ x. AccessBefore e x e u) (sym p.1) (subst (λ x. AccessBefore x v e u) (sym p.0) b))

  -- so each word that was met is the first one
  pub first_access : (a : Access) → In a met → IsFirstAccess m a
  first_access a i = record {
    leads = closed.words.lead a i;
    first = λ e w h b.
        let k = all_met e w a.state h in
        let same : k.access ≡ a = closed.words.once k.access a k.there i k.leads in
        not_before a.entry.0 e a.word.items w (subst (λ (x : Access). UpTo x.entry.0 x.word.items e w) same k.upto) b;
  }
