-- The words along the edges of one state are added to those of a search.
use Rattle.std.proofs.Common.{◌≡◌, ℕ, suc, ◌||◌, ◌+◌, ◌<◌, ◌≤ℤ◌, nat_eq, true, false, cond, List, [], ◌∷◌, ◌++◌, length, drop, drop-cons, get_or, add-one, Option, Some, None, Bor, Result, Ok, Err, refl, ap, sym, ◌∙◌, subst, inl, inr, ◌⊎◌, arith, true≢false, append_assoc, append-nil}
use Rattle.std.specs.Option.{option_copied}
use Rattle.std.specs.Result.{MatchResult, IfOk}
use Rattle.std.proofs.lemmas.Int.{ints}
use borrow.Author.Tests.{eqb-true, eq-eqb}
use Rattle.rl_types.specs.declared.numbers.Letter.{Letter}
use Rattle.rl_sets.specs.Sets.{In}
use Rattle.rl_sets.proofs.SetLaws.{In-append_right, In-append_cases, In-map, In-map_from, any_true, any_from}
use Rattle.rl_fsm.specs.Reads.{own_letter}
use Rattle.rl_fsm.proofs.Ascending.{Precedes}
use Rattle.rl_minimal.specs.declared.state.MinEdge.{MinEdge}
use Rattle.rl_minimal.specs.Minimal.{Minimal, reads_of}
use Rattle.rl_minimal.specs.Machine.{edges_at}
use Rattle.rl_certificate.specs.declared.certificate.Access.{Access}
use Rattle.rl_certificate.specs.Walks.{LeadsTo}
use Rattle.rl_certificate.specs.Firsts.{LetterBefore, AccessBefore}
use Rattle.rl_certificate.specs.Rounds.{own_letters}
use Rattle.rl_certificate.specs.Steps.{AreRising}
use Rattle.rl_certificate.specs.Reaches.{IsMet, AreWords, AllBefore, AreSorted, is_met, access_in, IsPut, IsAdded, AreAdded, AreBegun}
use Rattle.rl_certificate.proofs.EdgeLaws.{AreOrdered, precedes, rest_ordered}
use Rattle.rl_certificate.proofs.WordLaws.{access_behind, access_last}
use Rattle.rl_certificate.proofs.SearchLaws.{words_pushed, sorted_more, met_grown, found_is_met, leads_behind}

-- ---- one word

pub has_word : (met : List Access) (s : ℕ) → is_met met s ≡ true → (a : Access) × In a met × (a.state ≡ s)
has_word met s t = let p = any_from (λ (a : Access). nat_eq a.state s) met t in (p.0, p.1, eqb-true p.0.state s p.2)

pub word_is_met : (met : List Access) (s : ℕ) (a : Access) → In a met → a.state ≡ s → is_met met s ≡ true
word_is_met met s a i e = any_true (λ (a : Access). nat_eq a.state s) a met i (eq-eqb a.state s e)

no_word : (met : List Access) (s : ℕ) → is_met met s ≡ false → (a : Access) → In a met → a.state ≡ s → ⊥
no_word met s f a i e = absurd (true≢false (sym (word_is_met met s a i e) ∙ f))

-- what a push does
pub put_is : {A E : Type 0} (old new : List Access) (x : Access) (r : Result A E) → MatchResult r (λ _. new ≡ old ++ x ∷ []) (λ _. new ≡ old)
    → IfOk r (λ _. IsPut old new x.state x.entry.0 x.word.items)
put_is old new x (Ok a) q = record { access = x; leads = refl; from = refl; word_is = refl; end = q }
put_is old new x (Err e) q = tt

-- ---- the word that is found

some_is : {X : Type 0} (x y : X) → Some x ≡ Some y → x ≡ y
some_is x y e = cc

none_is : {X : Type 0} {Y : Type 0} (y : X) → None ≡ Some y → Y
none_is y e = cc

access_there : (met : List Access) (s : ℕ) (a : Access) → access_in met s ≡ Some a → In a met × (a.state ≡ s)
access_there [] s a q = none_is a q
access_there (b ∷ met) s a q =
    (elim (nat_eq b.state s) as (λ t. nat_eq b.state s ≡ t → cond t (Some b) (access_in met s) ≡ Some a → In a (b ∷ met) × (a.state ≡ s)) [
      | true ↦ λ t e. let same = some_is b a e in (inl same, ap (λ (x : Access). x.state) (sym same) ∙ eqb-true b.state s t)
      | false ↦ λ t e. let p = access_there met s a e in (inr p.0, p.1)
    ]) refl q

access_none : (met : List Access) (s : ℕ) → access_in met s ≡ None → is_met met s ≡ false
access_none [] s q = refl
access_none (b ∷ met) s q =
    (elim (nat_eq b.state s) as (λ t. cond t (Some b) (access_in met s) ≡ None → (t || is_met met s) ≡ false) [
      | true ↦ λ e. none_is b (sym e)
      | false ↦ λ e. access_none met s e
    ]) q

pub found_there : (met : List Access) (s : ℕ) (r : Option (Bor Access)) (a : Bor Access) → r ≡ Some a → option_copied r ≡ access_in met s
    → In a.now met × (a.now.state ≡ s)
found_there met s r a q e = access_there met s a.now (sym e ∙ ap option_copied q)

pub found_none : (met : List Access) (s : ℕ) (r : Option (Bor Access)) → r ≡ None → option_copied r ≡ access_in met s → is_met met s ≡ true → ⊥
found_none met s r q e t = absurd (true≢false (sym t ∙ access_none met s (sym e ∙ ap option_copied q)))

-- ---- the turns of the loops

drop_front : {X : Type 0} (xs : List X) (i : ℕ) (x : X) → i < length xs → x ≡ get_or xs i x → drop i xs ≡ x ∷ drop (i + 1) xs
drop_front xs i x h e = drop-cons xs i x h ∙ ap (λ w. w ∷ drop (suc i) xs) (sym e) ∙ ap (λ w. x ∷ drop w xs) (sym (add-one i))

pub edges_next : (met mid end : List Access) (e : ℕ) (w : List Letter) (edges : List MinEdge) (i : ℕ) (x : MinEdge) → i < length edges
    → x ≡ get_or edges i x
    → IsAdded met mid x.target e (w ++ own_letter (reads_of x) ∷ []) → AreAdded mid end e w (drop (i + 1) edges) → AreAdded met end e w (drop i edges)
edges_next met mid end e w edges i x h q a r = subst (AreAdded met end e w) (sym (drop_front edges i x h q)) (mid, a, r)

pub starts_next : (met mid end : List Access) (states : List ℕ) (i : ℕ) (x : ℕ) → i < length states → x ≡ get_or states i x
    → IsAdded met mid x (i + 1) [] → AreBegun mid end (i + 1) (drop (i + 1) states) → AreBegun met end i (drop i states)
starts_next met mid end states i x h q a r = subst (AreBegun met end i) (sym (drop_front states i x h q)) (mid, a, r)

placed : (c : Access) (e : ℕ) (w : List Letter) (f : ℕ) (v : List Letter) → c.entry.0 ≡ e → c.word.items ≡ w → AccessBefore e w f v
    → AccessBefore c.entry.0 c.word.items f v
placed c e w f v p q b = subst (λ x. AccessBefore x c.word.items f v) (sym p) (subst (λ x. AccessBefore e x f v) (sym q) b)

put_leads : (m : Minimal) (met mid : List Access) (s e : ℕ) (w : List Letter) (p : IsPut met mid s e w) → LeadsTo m e w s
    → LeadsTo m p.access.entry.0 p.access.word.items p.access.state
put_leads m met mid s e w p h =
    subst (λ t. LeadsTo m p.access.entry.0 p.access.word.items t) (sym p.leads)
    (subst (λ f. LeadsTo m f p.access.word.items s) (sym p.from) (subst (λ v. LeadsTo m e v s) (sym p.word_is) h))

put_behind : (met mid : List Access) (s e : ℕ) (w : List Letter) (p : IsPut met mid s e w) → AllBefore met e w
    → AllBefore met p.access.entry.0 p.access.word.items
put_behind met mid s e w p b c i =
    subst (λ f. AccessBefore c.entry.0 c.word.items f p.access.word.items) (sym p.from) (subst (λ v. AccessBefore c.entry.0 c.word.items e v)
    (sym p.word_is) (b c i))

-- what one word more does
pub record IsStepped (m : Minimal) (met mid : List Access) (s e : ℕ) (w : List Letter) : Type 0 where
  pub words : AreWords m mid
  pub sorted : AreSorted mid
  pub found : IsMet mid s e w
  pub more : List Access
  pub grows : mid ≡ met ++ more
  pub only : (c : Access) → In c mid → In c met ⊎ ((c.entry.0 ≡ e) × (c.word.items ≡ w))

pub added : (m : Minimal) (met mid : List Access) (s e : ℕ) (w : List Letter) → AreWords m met → AreSorted met → LeadsTo m e w s → AllBefore met e w
    → IsAdded met mid s e w → IsStepped m met mid s e w
added m met mid s e w k o h b (inl p) = record {
  words = subst (AreWords m) (sym p.1) k;
  sorted = subst AreSorted (sym p.1) o;
  found = let c = has_word met s p.0 in subst (λ x. IsMet x s e w) (sym p.1) (subst (λ t. IsMet met t e w) c.2 (found_is_met met c.0 e w c.1 b));
  more = [];
  grows = p.1 ∙ sym (append-nil met);
  only = λ d i. inl (subst (In d) p.1 i);
}
added m met mid s e w k o h b (inr p) = record {
  words = subst (AreWords m) (sym p.1.end) (words_pushed m met p.1.access k (put_leads m met mid s e w p.1 h) (λ a i q. no_word met s p.0 a i
      (q ∙ p.1.leads)));
  sorted = subst AreSorted (sym p.1.end) (sorted_more met p.1.access o (put_behind met mid s e w p.1 b));
  found = record {
    access = p.1.access;
    there = subst (In p.1.access) (sym p.1.end) (In-append_right p.1.access met (p.1.access ∷ []) (inl refl));
    leads = p.1.leads;
    upto = inr (p.1.from, p.1.word_is);
  };
  more = p.1.access ∷ [];
  grows = p.1.end;
  only = λ d i. by d (In-append_cases d met (p.1.access ∷ []) (subst (In d) p.1.end i));
}
  where
    by : (d : Access) → In d met ⊎ In d (p.1.access ∷ []) → In d met ⊎ ((d.entry.0 ≡ e) × (d.word.items ≡ w))
    by d (inl i) = inl i
    by d (inr (inl q)) = inr (ap (λ (y : Access). y.entry.0) (sym q) ∙ p.1.from, ap (λ (y : Access). y.word.items) (sym q) ∙ p.1.word_is)
    by d (inr (inr n)) = absurd n

-- ---- the first letters of the edges of a state ascend

abbrev own : MinEdge → Letter
own e = own_letter (reads_of e)

own_before : (f e : MinEdge) → f.range.lo ≤ℤ f.range.hi → Precedes (reads_of f) (reads_of e) → LetterBefore (own f) (own e)
own_before f e h (inl a) = inl (omega (arith, ints))
own_before f e h (inr a) = inr (ap (λ r. r.lo) a.0, a.2)

pub own_rising : (es : List MinEdge) → AreOrdered es → AreRising (own_letters es)
own_rising [] o = tt
own_rising (f ∷ es) o = (
  λ k i. let p = In-map_from own k es i in subst (LetterBefore (own f)) p.2 (own_before f p.0 (o.each f (inl refl)).keys (precedes f es o p.0 p.1)),
  own_rising es (rest_ordered f es o),
)

-- ---- all edges of a state

module _ (m : Minimal) (a : Access) (o : AreOrdered (edges_at m a.state)) (h : LeadsTo m a.entry.0 a.word.items a.state) where
  -- the word along an edge
  abbrev along : MinEdge → List Letter
  along e = a.word.items ++ own e ∷ []

  -- all words are before those that are longer by a letter than words behind this one
  abbrev IsAhead : List Access → Type 0
  IsAhead met = (f : ℕ) (v : List Letter) (k : Letter) → AccessBefore a.entry.0 a.word.items f v → AllBefore met f (v ++ k ∷ [])

  pub record IsReady (met : List Access) (edges : List MinEdge) : Type 0 where
    pub words : AreWords m met
    pub sorted : AreSorted met
    pub inside : (e : MinEdge) → In e edges → In e (edges_at m a.state)
    pub before : (e : MinEdge) → In e edges → AllBefore met a.entry.0 (along e)
    pub rising : AreRising (own_letters edges)
    pub ahead : IsAhead met

  pub record IsDone (met new : List Access) (edges : List MinEdge) : Type 0 where
    pub words : AreWords m new
    pub sorted : AreSorted new
    pub ahead : IsAhead new
    pub more : List Access
    pub grows : new ≡ met ++ more
    pub reached : (e : MinEdge) → In e edges → IsMet new e.target a.entry.0 (along e)

  ready_next : (x : MinEdge) (edges : List MinEdge) (met mid : List Access) → IsReady met (x ∷ edges)
      → IsStepped m met mid x.target a.entry.0 (along x) → IsReady mid edges
  ready_next x edges met mid r s = record {
    words = s.words;
    sorted = s.sorted;
    inside = λ e i. r.inside e (inr i);
    before = λ e i c j. before_by e i c (s.only c j);
    rising = r.rising.1;
    ahead = λ f v k b c j. ahead_by f v k b c (s.only c j);
  }
    where
      before_by : (e : MinEdge) → In e edges → (c : Access) → In c met ⊎ ((c.entry.0 ≡ a.entry.0) × (c.word.items ≡ along x))
          → AccessBefore c.entry.0 c.word.items a.entry.0 (along e)
      before_by e i c (inl j) = r.before e (inr i) c j
      before_by e i c (inr p) = placed c a.entry.0 (along x) a.entry.0 (along e) p.0 p.1 (access_last a.entry.0 a.word.items (own x) (own e)
          (r.rising.0 (own e) (In-map own e edges i)))

      ahead_by : (f : ℕ) (v : List Letter) (k : Letter) → AccessBefore a.entry.0 a.word.items f v → (c : Access)
          → In c met ⊎ ((c.entry.0 ≡ a.entry.0) × (c.word.items ≡ along x)) → AccessBefore c.entry.0 c.word.items f (v ++ k ∷ [])
      ahead_by f v k b c (inl j) = r.ahead f v k b c j
      ahead_by f v k b c (inr p) = placed c a.entry.0 (along x) f (v ++ k ∷ []) p.0 p.1 (access_behind a.entry.0 f a.word.items v (own x) k b)

  reached_by : (x e : MinEdge) (edges : List MinEdge) (new : List Access) → IsMet new x.target a.entry.0 (along x)
      → ((f : MinEdge) → In f edges → IsMet new f.target a.entry.0 (along f)) → In e (x ∷ edges) → IsMet new e.target a.entry.0 (along e)
  reached_by x e edges new k later (inl q) = subst (λ (y : MinEdge). IsMet new y.target a.entry.0 (along y)) q k
  reached_by x e edges new k later (inr i) = later e i

  pub all_added : (edges : List MinEdge) (met new : List Access) → IsReady met edges → AreAdded met new a.entry.0 a.word.items edges → IsDone met new edges
  all_added [] met new r q = record {
    words = subst (AreWords m) (sym q) r.words;
    sorted = subst AreSorted (sym q) r.sorted;
    ahead = subst IsAhead (sym q) r.ahead;
    more = [];
    grows = q ∙ sym (append-nil met);
    reached = λ e i. absurd i;
  }
  all_added (x ∷ edges) met new r q =
      let s = added m met q.0 x.target a.entry.0 (along x) r.words r.sorted (leads_behind m a o h x (r.inside x (inl refl))) (r.before x (inl refl)) q.1 in
      let d = all_added edges q.0 new (ready_next x edges met q.0 r s) q.2 in
      record {
        words = d.words;
        sorted = d.sorted;
        ahead = d.ahead;
        more = s.more ++ d.more;
        grows = d.grows ∙ ap (λ y. y ++ d.more) s.grows ∙ append_assoc met s.more d.more;
        reached = λ e i. reached_by x e edges new (met_grown q.0 new d.more x.target a.entry.0 (along x) d.grows s.found) d.reached i;
      }
