-- A walk over the edges of a machine finds the configuration of each state.
use Rattle.std.proofs.Common.{◌≡◌, ℕ, zero, suc, ◌+◌, ◌<◌, ◌≤◌, Bool, true, false, cond, List, [], ◌∷◌, ◌++◌, ◌⊎◌, inl, inr, length, drop, map, refl, sym, ◌∙◌, ap, subst, Option, Some, None, option_map, slice_get, nat_eq, nat_lt, arith, add-one, true≢false}
use Rattle.std.proofs.Math.ListN.{drop_of_length-le}
use Rattle.std.proofs.lemmas.Bool.Decides.{nat_tests}
use borrow.Author.Tests.{ltb-true, eqb-true, eq-eqb}
use Rattle.rl_types.specs.declared.numbers.Letter.{Letter}
use Rattle.rl_types.specs.declared.numbers.ActionId.{ActionId}
use Rattle.rl_sets.specs.Sets.{In}
use Rattle.rl_labels.specs.Labels.{numbers}
use Rattle.rl_automata.specs.declared.moves.Move.{Move}
use Rattle.rl_automata.specs.Auto.{Auto, on_part, listed, quiet}
use Rattle.rl_automata.specs.Follows.{renamed}
use Rattle.rl_automata.proofs.Congruence.{some_in, none_in}
use Rattle.rl_fsm.specs.declared.edge.Edge.{Edge}
use Rattle.rl_fsm.specs.declared.state.State.{State}
use Rattle.rl_fsm.specs.Reads.{own_letter}
use Rattle.rl_fsm.specs.Graphs.{Graph, fsm_auto, state_at, edges_at, edge_for, reads_of, move_of}
use Rattle.rl_fsm.specs.Builds.{Builds, known_after, known_from, targets_in, and_then}
use Rattle.rl_fsm.proofs.Walks.{finds_each, reaches_each}
use Rattle.rl_explore.proofs.NumberLaws.{length-push}
use Rattle.rl_fsm.specs.Scanned.{token_at}
use Rattle.rl_scan.specs.Beside.{side_auto, tokens_of}
use Rattle.rl_scan.specs.Scanners.{BuildsScanner}
use Rattle.rl_scan.specs.Walks.{to_of, with_target, with_targets, with_state, walked_up, walked, AreNamed}

-- ---- where edges lead

pub step_edges : (m : Graph) (i : ℕ) (l : Letter) → (fsm_auto m).step i l ≡ option_map move_of (edge_for l (edges_at m i))
step_edges m i l = by (state_at m i)
  where
    by : (o : Option State) → on_part None (λ (s : State). option_map move_of (edge_for l s.edges)) o ≡ option_map move_of (edge_for l (on_part [] (λ (s : State). s.edges) o))
    by None = refl
    by (Some s) = refl

module _ {S : Type 0} (A : Auto S) (m : Graph) (B : Builds (quiet A) m) where
  -- the first letter of an edge leads from a state's configuration to its target's
  pub leads : (i : ℕ) (e : Edge) → i < length m.states → In e (edges_at m i) → to_of A (B.name i) e ≡ Some (B.name e.target)
  leads i e lt j =
      let l = own_letter (reads_of e) in
      let r = reaches_each m B.sound B.numbered i lt in
      ap (option_map (λ (n : Move S). n.to)) (sym (B.follows.step i r l))
      ∙ ap (λ o. option_map (λ (n : Move S). n.to) (option_map (renamed B.name) o)) (step_edges m i l ∙ ap (option_map move_of) (finds_each m B.sound i e j))

  pub begins : AreNamed B.name (A.start ∷ [])
  begins zero c e = ap B.name (sym B.numbered.start) ∙ B.follows.start ∙ some_in A.start c e
  begins (suc i) c e = none_in c e

-- ---- lists that grow

pushed : {X : Type 0} (xs : List X) (d : X) (i : ℕ) (x : X) → slice_get (xs ++ d ∷ []) i ≡ Some x → (slice_get xs i ≡ Some x) ⊎ (i ≡ length xs) × (d ≡ x)
pushed [] d zero x e = inr (refl, some_in d x e)
pushed [] d (suc i) x e = none_in x e
pushed (y ∷ xs) d zero x e = inl e
pushed (y ∷ xs) d (suc i) x e = elim (pushed xs d i x e) [ inl p ↦ inl p | inr q ↦ inr (ap suc q.0, q.1) ]

pub named_more : {S : Type 0} (name : ℕ → S) (found : List S) (d : S) → AreNamed name found → name (length found) ≡ d → AreNamed name (found ++ d ∷ [])
named_more name found d a e i c h = elim (pushed found d i c h) [ inl p ↦ a i c p | inr q ↦ ap name q.0 ∙ e ∙ q.1 ]

abbrev pub target : Edge → ℕ
target e = e.target

not_less : (k : ℕ) → nat_lt k k ≡ false
not_less k = grind (arith, nat_tests)

known_next : (k n : ℕ) (ts : List ℕ) (t : ℕ) → t ≡ k → known_after k (t ∷ ts) ≡ Some n → known_after (k + 1) ts ≡ Some n
known_next k n ts t e h =
    sym (ap (λ b. cond b (known_after k ts) (cond (nat_eq k k) (known_after (k + 1) ts) None)) (not_less k)
    ∙ ap (λ b. cond b (known_after (k + 1) ts) None) (eq-eqb k k refl))
    ∙ subst (λ w. known_after k (w ∷ ts) ≡ Some n) e h

known_skip : (k n : ℕ) (ts : List ℕ) (t : ℕ) → nat_eq t k ≡ false → known_after k (t ∷ ts) ≡ Some n → known_after k ts ≡ Some n
known_skip k n ts t e h =
    (elim (nat_lt t k) as (λ w. cond w (known_after k ts) (cond (nat_eq t k) (known_after (k + 1) ts) None) ≡ Some n → known_after k ts ≡ Some n) [
      | true ↦ λ q. q
      | false ↦ λ q. none_in n (sym (ap (λ w. cond w (known_after (k + 1) ts) None) e) ∙ q)
    ]) h

-- ---- the edges of a state

-- the first letter of each edge leads to the name of its target
abbrev LeadOn : {S : Type 0} → Auto S → (ℕ → S) → S → List Edge → Type 0
LeadOn A name c es = (e : Edge) → In e es → to_of A c e ≡ Some (name e.target)

-- the listed are named, and with the targets there are as many as are known then
record Grown {S : Type 0} (name : ℕ → S) (found : List S) (es : List Edge) (new : List S) : Type 0 where
  pub named : AreNamed name new
  pub known : (n : ℕ) → known_after (length found) (map target es) ≡ Some n → length new ≡ n

module _ {S : Type 0} (A : Auto S) (name : ℕ → S) (c : S) where
  with_one : (found : List S) (e : Edge) (b : Bool) → nat_eq e.target (length found) ≡ b → to_of A c e ≡ Some (name e.target) → with_target A c found e ≡ cond b (found ++ name e.target ∷ []) found
  with_one found e b q h = (λ i. cond (q i) (found ++ listed (h i)) found)

  all_grown : (found : List S) (es : List Edge) → LeadOn A name c es → AreNamed name found → Grown name found es (with_targets A c found es)
  all_grown found [] h a = record { named = a; known = λ n q. some_in (length found) n q }
  all_grown found (e ∷ es) h a = by (nat_eq e.target (length found)) refl (λ w b. all_grown w es (λ f i. h f (inr i)) b)
    where
      by : (b : Bool) → nat_eq e.target (length found) ≡ b → ((w : List S) → AreNamed name w → Grown name w es (with_targets A c w es)) → Grown name found (e ∷ es) (with_targets A c (with_target A c found e) es)
      by true q later =
          let w = found ++ name e.target ∷ [] in
          let here : e.target ≡ length found = eqb-true e.target (length found) q in
          let r = later w (named_more name found (name e.target) a (ap name (sym here))) in
          let g : Grown name found (e ∷ es) (with_targets A c w es) = record {
            named = r.named;
            known = λ n k. r.known n (ap (λ m. known_after m (map target es)) (length-push found (name e.target)) ∙ known_next (length found) n (map target es) e.target here k);
          } in
          subst (λ v. Grown name found (e ∷ es) (with_targets A c v es)) (sym (with_one found e true q (h e (inl refl)))) g
      by false q later =
          let r = later found a in
          let g : Grown name found (e ∷ es) (with_targets A c found es) = record {
            named = r.named;
            known = λ n k. r.known n (known_skip (length found) n (map target es) e.target q k);
          } in
          subst (λ v. Grown name found (e ∷ es) (with_targets A c v es)) (sym (with_one found e false q (h e (inl refl)))) g

-- ---- states in turn

-- before the turn of a state it is known, and how many are known after it
pub record Turn (m : Graph) (i k n : ℕ) : Type 0 where
  pub begun : i < k
  pub known : ℕ
  pub after : known_after k (map target (edges_at m i)) ≡ Some known
  pub rest : known_from (i + 1) known (drop (i + 1) m.states) ≡ Some n

pub slice_drop : {X : Type 0} (xs : List X) (i : ℕ) → i < length xs → (x : X) × (slice_get xs i ≡ Some x) × (drop i xs ≡ x ∷ drop (suc i) xs)
slice_drop [] i l = absurd (grind arith)
slice_drop (x ∷ xs) zero l = (x, refl, refl)
slice_drop (x ∷ xs) (suc i) l = slice_drop xs i (omega arith)

pub turn : (m : Graph) (i k n : ℕ) → i < length m.states → known_from i k (drop i m.states) ≡ Some n → Turn m i k n
turn m i k n lt e =
    let p = slice_drop m.states i lt in
    let edges : edges_at m i ≡ p.0.edges = ap (λ o. on_part [] (λ (s : State). s.edges) o) p.1 in
    let here : known_from i k (p.0 ∷ drop (suc i) m.states) ≡ Some n = ap (known_from i k) (sym p.2) ∙ e in
    (elim (nat_lt i k) as (λ w. nat_lt i k ≡ w → cond w (and_then (known_after k (targets_in p.0)) (λ q. known_from (i + 1) q (drop (suc i) m.states))) None ≡ Some n → Turn m i k n) [
      | true ↦ λ t. (elim (known_after k (targets_in p.0)) as (λ o. known_after k (targets_in p.0) ≡ o → and_then o (λ q. known_from (i + 1) q (drop (suc i) m.states)) ≡ Some n → Turn m i k n) [
        | None ↦ λ v q. none_in n q
        | Some l ↦ λ v q. record {
          begun = ltb-true i k t;
          known = l;
          after = ap (λ es. known_after k (map target es)) edges ∙ v;
          rest = ap (λ w. known_from (i + 1) l (drop w m.states)) (add-one i) ∙ q;
        }
      ]) refl
      | false ↦ λ t q. none_in n q
    ]) refl here

-- ---- all states

module _ {S : Type 0} (A : Auto S) (m : Graph) where
  pub walked_first : walked_up A m 0 ≡ A.start ∷ []
  unfolding walked_up
  walked_first = refl

  pub walked_next : (i : ℕ) → walked_up A m (i + 1) ≡ with_state A i (walked_up A m i) (edges_at m i)
  unfolding walked_up
  walked_next i = ap (walked_up A m) (add-one i)

  -- as far as the walk has come: the found are named, and as many are known
  record IsWalked (B : Builds (quiet A) m) (i : ℕ) (found : List S) : Type 0 where
    pub named : AreNamed B.name found
    pub known : known_from i (length found) (drop i m.states) ≡ Some (length m.states)

  walked_more : (B : Builds (quiet A) m) (i : ℕ) (found : List S) → i < length m.states → IsWalked B i found → IsWalked B (i + 1) (with_state A i found (edges_at m i))
  walked_more B i found lt w =
      let t = turn m i (length found) (length m.states) lt w.known in
      let p = slice_drop found i t.begun in
      let es = edges_at m i in
      let at : B.name i ≡ p.0 = w.named i p.0 p.1 in
      let g = all_grown A B.name p.0 found es (λ e j. subst (λ c. to_of A c e ≡ Some (B.name e.target)) at (leads A m B i e lt j)) w.named in
      let r : IsWalked B (i + 1) (with_targets A p.0 found es) = record {
        named = g.named;
        known = ap (λ k. known_from (i + 1) k (drop (i + 1) m.states)) (g.known t.known t.after) ∙ t.rest;
      } in
      subst (λ o. IsWalked B (i + 1) (on_part found (λ c. with_targets A c found es) o)) (sym p.1) r

  walked_to : (B : Builds (quiet A) m) (i : ℕ) → i ≤ length m.states → IsWalked B i (walked_up A m i)
  walked_to B zero le = subst (IsWalked B 0) (sym walked_first) (record { named = begins A m B; known = B.numbered.known })
  walked_to B (suc i) le =
      let lt : i < length m.states = omega arith in
      let r = walked_more B i (walked_up A m i) lt (walked_to B i (omega arith)) in
      subst (λ j. IsWalked B j (walked_up A m j)) (add-one i) (subst (IsWalked B (i + 1)) (sym (walked_next i)) r)

  pub walked_named : (B : Builds (quiet A) m) → AreNamed B.name (walked A m)
  walked_named B = (walked_to B (length m.states) (omega arith)).named

  pub walked_long : Builds (quiet A) m → length (walked A m) ≡ length m.states
  walked_long B =
      let w = walked_to B (length m.states) (omega arith) in
      let le : length m.states ≤ length m.states = omega arith in
      some_in (length (walked A m)) (length m.states) (ap (known_from (length m.states) (length (walked A m))) (sym (drop_of_length-le m.states le)) ∙ w.known)

-- ---- token lists

module _ {S : Type 0} (f : S → Option (List ℕ)) where
  pub token_is : (lists : List (Option (List ActionId))) (found : List S) (i : ℕ) (c : S) → map (option_map numbers) lists ≡ map f found → slice_get found i ≡ Some c → option_map numbers (token_at lists i) ≡ f c
  token_is lists [] i c e h = none_in c h
  token_is [] (d ∷ found) i c e h = absurd (true≢false (sym (ap (λ xs. elim xs as (λ _. Bool) [ [] ↦ false | x ∷ ys ↦ true ]) e)))
  token_is (t ∷ lists) (d ∷ found) zero c e h = ap (λ xs. elim xs as (λ _. Option (List ℕ)) [ [] ↦ f d | x ∷ ys ↦ x ]) e ∙ ap f (some_in d c h)
  token_is (t ∷ lists) (d ∷ found) (suc i) c e h = token_is lists found i c (ap (λ xs. elim xs as (λ _. List (Option (List ℕ))) [ [] ↦ [] | x ∷ ys ↦ ys ]) e) h

  pub tokens_are : (name : ℕ → S) (lists : List (Option (List ActionId))) (found : List S) → AreNamed name found → map (option_map numbers) lists ≡ map f found → (i : ℕ) → i < length found → option_map numbers (token_at lists i) ≡ f (name i)
  tokens_are name lists found a e i lt =
      let p = slice_drop found i lt in
      token_is lists found i p.0 e p.1 ∙ ap f (sym (a i p.0 p.1))

-- a machine that is built of machines side by side, and the lists of what a walk finds, are their scanner's
pub built : (ms : List Graph) (ts : List (Option ActionId)) (m : Graph) (lists : List (Option (List ActionId))) → Builds (quiet (side_auto ms)) m
    → map (option_map numbers) lists ≡ map (tokens_of ms ts) (walked (side_auto ms) m) → BuildsScanner (quiet (side_auto ms)) (tokens_of ms ts) (record { machine = m; tokens = lists })
built ms ts m lists B e = record {
  machine = B;
  tokens = λ i lt. tokens_are (tokens_of ms ts) B.name lists (walked (side_auto ms) m) (walked_named (side_auto ms) m B) e i (subst (λ n. i < n) (sym (walked_long (side_auto ms) m B)) lt);
}
