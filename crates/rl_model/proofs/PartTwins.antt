-- Machines of entries whose automata follow one another are twins.
use Rattle.std.proofs.Common.{◌≡◌, ℕ, Bool, true, false, cond, List, [], ◌∷◌, ◌++◌, refl, sym, ◌∙◌, ap, subst, Option, Some, None, option_map, nat_eq, true≢false, is_some, unwrap_or}
use Rattle.std.proofs.lemmas.List.{map-id}
use Rattle.rl_labels.specs.Labels.{stamps_of, once}
use Rattle.rl_types.specs.declared.numbers.Letter.{Letter}
use Rattle.rl_automata.specs.declared.moves.Move.{Move}
use Rattle.rl_automata.specs.declared.tree.Kind.TheVariants as K
use Rattle.rl_automata.specs.Follows.{Reach, begun, went, renamed}
use Rattle.rl_types.specs.declared.numbers.Key.{Key}
use Rattle.rl_run.specs.Machine.{Go, Machine}
use Rattle.std.specs.List.{AllByRecursion}
use Rattle.rl_run.specs.Twin.{Agrees, ListR, GoR, IsTwin}
use Rattle.rl_run.specs.Classes.{AreReached}
use Rattle.rl_model.specs.Parts.{Part, Context, EntryState, is_entry, machine, told, start_at, go_at, letter_of, kind_in, final_in, error_in, eof_in, token_in, PartFollows, named, IsReached, StandsAt}

module _ {S T : Type 0} {B : Part S} {A : Part T} {f : S → T} (F : PartFollows B A f) where
  final_same : (s : S) → Reach B.auto s → final_in B s ≡ final_in A (f s)
  final_same s r i = cond (F.is_scanner i) (nat_eq (F.kind s r i) 1) (F.auto.final s r i)

  error_same : (s : S) → Reach B.auto s → error_in B s ≡ error_in A (f s)
  error_same s r i = cond (F.is_scanner i) [] (once (F.auto.marks s r K.Error i))

  eof_same : (s : S) → Reach B.auto s → eof_in B s ≡ eof_in A (f s)
  eof_same s r i =
      cond (F.is_scanner i) [] (once (stamps_of (F.auto.marks s r K.Eof i ++ cond (F.auto.final s r i) (F.auto.out s r i).actions (F.auto.marks s r K.Error i))))

module _ (C D : ℕ → Type 0) (A : (e : ℕ) → Part (C e)) (B : (e : ℕ) → Part (D e)) (name : (e : ℕ) → D e → C e) (F : (e : ℕ) → PartFollows (B e) (A e) (name e)) (count : ℕ) (context : Context) where
  abbrev names : EntryState D → EntryState C
  names = named C D B name

  abbrev AtReached : EntryState D → Type 0
  AtReached = IsReached D B

  abbrev At : EntryState C → EntryState D → Type 0
  At = StandsAt C D B name

  abbrev tree : Machine (EntryState C)
  tree = machine C A count context

  abbrev built : Machine (EntryState D)
  built = machine D B count context

  -- what is told of each place of the one is told of the other
  same_told : {X : Type 0} (d : X) (f : (e : ℕ) → C e → X) (g : (e : ℕ) → D e → X) → ((e : ℕ) (s : D e) → Reach (B e).auto s → g e s ≡ f e (name e s))
      → (q : EntryState C) (p : EntryState D) → At q p → told D B d g p ≡ told C A d f q
  same_told d f g h q p (e, r) = go p r ∙ ap (told C A d f) (sym e)
    where
      go : (p : EntryState D) → AtReached p → told D B d g p ≡ told C A d f (names p)
      go None r = refl
      go (Some (e, s)) r = h e s r

  -- no action has another name
  all_agree : (xs : List ℕ) → AllByRecursion (Agrees tree built (λ a. a) At) xs
  all_agree [] = tt
  all_agree (x ∷ xs) = ((λ n. refl, refl), all_agree xs)

  same_list : (f : (e : ℕ) → C e → List ℕ) (g : (e : ℕ) → D e → List ℕ) → ((e : ℕ) (s : D e) → Reach (B e).auto s → g e s ≡ f e (name e s))
      → (q : EntryState C) (p : EntryState D) → At q p → ListR tree built (λ a. a) At (told C A [] f q) (told D B [] g p)
  same_list f g h q p r = (same_told [] f g h q p r ∙ sym (map-id (told C A [] f q)), all_agree (told C A [] f q))

  same_go : (e : ℕ) (l : Letter) (s : D e) → Reach (B e).auto s → GoR tree built (λ a. a) At (option_map (go_at C A e) ((A e).auto.step (name e s) l)) (option_map (go_at D B e) ((B e).auto.step s l))
  same_go e l s r =
      subst (λ o. GoR tree built (λ a. a) At (option_map (go_at C A e) o) (option_map (go_at D B e) ((B e).auto.step s l))) ((F e).auto.step s r l)
      ((elim ((B e).auto.step s l) as (λ o. (B e).auto.step s l ≡ o → GoR tree built (λ a. a) At (option_map (go_at C A e) (option_map (renamed (name e)) o)) (option_map (go_at D B e) o)) [
        | None ↦ λ q. tt
        | Some m ↦ λ q. ((refl, went r l m q), (sym (map-id (once m.carry.actions)), all_agree (once m.carry.actions)))
      ]) refl)

  same_find : (key : Key) (hold : ℕ) (q : EntryState C) (p : EntryState D) → At q p → GoR tree built (λ a. a) At (tree.find q key hold) (built.find p key hold)
  same_find key hold q p (e, r) = subst (λ q. GoR tree built (λ a. a) At (tree.find q key hold) (built.find p key hold)) (sym e) (go p r)
    where
      go : (p : EntryState D) → AtReached p → GoR tree built (λ a. a) At (tree.find (names p) key hold) (built.find p key hold)
      go None r = tt
      go (Some (e, s)) r = same_go e (letter_of key hold) s r

  starts_stand : (e : ℕ) → At (start_at C A e) (start_at D B e)
  starts_stand e = (λ i. Some (e, sym ((F e).auto.start) i), begun)

  cond_stands : (a b : Bool) (q : EntryState C) (p : EntryState D) → a ≡ b → At q p → At (cond a q None) (cond b p None)
  cond_stands a b q p e r = subst (λ b. At (cond a q None) (cond b p None)) e (go a)
    where
      go : (a : Bool) → At (cond a q None) (cond a p None)
      go true = r
      go false = (refl, tt)

  same_home : (q : EntryState C) (p : EntryState D) → At q p → At (tree.home q) (built.home p)
  same_home q p (e, r) = subst (λ q. At (tree.home q) (built.home p)) (sym e) (go p r)
    where
      go : (p : EntryState D) → AtReached p → At (tree.home (names p)) (built.home p)
      go None r = (refl, tt)
      go (Some (e, s)) r = cond_stands (A e).is_scanner (B e).is_scanner (start_at C A e) (start_at D B e) (sym (F e).is_scanner) (starts_stand e)

  -- places of entries that follow one another stand for each other
  pub part_twin : IsTwin tree built (λ a. a) At
  part_twin = record {
    width = refl;
    key_of = λ character. refl;
    asked = λ q p key r. same_told 0 (λ e s. (A e).auto.asked s key.0) (λ e s. (B e).auto.asked s key.0) (λ e s r. (F e).auto.asked s r key.0) q p r;
    find = λ q p key hold r. same_find key hold q p r;
    from = same_list (λ e s. once ((A e).auto.marks s K.From)) (λ e s. once ((B e).auto.marks s K.From)) (λ e s r. ap once ((F e).auto.marks s r K.From));
    to = same_list (λ e s. once ((A e).auto.marks s K.To)) (λ e s. once ((B e).auto.marks s K.To)) (λ e s r. ap once ((F e).auto.marks s r K.To));
    error = same_list (λ e s. error_in (A e) s) (λ e s. error_in (B e) s) (λ e s r. error_same (F e) s r);
    eof = same_list (λ e s. eof_in (A e) s) (λ e s. eof_in (B e) s) (λ e s r. eof_same (F e) s r);
    token = same_list (λ e s. token_in (A e) s) (λ e s. token_in (B e) s) (λ e s r. (F e).token s r);
    kind = same_told 0 (λ e s. kind_in (A e) s) (λ e s. kind_in (B e) s) (λ e s r. (F e).kind s r);
    final = same_told false (λ e s. final_in (A e) s) (λ e s. final_in (B e) s) (λ e s r. final_same (F e) s r);
    home = same_home;
    failed = (refl, tt);
    is_failed = same_told true (λ e s. false) (λ e s. false) (λ e s r. refl);
    condition_name = λ c. refl;
    entry_name = λ e. refl;
    entry = λ e. cond_stands (is_entry count e) (is_entry count e) (start_at C A e) (start_at D B e) refl (starts_stand e);
  }

-- ---- what a machine made of entries reaches

module _ (C : ℕ → Type 0) (A : (e : ℕ) → Part (C e)) (count : ℕ) (context : Context) where
  abbrev made : Machine (EntryState C)
  made = machine C A count context

  abbrev Placed : EntryState C → Type 0
  Placed = IsReached C A

  entry_steps : (e : ℕ) (s : C e) (l : Letter) (o : Option (Move (C e))) → (A e).auto.step s l ≡ o → (g : Go (EntryState C)) → Reach (A e).auto s → option_map (go_at C A e) o ≡ Some g
      → Placed g.target × (made.home g.target ≡ made.home (Some (e, s)))
  entry_steps e s l None p g r q = elim_none q
    where
      elim_none : None ≡ Some g → Placed g.target × (made.home g.target ≡ made.home (Some (e, s)))
      elim_none q = absurd (true≢false (sym (ap is_some q)))
  entry_steps e s l (Some m) p g r q =
      subst (λ t. Placed t × (made.home t ≡ made.home (Some (e, s)))) (ap (λ o. (unwrap_or o (go_at C A e m)).target) q) (went r l m p, refl)

  place_steps : (q : EntryState C) (key : Key) (hold : ℕ) (g : Go (EntryState C)) → Placed q → made.find q key hold ≡ Some g → Placed g.target × (made.home g.target ≡ made.home q)
  place_steps None key hold g r e = absurd (true≢false (sym (ap is_some e)))
  place_steps (Some (e, s)) key hold g r p = entry_steps e s (letter_of key hold) ((A e).auto.step s (letter_of key hold)) refl g r p

  place_homes : (q : EntryState C) → Placed q → Placed (made.home q) × (made.home (made.home q) ≡ made.home q)
  place_homes None r = (tt, refl)
  place_homes (Some (e, s)) r = go (A e).is_scanner refl
    where
      go : (b : Bool) → (A e).is_scanner ≡ b → Placed (cond b (start_at C A e) None) × (made.home (cond b (start_at C A e) None) ≡ cond b (start_at C A e) None)
      go true p = (begun, ap (λ b. cond b (start_at C A e) None) p)
      go false p = (tt, refl)

  place_entry : (b : Bool) (e : ℕ) → Placed (cond b (start_at C A e) None)
  place_entry true e = begun
  place_entry false e = tt

  pub machine_reached : AreReached made Placed
  machine_reached = record {
    steps = place_steps;
    homes = place_homes;
    failed = tt;
    entries = λ e. place_entry (is_entry count e) e;
  }
