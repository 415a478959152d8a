-- A refusal does not depend on which honest tests are taken, and there is one at most.
use Rattle.std.proofs.Common.{◌≡◌, ℕ, zero, suc, ◌&&◌, ◌||◌, not, List, [], ◌∷◌, ◌++◌, ◌⊎◌, inl, inr, refl, sym, ◌∙◌, ap, subst, ◌↔◌}
use Rattle.rl_types.specs.declared.numbers.Letter.{Letter}
use Rattle.rl_types.specs.declared.alphabet.Alphabet.{Alphabet}
use Rattle.rl_sets.specs.Sets.{In}
use Rattle.rl_sets.proofs.SetLaws.{In-append_cases}
use Rattle.rl_automata.specs.Auto.{both_jams, cat_jams, star_jams}
use Rattle.rl_automata.specs.Follows.{Reach, begun, Follows}
use Rattle.rl_automata.specs.Nodes as N
use Rattle.rl_automata.specs.Nodes.{Node, Conf, carry_of}
use Rattle.rl_automata.specs.Marks.{Marks, auto, AreHonest}
use Rattle.rl_automata.specs.Scans.{Pattern, PatternMarks, ArePatternsHonest, Root, Plain, Scanner}
use Rattle.rl_automata.specs.Sites.{Below, AreHonestBelow, raw_auto, node_jams, Site, AtNode, AtScanner, site_jams, IsHonestSite, sites, pattern_sites, RootMarks, IsRootHonest, root_sites, AllRootMarks, AreRootsHonest, all_sites}
use Rattle.rl_automata.specs.Refused.{HasTooMany, HasTooManyCells, HasCycle, empty_at, first_empty, or_later, site_width, Cause, L6, L8, F15, F12, IsRefusedFor, IsAccepted, IsFirstRefused, IsRefusal, AreBuildable}
use Rattle.rl_automata.proofs.Congruence.{AllIn, some_in}
use Rattle.rl_automata.proofs.Congruence1.{star_reach, enter_follows, finish_follows, every_follows, leave_follows, mark_follows, when_follows}
use Rattle.rl_automata.proofs.MarksLaws.{auto_order}
use Rattle.rl_automata.proofs.HonestLaws.{itself, both_agrees, cat_agrees, star_agrees, pair_itself, chain_itself, set_itself, order_same, honest_agree}
use Rattle.rl_automata.proofs.ScanLaws.{scan_agrees, scan_jams_agree}
use Rattle.rl_automata.proofs.JamLaws.{both_jams_named, cat_jams_named, star_jams_named, jams_along}
use Rattle.rl_automata.proofs.CountLaws.{more_along, cells_along}

-- ---- one node

raw_agree : (t : Node) (k h : Below t) → AreHonestBelow t k → AreHonestBelow t h → Follows (raw_auto t k) (raw_auto t h) (λ c. c)
raw_agree (N.Set ranges) k h x y = itself (raw_auto (N.Set ranges) k)
raw_agree N.Null k h x y = itself (raw_auto N.Null k)
raw_agree N.Nothing k h x y = itself (raw_auto N.Nothing k)
raw_agree (N.Union a b) k h x y = both_agrees (honest_agree a k.0 h.0 x.0 y.0) (honest_agree b k.1 h.1 x.1 y.1) (λ p q. p || q)
raw_agree (N.And a b) k h x y = both_agrees (honest_agree a k.0 h.0 x.0 y.0) (honest_agree b k.1 h.1 x.1 y.1) (λ p q. p && q)
raw_agree (N.Minus a b) k h x y = both_agrees (honest_agree a k.0 h.0 x.0 y.0) (honest_agree b k.1 h.1 x.1 y.1) (λ p q. p && not q)
raw_agree (N.Cat a b) k h x y = cat_agrees (honest_agree a k.0 h.0 x.0 y.0) (honest_agree b k.1 h.1 x.1 y.1) (auto_order b k.1) (auto_order b h.1) (order_same b k.1 h.1)
raw_agree (N.Star a n) k h x y = star_agrees (honest_agree a k h x y) (auto_order a k) (auto_order a h) (order_same a k h) n
raw_agree (N.Enter a l) k h x y = enter_follows (auto_order a k) (auto_order a h) (honest_agree a k h x y) (carry_of l)
raw_agree (N.Finish a l) k h x y = finish_follows (honest_agree a k h x y) (carry_of l)
raw_agree (N.All a l) k h x y = every_follows (honest_agree a k h x y) (carry_of l)
raw_agree (N.Leave a l) k h x y = leave_follows (honest_agree a k h x y) (carry_of l)
raw_agree (N.Mark a class kind s n) k h x y = mark_follows (auto_order a k) (auto_order a h) (honest_agree a k h x y) class kind (record { major = s; minor = 0; action = record { 0 = n } })
raw_agree (N.When a c) k h x y = when_follows (honest_agree a k h x y) c

jams_agree : (t : Node) (k h : Below t) → AreHonestBelow t k → AreHonestBelow t h → (c : Conf t) → Reach (raw_auto t k) c → (l : Letter) → node_jams t k c l ≡ node_jams t h c l
jams_agree (N.Set ranges) k h x y c r l = refl
jams_agree N.Null k h x y c r l = refl
jams_agree N.Nothing k h x y c r l = refl
jams_agree (N.Union a b) k h x y c r l =
    let F = honest_agree a k.0 h.0 x.0 y.0 in
    let G = honest_agree b k.1 h.1 x.1 y.1 in
    both_jams_named F G (λ p q. p || q) c r l ∙ ap (λ d. both_jams (auto a h.0) (auto b h.1) d l) (pair_itself F G c)
jams_agree (N.And a b) k h x y c r l =
    let F = honest_agree a k.0 h.0 x.0 y.0 in
    let G = honest_agree b k.1 h.1 x.1 y.1 in
    both_jams_named F G (λ p q. p && q) c r l ∙ ap (λ d. both_jams (auto a h.0) (auto b h.1) d l) (pair_itself F G c)
jams_agree (N.Minus a b) k h x y c r l =
    let F = honest_agree a k.0 h.0 x.0 y.0 in
    let G = honest_agree b k.1 h.1 x.1 y.1 in
    both_jams_named F G (λ p q. p && not q) c r l ∙ ap (λ d. both_jams (auto a h.0) (auto b h.1) d l) (pair_itself F G c)
jams_agree (N.Cat a b) k h x y c r l =
    let F = honest_agree a k.0 h.0 x.0 y.0 in
    let G = honest_agree b k.1 h.1 x.1 y.1 in
    let o = auto_order b k.1 in
    let o' = auto_order b h.1 in
    cat_jams_named F G o o' c r l ∙ ap (λ d. cat_jams (auto a h.0) (auto b h.1) d l) (chain_itself F G o o' (order_same b k.1 h.1) c r)
jams_agree (N.Star a n) k h x y c r l =
    let F = honest_agree a k h x y in
    let o = auto_order a k in
    let o' = auto_order a h in
    star_jams_named o o' F n c r l
    ∙ ap (λ d. star_jams (auto a h) n d l) (set_itself (auto a k).order (auto a h).order o (order_same a k h) c (star_reach o o' F n c r).1)
jams_agree (N.Enter a x) k h p q c r l = refl
jams_agree (N.Finish a x) k h p q c r l = refl
jams_agree (N.All a x) k h p q c r l = refl
jams_agree (N.Leave a x) k h p q c r l = refl
jams_agree (N.Mark a class kind s n) k h x y c r l = refl
jams_agree (N.When a x) k h p q c r l = refl

empty_agrees : (ps : List Pattern) (k h : PatternMarks ps) → ArePatternsHonest ps k → ArePatternsHonest ps h → first_empty ps k ≡ first_empty ps h
empty_agrees [] k h x y = refl
empty_agrees (p ∷ ps) k h x y =
    let F = honest_agree p.tree k.0 h.0 x.0 y.0 in
    λ i. or_later ((F.final (auto p.tree k.0).start begun ∙ ap (auto p.tree h.0).final F.start) i) (empty_agrees ps k.1 h.1 x.1 y.1 i)

-- ---- one site with two tests

data SamePlace : Site → Site → Type 0 where
  same_node : (t : Node) (k h : Below t) → SamePlace (AtNode t k) (AtNode t h)
  same_scanner : (ps : List Pattern) (k h : PatternMarks ps) → SamePlace (AtScanner ps k) (AtScanner ps h)

back : (x y : Site) → SamePlace x y → SamePlace y x
back x y (same_node t k h) = same_node t h k
back x y (same_scanner ps k h) = same_scanner ps h k

-- what the two tell of it agrees
record Agrees (alphabet : Alphabet) (x y : Site) : Type 0 where
  too_many : HasTooMany x ↔ HasTooMany y
  cells : HasTooManyCells alphabet x ↔ HasTooManyCells alphabet y
  cycle : HasCycle x ↔ HasCycle y
  empty : empty_at x ≡ empty_at y

agrees : (alphabet : Alphabet) (x y : Site) → SamePlace x y → IsHonestSite x → IsHonestSite y → Agrees alphabet x y
agrees alphabet x y (same_node t k h) p q = record {
  too_many = more_along (raw_agree t k h p q) 32767;
  cells = cells_along (raw_agree t k h p q) (site_width alphabet (AtNode t k)) 4194304;
  cycle = jams_along (raw_agree t k h p q) (node_jams t k) (node_jams t h) (jams_agree t k h p q);
  empty = refl;
}
agrees alphabet x y (same_scanner ps k h) p q = record {
  too_many = more_along (scan_agrees ps k h p q) 32767;
  cells = cells_along (scan_agrees ps k h p q) (site_width alphabet (AtScanner ps k)) 4194304;
  cycle = jams_along (scan_agrees ps k h p q) (site_jams (AtScanner ps k)) (site_jams (AtScanner ps h)) (scan_jams_agree ps k h p q);
  empty = empty_agrees ps k h p q;
}

moved : (alphabet : Alphabet) (x y : Site) → Agrees alphabet x y → (cause : Cause) → IsRefusedFor alphabet x cause → IsRefusedFor alphabet y cause
moved alphabet x y a L6 r = a.too_many.0 r
moved alphabet x y a L8 r = ((λ h. r.0 (a.too_many.1 h)), a.cells.0 r.1)
moved alphabet x y a F15 r = ((λ h. r.0 (a.too_many.1 h)), (λ h. r.1 (a.cells.1 h)), a.cycle.0 r.2)
moved alphabet x y a (F12 i) r = ((λ h. r.0 (a.too_many.1 h)), (λ h. r.1 (a.cells.1 h)), (λ h. r.2 (a.cycle.1 h)), sym a.empty ∙ r.3)

-- the causes exclude each other
one_cause : (alphabet : Alphabet) (x : Site) (c d : Cause) → IsRefusedFor alphabet x c → IsRefusedFor alphabet x d → c ≡ d
one_cause alphabet x L6 L6 r s = refl
one_cause alphabet x L6 L8 r s = absurd (s.0 r)
one_cause alphabet x L6 F15 r s = absurd (s.0 r)
one_cause alphabet x L6 (F12 j) r s = absurd (s.0 r)
one_cause alphabet x L8 L6 r s = absurd (r.0 s)
one_cause alphabet x L8 L8 r s = refl
one_cause alphabet x L8 F15 r s = absurd (s.1 r.1)
one_cause alphabet x L8 (F12 j) r s = absurd (s.1 r.1)
one_cause alphabet x F15 L6 r s = absurd (r.0 s)
one_cause alphabet x F15 L8 r s = absurd (r.1 s.1)
one_cause alphabet x F15 F15 r s = refl
one_cause alphabet x F15 (F12 j) r s = absurd (s.2 r.2)
one_cause alphabet x (F12 i) L6 r s = absurd (r.0 s)
one_cause alphabet x (F12 i) L8 r s = absurd (r.1 s.1)
one_cause alphabet x (F12 i) F15 r s = absurd (r.2 s.2)
one_cause alphabet x (F12 i) (F12 j) r s = ap F12 (some_in i j (sym r.3 ∙ s.3))

-- ---- all sites with two tests

abbrev SamePlaces : List Site → List Site → Type 0
SamePlaces [] [] = Unit {0}
SamePlaces [] (y ∷ ys) = ⊥
SamePlaces (x ∷ xs) [] = ⊥
SamePlaces (x ∷ xs) (y ∷ ys) = SamePlace x y × SamePlaces xs ys

places_append : (xs ys zs ws : List Site) → SamePlaces xs ys → SamePlaces zs ws → SamePlaces (xs ++ zs) (ys ++ ws)
places_append [] [] zs ws p q = q
places_append [] (y ∷ ys) zs ws p q = absurd p
places_append (x ∷ xs) [] zs ws p q = absurd p
places_append (x ∷ xs) (y ∷ ys) zs ws p q = (p.0, places_append xs ys zs ws p.1 q)

under : (xs ys : List Site) (x y : Site) → SamePlaces xs ys → SamePlace x y → SamePlaces (xs ++ x ∷ []) (ys ++ y ∷ [])
under xs ys x y p q = places_append xs ys (x ∷ []) (y ∷ []) p (q, tt)

under_two : (xs ys zs ws : List Site) (x y : Site) → SamePlaces xs ys → SamePlaces zs ws → SamePlace x y → SamePlaces (xs ++ zs ++ x ∷ []) (ys ++ ws ++ y ∷ [])
under_two xs ys zs ws x y p q r = under (xs ++ zs) (ys ++ ws) x y (places_append xs ys zs ws p q) r

sites_same : (t : Node) (k h : Marks t) → SamePlaces (sites t k) (sites t h)
sites_same (N.Set ranges) k h = (same_node (N.Set ranges) tt tt, tt)
sites_same N.Null k h = (same_node N.Null tt tt, tt)
sites_same N.Nothing k h = (same_node N.Nothing tt tt, tt)
sites_same (N.Union a b) k h = under_two (sites a k.0) (sites a h.0) (sites b k.1) (sites b h.1) _ _ (sites_same a k.0 h.0) (sites_same b k.1 h.1) (same_node (N.Union a b) k h)
sites_same (N.And a b) k h = under_two (sites a k.0) (sites a h.0) (sites b k.1) (sites b h.1) _ _ (sites_same a k.0 h.0) (sites_same b k.1 h.1) (same_node (N.And a b) (k.0, k.1) (h.0, h.1))
sites_same (N.Minus a b) k h = under_two (sites a k.0) (sites a h.0) (sites b k.1) (sites b h.1) _ _ (sites_same a k.0 h.0) (sites_same b k.1 h.1) (same_node (N.Minus a b) (k.0, k.1) (h.0, h.1))
sites_same (N.Cat a b) k h = under_two (sites a k.0) (sites a h.0) (sites b k.1) (sites b h.1) _ _ (sites_same a k.0 h.0) (sites_same b k.1 h.1) (same_node (N.Cat a b) k h)
sites_same (N.Star a n) k h = under (sites a k) (sites a h) _ _ (sites_same a k h) (same_node (N.Star a n) k h)
sites_same (N.Enter a l) k h = under (sites a k) (sites a h) _ _ (sites_same a k h) (same_node (N.Enter a l) k h)
sites_same (N.Finish a l) k h = under (sites a k) (sites a h) _ _ (sites_same a k h) (same_node (N.Finish a l) k h)
sites_same (N.All a l) k h = under (sites a k) (sites a h) _ _ (sites_same a k h) (same_node (N.All a l) k h)
sites_same (N.Leave a l) k h = under (sites a k) (sites a h) _ _ (sites_same a k h) (same_node (N.Leave a l) k h)
sites_same (N.Mark a class kind s x) k h = under (sites a k) (sites a h) _ _ (sites_same a k h) (same_node (N.Mark a class kind s x) k h)
sites_same (N.When a c) k h = under (sites a k) (sites a h) _ _ (sites_same a k h) (same_node (N.When a c) k h)

patterns_same : (ps : List Pattern) (k h : PatternMarks ps) → SamePlaces (pattern_sites ps k) (pattern_sites ps h)
patterns_same [] k h = tt
patterns_same (p ∷ ps) k h = places_append (sites p.tree k.0) (sites p.tree h.0) (pattern_sites ps k.1) (pattern_sites ps h.1) (sites_same p.tree k.0 h.0) (patterns_same ps k.1 h.1)

root_same : (x : Root) (k h : RootMarks x) → SamePlaces (root_sites x k) (root_sites x h)
root_same (Plain t) k h = sites_same t k h
root_same (Scanner ps) k h = under (pattern_sites ps k) (pattern_sites ps h) _ _ (patterns_same ps k h) (same_scanner ps k h)

all_same : (xs : List Root) (k h : AllRootMarks xs) → SamePlaces (all_sites xs k) (all_sites xs h)
all_same [] k h = tt
all_same (x ∷ xs) k h = places_append (root_sites x k.0) (root_sites x h.0) (all_sites xs k.1) (all_sites xs h.1) (root_same x k.0 h.0) (all_same xs k.1 h.1)

-- ---- honest tests are honest at each site

append_all : {X : Type 0} {P : X → Type 0} (xs ys : List X) → AllIn P xs → AllIn P ys → AllIn P (xs ++ ys)
append_all xs ys a b x h = let r : In x xs ⊎ In x ys = In-append_cases x xs ys h in elim r [ inl i ↦ a x i | inr j ↦ b x j ]

last_all : {X : Type 0} {P : X → Type 0} (xs : List X) (y : X) → AllIn P xs → P y → AllIn P (xs ++ y ∷ [])
last_all {P = P} xs y a p = append_all xs (y ∷ []) a (λ x h. elim h [ inl e ↦ subst P e p | inr j ↦ absurd j ])

two_all : {X : Type 0} {P : X → Type 0} (xs ys : List X) (z : X) → AllIn P xs → AllIn P ys → P z → AllIn P (xs ++ ys ++ z ∷ [])
two_all xs ys z a b p = last_all (xs ++ ys) z (append_all xs ys a b) p

alone : {X : Type 0} (P : X → Type 0) (y : X) → P y → AllIn P (y ∷ [])
alone P y p x h = elim h [ inl e ↦ subst P e p | inr j ↦ absurd j ]

honest_sites : (t : Node) (k : Marks t) → AreHonest t k → AllIn IsHonestSite (sites t k)
honest_sites (N.Set ranges) k x = alone IsHonestSite (AtNode (N.Set ranges) tt) tt
honest_sites N.Null k x = alone IsHonestSite (AtNode N.Null tt) tt
honest_sites N.Nothing k x = alone IsHonestSite (AtNode N.Nothing tt) tt
honest_sites (N.Union a b) k x = two_all {P = IsHonestSite} (sites a k.0) (sites b k.1) (AtNode (N.Union a b) k) (honest_sites a k.0 x.0) (honest_sites b k.1 x.1) x
honest_sites (N.And a b) k x = two_all {P = IsHonestSite} (sites a k.0) (sites b k.1) (AtNode (N.And a b) (k.0, k.1)) (honest_sites a k.0 x.0) (honest_sites b k.1 x.1) (x.0, x.1)
honest_sites (N.Minus a b) k x = two_all {P = IsHonestSite} (sites a k.0) (sites b k.1) (AtNode (N.Minus a b) (k.0, k.1)) (honest_sites a k.0 x.0) (honest_sites b k.1 x.1) (x.0, x.1)
honest_sites (N.Cat a b) k x = two_all {P = IsHonestSite} (sites a k.0) (sites b k.1) (AtNode (N.Cat a b) k) (honest_sites a k.0 x.0) (honest_sites b k.1 x.1) x
honest_sites (N.Star a n) k x = last_all {P = IsHonestSite} (sites a k) (AtNode (N.Star a n) k) (honest_sites a k x) x
honest_sites (N.Enter a l) k x = last_all {P = IsHonestSite} (sites a k) (AtNode (N.Enter a l) k) (honest_sites a k x) x
honest_sites (N.Finish a l) k x = last_all {P = IsHonestSite} (sites a k) (AtNode (N.Finish a l) k) (honest_sites a k x) x
honest_sites (N.All a l) k x = last_all {P = IsHonestSite} (sites a k) (AtNode (N.All a l) k) (honest_sites a k x) x
honest_sites (N.Leave a l) k x = last_all {P = IsHonestSite} (sites a k) (AtNode (N.Leave a l) k) (honest_sites a k x) x
honest_sites (N.Mark a class kind s n) k x = last_all {P = IsHonestSite} (sites a k) (AtNode (N.Mark a class kind s n) k) (honest_sites a k x) x
honest_sites (N.When a c) k x = last_all {P = IsHonestSite} (sites a k) (AtNode (N.When a c) k) (honest_sites a k x) x

honest_patterns : (ps : List Pattern) (k : PatternMarks ps) → ArePatternsHonest ps k → AllIn IsHonestSite (pattern_sites ps k)
honest_patterns [] k x = λ y h. absurd h
honest_patterns (p ∷ ps) k x = append_all {P = IsHonestSite} (sites p.tree k.0) (pattern_sites ps k.1) (honest_sites p.tree k.0 x.0) (honest_patterns ps k.1 x.1)

honest_root : (r : Root) (k : RootMarks r) → IsRootHonest r k → AllIn IsHonestSite (root_sites r k)
honest_root (Plain t) k x = honest_sites t k x
honest_root (Scanner ps) k x = last_all {P = IsHonestSite} (pattern_sites ps k) (AtScanner ps k) (honest_patterns ps k x) x

pub honest_all : (xs : List Root) (k : AllRootMarks xs) → AreRootsHonest xs k → AllIn IsHonestSite (all_sites xs k)
honest_all [] k x = λ y h. absurd h
honest_all (r ∷ rs) k x = append_all {P = IsHonestSite} (root_sites r k.0) (all_sites rs k.1) (honest_root r k.0 x.0) (honest_all rs k.1 x.1)

-- ---- the first refused site

module _ (alphabet : Alphabet) where
  first_one : (xs ys : List Site) (i j : ℕ) (c d : Cause) → SamePlaces xs ys → IsFirstRefused alphabet xs i c → IsFirstRefused alphabet ys j d → (i ≡ j) × (c ≡ d)
  first_one [] ys i j c d p r s = absurd r
  first_one (x ∷ xs) [] i j c d p r s = absurd p
  first_one (x ∷ xs) (y ∷ ys) zero zero c d p r s = (refl, one_cause alphabet y c d (moved alphabet x y (agrees alphabet x y p.0 r.0 s.0) c r.1) s.1)
  first_one (x ∷ xs) (y ∷ ys) zero (suc j) c d p r s = absurd (s.1 c (moved alphabet x y (agrees alphabet x y p.0 r.0 s.0) c r.1))
  first_one (x ∷ xs) (y ∷ ys) (suc i) zero c d p r s = absurd (r.1 d (moved alphabet y x (agrees alphabet y x (back x y p.0) s.0 r.0) d s.1))
  first_one (x ∷ xs) (y ∷ ys) (suc i) (suc j) c d p r s = let q = first_one xs ys i j c d p.1 r.2 s.2 in (ap suc q.0, q.1)

  none_refused : (xs ys : List Site) (i : ℕ) (c : Cause) → SamePlaces xs ys → AllIn IsHonestSite ys → AllIn (IsAccepted alphabet) ys → IsFirstRefused alphabet xs i c → ⊥
  none_refused [] ys i c p a b r = r
  none_refused (x ∷ xs) [] i c p a b r = p
  none_refused (x ∷ xs) (y ∷ ys) zero c p a b r = b y (inl refl) c (moved alphabet x y (agrees alphabet x y p.0 r.0 (a y (inl refl))) c r.1)
  none_refused (x ∷ xs) (y ∷ ys) (suc i) c p a b r = none_refused xs ys i c p.1 (λ z h. a z (inr h)) (λ z h. b z (inr h)) r.2

  still_accepted : (xs ys : List Site) → SamePlaces xs ys → AllIn IsHonestSite xs → AllIn (IsAccepted alphabet) xs → AllIn IsHonestSite ys → AllIn (IsAccepted alphabet) ys
  still_accepted xs [] p a b d z h = absurd h
  still_accepted [] (y ∷ ys) p a b d z h = absurd p
  still_accepted (x ∷ xs) (y ∷ ys) p a b d z (inl e) = subst (IsAccepted alphabet) e (λ c r. b x (inl refl) c (moved alphabet y x (agrees alphabet y x (back x y p.0) (d y (inl refl)) (a x (inl refl))) c r))
  still_accepted (x ∷ xs) (y ∷ ys) p a b d z (inr h) = still_accepted xs ys p.1 (λ w i. a w (inr i)) (λ w i. b w (inr i)) (λ w i. d w (inr i)) z h

pub one_refusal : (alphabet : Alphabet) (xs : List Root) (i j : ℕ) (c d : Cause) → IsRefusal alphabet xs i c → IsRefusal alphabet xs j d → (i ≡ j) × (c ≡ d)
one_refusal alphabet xs i j c d r s = first_one alphabet (all_sites xs r.0) (all_sites xs s.0) i j c d (all_same xs r.0 s.0) r.1 s.1

pub refused_or_built : (alphabet : Alphabet) (xs : List Root) (i : ℕ) (c : Cause) → IsRefusal alphabet xs i c → ¬ AreBuildable alphabet xs
refused_or_built alphabet xs i c r b = none_refused alphabet (all_sites xs r.0) (all_sites xs b.0) i c (all_same xs r.0 b.0) (honest_all xs b.0 b.1) b.2 r.1

pub built_with_all : (alphabet : Alphabet) (xs : List Root) (k : AllRootMarks xs) → AreBuildable alphabet xs → AreRootsHonest xs k → (x : Site) → In x (all_sites xs k) → IsAccepted alphabet x
built_with_all alphabet xs k b honest = still_accepted alphabet (all_sites xs b.0) (all_sites xs k) (all_same xs b.0 k) (honest_all xs b.0 b.1) b.2 (honest_all xs k honest)
