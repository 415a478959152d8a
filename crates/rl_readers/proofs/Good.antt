-- A part of a grammar with its reader, at two limits, and no symbol of some classes in what it spells.
use Rattle.std.proofs.Common.{◌≡◌, ℕ, suc, ◌≤◌, Bool, true, false, List, [], ◌∷◌, ◌++◌, length, Some, None, inl, inr, refl, sym, ap, ◌∙◌, arith, length-append}
use Rattle.std.specs.Prelude.{◌&&◌, not}
use Rattle.std.specs.List.{flat_map}
use Rattle.std.proofs.lemmas.Bool.{and_parts, and_from, not_from_false}
use Rattle.rl_readers.specs.Readers.{Symbols, Reader, one, both, made, either, optional, unless, many}
use Rattle.rl_readers.proofs.Phrases.{
  Phrase,
  Sound,
  Took,
  Viable,
  Reads,
  Local,
  Apart,
  Differ,
  Room,
  by_class,
  sees,
  sees_none,
  Leaf,
  single,
  single_sound,
  single_reads,
  single_local,
  viewed,
  viewed_sound,
  viewed_reads,
  viewed_local,
  maybe,
  maybe_sound,
  maybe_reads,
  maybe_local,
  choice,
  choice_sound,
  choice_reads,
  choice_local,
  never_bare,
  first_of_text,
  seq,
  seq_sound,
  seq_reads,
  seq_local,
  same_room,
  list_of,
  list_sound,
  list_reads,
  list_local,
  all_fit,
  barring,
  barring_sound,
  barring_reads,
  barring_local,
  named,
  named_sound,
  named_reads,
}

-- no symbol of these classes is among those that are seen
abbrev pub lacks : (S : Symbols) → (S.Class → Bool) → List S.Seen → Bool
lacks S bad [] = true
lacks S bad (l ∷ ls) = not (bad (S.class_of l)) && lacks S bad ls

-- no value spells one, up to a length
abbrev pub Lacks : (S : Symbols) → (S.Class → Bool) → {A : Type 0} → Phrase S A → ℕ → Type 0
Lacks S bad {A} p d = (a : A) → p.fits a ≡ true → length (p.spell a) ≤ d → lacks S bad (p.spell a) ≡ true

pub record Good (S : Symbols) (bad : S.Class → Bool) {A : Type 0} (p : Phrase S A) (d e : ℕ) (read other : Reader S.Symbol A) : Type 0 where
  pub sound : Sound S p
  pub here : Reads S p d read
  pub there : Reads S p e other
  pub same : Local S d e read other
  pub clean : Lacks S bad p d

some_text : {X : Type 0} (u : List X) → (u ≡ [] → ⊥) → 1 ≤ length u
some_text [] full = absurd (full refl)
some_text (l ∷ u) full = omega arith

module _ (S : Symbols) (bad : S.Class → Bool) where
  lacks-append : (u v : List S.Seen) → lacks S bad u ≡ true → lacks S bad v ≡ true → lacks S bad (u ++ v) ≡ true
  lacks-append [] v hu hv = hv
  lacks-append (l ∷ u) v hu hv =
      let hs = and_parts (not (bad (S.class_of l))) (lacks S bad u) hu in
      and_from (not (bad (S.class_of l))) (lacks S bad (u ++ v)) hs.0 (lacks-append u v hs.1 hv)

  behind : {A B : Type 0} (p : Phrase S A) (q : Phrase S B) (d dq : ℕ) → Lacks S bad p d → Lacks S bad q dq
      → ((c : A × B) → p.fits c.0 ≡ true → length (p.spell c.0 ++ q.spell c.1) ≤ d → length (q.spell c.1) ≤ dq) → Lacks S bad (seq S p q) d
  behind p q d dq lp lq room c h l =
      let hs = and_parts (p.fits c.0) (q.fits c.1) h in
      let n = length-append (p.spell c.0) (q.spell c.1) in
      let lc : length (p.spell c.0 ++ q.spell c.1) ≤ d = l in
      let l0 : length (p.spell c.0) ≤ d = omega (arith, n, lc) in
      lacks-append (p.spell c.0) (q.spell c.1) (lp c.0 hs.0 l0) (lq c.1 hs.1 (room c hs.0 l))

  less_room : {A : Type 0} (p : Phrase S A) → Sound S p → p.null ≡ false → (d : ℕ) → Room S p (suc d) d
  less_room p ps filled d a x n e h l =
      let first = first_of_text S x (p.spell a) e (ps.full a h (never_bare S p ps filled a)) in
      let count : length x ≡ suc (length first.1) = ap length first.2 in
      omega arith

  clean_list : {A : Type 0} (p : Phrase S A) (d : ℕ) → Lacks S bad p d → (xs : List A) → all_fit S p.fits xs ≡ true → length (flat_map p.spell xs) ≤ d → lacks S bad (flat_map p.spell xs) ≡ true
  clean_list p d lp [] h l = refl
  clean_list p d lp (a ∷ xs) h l =
      let hs = and_parts (p.fits a) (all_fit S p.fits xs) h in
      let n = length-append (p.spell a) (flat_map p.spell xs) in
      let la : length (p.spell a ++ flat_map p.spell xs) ≤ d = l in
      let l0 : length (p.spell a) ≤ d = omega (arith, n, la) in
      let l1 : length (flat_map p.spell xs) ≤ d = omega (arith, n, la) in
      lacks-append (p.spell a) (flat_map p.spell xs) (lp a hs.0 l0) (clean_list p d lp xs hs.1 l1)

  clean_maybe : {A : Type 0} (p : Phrase S A) (d : ℕ) → Lacks S bad p d → Lacks S bad (maybe S p) d
  clean_maybe p d lp None h l = refl
  clean_maybe p d lp (Some a) h l = lp a h l

  clean_choice : {A B : Type 0} (p : Phrase S A) (q : Phrase S B) (d : ℕ) → Lacks S bad p d → Lacks S bad q d → Lacks S bad (choice S p q) d
  clean_choice p q d lp lq (inl a) h l = lp a h l
  clean_choice p q d lp lq (inr b) h l = lq b h l

module _ {S : Symbols} {bad : S.Class → Bool} where
  -- ---- one symbol

  pub good_single : {A : Type 0} (test : S.Symbol → Bool) (get : S.Symbol → A) (leaf : A → S.Seen) (fits : A → Bool) (begins : S.Class → Bool) (token : S.Symbol)
      → Leaf S test get leaf fits begins → test token ≡ true → ((k : S.Class) → begins k ≡ true → bad k ≡ false) → (d e : ℕ) → Good S bad (single S get leaf fits begins token) d e (one test get) (one test get)
  good_single test get leaf fits begins token is token_is apart d e = record {
    sound = single_sound S test get leaf fits begins token is token_is;
    here = single_reads S test get leaf fits begins token is token_is d;
    there = single_reads S test get leaf fits begins token is token_is e;
    same = single_local S test get leaf fits begins token is token_is d e;
    clean = λ a h l. and_from (not (bad (S.class_of (leaf a)))) true (not_from_false (bad (S.class_of (leaf a))) (apart (S.class_of (leaf a)) (is.starts a h))) refl;
  }

  -- ---- one part behind another

  pub good_seq : {A B : Type 0} (p : Phrase S A) (q : Phrase S B) (d e : ℕ) {rp op : Reader S.Symbol A} {rq oq : Reader S.Symbol B}
      → Good S bad p d e rp op → Good S bad q d e rq oq → Apart S p q → Good S bad (seq S p q) d e (both rp rq) (both op oq)
  good_seq p q d e {rp} {op} {rq} {oq} gp gq apart = record {
    sound = seq_sound S p q gp.sound gq.sound;
    here = seq_reads S p q gp.sound gq.sound d d (same_room S p d) rp rq gp.here gq.here apart;
    there = seq_reads S p q gp.sound gq.sound e e (same_room S p e) op oq gp.there gq.there apart;
    same = seq_local S p q gp.sound gq.sound d d e e (same_room S p d) (same_room S p e) rp op rq oq gp.here gq.here gp.there gp.same gq.same;
    clean = behind S bad p q d d gp.clean gq.clean (λ c h l. let n = length-append (p.spell c.0) (q.spell c.1) in let lc : length (p.spell c.0 ++ q.spell c.1) ≤ d = l in omega (arith, n, lc));
  }

  -- the same where the second part has one symbol less
  pub good_behind : {A B : Type 0} (p : Phrase S A) (q : Phrase S B) (d e : ℕ) {rp op : Reader S.Symbol A} {rq oq : Reader S.Symbol B} → p.null ≡ false
      → Good S bad p (suc d) (suc e) rp op → Good S bad q d e rq oq → Apart S p q → Good S bad (seq S p q) (suc d) (suc e) (both rp rq) (both op oq)
  good_behind p q d e {rp} {op} {rq} {oq} filled gp gq apart = record {
    sound = seq_sound S p q gp.sound gq.sound;
    here = seq_reads S p q gp.sound gq.sound (suc d) d (less_room S bad p gp.sound filled d) rp rq gp.here gq.here apart;
    there = seq_reads S p q gp.sound gq.sound (suc e) e (less_room S bad p gp.sound filled e) op oq gp.there gq.there apart;
    same = seq_local S p q gp.sound gq.sound (suc d) d (suc e) e (less_room S bad p gp.sound filled d) (less_room S bad p gp.sound filled e) rp op rq oq gp.here gq.here gp.there gp.same gq.same;
    clean = behind S bad p q (suc d) d gp.clean gq.clean (λ c h l.
        let n = length-append (p.spell c.0) (q.spell c.1) in
        let lc : length (p.spell c.0 ++ q.spell c.1) ≤ suc d = l in
        let some = some_text (p.spell c.0) (gp.sound.full c.0 h (never_bare S p gp.sound filled c.0)) in
        omega (arith, n, lc, some));
  }

  -- ---- lists, options, choices

  pub good_list : {A : Type 0} (p : Phrase S A) (d e : ℕ) {r o : Reader S.Symbol A} → p.null ≡ false → Good S bad p d e r o → Apart S p p → Good S bad (list_of S p) d e (many (by_class S p.begins) r) (many (by_class S p.begins) o)
  good_list p d e {r} {o} filled g apart = record {
    sound = list_sound S p g.sound filled;
    here = list_reads S p g.sound filled d r g.here apart;
    there = list_reads S p g.sound filled e o g.there apart;
    same = list_local S p g.sound filled d e r o g.here g.there g.same;
    clean = clean_list S bad p d g.clean;
  }

  pub good_maybe : {A : Type 0} (p : Phrase S A) (d e : ℕ) {r o : Reader S.Symbol A} → p.null ≡ false → Good S bad p d e r o → Good S bad (maybe S p) d e (optional (by_class S p.begins) r) (optional (by_class S p.begins) o)
  good_maybe p d e {r} {o} filled g = record {
    sound = maybe_sound S p g.sound filled;
    here = maybe_reads S p g.sound filled d r g.here;
    there = maybe_reads S p g.sound filled e o g.there;
    same = maybe_local S p.begins d e r o g.same;
    clean = clean_maybe S bad p d g.clean;
  }

  pub good_choice : {A B : Type 0} (p : Phrase S A) (q : Phrase S B) (d e : ℕ) {rp op : Reader S.Symbol A} {rq oq : Reader S.Symbol B} → p.null ≡ false → q.null ≡ false
      → Good S bad p d e rp op → Good S bad q d e rq oq → Differ S p q → Good S bad (choice S p q) d e (either (by_class S p.begins) rp rq) (either (by_class S p.begins) op oq)
  good_choice p q d e {rp} {op} {rq} {oq} fp fq gp gq differ = record {
    sound = choice_sound S p q gp.sound gq.sound fp fq;
    here = choice_reads S p q gp.sound gq.sound fp fq d rp rq gp.here gq.here differ;
    there = choice_reads S p q gp.sound gq.sound fp fq e op oq gp.there gq.there differ;
    same = choice_local S p.begins d e rp op rq oq gp.same gq.same;
    clean = clean_choice S bad p q d gp.clean gq.clean;
  }

  -- ---- one that does not begin with some classes

  pub good_barring : {A : Type 0} (test : S.Class → Bool) (p : Phrase S A) (d e : ℕ) {r o : Reader S.Symbol A} → p.null ≡ false → (barring S test p).fits p.least ≡ true
      → Good S bad p d e r o → Good S bad (barring S test p) d e (unless (by_class S test) r) (unless (by_class S test) o)
  good_barring test p d e {r} {o} filled least g = record {
    sound = barring_sound S test p g.sound filled least;
    here = barring_reads S test p g.sound filled least d r g.here;
    there = barring_reads S test p g.sound filled least e o g.there;
    same = barring_local S test d e r o g.same;
    clean = λ a h l. g.clean a (and_parts (p.fits a) _ h).0 l;
  }

  -- ---- the same as another type, and under other words for what it spells, what fits, what begins it and what it may go on with

  pub good_viewed : {A C : Type 0} (f : A → C) (g : C → A) (p : Phrase S A) → ((a : A) → p.fits a ≡ true → g (f a) ≡ a) → ((c : C) → p.fits (g c) ≡ true → f (g c) ≡ c) → (d e : ℕ) {r o : Reader S.Symbol A}
      → Good S bad p d e r o → Good S bad (viewed S f g p) d e (made f r) (made f o)
  good_viewed f g p gf fg d e {r} {o} x = record {
    sound = viewed_sound S f g p gf fg x.sound;
    here = viewed_reads S f g p gf fg d r x.here;
    there = viewed_reads S f g p gf fg e o x.there;
    same = viewed_local S f d e r o x.same;
    clean = λ c. x.clean (g c);
  }

abbrev pub rule : {S : Symbols} {A : Type 0} → (A → List S.Seen) → (A → Bool) → (S.Class → Bool) → (S.Class → Bool) → Phrase S A → Phrase S A
rule spell fits begins may p = record p { spell = spell; fits = fits; begins = begins; may = may }

module _ {S : Symbols} {A : Type 0} (spell : A → List S.Seen) (fits : A → Bool) (begins may : S.Class → Bool) (p : Phrase S A)
    (texts : (a : A) → spell a ≡ p.spell a) (tests : (a : A) → fits a ≡ p.fits a)
    (wider : (k : S.Class) → p.begins k ≡ true → begins k ≡ true) (longer : (k : S.Class) → p.may k ≡ true → may k ≡ true) where
  pub rule_sound : Sound S p → Sound S (rule spell fits begins may p)
  rule_sound ps =
      let s : Sound S (named S spell fits p) = named_sound S spell fits p texts tests ps in
      record {
        starts = λ a l ls h e. wider (S.class_of l) (s.starts a l ls h e);
        empty = s.empty;
        full = s.full;
        nulls = s.nulls;
        bounds = λ a k g. longer k (s.bounds a k g);
        least_fits = s.least_fits;
        least_told = s.least_told;
      }

  rule_reads : (d : ℕ) (r : Reader S.Symbol A) → Reads S p d r → Reads S (rule spell fits begins may p) d r
  rule_reads d r h =
      let n = named_reads S spell fits p texts tests d r h in
      record {
        sound = λ ts a r e. let x : Took S (named S spell fits p) ts a r = n.sound ts a r e in record { front = x.front; split = x.split; spelled = x.spelled; fits = x.fits; stops = x.stops };
        again = n.again;
        viable = λ ts n' e. let v : Viable S (named S spell fits p) ts n' = n.viable ts n' e in record { front = v.front; rest = v.rest; after = v.after; whole = v.whole; split = v.split; left = v.left; spelled = v.spelled; fits = v.fits };
      }

  pub good_rule : {bad : S.Class → Bool} (d e : ℕ) {r o : Reader S.Symbol A} → Good S bad p d e r o → Good S bad (rule spell fits begins may p) d e r o
  good_rule {bad} d e {r} {o} g = record {
    sound = rule_sound g.sound;
    here = rule_reads d r g.here;
    there = rule_reads e o g.there;
    same = g.same;
    clean = λ a h l.
        let text = texts a in
        let less : length (p.spell a) ≤ d = omega (arith, ap length text, l) in
        ap (lacks S bad) text ∙ g.clean a (sym (tests a) ∙ h) less;
  }

-- ---- a part whose values never go on

abbrev pub closed : {S : Symbols} {A : Type 0} → Phrase S A → Phrase S A
closed p = record p { goes = λ a k. false; may = λ k. false }

module _ {S : Symbols} {A : Type 0} (p : Phrase S A) where
  pub closed_sound : Sound S p → Sound S (closed p)
  closed_sound s = record { starts = s.starts; empty = s.empty; full = s.full; nulls = s.nulls; bounds = λ a k g. cc (g); least_fits = s.least_fits; least_told = s.least_told }

  module _ (shut : (a : A) (k : S.Class) → p.goes a k ≡ false) where
    shut_before : (a : A) (ts : List S.Symbol) → sees S (p.goes a) ts ≡ false
    shut_before a [] = refl
    shut_before a (t ∷ ts) = shut a (S.class_of (S.seen t))

    closed_reads : (d : ℕ) (r : Reader S.Symbol A) → Reads S p d r → Reads S (closed p) d r
    closed_reads d r h = record {
      sound = λ ts a r e. let x : Took S p ts a r = h.sound ts a r e in record { front = x.front; split = x.split; spelled = x.spelled; fits = x.fits; stops = sees_none S r };
      again = λ front a r len e f s. h.again front a r len e f (shut_before a r);
      viable = λ ts n e. let v : Viable S p ts n = h.viable ts n e in record { front = v.front; rest = v.rest; after = v.after; whole = v.whole; split = v.split; left = v.left; spelled = v.spelled; fits = v.fits };
    }

    pub good_closed : {bad : S.Class → Bool} (d e : ℕ) {r o : Reader S.Symbol A} → Good S bad p d e r o → Good S bad (closed p) d e r o
    good_closed {bad} d e {r} {o} g = record { sound = closed_sound g.sound; here = closed_reads d r g.here; there = closed_reads e o g.there; same = g.same; clean = g.clean }

-- ---- where any symbol may stand in what is spelled

none_lacks : (S : Symbols) (u : List S.Seen) → lacks S (λ k. false) u ≡ true
none_lacks S [] = refl
none_lacks S (l ∷ u) = none_lacks S u

pub good_any : {S : Symbols} {bad : S.Class → Bool} {A : Type 0} {p : Phrase S A} {d e : ℕ} {r o : Reader S.Symbol A} → Good S bad p d e r o → Good S (λ k. false) p d e r o
good_any {S} {bad} {A} {p} {d} {e} {r} {o} g = record { sound = g.sound; here = g.here; there = g.there; same = g.same; clean = λ a h l. none_lacks S (p.spell a) }
