-- Parts of a grammar, the laws of a reader of one, and that these laws pass from parts to wholes.
use Rattle.std.proofs.Common.{Bool, Err, List, None, Ok, Option, Result, Some, [], ap, append_assoc, arith, false, inl, inr, length, length-append, map, refl, subst, suc, sym, true, zero, ℕ, ◌++◌, ◌+◌, ◌∙◌, ◌∷◌, ◌≡◌, ◌≤◌, ◌⊎◌}
use Rattle.std.proofs.lemmas.Bool.{and_cases, and_from, and_parts, both_ways, cases_Bool, false_from_ne_true, not-true, not_from_false, or_cases, or_from, or_left, or_parts, or_right, true_from_ne_false}
use Rattle.std.proofs.lemmas.List.{append-nil}
use Rattle.std.specs.List.{flat_map}
use Rattle.std.specs.Prelude.{not, ◌&&◌, ◌||◌}
use Rattle.rl_readers.specs.Readers as r
use Rattle.rl_readers.specs.Readers.{Symbols, ◌>>=◌, one, both, made}

module _ (S : Symbols) where
  abbrev pub T : Type 0
  T = S.Symbol

  abbrev pub L : Type 0
  L = S.Seen

  abbrev pub K : Type 0
  K = S.Class

  abbrev pub view : T → L
  view = S.seen

  abbrev pub kind_of : L → K
  kind_of = S.class_of

  abbrev pub lexemes : List T → List L
  lexemes ts = map view ts

  abbrev pub Reader : Type 0 → Type 0
  Reader A = r.Reader T A

  -- a test of a symbol's class
  abbrev pub by_class : (K → Bool) → T → Bool
  by_class test t = test (kind_of (view t))

  abbrev pub sees : (K → Bool) → List T → Bool
  sees test ts = r.sees (by_class test) ts

  abbrev pub either : {A B : Type 0} → (K → Bool) → Reader A → Reader B → Reader (A ⊎ B)
  either begins p q ts = r.either (by_class begins) p q ts

  abbrev pub optional : {A : Type 0} → (K → Bool) → Reader A → Reader (Option A)
  optional begins p ts = r.optional (by_class begins) p ts

  abbrev pub unless : {A : Type 0} → (K → Bool) → Reader A → Reader A
  unless test p ts = r.unless (by_class test) p ts

  abbrev pub many_from : {A : Type 0} → (K → Bool) → Reader A → ℕ → List A → Reader (List A)
  many_from begins item n found ts = r.many_from (by_class begins) item n found ts

  abbrev pub many : {A : Type 0} → (K → Bool) → Reader A → Reader (List A)
  many begins item ts = r.many (by_class begins) item ts

  pub record Phrase (A : Type 0) : Type 0 where
    -- what a value spells
    pub spell : A → (List L)
    -- which values belong to the grammar
    pub fits : A → Bool
    -- which values spell nothing, and whether there are any
    pub bare : A → Bool
    pub null : Bool
    -- with which kinds a value may begin
    pub begins : K → Bool
    -- with which kinds a value would go on, and those of all values
    pub goes : A → K → Bool
    pub may : K → Bool
    -- some value, and tokens that spell it
    pub least : A
    pub least_tokens : List T

  -- what these say is so
  pub record Sound {A : Type 0} (p : Phrase A) : Type 0 where
    pub starts : (a : A) (l : L) (ls : (List L)) → p.fits a ≡ true → p.spell a ≡ l ∷ ls → p.begins (kind_of l) ≡ true
    pub empty : (a : A) → p.fits a ≡ true → p.bare a ≡ true → p.spell a ≡ []
    pub full : (a : A) → p.fits a ≡ true → p.bare a ≡ false → p.spell a ≡ [] → ⊥
    pub nulls : (a : A) → p.bare a ≡ true → p.null ≡ true
    pub bounds : (a : A) (k : K) → p.goes a k ≡ true → p.may k ≡ true
    pub least_fits : p.fits p.least ≡ true
    pub least_told : lexemes p.least_tokens ≡ p.spell p.least

  pub record Took {A : Type 0} (p : Phrase A) (ts : List T) (a : A) (r : List T) : Type 0 where
    pub front : List T
    pub split : ts ≡ front ++ r
    pub spelled : lexemes front ≡ p.spell a
    pub fits : p.fits a ≡ true
    pub stops : sees (p.goes a) r ≡ false

  -- the tokens before the last n begin a value
  pub record Viable {A : Type 0} (p : Phrase A) (ts : List T) (n : ℕ) : Type 0 where
    pub front : List T
    pub rest : List T
    pub after : List T
    pub whole : A
    pub split : ts ≡ front ++ rest
    pub left : n ≡ length rest
    pub spelled : lexemes (front ++ after) ≡ p.spell whole
    pub fits : p.fits whole ≡ true

  -- what a reader of at most d tokens does
  pub record Reads {A : Type 0} (p : Phrase A) (d : ℕ) (read : Reader A) : Type 0 where
    pub sound : (ts : List T) (a : A) (r : List T) → read ts ≡ Ok (a, r) → Took p ts a r
    pub again : (front : List T) (a : A) (r : List T) → length front ≤ d → lexemes front ≡ p.spell a → p.fits a ≡ true
        → sees (p.goes a) r ≡ false → read (front ++ r) ≡ Ok (a, r)
    pub viable : (ts : List T) (n : ℕ) → read ts ≡ Err n → Viable p ts n

  -- A reader of at most d tokens looks at none behind its fault, so one of at most e has it too.
  pub record Local {A : Type 0} (d e : ℕ) (read other : Reader A) : Type 0 where
    pub same : (front : List T) (t : T) (r y : List T) → length (front ++ (t ∷ r)) ≤ d → length (front ++ (t ∷ y)) ≤ e
        → read (front ++ (t ∷ r)) ≡ Err (length (t ∷ r)) → other (front ++ (t ∷ y)) ≡ Err (length (t ∷ y))

  -- ---- results

  pub bind_ok : {A B : Type 0} (r : Result A ℕ) (f : A → Result B ℕ) (y : B) → (r >>= f) ≡ Ok y → (x : A) × (r ≡ Ok x) × (f x ≡ Ok y)
  bind_ok (Ok x) f y e = (x, refl, e)
  bind_ok (Err n) f y e = cc

  pub bind_err : {A B : Type 0} (r : Result A ℕ) (f : A → Result B ℕ) (n : ℕ) → (r >>= f) ≡ Err n → (r ≡ Err n) ⊎ ((x : A) × (r ≡ Ok x) × (f x ≡ Err n))
  bind_err (Ok x) f n e = inr (x, refl, e)
  bind_err (Err m) f n e = inl cc

  pub same_ok : {X : Type 0} {x y : X} → ◌≡◌ {A = Result X ℕ} (Ok x) (Ok y) → x ≡ y
  same_ok e = cc

  pub same_err : {X : Type 0} {m n : ℕ} → ◌≡◌ {A = Result X ℕ} (Err m) (Err n) → m ≡ n
  same_err e = cc

  -- ---- lists

  pub split_same : {X : Type 0} (a b x y : List X) → a ++ x ≡ b ++ y → length x ≡ length y → (a ≡ b) × (x ≡ y)
  split_same [] [] x y e h = (refl, e)
  split_same {X} [] (c ∷ b) x y e h = absurd (omega (arith, ap length e, length-append b y))
  split_same {X} (c ∷ a) [] x y e h = absurd (omega (arith, ap length e, length-append a x))
  split_same (c ∷ a) (c' ∷ b) x y e h =
      let tails : a ++ x ≡ b ++ y = cc in
      let heads : c ≡ c' = cc in
      let parts = split_same a b x y tails h in
      let e0 : a ≡ b = parts.0 in
      let e1 : x ≡ y = parts.1 in
      (cc, e1)

  -- a list of lexemes in two parts splits the tokens
  pub split_lexemes : (ts : List T) (u v : (List L)) → lexemes ts ≡ u ++ v → (x : List T) × (y : List T) × (ts ≡ x ++ y) × (lexemes x ≡ u) × (lexemes y ≡ v)
  split_lexemes ts [] v e = ([], ts, refl, refl, e)
  split_lexemes [] (l ∷ u) v e = cc
  split_lexemes (t ∷ ts) (l ∷ u) v e =
      let tails : lexemes ts ≡ u ++ v = cc in
      let heads : view t ≡ l = cc in
      let parts = split_lexemes ts u v tails in
      let e0 : ts ≡ parts.0 ++ parts.1 = parts.2 in
      let e1 : lexemes parts.0 ≡ u = parts.3 in
      (t ∷ parts.0, parts.1, cc, cc, parts.4)

  pub lexemes-append : (x y : List T) → lexemes (x ++ y) ≡ lexemes x ++ lexemes y
  lexemes-append [] y = refl
  lexemes-append (t ∷ x) y = ap (λ z. view t ∷ z) (lexemes-append x y)

  -- the first token alone is seen
  pub sees_first : (test : K → Bool) (front : List T) (t : T) (r y : List T) → sees test (front ++ (t ∷ r)) ≡ sees test (front ++ (t ∷ y))
  sees_first test [] t r y = refl
  sees_first test (f ∷ front) t r y = refl

  -- A single token, a choice, an option, and a part seen as another type.

  -- ---- one symbol

  pub record Leaf {A : Type 0} (test : T → Bool) (get : T → A) (leaf : A → L) (fits : A → Bool) (begins : K → Bool) : Type 0 where
    -- a symbol that is taken is seen as what its value spells
    pub gives : (t : T) → test t ≡ true → view t ≡ leaf (get t)
    pub belongs : (t : T) → test t ≡ true → fits (get t) ≡ true
    -- a symbol that is seen so is taken, as this value
    pub back : (t : T) (a : A) → view t ≡ leaf a → fits a ≡ true → get t ≡ a
    pub taken : (t : T) (a : A) → view t ≡ leaf a → fits a ≡ true → test t ≡ true
    pub starts : (a : A) → fits a ≡ true → begins (kind_of (leaf a)) ≡ true

  abbrev pub single : {A : Type 0} → (T → A) → (A → L) → (A → Bool) → (K → Bool) → T → Phrase A
  single get leaf fits begins token = record {
    spell = λ a. leaf a ∷ [];
    fits = fits;
    bare = λ a. false;
    null = false;
    begins = begins;
    goes = λ a k. false;
    may = λ k. false;
    least = get token;
    least_tokens = token ∷ [];
  }

  pub sees_none : (r : List T) → sees (λ k. false) r ≡ false
  sees_none [] = refl
  sees_none (t ∷ r) = refl

  module _ {A : Type 0} (test : T → Bool) (get : T → A) (leaf : A → L) (fits : A → Bool) (begins : K → Bool) (token : T) (is : Leaf test get leaf fits begins) (token_is : test token ≡ true) where
    pub single_sound : Sound (single get leaf fits begins token)
    single_sound = record {
      starts = λ a l ls h e.
          let here : leaf a ≡ l = cc in
          ap (λ z. begins (kind_of z)) (sym here) ∙ is.starts a h;
      empty = λ a h b. cc (b);
      full = λ a h b e. cc (e);
      nulls = λ a b. cc (b);
      bounds = λ a k g. cc (g);
      least_fits = is.belongs token token_is;
      least_told = ap (λ z. z ∷ []) (is.gives token token_is);
    }

    leaf_sound : (ts : List T) (a : A) (r : List T) → one test get ts ≡ Ok (a, r) → Took (single get leaf fits begins token) ts a r
    leaf_sound [] a r e = cc
    leaf_sound (t ∷ ts) a r e = elim (cases_Bool (test t)) [
      | inl hit ↦
          let got : ◌≡◌ {A = Result (A × List T) ℕ} (Ok (get t, ts)) (Ok (a, r)) = rw hit at e in
          let pair = same_ok got in
          let value : get t ≡ a = ap (λ z. z.0) pair in
          let tail : ts ≡ r = ap (λ z. z.1) pair in
          record {
            front = t ∷ [];
            split = ap (λ z. t ∷ z) tail;
            spelled = ap (λ z. z ∷ []) (is.gives t hit ∙ ap leaf value);
            fits = ap fits (sym value) ∙ is.belongs t hit;
            stops = sees_none r;
          }
      | inr miss ↦
          let got : ◌≡◌ {A = Result (A × List T) ℕ} (Err (length (t ∷ ts))) (Ok (a, r)) = rw miss at e in
          cc (got)
    ]

    leaf_again : (d : ℕ) (front : List T) (a : A) (r : List T) → length front ≤ d → lexemes front ≡ (single get leaf fits begins token).spell a → fits a ≡ true
        → sees ((single get leaf fits begins token).goes a) r ≡ false → one test get (front ++ r) ≡ Ok (a, r)
    leaf_again d [] a r len e h s = cc
    leaf_again d (t ∷ t' ∷ front) a r len e h s = cc
    leaf_again d (t ∷ []) a r len e h s =
        let text : view t ≡ leaf a = cc in
        let value : get t ≡ a = is.back t a text h in
        let known : test t ≡ true = is.taken t a text h in
        rw known (ap (λ z. Ok (z, r)) value)

    leaf_viable : (ts : List T) (n : ℕ) → one test get ts ≡ Err n → Viable (single get leaf fits begins token) ts n
    leaf_viable [] n e = record { front = []; rest = []; after = token ∷ []; whole = get token; split = refl; left = sym (same_err e); spelled = ap (λ z. z ∷ []) (is.gives token token_is); fits = is.belongs token token_is }
    leaf_viable (t ∷ ts) n e = elim (cases_Bool (test t)) [
      | inl hit ↦
          let got : ◌≡◌ {A = Result (A × List T) ℕ} (Ok (get t, ts)) (Err n) = rw hit at e in
          cc (got)
      | inr miss ↦
          let got : ◌≡◌ {A = Result (A × List T) ℕ} (Err (length (t ∷ ts))) (Err n) = rw miss at e in
          record { front = []; rest = t ∷ ts; after = token ∷ []; whole = get token; split = refl; left = sym (same_err got); spelled = ap (λ z. z ∷ []) (is.gives token token_is); fits = is.belongs token token_is }
    ]

    pub single_reads : (d : ℕ) → Reads (single get leaf fits begins token) d (one test get)
    single_reads d = record { sound = leaf_sound; again = leaf_again d; viable = leaf_viable }

    leaf_same : (d e : ℕ) (front : List T) (t : T) (r y : List T) → length (front ++ (t ∷ r)) ≤ d → length (front ++ (t ∷ y)) ≤ e
        → one test get (front ++ (t ∷ r)) ≡ Err (length (t ∷ r)) → one test get (front ++ (t ∷ y)) ≡ Err (length (t ∷ y))
    leaf_same d e [] t r y ld le err = elim (cases_Bool (test t)) [
      | inl hit ↦
          let got : ◌≡◌ {A = Result (A × List T) ℕ} (Ok (get t, r)) (Err (length (t ∷ r))) = rw hit at err in
          cc (got)
      | inr miss ↦ rw miss refl
    ]
    leaf_same d e (f ∷ front) t r y ld le err = elim (cases_Bool (test f)) [
      | inl hit ↦
          let got : ◌≡◌ {A = Result (A × List T) ℕ} (Ok (get f, front ++ (t ∷ r))) (Err (length (t ∷ r))) = rw hit at err in
          cc (got)
      | inr miss ↦
          let got : ◌≡◌ {A = Result (A × List T) ℕ} (Err (length (f ∷ (front ++ (t ∷ r))))) (Err (length (t ∷ r))) = rw miss at err in
          absurd (omega (arith, same_err got, length-append front (t ∷ r)))
    ]

    pub single_local : (d e : ℕ) → Local d e (one test get) (one test get)
    single_local d e = record { same = leaf_same d e }

  -- ---- a part seen as another type: one for one where it belongs to the grammar

  abbrev pub viewed : {A C : Type 0} → (A → C) → (C → A) → Phrase A → Phrase C
  viewed f g p = record {
    spell = λ c. p.spell (g c);
    fits = λ c. p.fits (g c);
    bare = λ c. p.bare (g c);
    null = p.null;
    begins = p.begins;
    goes = λ c. p.goes (g c);
    may = p.may;
    least = f p.least;
    least_tokens = p.least_tokens;
  }

  module _ {A C : Type 0} (f : A → C) (g : C → A) (p : Phrase A) (gf : (a : A) → p.fits a ≡ true → g (f a) ≡ a) (fg : (c : C) → p.fits (g c) ≡ true → f (g c) ≡ c) where
    pub viewed_sound : Sound p → Sound (viewed f g p)
    viewed_sound ps =
        let is = gf p.least ps.least_fits in
        record {
          starts = λ c. ps.starts (g c);
          empty = λ c. ps.empty (g c);
          full = λ c. ps.full (g c);
          nulls = λ c. ps.nulls (g c);
          bounds = λ c. ps.bounds (g c);
          least_fits = ap p.fits is ∙ ps.least_fits;
          least_told = ps.least_told ∙ ap p.spell (sym is);
        }

    viewed_took : (ts : List T) (a : A) (r : List T) → Took p ts a r → Took (viewed f g p) ts (f a) r
    viewed_took ts a r one =
        let is = gf a one.fits in
        record {
          front = one.front;
          split = one.split;
          spelled = one.spelled ∙ ap p.spell (sym is);
          fits = ap p.fits is ∙ one.fits;
          stops = ap (λ z. sees (p.goes z) r) is ∙ one.stops;
        }

    viewed_ok : (d : ℕ) (read : Reader A) → Reads p d read → (ts : List T) (c : C) (r : List T) → made f read ts ≡ Ok (c, r) → Took (viewed f g p) ts c r
    viewed_ok d read rp ts c r e =
        let x = bind_ok (read ts) (λ x. Ok (f x.0, x.1)) (c, r) e in
        let is = same_ok x.2 in
        let F : C × List T → Type 0 = λ w. Took (viewed f g p) ts w.0 w.1 in
        subst F is (viewed_took ts x.0.0 x.0.1 (rp.sound ts x.0.0 x.0.1 x.1))

    viewed_err : (d : ℕ) (read : Reader A) → Reads p d read → (ts : List T) (n : ℕ) → made f read ts ≡ Err n → Viable (viewed f g p) ts n
    viewed_err d read rp ts n e = elim (bind_err (read ts) (λ x. Ok (f x.0, x.1)) n e) [
      | inl w ↦
          let v : Viable p ts n = rp.viable ts n w in
          let is = gf v.whole v.fits in
          record {
            front = v.front;
            rest = v.rest;
            after = v.after;
            whole = f v.whole;
            split = v.split;
            left = v.left;
            spelled = v.spelled ∙ ap p.spell (sym is);
            fits = ap p.fits is ∙ v.fits;
          }
      | inr x ↦ cc (x.2)
    ]

    pub viewed_reads : (d : ℕ) (read : Reader A) → Reads p d read → Reads (viewed f g p) d (made f read)
    viewed_reads d read rp = record {
      sound = viewed_ok d read rp;
      again = λ front c r len e h s.
          let one : read (front ++ r) ≡ Ok (g c, r) = rp.again front (g c) r len e h s in
          rw one (ap (λ z. Ok (z, r)) (fg c h));
      viable = viewed_err d read rp;
    }

  pub viewed_local : {A C : Type 0} (f : A → C) (d e : ℕ) (read other : Reader A) → Local d e read other → Local d e (made f read) (made f other)
  viewed_local f d e read other l = record {
    same = λ front t r y ld le err.
        elim (bind_err (read (front ++ (t ∷ r))) (λ x. Ok (f x.0, x.1)) (length (t ∷ r)) err) [
          | inl w ↦ rw (l.same front t r y ld le w)
          | inr x ↦ cc (x.2)
        ];
  }

  -- ---- an option

  abbrev option_text : {A : Type 0} → Phrase A → Option A → (List L)
  option_text p None = []
  option_text p (Some a) = p.spell a

  abbrev option_fits : {A : Type 0} → Phrase A → Option A → Bool
  option_fits p None = true
  option_fits p (Some a) = p.fits a

  abbrev option_bare : {A : Type 0} → Phrase A → Option A → Bool
  option_bare p None = true
  option_bare p (Some a) = false

  abbrev option_goes : {A : Type 0} → Phrase A → Option A → K → Bool
  option_goes p None k = p.begins k
  option_goes p (Some a) k = p.goes a k

  abbrev pub maybe : {A : Type 0} → Phrase A → Phrase (Option A)
  maybe p = record {
    spell = option_text p;
    fits = option_fits p;
    bare = option_bare p;
    null = true;
    begins = p.begins;
    goes = option_goes p;
    may = λ k. p.begins k || p.may k;
    least = None;
    least_tokens = [];
  }

  pub never_bare : {A : Type 0} (p : Phrase A) → Sound p → p.null ≡ false → (a : A) → p.bare a ≡ false
  never_bare p ps filled a = false_from_ne_true (p.bare a) (λ b. both_ways p.null filled (ps.nulls a b))

  -- the first token of what a value spells
  pub first_of_text : (front : List T) (u : (List L)) → lexemes front ≡ u → (u ≡ [] → ⊥) → (t : T) × (rest : List T) × (front ≡ t ∷ rest) × (u ≡ view t ∷ lexemes rest)
  first_of_text [] u e full = absurd (full (sym e))
  first_of_text (t ∷ rest) u e full = (t, rest, refl, sym e)

  pub sees_begins : {A : Type 0} (p : Phrase A) → Sound p → p.null ≡ false → (front : List T) (a : A) (r : List T) → lexemes front ≡ p.spell a → p.fits a ≡ true
      → sees p.begins (front ++ r) ≡ true
  sees_begins p ps filled front a r e h =
      let first = first_of_text front (p.spell a) e (ps.full a h (never_bare p ps filled a)) in
      let is : front ≡ first.0 ∷ first.1 = first.2 in
      rw is (ps.starts a (view first.0) (lexemes first.1) h first.3)

  module _ {A : Type 0} (p : Phrase A) (ps : Sound p) (filled : p.null ≡ false) where
    maybe_starts : (o : Option A) (l : L) (ls : (List L)) → (maybe p).fits o ≡ true → (maybe p).spell o ≡ l ∷ ls → (maybe p).begins (kind_of l) ≡ true
    maybe_starts None l ls h e = cc
    maybe_starts (Some a) l ls h e = ps.starts a l ls h e

    maybe_empty : (o : Option A) → (maybe p).fits o ≡ true → (maybe p).bare o ≡ true → (maybe p).spell o ≡ []
    maybe_empty None h b = refl
    maybe_empty (Some a) h b = cc

    maybe_full : (o : Option A) → (maybe p).fits o ≡ true → (maybe p).bare o ≡ false → (maybe p).spell o ≡ [] → ⊥
    maybe_full None h b e = cc
    maybe_full (Some a) h b e = ps.full a h (never_bare p ps filled a) e

    maybe_bounds : (o : Option A) (k : K) → (maybe p).goes o k ≡ true → (maybe p).may k ≡ true
    maybe_bounds None k g = or_left (p.begins k) (p.may k) g
    maybe_bounds (Some a) k g = or_right (p.begins k) (p.may k) (ps.bounds a k g)

    pub maybe_sound : Sound (maybe p)
    maybe_sound = record { starts = maybe_starts; empty = maybe_empty; full = maybe_full; nulls = λ o b. refl; bounds = maybe_bounds; least_fits = refl; least_told = refl }

    maybe_ok : (d : ℕ) (read : Reader A) → Reads p d read → (ts : List T) (o : Option A) (r : List T) → optional p.begins read ts ≡ Ok (o, r) → Took (maybe p) ts o r
    maybe_ok d read rp ts o r e = elim (cases_Bool (sees p.begins ts)) [
      | inl hit ↦
          let got : (read ts >>= (λ x. Ok (Some x.0, x.1))) ≡ Ok (o, r) = rw hit at e in
          let x = bind_ok (read ts) (λ x. Ok (Some x.0, x.1)) (o, r) got in
          let one : Took p ts x.0.0 x.0.1 = rp.sound ts x.0.0 x.0.1 x.1 in
          let F : Option A × List T → Type 0 = λ w. Took (maybe p) ts w.0 w.1 in
          subst F (same_ok x.2) (record { front = one.front; split = one.split; spelled = one.spelled; fits = one.fits; stops = one.stops })
      | inr miss ↦
          let got : ◌≡◌ {A = Result (Option A × List T) ℕ} (Ok (None, ts)) (Ok (o, r)) = rw miss at e in
          let F : Option A × List T → Type 0 = λ w. Took (maybe p) ts w.0 w.1 in
          subst F (same_ok got) (record { front = []; split = refl; spelled = refl; fits = refl; stops = miss })
    ]

    maybe_err : (d : ℕ) (read : Reader A) → Reads p d read → (ts : List T) (n : ℕ) → optional p.begins read ts ≡ Err n → Viable (maybe p) ts n
    maybe_err d read rp ts n e = elim (cases_Bool (sees p.begins ts)) [
      | inl hit ↦
          let got : ◌>>=◌ {A = A × List T} {B = Option A × List T} (read ts) (λ x. Ok (Some x.0, x.1)) ≡ Err n = rw hit at e in
          elim (bind_err (read ts) (λ x. Ok (Some x.0, x.1)) n got) [
            | inl w ↦
                let v : Viable p ts n = rp.viable ts n w in
                record { front = v.front; rest = v.rest; after = v.after; whole = Some v.whole; split = v.split; left = v.left; spelled = v.spelled; fits = v.fits }
            | inr x ↦ cc (x.2)
          ]
      | inr miss ↦
          let got : ◌≡◌ {A = Result (Option A × List T) ℕ} (Ok (None, ts)) (Err n) = rw miss at e in
          cc (got)
    ]

    maybe_again : (d : ℕ) (read : Reader A) → Reads p d read → (front : List T) (o : Option A) (r : List T) → length front ≤ d → lexemes front ≡ (maybe p).spell o
        → (maybe p).fits o ≡ true → sees ((maybe p).goes o) r ≡ false → optional p.begins read (front ++ r) ≡ Ok (o, r)
    maybe_again d read rp [] None r len e h s = rw s refl
    maybe_again d read rp (t ∷ front) None r len e h s = cc
    maybe_again d read rp front (Some a) r len e h s =
        let hit : sees p.begins (front ++ r) ≡ true = sees_begins p ps filled front a r e h in
        let one : read (front ++ r) ≡ Ok (a, r) = rp.again front a r len e h s in
        rw hit (rw one refl)

    pub maybe_reads : (d : ℕ) (read : Reader A) → Reads p d read → Reads (maybe p) d (optional p.begins read)
    maybe_reads d read rp = record { sound = maybe_ok d read rp; again = maybe_again d read rp; viable = maybe_err d read rp }

  pub maybe_local : {A : Type 0} (begins : K → Bool) (d e : ℕ) (read other : Reader A) → Local d e read other → Local d e (optional begins read) (optional begins other)
  maybe_local {A} begins d e read other l = record {
    same = λ front t r y ld le err. elim (cases_Bool (sees begins (front ++ (t ∷ r)))) [
      | inl hit ↦
          let got : ◌>>=◌ {A = A × List T} {B = Option A × List T} (read (front ++ (t ∷ r))) (λ x. Ok (Some x.0, x.1)) ≡ Err (length (t ∷ r)) = rw hit at err in
          let there : sees begins (front ++ (t ∷ y)) ≡ true = sees_first begins front t y r ∙ hit in
          elim (bind_err (read (front ++ (t ∷ r))) (λ x. Ok (Some x.0, x.1)) (length (t ∷ r)) got) [
            | inl w ↦ rw there (rw (l.same front t r y ld le w))
            | inr x ↦ cc (x.2)
          ]
      | inr miss ↦
          let got : ◌≡◌ {A = Result (Option A × List T) ℕ} (Ok (None, front ++ (t ∷ r))) (Err (length (t ∷ r))) = rw miss at err in
          cc (got)
    ];
  }

  -- ---- a choice

  abbrev choice_text : {A B : Type 0} → Phrase A → Phrase B → A ⊎ B → (List L)
  choice_text p q (inl a) = p.spell a
  choice_text p q (inr b) = q.spell b

  abbrev choice_fits : {A B : Type 0} → Phrase A → Phrase B → A ⊎ B → Bool
  choice_fits p q (inl a) = p.fits a
  choice_fits p q (inr b) = q.fits b

  abbrev choice_goes : {A B : Type 0} → Phrase A → Phrase B → A ⊎ B → K → Bool
  choice_goes p q (inl a) k = p.goes a k
  choice_goes p q (inr b) k = q.goes b k

  abbrev pub choice : {A B : Type 0} → Phrase A → Phrase B → Phrase (A ⊎ B)
  choice p q = record {
    spell = choice_text p q;
    fits = choice_fits p q;
    bare = λ c. false;
    null = false;
    begins = λ k. p.begins k || q.begins k;
    goes = choice_goes p q;
    may = λ k. p.may k || q.may k;
    least = inl p.least;
    least_tokens = p.least_tokens;
  }

  -- no kind begins both
  abbrev pub Differ : {A B : Type 0} → Phrase A → Phrase B → Type 0
  Differ p q = (k : K) → q.begins k ≡ true → p.begins k ≡ false

  module _ {A B : Type 0} (p : Phrase A) (q : Phrase B) (ps : Sound p) (qs : Sound q) (p_filled : p.null ≡ false) (q_filled : q.null ≡ false) where
    choice_starts : (c : A ⊎ B) (l : L) (ls : (List L)) → (choice p q).fits c ≡ true → (choice p q).spell c ≡ l ∷ ls → (choice p q).begins (kind_of l) ≡ true
    choice_starts (inl a) l ls h e = or_left (p.begins (kind_of l)) (q.begins (kind_of l)) (ps.starts a l ls h e)
    choice_starts (inr b) l ls h e = or_right (p.begins (kind_of l)) (q.begins (kind_of l)) (qs.starts b l ls h e)

    choice_full : (c : A ⊎ B) → (choice p q).fits c ≡ true → (choice p q).bare c ≡ false → (choice p q).spell c ≡ [] → ⊥
    choice_full (inl a) h b e = ps.full a h (never_bare p ps p_filled a) e
    choice_full (inr a) h b e = qs.full a h (never_bare q qs q_filled a) e

    choice_bounds : (c : A ⊎ B) (k : K) → (choice p q).goes c k ≡ true → (choice p q).may k ≡ true
    choice_bounds (inl a) k g = or_left (p.may k) (q.may k) (ps.bounds a k g)
    choice_bounds (inr b) k g = or_right (p.may k) (q.may k) (qs.bounds b k g)

    pub choice_sound : Sound (choice p q)
    choice_sound = record { starts = choice_starts; empty = λ c h b. cc (b); full = choice_full; nulls = λ c b. cc (b); bounds = choice_bounds; least_fits = ps.least_fits; least_told = ps.least_told }

    module _ (d : ℕ) (read_p : Reader A) (read_q : Reader B) (rp : Reads p d read_p) (rq : Reads q d read_q) where
      choice_ok : (ts : List T) (c : A ⊎ B) (r : List T) → either p.begins read_p read_q ts ≡ Ok (c, r) → Took (choice p q) ts c r
      choice_ok ts c r e =
          let F : (A ⊎ B) × List T → Type 0 = λ w. Took (choice p q) ts w.0 w.1 in
          elim (cases_Bool (sees p.begins ts)) [
            | inl hit ↦
                let got : (read_p ts >>= (λ x. Ok (inl x.0, x.1))) ≡ Ok (c, r) = rw hit at e in
                let x = bind_ok (read_p ts) (λ x. Ok (inl x.0, x.1)) (c, r) got in
                let one : Took p ts x.0.0 x.0.1 = rp.sound ts x.0.0 x.0.1 x.1 in
                subst F (same_ok x.2) (record { front = one.front; split = one.split; spelled = one.spelled; fits = one.fits; stops = one.stops })
            | inr miss ↦
                let got : (read_q ts >>= (λ x. Ok (inr x.0, x.1))) ≡ Ok (c, r) = rw miss at e in
                let x = bind_ok (read_q ts) (λ x. Ok (inr x.0, x.1)) (c, r) got in
                let one : Took q ts x.0.0 x.0.1 = rq.sound ts x.0.0 x.0.1 x.1 in
                subst F (same_ok x.2) (record { front = one.front; split = one.split; spelled = one.spelled; fits = one.fits; stops = one.stops })
          ]

      choice_err : (ts : List T) (n : ℕ) → either p.begins read_p read_q ts ≡ Err n → Viable (choice p q) ts n
      choice_err ts n e = elim (cases_Bool (sees p.begins ts)) [
        | inl hit ↦
            let got : ◌>>=◌ {A = A × List T} {B = (A ⊎ B) × List T} (read_p ts) (λ x. Ok (inl x.0, x.1)) ≡ Err n = rw hit at e in
            elim (bind_err (read_p ts) (λ x. Ok (inl x.0, x.1)) n got) [
              | inl w ↦
                  let v : Viable p ts n = rp.viable ts n w in
                  record { front = v.front; rest = v.rest; after = v.after; whole = inl v.whole; split = v.split; left = v.left; spelled = v.spelled; fits = v.fits }
              | inr x ↦ cc (x.2)
            ]
        | inr miss ↦
            let got : ◌>>=◌ {A = B × List T} {B = (A ⊎ B) × List T} (read_q ts) (λ x. Ok (inr x.0, x.1)) ≡ Err n = rw miss at e in
            elim (bind_err (read_q ts) (λ x. Ok (inr x.0, x.1)) n got) [
              | inl w ↦
                  let v : Viable q ts n = rq.viable ts n w in
                  record { front = v.front; rest = v.rest; after = v.after; whole = inr v.whole; split = v.split; left = v.left; spelled = v.spelled; fits = v.fits }
              | inr x ↦ cc (x.2)
            ]
      ]

      choice_again : Differ p q → (front : List T) (c : A ⊎ B) (r : List T) → length front ≤ d → lexemes front ≡ (choice p q).spell c → (choice p q).fits c ≡ true
          → sees ((choice p q).goes c) r ≡ false → either p.begins read_p read_q (front ++ r) ≡ Ok (c, r)
      choice_again differ front (inl a) r len e h s =
          let hit : sees p.begins (front ++ r) ≡ true = sees_begins p ps p_filled front a r e h in
          let one : read_p (front ++ r) ≡ Ok (a, r) = rp.again front a r len e h s in
          rw hit (rw one refl)
      choice_again differ front (inr b) r len e h s =
          let first = first_of_text front (q.spell b) e (qs.full b h (never_bare q qs q_filled b)) in
          let is : front ≡ first.0 ∷ first.1 = first.2 in
          let begins = qs.starts b (view first.0) (lexemes first.1) h first.3 in
          let miss : sees p.begins (front ++ r) ≡ false = rw is (differ (kind_of (view first.0)) begins) in
          let one : read_q (front ++ r) ≡ Ok (b, r) = rq.again front b r len e h s in
          rw miss (rw one refl)

      pub choice_reads : Differ p q → Reads (choice p q) d (either p.begins read_p read_q)
      choice_reads differ = record { sound = choice_ok; again = choice_again differ; viable = choice_err }

  pub choice_local : {A B : Type 0} (begins : K → Bool) (d e : ℕ) (read_p other_p : Reader A) (read_q other_q : Reader B)
      → Local d e read_p other_p → Local d e read_q other_q → Local d e (either begins read_p read_q) (either begins other_p other_q)
  choice_local {A} {B} begins d e read_p other_p read_q other_q lp lq = record {
    same = λ front t r y ld le err. elim (cases_Bool (sees begins (front ++ (t ∷ r)))) [
      | inl hit ↦
          let got : ◌>>=◌ {A = A × List T} {B = (A ⊎ B) × List T} (read_p (front ++ (t ∷ r))) (λ x. Ok (inl x.0, x.1)) ≡ Err (length (t ∷ r)) = rw hit at err in
          let there : sees begins (front ++ (t ∷ y)) ≡ true = sees_first begins front t y r ∙ hit in
          elim (bind_err (read_p (front ++ (t ∷ r))) (λ x. Ok (inl x.0, x.1)) (length (t ∷ r)) got) [
            | inl w ↦ rw there (rw (lp.same front t r y ld le w))
            | inr x ↦ cc (x.2)
          ]
      | inr miss ↦
          let got : ◌>>=◌ {A = B × List T} {B = (A ⊎ B) × List T} (read_q (front ++ (t ∷ r))) (λ x. Ok (inr x.0, x.1)) ≡ Err (length (t ∷ r)) = rw miss at err in
          let there : sees begins (front ++ (t ∷ y)) ≡ false = sees_first begins front t y r ∙ miss in
          elim (bind_err (read_q (front ++ (t ∷ r))) (λ x. Ok (inr x.0, x.1)) (length (t ∷ r)) got) [
            | inl w ↦ rw there (rw (lq.same front t r y ld le w))
            | inr x ↦ cc (x.2)
          ]
    ];
  }

  -- One part behind another.

  abbrev pub seq : {A B : Type 0} → Phrase A → Phrase B → Phrase (A × B)
  seq p q = record {
    spell = λ c. p.spell c.0 ++ q.spell c.1;
    fits = λ c. p.fits c.0 && q.fits c.1;
    bare = λ c. p.bare c.0 && q.bare c.1;
    null = p.null && q.null;
    begins = λ k. p.begins k || (p.null && q.begins k);
    goes = λ c k. q.goes c.1 k || (q.bare c.1 && p.goes c.0 k);
    may = λ k. q.may k || (q.null && p.may k);
    least = (p.least, q.least);
    least_tokens = p.least_tokens ++ q.least_tokens;
  }

  -- no kind that begins the second may go on with the first
  abbrev pub Apart : {A B : Type 0} → Phrase A → Phrase B → Type 0
  Apart p q = (k : K) → q.begins k ≡ true → p.may k ≡ false

  -- a reader of at most dq tokens has room for what is behind a part that is read
  abbrev pub Room : {A : Type 0} → Phrase A → ℕ → ℕ → Type 0
  Room {A} p d dq = (a : A) (x : List T) (n : ℕ) → lexemes x ≡ p.spell a → p.fits a ≡ true → length x + n ≤ d → n ≤ dq

  pub same_room : {A : Type 0} (p : Phrase A) (d : ℕ) → Room p d d
  same_room p d a x n e h l = omega arith

  pub head_of : (u v : (List L)) (l : L) (ls : (List L)) → u ++ v ≡ l ∷ ls → ((u ≡ []) × (v ≡ l ∷ ls)) ⊎ ((w : (List L)) × (u ≡ l ∷ w))
  head_of [] v l ls e = inl (refl, e)
  head_of (x ∷ u) v l ls e = inr (u, cc)

  pub nothing_left : (u v : (List L)) → u ++ v ≡ [] → (u ≡ []) × (v ≡ [])
  nothing_left [] v e = (refl, e)
  nothing_left (x ∷ u) v e = cc

  pub no_lexemes : (ts : List T) → lexemes ts ≡ [] → ts ≡ []
  no_lexemes [] e = refl
  no_lexemes (t ∷ ts) e = cc

  sees_or : (f g : K → Bool) (c : Bool) (r : List T) → sees f r ≡ false → (c ≡ true → sees g r ≡ false) → sees (λ k. f k || (c && g k)) r ≡ false
  sees_or f g c [] h i = refl
  sees_or f g true (t ∷ r) h i = or_from (f (kind_of (view t))) (g (kind_of (view t))) h (i refl)
  sees_or f g false (t ∷ r) h i = or_from (f (kind_of (view t))) false h refl

  sees_left : (f g : K → Bool) (c : Bool) (r : List T) → sees (λ k. f k || (c && g k)) r ≡ false → sees f r ≡ false
  sees_left f g c [] h = refl
  sees_left f g c (t ∷ r) h = (or_parts (f (kind_of (view t))) (c && g (kind_of (view t))) h).0

  sees_right : (f g : K → Bool) (c : Bool) (r : List T) → c ≡ true → sees (λ k. f k || (c && g k)) r ≡ false → sees g r ≡ false
  sees_right f g c [] e h = refl
  sees_right f g true (t ∷ r) e h = (or_parts (f (kind_of (view t))) (g (kind_of (view t))) h).1
  sees_right f g false (t ∷ r) e h = cc

  -- what begins the second does not go on with the first
  pub stops_before : {A B : Type 0} (p : Phrase A) (q : Phrase B) → Sound p → Sound q → Apart p q → (a : A) (b : B) (y r : List T)
      → lexemes y ≡ q.spell b → q.fits b ≡ true → sees (λ k. q.goes b k || (q.bare b && p.goes a k)) r ≡ false → sees (p.goes a) (y ++ r) ≡ false
  stops_before p q ps qs apart a b [] r e h s =
      let bare : q.bare b ≡ true = true_from_ne_false (q.bare b) (λ f. qs.full b h f (sym e)) in
      sees_right (q.goes b) (p.goes a) (q.bare b) r bare s
  stops_before p q ps qs apart a b (t ∷ y) r e h s =
      let begins = qs.starts b (view t) (lexemes y) h (sym e) in
      false_from_ne_true (p.goes a (kind_of (view t))) (λ g. both_ways (p.may (kind_of (view t))) (apart (kind_of (view t)) begins) (ps.bounds a (kind_of (view t)) g))

  module _ {A B : Type 0} (p : Phrase A) (q : Phrase B) (ps : Sound p) (qs : Sound q) where
    then_starts : (c : A × B) (l : L) (ls : (List L)) → (seq p q).fits c ≡ true → (seq p q).spell c ≡ l ∷ ls → (seq p q).begins (kind_of l) ≡ true
    then_starts c l ls h e =
        let hs = and_parts (p.fits c.0) (q.fits c.1) h in
        elim (head_of (p.spell c.0) (q.spell c.1) l ls e) [
          | inl w ↦
              let bare : p.bare c.0 ≡ true = true_from_ne_false (p.bare c.0) (λ f. ps.full c.0 hs.0 f w.0) in
              or_right (p.begins (kind_of l)) (p.null && q.begins (kind_of l)) (and_from p.null (q.begins (kind_of l)) (ps.nulls c.0 bare) (qs.starts c.1 l ls hs.1 w.1))
          | inr w ↦ or_left (p.begins (kind_of l)) (p.null && q.begins (kind_of l)) (ps.starts c.0 l w.0 hs.0 w.1)
        ]

    then_full : (c : A × B) → (seq p q).fits c ≡ true → (seq p q).bare c ≡ false → (seq p q).spell c ≡ [] → ⊥
    then_full c h f e =
        let hs = and_parts (p.fits c.0) (q.fits c.1) h in
        let es = nothing_left (p.spell c.0) (q.spell c.1) e in
        elim (and_cases (p.bare c.0) (q.bare c.1) f) [ inl x ↦ ps.full c.0 hs.0 x es.0 | inr y ↦ qs.full c.1 hs.1 y es.1 ]

    pub seq_sound : Sound (seq p q)
    seq_sound = record {
      starts = then_starts;
      empty = λ c h b.
          let hs = and_parts (p.fits c.0) (q.fits c.1) h in
          let bs = and_parts (p.bare c.0) (q.bare c.1) b in
          let e0 : p.spell c.0 ≡ [] = ps.empty c.0 hs.0 bs.0 in
          let e1 : q.spell c.1 ≡ [] = qs.empty c.1 hs.1 bs.1 in
          rw e0 e1;
      full = then_full;
      nulls = λ c b.
          let bs = and_parts (p.bare c.0) (q.bare c.1) b in
          and_from p.null q.null (ps.nulls c.0 bs.0) (qs.nulls c.1 bs.1);
      bounds = λ c k g. elim (or_cases (q.goes c.1 k) (q.bare c.1 && p.goes c.0 k) g) [
        | inl x ↦ or_left (q.may k) (q.null && p.may k) (qs.bounds c.1 k x)
        | inr x ↦
            let xs = and_parts (q.bare c.1) (p.goes c.0 k) x in
            or_right (q.may k) (q.null && p.may k) (and_from q.null (p.may k) (qs.nulls c.1 xs.0) (ps.bounds c.0 k xs.1))
      ];
      least_fits = and_from (p.fits p.least) (q.fits q.least) ps.least_fits qs.least_fits;
      least_told =
          let e0 : lexemes p.least_tokens ≡ p.spell p.least = ps.least_told in
          let e1 : lexemes q.least_tokens ≡ q.spell q.least = qs.least_told in
          rw lexemes-append (rw (e0, e1));
    }

    -- ---- the reader

    took_both : (c : A × B) (ts m r : List T) → Took p ts c.0 m → Took q m c.1 r → Took (seq p q) ts c r
    took_both c ts m r one two =
        let e1 : ts ≡ one.front ++ m = one.split in
        let e2 : m ≡ two.front ++ r = two.split in
        let e3 : lexemes one.front ≡ p.spell c.0 = one.spelled in
        let e4 : lexemes two.front ≡ q.spell c.1 = two.spelled in
        record {
          front = one.front ++ two.front;
          split = rw append_assoc (e1 ∙ ap (λ z. one.front ++ z) e2);
          spelled = rw lexemes-append (rw (e3, e4));
          fits = and_from (p.fits c.0) (q.fits c.1) one.fits two.fits;
          stops = sees_or (q.goes c.1) (p.goes c.0) (q.bare c.1) r two.stops (λ bare.
              let none : lexemes two.front ≡ [] = e4 ∙ qs.empty c.1 two.fits bare in
              let gone : two.front ≡ [] = no_lexemes two.front none in
              let here : m ≡ r = e2 ∙ ap (λ z. z ++ r) gone in
              rw here at one.stops);
        }

    viable_first : (ts : List T) (n : ℕ) → Viable p ts n → Viable (seq p q) ts n
    viable_first ts n v =
        let e : lexemes (v.front ++ v.after) ≡ p.spell v.whole = v.spelled in
        let e1 : lexemes q.least_tokens ≡ q.spell q.least = qs.least_told in
        record {
          front = v.front;
          rest = v.rest;
          after = v.after ++ q.least_tokens;
          whole = (v.whole, q.least);
          split = v.split;
          left = v.left;
          spelled = ap lexemes (sym (append_assoc v.front v.after q.least_tokens)) ∙ lexemes-append (v.front ++ v.after) q.least_tokens ∙ ap (λ z. z ++ lexemes q.least_tokens) e ∙ ap (λ z. p.spell v.whole ++ z) e1;
          fits = and_from (p.fits v.whole) (q.fits q.least) v.fits qs.least_fits;
        }

    viable_second : (a : A) (ts m : List T) (n : ℕ) → Took p ts a m → Viable q m n → Viable (seq p q) ts n
    viable_second a ts m n one v =
        let e1 : ts ≡ one.front ++ m = one.split in
        let e2 : m ≡ v.front ++ v.rest = v.split in
        let e3 : lexemes one.front ≡ p.spell a = one.spelled in
        let e4 : lexemes (v.front ++ v.after) ≡ q.spell v.whole = v.spelled in
        record {
          front = one.front ++ v.front;
          rest = v.rest;
          after = v.after;
          whole = (a, v.whole);
          split = rw append_assoc (e1 ∙ ap (λ z. one.front ++ z) e2);
          left = v.left;
          spelled = ap lexemes (append_assoc one.front v.front v.after) ∙ lexemes-append one.front (v.front ++ v.after) ∙ ap (λ z. z ++ lexemes (v.front ++ v.after)) e3 ∙ ap (λ z. p.spell a ++ z) e4;
          fits = and_from (p.fits a) (q.fits v.whole) one.fits v.fits;
        }

    module _ (d dq : ℕ) (room : Room p d dq) (read_p : Reader A) (read_q : Reader B) (rp : Reads p d read_p) (rq : Reads q dq read_q) where
      then_sound : (ts : List T) (c : A × B) (r : List T) → both read_p read_q ts ≡ Ok (c, r) → Took (seq p q) ts c r
      then_sound ts c r e =
          let x = bind_ok (read_p ts) (λ x. read_q x.1 >>= (λ y. Ok ((x.0, y.0), y.1))) (c, r) e in
          let y = bind_ok (read_q x.0.1) (λ y. Ok ((x.0.0, y.0), y.1)) (c, r) x.2 in
          let is = same_ok y.2 in
          let one : Took p ts x.0.0 x.0.1 = rp.sound ts x.0.0 x.0.1 x.1 in
          let two : Took q x.0.1 y.0.0 y.0.1 = rq.sound x.0.1 y.0.0 y.0.1 y.1 in
          let F : (A × B) × List T → Type 0 = λ w. Took (seq p q) ts w.0 w.1 in
          subst F is (took_both (x.0.0, y.0.0) ts x.0.1 y.0.1 one two)

      then_viable : (ts : List T) (n : ℕ) → both read_p read_q ts ≡ Err n → Viable (seq p q) ts n
      then_viable ts n e = elim (bind_err (read_p ts) (λ x. read_q x.1 >>= (λ y. Ok ((x.0, y.0), y.1))) n e) [
        | inl w ↦ viable_first ts n (rp.viable ts n w)
        | inr x ↦
            let one : Took p ts x.0.0 x.0.1 = rp.sound ts x.0.0 x.0.1 x.1 in
            elim (bind_err (read_q x.0.1) (λ y. Ok ((x.0.0, y.0), y.1)) n x.2) [
              | inl w ↦ viable_second x.0.0 ts x.0.1 n one (rq.viable x.0.1 n w)
              | inr y ↦ cc (y.2)
            ]
      ]

      then_again : Apart p q → (front : List T) (c : A × B) (r : List T) → length front ≤ d → lexemes front ≡ (seq p q).spell c → (seq p q).fits c ≡ true
          → sees ((seq p q).goes c) r ≡ false → both read_p read_q (front ++ r) ≡ Ok (c, r)
      then_again apart front c r len e h s =
          let parts = split_lexemes front (p.spell c.0) (q.spell c.1) e in
          let x = parts.0 in
          let y = parts.1 in
          let is : front ≡ x ++ y = parts.2 in
          let hs = and_parts (p.fits c.0) (q.fits c.1) h in
          let len_x : length x ≤ d = omega (arith, ap length is, length-append x y) in
          let len_xy : length x + length y ≤ d = omega (arith, ap length is, length-append x y) in
          let len_y : length y ≤ dq = room c.0 x (length y) parts.3 hs.0 len_xy in
          let stop_x = stops_before p q ps qs apart c.0 c.1 y r parts.4 hs.1 s in
          let stop_y = sees_left (q.goes c.1) (p.goes c.0) (q.bare c.1) r s in
          let one : read_p (x ++ (y ++ r)) ≡ Ok (c.0, y ++ r) = rp.again x c.0 (y ++ r) len_x parts.3 hs.0 stop_x in
          let two : read_q (y ++ r) ≡ Ok (c.1, r) = rq.again y c.1 r len_y parts.4 hs.1 stop_y in
          let here : front ++ r ≡ x ++ (y ++ r) = ap (λ z. z ++ r) is ∙ append_assoc x y r in
          rw here (rw one (rw two refl))

      pub seq_reads : Apart p q → Reads (seq p q) d (both read_p read_q)
      seq_reads apart = record { sound = then_sound; again = then_again apart; viable = then_viable }

    module _ (d dq e eq : ℕ) (room_d : Room p d dq) (room_e : Room p e eq) (read_p other_p : Reader A) (read_q other_q : Reader B) (rp : Reads p d read_p) (rq : Reads q dq read_q) (op : Reads p e other_p)
        (lp : Local d e read_p other_p) (lq : Local dq eq read_q other_q) where
      then_same : (front : List T) (t : T) (r y : List T) → length (front ++ (t ∷ r)) ≤ d → length (front ++ (t ∷ y)) ≤ e
          → both read_p read_q (front ++ (t ∷ r)) ≡ Err (length (t ∷ r)) → both other_p other_q (front ++ (t ∷ y)) ≡ Err (length (t ∷ y))
      then_same front t r y len_d len_e err =
          let ts = front ++ (t ∷ r) in
          elim (bind_err (read_p ts) (λ x. read_q x.1 >>= (λ y. Ok ((x.0, y.0), y.1))) (length (t ∷ r)) err) [
            | inl w ↦ rw (lp.same front t r y len_d len_e w)
            | inr x ↦
                elim (bind_err (read_q x.0.1) (λ y. Ok ((x.0.0, y.0), y.1)) (length (t ∷ r)) x.2) [
                  | inl w ↦
                      let one : Took p ts x.0.0 x.0.1 = rp.sound ts x.0.0 x.0.1 x.1 in
                      let v : Viable q x.0.1 (length (t ∷ r)) = rq.viable x.0.1 (length (t ∷ r)) w in
                      let e1 : front ++ (t ∷ r) ≡ one.front ++ x.0.1 = one.split in
                      let e2 : x.0.1 ≡ v.front ++ v.rest = v.split in
                      let e3 : front ++ (t ∷ r) ≡ (one.front ++ v.front) ++ v.rest = e1 ∙ (ap (λ z. one.front ++ z) e2 ∙ sym (append_assoc one.front v.front v.rest)) in
                      let parts = split_same front (one.front ++ v.front) (t ∷ r) v.rest e3 v.left in
                      let is : front ≡ one.front ++ v.front = parts.0 in
                      let mid : x.0.1 ≡ v.front ++ (t ∷ r) = e2 ∙ ap (λ z. v.front ++ z) (sym parts.1) in
                      let len : length front ≡ length one.front + length v.front = ap length is ∙ length-append one.front v.front in
                      let l1 = length-append front (t ∷ r) in
                      let l2 = length-append front (t ∷ y) in
                      let l3 = length-append v.front (t ∷ r) in
                      let l4 = length-append v.front (t ∷ y) in
                      let len_one : length one.front ≤ e = omega arith in
                      let sum_d : length one.front + length (v.front ++ (t ∷ r)) ≤ d = omega arith in
                      let len_vd : length (v.front ++ (t ∷ r)) ≤ dq = room_d x.0.0 one.front (length (v.front ++ (t ∷ r))) one.spelled one.fits sum_d in
                      let sum_e : length one.front + length (v.front ++ (t ∷ y)) ≤ e = omega arith in
                      let len_ve : length (v.front ++ (t ∷ y)) ≤ eq = room_e x.0.0 one.front (length (v.front ++ (t ∷ y))) one.spelled one.fits sum_e in
                      let stop_r : sees (p.goes x.0.0) (v.front ++ (t ∷ r)) ≡ false = rw mid at one.stops in
                      let stop : sees (p.goes x.0.0) (v.front ++ (t ∷ y)) ≡ false = sees_first (p.goes x.0.0) v.front t y r ∙ stop_r in
                      let first : other_p (one.front ++ (v.front ++ (t ∷ y))) ≡ Ok (x.0.0, v.front ++ (t ∷ y)) =
                      op.again one.front x.0.0 (v.front ++ (t ∷ y)) len_one one.spelled one.fits stop in
                      let fault : read_q (v.front ++ (t ∷ r)) ≡ Err (length (t ∷ r)) = rw mid at w in
                      let second : other_q (v.front ++ (t ∷ y)) ≡ Err (length (t ∷ y)) = lq.same v.front t r y len_vd len_ve fault in
                      let here : front ++ (t ∷ y) ≡ one.front ++ (v.front ++ (t ∷ y)) = ap (λ z. z ++ (t ∷ y)) is ∙ append_assoc one.front v.front (t ∷ y) in
                      rw here (rw first (rw second refl))
                  | inr z ↦ cc (z.2)
                ]
          ]

      pub seq_local : Local d e (both read_p read_q) (both other_p other_q)
      seq_local = record { same = then_same }

  -- A list of parts, and a part that does not begin with some kinds.

  abbrev pub all_fit : {A : Type 0} → (A → Bool) → List A → Bool
  all_fit f [] = true
  all_fit f (a ∷ xs) = f a && all_fit f xs

  abbrev pub is_none : {A : Type 0} → List A → Bool
  is_none [] = true
  is_none (a ∷ xs) = false

  abbrev pub last_goes : {A : Type 0} → (A → K → Bool) → List A → K → Bool
  last_goes goes [] k = false
  last_goes goes (a ∷ []) k = goes a k
  last_goes goes (a ∷ b ∷ xs) k = last_goes goes (b ∷ xs) k

  abbrev pub list_of : {A : Type 0} → Phrase A → Phrase (List A)
  list_of p = record {
    spell = flat_map p.spell;
    fits = all_fit p.fits;
    bare = is_none;
    null = true;
    begins = p.begins;
    goes = λ xs k. p.begins k || last_goes p.goes xs k;
    may = λ k. p.begins k || p.may k;
    least = [];
    least_tokens = [];
  }

  module _ {A : Type 0} (p : Phrase A) (ps : Sound p) (filled : p.null ≡ false) where
    list_starts : (xs : List A) (l : L) (ls : (List L)) → (list_of p).fits xs ≡ true → (list_of p).spell xs ≡ l ∷ ls → p.begins (kind_of l) ≡ true
    list_starts [] l ls h e = cc
    list_starts (a ∷ xs) l ls h e =
        let hs = and_parts (p.fits a) (all_fit p.fits xs) h in
        elim (head_of (p.spell a) (flat_map p.spell xs) l ls e) [
          | inl w ↦ absurd (ps.full a hs.0 (never_bare p ps filled a) w.0)
          | inr w ↦ ps.starts a l w.0 hs.0 w.1
        ]

    list_empty : (xs : List A) → is_none xs ≡ true → (list_of p).spell xs ≡ []
    list_empty [] b = refl
    list_empty (a ∷ xs) b = cc

    list_full : (xs : List A) → (list_of p).fits xs ≡ true → is_none xs ≡ false → (list_of p).spell xs ≡ [] → ⊥
    list_full [] h b e = cc
    list_full (a ∷ xs) h b e =
        let hs = and_parts (p.fits a) (all_fit p.fits xs) h in
        ps.full a hs.0 (never_bare p ps filled a) (nothing_left (p.spell a) (flat_map p.spell xs) e).0

    last_bounds : (xs : List A) (k : K) → last_goes p.goes xs k ≡ true → p.may k ≡ true
    last_bounds [] k g = cc
    last_bounds (a ∷ []) k g = ps.bounds a k g
    last_bounds (a ∷ b ∷ xs) k g = last_bounds (b ∷ xs) k g

    pub list_sound : Sound (list_of p)
    list_sound = record {
      starts = list_starts;
      empty = λ xs h. list_empty xs;
      full = list_full;
      nulls = λ xs b. refl;
      bounds = λ xs k g. elim (or_cases (p.begins k) (last_goes p.goes xs k) g) [
        | inl x ↦ or_left (p.begins k) (p.may k) x
        | inr x ↦ or_right (p.begins k) (p.may k) (last_bounds xs k x)
      ];
      least_fits = refl;
      least_told = refl;
    }

    -- ---- what a reader took

    stops_none : (r : List T) → sees p.begins r ≡ false → sees ((list_of p).goes []) r ≡ false
    stops_none [] s = refl
    stops_none (t ∷ r) s = or_from (p.begins (kind_of (view t))) false s refl

    none_stops : (r : List T) → sees ((list_of p).goes []) r ≡ false → sees p.begins r ≡ false
    none_stops [] s = refl
    none_stops (t ∷ r) s = (or_parts (p.begins (kind_of (view t))) false s).0

    last_stops : (a : A) (r : List T) → sees ((list_of p).goes (a ∷ [])) r ≡ false → sees (p.goes a) r ≡ false
    last_stops a [] s = refl
    last_stops a (t ∷ r) s = (or_parts (p.begins (kind_of (view t))) (p.goes a (kind_of (view t))) s).1

    stops_last : (a : A) (r : List T) → sees p.begins r ≡ false → sees (p.goes a) r ≡ false → sees ((list_of p).goes (a ∷ [])) r ≡ false
    stops_last a [] s h = refl
    stops_last a (t ∷ r) s h = or_from (p.begins (kind_of (view t))) (p.goes a (kind_of (view t))) s h

    stops_more : (a : A) (ts : List T) (xs : List A) (m r : List T) → Took p ts a m → Took (list_of p) m xs r → sees ((list_of p).goes (a ∷ xs)) r ≡ false
    stops_more a ts [] m r one two =
        let none : two.front ≡ [] = no_lexemes two.front two.spelled in
        let here : m ≡ r = two.split ∙ ap (λ z. z ++ r) none in
        let stop : sees (p.goes a) r ≡ false = rw here at one.stops in
        stops_last a r (none_stops r two.stops) stop
    stops_more a ts (b ∷ xs) m r one two = two.stops

    took_more : (a : A) (ts : List T) (xs : List A) (m r : List T) → Took p ts a m → Took (list_of p) m xs r → Took (list_of p) ts (a ∷ xs) r
    took_more a ts xs m r one two =
        let e1 : ts ≡ one.front ++ m = one.split in
        let e2 : m ≡ two.front ++ r = two.split in
        let e3 : lexemes one.front ≡ p.spell a = one.spelled in
        let e4 : lexemes two.front ≡ flat_map p.spell xs = two.spelled in
        record {
          front = one.front ++ two.front;
          split = rw append_assoc (e1 ∙ ap (λ z. one.front ++ z) e2);
          spelled = rw lexemes-append (rw (e3, e4));
          fits = and_from (p.fits a) (all_fit p.fits xs) one.fits two.fits;
          stops = stops_more a ts xs m r one two;
        }

    viable_one : (ts : List T) (n : ℕ) → Viable p ts n → Viable (list_of p) ts n
    viable_one ts n v =
        let e : lexemes (v.front ++ v.after) ≡ p.spell v.whole = v.spelled in
        record {
          front = v.front;
          rest = v.rest;
          after = v.after;
          whole = v.whole ∷ [];
          split = v.split;
          left = v.left;
          spelled = rw append-nil e;
          fits = and_from (p.fits v.whole) true v.fits refl;
        }

    viable_more : (a : A) (ts m : List T) (n : ℕ) → Took p ts a m → Viable (list_of p) m n → Viable (list_of p) ts n
    viable_more a ts m n one v =
        let e1 : ts ≡ one.front ++ m = one.split in
        let e2 : m ≡ v.front ++ v.rest = v.split in
        let e3 : lexemes one.front ≡ p.spell a = one.spelled in
        let e4 : lexemes (v.front ++ v.after) ≡ flat_map p.spell v.whole = v.spelled in
        record {
          front = one.front ++ v.front;
          rest = v.rest;
          after = v.after;
          whole = a ∷ v.whole;
          split = rw append_assoc (e1 ∙ ap (λ z. one.front ++ z) e2);
          left = v.left;
          spelled = ap lexemes (append_assoc one.front v.front v.after) ∙ lexemes-append one.front (v.front ++ v.after) ∙ ap (λ z. z ++ lexemes (v.front ++ v.after)) e3 ∙ ap (λ z. p.spell a ++ z) e4;
          fits = and_from (p.fits a) (all_fit p.fits v.whole) one.fits v.fits;
        }

    module _ (d : ℕ) (read : Reader A) (rp : Reads p d read) where
      list_ok : (n : ℕ) (found : List A) (ts : List T) (all : List A) (r : List T) → length ts ≤ n → many_from p.begins read n found ts ≡ Ok (all, r)
          → (xs : List A) × (all ≡ found ++ xs) × Took (list_of p) ts xs r
      unfolding r.many_from
      list_ok zero found [] all r few e =
          let got : ◌≡◌ {A = Result (List A × List T) ℕ} (Ok (found, [])) (Ok (all, r)) = e in
          let pair = same_ok got in
          let tail : [] ≡ r = ap (λ z. z.1) pair in
          let whole : found ≡ all = ap (λ z. z.0) pair in
          ([], sym whole ∙ sym (append-nil found), record { front = []; split = tail; spelled = refl; fits = refl; stops = rw (← tail) refl })
      list_ok zero found (t ∷ ts) all r few e = absurd (omega arith)
      list_ok (suc n) found ts all r few e = elim (cases_Bool (sees p.begins ts)) [
        | inl hit ↦
            let got : (read ts >>= (λ x. many_from p.begins read n (found ++ (x.0 ∷ [])) x.1)) ≡ Ok (all, r) = rw hit at e in
            let x = bind_ok (read ts) (λ x. many_from p.begins read n (found ++ (x.0 ∷ [])) x.1) (all, r) got in
            let one : Took p ts x.0.0 x.0.1 = rp.sound ts x.0.0 x.0.1 x.1 in
            let first = first_of_text one.front (p.spell x.0.0) one.spelled (ps.full x.0.0 one.fits (never_bare p ps filled x.0.0)) in
            let is_x : one.front ≡ first.0 ∷ first.1 = first.2 in
            let e1 : ts ≡ one.front ++ x.0.1 = one.split in
            let count : length ts ≡ length one.front + length x.0.1 = ap length e1 ∙ length-append one.front x.0.1 in
            let count_x : length one.front ≡ suc (length first.1) = ap length is_x in
            let few_x : length x.0.1 ≤ n = omega arith in
            let more = list_ok n (found ++ (x.0.0 ∷ [])) x.0.1 all r few_x x.2 in
            (x.0.0 ∷ more.0, more.1 ∙ append_assoc found (x.0.0 ∷ []) more.0, took_more x.0.0 ts more.0 x.0.1 r one more.2)
        | inr miss ↦
            let got : ◌≡◌ {A = Result (List A × List T) ℕ} (Ok (found, ts)) (Ok (all, r)) = rw miss at e in
            let pair = same_ok got in
            let tail : ts ≡ r = ap (λ z. z.1) pair in
            let whole : found ≡ all = ap (λ z. z.0) pair in
            ([], sym whole ∙ sym (append-nil found), record { front = []; split = tail; spelled = refl; fits = refl; stops = rw tail at (stops_none ts miss) })
      ]

      list_err : (n : ℕ) (found : List A) (ts : List T) (m : ℕ) → many_from p.begins read n found ts ≡ Err m → Viable (list_of p) ts m
      unfolding r.many_from
      list_err zero found ts m e =
          let got : ◌≡◌ {A = Result (List A × List T) ℕ} (Ok (found, ts)) (Err m) = e in
          cc (got)
      list_err (suc n) found ts m e = elim (cases_Bool (sees p.begins ts)) [
        | inl hit ↦
            let got : (read ts >>= (λ x. many_from p.begins read n (found ++ (x.0 ∷ [])) x.1)) ≡ Err m = rw hit at e in
            elim (bind_err (read ts) (λ x. many_from p.begins read n (found ++ (x.0 ∷ [])) x.1) m got) [
              | inl w ↦ viable_one ts m (rp.viable ts m w)
              | inr x ↦ viable_more x.0.0 ts x.0.1 m (rp.sound ts x.0.0 x.0.1 x.1) (list_err n (found ++ (x.0.0 ∷ [])) x.0.1 m x.2)
            ]
        | inr miss ↦
            let got : ◌≡◌ {A = Result (List A × List T) ℕ} (Ok (found, ts)) (Err m) = rw miss at e in
            cc (got)
      ]

      stops_at : ((k : K) → p.begins k ≡ true → p.may k ≡ false) → (a : A) (xs : List A) (y r : List T) → lexemes y ≡ flat_map p.spell xs → all_fit p.fits xs ≡ true
          → sees ((list_of p).goes (a ∷ xs)) r ≡ false → sees (p.goes a) (y ++ r) ≡ false
      stops_at apart a [] [] r e h s = last_stops a r s
      stops_at apart a [] (t ∷ y) r e h s = cc
      stops_at apart a (b ∷ xs) [] r e h s = absurd (list_full (b ∷ xs) h refl (sym e))
      stops_at apart a (b ∷ xs) (t ∷ y) r e h s =
          let begins = list_starts (b ∷ xs) (view t) (lexemes y) h (sym e) in
          false_from_ne_true (p.goes a (kind_of (view t))) (λ g. both_ways (p.may (kind_of (view t))) (apart (kind_of (view t)) begins) (ps.bounds a (kind_of (view t)) g))

      goes_tail : (a : A) (xs : List A) (r : List T) → sees ((list_of p).goes (a ∷ xs)) r ≡ false → sees ((list_of p).goes xs) r ≡ false
      goes_tail a xs [] s = refl
      goes_tail a [] (t ∷ r) s = or_from (p.begins (kind_of (view t))) false ((or_parts (p.begins (kind_of (view t))) (p.goes a (kind_of (view t))) s).0) refl
      goes_tail a (b ∷ xs) (t ∷ r) s = s

      list_again : ((k : K) → p.begins k ≡ true → p.may k ≡ false) → (n : ℕ) (found : List A) (front : List T) (xs : List A) (r : List T) → length front ≤ n → length front ≤ d
          → lexemes front ≡ flat_map p.spell xs → all_fit p.fits xs ≡ true → sees ((list_of p).goes xs) r ≡ false → many_from p.begins read n found (front ++ r) ≡ Ok (found ++ xs, r)
      unfolding r.many_from
      list_again apart zero found [] [] r few len e h s = rw append-nil refl
      list_again apart zero found [] (a ∷ xs) r few len e h s = absurd (list_full (a ∷ xs) h refl (sym e))
      list_again apart zero found (t ∷ front) xs r few len e h s = absurd (omega arith)
      list_again apart (suc n) found [] [] r few len e h s =
          let miss : sees p.begins r ≡ false = none_stops r s in
          rw miss (rw append-nil refl)
      list_again apart (suc n) found (t ∷ front) [] r few len e h s = cc
      list_again apart (suc n) found front (a ∷ xs) r few len e h s =
          let parts = split_lexemes front (p.spell a) (flat_map p.spell xs) e in
          let x = parts.0 in
          let y = parts.1 in
          let is : front ≡ x ++ y = parts.2 in
          let hs = and_parts (p.fits a) (all_fit p.fits xs) h in
          let first = first_of_text x (p.spell a) parts.3 (ps.full a hs.0 (never_bare p ps filled a)) in
          let is_x : x ≡ first.0 ∷ first.1 = first.2 in
          let count : length front ≡ length x + length y = ap length is ∙ length-append x y in
          let count_x : length x ≡ suc (length first.1) = ap length is_x in
          let len_x : length x ≤ d = omega arith in
          let len_y : length y ≤ d = omega arith in
          let few_y : length y ≤ n = omega arith in
          let here : front ++ r ≡ x ++ (y ++ r) = ap (λ z. z ++ r) is ∙ append_assoc x y r in
          let hit : sees p.begins (x ++ (y ++ r)) ≡ true = sees_begins p ps filled x a (y ++ r) parts.3 hs.0 in
          let one : read (x ++ (y ++ r)) ≡ Ok (a, y ++ r) = rp.again x a (y ++ r) len_x parts.3 hs.0 (stops_at apart a xs y r parts.4 hs.1 s) in
          let more = list_again apart n (found ++ (a ∷ [])) y xs r few_y len_y parts.4 hs.1 (goes_tail a xs r s) in
          let joined : (found ++ (a ∷ [])) ++ xs ≡ found ++ (a ∷ xs) = append_assoc found (a ∷ []) xs in
          rw here (rw hit (rw one (more ∙ ap (λ z. Ok (z, r)) joined)))

      pub list_reads : ((k : K) → p.begins k ≡ true → p.may k ≡ false) → Reads (list_of p) d (many p.begins read)
      list_reads apart = record {
        sound = λ ts all r e.
            let x = list_ok (length ts) [] ts all r (omega arith) e in
            let is : all ≡ x.0 = x.1 in
            let F : List A → Type 0 = λ z. Took (list_of p) ts z r in
            subst F (sym is) x.2;
        again = λ front xs r len e h s.
            let l = length-append front r in
            list_again apart (length (front ++ r)) [] front xs r (omega arith) len e h s;
        viable = λ ts n e. list_err (length ts) [] ts n e;
      }

    module _ (d e : ℕ) (read other : Reader A) (rp : Reads p d read) (op : Reads p e other) (lp : Local d e read other) where
      list_same : (n m : ℕ) (found : List A) (front : List T) (t : T) (r y : List T) → length (front ++ (t ∷ r)) ≤ n → length (front ++ (t ∷ y)) ≤ m
          → length (front ++ (t ∷ r)) ≤ d → length (front ++ (t ∷ y)) ≤ e
          → many_from p.begins read n found (front ++ (t ∷ r)) ≡ Err (length (t ∷ r)) → many_from p.begins other m found (front ++ (t ∷ y)) ≡ Err (length (t ∷ y))
      unfolding r.many_from
      list_same zero m found front t r y few_n few_m ld le err = absurd (omega (arith, length-append front (t ∷ r)))
      list_same (suc n) zero found front t r y few_n few_m ld le err = absurd (omega (arith, length-append front (t ∷ y)))
      list_same (suc n) (suc m) found front t r y few_n few_m ld le err = elim (cases_Bool (sees p.begins (front ++ (t ∷ r)))) [
        | inl hit ↦
            let ts = front ++ (t ∷ r) in
            let there : sees p.begins (front ++ (t ∷ y)) ≡ true = sees_first p.begins front t y r ∙ hit in
            let got : (read ts >>= (λ x. many_from p.begins read n (found ++ (x.0 ∷ [])) x.1)) ≡ Err (length (t ∷ r)) = rw hit at err in
            elim (bind_err (read ts) (λ x. many_from p.begins read n (found ++ (x.0 ∷ [])) x.1) (length (t ∷ r)) got) [
              | inl w ↦ rw there (rw (lp.same front t r y ld le w))
              | inr x ↦
                  let one : Took p ts x.0.0 x.0.1 = rp.sound ts x.0.0 x.0.1 x.1 in
                  let v : Viable (list_of p) x.0.1 (length (t ∷ r)) = list_err d read rp n (found ++ (x.0.0 ∷ [])) x.0.1 (length (t ∷ r)) x.2 in
                  let e1 : front ++ (t ∷ r) ≡ one.front ++ x.0.1 = one.split in
                  let e2 : x.0.1 ≡ v.front ++ v.rest = v.split in
                  let e3 : front ++ (t ∷ r) ≡ (one.front ++ v.front) ++ v.rest = e1 ∙ (ap (λ z. one.front ++ z) e2 ∙ sym (append_assoc one.front v.front v.rest)) in
                  let parts = split_same front (one.front ++ v.front) (t ∷ r) v.rest e3 v.left in
                  let is : front ≡ one.front ++ v.front = parts.0 in
                  let mid : x.0.1 ≡ v.front ++ (t ∷ r) = e2 ∙ ap (λ z. v.front ++ z) (sym parts.1) in
                  let first = first_of_text one.front (p.spell x.0.0) one.spelled (ps.full x.0.0 one.fits (never_bare p ps filled x.0.0)) in
                  let is_x : one.front ≡ first.0 ∷ first.1 = first.2 in
                  let len : length front ≡ length one.front + length v.front = ap length is ∙ length-append one.front v.front in
                  let count_x : length one.front ≡ suc (length first.1) = ap length is_x in
                  let l1 = length-append front (t ∷ r) in
                  let l2 = length-append front (t ∷ y) in
                  let l3 = length-append v.front (t ∷ r) in
                  let l4 = length-append v.front (t ∷ y) in
                  let len_one : length one.front ≤ e = omega arith in
                  let len_vd : length (v.front ++ (t ∷ r)) ≤ d = omega arith in
                  let len_ve : length (v.front ++ (t ∷ y)) ≤ e = omega arith in
                  let few_vn : length (v.front ++ (t ∷ r)) ≤ n = omega arith in
                  let few_vm : length (v.front ++ (t ∷ y)) ≤ m = omega arith in
                  let stop_r : sees (p.goes x.0.0) (v.front ++ (t ∷ r)) ≡ false = rw mid at one.stops in
                  let stop : sees (p.goes x.0.0) (v.front ++ (t ∷ y)) ≡ false = sees_first (p.goes x.0.0) v.front t y r ∙ stop_r in
                  let read_one : other (one.front ++ (v.front ++ (t ∷ y))) ≡ Ok (x.0.0, v.front ++ (t ∷ y)) =
                  op.again one.front x.0.0 (v.front ++ (t ∷ y)) len_one one.spelled one.fits stop in
                  let fault : many_from p.begins read n (found ++ (x.0.0 ∷ [])) (v.front ++ (t ∷ r)) ≡ Err (length (t ∷ r)) = rw mid at x.2 in
                  let more = list_same n m (found ++ (x.0.0 ∷ [])) v.front t r y few_vn few_vm len_vd len_ve fault in
                  let here : front ++ (t ∷ y) ≡ one.front ++ (v.front ++ (t ∷ y)) = ap (λ z. z ++ (t ∷ y)) is ∙ append_assoc one.front v.front (t ∷ y) in
                  rw there (rw here (rw read_one more))
            ]
        | inr miss ↦
            let got : ◌≡◌ {A = Result (List A × List T) ℕ} (Ok (found, front ++ (t ∷ r))) (Err (length (t ∷ r))) = rw miss at err in
            cc (got)
      ]

      pub list_local : Local d e (many p.begins read) (many p.begins other)
      list_local = record {
        same = λ front t r y ld le err.
            list_same (length (front ++ (t ∷ r))) (length (front ++ (t ∷ y))) [] front t r y (omega arith) (omega arith) ld le err;
      }

  -- A part that does not begin with some kinds, and a part under an equal spelling.

  abbrev pub opens_with : (K → Bool) → (List L) → Bool
  opens_with test [] = false
  opens_with test (l ∷ ls) = test (kind_of l)

  abbrev pub barring : {A : Type 0} → (K → Bool) → Phrase A → Phrase A
  barring test p = record p {
    fits = λ a. p.fits a && not (opens_with test (p.spell a));
    begins = λ k. p.begins k && not (test k);
  }

  opens_lexemes : (test : K → Bool) (front r : List T) (u : (List L)) → sees test (front ++ r) ≡ false → lexemes front ≡ u → opens_with test u ≡ false
  opens_lexemes test [] r u s e = rw (← e) refl
  opens_lexemes test (t ∷ front) r u s e = rw (← e) s

  module _ {A : Type 0} (test : K → Bool) (p : Phrase A) (ps : Sound p) (filled : p.null ≡ false) (least : (barring test p).fits p.least ≡ true) where
    barring_starts : (a : A) (l : L) (ls : (List L)) → (barring test p).fits a ≡ true → p.spell a ≡ l ∷ ls → (barring test p).begins (kind_of l) ≡ true
    barring_starts a l ls h e =
        let hs = and_parts (p.fits a) (not (opens_with test (p.spell a))) h in
        let bars : not (test (kind_of l)) ≡ true = rw e at hs.1 in
        and_from (p.begins (kind_of l)) (not (test (kind_of l))) (ps.starts a l ls hs.0 e) bars

    pub barring_sound : Sound (barring test p)
    barring_sound = record {
      starts = barring_starts;
      empty = λ a h b. ps.empty a (and_parts (p.fits a) (not (opens_with test (p.spell a))) h).0 b;
      full = λ a h b. ps.full a (and_parts (p.fits a) (not (opens_with test (p.spell a))) h).0 b;
      nulls = ps.nulls;
      bounds = ps.bounds;
      least_fits = least;
      least_told = ps.least_told;
    }

    module _ (d : ℕ) (read : Reader A) (rp : Reads p d read) where
      barring_ok : (ts : List T) (a : A) (r : List T) → unless test read ts ≡ Ok (a, r) → Took (barring test p) ts a r
      barring_ok ts a r e = elim (cases_Bool (sees test ts)) [
        | inl hit ↦
            let got : ◌≡◌ {A = Result (A × List T) ℕ} (Err (length ts)) (Ok (a, r)) = rw hit at e in
            cc (got)
        | inr miss ↦
            let got : read ts ≡ Ok (a, r) = rw miss at e in
            let one : Took p ts a r = rp.sound ts a r got in
            let split : ts ≡ one.front ++ r = one.split in
            let seen : sees test (one.front ++ r) ≡ false = rw split at miss in
            let bars = opens_lexemes test one.front r (p.spell a) seen one.spelled in
            record {
              front = one.front;
              split = split;
              spelled = one.spelled;
              stops = one.stops;
              fits = and_from (p.fits a) (not (opens_with test (p.spell a))) one.fits (not_from_false (opens_with test (p.spell a)) bars);
            }
      ]

      barring_begun : (ts front rest : List T) (after : List T) (n : ℕ) (whole : A) → ts ≡ front ++ rest → n ≡ length rest → lexemes (front ++ after) ≡ p.spell whole → p.fits whole ≡ true
          → sees test ts ≡ false → Viable (barring test p) ts n
      barring_begun ts [] rest after n whole split left spelled fits miss =
          record { front = []; rest = rest; after = p.least_tokens; whole = p.least; split = split; left = left; spelled = ps.least_told; fits = least }
      barring_begun ts (t ∷ front) rest after n whole split left spelled fits miss =
          let seen : test (kind_of (view t)) ≡ false = rw split at miss in
          let bars : opens_with test (p.spell whole) ≡ false = rw (← spelled) seen in
          record {
            front = t ∷ front;
            rest = rest;
            after = after;
            whole = whole;
            split = split;
            left = left;
            spelled = spelled;
            fits = and_from (p.fits whole) (not (opens_with test (p.spell whole))) fits (not_from_false (opens_with test (p.spell whole)) bars);
          }

      barring_err : (ts : List T) (n : ℕ) → unless test read ts ≡ Err n → Viable (barring test p) ts n
      barring_err ts n e = elim (cases_Bool (sees test ts)) [
        | inl hit ↦
            let got : ◌≡◌ {A = Result (A × List T) ℕ} (Err (length ts)) (Err n) = rw hit at e in
            record { front = []; rest = ts; after = p.least_tokens; whole = p.least; split = refl; left = sym (same_err got); spelled = ps.least_told; fits = least }
        | inr miss ↦
            let got : read ts ≡ Err n = rw miss at e in
            let v : Viable p ts n = rp.viable ts n got in
            barring_begun ts v.front v.rest v.after n v.whole v.split v.left v.spelled v.fits miss
      ]

      barring_again : (front : List T) (a : A) (r : List T) → length front ≤ d → lexemes front ≡ p.spell a → (barring test p).fits a ≡ true
          → sees (p.goes a) r ≡ false → unless test read (front ++ r) ≡ Ok (a, r)
      barring_again front a r len e h s =
          let hs = and_parts (p.fits a) (not (opens_with test (p.spell a))) h in
          let first = first_of_text front (p.spell a) e (ps.full a hs.0 (never_bare p ps filled a)) in
          let is : front ≡ first.0 ∷ first.1 = first.2 in
          let text : p.spell a ≡ view first.0 ∷ lexemes first.1 = first.3 in
          let bars : not (test (kind_of (view first.0))) ≡ true = rw text at hs.1 in
          let miss : sees test (front ++ r) ≡ false = rw is (not-true (test (kind_of (view first.0))) bars) in
          rw miss (rp.again front a r len e hs.0 s)

      pub barring_reads : Reads (barring test p) d (unless test read)
      barring_reads = record { sound = barring_ok; again = barring_again; viable = barring_err }

  pub barring_local : {A : Type 0} (test : K → Bool) (d e : ℕ) (read other : Reader A) → Local d e read other → Local d e (unless test read) (unless test other)
  barring_local {A} test d e read other l = record {
    same = λ front t r y ld le err. elim (cases_Bool (sees test (front ++ (t ∷ r)))) [
      | inl hit ↦
          let there : sees test (front ++ (t ∷ y)) ≡ true = sees_first test front t y r ∙ hit in
          let got : ◌≡◌ {A = Result (A × List T) ℕ} (Err (length (front ++ (t ∷ r)))) (Err (length (t ∷ r))) = rw hit at err in
          let l1 = length-append front (t ∷ r) in
          let l2 = length-append front (t ∷ y) in
          let left = same_err got in
          let now : length (front ++ (t ∷ y)) ≡ length (t ∷ y) = omega arith in
          rw there (ap Err now)
      | inr miss ↦
          let there : sees test (front ++ (t ∷ y)) ≡ false = sees_first test front t y r ∙ miss in
          let got : read (front ++ (t ∷ r)) ≡ Err (length (t ∷ r)) = rw miss at err in
          rw there (l.same front t r y ld le got)
    ];
  }

  -- ---- a part whose spelling and whose test are given by other functions

  abbrev pub named : {A : Type 0} → (A → (List L)) → (A → Bool) → Phrase A → Phrase A
  named spell fits p = record p { spell = spell; fits = fits }

  module _ {A : Type 0} (spell : A → (List L)) (fits : A → Bool) (p : Phrase A) (texts : (a : A) → spell a ≡ p.spell a) (tests : (a : A) → fits a ≡ p.fits a) where
    pub named_sound : Sound p → Sound (named spell fits p)
    named_sound ps = record {
      starts = λ a l ls h e. ps.starts a l ls (sym (tests a) ∙ h) (sym (texts a) ∙ e);
      empty = λ a h b. texts a ∙ ps.empty a (sym (tests a) ∙ h) b;
      full = λ a h b e. ps.full a (sym (tests a) ∙ h) b (sym (texts a) ∙ e);
      nulls = ps.nulls;
      bounds = ps.bounds;
      least_fits = tests p.least ∙ ps.least_fits;
      least_told = ps.least_told ∙ sym (texts p.least);
    }

    pub named_reads : (d : ℕ) (read : Reader A) → Reads p d read → Reads (named spell fits p) d read
    named_reads d read rp = record {
      sound = λ ts a r e.
          let one : Took p ts a r = rp.sound ts a r e in
          record { front = one.front; split = one.split; spelled = one.spelled ∙ sym (texts a); fits = tests a ∙ one.fits; stops = one.stops };
      again = λ front a r len e h s. rp.again front a r len (e ∙ texts a) (sym (tests a) ∙ h) s;
      viable = λ ts n e.
          let v : Viable p ts n = rp.viable ts n e in
          record { front = v.front; rest = v.rest; after = v.after; whole = v.whole; split = v.split; left = v.left; spelled = v.spelled ∙ sym (texts v.whole); fits = tests v.whole ∙ v.fits };
    }

  -- ---- one symbol of some kinds, which stands for itself

  -- a symbol that stands for itself and belongs to the grammar where its class passes the test
  abbrev pub symbol : (K → Bool) → T → Phrase L
  symbol test token = single view (λ l. l) (λ l. test (kind_of l)) test token

  abbrev pub take_one : (K → Bool) → Reader L
  take_one test = one (by_class test) view

  module _ (test : K → Bool) (token : T) (token_fits : test (kind_of (view token)) ≡ true) where
    symbol_leaf : Leaf (by_class test) view (λ l. l) (λ l. test (kind_of l)) test
    symbol_leaf = record {
      gives = λ t h. refl;
      belongs = λ t h. h;
      back = λ t a e h. e;
      taken = λ t a e h. ap (λ z. test (kind_of z)) e ∙ h;
      starts = λ a h. h;
    }

    pub symbol_sound : Sound (symbol test token)
    symbol_sound = single_sound (by_class test) view (λ l. l) (λ l. test (kind_of l)) test token symbol_leaf token_fits

    pub symbol_reads : (d : ℕ) → Reads (symbol test token) d (take_one test)
    symbol_reads d = single_reads (by_class test) view (λ l. l) (λ l. test (kind_of l)) test token symbol_leaf token_fits d

    pub symbol_local : (d e : ℕ) → Local d e (take_one test) (take_one test)
    symbol_local d e = single_local (by_class test) view (λ l. l) (λ l. test (kind_of l)) test token symbol_leaf token_fits d e

  -- ---- a list in which a value may forbid how the next begins

  abbrev spaced : {A : Type 0} → Phrase A → List A → Bool
  spaced p [] = true
  spaced p (a ∷ []) = true
  spaced p (a ∷ b ∷ xs) = not (opens_with (p.goes a) (p.spell b)) && spaced p (b ∷ xs)

  abbrev pub list_apart : {A : Type 0} → Phrase A → Phrase (List A)
  list_apart p = record (list_of p) { fits = λ xs. all_fit p.fits xs && spaced p xs }

  opens_seen : (test : K → Bool) (front r : List T) (u rest : List L) → lexemes front ≡ u ++ rest → (u ≡ [] → ⊥) → sees test (front ++ r) ≡ false → opens_with test u ≡ false
  opens_seen test front r [] rest e full s = absurd (full refl)
  opens_seen test [] r (l ∷ u) rest e full s = cc
  opens_seen test (t ∷ front) r (l ∷ u) rest e full s = let here : view t ≡ l = cc in rw (← here) s

  seen_opens : (test : K → Bool) (front r : List T) (u rest : List L) → lexemes front ≡ u ++ rest → (u ≡ [] → ⊥) → opens_with test u ≡ false → sees test (front ++ r) ≡ false
  seen_opens test front r [] rest e full s = absurd (full refl)
  seen_opens test [] r (l ∷ u) rest e full s = cc
  seen_opens test (t ∷ front) r (l ∷ u) rest e full s = let here : view t ≡ l = cc in rw here s

  module _ {A : Type 0} (p : Phrase A) (ps : Sound p) (filled : p.null ≡ false) where
    pub apart_sound : Sound (list_apart p)
    apart_sound = record {
      starts = λ xs l ls h e. list_starts p ps filled xs l ls (and_parts (all_fit p.fits xs) (spaced p xs) h).0 e;
      empty = λ xs h b. list_empty p ps filled xs b;
      full = λ xs h b e. list_full p ps filled xs (and_parts (all_fit p.fits xs) (spaced p xs) h).0 b e;
      nulls = λ xs b. refl;
      bounds = (list_sound p ps filled).bounds;
      least_fits = refl;
      least_told = refl;
    }

    plain_took : (ts : List T) (xs : List A) (r : List T) → Took (list_apart p) ts xs r → Took (list_of p) ts xs r
    plain_took ts xs r two = record { front = two.front; split = two.split; spelled = two.spelled; fits = (and_parts (all_fit p.fits xs) (spaced p xs) two.fits).0; stops = two.stops }

    next_spaced : (a b : A) (xs : List A) (front r : List T) → lexemes front ≡ flat_map p.spell (b ∷ xs) → p.fits b ≡ true → sees (p.goes a) (front ++ r) ≡ false → spaced p (b ∷ xs) ≡ true → spaced p (a ∷ b ∷ xs) ≡ true
    next_spaced a b xs front r e fb s sp =
        let shut = opens_seen (p.goes a) front r (p.spell b) (flat_map p.spell xs) e (ps.full b fb (never_bare p ps filled b)) s in
        and_from (not (opens_with (p.goes a) (p.spell b))) (spaced p (b ∷ xs)) (not_from_false (opens_with (p.goes a) (p.spell b)) shut) sp

    spaced_took : (a : A) (ts : List T) (xs : List A) (m r : List T) → Took p ts a m → Took (list_apart p) m xs r → spaced p (a ∷ xs) ≡ true
    spaced_took a ts [] m r one two = refl
    spaced_took a ts (b ∷ xs) m r one two =
        let fs = and_parts (all_fit p.fits (b ∷ xs)) (spaced p (b ∷ xs)) two.fits in
        let fb = and_parts (p.fits b) (all_fit p.fits xs) fs.0 in
        let split : m ≡ two.front ++ r = two.split in
        let seen : sees (p.goes a) (two.front ++ r) ≡ false = rw split at one.stops in
        next_spaced a b xs two.front r two.spelled fb.0 seen fs.1

    apart_more : (a : A) (ts : List T) (xs : List A) (m r : List T) → Took p ts a m → Took (list_apart p) m xs r → Took (list_apart p) ts (a ∷ xs) r
    apart_more a ts xs m r one two =
        let t : Took (list_of p) ts (a ∷ xs) r = took_more p ps filled a ts xs m r one (plain_took m xs r two) in
        record {
          front = t.front;
          split = t.split;
          spelled = t.spelled;
          stops = t.stops;
          fits = and_from (all_fit p.fits (a ∷ xs)) (spaced p (a ∷ xs)) t.fits (spaced_took a ts xs m r one two);
        }

    apart_one : (ts : List T) (n : ℕ) → Viable p ts n → Viable (list_apart p) ts n
    unfolding viable_one
    apart_one ts n v =
        let w : Viable (list_of p) ts n = viable_one p ps filled ts n v in
        record { front = v.front; rest = v.rest; after = v.after; whole = v.whole ∷ []; split = v.split; left = v.left; spelled = w.spelled; fits = and_from (p.fits v.whole && true) true w.fits refl }

    apart_begun : (a : A) (ts m front rest after : List T) (n : ℕ) (whole : List A) → Took p ts a m → m ≡ front ++ rest → n ≡ length rest → lexemes (front ++ after) ≡ flat_map p.spell whole
        → (all_fit p.fits whole && spaced p whole) ≡ true → Viable (list_apart p) ts n
    apart_begun a ts m [] rest after n whole one split left told fit =
        let e : ts ≡ one.front ++ m = one.split in
        record {
          front = one.front;
          rest = rest;
          after = [];
          whole = a ∷ [];
          split = e ∙ ap (λ z. one.front ++ z) split;
          left = left;
          spelled = ap lexemes (append-nil one.front) ∙ (one.spelled ∙ sym (append-nil (p.spell a)));
          fits = and_from (p.fits a && true) true (and_from (p.fits a) true one.fits refl) refl;
        }
    apart_begun a ts m (t ∷ front) rest after n [] one split left told fit = cc
    apart_begun a ts m (t ∷ front) rest after n (b ∷ xs) one split left told fit =
        let fs = and_parts (all_fit p.fits (b ∷ xs)) (spaced p (b ∷ xs)) fit in
        let fb = and_parts (p.fits b) (all_fit p.fits xs) fs.0 in
        let w : Viable (list_of p) m n = record { front = t ∷ front; rest = rest; after = after; whole = b ∷ xs; split = split; left = left; spelled = told; fits = fs.0 } in
        let v : Viable (list_of p) ts n = viable_more p ps filled a ts m n one w in
        let head : sees (p.goes a) ((t ∷ front) ++ rest) ≡ false = rw split at one.stops in
        let seen : sees (p.goes a) ((t ∷ (front ++ after)) ++ rest) ≡ false = head in
        let sp = next_spaced a b xs (t ∷ (front ++ after)) rest told fb.0 seen fs.1 in
        let f0 : all_fit p.fits (a ∷ b ∷ xs) ≡ true = and_from (p.fits a) (all_fit p.fits (b ∷ xs)) one.fits fs.0 in
        let e1 : ts ≡ one.front ++ m = one.split in
        let e3 : lexemes one.front ≡ p.spell a = one.spelled in
        record {
          front = one.front ++ (t ∷ front);
          rest = rest;
          after = after;
          whole = a ∷ b ∷ xs;
          split = rw append_assoc (e1 ∙ ap (λ z. one.front ++ z) split);
          left = left;
          spelled = ap lexemes (append_assoc one.front (t ∷ front) after) ∙ lexemes-append one.front ((t ∷ front) ++ after) ∙ ap (λ z. z ++ lexemes ((t ∷ front) ++ after)) e3 ∙ ap (λ z. p.spell a ++ z) told;
          fits = and_from (all_fit p.fits (a ∷ b ∷ xs)) (spaced p (a ∷ b ∷ xs)) f0 sp;
        }

    module _ (d : ℕ) (read : Reader A) (rp : Reads p d read) where
      apart_ok : (n : ℕ) (found : List A) (ts : List T) (all : List A) (r : List T) → length ts ≤ n → many_from p.begins read n found ts ≡ Ok (all, r)
          → (xs : List A) × (all ≡ found ++ xs) × Took (list_apart p) ts xs r
      unfolding r.many_from
      apart_ok zero found [] all r few e =
          let got : ◌≡◌ {A = Result (List A × List T) ℕ} (Ok (found, [])) (Ok (all, r)) = e in
          let pair = same_ok got in
          let tail : [] ≡ r = ap (λ z. z.1) pair in
          let whole : found ≡ all = ap (λ z. z.0) pair in
          ([], sym whole ∙ sym (append-nil found), record { front = []; split = tail; spelled = refl; fits = refl; stops = rw (← tail) refl })
      apart_ok zero found (t ∷ ts) all r few e = absurd (omega arith)
      apart_ok (suc n) found ts all r few e = elim (cases_Bool (sees p.begins ts)) [
        | inl hit ↦
            let got : (read ts >>= (λ x. many_from p.begins read n (found ++ (x.0 ∷ [])) x.1)) ≡ Ok (all, r) = rw hit at e in
            let x = bind_ok (read ts) (λ x. many_from p.begins read n (found ++ (x.0 ∷ [])) x.1) (all, r) got in
            let one : Took p ts x.0.0 x.0.1 = rp.sound ts x.0.0 x.0.1 x.1 in
            let first = first_of_text one.front (p.spell x.0.0) one.spelled (ps.full x.0.0 one.fits (never_bare p ps filled x.0.0)) in
            let is_x : one.front ≡ first.0 ∷ first.1 = first.2 in
            let e1 : ts ≡ one.front ++ x.0.1 = one.split in
            let count : length ts ≡ length one.front + length x.0.1 = ap length e1 ∙ length-append one.front x.0.1 in
            let count_x : length one.front ≡ suc (length first.1) = ap length is_x in
            let few_x : length x.0.1 ≤ n = omega arith in
            let more = apart_ok n (found ++ (x.0.0 ∷ [])) x.0.1 all r few_x x.2 in
            (x.0.0 ∷ more.0, more.1 ∙ append_assoc found (x.0.0 ∷ []) more.0, apart_more x.0.0 ts more.0 x.0.1 r one more.2)
        | inr miss ↦
            let got : ◌≡◌ {A = Result (List A × List T) ℕ} (Ok (found, ts)) (Ok (all, r)) = rw miss at e in
            let pair = same_ok got in
            let tail : ts ≡ r = ap (λ z. z.1) pair in
            let whole : found ≡ all = ap (λ z. z.0) pair in
            ([], sym whole ∙ sym (append-nil found), record { front = []; split = tail; spelled = refl; fits = refl; stops = rw tail at (stops_none p ps filled ts miss) })
      ]

      apart_err : (n : ℕ) (found : List A) (ts : List T) (m : ℕ) → many_from p.begins read n found ts ≡ Err m → Viable (list_apart p) ts m
      unfolding r.many_from
      apart_err zero found ts m e =
          let got : ◌≡◌ {A = Result (List A × List T) ℕ} (Ok (found, ts)) (Err m) = e in
          cc (got)
      apart_err (suc n) found ts m e = elim (cases_Bool (sees p.begins ts)) [
        | inl hit ↦
            let got : (read ts >>= (λ x. many_from p.begins read n (found ++ (x.0 ∷ [])) x.1)) ≡ Err m = rw hit at e in
            elim (bind_err (read ts) (λ x. many_from p.begins read n (found ++ (x.0 ∷ [])) x.1) m got) [
              | inl w ↦ apart_one ts m (rp.viable ts m w)
              | inr x ↦
                  let v : Viable (list_apart p) x.0.1 m = apart_err n (found ++ (x.0.0 ∷ [])) x.0.1 m x.2 in
                  apart_begun x.0.0 ts x.0.1 v.front v.rest v.after m v.whole (rp.sound ts x.0.0 x.0.1 x.1) v.split v.left v.spelled v.fits
            ]
        | inr miss ↦
            let got : ◌≡◌ {A = Result (List A × List T) ℕ} (Ok (found, ts)) (Err m) = rw miss at e in
            cc (got)
      ]

      apart_stops : (a : A) (xs : List A) (y r : List T) → lexemes y ≡ flat_map p.spell xs → all_fit p.fits xs ≡ true → spaced p (a ∷ xs) ≡ true
          → sees ((list_of p).goes (a ∷ xs)) r ≡ false → sees (p.goes a) (y ++ r) ≡ false
      apart_stops a [] [] r e h sp s = last_stops p ps filled a r s
      apart_stops a [] (t ∷ y) r e h sp s = cc
      apart_stops a (b ∷ xs) y r e h sp s =
          let hb = and_parts (p.fits b) (all_fit p.fits xs) h in
          let sb = and_parts (not (opens_with (p.goes a) (p.spell b))) (spaced p (b ∷ xs)) sp in
          seen_opens (p.goes a) y r (p.spell b) (flat_map p.spell xs) e (ps.full b hb.0 (never_bare p ps filled b)) (not-true (opens_with (p.goes a) (p.spell b)) sb.0)

      spaced_tail : (a : A) (xs : List A) → spaced p (a ∷ xs) ≡ true → spaced p xs ≡ true
      spaced_tail a [] h = refl
      spaced_tail a (b ∷ xs) h = (and_parts (not (opens_with (p.goes a) (p.spell b))) (spaced p (b ∷ xs)) h).1

      apart_again : (n : ℕ) (found : List A) (front : List T) (xs : List A) (r : List T) → length front ≤ n → length front ≤ d → lexemes front ≡ flat_map p.spell xs
          → all_fit p.fits xs ≡ true → spaced p xs ≡ true → sees ((list_of p).goes xs) r ≡ false → many_from p.begins read n found (front ++ r) ≡ Ok (found ++ xs, r)
      unfolding r.many_from
      apart_again zero found [] [] r few len e h sp s = rw append-nil refl
      apart_again zero found [] (a ∷ xs) r few len e h sp s = absurd (list_full p ps filled (a ∷ xs) h refl (sym e))
      apart_again zero found (t ∷ front) xs r few len e h sp s = absurd (omega arith)
      apart_again (suc n) found [] [] r few len e h sp s =
          let miss : sees p.begins r ≡ false = none_stops p ps filled r s in
          rw miss (rw append-nil refl)
      apart_again (suc n) found (t ∷ front) [] r few len e h sp s = cc
      apart_again (suc n) found front (a ∷ xs) r few len e h sp s =
          let parts = split_lexemes front (p.spell a) (flat_map p.spell xs) e in
          let x = parts.0 in
          let y = parts.1 in
          let is : front ≡ x ++ y = parts.2 in
          let hs = and_parts (p.fits a) (all_fit p.fits xs) h in
          let first = first_of_text x (p.spell a) parts.3 (ps.full a hs.0 (never_bare p ps filled a)) in
          let is_x : x ≡ first.0 ∷ first.1 = first.2 in
          let count : length front ≡ length x + length y = ap length is ∙ length-append x y in
          let count_x : length x ≡ suc (length first.1) = ap length is_x in
          let len_x : length x ≤ d = omega arith in
          let len_y : length y ≤ d = omega arith in
          let few_y : length y ≤ n = omega arith in
          let here : front ++ r ≡ x ++ (y ++ r) = ap (λ z. z ++ r) is ∙ append_assoc x y r in
          let hit : sees p.begins (x ++ (y ++ r)) ≡ true = sees_begins p ps filled x a (y ++ r) parts.3 hs.0 in
          let one : read (x ++ (y ++ r)) ≡ Ok (a, y ++ r) = rp.again x a (y ++ r) len_x parts.3 hs.0 (apart_stops a xs y r parts.4 hs.1 sp s) in
          let more = apart_again n (found ++ (a ∷ [])) y xs r few_y len_y parts.4 hs.1 (spaced_tail a xs sp) (goes_tail p ps filled d read rp a xs r s) in
          let joined : (found ++ (a ∷ [])) ++ xs ≡ found ++ (a ∷ xs) = append_assoc found (a ∷ []) xs in
          rw here (rw hit (rw one (more ∙ ap (λ z. Ok (z, r)) joined)))

      pub apart_reads : Reads (list_apart p) d (many p.begins read)
      apart_reads = record {
        sound = λ ts all r e.
            let x = apart_ok (length ts) [] ts all r (omega arith) e in
            let is : all ≡ x.0 = x.1 in
            let F : List A → Type 0 = λ z. Took (list_apart p) ts z r in
            subst F (sym is) x.2;
        again = λ front xs r len e h s.
            let l = length-append front r in
            let hs = and_parts (all_fit p.fits xs) (spaced p xs) h in
            apart_again (length (front ++ r)) [] front xs r (omega arith) len e hs.0 hs.1 s;
        viable = λ ts n e. apart_err (length ts) [] ts n e;
      }
