-- Regular expressions as they are written, and their forms.
use Rattle.std.proofs.Common.{◌≡◌, ◌≤◌, ◌-◌, ◌+◌, ℕ, zero, suc, Bool, true, false, cond, not, ◌&&◌, ◌||◌, List, [], ◌∷◌, ◌++◌, inl, inr, length, take, drop}
use Rattle.std.proofs.Common.{refl, sym, ◌∙◌, ap, subst, true≢false, Some, None, arith, length-append, append_assoc}
use Rattle.std.proofs.Math.Seq.{take-append_seam, drop-append-add, get_or-append_seam}
use Rattle.std.proofs.lemmas.Bool.{eqb-true}
use Rattle.std.specs.Prelude.{◌==◌, get_or, slice_index}
use Rattle.rl_types.specs.declared.faults.FaultKind.TheVariants.{F1}
use Rattle.rl_grammar.specs.declared.token.TokenKind.TheVariants as k
use Rattle.rl_grammar.specs.Literals.{escaped}
use Rattle.rl_lexical.specs.declared.context.Context.{Context}
use Rattle.rl_lexical.specs.declared.context.Form.{Form}
use Rattle.rl_lexical.specs.declared.context.Form.TheVariants as o
use Rattle.rl_lexical.specs.declared.mode.Mode.{Mode}
use Rattle.rl_lexical.specs.declared.mode.Mode.TheVariants as m
use Rattle.rl_lexical.specs.Bytes.{newline, star, slash, open_bracket, backslash, close_bracket, letter_i}
use Rattle.rl_lexical.specs.Forms.{form_behind, item_form, form_after, is_regular_form}
use Rattle.rl_lexical.specs.Modes.{mode_after, is_read}
use Rattle.rl_lexical.specs.Fronts.{kind_of}
use Rattle.rl_leaves.specs.declared.text.Character.{Character}
use Rattle.rl_leaves.specs.declared.character_set.Span.{Span}
use Rattle.rl_leaves.specs.declared.character_set.CharacterSet.{CharacterSet}
use Rattle.rl_leaves.specs.declared.regular_item.Named.{Named}
use Rattle.rl_leaves.specs.declared.regular_item.Named.TheVariants as named
use Rattle.rl_leaves.specs.declared.regular_item.RegularItem.{RegularItem}
use Rattle.rl_leaves.specs.Texts.{characters, characters_within, ignores_case, is_plain, begins_with, before, without}
use Rattle.rl_leaves.specs.CharacterSets.{set_of, every_character}
use Rattle.rl_leaves.specs.RegularExpressions.{before_close, item_at, behind_item, regular_items}
use Rattle.rl_leaves.proofs.CutLaws.{cut_none}
use Rattle.rl_leaves.proofs.RegularLaws.{behind_shrinks, items_more}
use Rattle.rl_laws.specs.Written.{plain, AreWritten, IsBody}
use Rattle.rl_laws.specs.Regular.{dot, IsOrdinary, IsNamed, IsItem, IsRegular, OneRegular, RegularsAreTold, RegularsAreRead}
use Rattle.rl_laws.proofs.Forms.{step_over, over, read_over, wrong, plain_is, has_close}
use Rattle.rl_laws.proofs.Sets.{AreSpans, close, IsOutside, set_reads, set_passes, body_is, tail_of, without_last, last_gone, no_kind, good_so}

abbrev AreItems : List RegularItem → List Character → Type 0
AreItems xs cs = AreWritten IsItem xs cs

abbrev starred : Bool → List Character
starred b = cond b (plain star ∷ []) []

abbrev suffix : Bool → List Character
suffix b = cond b (plain letter_i ∷ []) []

-- ---- which character it is

data Sort (c : Character) : Type 0 where
  Slash : c ≡ plain slash → Sort c
  Refused : step_over o.Item c ≡ o.Wrong → Sort c
  Bracket : c ≡ plain open_bracket → Sort c
  Dot : c ≡ plain dot → Sort c
  Ordinary : IsOrdinary c → Sort c

sorted : (c : Character) → Sort c
sorted c =
    by_case (is_plain slash c) refl (is_plain star c) refl (is_plain newline c) refl (is_plain open_bracket c) refl (is_plain dot c) refl
  where
    by_case : (a : Bool) → is_plain slash c ≡ a → (b : Bool) → is_plain star c ≡ b → (n : Bool) → is_plain newline c ≡ n
        → (d : Bool) → is_plain open_bracket c ≡ d → (e : Bool) → is_plain dot c ≡ e → Sort c
    by_case true f _ _ _ _ _ _ _ _ = Slash (plain_is slash c f)
    by_case false _ true f _ _ _ _ _ _ = Refused (ap (step_over o.Item) (plain_is star c f))
    by_case false _ false _ true f _ _ _ _ = Refused (ap (step_over o.Item) (plain_is newline c f))
    by_case false _ false _ false _ true f _ _ = Bracket (plain_is open_bracket c f)
    by_case false _ false _ false _ false _ true f = Dot (plain_is dot c f)
    by_case false f false g false h false i false j = Ordinary (record { not_slash = f; not_star = g; not_newline = h; not_bracket = i; not_dot = j })

ordinary_step : (c : Character) → IsOrdinary c → step_over o.Item c ≡ o.Repeated
ordinary_step c w =
    (elim c.is_escaped as (λ t. (not t && c.byte == slash) ≡ false → (not t && c.byte == star) ≡ false → (not t && c.byte == newline) ≡ false → (not t && c.byte == open_bracket) ≡ false
    → cond t o.Repeated (item_form c.byte) ≡ o.Repeated) [
      | true ↦ λ a b n d. refl
      | false ↦ λ a b n d i. cond (a i) o.Closed (cond (b i || n i) o.Wrong (cond (d i) o.SetStart o.Repeated))
    ]) w.not_slash w.not_star w.not_newline w.not_bracket

-- without a `*` an item begins
repeated_is_item : (c : Character) → is_plain star c ≡ false → step_over o.Repeated c ≡ step_over o.Item c
repeated_is_item c n =
    (elim c.is_escaped as (λ t. (not t && c.byte == star) ≡ false → cond t o.Repeated (form_behind o.Repeated c.byte) ≡ cond t o.Repeated (item_form c.byte)) [
      | true ↦ λ a. refl
      | false ↦ λ a i. cond (a i) o.Item (item_form c.byte)
    ]) n

-- ---- from what is written to the form

-- an item without its star, where an item may begin and behind another
record Begins (front rest : List Character) : Type 0 where
  item : over o.Item (front ++ rest) ≡ over o.Repeated rest
  repeated : over o.Repeated (front ++ rest) ≡ over o.Repeated rest
  no_star : begins_with star (front ++ rest) ≡ false

named_begins : (names : Named) (front rest : List Character) → IsNamed names front → Begins front rest
named_begins names front rest (inl one) = subst (λ w. Begins w rest) (sym one.written) (record {
  item = ap (λ f. over f rest) (ordinary_step one.character one.ordinary);
  repeated = ap (λ f. over f rest) (repeated_is_item one.character one.ordinary.not_star ∙ ordinary_step one.character one.ordinary);
  no_star = one.ordinary.not_star;
})
named_begins names front rest (inr (inl any)) = subst (λ w. Begins w rest) (sym any.written) (record { item = refl; repeated = refl; no_star = refl })
named_begins names front rest (inr (inr of)) =
    let w = of.written in
    let passes : over o.SetStart (w.between ++ close ∷ rest) ≡ over o.Repeated rest = set_passes of.set w.between rest w.body in
    let e : over o.SetStart ((w.between ++ close ∷ []) ++ rest) ≡ over o.Repeated rest = ap (over o.SetStart) (append_assoc w.between (close ∷ []) rest) ∙ passes in
    subst (λ z. Begins z rest) (sym w.written) (record { item = e; repeated = e; no_star = refl })

-- all items, and the slash behind them
record Passes (cs rest : List Character) : Type 0 where
  item : over o.Item (cs ++ plain slash ∷ rest) ≡ over o.Closed rest
  repeated : over o.Repeated (cs ++ plain slash ∷ rest) ≡ over o.Closed rest

items_pass : (xs : List RegularItem) (cs rest : List Character) → AreItems xs cs → Passes cs rest
items_pass [] cs rest e = subst (λ w. Passes w rest) (sym e) (record { item = refl; repeated = refl })
items_pass (x ∷ xs) cs rest (first, back, e, says, more) =
    let later = items_pass xs back rest more in
    let here : over o.Repeated (starred x.is_starred ++ (back ++ plain slash ∷ rest)) ≡ over o.Closed rest =
    elim x.is_starred as (λ t. over o.Repeated (starred t ++ (back ++ plain slash ∷ rest)) ≡ over o.Closed rest) [ true ↦ later.item | false ↦ later.repeated ] in
    let b = named_begins x.names says.front (starred x.is_starred ++ (back ++ plain slash ∷ rest)) says.names in
    let whole : says.front ++ (starred x.is_starred ++ (back ++ plain slash ∷ rest)) ≡ cs ++ plain slash ∷ rest =
    sym (append_assoc says.front (starred x.is_starred) (back ++ plain slash ∷ rest))
    ∙ sym (append_assoc (says.front ++ starred x.is_starred) back (plain slash ∷ rest))
    ∙ ap (λ w. (w ++ back) ++ plain slash ∷ rest) (sym says.written) ∙ ap (λ w. w ++ plain slash ∷ rest) (sym e) in
    record { item = ap (over o.Item) (sym whole) ∙ b.item ∙ here; repeated = ap (over o.Repeated) (sym whole) ∙ b.repeated ∙ here }

ends_closed : (folds : Bool) → is_regular_form (over o.Closed (suffix folds)) ≡ true
ends_closed true = refl
ends_closed false = refl

-- ---- from the form to what is written

abbrev Good : Form → List Character → Type 0
Good f cs = is_regular_form (over f cs) ≡ true

bad : {P : Type 0} (f : Form) → is_regular_form f ≡ false → is_regular_form f ≡ true → P
bad f e h = absurd (true≢false (sym h ∙ e))

bad_wrong : {P : Type 0} (cs : List Character) → Good o.Wrong cs → P
bad_wrong cs h = bad o.Wrong refl (ap is_regular_form (sym (wrong cs)) ∙ h)

record Read (cs : List Character) : Type 0 where
  items : List RegularItem
  between : List Character
  folds : Bool
  written : cs ≡ between ++ plain slash ∷ suffix folds
  are : AreItems items between

closed : (cs : List Character) → Good o.Closed cs → (folds : Bool) × (cs ≡ suffix folds)
closed [] h = (false, refl)
closed (c ∷ cs) h =
    (elim (is_plain letter_i c) as (λ t. is_plain letter_i c ≡ t → (folds : Bool) × (c ∷ cs ≡ suffix folds)) [
      | true ↦ λ e.
          let is : c ≡ plain letter_i = plain_is letter_i c e in
          (true, λ i. is i ∷ nothing cs (subst (λ w. is_regular_form (over (step_over o.Closed w) cs) ≡ true) is h) i)
      | false ↦ λ e. bad_wrong cs (subst (λ f. is_regular_form (over f cs) ≡ true) (no_suffix e) h)
    ]) refl
  where
    nothing : (ds : List Character) → Good o.Suffixed ds → ds ≡ []
    nothing [] h = refl
    nothing (d ∷ ds) h = bad_wrong ds (subst (λ f. is_regular_form (over f ds) ≡ true) (elim d.is_escaped as (λ t. cond t o.Wrong o.Wrong ≡ o.Wrong) [ true ↦ refl | false ↦ refl ]) h)

    no_suffix : is_plain letter_i c ≡ false → step_over o.Closed c ≡ o.Wrong
    no_suffix n =
        (elim c.is_escaped as (λ t. (not t && c.byte == letter_i) ≡ false → cond t o.Wrong (form_behind o.Closed c.byte) ≡ o.Wrong) [
          | true ↦ λ a. refl
          | false ↦ λ a i. cond (a i) o.Suffixed o.Wrong
        ]) n

regular_forms : IsOutside is_regular_form
regular_forms = record { start = refl; item = refl; character = refl; range = refl; wrong = refl }

abbrev Reads : ℕ → Type 0
Reads n = (cs : List Character) → length cs ≤ n → Good o.Item cs → Read cs

-- an item more, with what is behind its star
more_read : (names : Named) (front cs : List Character) (t : Bool) → IsNamed names front → Read cs → Read (front ++ (starred t ++ cs))
more_read names front cs t w r = record {
  items = record { names = names; is_starred = t } ∷ r.items;
  between = (front ++ starred t) ++ r.between;
  folds = r.folds;
  written = ap (λ z. front ++ (starred t ++ z)) r.written ∙ sym (append_assoc front (starred t) (r.between ++ plain slash ∷ suffix r.folds))
      ∙ sym (append_assoc (front ++ starred t) r.between (plain slash ∷ suffix r.folds));
  are = (front ++ starred t, r.between, refl, record { front = front; written = refl; names = w }, r.are);
}

behind_front : (n : ℕ) (later : Reads n) (names : Named) (front cs : List Character) → IsNamed names front → length cs ≤ n → Good o.Repeated cs → Read (front ++ cs)
behind_front n later names front [] w l h = bad o.Repeated refl h
behind_front n later names front (c ∷ cs) w l h =
    (elim (is_plain star c) as (λ t. is_plain star c ≡ t → Read (front ++ c ∷ cs)) [
      | true ↦ λ e.
          let is : c ≡ plain star = plain_is star c e in
          let shorter : length cs ≤ n = omega arith in
          subst (λ z. Read (front ++ z ∷ cs)) (sym is)
          (more_read names front cs true w (later cs shorter (subst (λ z. is_regular_form (over (step_over o.Repeated z) cs) ≡ true) is h)))
      | false ↦ λ e. more_read names front (c ∷ cs) false w (later (c ∷ cs) l (subst (λ f. is_regular_form (over f cs) ≡ true) (repeated_is_item c e) h))
    ]) refl

reads_more : (n : ℕ) → Reads n → (c : Character) (cs : List Character) → length cs ≤ n → Good o.Item (c ∷ cs) → Read (c ∷ cs)
reads_more n later c cs l h = by (sorted c)
  where
    set_read : Good o.SetStart cs → Read (plain open_bracket ∷ cs)
    set_read g =
        let r = set_reads is_regular_form regular_forms cs g in
        let shorter : length r.rest ≤ n = let whole : length cs ≡ length (r.between ++ close ∷ r.rest) = ap length r.written in omega (arith, whole, length-append r.between (close ∷ r.rest)) in
        let is : plain open_bracket ∷ cs ≡ (plain open_bracket ∷ r.between ++ close ∷ []) ++ r.rest =
        ap (λ z. plain open_bracket ∷ z) (r.written ∙ sym (append_assoc r.between (close ∷ []) r.rest)) in
        subst Read (sym is)
        (behind_front n later (named.Set r.says.0) (plain open_bracket ∷ r.between ++ close ∷ []) r.rest
        (inr (inr (record { set = r.says.0; written = record { between = r.between; written = refl; body = r.says.1 }; says = refl }))) shorter r.behind)

    by : Sort c → Read (c ∷ cs)
    by (Slash e) =
        let end = closed cs (subst (λ z. is_regular_form (over (step_over o.Item z) cs) ≡ true) e h) in
        record { items = []; between = []; folds = end.0; written = λ i. e i ∷ end.1 i; are = refl }
    by (Refused e) = bad_wrong cs (subst (λ f. is_regular_form (over f cs) ≡ true) e h)
    by (Bracket e) = subst (λ z. Read (z ∷ cs)) (sym e) (set_read (subst (λ z. is_regular_form (over (step_over o.Item z) cs) ≡ true) e h))
    by (Dot e) = subst (λ z. Read (z ∷ cs)) (sym e)
        (behind_front n later (named.Set every_character) (plain dot ∷ []) cs (inr (inl (record { written = refl; says = refl }))) l
        (subst (λ z. is_regular_form (over (step_over o.Item z) cs) ≡ true) e h))
    by (Ordinary w) =
        behind_front n later (named.Character c.byte) (c ∷ []) cs (inl (record { character = c; written = refl; ordinary = w; says = refl })) l
        (subst (λ f. is_regular_form (over f cs) ≡ true) (ordinary_step c w) h)

reads : (n : ℕ) → Reads n
reads n [] l h = bad o.Item refl h
reads zero (c ∷ cs) l h = absurd (omega arith)
reads (suc n) (c ∷ cs) l h = let shorter : length cs ≤ n = omega arith in reads_more n (reads n) c cs shorter h

-- ---- one value

spans_open : (ss : List Span) (cs : List Character) → AreSpans ss cs → has_close cs ≡ false
spans_open [] cs e = ap has_close e
spans_open (s ∷ ss) cs (front, back, e, says, more) =
    ap has_close e ∙ elim says [
      | inl one ↦ ap (λ w. has_close (w ++ back)) one.written ∙ (λ i. one.member.not_close i || spans_open ss back more i)
      | inr two ↦ ap (λ w. has_close (w ++ back)) two.written ∙ (λ i. two.lower_member.not_close i || (two.upper_member.not_close i || spans_open ss back more i))
    ]

body_open : (set : CharacterSet) (cs : List Character) → IsBody set cs → has_close cs ≡ false
body_open set cs (inl n) = ap has_close n.written ∙ spans_open set.spans n.spelled n.spans
body_open set cs (inr p) = spans_open set.spans cs p.spans

or_parts : (a b : Bool) → (a || b) ≡ false → (a ≡ false) × (b ≡ false)
or_parts true b e = absurd (true≢false e)
or_parts false b e = (refl, e)

close_at : (bs rest : List Character) → has_close bs ≡ false → before_close (bs ++ close ∷ rest) ≡ length bs
close_at [] rest n = refl
close_at (b ∷ bs) rest n =
    let p = or_parts (is_plain close_bracket b) (has_close bs) n in
    let h : before_close (bs ++ close ∷ rest) ≡ length bs = close_at bs rest p.1 in
    let s : 1 + before_close (bs ++ close ∷ rest) ≡ length (b ∷ bs) = omega (arith, h) in
    ap (λ t. cond (not t) (1 + before_close (bs ++ close ∷ rest)) 0) p.0 ∙ s

-- what stands at the front is read as one item
record ReadsItem (names : Named) (front rest : List Character) : Type 0 where
  is : regular_items (front ++ rest) ≡ record { names = names; is_starred = begins_with star rest } ∷ regular_items (without star rest)

named_read : (names : Named) (front rest : List Character) → IsNamed names front → ReadsItem names front rest
named_read names front rest (inl one) = subst (λ w. ReadsItem names w rest) (sym one.written) (record {
  is = items_more one.character rest
      ∙ ap (λ t. record { names = cond t (named.Set (set_of (take (before_close rest) rest))) (cond (is_plain 46 one.character) (named.Set every_character) (named.Character one.character.byte)); is_starred = begins_with 42 (cond t (drop (before_close rest + 1) rest) rest) } ∷ regular_items (without 42 (cond t (drop (before_close rest + 1) rest) rest))) one.ordinary.not_bracket
      ∙ ap (λ t. record { names = cond t (named.Set every_character) (named.Character one.character.byte); is_starred = begins_with 42 rest } ∷ regular_items (without 42 rest)) one.ordinary.not_dot
      ∙ ap (λ z. record { names = z; is_starred = begins_with 42 rest } ∷ regular_items (without 42 rest)) one.says;
})
named_read names front rest (inr (inl any)) = subst (λ w. ReadsItem names w rest) (sym any.written) (record {
  is = items_more (plain dot) rest ∙ ap (λ z. record { names = z; is_starred = begins_with 42 rest } ∷ regular_items (without 42 rest)) any.says;
})
named_read names front rest (inr (inr of)) =
    let w = of.written in
    let cs : List Character = (w.between ++ close ∷ []) ++ rest in
    let at : before_close cs ≡ length w.between = ap before_close (append_assoc w.between (close ∷ []) rest) ∙ close_at w.between rest (body_open of.set w.between w.body) in
    let inside : take (before_close cs) cs ≡ w.between = ap (λ n. take n cs) at ∙ ap (take (length w.between)) (append_assoc w.between (close ∷ []) rest) ∙ take-append_seam w.between (close ∷ rest) in
    let behind : drop (before_close cs + 1) cs ≡ rest =
    ap (λ n. drop (n + 1) cs) at ∙ ap (drop (length w.between + 1)) (append_assoc w.between (close ∷ []) rest) ∙ drop-append-add w.between (close ∷ rest) 1 in
    subst (λ z. ReadsItem names z rest) (sym w.written) (record {
      is = items_more (plain open_bracket) cs
          ∙ (λ i. record { names = named.Set (set_of (inside i)); is_starred = begins_with 42 (behind i) } ∷ regular_items (without 42 (behind i)))
          ∙ ap (λ z. record { names = named.Set z; is_starred = begins_with 42 rest } ∷ regular_items (without 42 rest)) (body_is of.set w.between w.body)
          ∙ ap (λ z. record { names = z; is_starred = begins_with 42 rest } ∷ regular_items (without 42 rest)) of.says;
    })

no_star : (xs : List RegularItem) (cs : List Character) → AreItems xs cs → begins_with star cs ≡ false
no_star [] cs e = ap (begins_with star) e
no_star (x ∷ xs) cs (first, back, e, says, more) =
    ap (begins_with star) (e ∙ ap (λ w. w ++ back) says.written ∙ append_assoc says.front (starred x.is_starred) back)
    ∙ (named_begins x.names says.front (starred x.is_starred ++ back) says.names).no_star

star_behind : (t : Bool) (back : List Character) → begins_with star back ≡ false → begins_with star (starred t ++ back) ≡ t
star_behind true back n = refl
star_behind false back n = n

star_gone : (t : Bool) (back : List Character) → begins_with star back ≡ false → without star (starred t ++ back) ≡ back
star_gone true back n = refl
star_gone false back n = ap (λ b. cond b (drop 1 back) back) n

items_are : (xs : List RegularItem) (cs : List Character) → AreItems xs cs → regular_items cs ≡ xs
items_are [] cs e = ap regular_items e ∙ cut_none item_at behind_item behind_shrinks
items_are (x ∷ xs) cs (first, back, e, says, more) =
    let n = no_star xs back more in
    ap regular_items (e ∙ ap (λ w. w ++ back) says.written ∙ append_assoc says.front (starred x.is_starred) back)
    ∙ (named_read x.names says.front (starred x.is_starred ++ back) says.names).is
    ∙ (λ i. record { names = x.names; is_starred = star_behind x.is_starred back n i } ∷ regular_items (star_gone x.is_starred back n i))
    ∙ ap (λ w. x ∷ w) (items_are xs back more)

-- ---- what stands between the slashes

abbrev last_or : Character → List Character → Character
last_or d [] = d
last_or d (c ∷ cs) = last_or c cs

last_is : (d c : Character) (cs : List Character) → last_or d (cs ++ c ∷ []) ≡ c
last_is d c [] = refl
last_is d c (x ∷ cs) = last_is x c cs

abbrev middle : Bool → List Character → List Character
middle folds cs = tail_of (without_last (cond folds (without_last cs) cs))

same_ends : (between : List Character) (folds : Bool) → plain slash ∷ between ++ plain slash ∷ suffix folds ≡ (plain slash ∷ between ++ plain slash ∷ []) ++ suffix folds
same_ends between folds = ap (λ w. plain slash ∷ w) (sym (append_assoc between (plain slash ∷ []) (suffix folds)))

folds_is : (between : List Character) (folds : Bool) → is_plain letter_i (last_or (plain slash) (plain slash ∷ between ++ plain slash ∷ suffix folds)) ≡ folds
folds_is between true = ap (λ w. is_plain letter_i (last_or (plain slash) w)) (same_ends between true) ∙ ap (is_plain letter_i) (last_is (plain slash) (plain letter_i) (plain slash ∷ between ++ plain slash ∷ []))
folds_is between false = ap (is_plain letter_i) (last_is (plain slash) (plain slash) between)

between_is : (between : List Character) (folds : Bool) → middle folds (plain slash ∷ between ++ plain slash ∷ suffix folds) ≡ between
between_is between true =
    ap (λ w. tail_of (without_last (without_last w))) (same_ends between true)
    ∙ ap (λ w. tail_of (without_last w)) (last_gone (plain slash ∷ between ++ plain slash ∷ []) (plain letter_i))
    ∙ ap tail_of (last_gone (plain slash ∷ between) (plain slash))
between_is between false = ap tail_of (last_gone (plain slash ∷ between) (plain slash))

-- the two ways to write characters are one
same_parts : (bs ds : List Character) (f g : Bool) → plain slash ∷ bs ++ plain slash ∷ suffix f ≡ plain slash ∷ ds ++ plain slash ∷ suffix g → (bs ≡ ds) × (f ≡ g)
same_parts bs ds f g e =
    let h : f ≡ g = sym (folds_is bs f) ∙ ap (λ w. is_plain letter_i (last_or (plain slash) w)) e ∙ folds_is ds g in
    (sym (between_is bs f) ∙ ap (middle f) e ∙ ap (λ t. middle t (plain slash ∷ ds ++ plain slash ∷ suffix g)) h ∙ between_is ds g, h)

pub one_regular : OneRegular
one_regular text xs ys f g a b =
    let same = same_parts a.between b.between f g (sym a.written ∙ b.written) in
    (sym (items_are xs a.between a.are) ∙ ap regular_items same.0 ∙ items_are ys b.between b.are, same.1)

opened : (bytes : List ℕ) → characters false (slash ∷ bytes) ≡ plain slash ∷ characters false bytes
unfolding characters
opened bytes = refl

told_to : (bytes : List ℕ) → is_regular_form (form_after o.Item bytes) ≡ true → (items : List RegularItem) × (folds : Bool) × IsRegular items folds (characters false (slash ∷ bytes))
told_to bytes h =
    let l : length (characters false bytes) ≤ length (characters false bytes) = omega arith in
    let r = reads (length (characters false bytes)) (characters false bytes) l (ap is_regular_form (sym (read_over false o.Item bytes)) ∙ h) in
    (r.items, r.folds, record { between = r.between; written = opened bytes ∙ ap (λ w. plain slash ∷ w) r.written; are = r.are })

told_from : (bytes : List ℕ) (items : List RegularItem) (folds : Bool) → IsRegular items folds (characters false (slash ∷ bytes)) → is_regular_form (form_after o.Item bytes) ≡ true
told_from bytes items folds w =
    ap is_regular_form (read_over false o.Item bytes ∙ ap (over o.Item) (ap tail_of (sym (opened bytes) ∙ w.written)) ∙ (items_pass items w.between (suffix folds) w.are).item)
    ∙ ends_closed folds

pub regulars_are_told : RegularsAreTold
regulars_are_told bytes = (
  λ f. told_to bytes (good_so (is_regular_form (form_after o.Item bytes)) f),
  λ r. ap (λ t. cond t None (Some F1)) (told_from bytes r.0 r.1 r.2),
)

-- ---- tokens

-- where the token ends
record Ends (flag : Bool) (bs : List ℕ) : Type 0 where
  between : List ℕ
  folds : Bool
  written : bs ≡ between ++ slash ∷ cond folds (letter_i ∷ []) []
  reads : characters flag bs ≡ characters flag between ++ plain slash ∷ suffix folds

past : {P : Type 0} (bs : List ℕ) → is_read (mode_after m.Past bs) ≡ true → P
unfolding mode_after
past [] e = absurd (true≢false (sym e))
past (b ∷ bs) e = past bs e

ends_here : (bs : List ℕ) → is_read (mode_after m.Suffixable bs) ≡ true → Ends false (slash ∷ bs)
unfolding mode_after characters
ends_here [] e = record { between = []; folds = false; written = refl; reads = refl }
ends_here (b ∷ bs) e =
    (elim (b == letter_i) as (λ t. (b == letter_i) ≡ t → is_read (mode_after (cond t m.Complete m.Past) bs) ≡ true → Ends false (slash ∷ b ∷ bs)) [
      | true ↦ λ f h. subst (λ w. Ends false (slash ∷ w ∷ bs)) (sym (eqb-true b letter_i f)) (with_suffix bs h)
      | false ↦ λ f h. past bs h
    ]) refl e
  where
    with_suffix : (bs : List ℕ) → is_read (mode_after m.Complete bs) ≡ true → Ends false (slash ∷ letter_i ∷ bs)
    with_suffix [] h = record { between = []; folds = true; written = refl; reads = refl }
    with_suffix (d ∷ ds) h = past ds h

behind_escape : (b : ℕ) (bs : List ℕ) → Ends false bs → Ends true (b ∷ bs)
unfolding characters
behind_escape b bs t = record {
  between = b ∷ t.between;
  folds = t.folds;
  written = ap (λ w. b ∷ w) t.written;
  reads = elim (b == newline) as (λ n. before (cond n None (Some (record { byte = escaped b; is_escaped = true }))) (characters false bs)
      ≡ before (cond n None (Some (record { byte = escaped b; is_escaped = true }))) (characters false t.between) ++ plain slash ∷ suffix t.folds) [
        | true ↦ t.reads
        | false ↦ ap (λ w. record { byte = escaped b; is_escaped = true } ∷ w) t.reads
      ];
}

behind_backslash : (b : ℕ) (bs : List ℕ) → (b == backslash) ≡ true → Ends true bs → Ends false (b ∷ bs)
unfolding characters
behind_backslash b bs e t = record {
  between = b ∷ t.between;
  folds = t.folds;
  written = ap (λ w. b ∷ w) t.written;
  reads = ap (λ n. before (cond n None (Some (plain b))) (characters n bs)) e ∙ t.reads
      ∙ sym (ap (λ n. before (cond n None (Some (plain b))) (characters n t.between) ++ plain slash ∷ suffix t.folds) e);
}

behind_plain : (b : ℕ) (bs : List ℕ) → (b == backslash) ≡ false → Ends false bs → Ends false (b ∷ bs)
unfolding characters
behind_plain b bs e t = record {
  between = b ∷ t.between;
  folds = t.folds;
  written = ap (λ w. b ∷ w) t.written;
  reads = ap (λ n. before (cond n None (Some (plain b))) (characters n bs)) e ∙ ap (λ w. plain b ∷ w) t.reads
      ∙ sym (ap (λ n. before (cond n None (Some (plain b))) (characters n t.between) ++ plain slash ∷ suffix t.folds) e);
}

-- in a set of it or not
abbrev mode_of : (in_set flag : Bool) → Mode
mode_of true true = m.RegularSetEscape
mode_of true false = m.RegularSet
mode_of false true = m.RegularEscape
mode_of false false = m.Regular

not_backslash : (b k : ℕ) → (b == k) ≡ true → (k == backslash) ≡ false → (b == backslash) ≡ false
not_backslash b k e n = ap (λ w. w == backslash) (eqb-true b k e) ∙ n

ends : (in_set flag : Bool) (bs : List ℕ) → is_read (mode_after (mode_of in_set flag) bs) ≡ true → Ends flag bs
unfolding mode_after
ends true true [] e = absurd (true≢false (sym e))
ends true false [] e = absurd (true≢false (sym e))
ends false true [] e = absurd (true≢false (sym e))
ends false false [] e = absurd (true≢false (sym e))
ends true true (b ∷ bs) e = behind_escape b bs (ends true false bs e)
ends false true (b ∷ bs) e = behind_escape b bs (ends false false bs e)
ends true false (b ∷ bs) e =
    (elim (b == close_bracket) as (λ t. (b == close_bracket) ≡ t → is_read (mode_after (cond t m.Regular (cond (b == backslash) m.RegularSetEscape m.RegularSet)) bs) ≡ true → Ends false (b ∷ bs)) [
      | true ↦ λ c h. behind_plain b bs (not_backslash b close_bracket c refl) (ends false false bs h)
      | false ↦ λ c h.
          (elim (b == backslash) as (λ t. (b == backslash) ≡ t → is_read (mode_after (cond t m.RegularSetEscape m.RegularSet) bs) ≡ true → Ends false (b ∷ bs)) [
            | true ↦ λ s g. behind_backslash b bs s (ends true true bs g)
            | false ↦ λ s g. behind_plain b bs s (ends true false bs g)
          ]) refl h
    ]) refl e
ends false false (b ∷ bs) e =
    (elim (b == slash) as (λ t. (b == slash) ≡ t → is_read (mode_after (cond t m.Suffixable (cond (b == backslash) m.RegularEscape (cond (b == open_bracket) m.RegularSet m.Regular))) bs) ≡ true → Ends false (b ∷ bs)) [
      | true ↦ λ c h. subst (λ w. Ends false (w ∷ bs)) (sym (eqb-true b slash c)) (ends_here bs h)
      | false ↦ λ c h.
          (elim (b == backslash) as (λ t. (b == backslash) ≡ t → is_read (mode_after (cond t m.RegularEscape (cond (b == open_bracket) m.RegularSet m.Regular)) bs) ≡ true → Ends false (b ∷ bs)) [
            | true ↦ λ s g. behind_backslash b bs s (ends false true bs g)
            | false ↦ λ s g.
                (elim (b == open_bracket) as (λ t. is_read (mode_after (cond t m.RegularSet m.Regular) bs) ≡ true → Ends false (b ∷ bs)) [
                  | true ↦ λ f. behind_plain b bs s (ends true false bs f)
                  | false ↦ λ f. behind_plain b bs s (ends false false bs f)
                ]) g
          ]) refl h
    ]) refl e

token_ends : (context : Context) (rest bytes : List ℕ) → kind_of context rest (slash ∷ bytes) ≡ Some k.RegularExpression → Ends false bytes
unfolding kind_of
token_ends context rest bytes e = ends false false bytes (read_so (is_read (mode_after m.Regular bytes)) e)
  where
    read_so : (b : Bool) → cond b (Some k.RegularExpression) None ≡ Some k.RegularExpression → b ≡ true
    read_so true e = refl
    read_so false e = no_kind k.RegularExpression e

-- ---- what stands in the token

abbrev text_of : List ℕ → Bool → List ℕ
text_of between folds = slash ∷ between ++ slash ∷ cond folds (letter_i ∷ []) []

ignores : (between : List ℕ) (folds : Bool) → ignores_case (text_of between folds) ≡ folds
ignores between true =
    let n : length (text_of between true) - 1 ≡ length (slash ∷ between ++ slash ∷ []) = omega (arith, length-append between (slash ∷ letter_i ∷ []), length-append between (slash ∷ [])) in
    ap (λ i. slice_index (text_of between true) i == 105) n
    ∙ ap (λ w. get_or w (length (slash ∷ between ++ slash ∷ [])) 0 == 105) (ap (λ w. slash ∷ w) (sym (append_assoc between (slash ∷ []) (letter_i ∷ []))))
    ∙ ap (λ c. c == 105) (get_or-append_seam (slash ∷ between ++ slash ∷ []) letter_i [] 0)
ignores between false =
    let n : length (text_of between false) - 1 ≡ length (slash ∷ between) = omega (arith, length-append between (slash ∷ [])) in
    ap (λ i. slice_index (text_of between false) i == 105) n ∙ ap (λ c. c == 105) (get_or-append_seam (slash ∷ between) slash [] 0)

within_is : (between : List ℕ) (folds : Bool) → characters_within (text_of between folds) ≡ characters false between
within_is between folds =
    ap (λ t. characters false (take (length (text_of between folds) - cond t 3 2) (between ++ slash ∷ cond folds (letter_i ∷ []) []))) (ignores between folds)
    ∙ ap (λ n. characters false (take n (between ++ slash ∷ cond folds (letter_i ∷ []) []))) (count folds)
    ∙ ap (characters false) (take-append_seam between (slash ∷ cond folds (letter_i ∷ []) []))
  where
    count : (t : Bool) → length (text_of between t) - cond t 3 2 ≡ length between
    count true = omega (arith, length-append between (slash ∷ letter_i ∷ []))
    count false = omega (arith, length-append between (slash ∷ []))

pub regulars_are_read : RegularsAreRead
regulars_are_read context rest bytes e items folds w =
    let t = token_ends context rest bytes e in
    let same = same_parts w.between (characters false t.between) folds t.folds (sym w.written ∙ opened bytes ∙ ap (λ z. plain slash ∷ z) t.reads) in (
      ap (λ z. regular_items (characters_within (slash ∷ z))) t.written ∙ ap regular_items (within_is t.between t.folds) ∙ ap regular_items (sym same.0) ∙ items_are items w.between w.are,
      ap (λ z. ignores_case (slash ∷ z)) t.written ∙ ignores t.between t.folds ∙ sym same.1,
    )
