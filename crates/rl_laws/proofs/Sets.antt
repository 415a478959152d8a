-- Sets as they are written, and their forms.
use Rattle.std.proofs.Common.{◌≡◌, ◌≤◌, ◌-◌, ℕ, Bool, true, false, cond, ◌||◌, List, [], ◌∷◌, ◌++◌, ◌⊎◌, inl, inr, length, take, drop}
use Rattle.std.proofs.Common.{refl, sym, ◌∙◌, ap, subst, true≢false, Option, Some, None, arith, length-append}
use Rattle.std.proofs.lemmas.List.{take-append-le, take_all}
use Rattle.std.specs.Prelude.{is_some}
use Rattle.rl_types.specs.declared.faults.FaultKind.{FaultKind}
use Rattle.rl_types.specs.declared.faults.FaultKind.TheVariants.{F1}
use Rattle.rl_grammar.specs.declared.token.TokenKind.{TokenKind}
use Rattle.rl_grammar.specs.declared.token.TokenKind.TheVariants as k
use Rattle.rl_grammar.specs.Literals.{inside}
use Rattle.rl_lexical.specs.declared.context.Context.{Context}
use Rattle.rl_lexical.specs.declared.context.Form.{Form}
use Rattle.rl_lexical.specs.declared.context.Form.TheVariants as o
use Rattle.rl_lexical.specs.declared.mode.Mode.TheVariants as m
use Rattle.rl_lexical.specs.Bytes.{dash, open_bracket, close_bracket, caret}
use Rattle.rl_lexical.specs.Forms.{form_after, is_set_form}
use Rattle.rl_lexical.specs.Modes.{mode_after, is_read}
use Rattle.rl_lexical.specs.Fronts.{kind_of}
use Rattle.rl_leaves.specs.declared.text.Character.{Character}
use Rattle.rl_leaves.specs.declared.character_set.Span.{Span}
use Rattle.rl_leaves.specs.declared.character_set.CharacterSet.{CharacterSet}
use Rattle.rl_leaves.specs.Cuts.{cut, cut_within}
use Rattle.rl_leaves.specs.Texts.{characters, is_plain, begins_with}
use Rattle.rl_leaves.specs.CharacterSets.{upper_end, span_to, behind_span, spans, set_of}
use Rattle.rl_leaves.proofs.SetLaws.{spans_more}
use Rattle.rl_laws.specs.Written.{plain, AreWritten, IsMember, IsSpan, IsBody, IsSet, OneSet, SetsAreTold, SetsAreRead, IsSetToken}
use Rattle.rl_laws.proofs.Forms.{over, read_over, wrong, plain_is, member_item, member_character, member_range, start_is_item, has_close, Ends, ends}

abbrev pub AreSpans : List Span → List Character → Type 0
AreSpans ss cs = AreWritten IsSpan ss cs

abbrev pub close : Character
close = plain close_bracket

alone : (x : Character) → IsMember x → (ss : List Span) (cs : List Character) → AreSpans ss cs
    → AreSpans (record { lower = x.byte; upper = x.byte } ∷ ss) (x ∷ cs)
alone x w ss cs r = (x ∷ [], cs, refl, inl (record { character = x; written = refl; member = w; says = refl }), r)

from_to : (x y : Character) → IsMember x → IsMember y → (ss : List Span) (cs : List Character) → AreSpans ss cs
    → AreSpans (record { lower = x.byte; upper = y.byte } ∷ ss) (x ∷ plain dash ∷ y ∷ cs)
from_to x y w v ss cs r =
    (x ∷ plain dash ∷ y ∷ [], cs, refl, inr (record { lower = x; upper = y; written = refl; lower_member = w; upper_member = v; says = refl }), r)

-- ---- which character it is

sorted : (c : Character) → (c ≡ close) ⊎ ((c ≡ plain dash) ⊎ IsMember c)
sorted c =
    (elim (is_plain close_bracket c) as (λ t. is_plain close_bracket c ≡ t → (c ≡ close) ⊎ ((c ≡ plain dash) ⊎ IsMember c)) [
      | true ↦ λ e. inl (plain_is close_bracket c e)
      | false ↦ λ e. inr ((elim (is_plain dash c) as (λ t. is_plain dash c ≡ t → (c ≡ plain dash) ⊎ IsMember c) [
        | true ↦ λ f. inl (plain_is dash c f)
        | false ↦ λ f. inr (record { not_dash = f; not_close = e })
      ]) refl)
    ]) refl

-- ---- from the form to what is written

-- a test of forms that no form within a set passes
pub record IsOutside (good : Form → Bool) : Type 0 where
  pub start : good o.SetStart ≡ false
  pub item : good o.SetItem ≡ false
  pub character : good o.SetCharacter ≡ false
  pub range : good o.SetRange ≡ false
  pub wrong : good o.Wrong ≡ false

-- the characters up to a `]`, and what is behind it
pub record Reaches (good : Form → Bool) (Says : List Character → Type 0) (cs : List Character) : Type 0 where
  pub between : List Character
  pub rest : List Character
  pub written : cs ≡ between ++ close ∷ rest
  pub says : Says between
  pub behind : good (over o.Repeated rest) ≡ true

abbrev SomeSpans : List Character → Type 0
SomeSpans cs = (ss : List Span) × AreSpans ss cs

module _ (good : Form → Bool) (out : IsOutside good) where
  never : {P : Type 0} (f : Form) → good f ≡ false → good f ≡ true → P
  never f e h = absurd (true≢false (sym h ∙ e))

  never_wrong : {P : Type 0} (cs : List Character) → good (over o.Wrong cs) ≡ true → P
  never_wrong cs h = never o.Wrong out.wrong (ap good (sym (wrong cs)) ∙ h)

  abbrev Items : List Character → Type 0
  Items cs = good (over o.SetItem cs) ≡ true → Reaches good SomeSpans cs

  abbrev Behind : Character → List Character → Type 0
  Behind x cs = good (over o.SetCharacter cs) ≡ true → Reaches good (λ between. SomeSpans (x ∷ between)) cs

  at_item : (c : Character) (cs : List Character) → (IsMember c → Behind c cs) → Items (c ∷ cs)
  at_item c cs later h =
      let s : (c ≡ close) ⊎ ((c ≡ plain dash) ⊎ IsMember c) = sorted c in
      elim s [
        | inl e ↦ record { between = []; rest = cs; written = ap (λ w. w ∷ cs) e; says = ([], refl); behind = subst (λ w. good (over o.SetItem (w ∷ cs)) ≡ true) e h }
        | inr r ↦ elim r [
          | inl e ↦ never_wrong cs (subst (λ w. good (over o.SetItem (w ∷ cs)) ≡ true) e h)
          | inr w ↦
              let t = later w (subst (λ f. good (over f cs) ≡ true) (member_item c w) h) in
              record { between = c ∷ t.between; rest = t.rest; written = ap (λ v. c ∷ v) t.written; says = t.says; behind = t.behind }
        ]
      ]

  at_range : (x y : Character) (cs : List Character) → IsMember x → Items cs → good (over o.SetRange (y ∷ cs)) ≡ true
      → Reaches good (λ between. SomeSpans (x ∷ between)) (plain dash ∷ y ∷ cs)
  at_range x y cs v later h =
      let s : (y ≡ close) ⊎ ((y ≡ plain dash) ⊎ IsMember y) = sorted y in
      elim s [
        | inl e ↦ never_wrong cs (subst (λ w. good (over o.SetRange (w ∷ cs)) ≡ true) e h)
        | inr r ↦ elim r [
          | inl e ↦ never_wrong cs (subst (λ w. good (over o.SetRange (w ∷ cs)) ≡ true) e h)
          | inr w ↦
              let t = later (subst (λ f. good (over f cs) ≡ true) (member_range y w) h) in
              record {
                between = plain dash ∷ y ∷ t.between;
                rest = t.rest;
                written = ap (λ u. plain dash ∷ y ∷ u) t.written;
                says = (record { lower = x.byte; upper = y.byte } ∷ t.says.0, from_to x y v w t.says.0 t.between t.says.1);
                behind = t.behind;
              }
        ]
      ]

  at_character : (x c : Character) (cs : List Character) → IsMember x → (good (over o.SetRange cs) ≡ true → Reaches good (λ between. SomeSpans (x ∷ between)) (plain dash ∷ cs))
      → (IsMember c → Behind c cs) → Behind x (c ∷ cs)
  at_character x c cs v range later h =
      let s : (c ≡ close) ⊎ ((c ≡ plain dash) ⊎ IsMember c) = sorted c in
      elim s [
        | inl e ↦ record {
          between = [];
          rest = cs;
          written = ap (λ w. w ∷ cs) e;
          says = (record { lower = x.byte; upper = x.byte } ∷ [], alone x v [] [] refl);
          behind = subst (λ w. good (over o.SetCharacter (w ∷ cs)) ≡ true) e h;
        }
        | inr r ↦ elim r [
          | inl e ↦ subst (λ w. Reaches good (λ between. SomeSpans (x ∷ between)) (w ∷ cs)) (sym e) (range (subst (λ w. good (over o.SetCharacter (w ∷ cs)) ≡ true) e h))
          | inr w ↦
              let t = later w (subst (λ f. good (over f cs) ≡ true) (member_character c w) h) in
              record {
                between = c ∷ t.between;
                rest = t.rest;
                written = ap (λ u. c ∷ u) t.written;
                says = (record { lower = x.byte; upper = x.byte } ∷ t.says.0, alone x v t.says.0 (c ∷ t.between) t.says.1);
                behind = t.behind;
              }
        ]
      ]

  -- both at once: `None` where an item may begin, and else the character that was read
  abbrev Reads : Option Character → List Character → Type 0
  Reads None cs = Items cs
  Reads (Some x) cs = IsMember x → Behind x cs

  reads : (before : Option Character) (cs : List Character) → Reads before cs
  reads None [] = λ h. never o.SetItem out.item h
  reads (Some x) [] = λ v h. never o.SetCharacter out.character h
  reads None (c ∷ cs) = at_item c cs (reads (Some c) cs)
  reads (Some x) (c ∷ []) = λ v. at_character x c [] v (λ h. never o.SetRange out.range h) (reads (Some c) [])
  reads (Some x) (c ∷ y ∷ cs) = λ v. at_character x c (y ∷ cs) v (at_range x y cs v (reads None cs)) (reads (Some c) (y ∷ cs))

  negated : (cs : List Character) → Items cs → good (over o.SetItem cs) ≡ true → Reaches good (λ between. (set : CharacterSet) × IsBody set between) (plain caret ∷ cs)
  negated cs later h =
      let t = later h in
      record {
        between = plain caret ∷ t.between;
        rest = t.rest;
        written = ap (λ u. plain caret ∷ u) t.written;
        says = (record { is_negated = true; spans = t.says.0 }, inl (record { spelled = t.between; written = refl; spans = t.says.1; negated = refl }));
        behind = t.behind;
      }

  front_of : (c : Character) (cs between rest : List Character) → is_plain caret c ≡ false → c ∷ cs ≡ between ++ close ∷ rest → begins_with caret between ≡ false
  front_of c cs [] rest n e = refl
  front_of c cs (d ∷ between) rest n e = ap (begins_with caret) (sym e) ∙ n

  positive : (c : Character) (cs : List Character) → is_plain caret c ≡ false → Items (c ∷ cs) → good (over o.SetItem (c ∷ cs)) ≡ true
      → Reaches good (λ between. (set : CharacterSet) × IsBody set between) (c ∷ cs)
  positive c cs n later h =
      let t = later h in
      record {
        between = t.between;
        rest = t.rest;
        written = t.written;
        says = (record { is_negated = false; spans = t.says.0 }, inr (record { front = front_of c cs t.between t.rest n t.written; spans = t.says.1; negated = refl }));
        behind = t.behind;
      }

  -- what a set is read from
  pub set_reads : (cs : List Character) → good (over o.SetStart cs) ≡ true → Reaches good (λ between. (set : CharacterSet) × IsBody set between) cs
  set_reads [] h = never o.SetStart out.start h
  set_reads (c ∷ cs) h =
      (elim (is_plain caret c) as (λ t. is_plain caret c ≡ t → Reaches good (λ between. (set : CharacterSet) × IsBody set between) (c ∷ cs)) [
        | true ↦ λ e.
            let is : c ≡ plain caret = plain_is caret c e in
            subst (λ w. Reaches good (λ between. (set : CharacterSet) × IsBody set between) (w ∷ cs)) (sym is)
            (negated cs (reads None cs) (subst (λ w. good (over o.SetStart (w ∷ cs)) ≡ true) is h))
        | false ↦ λ e. positive c cs e (reads None (c ∷ cs)) (subst (λ f. good (over f cs) ≡ true) (start_is_item c e) h)
      ]) refl

-- ---- from what is written to the form

-- what is behind spans and a `]`, where an item or the end of a range may stand
record Passes (cs rest : List Character) : Type 0 where
  item : over o.SetItem (cs ++ close ∷ rest) ≡ over o.Repeated rest
  character : over o.SetCharacter (cs ++ close ∷ rest) ≡ over o.Repeated rest

spans_pass : (ss : List Span) (cs rest : List Character) → AreSpans ss cs → Passes cs rest
spans_pass [] cs rest e = subst (λ w. Passes w rest) (sym e) (record { item = refl; character = refl })
spans_pass (s ∷ ss) cs rest (front, back, e, says, more) =
    subst (λ w. Passes w rest) (sym e) (elim says [
      | inl one ↦
          let later = spans_pass ss back rest more in
          subst (λ w. Passes (w ++ back) rest) (sym one.written) (record {
            item = ap (λ f. over f (back ++ close ∷ rest)) (member_item one.character one.member) ∙ later.character;
            character = ap (λ f. over f (back ++ close ∷ rest)) (member_character one.character one.member) ∙ later.character;
          })
      | inr two ↦
          let later = spans_pass ss back rest more in
          let tail : over o.SetRange (two.upper ∷ back ++ close ∷ rest) ≡ over o.Repeated rest =
          ap (λ f. over f (back ++ close ∷ rest)) (member_range two.upper two.upper_member) ∙ later.item in
          subst (λ w. Passes (w ++ back) rest) (sym two.written) (record {
            item = ap (λ f. over f (plain dash ∷ two.upper ∷ back ++ close ∷ rest)) (member_item two.lower two.lower_member) ∙ tail;
            character = ap (λ f. over f (plain dash ∷ two.upper ∷ back ++ close ∷ rest)) (member_character two.lower two.lower_member) ∙ tail;
          })
    ])

starts : (cs rest : List Character) → begins_with caret cs ≡ false → over o.SetStart (cs ++ close ∷ rest) ≡ over o.SetItem (cs ++ close ∷ rest)
starts [] rest n = refl
starts (c ∷ cs) rest n = ap (λ f. over f (cs ++ close ∷ rest)) (start_is_item c n)

pub set_passes : (set : CharacterSet) (cs rest : List Character) → IsBody set cs → over o.SetStart (cs ++ close ∷ rest) ≡ over o.Repeated rest
set_passes set cs rest (inl n) =
    ap (λ w. over o.SetStart (w ++ close ∷ rest)) n.written ∙ (spans_pass set.spans n.spelled rest n.spans).item
set_passes set cs rest (inr p) = starts cs rest p.front ∙ (spans_pass set.spans cs rest p.spans).item

-- ---- one value

no_upper : (x : Character) (cs : List Character) → is_plain dash x ≡ false → upper_end (x ∷ cs) ≡ None
no_upper x [] n = refl
no_upper x (y ∷ cs) n = ap (λ t. cond t (Some y) None) n

no_range : (ss : List Span) (cs : List Character) → AreSpans ss cs → upper_end cs ≡ None
no_range [] cs e = ap upper_end e
no_range (s ∷ ss) cs (front, back, e, says, more) =
    ap upper_end e ∙ elim says [
      | inl one ↦ ap (λ w. upper_end (w ++ back)) one.written ∙ no_upper one.character back one.member.not_dash
      | inr two ↦ ap (λ w. upper_end (w ++ back)) two.written ∙ no_upper two.lower (plain dash ∷ two.upper ∷ back) two.lower_member.not_dash
    ]

spans_none : spans [] ≡ []
unfolding cut cut_within
spans_none = refl

pub spans_are : (ss : List Span) (cs : List Character) → AreSpans ss cs → spans cs ≡ ss
spans_are [] cs e = ap spans e ∙ spans_none
spans_are (s ∷ ss) cs (front, back, e, says, more) =
    ap spans e ∙ elim says [
      | inl one ↦
          ap (λ w. spans (w ++ back)) one.written ∙ spans_more one.character back
          ∙ (λ i. span_to one.character (no_range ss back more i) ∷ spans (behind_none back (no_range ss back more) i))
          ∙ (λ i. one.says i ∷ spans_are ss back more i)
      | inr two ↦
          ap (λ w. spans (w ++ back)) two.written ∙ spans_more two.lower (plain dash ∷ two.upper ∷ back)
          ∙ (λ i. two.says i ∷ spans_are ss back more i)
    ]
  where
    behind_none : (cs : List Character) → upper_end cs ≡ None → behind_span cs ≡ cs
    behind_none cs e = ap (λ u. cond (is_some u) (drop 2 cs) cs) e

pub body_is : (set : CharacterSet) (cs : List Character) → IsBody set cs → set_of cs ≡ set
body_is set cs (inl n) =
    ap set_of n.written ∙ λ i. record { is_negated = sym n.negated i; spans = spans_are set.spans n.spelled n.spans i }
body_is set cs (inr p) =
    λ i. record { is_negated = (p.front ∙ sym p.negated) i; spans = (ap (λ t. spans (cond t (drop 1 cs) cs)) p.front ∙ spans_are set.spans cs p.spans) i }

abbrev pub tail_of : List Character → List Character
tail_of [] = []
tail_of (c ∷ cs) = cs

abbrev pub head_or : Character → List Character → Character
head_or d [] = d
head_or d (c ∷ cs) = c

abbrev pub without_last : List Character → List Character
without_last [] = []
without_last (c ∷ []) = []
without_last (c ∷ d ∷ cs) = c ∷ without_last (d ∷ cs)

pub last_gone : (cs : List Character) (c : Character) → without_last (cs ++ c ∷ []) ≡ cs
last_gone [] c = refl
last_gone (x ∷ []) c = refl
last_gone (x ∷ y ∷ cs) c = ap (λ w. x ∷ w) (last_gone (y ∷ cs) c)

abbrev middle : List Character → List Character
middle cs = without_last (tail_of cs)

middle_is : (cs between : List Character) → cs ≡ plain open_bracket ∷ between ++ close ∷ [] → middle cs ≡ between
middle_is cs between e = ap middle e ∙ last_gone between close

set_is : (set : CharacterSet) (cs : List Character) → IsSet set cs → set_of (middle cs) ≡ set
set_is set cs s = ap set_of (middle_is cs s.between s.written) ∙ body_is set s.between s.body

pub one_set : OneSet
one_set text s t a b = sym (set_is s (characters false text) a) ∙ set_is t (characters false text) b

-- ---- tokens

pub no_kind : {P : Type 0} (kind : TokenKind) → None ≡ Some kind → P
no_kind kind e = absurd (subst (λ (x : Option TokenKind). elim x as (λ _. Type 0) [ None ↦ Unit {0} | Some y ↦ ⊥ ]) e tt)

token_ends : (context : Context) (rest bytes : List ℕ) → IsSetToken context rest bytes → Ends false bytes
unfolding kind_of
token_ends context rest bytes e = ends false bytes (read_so (is_read (mode_after m.Set bytes)) e)
  where
    read_so : (b : Bool) → cond b (Some k.Set) None ≡ Some k.Set → b ≡ true
    read_so true e = refl
    read_so false e = no_kind k.Set e

abbrev is_none : List Character → Bool
is_none [] = true
is_none (c ∷ cs) = false

never_none : {P : Type 0} (xs : List Character) (c : Character) (rest : List Character) → xs ++ c ∷ rest ≡ [] → P
never_none [] c rest e = absurd (true≢false (sym (ap is_none e)))
never_none (x ∷ xs) c rest e = absurd (true≢false (sym (ap is_none e)))

or_false : (a b : Bool) → (a || b) ≡ false → (a ≡ false) × (b ≡ false)
or_false true b e = absurd (true≢false e)
or_false false b e = (refl, e)

-- the first `]` is the last character
same_close : (xs ys rest : List Character) → has_close ys ≡ false → xs ++ close ∷ rest ≡ ys ++ close ∷ [] → (xs ≡ ys) × (rest ≡ [])
same_close [] [] rest n e = (refl, ap tail_of e)
same_close [] (y ∷ ys) rest n e =
    absurd (true≢false (ap (λ w. is_plain close_bracket (head_or y w)) e ∙ (or_false (is_plain close_bracket y) (has_close ys) n).0))
same_close (x ∷ xs) [] rest n e = never_none xs close rest (ap tail_of e)
same_close (x ∷ xs) (y ∷ ys) rest n e =
    let more = same_close xs ys rest (or_false (is_plain close_bracket y) (has_close ys) n).1 (ap tail_of e) in
    (λ i. head_or x (e i) ∷ more.0 i, more.1)

set_forms : IsOutside is_set_form
set_forms = record { start = refl; item = refl; character = refl; range = refl; wrong = refl }

pub good_so : (b : Bool) → cond b None (Some F1) ≡ None → b ≡ true
good_so true e = refl
good_so false e = absurd (subst (λ (x : Option FaultKind). elim x as (λ _. Type 0) [ None ↦ ⊥ | Some y ↦ Unit {0} ]) e tt)

opened : (bytes : List ℕ) → characters false (open_bracket ∷ bytes) ≡ plain open_bracket ∷ characters false bytes
unfolding characters
opened bytes = refl

told_to : (bytes : List ℕ) → Ends false bytes → is_set_form (form_after o.SetStart bytes) ≡ true
    → (set : CharacterSet) × IsSet set (characters false (open_bracket ∷ bytes))
told_to bytes t h =
    let r = set_reads is_set_form set_forms (characters false bytes) (ap is_set_form (sym (read_over false o.SetStart bytes)) ∙ h) in
    let last = (same_close r.between (characters false t.between) r.rest t.none (sym r.written ∙ t.reads)).1 in (
      r.says.0,
      record {
        between = r.between;
        written = opened bytes ∙ ap (λ w. plain open_bracket ∷ w) (r.written ∙ ap (λ w. r.between ++ close ∷ w) last);
        body = r.says.1;
      },
    )

inner : (bytes : List ℕ) (set : CharacterSet) (w : IsSet set (characters false (open_bracket ∷ bytes))) → characters false bytes ≡ w.between ++ close ∷ []
inner bytes set w = ap tail_of (sym (opened bytes) ∙ w.written)

told_from : (bytes : List ℕ) (set : CharacterSet) → IsSet set (characters false (open_bracket ∷ bytes)) → is_set_form (form_after o.SetStart bytes) ≡ true
told_from bytes set w =
    ap is_set_form (read_over false o.SetStart bytes ∙ ap (over o.SetStart) (inner bytes set w) ∙ set_passes set w.between [] w.body)

pub sets_are_told : SetsAreTold
sets_are_told context rest bytes e = (
  λ f. told_to bytes (token_ends context rest bytes e) (good_so (is_set_form (form_after o.SetStart bytes)) f),
  λ s. ap (λ t. cond t None (Some F1)) (told_from bytes s.0 s.1),
)

inside_is : (xs : List ℕ) → inside (open_bracket ∷ xs ++ close_bracket ∷ []) ≡ xs
inside_is xs =
    let n : length (open_bracket ∷ xs ++ close_bracket ∷ []) - 2 ≡ length xs = omega (arith, length-append xs (close_bracket ∷ [])) in
    let le : length xs ≤ length xs = omega arith in
    ap (λ m. take m (xs ++ close_bracket ∷ [])) n ∙ take-append-le (length xs) xs (close_bracket ∷ []) le ∙ take_all (length xs) xs le

pub sets_are_read : SetsAreRead
sets_are_read context rest bytes e set w =
    let t = token_ends context rest bytes e in
    let same = (same_close w.between (characters false t.between) [] t.none (sym (inner bytes set w) ∙ t.reads)).0 in
    ap (λ z. set_of (characters false (inside (open_bracket ∷ z)))) t.written
    ∙ ap (λ z. set_of (characters false z)) (inside_is t.between)
    ∙ ap set_of (sym same) ∙ body_is set w.between w.body
