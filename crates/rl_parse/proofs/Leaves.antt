-- Single tokens: each is a part of the grammar with its reader.
use Rattle.std.proofs.Common.{◌≡◌, ℕ, Bool, true, false, List, [], Option, Some, None, inl, inr, refl, sym, ap, ◌∙◌, subst, codes, bytes_eq}
use Rattle.std.specs.Prelude.{◌&&◌, ◌||◌, not}
use Rattle.std.proofs.lemmas.Bool.{and_parts, and_from, or_cases}
use Rattle.std.proofs.lemmas.Slice.Eq.{bytes_eq-Decides}
use Rattle.rl_readers.specs.Readers.{one}
use Rattle.rl_readers.proofs.Phrases as ph
use Rattle.rl_readers.proofs.Good as g
use Rattle.rl_types.specs.declared.numbers.Place.{Place}
use Rattle.rl_grammar.specs.Grammar.{is_variable}
use Rattle.rl_grammar.specs.Lexeme.{Lexeme, lexeme, carried, same_kind}
use Rattle.rl_grammar.specs.Literals.{characters, is_character}
use Rattle.rl_grammar.specs.declared.syntax.Word.{Word}
use Rattle.rl_grammar.specs.declared.token.Token.{Token}
use Rattle.rl_grammar.specs.declared.token.TokenKind.{TokenKind}
use Rattle.rl_grammar.specs.declared.token.TokenKind.TheVariants as k
use Rattle.rl_parse.specs.Classes.{Class, class_of, tokens}
use Rattle.rl_parse.specs.Rules as r
use Rattle.rl_parse.specs.Rules.{by_kind}
use Rattle.rl_parse.proofs.AllKinds.{kinds_same, kind_itself, excluded, all_kinds, implies, kind_implied}
use Rattle.rl_parse.proofs.Nodes.{Part, Good, is_end, by, is, always}

abbrev some_place : Place
some_place = record { file = 0; line = 1; col = 1 }

abbrev pub some_token : TokenKind → List ℕ → Token
some_token kind text = record { kind = kind; text = text; from = 0; place = some_place }

abbrev Leaf : {A : Type 0} → (Token → Bool) → (Token → A) → (A → Lexeme) → (A → Bool) → (Class → Bool) → Type 0
Leaf test get leaf fits begins = ph.Leaf tokens test get leaf fits begins

abbrev pub single : {A : Type 0} → (Token → A) → (A → Lexeme) → (A → Bool) → (Class → Bool) → Token → Part A
single get leaf fits begins token = ph.single tokens get leaf fits begins token

-- a token whose kind is known
seen_at : (t : Token) (kind : TokenKind) (text : List ℕ) → t.kind ≡ kind → carried kind t.text ≡ text → lexeme t ≡ record { kind = kind; text = text; place = t.place }
seen_at t kind text is told =
    ap (λ z. record { kind = z; text = carried z t.text; place = t.place }) is ∙ ap (λ z. record { kind = kind; text = z; place = t.place }) told

kind_seen : (t : Token) (l : Lexeme) → lexeme t ≡ l → t.kind ≡ l.kind
kind_seen t l e = ap (λ z. z.kind) e

place_seen : (t : Token) (l : Lexeme) → lexeme t ≡ l → t.place ≡ l.place
place_seen t l e = ap (λ z. z.place) e

text_seen : (t : Token) (l : Lexeme) → lexeme t ≡ l → carried t.kind t.text ≡ l.text
text_seen t l e = ap (λ z. z.text) e

abbrev make : List ℕ → Place → Word
make text place = record { text = text; place = place }

-- a token that stands for its text
word_seen : (t : Token) (kind : TokenKind) (w : Word) → ((text : List ℕ) → carried kind text ≡ text) → lexeme t ≡ record { kind = kind; text = w.text; place = w.place } → r.word_of t ≡ w
word_seen t kind w full e =
    let is : t.kind ≡ kind = kind_seen t (record { kind = kind; text = w.text; place = w.place }) e in
    let told : carried t.kind t.text ≡ w.text = text_seen t (record { kind = kind; text = w.text; place = w.place }) e in
    let at : t.place ≡ w.place = place_seen t (record { kind = kind; text = w.text; place = w.place }) e in
    let here : t.text ≡ w.text = sym (full t.text) ∙ (ap (λ z. carried z t.text) (sym is) ∙ told) in
    ap (λ z. make z t.place) here ∙ ap (λ z. make w.text z) at

-- ---- by its kind

abbrev mark_leaf : TokenKind → Place → Lexeme
mark_leaf kind place = record { kind = kind; text = []; place = place }

abbrev pub place_part : TokenKind → Part Place
place_part kind = single r.place_of (mark_leaf kind) always (is kind) (some_token kind [])

pub place_leaf : (kind : TokenKind) → ((text : List ℕ) → carried kind text ≡ []) → Leaf (r.is kind) r.place_of (mark_leaf kind) always (is kind)
place_leaf kind bare = record {
  gives = λ t h. seen_at t kind [] (kinds_same t.kind kind h) (bare t.text);
  belongs = λ t h. refl;
  back = λ t a e h. place_seen t (mark_leaf kind a) e;
  taken = λ t a e h. ap (λ z. same_kind z kind) (kind_seen t (mark_leaf kind a) e) ∙ kind_itself kind;
  starts = λ a h. kind_itself kind;
}

never_end : (kind : TokenKind) → same_kind kind k.End ≡ false → (c : Class) → is kind c ≡ true → is_end c ≡ false
never_end kind other c h = ap (λ z. same_kind z k.End) (kinds_same c.kind kind h) ∙ other

pub good_place : (kind : TokenKind) → ((text : List ℕ) → carried kind text ≡ []) → same_kind kind k.End ≡ false → (d e : ℕ) → Good (place_part kind) d e (r.place kind) (r.place kind)
good_place kind bare other d e =
    g.good_single (r.is kind) r.place_of (mark_leaf kind) always (is kind) (some_token kind []) (place_leaf kind bare) (kind_itself kind) (never_end kind other) d e

abbrev word_leaf : TokenKind → Word → Lexeme
word_leaf kind w = record { kind = kind; text = w.text; place = w.place }

-- the text is one that such a token may have
abbrev pub word_part : TokenKind → List ℕ → Part Word
word_part kind text = single r.word_of (word_leaf kind) always (is kind) (some_token kind text)

word_is_leaf : (kind : TokenKind) → ((text : List ℕ) → carried kind text ≡ text) → Leaf (r.is kind) r.word_of (word_leaf kind) always (is kind)
word_is_leaf kind full = record {
  gives = λ t h. seen_at t kind t.text (kinds_same t.kind kind h) (full t.text);
  belongs = λ t h. refl;
  back = λ t a e h. word_seen t kind a full e;
  taken = λ t a e h. ap (λ z. same_kind z kind) (kind_seen t (word_leaf kind a) e) ∙ kind_itself kind;
  starts = λ a h. kind_itself kind;
}

pub good_word : (kind : TokenKind) (text : List ℕ) → ((text : List ℕ) → carried kind text ≡ text) → same_kind kind k.End ≡ false → (d e : ℕ) → Good (word_part kind text) d e (r.word kind) (r.word kind)
good_word kind text full other d e =
    g.good_single (r.is kind) r.word_of (word_leaf kind) always (is kind) (some_token kind text) (word_is_leaf kind full) (kind_itself kind) (never_end kind other) d e

-- ---- by its kind and its text

-- a token of a kind that stands for its text, where the text passes a test
module _ (kind : TokenKind) (full : (text : List ℕ) → carried kind text ≡ text) (test : List ℕ → Bool) where
  abbrev pub passes : Token → Bool
  passes t = same_kind t.kind kind && test (carried t.kind t.text)

  told : (t : Token) → passes t ≡ true → (t.kind ≡ kind) × (carried t.kind t.text ≡ t.text) × (test t.text ≡ true)
  told t h =
      let hs = and_parts (same_kind t.kind kind) (test (carried t.kind t.text)) h in
      let here : t.kind ≡ kind = kinds_same t.kind kind hs.0 in
      let text : carried t.kind t.text ≡ t.text = ap (λ z. carried z t.text) here ∙ full t.text in
      (here, text, ap test (sym text) ∙ hs.1)

  seen_so : (t : Token) (l : Lexeme) → lexeme t ≡ l → l.kind ≡ kind → test l.text ≡ true → passes t ≡ true
  seen_so t l e is h =
      let here : t.kind ≡ kind = kind_seen t l e ∙ is in
      let one : same_kind t.kind kind ≡ true = ap (λ z. same_kind z kind) here ∙ kind_itself kind in
      let two : test (carried t.kind t.text) ≡ true = ap test (text_seen t l e) ∙ h in
      and_from (same_kind t.kind kind) (test (carried t.kind t.text)) one two

  pub text_leaf : (begins : Class → Bool) → ((w : Word) → test w.text ≡ true → begins (class_of (word_leaf kind w)) ≡ true) → Leaf passes r.word_of (word_leaf kind) (λ w. test w.text) begins
  text_leaf begins starts = record {
    gives = λ t h. seen_at t kind t.text (told t h).0 (full t.text);
    belongs = λ t h. (told t h).2;
    back = λ t a e h. word_seen t kind a full e;
    taken = λ t a e h. seen_so t (word_leaf kind a) e refl h;
    starts = starts;
  }

abbrev pub character_begins : Class → Bool
character_begins c = same_kind c.kind k.Literal && c.key

abbrev pub character_part : Part Word
character_part = single r.word_of (word_leaf k.Literal) (λ w. is_character w.text) character_begins (some_token k.Literal (codes "'a'"))

pub good_character : (d e : ℕ) → Good character_part d e r.character r.character
unfolding same_kind characters
good_character d e =
    g.good_single r.is_key r.word_of (word_leaf k.Literal) (λ w. is_character w.text) character_begins (some_token k.Literal (codes "'a'"))
    (text_leaf k.Literal (λ text. refl) is_character character_begins (λ w h. h)) refl (excluded character_begins is_end refl) d e

abbrev pub plain_begins : Class → Bool
plain_begins c = same_kind c.kind k.Literal && not c.key

abbrev pub plain_part : Part Word
plain_part = single r.word_of (word_leaf k.Literal) (λ w. not (is_character w.text)) plain_begins (some_token k.Literal (codes "''"))

pub good_plain : (d e : ℕ) → Good plain_part d e r.plain_literal r.plain_literal
unfolding same_kind characters
good_plain d e =
    g.good_single r.is_plain r.word_of (word_leaf k.Literal) (λ w. not (is_character w.text)) plain_begins (some_token k.Literal (codes "''"))
    (text_leaf k.Literal (λ text. refl) (λ text. not (is_character text)) plain_begins (λ w h. h)) refl (excluded plain_begins is_end refl) d e

abbrev pub variable_name_part : Part Word
variable_name_part = single r.word_of (word_leaf k.Name) (λ w. is_variable w.text) (is k.Name) (some_token k.Name (codes "p"))

pub good_variable_name : (d e : ℕ) → Good variable_name_part d e r.variable_name r.variable_name
unfolding same_kind
good_variable_name d e =
    g.good_single r.is_variable_name r.word_of (word_leaf k.Name) (λ w. is_variable w.text) (is k.Name) (some_token k.Name (codes "p"))
    (text_leaf k.Name (λ text. refl) is_variable (is k.Name) (λ w h. refl)) refl (excluded (is k.Name) is_end refl) d e

-- ---- a word that the grammar quotes

abbrev pub quoted_leaf : List ℕ → Place → Lexeme
quoted_leaf text place = record { kind = k.Name; text = text; place = place }

same_text : (text : List ℕ) → bytes_eq text text ≡ true
same_text text = (bytes_eq-Decides text text).1 refl

pub quoted_seen : (text : List ℕ) (t : Token) → r.is_word text t ≡ true → lexeme t ≡ quoted_leaf text t.place
quoted_seen text t h =
    let hs = told k.Name (λ u. refl) (λ z. bytes_eq z text) t h in
    seen_at t k.Name text hs.0 ((bytes_eq-Decides t.text text).0 hs.2)

quoted_is_leaf : (text : List ℕ) (begins : Class → Bool) → ((a : Place) → begins (class_of (quoted_leaf text a)) ≡ true) → Leaf (r.is_word text) r.place_of (quoted_leaf text) always begins
unfolding same_kind
quoted_is_leaf text begins starts = record {
  gives = quoted_seen text;
  belongs = λ t h. refl;
  back = λ t a e h. place_seen t (quoted_leaf text a) e;
  taken = λ t a e h. seen_so k.Name (λ u. refl) (λ z. bytes_eq z text) t (quoted_leaf text a) e refl (same_text text);
  starts = λ a h. starts a;
}

abbrev pub unsigned_begins : Class → Bool
unsigned_begins c = same_kind c.kind k.Name && c.unsigned

abbrev pub unsigned_part : Part Place
unsigned_part = single r.place_of (quoted_leaf (codes "unsigned")) always unsigned_begins (some_token k.Name (codes "unsigned"))

pub good_unsigned : (d e : ℕ) → Good unsigned_part d e (r.quoted (codes "unsigned")) (r.quoted (codes "unsigned"))
unfolding same_kind
good_unsigned d e =
    g.good_single (r.is_word (codes "unsigned")) r.place_of (quoted_leaf (codes "unsigned")) always unsigned_begins (some_token k.Name (codes "unsigned"))
    (quoted_is_leaf (codes "unsigned") unsigned_begins (λ a. refl)) refl (excluded unsigned_begins is_end refl) d e

-- ---- signs that are told by their kind

-- what holds of some kinds holds of each kind that begins a rule
pub of_four : (P : TokenKind → Type 0) (begins : TokenKind → Bool) (a b c d : TokenKind)
    → all_kinds (implies begins (λ k. same_kind k a || (same_kind k b || (same_kind k c || same_kind k d)))) ≡ true → P a → P b → P c → P d → (kind : TokenKind) → begins kind ≡ true → P kind
of_four P begins a b c d all pa pb pc pd kind h =
    let hit = kind_implied begins (λ k. same_kind k a || (same_kind k b || (same_kind k c || same_kind k d))) all kind h in
    let at : (x : TokenKind) → P x → same_kind kind x ≡ true → P kind = λ x px s. subst P (sym (kinds_same kind x s)) px in
    elim (or_cases (same_kind kind a) (same_kind kind b || (same_kind kind c || same_kind kind d)) hit) [
      | inl s ↦ at a pa s
      | inr o ↦ elim (or_cases (same_kind kind b) (same_kind kind c || same_kind kind d) o) [
        | inl s ↦ at b pb s
        | inr p ↦ elim (or_cases (same_kind kind c) (same_kind kind d) p) [ inl s ↦ at c pc s | inr s ↦ at d pd s ]
      ]
    ]

module _ {A : Type 0} (begins : TokenKind → Bool) (get : TokenKind → Place → A) (leaf : A → Lexeme) where
  -- a sign of a kind is seen as its value spells
  abbrev pub Shows : TokenKind → Type 0
  Shows kind = (text : List ℕ) (place : Place) → record { kind = kind; text = carried kind text; place = place } ≡ leaf (get kind place)

  abbrev pub sign_part : Token → Part A
  sign_part token = single (λ t. get t.kind t.place) leaf always (by begins) token

  pub good_sign : ((kind : TokenKind) → begins kind ≡ true → Shows kind) → ((a : A) → get (leaf a).kind (leaf a).place ≡ a) → ((a : A) → begins (leaf a).kind ≡ true)
      → (token : Token) → begins token.kind ≡ true → ((c : Class) → by begins c ≡ true → is_end c ≡ false) → (d e : ℕ)
      → Good (sign_part token) d e (one (by_kind begins) (λ t. get t.kind t.place)) (one (by_kind begins) (λ t. get t.kind t.place))
  good_sign shows round begun token is apart d e =
      g.good_single (by_kind begins) (λ t. get t.kind t.place) leaf always (by begins) token
      (record {
        gives = λ t h. shows t.kind h t.text t.place;
        belongs = λ t h. refl;
        back = λ t a e h. ap (λ z. get z.kind z.place) e ∙ round a;
        taken = λ t a e h. ap (λ z. begins z.kind) e ∙ begun a;
        starts = λ a h. begun a;
      }) is apart d e

-- ---- tokens that stand for a value

module _ {A : Type 0} (known : Token → Option A) (other : Token → A) (leaf : A → Lexeme) (begins : Class → Bool) where
  value_of : (t : Token) (o : Option A) → known t ≡ o → r.is_known o ≡ true → ((a : A) → known t ≡ Some a → lexeme t ≡ leaf a) → lexeme t ≡ leaf (r.value_or o (other t))
  value_of t None e h gives = cc
  value_of t (Some a) e h gives = gives a e

  pub good_picked : ((t : Token) (a : A) → known t ≡ Some a → lexeme t ≡ leaf a) → ((t : Token) (a : A) → lexeme t ≡ leaf a → known t ≡ Some a) → ((a : A) → begins (class_of (leaf a)) ≡ true)
      → (token : Token) → r.is_known (known token) ≡ true → ((c : Class) → begins c ≡ true → is_end c ≡ false) → (d e : ℕ)
      → Good (single (λ t. r.value_or (known t) (other t)) leaf always begins token) d e (r.picked known other) (r.picked known other)
  good_picked gives back starts token is apart d e =
      g.good_single (λ t. r.is_known (known t)) (λ t. r.value_or (known t) (other t)) leaf always begins token
      (record {
        gives = λ t h. value_of t (known t) refl h (gives t);
        belongs = λ t h. refl;
        back = λ t a e h. ap (λ z. r.value_or z (other t)) (back t a e);
        taken = λ t a e h. ap r.is_known (back t a e);
        starts = λ a h. starts a;
      }) is apart d e
