-- Parts of the grammar of tokens, and how a rule is put together from its parts.
use Rattle.std.proofs.Common.{◌≡◌, ℕ, Bool, true, false, List, Option, ◌⊎◌, refl}
use Rattle.std.specs.Prelude.{◌&&◌}
use Rattle.rl_readers.specs.Readers.{made}
use Rattle.rl_readers.proofs.Phrases as ph
use Rattle.rl_readers.proofs.Good as g
use Rattle.rl_grammar.specs.Grammar.{Text}
use Rattle.rl_grammar.specs.Lexeme.{same_kind}
use Rattle.rl_grammar.specs.declared.token.TokenKind.{TokenKind}
use Rattle.rl_grammar.specs.declared.token.TokenKind.TheVariants as k
use Rattle.rl_parse.specs.Classes.{Class, tokens}
use Rattle.rl_parse.specs.Reading.{Reader}
use Rattle.rl_parse.proofs.AllKinds.{all_classes, implies, implied}

-- a part of the grammar
abbrev pub Part : Type 0 → Type 0
Part A = ph.Phrase tokens A

abbrev pub is_end : Class → Bool
is_end c = same_kind c.kind k.End

-- a part with its reader, at two limits; no part but a block has the end in it
abbrev pub Good : {A : Type 0} → Part A → ℕ → ℕ → Reader A → Reader A → Type 0
Good p d e r o = g.Good tokens is_end p d e r o

abbrev pub Sound : {A : Type 0} → Part A → Type 0
Sound p = ph.Sound tokens p

abbrev pub seq : {A B : Type 0} → Part A → Part B → Part (A × B)
seq p q = ph.seq tokens p q

abbrev pub choice : {A B : Type 0} → Part A → Part B → Part (A ⊎ B)
choice p q = ph.choice tokens p q

abbrev pub maybe : {A : Type 0} → Part A → Part (Option A)
maybe p = ph.maybe tokens p

abbrev pub list_of : {A : Type 0} → Part A → Part (List A)
list_of p = ph.list_of tokens p

-- a test of classes that looks at the kind alone
abbrev pub by : (TokenKind → Bool) → Class → Bool
by test c = test c.kind

abbrev pub is : TokenKind → Class → Bool
is kind c = same_kind c.kind kind

abbrev pub always : {A : Type 0} → A → Bool
always a = true

abbrev pub none : Class → Bool
none c = false

-- a rule: its parts as one value, what a value spells, whether it belongs to the grammar, what begins it and what it may go
-- on with
pub record Shape (A C : Type 0) : Type 0 where
  pub to : A → C
  pub back : C → A
  pub spell : C → Text
  pub fits : C → Bool
  pub begins : Class → Bool
  pub may : Class → Bool

-- the parts and the value are one for one where they belong to the grammar, and say the same
pub record IsNode {A C : Type 0} (s : Shape A C) (p : Part A) : Type 0 where
  pub there : (a : A) → p.fits a ≡ true → s.back (s.to a) ≡ a
  pub again : (c : C) → p.fits (s.back c) ≡ true → s.to (s.back c) ≡ c
  pub texts : (c : C) → s.spell c ≡ p.spell (s.back c)
  pub tests : (c : C) → s.fits c ≡ p.fits (s.back c)
  pub wider : all_classes (implies p.begins s.begins) ≡ true
  pub longer : all_classes (implies p.may s.may) ≡ true

abbrev pub node : {A C : Type 0} → Shape A C → Part A → Part C
node s p = g.rule s.spell s.fits s.begins s.may (ph.viewed tokens s.to s.back p)

pub node_sound : {A C : Type 0} (s : Shape A C) (p : Part A) → IsNode s p → Sound p → Sound (node s p)
node_sound s p n x =
    g.rule_sound s.spell s.fits s.begins s.may (ph.viewed tokens s.to s.back p) n.texts n.tests (implied p.begins s.begins n.wider) (implied p.may s.may n.longer)
    (ph.viewed_sound tokens s.to s.back p n.there n.again x)

pub node_good : {A C : Type 0} (s : Shape A C) (p : Part A) → IsNode s p → (d e : ℕ) {r o : Reader A} → Good p d e r o → Good (node s p) d e (made s.to r) (made s.to o)
node_good s p n d e {r} {o} x =
    g.good_rule s.spell s.fits s.begins s.may (ph.viewed tokens s.to s.back p) n.texts n.tests (implied p.begins s.begins n.wider) (implied p.may s.may n.longer) d e
    (g.good_viewed s.to s.back p n.there n.again d e x)

-- the same part under other words
pub record Words (A : Type 0) : Type 0 where
  pub spell : A → Text
  pub fits : A → Bool
  pub begins : Class → Bool
  pub may : Class → Bool

pub record IsNamed {A : Type 0} (w : Words A) (p : Part A) : Type 0 where
  pub texts : (c : A) → w.spell c ≡ p.spell c
  pub tests : (c : A) → w.fits c ≡ p.fits c
  pub wider : all_classes (implies p.begins w.begins) ≡ true
  pub longer : all_classes (implies p.may w.may) ≡ true

abbrev pub named : {A : Type 0} → Words A → Part A → Part A
named w p = g.rule w.spell w.fits w.begins w.may p

pub named_sound : {A : Type 0} (w : Words A) (p : Part A) → IsNamed w p → Sound p → Sound (named w p)
named_sound w p n x = g.rule_sound w.spell w.fits w.begins w.may p n.texts n.tests (implied p.begins w.begins n.wider) (implied p.may w.may n.longer) x

pub named_good : {A : Type 0} (w : Words A) (p : Part A) → IsNamed w p → (d e : ℕ) {r o : Reader A} → Good p d e r o → Good (named w p) d e r o
named_good w p n d e {r} {o} x = g.good_rule w.spell w.fits w.begins w.may p n.texts n.tests (implied p.begins w.begins n.wider) (implied p.may w.may n.longer) d e x

-- the same words, but for what begins it
abbrev pub begun : {A : Type 0} → (Class → Bool) → Part A → Words A
begun begins p = record { spell = p.spell; fits = p.fits; begins = begins; may = p.may }

-- ---- tests that always hold

pub and_true : (b : Bool) → b ≡ (b && true)
and_true true = refl
and_true false = refl

pub true_and : (b : Bool) → b ≡ (true && b)
true_and true = refl
true_and false = refl

pub and_false : (b : Bool) → (b && false) ≡ false
and_false true = refl
and_false false = refl
