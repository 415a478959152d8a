-- Statements and blocks.
use Rattle.std.proofs.Common.{◌≡◌, ℕ, suc, Bool, true, false, List, [], ◌∷◌, Option, Some, None, ◌⊎◌, inl, inr, refl, sym, ap, ◌∙◌, codes, bytes_eq}
use Rattle.std.specs.Prelude.{◌&&◌, ◌||◌, not, if◌then◌else◌}
use Rattle.std.specs.List.{flat_map}
use Rattle.std.proofs.lemmas.Bool.{cases_Bool}
use Rattle.rl_readers.proofs.Good as good
use Rattle.rl_readers.proofs.Phrases as ph
use Rattle.rl_types.specs.declared.numbers.Place.{Place}
use Rattle.rl_grammar.specs.Grammar as g
use Rattle.rl_grammar.specs.Lexeme.{Lexeme, lexeme, same_kind}
use Rattle.rl_grammar.specs.declared.token.Token.{Token}
use Rattle.rl_grammar.specs.declared.token.TokenKind.TheVariants as k
use Rattle.rl_grammar.specs.declared.syntax.Word.{Word}
use Rattle.rl_grammar.specs.declared.syntax.Syntax.{Syntax}
use Rattle.rl_grammar.specs.declared.syntax.Statement.{Statement}
use Rattle.rl_grammar.specs.declared.syntax.Statement.TheVariants as statement_is
use Rattle.rl_grammar.specs.declared.syntax.Machine.{Machine}
use Rattle.rl_grammar.specs.declared.syntax.Include.{Include}
use Rattle.rl_grammar.specs.declared.syntax.Alphtype.{Alphtype}
use Rattle.rl_grammar.specs.declared.syntax.Access.{Access}
use Rattle.rl_grammar.specs.declared.syntax.Variable.{Variable}
use Rattle.rl_grammar.specs.declared.syntax.Write.{Write}
use Rattle.rl_grammar.specs.declared.syntax.AlphabetWord.{AlphabetWord}
use Rattle.rl_grammar.specs.declared.syntax.AlphabetWord.TheVariants as alphabet
use Rattle.rl_grammar.specs.declared.syntax.WriteKind.{WriteKind}
use Rattle.rl_grammar.specs.declared.syntax.WriteKind.TheVariants as written
use Rattle.rl_grammar.specs.declared.syntax.WriteOption.{WriteOption}
use Rattle.rl_grammar.specs.declared.syntax.WriteOption.TheVariants as option
use Rattle.rl_grammar.specs.declared.syntax.Action.{Action}
use Rattle.rl_grammar.specs.declared.syntax.Definition.{Definition}
use Rattle.rl_grammar.specs.declared.syntax.DefinitionSign.{DefinitionSign}
use Rattle.rl_grammar.specs.declared.syntax.Union.{Union}
use Rattle.rl_parse.specs.Classes.{Class, class_of, tokens}
use Rattle.rl_parse.specs.Reading.{Reader}
use Rattle.rl_parse.specs.Rules as r
use Rattle.rl_parse.proofs.AllKinds.{excluded, implied}
use Rattle.rl_parse.proofs.Nodes.{Part, Good, is_end, by, is, always, none, seq, choice, maybe, list_of, Shape, IsNode, node, node_good, Words, begun, named, named_good, and_true}
use Rattle.rl_parse.proofs.Leaves.{some_token, single, place_part, place_leaf, word_part, good_word, variable_name_part, good_variable_name, unsigned_part, unsigned_begins, good_unsigned, quoted_leaf, quoted_seen, good_picked}
use Rattle.rl_parse.proofs.PartLaws as p
use Rattle.rl_parse.proofs.ExpressionLaws.{union_atom, whole_good}

-- ---- words

abbrev literal_p : Part Word
literal_p = word_part k.Literal (codes "''")

literal_good : (d e : ℕ) → Good literal_p d e (r.word k.Literal) (r.word k.Literal)
unfolding same_kind
literal_good d e = good_word k.Literal (codes "''") (λ text. refl) refl d e

abbrev text_p : Part Word
text_p = word_part k.Text (codes "a")

text_good : (d e : ℕ) → Good text_p d e (r.word k.Text) (r.word k.Text)
unfolding same_kind
text_good d e = good_word k.Text (codes "a") (λ text. refl) refl d e

optional_fits : {A : Type 0} (q : Part A) → ((a : A) → true ≡ q.fits a) → (x : Option A) → true ≡ (maybe q).fits x
optional_fits q h None = refl
optional_fits q h (Some a) = h a

name_told : (x : Option Word) → g.optional_name_text x ≡ (maybe p.name_p).spell x
name_told None = refl
name_told (Some w) = refl

abbrev optional_name_words : Words (Option Word)
optional_name_words = record { spell = g.optional_name_text; fits = always; begins = is k.Name; may = is k.Name }

abbrev optional_name_p : Part (Option Word)
optional_name_p = named optional_name_words (maybe p.name_p)

optional_name_good : (d e : ℕ) → Good optional_name_p d e r.optional_name r.optional_name
unfolding r.optional_name same_kind
optional_name_good d e = named_good optional_name_words (maybe p.name_p) (record { texts = name_told; tests = optional_fits p.name_p (λ a. refl); wider = refl; longer = refl }) d e
    (good.good_maybe p.name_p d e refl (p.name_good d e))

unsigned_told : (x : Option Place) → g.unsigned_text x ≡ (maybe unsigned_part).spell x
unsigned_told None = refl
unsigned_told (Some at) = refl

abbrev unsigned_words : Words (Option Place)
unsigned_words = record { spell = g.unsigned_text; fits = always; begins = unsigned_begins; may = unsigned_begins }

abbrev unsigned_p : Part (Option Place)
unsigned_p = named unsigned_words (maybe unsigned_part)

unsigned_good : (d e : ℕ) → Good unsigned_p d e r.unsigned r.unsigned
unfolding r.unsigned same_kind
unsigned_good d e = named_good unsigned_words (maybe unsigned_part) (record { texts = unsigned_told; tests = optional_fits unsigned_part (λ a. refl); wider = refl; longer = refl }) d e
    (good.good_maybe unsigned_part d e refl (good_unsigned d e))

-- ---- what is written

-- the words of a choice, as a test of what is seen
abbrev seen_word : List ℕ → Lexeme → Bool
seen_word text l = same_kind l.kind k.Name && bytes_eq l.text text

-- one of three words
module _ {A : Type 0} (a b c : List ℕ) (x y z : Place → A) (leaf : A → Lexeme) where
  one_of_three : ((at : Place) → leaf (x at) ≡ quoted_leaf a at) → ((at : Place) → leaf (y at) ≡ quoted_leaf b at)
      → ((at : Place) → leaf (z at) ≡ quoted_leaf c at) → (t : Token) (v : A)
      → (if r.is_word a t then Some (x t.place) else if r.is_word b t then Some (y t.place) else if r.is_word c t then Some (z t.place) else None) ≡ Some v
      → lexeme t ≡ leaf v
  one_of_three xs ys zs t v e = elim (cases_Bool (r.is_word a t)) [
    | inl h0 ↦
        let is : ◌≡◌ {A = Option A} (Some (x t.place)) (Some v) = rw (h0) at e in
        let one : x t.place ≡ v = cc in
        quoted_seen a t h0 ∙ (sym (xs t.place) ∙ ap leaf one)
    | inr h0 ↦ elim (cases_Bool (r.is_word b t)) [
      | inl h1 ↦
          let is : ◌≡◌ {A = Option A} (Some (y t.place)) (Some v) = rw (h0, h1) at e in
          let one : y t.place ≡ v = cc in
          quoted_seen b t h1 ∙ (sym (ys t.place) ∙ ap leaf one)
      | inr h1 ↦ elim (cases_Bool (r.is_word c t)) [
        | inl h2 ↦
            let is : ◌≡◌ {A = Option A} (Some (z t.place)) (Some v) = rw (h0, h1, h2) at e in
            let one : z t.place ≡ v = cc in
            quoted_seen c t h2 ∙ (sym (zs t.place) ∙ ap leaf one)
        | inr h2 ↦ (let no : ◌≡◌ {A = Option A} None (Some v) = rw (h0, h1, h2) at e in cc (no))
      ]
    ]
  ]

abbrev alphabet_word_leaf : AlphabetWord → Lexeme
alphabet_word_leaf (alphabet.Char place) = quoted_leaf (codes "char") place
alphabet_word_leaf (alphabet.Short place) = quoted_leaf (codes "short") place
alphabet_word_leaf (alphabet.Int place) = quoted_leaf (codes "int") place

abbrev seen_alphabet_word : Lexeme → Option AlphabetWord
seen_alphabet_word l =
    if seen_word (codes "char") l then Some (alphabet.Char l.place)
    else if seen_word (codes "short") l then Some (alphabet.Short l.place)
    else if seen_word (codes "int") l then Some (alphabet.Int l.place)
    else None

alphabet_word_gives : (t : Token) (a : AlphabetWord) → r.known_alphabet_word t ≡ Some a → lexeme t ≡ alphabet_word_leaf a
alphabet_word_gives t a e =
    one_of_three (codes "char") (codes "short") (codes "int") (λ at. alphabet.Char at) (λ at. alphabet.Short at) (λ at. alphabet.Int at) alphabet_word_leaf
    (λ at. refl) (λ at. refl) (λ at. refl) t a e

alphabet_word_back : (t : Token) (a : AlphabetWord) → lexeme t ≡ alphabet_word_leaf a → r.known_alphabet_word t ≡ Some a
unfolding same_kind
alphabet_word_back t (alphabet.Char place) e = ap seen_alphabet_word e
alphabet_word_back t (alphabet.Short place) e = ap seen_alphabet_word e
alphabet_word_back t (alphabet.Int place) e = ap seen_alphabet_word e

alphabet_word_told : (a : AlphabetWord) → g.alphabet_word_text a ≡ alphabet_word_leaf a ∷ []
alphabet_word_told (alphabet.Char place) = refl
alphabet_word_told (alphabet.Short place) = refl
alphabet_word_told (alphabet.Int place) = refl

abbrev alphabet_word_begins : Class → Bool
alphabet_word_begins c = same_kind c.kind k.Name && not c.unsigned

alphabet_word_begun : (a : AlphabetWord) → alphabet_word_begins (class_of (alphabet_word_leaf a)) ≡ true
unfolding same_kind
alphabet_word_begun (alphabet.Char place) = refl
alphabet_word_begun (alphabet.Short place) = refl
alphabet_word_begun (alphabet.Int place) = refl

abbrev alphabet_word_words : Words AlphabetWord
alphabet_word_words = record { spell = g.alphabet_word_text; fits = always; begins = alphabet_word_begins; may = none }

abbrev alphabet_word_part : Part AlphabetWord
alphabet_word_part =
    single (λ t. r.value_or (r.known_alphabet_word t) (alphabet.Char t.place)) alphabet_word_leaf always alphabet_word_begins (some_token k.Name (codes "char"))

abbrev alphabet_word_p : Part AlphabetWord
alphabet_word_p = named alphabet_word_words alphabet_word_part

alphabet_word_good : (d e : ℕ) → Good alphabet_word_p d e r.alphabet_word r.alphabet_word
unfolding same_kind
alphabet_word_good d e =
    named_good alphabet_word_words alphabet_word_part (record { texts = alphabet_word_told; tests = λ a. refl; wider = refl; longer = refl }) d e
    (good_picked r.known_alphabet_word (λ t. alphabet.Char t.place) alphabet_word_leaf alphabet_word_begins alphabet_word_gives alphabet_word_back
    alphabet_word_begun (some_token k.Name (codes "char")) refl (excluded alphabet_word_begins is_end refl) d e)

abbrev write_kind_leaf : WriteKind → Lexeme
write_kind_leaf (written.Data place) = quoted_leaf (codes "data") place
write_kind_leaf (written.Init place) = quoted_leaf (codes "init") place
write_kind_leaf (written.Exec place) = quoted_leaf (codes "exec") place

abbrev seen_write_kind : Lexeme → Option WriteKind
seen_write_kind l =
    if seen_word (codes "data") l then Some (written.Data l.place)
    else if seen_word (codes "init") l then Some (written.Init l.place)
    else if seen_word (codes "exec") l then Some (written.Exec l.place)
    else None

write_kind_gives : (t : Token) (a : WriteKind) → r.known_write_kind t ≡ Some a → lexeme t ≡ write_kind_leaf a
write_kind_gives t a e =
    one_of_three (codes "data") (codes "init") (codes "exec") (λ at. written.Data at) (λ at. written.Init at) (λ at. written.Exec at) write_kind_leaf
    (λ at. refl) (λ at. refl) (λ at. refl) t a e

write_kind_back : (t : Token) (a : WriteKind) → lexeme t ≡ write_kind_leaf a → r.known_write_kind t ≡ Some a
unfolding same_kind
write_kind_back t (written.Data place) e = ap seen_write_kind e
write_kind_back t (written.Init place) e = ap seen_write_kind e
write_kind_back t (written.Exec place) e = ap seen_write_kind e

write_kind_told : (a : WriteKind) → g.write_kind_text a ≡ write_kind_leaf a ∷ []
write_kind_told (written.Data place) = refl
write_kind_told (written.Init place) = refl
write_kind_told (written.Exec place) = refl

write_kind_begun : (a : WriteKind) → is k.Name (record { kind = (write_kind_leaf a).kind; unsigned = false; key = false }) ≡ true
unfolding same_kind
write_kind_begun (written.Data place) = refl
write_kind_begun (written.Init place) = refl
write_kind_begun (written.Exec place) = refl

abbrev write_kind_words : Words WriteKind
write_kind_words = record { spell = g.write_kind_text; fits = always; begins = is k.Name; may = none }

abbrev write_kind_part : Part WriteKind
write_kind_part = single (λ t. r.value_or (r.known_write_kind t) (written.Data t.place)) write_kind_leaf always (is k.Name) (some_token k.Name (codes "data"))

abbrev write_kind_p : Part WriteKind
write_kind_p = named write_kind_words write_kind_part

write_kind_good : (d e : ℕ) → Good write_kind_p d e r.write_kind r.write_kind
unfolding same_kind
write_kind_good d e = named_good write_kind_words write_kind_part (record { texts = write_kind_told; tests = λ a. refl; wider = refl; longer = refl }) d e
    (good_picked r.known_write_kind (λ t. written.Data t.place) write_kind_leaf (is k.Name) write_kind_gives write_kind_back write_kind_begun (some_token k.Name (codes "data")) refl (excluded (is k.Name) is_end refl) d e)

abbrev write_option_leaf : WriteOption → Lexeme
write_option_leaf (option.NoError place) = quoted_leaf (codes "noerror") place
write_option_leaf (option.NoFinal place) = quoted_leaf (codes "nofinal") place

abbrev seen_write_option : Lexeme → Option WriteOption
seen_write_option l =
    if seen_word (codes "noerror") l then Some (option.NoError l.place)
    else if seen_word (codes "nofinal") l then Some (option.NoFinal l.place)
    else None

write_option_gives : (t : Token) (a : WriteOption) → r.known_write_option t ≡ Some a → lexeme t ≡ write_option_leaf a
write_option_gives t a e = elim (cases_Bool (r.is_word (codes "noerror") t)) [
  | inl h0 ↦
      let is : ◌≡◌ {A = Option WriteOption} (Some (option.NoError t.place)) (Some a) = rw (h0) at e in
      let one : option.NoError t.place ≡ a = cc in
      quoted_seen (codes "noerror") t h0 ∙ ap write_option_leaf one
  | inr h0 ↦ elim (cases_Bool (r.is_word (codes "nofinal") t)) [
    | inl h1 ↦
        let is : ◌≡◌ {A = Option WriteOption} (Some (option.NoFinal t.place)) (Some a) = rw (h0, h1) at e in
        let one : option.NoFinal t.place ≡ a = cc in
        quoted_seen (codes "nofinal") t h1 ∙ ap write_option_leaf one
    | inr h1 ↦ (let no : ◌≡◌ {A = Option WriteOption} None (Some a) = rw (h0, h1) at e in cc (no))
  ]
]

write_option_back : (t : Token) (a : WriteOption) → lexeme t ≡ write_option_leaf a → r.known_write_option t ≡ Some a
unfolding same_kind
write_option_back t (option.NoError place) e = ap seen_write_option e
write_option_back t (option.NoFinal place) e = ap seen_write_option e

write_option_told : (a : WriteOption) → g.write_option_text a ≡ write_option_leaf a ∷ []
write_option_told (option.NoError place) = refl
write_option_told (option.NoFinal place) = refl

write_option_begun : (a : WriteOption) → is k.Name (record { kind = (write_option_leaf a).kind; unsigned = false; key = false }) ≡ true
unfolding same_kind
write_option_begun (option.NoError place) = refl
write_option_begun (option.NoFinal place) = refl

abbrev write_option_words : Words WriteOption
write_option_words = record { spell = g.write_option_text; fits = always; begins = is k.Name; may = none }

abbrev write_option_part : Part WriteOption
write_option_part = single (λ t. r.value_or (r.known_write_option t) (option.NoError t.place)) write_option_leaf always (is k.Name) (some_token k.Name (codes "noerror"))

abbrev write_option_p : Part WriteOption
write_option_p = named write_option_words write_option_part

write_option_good : (d e : ℕ) → Good write_option_p d e r.write_option r.write_option
unfolding same_kind
write_option_good d e = named_good write_option_words write_option_part (record { texts = write_option_told; tests = λ a. refl; wider = refl; longer = refl }) d e
    (good_picked r.known_write_option (λ t. option.NoError t.place) write_option_leaf (is k.Name) write_option_gives write_option_back write_option_begun (some_token k.Name (codes "noerror")) refl (excluded (is k.Name) is_end refl) d e)

all_always : {A : Type 0} (xs : List A) → true ≡ ph.all_fit tokens always xs
all_always [] = refl
all_always (x ∷ xs) = all_always xs

abbrev write_options_words : Words (List WriteOption)
write_options_words = record { spell = flat_map g.write_option_text; fits = always; begins = by r.is_name; may = by r.is_name }

abbrev write_option_named : Part WriteOption
write_option_named = named (begun (by r.is_name) write_option_p) write_option_p

write_option_named_good : (d e : ℕ) → Good write_option_named d e r.write_option r.write_option
unfolding same_kind
write_option_named_good d e = named_good (begun (by r.is_name) write_option_p) write_option_p (record { texts = λ c. refl; tests = λ c. refl; wider = refl; longer = refl }) d e (write_option_good d e)

abbrev write_options_p : Part (List WriteOption)
write_options_p = named write_options_words (list_of write_option_named)

write_options_good : (d e : ℕ) → Good write_options_p d e r.write_options r.write_options
unfolding r.write_options same_kind
write_options_good d e = named_good write_options_words (list_of write_option_named) (record { texts = λ c. refl; tests = all_always; wider = refl; longer = refl }) d e
    (good.good_list write_option_named d e refl (write_option_named_good d e) (excluded write_option_named.begins write_option_named.may refl))

-- ---- statements

abbrev machine_parts : Part (Place × (Word × Place))
machine_parts = seq (place_part k.Machine) (seq p.name_p (place_part k.Semicolon))

abbrev machine_shape : Shape (Place × (Word × Place)) Machine
machine_shape = record { to = r.machine_of; back = λ c. (c.start, (c.name, c.semicolon)); spell = g.machine_text; fits = always; begins = is k.Machine; may = none }

machine_shaped : IsNode machine_shape machine_parts
unfolding same_kind
machine_shaped = record { there = λ a h. refl; again = λ c h. refl; texts = λ c. refl; tests = λ c. refl; wider = refl; longer = refl }

abbrev pub machine_p : Part Machine
machine_p = node machine_shape machine_parts

pub machine_good : (d e : ℕ) → Good machine_p d e r.machine r.machine
unfolding r.machine same_kind
machine_good d e = node_good machine_shape machine_parts machine_shaped d e
    (good.good_seq (place_part k.Machine) (seq p.name_p (place_part k.Semicolon)) d e (p.at_Machine d e) (good.good_seq p.name_p (place_part k.Semicolon) d e (p.name_good d e) (p.at_Semicolon d e) (excluded (place_part k.Semicolon).begins p.name_p.may refl)) (excluded (seq p.name_p (place_part k.Semicolon)).begins (place_part k.Machine).may refl))

abbrev inclusion_parts : Part (Place × (Option Word × (Word × Place)))
inclusion_parts = seq (place_part k.Include) (seq optional_name_p (seq literal_p (place_part k.Semicolon)))

abbrev inclusion_shape : Shape (Place × (Option Word × (Word × Place))) Include
inclusion_shape = record { to = r.include_of; back = λ c. (c.start, (c.machine, (c.file, c.semicolon))); spell = g.include_text; fits = always; begins = is k.Include; may = none }

inclusion_shaped : IsNode inclusion_shape inclusion_parts
unfolding same_kind
inclusion_shaped = record { there = λ a h. refl; again = λ c h. refl; texts = λ c. refl; tests = λ c. refl; wider = refl; longer = refl }

abbrev pub inclusion_p : Part Include
inclusion_p = node inclusion_shape inclusion_parts

pub inclusion_good : (d e : ℕ) → Good inclusion_p d e r.inclusion r.inclusion
unfolding r.inclusion same_kind
inclusion_good d e = node_good inclusion_shape inclusion_parts inclusion_shaped d e
    (good.good_seq (place_part k.Include) (seq optional_name_p (seq literal_p (place_part k.Semicolon))) d e (p.at_Include d e) (good.good_seq optional_name_p (seq literal_p (place_part k.Semicolon)) d e (optional_name_good d e) (good.good_seq literal_p (place_part k.Semicolon) d e (literal_good d e) (p.at_Semicolon d e) (excluded (place_part k.Semicolon).begins literal_p.may refl)) (excluded (seq literal_p (place_part k.Semicolon)).begins optional_name_p.may refl)) (excluded (seq optional_name_p (seq literal_p (place_part k.Semicolon))).begins (place_part k.Include).may refl))

abbrev alphtype_parts : Part (Place × (Option Place × (AlphabetWord × Place)))
alphtype_parts = seq (place_part k.Alphtype) (seq unsigned_p (seq alphabet_word_p (place_part k.Semicolon)))

abbrev alphtype_shape : Shape (Place × (Option Place × (AlphabetWord × Place))) Alphtype
alphtype_shape = record { to = r.alphtype_of; back = λ c. (c.start, (c.unsigned, (c.word, c.semicolon))); spell = g.alphtype_text; fits = always; begins = is k.Alphtype; may = none }

alphtype_shaped : IsNode alphtype_shape alphtype_parts
unfolding same_kind
alphtype_shaped = record { there = λ a h. refl; again = λ c h. refl; texts = λ c. refl; tests = λ c. refl; wider = refl; longer = refl }

abbrev pub alphtype_p : Part Alphtype
alphtype_p = node alphtype_shape alphtype_parts

pub alphtype_good : (d e : ℕ) → Good alphtype_p d e r.alphtype r.alphtype
unfolding r.alphtype same_kind
alphtype_good d e = node_good alphtype_shape alphtype_parts alphtype_shaped d e
    (good.good_seq (place_part k.Alphtype) (seq unsigned_p (seq alphabet_word_p (place_part k.Semicolon))) d e (p.at_Alphtype d e)
    (good.good_seq unsigned_p (seq alphabet_word_p (place_part k.Semicolon)) d e (unsigned_good d e)
    (good.good_seq alphabet_word_p (place_part k.Semicolon) d e (alphabet_word_good d e) (p.at_Semicolon d e) (excluded (place_part k.Semicolon).begins alphabet_word_p.may refl))
    (excluded (seq alphabet_word_p (place_part k.Semicolon)).begins unsigned_p.may refl))
    (excluded (seq unsigned_p (seq alphabet_word_p (place_part k.Semicolon))).begins (place_part k.Alphtype).may refl))

abbrev access_parts : Part (Place × (Word × Place))
access_parts = seq (place_part k.Access) (seq text_p (place_part k.Semicolon))

abbrev access_shape : Shape (Place × (Word × Place)) Access
access_shape = record { to = r.access_of; back = λ c. (c.start, (c.text, c.semicolon)); spell = g.access_text; fits = always; begins = is k.Access; may = none }

access_shaped : IsNode access_shape access_parts
unfolding same_kind
access_shaped = record { there = λ a h. refl; again = λ c h. refl; texts = λ c. refl; tests = λ c. refl; wider = refl; longer = refl }

abbrev pub access_p : Part Access
access_p = node access_shape access_parts

pub access_good : (d e : ℕ) → Good access_p d e r.access r.access
unfolding r.access same_kind
access_good d e = node_good access_shape access_parts access_shaped d e
    (good.good_seq (place_part k.Access) (seq text_p (place_part k.Semicolon)) d e (p.at_Access d e) (good.good_seq text_p (place_part k.Semicolon) d e (text_good d e) (p.at_Semicolon d e) (excluded (place_part k.Semicolon).begins text_p.may refl)) (excluded (seq text_p (place_part k.Semicolon)).begins (place_part k.Access).may refl))

abbrev variable_parts : Part (Place × (Word × (Word × Place)))
variable_parts = seq (place_part k.Variable) (seq variable_name_part (seq text_p (place_part k.Semicolon)))

abbrev variable_shape : Shape (Place × (Word × (Word × Place))) Variable
variable_shape = record { to = r.variable_of; back = λ c. (c.start, (c.name, (c.text, c.semicolon))); spell = g.variable_text; fits = (λ s. g.is_variable s.name.text); begins = is k.Variable; may = none }

variable_shaped : IsNode variable_shape variable_parts
unfolding same_kind
variable_shaped = record { there = λ a h. refl; again = λ c h. refl; texts = λ c. refl; tests = λ c. and_true (g.is_variable c.name.text); wider = refl; longer = refl }

abbrev pub variable_p : Part Variable
variable_p = node variable_shape variable_parts

pub variable_good : (d e : ℕ) → Good variable_p d e r.variable r.variable
unfolding r.variable same_kind
variable_good d e = node_good variable_shape variable_parts variable_shaped d e
    (good.good_seq (place_part k.Variable) (seq variable_name_part (seq text_p (place_part k.Semicolon))) d e (p.at_Variable d e) (good.good_seq variable_name_part (seq text_p (place_part k.Semicolon)) d e (good_variable_name d e) (good.good_seq text_p (place_part k.Semicolon) d e (text_good d e) (p.at_Semicolon d e) (excluded (place_part k.Semicolon).begins text_p.may refl)) (excluded (seq text_p (place_part k.Semicolon)).begins variable_name_part.may refl)) (excluded (seq variable_name_part (seq text_p (place_part k.Semicolon))).begins (place_part k.Variable).may refl))

abbrev write_parts : Part (Place × (WriteKind × (List WriteOption × Place)))
write_parts = seq (place_part k.Write) (seq write_kind_p (seq write_options_p (place_part k.Semicolon)))

abbrev write_shape : Shape (Place × (WriteKind × (List WriteOption × Place))) Write
write_shape = record { to = r.write_of; back = λ c. (c.start, (c.what, (c.options, c.semicolon))); spell = g.write_text; fits = always; begins = is k.Write; may = none }

write_shaped : IsNode write_shape write_parts
unfolding same_kind
write_shaped = record { there = λ a h. refl; again = λ c h. refl; texts = λ c. refl; tests = λ c. refl; wider = refl; longer = refl }

abbrev pub write_p : Part Write
write_p = node write_shape write_parts

pub write_good : (d e : ℕ) → Good write_p d e r.write r.write
unfolding r.write same_kind
write_good d e = node_good write_shape write_parts write_shaped d e
    (good.good_seq (place_part k.Write) (seq write_kind_p (seq write_options_p (place_part k.Semicolon))) d e (p.at_Write d e) (good.good_seq write_kind_p (seq write_options_p (place_part k.Semicolon)) d e (write_kind_good d e) (good.good_seq write_options_p (place_part k.Semicolon) d e (write_options_good d e) (p.at_Semicolon d e) (excluded (place_part k.Semicolon).begins write_options_p.may refl)) (excluded (seq write_options_p (place_part k.Semicolon)).begins write_kind_p.may refl)) (excluded (seq write_kind_p (seq write_options_p (place_part k.Semicolon))).begins (place_part k.Write).may refl))

abbrev action_parts : Part (Place × (Word × Word))
action_parts = seq (place_part k.Action) (seq p.name_p p.code_p)

abbrev action_shape : Shape (Place × (Word × Word)) Action
action_shape = record { to = r.action_statement_of; back = λ c. (c.start, (c.name, c.code)); spell = g.action_text; fits = always; begins = is k.Action; may = none }

action_shaped : IsNode action_shape action_parts
unfolding same_kind
action_shaped = record { there = λ a h. refl; again = λ c h. refl; texts = λ c. refl; tests = λ c. refl; wider = refl; longer = refl }

abbrev pub action_p : Part Action
action_p = node action_shape action_parts

pub action_good : (d e : ℕ) → Good action_p d e r.action_statement r.action_statement
unfolding r.action_statement same_kind
action_good d e = node_good action_shape action_parts action_shaped d e
    (good.good_seq (place_part k.Action) (seq p.name_p p.code_p) d e (p.at_Action d e) (good.good_seq p.name_p p.code_p d e (p.name_good d e) (p.code_good d e) (excluded p.code_p.begins p.name_p.may refl)) (excluded (seq p.name_p p.code_p).begins (place_part k.Action).may refl))

abbrev definition_parts : Part (Word × (DefinitionSign × (Union × Place)))
definition_parts = seq p.name_p (seq p.definition_sign_p (seq union_atom (place_part k.Semicolon)))

abbrev definition_shape : Shape (Word × (DefinitionSign × (Union × Place))) Definition
definition_shape = record { to = r.defined_of; back = λ c. (c.name, (c.sign, (c.value, c.semicolon))); spell = g.definition_text; fits = λ c. g.union_fits c.value; begins = is k.Name; may = none }

definition_shaped : IsNode definition_shape definition_parts
unfolding same_kind
definition_shaped = record { there = λ a h. refl; again = λ c h. refl; texts = λ c. refl; tests = λ c. and_true (g.union_fits c.value); wider = refl; longer = refl }

abbrev definition_p : Part Definition
definition_p = node definition_shape definition_parts

definition_good : (d e : ℕ) → Good definition_p (suc d) (suc e) (r.defined d) (r.defined e)
unfolding r.defined same_kind
definition_good d e = node_good definition_shape definition_parts definition_shaped (suc d) (suc e)
    (good.good_seq p.name_p (seq p.definition_sign_p (seq union_atom (place_part k.Semicolon))) (suc d) (suc e) (p.name_good (suc d) (suc e))
    (good.good_seq p.definition_sign_p (seq union_atom (place_part k.Semicolon)) (suc d) (suc e) (p.definition_sign_good (suc d) (suc e))
    (good.good_seq union_atom (place_part k.Semicolon) (suc d) (suc e) (whole_good d e) (p.at_Semicolon (suc d) (suc e)) (excluded (place_part k.Semicolon).begins union_atom.may refl))
    (excluded (seq union_atom (place_part k.Semicolon)).begins p.definition_sign_p.may refl))
    (excluded (seq p.definition_sign_p (seq union_atom (place_part k.Semicolon))).begins p.name_p.may refl))

abbrev Choice : Type 0
Choice = Machine ⊎ (Include ⊎ (Alphtype ⊎ (Access ⊎ (Variable ⊎ (Write ⊎ (Action ⊎ (Definition)))))))

abbrev statement_split : Statement → Choice
statement_split (statement_is.Machine s) = inl s
statement_split (statement_is.Include s) = inr (inl s)
statement_split (statement_is.Alphtype s) = inr (inr (inl s))
statement_split (statement_is.Access s) = inr (inr (inr (inl s)))
statement_split (statement_is.Variable s) = inr (inr (inr (inr (inl s))))
statement_split (statement_is.Write s) = inr (inr (inr (inr (inr (inl s)))))
statement_split (statement_is.Action s) = inr (inr (inr (inr (inr (inr (inl s))))))
statement_split (statement_is.Definition s) = inr (inr (inr (inr (inr (inr (inr s))))))

statement_there : (a : Choice) → statement_split (r.statement_of a) ≡ a
statement_there (inl s) = refl
statement_there (inr (inl s)) = refl
statement_there (inr (inr (inl s))) = refl
statement_there (inr (inr (inr (inl s)))) = refl
statement_there (inr (inr (inr (inr (inl s))))) = refl
statement_there (inr (inr (inr (inr (inr (inl s)))))) = refl
statement_there (inr (inr (inr (inr (inr (inr (inl s))))))) = refl
statement_there (inr (inr (inr (inr (inr (inr (inr s))))))) = refl

statement_back : (c : Statement) → r.statement_of (statement_split c) ≡ c
statement_back (statement_is.Machine s) = refl
statement_back (statement_is.Include s) = refl
statement_back (statement_is.Alphtype s) = refl
statement_back (statement_is.Access s) = refl
statement_back (statement_is.Variable s) = refl
statement_back (statement_is.Write s) = refl
statement_back (statement_is.Action s) = refl
statement_back (statement_is.Definition s) = refl

abbrev statement_parts : Part Choice
statement_parts = choice machine_p (choice inclusion_p (choice alphtype_p (choice access_p (choice variable_p (choice write_p (choice action_p definition_p))))))

statement_told : (c : Statement) → g.statement_text c ≡ statement_parts.spell (statement_split c)
statement_told (statement_is.Machine s) = refl
statement_told (statement_is.Include s) = refl
statement_told (statement_is.Alphtype s) = refl
statement_told (statement_is.Access s) = refl
statement_told (statement_is.Variable s) = refl
statement_told (statement_is.Write s) = refl
statement_told (statement_is.Action s) = refl
statement_told (statement_is.Definition s) = refl

statement_fit : (c : Statement) → g.statement_fits c ≡ statement_parts.fits (statement_split c)
statement_fit (statement_is.Machine s) = refl
statement_fit (statement_is.Include s) = refl
statement_fit (statement_is.Alphtype s) = refl
statement_fit (statement_is.Access s) = refl
statement_fit (statement_is.Variable s) = refl
statement_fit (statement_is.Write s) = refl
statement_fit (statement_is.Action s) = refl
statement_fit (statement_is.Definition s) = refl

abbrev statement_shape : Shape Choice Statement
statement_shape = record { to = r.statement_of; back = statement_split; spell = g.statement_text; fits = g.statement_fits; begins = by r.begins_statement; may = none }

statement_shaped : IsNode statement_shape statement_parts
unfolding same_kind
statement_shaped = record { there = λ a h. statement_there a; again = λ c h. statement_back c; texts = statement_told; tests = statement_fit; wider = refl; longer = refl }

abbrev pub statement_p : Part Statement
statement_p = node statement_shape statement_parts

statement_good : (d e : ℕ) → Good statement_p (suc d) (suc e) (r.one_statement d) (r.one_statement e)
unfolding r.one_statement same_kind
statement_good d e = node_good statement_shape statement_parts statement_shaped (suc d) (suc e)
    (good.good_choice machine_p (choice inclusion_p (choice alphtype_p (choice access_p (choice variable_p (choice write_p (choice action_p definition_p)))))) (suc d) (suc e) refl refl (machine_good (suc d) (suc e))
    (good.good_choice inclusion_p (choice alphtype_p (choice access_p (choice variable_p (choice write_p (choice action_p definition_p))))) (suc d) (suc e) refl refl (inclusion_good (suc d) (suc e))
    (good.good_choice alphtype_p (choice access_p (choice variable_p (choice write_p (choice action_p definition_p)))) (suc d) (suc e) refl refl (alphtype_good (suc d) (suc e))
    (good.good_choice access_p (choice variable_p (choice write_p (choice action_p definition_p))) (suc d) (suc e) refl refl (access_good (suc d) (suc e))
    (good.good_choice variable_p (choice write_p (choice action_p definition_p)) (suc d) (suc e) refl refl (variable_good (suc d) (suc e))
    (good.good_choice write_p (choice action_p definition_p) (suc d) (suc e) refl refl (write_good (suc d) (suc e))
    (good.good_choice action_p definition_p (suc d) (suc e) refl refl (action_good (suc d) (suc e))
    (definition_good d e) (excluded definition_p.begins action_p.begins refl)) (excluded (choice action_p definition_p).begins write_p.begins refl)) (excluded (choice write_p (choice action_p definition_p)).begins variable_p.begins refl)) (excluded (choice variable_p (choice write_p (choice action_p definition_p))).begins access_p.begins refl)) (excluded (choice access_p (choice variable_p (choice write_p (choice action_p definition_p)))).begins alphtype_p.begins refl)) (excluded (choice alphtype_p (choice access_p (choice variable_p (choice write_p (choice action_p definition_p))))).begins inclusion_p.begins refl)) (excluded (choice inclusion_p (choice alphtype_p (choice access_p (choice variable_p (choice write_p (choice action_p definition_p)))))).begins machine_p.begins refl))

abbrev pub statements_p : Part (List Statement)
statements_p = list_of statement_p

pub statements_good : (d e : ℕ) → Good statements_p (suc d) (suc e) (r.statements d) (r.statements e)
unfolding r.statements same_kind
statements_good d e = good.good_list statement_p (suc d) (suc e) refl (statement_good d e) (excluded statement_p.begins statement_p.may refl)

-- ---- a block

abbrev pub WholeGood : {A : Type 0} → Part A → ℕ → ℕ → Reader A → Reader A → Type 0
WholeGood q d e x y = good.Good tokens none q d e x y

abbrev block_parts : Part (List Statement × Place)
block_parts = seq statements_p (place_part k.End)

abbrev block_begins : Class → Bool
block_begins c = r.begins_statement c.kind || same_kind c.kind k.End

abbrev block_shape : Shape (List Statement × Place) Syntax
block_shape = record { to = r.block_of; back = λ s. (s.statements, s.end); spell = g.spell; fits = g.fits; begins = block_begins; may = by r.begins_statement }

and_inside : (a b : Bool) → (a && (b && true)) ≡ ((a && b) && true)
and_inside true b = refl
and_inside false b = refl

all_statements : (xs : List Statement) → g.all_statements_fit xs ≡ (ph.all_fit tokens g.statement_fits xs && true)
all_statements [] = refl
all_statements (x ∷ xs) = ap (λ z. g.statement_fits x && z) (all_statements xs) ∙ and_inside (g.statement_fits x) (ph.all_fit tokens g.statement_fits xs)

block_shaped : IsNode block_shape block_parts
unfolding same_kind
block_shaped = record { there = λ a h. refl; again = λ c h. refl; texts = λ c. refl; tests = λ c. all_statements c.statements; wider = refl; longer = refl }

abbrev pub block_p : Part Syntax
block_p = node block_shape block_parts

end_good : (d e : ℕ) → WholeGood (place_part k.End) d e (r.place k.End) (r.place k.End)
unfolding same_kind
end_good d e = good.good_single (r.is k.End) r.place_of (λ a. record { kind = k.End; text = []; place = a }) always (is k.End) (some_token k.End []) (place_leaf k.End (λ text. refl)) refl (λ c h. refl) d e

pub block_good : (d e : ℕ) → WholeGood block_p (suc d) (suc e) (r.block d) (r.block e)
unfolding r.block same_kind
block_good d e =
    good.good_rule g.spell g.fits block_begins (by r.begins_statement) (ph.viewed tokens r.block_of (λ s. (s.statements, s.end)) block_parts) block_shaped.texts block_shaped.tests
    (implied block_parts.begins block_begins block_shaped.wider) (implied block_parts.may (by r.begins_statement) block_shaped.longer) (suc d) (suc e)
    (good.good_viewed r.block_of (λ s. (s.statements, s.end)) block_parts (λ a h. refl) (λ c h. refl) (suc d) (suc e)
    (good.good_seq statements_p (place_part k.End) (suc d) (suc e) (good.good_any (statements_good d e)) (end_good (suc d) (suc e)) (excluded (place_part k.End).begins statements_p.may refl)))
