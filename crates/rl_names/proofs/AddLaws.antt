-- One more definition behind others.
use Rattle.std.proofs.Common.{◌≡◌, false, cond, List, [], ◌∷◌, ◌++◌, Result, Ok, Err, MatchResult, sym, ap, ◌∙◌, subst}
use Rattle.std.specs.List.{list_any}
use Rattle.std.specs.Str.{bytes_eq}
use Rattle.std.proofs.lemmas.List.{map-append}
use Rattle.rl_types.specs.declared.faults.FaultKind.TheVariants.{F6}
use Rattle.rl_grammar.specs.declared.read_fault.ReadFault.{ReadFault}
use Rattle.rl_grammar.specs.declared.read_fault.ReadFault.TheVariants as reason
use Rattle.rl_grammar.specs.declared.syntax.Definition.{Definition as Written}
use Rattle.rl_draft.specs.declared.draft.Definition.{Definition}
use Rattle.rl_draft.specs.declared.draft.Value.{Value}
use Rattle.rl_names.specs.Answers.{and_then, Explains}
use Rattle.rl_names.specs.Drafts.{names_of, scope_behind, definition_read, definition_behind, value_read, sign_of}
use Rattle.rl_names.specs.Expressions.{Scope}
use Rattle.rl_names.specs.Frames.{with_name}
use Rattle.rl_names.specs.Leaves.{fault_at}

abbrev defined : Written → Value → Definition
defined d v = record { name = d.name.text; place = d.name.place; sign = sign_of d.sign; value = v }

named_by : (d : Written) (r : Result Value ReadFault) (x : Definition) → and_then r (λ v. Ok (defined d v)) ≡ Ok x → x.name ≡ d.name.text
named_by d (Ok v) x e = let same : defined d v ≡ x = cc in sym (ap (λ (y : Definition). y.name) same)
named_by d (Err f) x e = absurd (cc)

-- a definition whose name is new
pub added : (k : Scope) (earlier : List Definition) (d : Written) (x : Definition) → list_any (bytes_eq d.name.text) (names_of earlier) ≡ false
    → definition_read (scope_behind k (names_of earlier) earlier d.name.text) d ≡ Ok x → definition_behind k earlier d ≡ Ok (earlier ++ x ∷ [])
added k earlier d x miss read =
    ap (λ z. cond z (Err (fault_at F6 d.name.place)) (and_then (definition_read (scope_behind k (names_of earlier) earlier d.name.text) d) (λ y. Ok (earlier ++ y ∷ [])))) miss
    ∙ ap (λ z. and_then z (λ y. Ok (earlier ++ y ∷ []))) read

pub names_added : (k : Scope) (earlier : List Definition) (d : Written) (x : Definition) → list_any (bytes_eq d.name.text) (names_of earlier) ≡ false → definition_read k d ≡ Ok x
    → with_name (names_of earlier) d.name.text ≡ names_of (earlier ++ x ∷ [])
names_added k earlier d x miss read =
    ap (λ z. cond z (names_of earlier) (names_of earlier ++ d.name.text ∷ [])) miss
    ∙ (ap (λ z. names_of earlier ++ z ∷ []) (sym (named_by d (value_read k d.value) x read)) ∙ sym (map-append (λ (y : Definition). y.name) earlier (x ∷ [])))

pub pushed : {P Q : Type 0} (whole : Result (List Definition) ReadFault) (answer : Result (Unit {0}) ReadFault) → MatchResult answer (λ done. P) (λ e. e ≡ reason.Memory) → (P → Q)
    → MatchResult answer (λ done. Q) (Explains whole)
pushed whole (Ok done) h f = f h
pushed whole (Err e) h f = subst (Explains whole) (sym h) tt
