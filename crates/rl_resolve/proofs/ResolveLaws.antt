-- A source has one outcome, where the store tells what it holds and does not fail.
use Rattle.std.proofs.Common.{◌≡◌, ℕ, List, [], ◌∷◌, Result, Ok, Err, refl, sym, ap, ◌∙◌}
use Rattle.std.specs.Prelude.{map, IsSome}
use Rattle.rl_types.specs.declared.numbers.ActionId.{ActionId}
use Rattle.rl_grammar.specs.declared.syntax.Syntax.{Syntax}
use Rattle.rl_io.specs.Outside.{Held}
use Rattle.rl_model.specs.Specification.{Entry, Specification, entry_of, action_of, specification_of}
use Rattle.rl_model.specs.declared.spec.Entry as rust
use Rattle.rl_model.specs.declared.spec.Spec.{Spec}
use Rattle.rl_includes.specs.Unrolling.{IsFailure}
use Rattle.rl_includes.specs.declared.unrolled.Unrolled.{Unrolled}
use Rattle.rl_draft.specs.declared.draft.Draft.{Draft}
use Rattle.rl_rewrite.specs.Entries.{Made, made_of}
use Rattle.rl_resolve.specs.Answers.{Comes, Resolves, IsDue}
use Rattle.rl_resolve.specs.Descriptions.{Description, description, described}
use Rattle.rl_resolve.specs.Resolving.{outcome}
use Rattle.rl_resolve.specs.declared.answer.ResolveFault.{ResolveFault}
use Rattle.rl_resolve.specs.declared.answer.Runs.{Runs}
use Rattle.rl_resolve.proofs.OutcomeLaws.{accepted_unfailed}

same_ok : (a b : List Draft) → ◌≡◌ {A = Result (List Draft) ResolveFault} (Ok a) (Ok b) → a ≡ b
same_ok a b h = cc

same_err : (a b : ResolveFault) → ◌≡◌ {A = Result (List Draft) ResolveFault} (Err a) (Err b) → a ≡ b
same_err a b h = cc

ok_or_err : (a : List Draft) (e : ResolveFault) → ◌≡◌ {A = Result (List Draft) ResolveFault} (Ok a) (Err e) → ⊥
ok_or_err a e h = cc

module _ (held : Held) (file : List ℕ) (blocks : List Syntax) (which : Runs) where
  same_unrolled : (u v : Unrolled) → IsSome held → Comes held file blocks u → Comes held file blocks v → (IsFailure u.stop → ⊥) → (IsFailure v.stop → ⊥) → u ≡ v
  same_unrolled u v tells h k m n = h.only v tells k.unrolls n m

  unfailed : (specs : List Spec) → (h : Resolves held file blocks which specs) → IsFailure h.unrolled.stop → ⊥
  unfailed specs h f = accepted_unfailed which h.unrolled h.drafts h.accepted f

  -- it has one first refusal
  pub due_once : (a b : ResolveFault) → IsSome held → IsDue held file blocks which a → IsDue held file blocks which b → a ≡ b
  due_once a b tells h k =
      let same = same_unrolled h.unrolled k.unrolled tells h.comes k.comes h.unfailed k.unfailed in
      same_err a b (sym h.refused ∙ (ap (outcome which) same ∙ k.refused))

  -- it has Specs or a refusal
  pub resolved_or_due : (specs : List Spec) (e : ResolveFault) → IsSome held → Resolves held file blocks which specs → IsDue held file blocks which e → ⊥
  resolved_or_due specs e tells h k =
      let same = same_unrolled h.unrolled k.unrolled tells h.comes k.comes (unfailed specs h) k.unfailed in
      ok_or_err h.drafts e (sym h.accepted ∙ (ap (outcome which) same ∙ k.refused))

  -- its Specs say one thing
  pub resolved_once : (a b : List Spec) → IsSome held → Resolves held file blocks which a → Resolves held file blocks which b → map description a ≡ map description b
  resolved_once a b tells h k =
      let same = same_unrolled h.unrolled k.unrolled tells h.comes k.comes (unfailed a h) (unfailed b k) in
      let drafts = same_ok h.drafts k.drafts (sym h.accepted ∙ (ap (outcome which) same ∙ k.accepted)) in
      h.described_by ∙ (ap (λ z. map (described z.files) h.drafts) same ∙ (ap (map (described k.unrolled.files)) drafts ∙ sym k.described_by))

-- ---- what a Spec says gives its specification

abbrev entry_said : Made → Entry
entry_said m = record { name = m.name; root = m.root }

entries_said : (es : List rust.Entry) → map entry_of es ≡ map entry_said (map made_of es)
entries_said [] = refl
entries_said (e ∷ es) = ap (λ z. entry_of e ∷ z) (entries_said es)

abbrev said : Description → Specification
said d = record { alphabet = d.alphabet; entries = map entry_said d.entries; actions = map action_of d.actions; conditions = map (λ (a : ActionId). a.0) d.conditions }

said_of : (spec : Spec) → specification_of spec ≡ said (description spec)
said_of spec = ap (λ z. record { alphabet = spec.alphabet; entries = z; actions = map action_of spec.actions; conditions = map (λ (a : ActionId). a.0) spec.conds }) (entries_said spec.entries)

pub same_specification : (a b : Spec) → description a ≡ description b → specification_of a ≡ specification_of b
same_specification a b h = said_of a ∙ (ap said h ∙ sym (said_of b))

-- the same of the first of some Specs
pub same_first : (a b : Spec) (xs ys : List Spec) → map description (a ∷ xs) ≡ map description (b ∷ ys) → description a ≡ description b
same_first a b xs ys h = heads (description a) (description b) (map description xs) (map description ys) h
  where
    heads : (x y : Description) (xs ys : List Description) → x ∷ xs ≡ y ∷ ys → x ≡ y
    heads x y xs ys h = cc
